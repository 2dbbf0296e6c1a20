use mathlib.Core.Path.{sym, subst, ◌∙◌}
use mathlib.Core.List.{reverse}
use native.Mathlib.Omega.{arith}
use lib.ListN.{length-append, length-reverse}
use Rattle.std.proofs.Common.{length}
use Rattle.std.proofs.lemmas.Iterator.Adapters.{YieldsList-from_rev_slice}
use Rattle.std.proofs.lemmas.Iterator.Consumers.{YieldsList-at, YieldsList-end, YieldsList-from_enumerate}
use Rattle.std.proofs.lemmas.Iterator.Consumers.{YieldsList-turn}
use Rattle.std.proofs.lemmas.List.FromFn.{length-enumerate_from}
use Rattle.reversal.specs.Turned.{Within}
use Rattle.reversal.proofs.Places.{between, from_last, mirrored_at, mirrored_length}
use Rattle.reversal.proofs.Writers.{pasted_all, pasted_none, pasted_word}
use Rattle.reversal.proofs.roads.put_mirrored.Goals as goal

pub loop-k-init : goal.loop-k-init
loop-k-init c = pasted_none

pub mirror_of-requires : goal.mirror_of-requires
mirror_of-requires c =
    let part = c.args.part.now in
    let road = YieldsList-at c.into_iter-k-iterator.ensures.into_iter_gives
    (YieldsList-from_enumerate (YieldsList-at c.enumerate-k-items.ensures.source
    (YieldsList-from_rev_slice c.args.part.now cc)) c.enumerate-k-items.ensures.count) in
    let turn = YieldsList-turn road c.loop-k.yielded _ c.loop-k.yielded_by _ _ _ c.in-Some.is c.next.ensures.steps in
    let now = from_last part (length c.loop-k.yielded) _ _ turn.0 turn.1 in
    subst (Within part) (sym now.2) (between part _ c.requires.1 (omega (arith, now.1)))

pub loop-k-preserved : goal.loop-k-preserved
loop-k-preserved c =
    let part = c.args.part.now in
    let road = YieldsList-at c.into_iter-k-iterator.ensures.into_iter_gives
    (YieldsList-from_enumerate (YieldsList-at c.enumerate-k-items.ensures.source
    (YieldsList-from_rev_slice c.args.part.now cc)) c.enumerate-k-items.ensures.count) in
    let turn = YieldsList-turn road c.loop-k.yielded _ c.loop-k.yielded_by _ _ _ c.in-Some.is c.next.ensures.steps in
    let n = length c.loop-k.yielded in
    let now = from_last part n _ _ turn.0 turn.1 in
    let number_is = rw now.2 at c.mirror_of.ensures ∙ sym (mirrored_at part n now.1) in
    let done = pasted_word c.loop-k.invariant (omega (arith, now.1, mirrored_length part)) number_is
    (omega (arith, now.1, c.requires.0)) in
    rw (length-append c.loop-k.yielded _, now.0) done

pub returns : goal.returns
returns c =
    let part = c.args.part.now in
    let road = YieldsList-at c.into_iter-k-iterator.ensures.into_iter_gives
    (YieldsList-from_enumerate (YieldsList-at c.enumerate-k-items.ensures.source
    (YieldsList-from_rev_slice c.args.part.now cc)) c.enumerate-k-items.ensures.count) in
    let all = YieldsList-end road c.loop-k.yielded _ c.loop-k.yielded_by _ _ c.in-None.is c.next.ensures.steps in
    pasted_all c.loop-k.invariant
    (omega (arith, all.1, length-enumerate_from 0 (reverse part), length-reverse part, mirrored_length part))
