use borrow.Author.Rules.{rules}
use Prim.Native.Nat.{◌+◌}
use mathlib.Core.Path.{subst, sym}
use lib.ListN.{set}
use Rattle.words.proofs.Laws.{Putting, all_put, putting_more, putting_none}
use Rattle.words.proofs.rows.put.Goals as goal

pub loop-k-init : goal.loop-k-init
loop-k-init g c = putting_none

pub loop-k-preserved : goal.loop-k-preserved
loop-k-preserved g c =
    subst (λ w. Putting c.args.at c.args.row.now c.args.out.now (c.loop-k.k + 1) (set c.loop-k.out (c.args.at + c.loop-k.k) w))
    (sym c.index-row-k.is) (putting_more c.loop-k.invariant c.index-row-k.result (search rules) c.requires)

pub returns : goal.returns
returns g c = all_put c.loop-k.invariant (search rules)
