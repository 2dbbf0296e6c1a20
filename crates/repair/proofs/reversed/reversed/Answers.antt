use Rattle.std.proofs.Common.{ℕ, ◌+◌, ◌≡◌, List, ◌∙◌, ap, arith}
use native.Mathlib.Nat.{add-zero}
use Rattle.model.specs.Lists.{gather}
use Rattle.model.specs.Records.{Connection}
use Rattle.model.specs.Tables.{Tables}
use Rattle.words.specs.Map.{map_read}
use Rattle.words.specs.Rows.{tab}
use Rattle.repair.specs.Laying.{back_from}
use Rattle.repair.specs.Now.{row_connection}
use Rattle.repair.specs.Ready.{pairs_before}
use Rattle.repair.proofs.OtherWay.{reversed_is}
use Rattle.repair.proofs.Piles.{laid_none, laid_more, laid_same, pairs_next, room_at}
use Rattle.repair.proofs.reversed.reversed.Goals as goal

pub loop-i-init : goal.loop-i-init
unfolding tab
loop-i-init c =
    let j = c.args.junction.now in
    let at_first = ap (pairs_before j.reads.map.connections.now) (add-zero j.first) in
    record { rows = omega arith; pair_rows = omega (arith, at_first); laid = laid_none _ }

pub back_contact-back-requires : goal.back_contact-back-requires
back_contact-back-requires c = omega (arith, c.args.junction.now.within)

pub put_back-requires : goal.put_back-requires
put_back-requires c =
    let held = c.loop-i.invariant in
    room_at c.requires _ _ _ (omega arith) held.rows held.pair_rows

pub loop-i-preserved : goal.loop-i-preserved
loop-i-preserved c =
    let j = c.args.junction.now in
    let t : Tables = map_read j.reads.map in
    let held = c.loop-i.invariant in
    let i = c.loop-i.i in
    let laid = c.put_back.ensures in
    let next = pairs_next t.connections j.first i in
    record {
      rows = omega (arith, laid.at_most.0, held.rows);
      pair_rows = omega (arith, laid.at_most.1, held.pair_rows, next);
      laid = laid_more (back_from t c.args.ends.now.words j.row j.first j.count)
          (λ i. row_connection t (j.first + i)) i held.laid laid.laid c.back_contact-back.ensures;
    }

pub returns : goal.returns
returns c =
    let j = c.args.junction.now in
    let t : Tables = map_read j.reads.map in
    let held = c.loop-i.invariant in
    let past : c.loop-i.i ≡ j.count = omega arith in
    let given : Connection → List Connection = back_from t c.args.ends.now.words j.row j.first j.count in
    let all = ap (λ (i : ℕ). gather given (tab i (λ i. row_connection t (j.first + i)))) past in
    record {
      rows = omega (arith, held.rows, past);
      pair_rows = rw past at held.pair_rows;
      laid = laid_same (all ∙ reversed_is _ _ _ _) held.laid;
    }
