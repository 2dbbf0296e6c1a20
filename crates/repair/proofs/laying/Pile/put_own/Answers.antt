use Rattle.std.proofs.Common.{ℕ, ◌+◌, ◌≡◌, ap, arith, sym}
use native.Mathlib.Nat.{add-zero}
use Rattle.model.specs.Tables.{Tables}
use Rattle.words.specs.Map.{map_read}
use Rattle.words.specs.Rows.{tab}
use Rattle.repair.specs.Now.{row_connection}
use Rattle.repair.specs.Ready.{pairs_before}
use Rattle.repair.proofs.Piles.{laid_none, laid_own, pairs_next, room_at}
use Rattle.repair.proofs.laying.Pile.put_own.Goals as goal

pub loop-i-init : goal.loop-i-init
unfolding tab
loop-i-init c =
    let x = c.args.self.now in
    let connections = c.args.junction.now.reads.map.connections.now in
    record {
      rows = omega arith;
      counted = ap (λ (k : ℕ). x.pairs.rows + pairs_before connections k) (sym (add-zero c.args.junction.now.first));
      laid = laid_none x;
    }

pub put_connection-requires : goal.put_connection-requires
put_connection-requires c =
    let held = c.loop-i.invariant in
    room_at c.requires _ _ _ (omega arith) (omega arith) (omega (arith, held.counted))

pub loop-i-preserved : goal.loop-i-preserved
loop-i-preserved c =
    let t : Tables = map_read c.args.junction.now.reads.map in
    let held = c.loop-i.invariant in
    let i = c.loop-i.i in
    let laid = c.put_connection.ensures in
    let next = pairs_next t.connections c.args.junction.now.first i in
    record {
      rows = omega (arith, laid.laid.rows, held.rows);
      counted = omega (arith, next, laid.pair_rows, held.counted);
      laid = laid_own (λ j. row_connection t (c.args.junction.now.first + j)) i held.laid laid.laid;
    }

pub returns : goal.returns
returns c =
    let held = c.loop-i.invariant in
    let past : c.loop-i.i ≡ c.args.junction.now.count = omega arith in
    record { rows = rw past at held.rows; pair_rows = rw past at held.counted; laid = rw past at held.laid }
