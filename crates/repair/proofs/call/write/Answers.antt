use Rattle.std.proofs.Common.{ℕ, List, [], ◌∷◌, ◌*◌, ◌/◌, ◌≡◌, ◌≤◌, arith, false, length}
use Rattle.model.specs.Calls.{RepairOutputs, repair_writing}
use Rattle.model.specs.Rules.{fits}
use Rattle.model.specs.Tables.{Tables}
use Rattle.tables.proofs.Called.{all_written, too_short}
use Rattle.words.specs.Map.{map_read}
use Rattle.repair.specs.Answers.{content_now, outputs_of}
use Rattle.repair.proofs.CallLaws.{all_fit, copied, one_over, put_are, room_is, rows_are, whole_is}
use Rattle.repair.proofs.call.write.Goals as goal
use Rattle.repair.proofs.call.write.Goals.{
  then-rows-out-via-then-rows-out,
  then-rows-out-via-else-rows-out+then-junctions-out,
  then-rows-out-via-else-rows-out+else-junctions-out+then-connections-out,
  then-rows-out-via-else-rows-out+else-junctions-out+else-connections-out+then-pairs-out,
  then-rows-out-via-else-rows-out+else-junctions-out+else-connections-out+else-pairs-out+then-warnings-out,
}

pub returns-then-rows-out-clause-outcome : goal.returns-then-rows-out-clause-outcome
returns-then-rows-out-clause-outcome c =
    let t : Tables = map_read c.args.reads.now.map in
    let s = c.args.state.now in
    let content : RepairOutputs = content_now t s in
    let lent : RepairOutputs = outputs_of c.args.out.now in
    let whole = whole_is t s c.slice-junctions.ensures c.slice-connections.ensures c.slice-pairs.ensures
    c.slice-warnings.ensures in
    let contents : List ℕ = length t.roads / 20 * 20 ∷ s.junctions.rows * 5 ∷ s.pile.connections.rows * 7
    ∷ s.pile.pairs.rows * 2 ∷ s.warnings.rows * 4 ∷ [] in
    let outs : List ℕ = length lent.roads ∷ length lent.junctions ∷ length lent.connections ∷ length lent.pairs
    ∷ length lent.warnings ∷ [] in
    let over = one_over contents outs in
    let short : fits contents outs ≡ false = elim c.then-rows-out.branch [
      | then-rows-out-via-then-rows-out w ↦ over 0 (omega arith) (omega (arith, w.if-rows-out.true))
      | then-rows-out-via-else-rows-out+then-junctions-out w ↦
          over 1 (omega arith) (omega (arith, c.slice-junctions.ensures.1, w.if-junctions-out.true))
      | then-rows-out-via-else-rows-out+else-junctions-out+then-connections-out w ↦
          over 2 (omega arith) (omega (arith, c.slice-connections.ensures.1, w.if-connections-out.true))
      | then-rows-out-via-else-rows-out+else-junctions-out+else-connections-out+then-pairs-out w ↦
          over 3 (omega arith) (omega (arith, c.slice-pairs.ensures.1, w.if-pairs-out.true))
      | then-rows-out-via-else-rows-out+else-junctions-out+else-connections-out+else-pairs-out+then-warnings-out w ↦
          over 4 (omega arith) (omega (arith, c.slice-warnings.ensures.1, w.if-warnings-out.true))
    ] in
    too_short repair_writing content lent (room_is content _ _ _ _ _ whole lent short)

pub returns-clause-outcome : goal.returns-clause-outcome
returns-clause-outcome c =
    let t : Tables = map_read c.args.reads.now.map in
    let s = c.args.state.now in
    let content : RepairOutputs = content_now t s in
    let lent : RepairOutputs = outputs_of c.args.out.now in
    let whole = whole_is t s c.slice-junctions.ensures c.slice-connections.ensures c.slice-pairs.ensures
    c.slice-warnings.ensures in
    let roads : length t.roads / 20 * 20 ≤ length lent.roads = omega arith in
    let junctions : s.junctions.rows * 5 ≤ length lent.junctions =
    omega (arith, c.slice-junctions.ensures.1, c.if-junctions-out.false) in
    let connections : s.pile.connections.rows * 7 ≤ length lent.connections =
    omega (arith, c.slice-connections.ensures.1, c.if-connections-out.false) in
    let pairs : s.pile.pairs.rows * 2 ≤ length lent.pairs =
    omega (arith, c.slice-pairs.ensures.1, c.if-pairs-out.false) in
    let warnings : s.warnings.rows * 4 ≤ length lent.warnings =
    omega (arith, c.slice-warnings.ensures.1, c.if-warnings-out.false) in
    all_written repair_writing content lent
    (room_is content _ _ _ _ _ whole lent (all_fit roads junctions connections pairs warnings))
    (rows_are content _ _ _ _ _ whole)
    (put_are content lent c.put_roads.ensures
    (copied lent.junctions c.copy.ensures c.slice-junctions.ensures.0)
    (copied lent.connections c.copy-2.ensures c.slice-connections.ensures.0)
    (copied lent.pairs c.copy-3.ensures c.slice-pairs.ensures.0)
    (copied lent.warnings c.copy-4.ensures c.slice-warnings.ensures.0))
