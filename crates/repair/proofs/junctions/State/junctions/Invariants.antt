use Rattle.repair.specs.Laying.{Over, Twice}
use Rattle.repair.specs.Ready.{connections_before}
use Rattle.repair.specs.declared.junctions.State.{State}
use Rattle.model.specs.Tables.{Tables}
use Rattle.words.specs.Map.{map_read}
use Rattle.std.proofs.Common.{ℕ, ◌≤◌}
use Rattle.repair.proofs.junctions.State.junctions.Given as goal

-- before turn k the first k junctions are repaired
pub record Held (t : Tables) (k : ℕ) (before after : State) : Type 0 where
  pub twice : Twice t k after.pile
  pub warnings : after.warnings.rows ≤ connections_before t.junctions k
  pub over : Over t k before after

abbrev pub invariant-loop-k : goal.invariant-loop-k
invariant-loop-k l = Held (map_read l.reads.map) l.k l.initial.self l.self
