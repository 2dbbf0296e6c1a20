use Rattle.repair.specs.Laying.{Linked}
use Rattle.repair.specs.Now.{row_connection, run}
use Rattle.repair.specs.declared.laid.LaidRows.{LaidRows}
use Rattle.model.specs.Tables.{Tables}
use Rattle.words.specs.Map.{map_read}
use Rattle.std.proofs.Common.{ℕ, List, ◌≤◌, ◌+◌}
use Rattle.repair.proofs.links.missing_links.Given as goal

-- before turn i the links that the first i connections show are given
pub record Held (t : Tables) (k first i : ℕ) (ends₀ ends : List ℕ) (before after : LaidRows 4 32768) : Type 0 where
  pub at_most : after.rows ≤ before.rows + i
  pub linked : Linked t k (run (row_connection t) first i) ends₀ ends before after

abbrev pub invariant-loop-i : goal.invariant-loop-i
invariant-loop-i l =
    Held (map_read l.junction.reads.map) l.junction.row l.junction.first l.i l.initial.ends.words l.ends.words
    l.initial.warnings l.warnings
