use Rattle.repair.specs.Laying.{Laid, back_from}
use Rattle.repair.specs.Ready.{pairs_before}
use Rattle.repair.specs.Now.{row_connection}
use Rattle.repair.specs.declared.laying.Pile.{Pile}
use Rattle.model.specs.Lists.{gather}
use Rattle.model.specs.Records.{Connection}
use Rattle.model.specs.Tables.{Tables}
use Rattle.words.specs.Map.{map_read}
use Rattle.words.specs.Rows.{tab}
use Rattle.std.proofs.Common.{ℕ, List, ◌≤◌, ◌+◌}
use Rattle.repair.proofs.reversed.reversed.Given as goal

-- before turn i there is laid what the first i connections give
pub record Held (t : Tables) (given : Connection → List Connection) (first i : ℕ) (before after : Pile)
    : Type 0 where
  pub rows : after.connections.rows ≤ before.connections.rows + i
  pub pair_rows : after.pairs.rows + pairs_before t.connections first
      ≤ before.pairs.rows + pairs_before t.connections (first + i)
  pub laid : Laid (gather given (tab i (λ j. row_connection t (first + j)))) before after

abbrev pub invariant-loop-i : goal.invariant-loop-i
invariant-loop-i l =
    let j = l.junction in
    let t : Tables = map_read j.reads.map in
    Held t (back_from t l.ends.words j.row j.first j.count) j.first l.i l.initial.pile l.pile
