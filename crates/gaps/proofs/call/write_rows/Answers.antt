-- `write_rows` writes where there is room: 'written, or 9'.
use Prim.Native.Nat.{ℕ, ◌/◌}
use mathlib.Core.List.{[], ◌∷◌}
use mathlib.Core.Path.{sym, ap, ◌∙◌}
use lib.ListN.{length}
use borrow.Author.Tests.{leb-true}
use Rattle.model.specs.Calls.{gap_width, table_writing}
use Rattle.tables.proofs.Called.{all_written, one_fits}
use Rattle.gaps.specs.Lent.{lane_count, words_below}
use Rattle.gaps.proofs.call.write_rows.Goals as goal

pub put-requires : goal.put-requires
put-requires c = leb-true _ _ (sym c.enough.ensures ∙ c.if-not-enough.false)

pub returns : goal.returns
returns c =
    let words = words_below c.args.links.now (lane_count c.args.links.now) in
    let out = c.args.out.now in
    let fits = leb-true (length words) (length out) (sym c.enough.ensures ∙ c.if-not-enough.false) in
    all_written (table_writing gap_width) words out (one_fits words out fits)
    (ap (λ (n : ℕ). n / gap_width ∷ []) c.put.ensures.count_is)
    c.put.ensures.words_are
