-- As many identities are written twice: whether they fit, the lists onward, and the same read the other way.
use Rattle.succession.proofs.Ends.{before_filled, before_size, content_lengths, fit_is, onward_size, outs_are, rooms}
use Rattle.succession.specs.Answers.{outputs_of}
use Rattle.succession.specs.Found.{onward_of}
use Rattle.succession.specs.Packs.{listers_of, start_of}
use Rattle.succession.specs.declared.back.AllFound.{AllFound}
use Rattle.tables.proofs.Called.{all_written, too_short}
use Rattle.model.specs.Calls.{list_writing}
use lib.ListN.{length}
use native.Mathlib.Omega.{arith}
use mathlib.Core.List.{List, [], ◌∷◌}
use mathlib.Core.Path.{sym, ap₂, ◌∙◌}
use Prim.Native.Nat.{ℕ, ◌+◌, ◌/◌, ◌<◌, ◌≤◌}
use Rattle.succession.proofs.call.put_lists.Goals as goal

-- ---- how many lanes there are, and the list of those before each
module _ (found : AllFound) where
  abbrev rows : ℕ
  rows = length found.lanes.lanes.now / 10

  abbrev before : ℕ → List ℕ
  before = listers_of found.lanes.lanes.now (onward_of found)

pub returns-then-not-fits-clause-outcome : goal.returns-then-not-fits-clause-outcome
returns-then-not-fits-clause-outcome c =
    let found = c.args.found.now in
    let outs = outputs_of c.args.out.now in
    let as_many = c.count-total.ensures ∙ sym c.requires.as_many in
    let fit = fit_is (rows found) (onward_of found) (before found) outs c.count-total.ensures as_many c.fits.ensures in
    too_short list_writing _ _ (sym fit ∙ c.if-not-fits.true)

pub finish-requires : goal.finish-requires
finish-requires c =
    let room = rooms (outputs_of c.args.out.now) _ _ (sym c.fits.ensures ∙ c.if-not-fits.false) in
    record { room = (omega (arith, room.0), omega (arith, room.1, c.count-total.ensures)) }

pub converse-requires : goal.converse-requires
converse-requires c =
    let found = c.args.found.now in
    let lanes = found.lanes.lanes.now in
    let room = rooms (outputs_of c.args.out.now) _ _ (sym c.fits.ensures ∙ c.if-not-fits.false) in
    let wide : rows found < length c.args.out.now.successor_offsets.now = omega (arith, room.0) in
    let fits : start_of (onward_of found) (rows found) ≤ length c.args.out.now.successor_ids.now =
    omega (arith, room.1, c.count-total.ensures) in
    let size = onward_size lanes (onward_of found) _ _ _ _ c.finish.ensures wide fits in
    let size_before = before_size lanes (onward_of found) _ _ _ _ c.finish.ensures wide fits in
    record {
      once = found.once;
      few = omega (arith, size, found.few);
      room = (
        omega (arith, room.2),
        omega (arith, size_before, room.3, c.count-total.ensures, c.requires.as_many),
      );
    }

pub returns-clause-outcome : goal.returns-clause-outcome
returns-clause-outcome c =
    let found = c.args.found.now in
    let n = rows found in
    let outs = outputs_of c.args.out.now in
    let as_many = c.count-total.ensures ∙ sym c.requires.as_many in
    let fit = fit_is n (onward_of found) (before found) outs c.count-total.ensures as_many c.fits.ensures in
    let room = rooms outs _ _ (sym c.fits.ensures ∙ c.if-not-fits.false) in
    let befores = before_filled _ _ _ _ _ _ c.finish.ensures (omega (arith, room.0))
    (omega (arith, room.1, c.count-total.ensures)) _ _ _ _ c.converse.ensures in
    let counts_are = ap₂ (λ (a b : ℕ). (n + 1) ∷ a ∷ (n + 1) ∷ b ∷ []) c.count-total.ensures as_many in
    all_written list_writing _ _ (sym fit ∙ c.if-not-fits.false)
    (counts_are ∙ content_lengths n (onward_of found) (before found))
    (outs_are n (onward_of found) (before found) outs c.finish.ensures.starts c.finish.ensures.content
    befores.starts befores.content)
