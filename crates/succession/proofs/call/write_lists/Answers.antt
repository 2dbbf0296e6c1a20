-- Who finds a lane is read from the own lists; those who do are at most 65536 in all.
use Rattle.succession.proofs.Ends.{finished_content, finished_few, finished_many}
use Rattle.succession.proofs.Spreads.{listers_few}
use Rattle.succession.proofs.Packing.{read_back}
use Rattle.succession.specs.Answers.{outputs_of}
use Rattle.succession.specs.Packs.{Filled, listers, start_of}
use Rattle.words.specs.Keys.{id_before}
use Rattle.words.specs.Rows.{any}
use Rattle.model.specs.Calls.{ListOutputs, list_writing, written_or9}
use Rattle.model.specs.Lookup.{list_part}
use lib.ListN.{length, length-replicate, replicate}
use native.Mathlib.Omega.{arith}
use mathlib.Core.Bool.{false}
use mathlib.Core.List.{List}
use mathlib.Core.Path.{◌≡◌, ap, ◌∙◌}
use Prim.Native.Nat.{ℕ, ◌/◌, ◌≤◌, ◌<◌}
use Rattle.succession.proofs.call.write_lists.Goals as goal

-- what `over` keeps of the lanes
module _ {over lanes : List ℕ} (starts ids : List ℕ) (same : over ≡ lanes)
    (once : (length lanes / 10 ≤ 16384) × (any (length lanes / 10) (id_before lanes) ≡ false))
    (few : start_of (list_part starts ids) (length lanes / 10) ≤ 65536) where
  once_over : any (length over / 10) (id_before over) ≡ false
  once_over = rw same once.1

  few_over : start_of (list_part starts ids) (length over / 10) ≤ 65536
  few_over = rw same few

  rows_few : length over / 10 ≤ 16384
  rows_few = rw same once.0

  few_found : start_of (listers over starts ids) (length over / 10) ≤ 65536
  few_found = omega (arith, listers_few over once_over starts ids, few_over)

  -- what is read of the finders that were written
  found_by : {fstarts fids : List ℕ}
      → Filled (length over / 10) (listers over starts ids) (replicate {A = ℕ} 16385 0) (replicate {A = ℕ} 65536 0)
      fstarts fids
      → (r : ℕ) → r < length over / 10 → list_part fstarts fids r ≡ listers over starts ids r
  found_by {fstarts} {fids} filled =
      read_back _ _ _ _ _ _ filled (omega (arith, length-replicate {A = ℕ} 16385 0, rows_few))
      (omega (arith, length-replicate {A = ℕ} 65536 0, few_found))

pub converse-requires : goal.converse-requires
converse-requires c =
    let same = c.over-lanes.ensures in
    let few = few_over _ _ same c.requires.once c.requires.few in
    record {
      once = once_over _ _ same c.requires.once c.requires.few;
      few = omega (arith, few);
      room = (
        omega (arith, c.over-lanes.result.few),
        few_found _ _ same c.requires.once c.requires.few,
      );
    }

pub invariant_of-found : goal.invariant_of-found
invariant_of-found c =
    let same = c.over-lanes.ensures in
    let once = c.requires.once in
    let few = c.requires.few in
    record {
      once = once_over _ _ same once few;
      rise = rw same c.requires.all_rise;
      few =
          finished_few _ _ _ _ _ (found_by _ _ same once few c.converse.ensures) (once_over _ _ same once few)
          (few_over _ _ same once few);
    }

pub put_lists-requires : goal.put_lists-requires
put_lists-requires c =
    let same = c.over-lanes.ensures in
    let found = found_by _ _ same c.requires.once c.requires.few c.converse.ensures in
    record { as_many = finished_many _ _ _ _ _ found (rw same c.requires.as_many) }

pub returns-clause-outcome : goal.returns-clause-outcome
returns-clause-outcome c =
    let same = c.over-lanes.ensures in
    let content =
    finished_content _ _ _ _ _ (found_by _ _ same c.requires.once c.requires.few c.converse.ensures) in
    rw (← same) (c.put_lists.ensures.outcome
    ∙ ap (λ (lists : ListOutputs). written_or9 list_writing lists (outputs_of c.args.out.now)) content)
