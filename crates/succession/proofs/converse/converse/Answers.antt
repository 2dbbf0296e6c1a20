-- The counts are the lengths of the lists read the other way, so a run of that length begins for each lane.
use Rattle.words.proofs.Laws.{tab_same}
use Rattle.model.specs.Rows.{written}
use mathlib.Core.List.{List}
use Rattle.succession.proofs.Packing.{starts_long, starts_read}
use Rattle.succession.proofs.Spreads.{counts_are, listers_few}
use lib.ListN.{length, get_or, replicate, get_or-replicate, length-replicate}
use native.Mathlib.Nat.{le_refl}
use Prim.Native.Nat.{ℕ, ◌<◌, ◌/◌}
use native.Mathlib.Omega.{arith}
use mathlib.Core.Path.{◌≡◌, ap, ◌∙◌}
use Rattle.succession.proofs.converse.converse.Goals as goal

-- every count is 0 at first
zero : (r : ℕ) → r < 16384 → get_or (replicate {A = ℕ} 16384 0) r 0 ≡ 0
zero r lr = get_or-replicate {A = ℕ} 16384 r 0 0 lr

pub count_all-requires : goal.count_all-requires
count_all-requires c =
    let few = c.args.lanes.now.few in
    record {
      lanes_in_bounds = (
        omega (arith, length-replicate {A = ℕ} 16384 0, few),
        λ r lr. zero r (omega (arith, lr, few)),
      );
    }

pub sums-requires : goal.sums-requires
sums-requires c =
    let lanes = c.args.lanes.now in
    let sums = counts_are _ _ _ (λ r lr. zero r (omega (arith, lr, lanes.few))) c.count_all.ensures in
    let all = sums (length lanes.lanes.now / 10) (le_refl (length lanes.lanes.now / 10)) in
    let most = listers_few lanes.lanes.now c.requires.once c.args.lists.offsets.now c.args.lists.ids.now in (
      omega (arith, c.count_all.ensures.wide, length-replicate {A = ℕ} 16384 0, lanes.few),
      c.requires.room.0,
      omega (arith, all, most, c.requires.few),
    )

pub spill_all-requires-clause-runs_for : goal.spill_all-requires-clause-runs_for
spill_all-requires-clause-runs_for c =
    let few = c.args.lanes.now.few in
    let lists = c.args.lists in
    let sums =
    counts_are c.args.lanes.now.lanes.now lists.offsets.now lists.ids.now (λ r lr. zero r (omega (arith, lr, few)))
    c.count_all.ensures in
    let same = starts_long _ _ _ _ c.sums.ensures c.requires.room.0 in
    record {
      long = omega (arith, same, c.requires.room.0);
      begin = λ r lr. starts_read _ _ _ _ c.sums.ensures r lr ∙ sums r lr;
      room = c.requires.room.1;
      wide = omega (arith, c.count_all.ensures.wide, length-replicate {A = ℕ} 16384 0, few, c.fill.ensures.len);
    }

pub returns : goal.returns
returns c =
    let few = c.args.lanes.now.few in
    let sums = counts_are _ _ _ (λ r lr. zero r (omega (arith, lr, few))) c.count_all.ensures in
    let offsets_are = tab_same _ _ _ (λ i h. sums i (omega (arith, h))) in
    record {
      starts = c.sums.ensures ∙ ap (λ (l : List ℕ). written l c.args.offsets.now) offsets_are;
      content = c.spill_all.ensures;
    }
