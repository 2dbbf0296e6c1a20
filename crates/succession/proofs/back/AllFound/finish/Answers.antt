use Rattle.succession.proofs.Backs.{tail_more, tail_room}
use Rattle.succession.specs.Found.{list_of, onward_of}
use Rattle.succession.proofs.Places.{tail_size}
use Rattle.succession.proofs.Packing.{start_more, starts_more, starts_none, start_up}
use Rattle.succession.specs.Packs.{start_of}
use Rattle.words.proofs.Joins.{rows_begin}
use Rattle.words.proofs.Laws.{total_none}
use lib.ListN.{length}
use mathlib.Core.List.{List}
use Prim.Native.Nat.{ℕ, ◌+◌, ◌/◌, ◌<◌, ◌≤◌}
use native.Mathlib.Nat.{le_refl}
use native.Mathlib.Omega.{arith}
use mathlib.Core.Path.{◌≡◌, ap, ◌∙◌}
use Rattle.succession.proofs.back.AllFound.finish.Goals as goal
use Rattle.succession.specs.declared.back.AllFound.{AllFound}

-- ---- in a turn: the list ends by 131072, and the output has room for it
module _ (found : AllFound) where
  abbrev rows : ℕ
  rows = length found.lanes.lanes.now / 10

  abbrev long : ℕ → ℕ
  long i = length (onward_of found i)

  few : (i at : ℕ) → i < rows → at ≡ start_of (onward_of found) i → at + long i ≤ 131072
  few i at lt is =
      let below = start_up (onward_of found) (i + 1) rows (omega arith) in
      omega (arith, start_more (onward_of found) i, below, found.few, is)

  room : (i at : ℕ) (out₀ out : List ℕ) → i < rows → start_of (onward_of found) rows ≤ length out₀
      → at ≡ start_of (onward_of found) i → length out ≡ length out₀ → at + long i ≤ length out
  room i at out₀ out = tail_room (onward_of found) long (λ k. le_refl (long k)) rows i out₀ out

pub loop-i-init : goal.loop-i-init
loop-i-init c = (total_none _, starts_none _ _, rows_begin _ _)

pub overflow_cast-offsets : goal.overflow_cast-offsets
overflow_cast-offsets c =
    omega (arith, few c.args.self.now c.loop-i.i c.loop-i.at (omega arith) c.loop-i.invariant.0)

pub offset_bounds-out-at : goal.offset_bounds-out-at
offset_bounds-out-at c =
    omega (arith, few c.args.self.now c.loop-i.i c.loop-i.at (omega arith) c.loop-i.invariant.0)

pub slice_bounds-finish-count : goal.slice_bounds-finish-count
slice_bounds-finish-count c =
    let wide = c.requires.room.1 in
    omega (arith, room c.args.self.now _ _ c.args.out.now _ (omega arith) wide c.loop-i.invariant.0 c.loop-i.auto.out)

pub slice_bounds-finish-start : goal.slice_bounds-finish-start
slice_bounds-finish-start c =
    let wide = c.requires.room.1 in
    omega (arith, room c.args.self.now _ _ c.args.out.now _ (omega arith) wide c.loop-i.invariant.0 c.loop-i.auto.out)

pub finish-at-requires : goal.finish-at-requires
finish-at-requires c =
    let me = c.args.self.now in
    let lane = c.lane.result in
    let out = c.loop-i.out in
    let list_is : list_of lane ≡ onward_of me c.loop-i.i =
    cc in
    let fits = room me _ _ _ _ (omega arith) c.requires.room.1 c.loop-i.invariant.0 c.loop-i.auto.out in
    let inside : c.loop-i.at ≤ length out = omega (arith, fits) in
    omega (arith, fits, tail_size c.loop-i.at out inside, ap length list_is)

pub overflow_add-at : goal.overflow_add-at
overflow_add-at c =
    let me = c.args.self.now in
    let lane = c.lane.result in
    let list_is : list_of lane ≡ onward_of me c.loop-i.i =
    cc in
    omega (
      arith,
      few me c.loop-i.i c.loop-i.at (omega arith) c.loop-i.invariant.0,
      c.finish-at.ensures.size,
      ap length list_is,
    )

pub loop-i-preserved : goal.loop-i-preserved
loop-i-preserved c =
    let me = c.args.self.now in
    let lane = c.lane.result in
    let i = c.loop-i.i in
    let lists = onward_of me in
    let list_is : list_of lane ≡ lists i = cc in
    let size = c.finish-at.ensures.size ∙ ap length list_is in (
      omega (arith, c.loop-i.invariant.0, size, start_more lists i),
      starts_more (start_of lists) i _ _ _ c.loop-i.invariant.1 c.loop-i.invariant.0 (omega arith),
      tail_more lists (long me) (λ k. le_refl (long me k)) (rows me) i _ c.loop-i.out
          (omega arith) c.requires.room.1 c.loop-i.invariant.0 c.loop-i.auto.out c.loop-i.invariant.2
          list_is c.finish-at.ensures.list,
    )

pub overflow_cast-offsets-2 : goal.overflow_cast-offsets-2
overflow_cast-offsets-2 c =
    let me = c.args.self.now in
    let below = start_up (onward_of me) c.loop-i.i (rows me) (omega arith) in
    omega (arith, c.loop-i.invariant.0, below, me.few)

pub returns : goal.returns
returns c =
    let me = c.args.self.now in
    let past : c.loop-i.i ≡ rows me = omega arith in
    record {
      starts =
          starts_more (start_of (onward_of me)) _ _ _ _ (rw past at c.loop-i.invariant.1)
          (rw past at c.loop-i.invariant.0) (omega arith);
      content = rw past at c.loop-i.invariant.2;
    }
