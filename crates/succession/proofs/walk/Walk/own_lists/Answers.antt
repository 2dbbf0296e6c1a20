use Rattle.std.proofs.Common.{◌≡◌, ◌≤◌, ◌+◌, ◌/◌, ℕ, List, length, arith, refl, rules}
use Rattle.words.proofs.Joins.{rows_begin}
use Rattle.words.proofs.Laws.{total_le, total_none}
use Rattle.succession.specs.ByRow.{successors_by_row}
use Rattle.succession.specs.Finished.{exit_count}
use Rattle.succession.specs.Packs.{start_of}
use Rattle.succession.specs.Read.{read_of}
use Rattle.succession.proofs.Backs.{start_most, successors_most, tail_more, tail_room}
use Rattle.succession.proofs.Packing.{start_more, starts_more, starts_none}
use Rattle.succession.proofs.Places.{tail_size}
use Rattle.succession.proofs.walk.Walk.own_lists.Goals.{In-loop-l}
use Rattle.succession.proofs.walk.Walk.own_lists.Goals as goal

-- in a turn the output has room for all that lane l is led into
room : (turn : In-loop-l)
    → turn.loop-l.at + exit_count (read_of turn.args.self.now) turn.loop-l.l ≤ length turn.loop-l.own
room turn =
    let R = read_of turn.args.self.now in
    tail_room (successors_by_row R) (exit_count R) (successors_most R) _ _ _ turn.loop-l.own turn.loop-l-test.true
    turn.requires.2 turn.loop-l.invariant.at turn.loop-l.auto.own

pub loop-l-init : goal.loop-l-init
loop-l-init c = record { at = total_none _; offsets = starts_none _ _; own = rows_begin _ _ }

pub overflow_cast-offsets : goal.overflow_cast-offsets
overflow_cast-offsets c =
    let turn : In-loop-l = search in omega (arith, room turn, turn.requires.1)

pub offset_bounds-own-at : goal.offset_bounds-own-at
offset_bounds-own-at c =
    let turn : In-loop-l = search in omega (arith, room turn, turn.requires.1)

pub slice_bounds-successors_of-count : goal.slice_bounds-successors_of-count
slice_bounds-successors_of-count c =
    let turn : In-loop-l = search in omega (arith, room turn)

pub slice_bounds-successors_of-start : goal.slice_bounds-successors_of-start
slice_bounds-successors_of-start c =
    let turn : In-loop-l = search in
    let within : c.loop-l.at ≤ length c.loop-l.own = omega (arith, room turn) in
    search rules

pub successors_of-at-requires : goal.successors_of-at-requires
successors_of-at-requires c =
    let turn : In-loop-l = search in
    (c.loop-l-test.true, omega (arith, room turn, tail_size c.loop-l.at c.loop-l.own (omega (arith, room turn))))

pub overflow_add-at : goal.overflow_add-at
overflow_add-at c =
    let turn : In-loop-l = search in
    let most = successors_most (read_of c.args.self.now) c.loop-l.l in
    omega (arith, room turn, c.requires.1, c.successors_of-at.ensures.size, most)

pub loop-l-preserved : goal.loop-l-preserved
loop-l-preserved c =
    let R = read_of c.args.self.now in
    let lists : ℕ → List ℕ = successors_by_row R in
    let inv = c.loop-l.invariant in
    record {
      at = omega (arith, inv.at, c.successors_of-at.ensures.size, start_more lists c.loop-l.l);
      offsets = starts_more (start_of lists) c.loop-l.l _ _ _ inv.offsets inv.at
          (omega (arith, c.loop-l-test.true, c.requires.0));
      own = tail_more lists (exit_count R) (successors_most R) _ c.loop-l.l _ c.loop-l.own c.loop-l-test.true
          c.requires.2 inv.at c.loop-l.auto.own inv.own refl c.successors_of-at.ensures.list;
    }

pub overflow_cast-offsets-2 : goal.overflow_cast-offsets-2
overflow_cast-offsets-2 c = let R = read_of c.args.self.now in
    let most = start_most (successors_by_row R) (exit_count R) (successors_most R) c.loop-l.l in
    let below = total_le c.loop-l.l _ (exit_count R) c.loop-l.auto.l-end in
    omega (arith, c.loop-l.invariant.at, most, below, c.requires.1, c.requires.2)

pub returns : goal.returns
returns c =
    let n = length c.args.self.now.places.lanes.now / 10 in
    let past : c.loop-l.l ≡ n = omega (arith, c.loop-l.auto.l-end, c.loop-l-test.false) in
    record {
      starts = starts_more (start_of (successors_by_row (read_of c.args.self.now))) n _ _ _
          (rw past at c.loop-l.invariant.offsets) (rw past at c.loop-l.invariant.at) c.requires.0;
      content = rw past at c.loop-l.invariant.own;
    }
