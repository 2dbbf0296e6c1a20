-- The road's numbers, mirrored or as they are, are put where they stood.
use mathlib.Core.Bool.{true, false}
use mathlib.Core.Path.{sym, ap, ◌∙◌}
use native.Mathlib.Omega.{arith}
use lib.ListN.{length}
use Prim.Native.Nat.{◌/◌}
use Rattle.model.specs.Lists.{ascends}
use Rattle.words.proofs.Scans.{all_at}
use Rattle.rules.specs.ByRow.{numbers_at}
use Rattle.reversal.proofs.Places.{fit_over, numbers_put, sections_room}
use Rattle.reversal.proofs.roads.put_numbers.Goals as goal

pub put_mirrored-requires : goal.put_mirrored-requires
put_mirrored-requires c =
    let t = c.args.turning.now in
    let roads = t.roads.rows.now in
    let sections = t.sections.sections.now in
    let h = c.requires.road_in_bounds in
    let fit = fit_over sections t.same t.sections.fit in
    let size = ap length c.numbers-part.ensures in
    let room = sections_room roads sections fit c.args.road.0 h _ c.requires.room in
    let up = all_at (length roads / 20) c.args.road.0 (λ i. ascends (numbers_at roads sections i)) t.up h in
    (omega (arith, c.word-at.ensures.0, size, room), ap ascends c.numbers-part.ensures ∙ up)

pub put-requires : goal.put-requires
put-requires c =
    let t = c.args.turning.now in
    let sections = t.sections.sections.now in
    let fit = fit_over sections t.same t.sections.fit in
    let size = ap length c.numbers-part.ensures in
    let room = sections_room t.roads.rows.now sections fit c.args.road.0 c.requires.road_in_bounds _
    c.requires.room in
    omega (arith, c.word-at.ensures.0, size, room)

pub returns-then-is_marked : goal.returns-then-is_marked
returns-then-is_marked c =
    let t = c.args.turning.now in
    numbers_put t.roads.rows.now t.sections.sections.now t.marks.now c.args.road.0 _ true c.word-at.ensures.0
    c.numbers-part.ensures (sym c.if-is_marked.ensures) c.put_mirrored.ensures

pub returns-else-is_marked : goal.returns-else-is_marked
returns-else-is_marked c =
    let t = c.args.turning.now in
    numbers_put t.roads.rows.now t.sections.sections.now t.marks.now c.args.road.0 _ false c.word-at.ensures.0
    c.numbers-part.ensures (sym c.if-is_marked.ensures) c.put.ensures
