use Prim.Native.Nat.{◌+◌, ◌*◌}
use mathlib.Core.Path.{◌≡◌, sym, ◌∙◌}
use native.Mathlib.Nat.{mul-one}
use native.Mathlib.Omega.{arith}
use lib.ListN.{length, get_or}
use Rattle.words.specs.Rows.{joined}
use Rattle.reversal.specs.Turned.{turned_sections}
use Rattle.reversal.proofs.Places.{fit_over, numbers_length, place, sections_length, sections_room}
use Rattle.reversal.proofs.Writers.{wrote_all, wrote_none, wrote_part}
use Rattle.reversal.proofs.roads.put_sections.Goals as goal

pub loop-road-init : goal.loop-road-init
loop-road-init c = wrote_none

pub loop-road-preserved : goal.loop-road-preserved
loop-road-preserved c =
    let t = c.args.turning.now in
    let roads = t.roads.rows.now in
    let sections = t.sections.sections.now in
    let fit = fit_over sections t.same t.sections.fit in
    let marks = t.marks.now in
    let i = c.loop-road.road in
    let here = c.loop-road-test.true in
    let first = get_or roads (i * 20 + 18) 0 in
    -- they begin where those before them end
    let in_place : first ≡ length (joined i (turned_sections roads sections marks)) =
    sym (place 20 18 19 (length sections) roads (omega arith) (omega arith) fit 1 (turned_sections roads sections marks)
    (λ j h. sections_length roads sections fit j h marks) i here
    ∙ mul-one first) in
    -- and have room
    let many = numbers_length roads sections fit i here in
    let as_many = sections_length roads sections fit i here marks in
    let fits = sections_room roads sections fit i here _ c.requires in
    wrote_part c.loop-road.invariant here in_place c.put_numbers.ensures (omega (arith, many, as_many, fits))
    (omega (arith, c.put_numbers.auto.out))

pub returns : goal.returns
returns c = wrote_all c.loop-road.invariant c.loop-road-test.false
