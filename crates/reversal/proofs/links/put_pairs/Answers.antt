use Prim.Native.Nat.{ℕ, ◌+◌, ◌*◌, ◌/◌, ◌<◌}
use mathlib.Core.Path.{◌≡◌, sym, ap, ◌∙◌}
use native.Mathlib.Omega.{arith}
use lib.ListN.{length, get_or}
use Rattle.words.specs.Rows.{joined}
use Rattle.words.proofs.KeyLaws.{rows_in}
use Rattle.reversal.specs.Turned.{mark_of, turned_pairs}
use Rattle.reversal.proofs.Places.{pairs_count, pairs_listed, pairs_put, place, placed_room, placed_within}
use Rattle.reversal.proofs.Writers.{wrote_all, wrote_none, wrote_part}
use Rattle.reversal.proofs.links.put_pairs.Goals as goal

pub loop-i-init : goal.loop-i-init
loop-i-init c = wrote_none

pub part_of-requires : goal.part_of-requires
part_of-requires c =
    placed_within c.args.connections.now c.args.pairs.now c.requires.parts c.loop-i.i c.loop-i-test.true
    c.row-row.ensures

pub put_part-requires : goal.put_part-requires
put_part-requires c =
    placed_room c.args.connections.now c.args.pairs.now c.requires.parts
    c.loop-i.i c.loop-i-test.true _ c.row-row.ensures c.part_of.ensures c.word.ensures.0
    (omega (arith, c.loop-i.invariant.as_long, c.requires.room))

pub loop-i-preserved : goal.loop-i-preserved
loop-i-preserved c =
    let t = c.args.turning.now in
    let connections = c.args.connections.now in
    let pairs = c.args.pairs.now in
    let i = c.loop-i.i in
    let here = c.loop-i-test.true in
    let mark = mark_of t.roads.text.now t.roads.rows.now t.marks.now in
    let turned = turned_pairs t.roads.text.now t.roads.rows.now t.marks.now connections pairs in
    let first = get_or connections (i * 7 + 5) 0 in
    let fit = c.requires.parts in
    let count : (j : ℕ) → j < length connections / 7 → length (turned j) ≡ get_or connections (j * 7 + 6) 0 * 2 =
    λ j h. pairs_count connections pairs fit j h t.roads.text.now t.roads.rows.now t.marks.now in
    -- these begin where those before them end
    let in_place : first * 2 ≡ length (joined i turned) =
    sym (place 7 5 6 (length pairs / 2) connections (omega arith) (omega arith) fit 2 turned count i here) in
    let part = pairs_put connections pairs fit i here _ _ _ _ c.row-row.ensures
    (c.marked-incoming.ensures ∙ ap mark c.at.ensures) (c.marked-connecting.ensures ∙ ap mark c.at-in-loop-i.ensures)
    c.part_of.ensures c.word.ensures.0 c.put_part.ensures in
    wrote_part c.loop-i.invariant here in_place part
    (omega (arith, pairs_listed connections pairs fit i here, count i here, rows_in (length pairs) 2, c.requires.room))
    (omega (arith, c.put_part.auto.out))

pub returns : goal.returns
returns c = wrote_all c.loop-i.invariant c.loop-i-test.false
