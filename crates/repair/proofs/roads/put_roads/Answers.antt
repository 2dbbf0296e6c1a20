use Rattle.std.proofs.Common.{arith, sym, ap, ◌∙◌, ℕ, ◌*◌, List}
use Rattle.repair.proofs.Piles.{gather_tab}
use Rattle.repair.proofs.RoadWords.{road_width_lem, roads_width}
use Rattle.repair.specs.Along.{road_now_words}
use Rattle.words.proofs.Laws.{put_step, written_none}
use Rattle.words.specs.Rows.{tab, spliced}
use Rattle.repair.proofs.roads.put_roads.Goals as goal

pub loop-road-init : goal.loop-road-init
unfolding tab
loop-road-init c = sym (written_none _)

pub loop-road-preserved : goal.loop-road-preserved
loop-road-preserved c =
    let m = c.args.reads.now.map in
    let words : ℕ → List ℕ = road_now_words m.roads.now m.junctions.now c.args.ends.now.words in
    let r = c.loop-road.road in
    let twenty = road_width_lem m.roads.now m.junctions.now c.args.ends.now.words r in
    put_step _ (words r) _ c.loop-road.invariant
    (c.put.ensures ∙ ap (λ (x : List ℕ). spliced (r * 20) x c.loop-road.out) c.road_row-row.ensures)
    (sym (roads_width _ _ _ r)) (gather_tab words (λ r. r) r) (omega arith)
