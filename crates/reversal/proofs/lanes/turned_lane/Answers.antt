use mathlib.Core.Path.{ap, ◌∙◌}
use Rattle.model.specs.Tables.{lane_in}
use Rattle.reversal.proofs.Places.{lane_turned, lane_within}
use Rattle.reversal.proofs.lanes.turned_lane.Goals as goal

pub lane_on-requires-clause-within : goal.lane_on-requires-clause-within
lane_on-requires-clause-within c =
    let o = c.args.owned.now in
    lane_within o.turning.roads.rows.now o.turning.sections.sections.now o.lanes.now o.owner.now c.args.i _
    (o.kept c.args.i c.requires) (c.at-lane.ensures ∙ ap lane_in c.row.ensures) c.numbers.ensures
    c.road-road.ensures

pub returns : goal.returns
returns c =
    lane_turned _ _ _ _ _ _ _ c.road-road.result.0 c.words.ensures c.lane_on.ensures
    (c.at-lane.ensures ∙ ap lane_in c.row.ensures) c.is_marked-mark.ensures c.numbers.ensures c.road-road.ensures
