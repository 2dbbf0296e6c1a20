-- `succession_verdict` asks rules 1 and 2, and then those of `lane_verdict`.
use Rattle.std.proofs.Common.{◌++◌, sym, ap₂, ◌∙◌}
use Rattle.model.specs.Calls.{lane_rules, rules_to5, succession_rules}
use Rattle.model.specs.Rules.{first_broken}
use Rattle.words.specs.Map.{lanes_read}
use Rattle.tables.proofs.Order.{broken_at, few_lanes, few_map}
use Rattle.tables.proofs.verdict.succession_verdict.Goals as goal

pub returns-then-not-sized-clause-refusal : goal.returns-then-not-sized-clause-refusal
unfolding succession_rules rules_to5
returns-then-not-sized-clause-refusal c =
    broken_at 0 (succession_rules (lanes_read c.args.map.now c.args.lanes.now)) tt
    (sym c.sized.ensures ∙ c.if-not-sized.true)

pub returns-then-not-worded-clause-refusal : goal.returns-then-not-worded-clause-refusal
unfolding succession_rules rules_to5
returns-then-not-worded-clause-refusal c =
    broken_at 1 (succession_rules (lanes_read c.args.map.now c.args.lanes.now))
    (sym c.sized.ensures ∙ c.if-not-sized.false, tt) (sym c.worded.ensures ∙ c.if-not-worded.true)

pub lane_verdict-requires-clause-few : goal.lane_verdict-requires-clause-few
lane_verdict-requires-clause-few c =
    let t = lanes_read c.args.map.now c.args.lanes.now in
    let sized = sym c.sized.ensures ∙ c.if-not-sized.false in
    (few_map t sized, few_lanes t sized)

pub returns-clause-refusal : goal.returns-clause-refusal
unfolding succession_rules
returns-clause-refusal c =
    let t = lanes_read c.args.map.now c.args.lanes.now in
    c.lane_verdict.ensures.refusal
    ∙ ap₂ (λ sizes words. first_broken (rules_to5 sizes words t ++ lane_rules t))
    (sym c.if-not-sized.false ∙ c.sized.ensures) (sym c.if-not-worded.false ∙ c.worded.ensures)
