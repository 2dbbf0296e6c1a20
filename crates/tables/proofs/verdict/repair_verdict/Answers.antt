-- `repair_verdict` asks rules 1 and 2, and then those of `map_verdict`.
use Rattle.std.proofs.Common.{sym, ap₂, ◌∙◌, arith}
use Rattle.model.specs.Calls.{repair_rules, rules_to5}
use Rattle.model.specs.Rules.{first_broken}
use Rattle.words.specs.Map.{map_read}
use Rattle.rules.proofs.Counts.{few}
use Rattle.tables.proofs.Order.{broken_at}
use Rattle.tables.proofs.verdict.repair_verdict.Goals as goal

pub returns-then-not-map_sized-clause-refusal : goal.returns-then-not-map_sized-clause-refusal
unfolding repair_rules rules_to5
returns-then-not-map_sized-clause-refusal c =
    broken_at 0 (repair_rules (map_read c.args.map.now)) tt (sym c.map_sized.ensures ∙ c.if-not-map_sized.true)

pub returns-then-not-map_worded-clause-refusal : goal.returns-then-not-map_worded-clause-refusal
unfolding repair_rules rules_to5
returns-then-not-map_worded-clause-refusal c =
    broken_at 1 (repair_rules (map_read c.args.map.now)) (sym c.map_sized.ensures ∙ c.if-not-map_sized.false, tt)
    (sym c.map_worded.ensures ∙ c.if-not-map_worded.true)

pub map_verdict-requires-clause-few : goal.map_verdict-requires-clause-few
map_verdict-requires-clause-few c =
    few 8192 (map_read c.args.map.now) (omega arith) (sym c.map_sized.ensures ∙ c.if-not-map_sized.false)

pub returns-clause-refusal : goal.returns-clause-refusal
unfolding repair_rules
returns-clause-refusal c =
    c.map_verdict.ensures.refusal
    ∙ ap₂ (λ sizes words. first_broken (rules_to5 sizes words (map_read c.args.map.now)))
    (sym c.if-not-map_sized.false ∙ c.map_sized.ensures) (sym c.if-not-map_worded.false ∙ c.map_worded.ensures)
