-- `map_verdict` asks rules 3 to 5 in their order: at each return those before it pass, and its own is broken.
use Rattle.std.proofs.Common.{true, not, refl, sym, ap, ◌∙◌}
use Rattle.model.specs.Calls.{rules_to5}
use Rattle.words.specs.Map.{map_read}
use Rattle.laws.proofs.RulesReversed.{pass_all}
use Rattle.rules.proofs.Forms.{roads_once_lem}
use Rattle.tables.proofs.Order.{broken_at}
use Rattle.tables.proofs.verdict.map_verdict.Goals as goal

pub returns-then-link_names-clause-refusal : goal.returns-then-link_names-clause-refusal
unfolding rules_to5
returns-then-link_names-clause-refusal c =
    let twice = roads_once_lem _ _ _ ∙ ap not (sym c.link_names.ensures.value ∙ c.if-link_names.true) in
    broken_at 2 (rules_to5 true true (map_read c.args.map.now))
    (refl, (refl, tt)) twice

pub returns-then-not-sections_fit-clause-refusal : goal.returns-then-not-sections_fit-clause-refusal
unfolding rules_to5
returns-then-not-sections_fit-clause-refusal c =
    let once = roads_once_lem _ _ _ ∙ ap not (sym c.link_names.ensures.value ∙ c.if-link_names.false) in
    broken_at 3 (rules_to5 true true (map_read c.args.map.now))
    (refl, (refl, (once, tt)))
    (sym c.sections_fit.ensures ∙ c.if-not-sections_fit.true)

pub returns-then-not-connections_fit-clause-refusal : goal.returns-then-not-connections_fit-clause-refusal
unfolding rules_to5
returns-then-not-connections_fit-clause-refusal c =
    let once = roads_once_lem _ _ _ ∙ ap not (sym c.link_names.ensures.value ∙ c.if-link_names.false) in
    let fit = sym c.sections_fit.ensures ∙ c.if-not-sections_fit.false in
    broken_at 4 (rules_to5 true true (map_read c.args.map.now))
    (refl, (refl, (once, (fit, tt))))
    (sym c.connections_fit.ensures ∙ c.if-not-connections_fit.true)

pub returns-clause-refusal : goal.returns-clause-refusal
unfolding rules_to5
returns-clause-refusal c =
    let once = roads_once_lem _ _ _ ∙ ap not (sym c.link_names.ensures.value ∙ c.if-link_names.false) in
    let fit = sym c.sections_fit.ensures ∙ c.if-not-sections_fit.false in
    let parts = sym c.connections_fit.ensures ∙ c.if-not-connections_fit.false in
    sym (pass_all (rules_to5 true true (map_read c.args.map.now))
    (refl, (refl, (once, (fit, (parts, tt))))))
