-- `lane_verdict`: a refusal of `map_verdict` stays; without one rules 6 to 8 are asked in their order.
use Rattle.std.proofs.Common.{true, not, sym, ap, ◌∙◌, arith}
use Rattle.std.proofs.lemmas.Result.{err_from_is_err_and}
use borrow.Author.Tests.{not-true}
use Rattle.model.specs.Calls.{lane_rules, rules_to5}
use Rattle.words.specs.Map.{lanes_read, map_read}
use Rattle.laws.proofs.RulesReversed.{pass_all}
use Rattle.rules.proofs.Forms.{identities_once_lem, lanes_listed_lem, roads_once_lem}
use Rattle.rules.proofs.Places.{keys_once_lem}
use Rattle.tables.proofs.Order.{broken_at, kept5, number_stays, parts_of, then_first}
use Rattle.tables.proofs.verdict.lane_verdict.Goals as goal

pub returns-in_err-map_verdict-clause-refusal : goal.returns-in_err-map_verdict-clause-refusal
unfolding rules_to5
returns-in_err-map_verdict-clause-refusal c =
    let t = lanes_read c.args.map.now c.args.lanes.now in
    let p = err_from_is_err_and c.from_residual.result c.from_residual.ensures.1 in
    rw (p.1, p.2) (number_stays (rules_to5 true true t) (lane_rules t) _ c.in_err-map_verdict.ensures.refusal)

pub returns-then-not-identities_once-clause-refusal : goal.returns-then-not-identities_once-clause-refusal
unfolding rules_to5 lane_rules
returns-then-not-identities_once-clause-refusal c =
    let t = lanes_read c.args.map.now c.args.lanes.now in
    let twice = identities_once_lem _ ∙ sym c.identities_once.ensures ∙ c.if-not-identities_once.true in
    then_first (rules_to5 true true t) (lane_rules t) c.in_ok-map_verdict.ensures.refusal
    (broken_at 0 (lane_rules t) tt twice)

pub over-roads-requires : goal.over-roads-requires
over-roads-requires c =
    (omega arith, ((omega arith, omega arith, c.requires.few.0.few_roads), c.in_ok-map_verdict.ensures.chained))

pub over-sections-requires : goal.over-sections-requires
over-sections-requires c =
    let kept = kept5 true true (map_read c.args.map.now) c.in_ok-map_verdict.ensures.refusal in
    parts_of _ _ _ kept.sections

pub lanes_listed-requires-clause-once : goal.lanes_listed-requires-clause-once
lanes_listed-requires-clause-once c =
    let kept = kept5 true true (map_read c.args.map.now) c.in_ok-map_verdict.ensures.refusal in
    rw (c.over-roads.ensures.0, c.over-roads.ensures.1) (not-true _ (sym (roads_once_lem _ _ _) ∙ kept.once))

pub returns-then-not-lanes_listed-clause-refusal : goal.returns-then-not-lanes_listed-clause-refusal
unfolding rules_to5 lane_rules
returns-then-not-lanes_listed-clause-refusal c =
    let t = lanes_read c.args.map.now c.args.lanes.now in
    let ids = identities_once_lem _ ∙ sym c.identities_once.ensures ∙ c.if-not-identities_once.false in
    let listed_is =
    rw (c.over-roads.ensures.0, c.over-roads.ensures.1, c.over-sections.ensures.1) at c.lanes_listed.ensures.value in
    let unlisted = lanes_listed_lem _ _ _ _ ∙ sym listed_is ∙ c.if-not-lanes_listed.true in
    then_first (rules_to5 true true t) (lane_rules t) c.in_ok-map_verdict.ensures.refusal
    (broken_at 1 (lane_rules t) (ids, tt) unlisted)

pub link_places-requires-clause-few : goal.link_places-requires-clause-few
link_places-requires-clause-few c = (c.requires.few.1, omega (arith, c.lanes_listed.auto.owner, c.requires.few.1))

pub returns-then-link_places-clause-refusal : goal.returns-then-link_places-clause-refusal
unfolding rules_to5 lane_rules
returns-then-link_places-clause-refusal c =
    let t = lanes_read c.args.map.now c.args.lanes.now in
    let ids = identities_once_lem _ ∙ sym c.identities_once.ensures ∙ c.if-not-identities_once.false in
    let listed_is =
    rw (c.over-roads.ensures.0, c.over-roads.ensures.1, c.over-sections.ensures.1) at c.lanes_listed.ensures.value in
    let every = sym listed_is ∙ c.if-not-lanes_listed.false in
    let owned = rw (c.over-roads.ensures.0, c.over-roads.ensures.1) at c.lanes_listed.ensures.owned in
    let twice =
    keys_once_lem _ _ _ _ _ every owned ∙ ap not (sym c.link_places.ensures.value ∙ c.if-link_places.true) in
    then_first (rules_to5 true true t) (lane_rules t) c.in_ok-map_verdict.ensures.refusal
    (broken_at 2 (lane_rules t) (ids, (lanes_listed_lem _ _ _ _ ∙ every, tt)) twice)

pub returns-clause-refusal : goal.returns-clause-refusal
unfolding rules_to5 lane_rules
returns-clause-refusal c =
    let t = lanes_read c.args.map.now c.args.lanes.now in
    let ids = identities_once_lem _ ∙ sym c.identities_once.ensures ∙ c.if-not-identities_once.false in
    let listed_is =
    rw (c.over-roads.ensures.0, c.over-roads.ensures.1, c.over-sections.ensures.1) at c.lanes_listed.ensures.value in
    let every = sym listed_is ∙ c.if-not-lanes_listed.false in
    let owned = rw (c.over-roads.ensures.0, c.over-roads.ensures.1) at c.lanes_listed.ensures.owned in
    let once =
    keys_once_lem _ _ _ _ _ every owned ∙ ap not (sym c.link_places.ensures.value ∙ c.if-link_places.false) in
    then_first (rules_to5 true true t) (lane_rules t) c.in_ok-map_verdict.ensures.refusal
    (sym (pass_all (lane_rules t) (ids, (lanes_listed_lem _ _ _ _ ∙ every, (once, tt)))))
