-- `table_verdict` asks 1 of the edges; then a refusal of `succession_verdict` stays, and without one rule 10 decides.
use Rattle.std.proofs.Common.{◌≡◌, true, ◌&&◌, List, [], ◌∷◌, ◌++◌, sym, ◌∙◌}
use Rattle.std.proofs.Math.Option.{Option}
use Rattle.std.proofs.lemmas.Result.{err_from_is_err_and}
use Rattle.std.specs.Prelude.{ℕ, Float, drop}
use Rattle.model.specs.Calls.{lane_rules, rules_to5, succession_rules, table_rules}
use Rattle.model.specs.Rules.{edges_even, edges_fit, edges_sized, first_broken, lanes_sized, lanes_worded, map_sized}
use Rattle.model.specs.Rules.{Rule, map_worded, rule}
use Rattle.words.specs.Map.{all_read, lanes_read}
use Rattle.words.specs.declared.map.MapTables.{MapTables}
use Rattle.laws.proofs.RulesReversed.{pass_all}
use Rattle.tables.proofs.Order.{broken_at, few_lanes, kept5_more, more_broken, more_kept, number_stays, then_first}
use Rattle.tables.proofs.verdict.table_verdict.Goals as goal

module _ (m : MapTables) (lanes : List ℕ) (edges : List Float) where
  -- 10
  abbrev last : List Rule
  last = rule 10 (edges_fit (all_read m lanes edges)) ∷ []

  -- 1 to 8 of the tables that succession reads, and 10, where 1 is kept by the edges
  first_is : {o : Option ℕ} → edges_sized (all_read m lanes edges) ≡ true
      → o ≡ first_broken (succession_rules (lanes_read m lanes) ++ last)
      → o ≡ first_broken (table_rules (all_read m lanes edges))
  unfolding table_rules succession_rules rules_to5 lane_rules map_sized lanes_sized map_worded lanes_worded
  first_is kept first =
      let t = all_read m lanes edges in
      first ∙ more_kept 1 (map_sized 16384 t && lanes_sized t) (edges_sized t) (drop 1 (table_rules t)) kept

pub returns-then-not-fits-clause-refusal : goal.returns-then-not-fits-clause-refusal
unfolding table_rules rules_to5 edges_sized
returns-then-not-fits-clause-refusal c =
    let t = all_read c.args.map.now c.args.lanes.now c.args.edges.now in
    more_broken 1 (map_sized 16384 t && lanes_sized t) (edges_sized t) (drop 1 (table_rules t))
    (sym c.fits.ensures ∙ c.if-not-fits.true)

pub returns-in_err-succession_verdict-clause-refusal : goal.returns-in_err-succession_verdict-clause-refusal
unfolding edges_sized
returns-in_err-succession_verdict-clause-refusal c =
    let p = err_from_is_err_and c.from_residual.result c.from_residual.ensures.1 in
    rw (p.1, p.2) (first_is c.args.map.now c.args.lanes.now c.args.edges.now
    (sym c.fits.ensures ∙ c.if-not-fits.false)
    (number_stays (succession_rules (lanes_read c.args.map.now c.args.lanes.now)) _ _
    c.in_err-succession_verdict.ensures.refusal))

pub edges_fit-requires : goal.edges_fit-requires
unfolding succession_rules
edges_fit-requires c =
    let t = lanes_read c.args.map.now c.args.lanes.now in
    few_lanes t (kept5_more _ _ t (lane_rules t) c.in_ok-succession_verdict.ensures.refusal).sized

pub returns-then-not-edges_fit-clause-refusal : goal.returns-then-not-edges_fit-clause-refusal
unfolding edges_sized edges_even
returns-then-not-edges_fit-clause-refusal c =
    first_is c.args.map.now c.args.lanes.now c.args.edges.now (sym c.fits.ensures ∙ c.if-not-fits.false)
    (then_first (succession_rules (lanes_read c.args.map.now c.args.lanes.now)) _
    c.in_ok-succession_verdict.ensures.refusal
    (broken_at 0 (last c.args.map.now c.args.lanes.now c.args.edges.now) tt
    (sym c.edges_fit.ensures ∙ c.if-not-edges_fit.true)))

pub returns-clause-refusal : goal.returns-clause-refusal
unfolding edges_sized edges_even
returns-clause-refusal c =
    first_is c.args.map.now c.args.lanes.now c.args.edges.now (sym c.fits.ensures ∙ c.if-not-fits.false)
    (then_first (succession_rules (lanes_read c.args.map.now c.args.lanes.now)) _
    c.in_ok-succession_verdict.ensures.refusal
    (sym (pass_all (last c.args.map.now c.args.lanes.now c.args.edges.now)
    (sym c.edges_fit.ensures ∙ c.if-not-edges_fit.false, tt))))
