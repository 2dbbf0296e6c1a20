-- The order of the refusals: which rule is the first that is broken, and what an admission says.
use Prim.Native.Nat.{ℕ, zero, suc, ◌/◌, ◌≤◌}
use mathlib.Core.Path.{◌≡◌, refl, sym, ap, ◌∙◌}
use mathlib.Core.List.{List, [], ◌∷◌, ◌++◌}
use mathlib.Core.Bool.{Bool, true, false, ◌&&◌, cond, true≢false, not}
use mathlib.Core.Option.{Option, none, some}
use native.Mathlib.Omega.{arith}
use lib.ListN.{drop, get_or, length, take}
use lib.Dec.{eqb, leb}
use borrow.Author.Tests.{eqb-true}
use Rattle.model.specs.Calls.{gap_rules, lane_rules, rules_to5, table_rules}
use Rattle.model.specs.Lists.{every, is_some}
use Rattle.model.specs.Rows.{parts_fit, table}
use Rattle.model.specs.Rules.{Rule, connections_fit, edges_sized, first_broken, lanes_sized, lists_sized, map_sized}
use Rattle.model.specs.Rules.{marks_fit, roads_once, rule, section_parts_fit, sections_fit}
use Rattle.model.specs.Tables.{Tables}
use Rattle.laws.proofs.Basics.{no_some}
use Rattle.laws.proofs.RulesReversed.{Passes, all_pass, broken_append, unbroken_append}
use Rattle.words.proofs.Scans.{and_off, left_on, right_on}
use Rattle.rules.specs.ByRow.{Few}
use Rattle.rules.proofs.Counts.{few, junctions_few, lanes_few}

-- ---- the first rule that is broken
-- the rule in place k; one that passes past the end
abbrev pub rule_at : List Rule → ℕ → Rule
rule_at rules k = get_or rules k (rule 0 true)

-- THE REFUSAL: all rules before place k pass, and that one does not
pub broken_at : (k : ℕ) (rules : List Rule) → Passes (take k rules) → (rule_at rules k).passes ≡ false
    → some (rule_at rules k).number ≡ first_broken rules
broken_at k [] before broken = absurd (true≢false broken)
broken_at zero (r ∷ rules) before broken = sym (ap (λ b. cond b (first_broken rules) (some r.number)) broken)
broken_at (suc k) (r ∷ rules) before broken =
    broken_at k rules before.1 broken
    ∙ sym (ap (λ b. cond b (first_broken rules) (some r.number)) before.0)

-- where none is broken, each passes
pub passes_at : (k : ℕ) (rules : List Rule) → none ≡ first_broken rules → (rule_at rules k).passes ≡ true
passes_at k rules none-broken = go k rules (all_pass rules (sym none-broken))
  where
    go : (k : ℕ) (rules : List Rule) → Passes rules → (rule_at rules k).passes ≡ true
    go k [] pass = refl
    go zero (r ∷ rules) pass = pass.0
    go (suc k) (r ∷ rules) pass = go k rules pass.1

-- ---- rules after others
-- a refusal by the first of them stays
pub first_stays : (xs ys : List Rule) (o : Option ℕ) → (o ≡ none → ⊥) → o ≡ first_broken xs
    → o ≡ first_broken (xs ++ ys)
first_stays [] ys o some-number first = absurd (some-number first)
first_stays (x ∷ xs) ys o some-number first = go x.passes first (first_stays xs ys o some-number)
  where
    go : (b : Bool) → o ≡ cond b (first_broken xs) (some x.number)
        → (o ≡ first_broken xs → o ≡ first_broken (xs ++ ys))
        → o ≡ cond b (first_broken (xs ++ ys)) (some x.number)
    go true first rest = rest first
    go false first rest = first

-- a number that the first of them gives stays
pub number_stays : (xs ys : List Rule) (k : ℕ) → some k ≡ first_broken xs → some k ≡ first_broken (xs ++ ys)
number_stays xs ys k first = first_stays xs ys (some k) (λ e. no_some k (sym e)) first

-- where they all pass, those after them decide
pub then_first : (xs ys : List Rule) {o : Option ℕ} → none ≡ first_broken xs → o ≡ first_broken ys
    → o ≡ first_broken (xs ++ ys)
then_first xs ys pass first = first ∙ sym (broken_append xs ys (sym pass))

-- ---- a verdict
-- a refusal is no admission
pub refused : {A : Type 0} (k : ℕ) → some k ≡ none → A
refused k e = absurd (no_some k (sym e))

pub is_none : (o : Option ℕ) → not (is_some o) ≡ true → o ≡ none
is_none none e = refl
is_none (some k) e = absurd (true≢false (sym e))

pub is_some_lem : (o : Option ℕ) → not (is_some o) ≡ false → o ≡ none → ⊥
is_some_lem none e z = true≢false e
is_some_lem (some k) e z = no_some k (sym z)

-- ---- a first rule that asks more
-- nothing more is broken
pub more_kept : (k : ℕ) (b more : Bool) (rs : List Rule) → more ≡ true
    → first_broken (rule k b ∷ rs) ≡ first_broken (rule k (b && more) ∷ rs)
more_kept k b more rs kept = ap (λ x. first_broken (rule k x ∷ rs)) (sym (rw kept (and_true b)))
  where
    and_true : (b : Bool) → (b && true) ≡ b
    and_true true = refl
    and_true false = refl

-- what more it asks is broken
pub more_broken : (k : ℕ) (b more : Bool) (rs : List Rule) → more ≡ false
    → some k ≡ first_broken (rule k (b && more) ∷ rs)
more_broken k b more rs broken = broken_at 0 (rule k (b && more) ∷ rs) tt (and_off b more broken)

-- the gap check's first nine rules, where its lists keep 1
pub nine_sized : (t : Tables) (offsets ids : List ℕ) → lists_sized offsets ids ≡ true
    → first_broken (table_rules t) ≡ first_broken (take 9 (gap_rules t offsets ids))
unfolding table_rules gap_rules rules_to5 lane_rules
nine_sized t offsets ids kept =
    more_kept 1 (map_sized 16384 t && lanes_sized t && edges_sized t) (lists_sized offsets ids)
    (drop 1 (table_rules t)) kept

-- and where they break it
pub nine_unsized : (t : Tables) (offsets ids : List ℕ) → lists_sized offsets ids ≡ false
    → some 1 ≡ first_broken (take 9 (gap_rules t offsets ids))
unfolding gap_rules rules_to5 lane_rules
nine_unsized t offsets ids broken =
    more_broken 1 (map_sized 16384 t && lanes_sized t && edges_sized t) (lists_sized offsets ids)
    (drop 1 (take 9 (gap_rules t offsets ids))) broken

-- ---- what rule 1 says of the map and its lanes
module _ (t : Tables) (sized : (map_sized 16384 t && lanes_sized t) ≡ true) where
  pub few_map : Few t.roads t.sections t.connections t.pairs
  few_map = few 16384 t (omega arith) (left_on (map_sized 16384 t) (lanes_sized t) sized)

  pub few_junctions : length t.junctions / 5 ≤ 16384
  few_junctions = junctions_few 16384 t (left_on (map_sized 16384 t) (lanes_sized t) sized)

  pub few_lanes : length t.lanes / 10 ≤ 16384
  few_lanes = lanes_few t (right_on (map_sized 16384 t) (lanes_sized t) sized)

-- ---- what an admission says
pub record Kept5 (sizes words : Bool) (t : Tables) : Type 0 where
  pub sized : sizes ≡ true
  pub once : roads_once t ≡ true
  pub sections : sections_fit t ≡ true
  pub connections : connections_fit t ≡ true

pub kept5 : (sizes words : Bool) (t : Tables) → none ≡ first_broken (rules_to5 sizes words t) → Kept5 sizes words t
unfolding rules_to5
kept5 sizes words t none-broken =
    let rules = rules_to5 sizes words t in
    record {
      sized = passes_at 0 rules none-broken;
      once = passes_at 2 rules none-broken;
      sections = passes_at 3 rules none-broken;
      connections = passes_at 4 rules none-broken;
    }

-- the same with more rules after them
pub kept5_more : (sizes words : Bool) (t : Tables) (more : List Rule)
    → none ≡ first_broken (rules_to5 sizes words t ++ more) → Kept5 sizes words t
kept5_more sizes words t more none-broken =
    kept5 sizes words t (sym (unbroken_append (rules_to5 sizes words t) more (sym none-broken)).0)

pub parts_of : (sections roads : List ℕ) (b : Bool) → (section_parts_fit sections roads && b) ≡ true
    → parts_fit 18 19 0 (length sections) (table 20 roads) ≡ true
unfolding section_parts_fit
parts_of sections roads b e = left_on (parts_fit 18 19 0 (length sections) (table 20 roads)) b e

pub marks_count : (roads marks : List ℕ) → marks_fit roads marks ≡ true → length roads / 20 ≡ length marks
unfolding marks_fit
marks_count roads marks e =
    let counted = left_on (eqb (length roads / 20) (length marks)) (every (λ k. leb k 1) marks) e in
    eqb-true (length roads / 20) (length marks) counted
