-- Rules 12, 13 and 14 over the tables are those over the map: by road, by junction.
use mathlib.Core.Path.{◌≡◌, refl, sym, ◌∙◌, ap, ap₂}
use mathlib.Core.Bool.{Bool, true, false, not, ◌&&◌, ◌||◌}
use mathlib.Core.List.{List, [], ◌∷◌}
use Prim.Native.Nat.{ℕ, suc, ◌*◌, ◌/◌}
use native.Mathlib.Nat.{mul-div_cancel}
use native.Mathlib.Omega.{arith}
use lib.Dec.{eqb, leb}
use lib.ListN.{length}
use borrow.Author.Tests.{eq-eqb, ne_eqb, eqb-true, eqb-false}
use Rattle.model.specs.Lists.{every, gather, some?}
use Rattle.model.specs.Records.{Connection, Junction, Map, Road, Span}
use Rattle.model.specs.Rules.{is_direct, marks_fit, names_direct_twice, names_twice, one_ended_in, pair_fine}
use Rattle.model.specs.Tables.{all_connections, all_pairs, road_words}
use Rattle.laws.proofs.ForEach.{each}
use Rattle.laws.proofs.ListTests.{every_ext, every_gather}
use Rattle.laws.proofs.Valid.{junction_fine, mark_for, none_twice}

-- ---- 12
eqb_suc : (m n : ℕ) → eqb (suc m) (suc n) ≡ eqb m n
eqb_suc m n = go (eqb m n) refl
  where
    go : (b : Bool) → eqb m n ≡ b → eqb (suc m) (suc n) ≡ b
    go true e = eq-eqb (suc m) (suc n) (ap suc (eqb-true m n e))
    go false e = ne_eqb (suc m) (suc n) (λ z. eqb-false m n e (omega arith))

pub mark_form : (rs : List Road) (ks : List ℕ)
    → mark_for rs ks ≡ (eqb (length rs) (length ks) && every (λ k. leb k 1) ks)
mark_form [] [] = refl
mark_form [] (k ∷ ks) =
    sym (ap (λ b. b && every (λ k. leb k 1) (k ∷ ks)) (ne_eqb 0 (suc (length ks)) (λ z. omega arith)))
mark_form (r ∷ rs) [] = sym (ap (λ b. b && true) (ne_eqb (suc (length rs)) 0 (λ z. omega arith)))
mark_form (r ∷ rs) (k ∷ ks) =
    ap (λ b. leb k 1 && b) (mark_form rs ks)
    ∙ swap (leb k 1) (eqb (length rs) (length ks)) (every (λ k. leb k 1) ks)
    ∙ ap (λ b. b && (leb k 1 && every (λ k. leb k 1) ks)) (sym (eqb_suc (length rs) (length ks)))
  where
    swap : (a b c : Bool) → (a && (b && c)) ≡ (b && (a && c))
    swap true b c = refl
    swap false true c = refl
    swap false false c = refl

pub marks_form : (rs : List Road) (ks : List ℕ) → length (road_words rs) ≡ length rs * 20
    → marks_fit (road_words rs) ks ≡ mark_for rs ks
unfolding marks_fit
marks_form rs ks e = ap (λ (n : ℕ). eqb (n / 20) (length ks) && every (λ k. leb k 1) ks) e
    ∙ ap (λ (n : ℕ). eqb n (length ks) && every (λ k. leb k 1) ks) (mul-div_cancel (length rs) (omega arith))
    ∙ sym (mark_form rs ks)

-- ---- 13
pub pairs_form : (js : List Junction) → every pair_fine (all_pairs js) ≡ every junction_fine js
unfolding all_pairs all_connections junction_fine
pairs_form js = every_gather pair_fine (λ (c : Connection). c.pairs) (gather (λ (j : Junction). j.connections) js)
    ∙ every_gather (λ (c : Connection). every pair_fine c.pairs) (λ (j : Junction). j.connections) js

-- ---- 14: roads outside and junctions inside, or the other way round
module _ {J R : Type 0} (d : J → Bool) (mk : R → Bool) (nt : J → R → Bool) where
  every_and : (a b : R → Bool) (rs : List R) → every (λ r. a r && b r) rs ≡ (every a rs && every b rs)
  every_and a b [] = refl
  every_and a b (r ∷ rs) = ap (λ x. (a r && b r) && x) (every_and a b rs) ∙ go (a r) (b r) (every a rs) (every b rs)
    where
      go : (x y u v : Bool) → ((x && y) && (u && v)) ≡ ((x && u) && (y && v))
      go true true u v = refl
      go true false true v = refl
      go true false false v = refl
      go false y u v = refl

  every_true : (rs : List R) → every (λ r. not (mk r && false)) rs ≡ true
  every_true [] = refl
  every_true (r ∷ rs) = go (mk r) (every_true rs)
    where
      go : (x : Bool) → every (λ r. not (mk r && false)) rs ≡ true
          → (not (x && false) && every (λ r. not (mk r && false)) rs) ≡ true
      go true e = e
      go false e = e

  guarded : (x : Bool) (j : J) (rs : List R)
      → (not x || every (λ r. not (mk r && nt j r)) rs) ≡ every (λ r. not (mk r && (x && nt j r))) rs
  guarded true j rs = refl
  guarded false j rs = sym (every_true rs)

  roads_outside : (js : List J) (rs : List R)
      → every (λ j. not (d j) || every (λ r. not (mk r && nt j r)) rs) js
      ≡ every (λ r. not (mk r && some? (λ j. d j && nt j r) js)) rs
  roads_outside [] rs = sym (every_true rs)
  roads_outside (j ∷ js) rs =
      ap₂ ◌&&◌ (guarded (d j) j rs) (roads_outside js rs)
      ∙ sym (every_and (λ r. not (mk r && (d j && nt j r))) (λ r. not (mk r && some? (λ j. d j && nt j r) js)) rs)
      ∙ every_ext (λ r. not (mk r && (d j && nt j r)) && not (mk r && some? (λ j. d j && nt j r) js))
      (λ r. not (mk r && ((d j && nt j r) || some? (λ j. d j && nt j r) js))) rs
      (each (λ r. go (mk r) (d j && nt j r) (some? (λ j. d j && nt j r) js)) rs)
    where
      go : (m x y : Bool) → (not (m && x) && not (m && y)) ≡ not (m && (x || y))
      go true true y = refl
      go true false y = refl
      go false x y = refl

pub ends_form : (same : Span → Span → Bool) (mk : Span → Bool) (m : Map)
    → one_ended_in same mk m.junctions m.roads ≡ none_twice same mk m
unfolding one_ended_in names_direct_twice none_twice
ends_form same mk m =
    sym (roads_outside (λ (j : Junction). is_direct j.kind) (λ (r : Road). mk r.name)
    (λ (j : Junction) (r : Road). names_twice same j.name r) m.junctions m.roads)
