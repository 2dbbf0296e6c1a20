-- What reversal does to what the calls look up of roads and lanes: a road by its name, its sections, its
-- targets, a lane's links, the road that a link leads to.
use mathlib.Core.Path.{◌≡◌, refl, ◌∙◌, ap}
use mathlib.Core.Bool.{Bool, true, false, cond}
use mathlib.Core.Option.{Option, none, some}
use mathlib.Core.List.{List, [], map}
use Prim.Native.Nat.{ℕ, ◌+◌, ◌≤◌}
use Rattle.model.specs.Lists.{◌⊕◌, bind_o, head_or, last_or, map_o}
use Rattle.model.specs.Records.{Lane, Road, Span, Target, link_at, target_at}
use Rattle.model.specs.Repair.{road_of}
use Rattle.model.specs.Reversal.{leads_by, leads_to, mirror, mirrored, reverse_lane, reverse_link, reverse_road}
use Rattle.model.specs.Reversal.{reverse_target, road_named, roadward}
use Rattle.model.specs.Succession.{next_section, sections_from, sections_of}
use Rattle.laws.proofs.Basics.{first_map_lem, pick_end, ⊕-self}
use Rattle.laws.proofs.Mirror.{Bounded, next_section_mirrored}
use Rattle.laws.proofs.Names.{placed_bound, road_of_name, sections_of_ascend}
use Rattle.laws.proofs.Valid.{Ascends, Each, Placed, Steady}

-- sections, of a road that may be marked
pub next_section_reversed : (m : Bool) (ss : List ℕ) (s : ℕ) (e : Bool) → Bounded ss → s ≤ head_or 0 ss + last_or 0 ss →
    next_section (cond m (mirrored ss) ss) (cond m (mirror ss s) s) (m ⊕ e)
    ≡ map_o (λ i. cond m (mirror ss i) i) (next_section ss s e)
next_section_reversed true ss s e h k = next_section_mirrored ss s e h k
next_section_reversed false ss s e h k = same_some (next_section ss s e)
  where
    same_some : (o : Option ℕ) → o ≡ map_o (λ i. i) o
    same_some none = refl
    same_some (some i) = refl

module _ (mk : Span → Bool) where
  pub target_at_reversed : (e : Bool) (r : Road)
      → target_at e (reverse_road mk r) ≡ map_o (reverse_target mk) (target_at (mk r.name ⊕ e) r)
  unfolding reverse_road
  target_at_reversed e r = pick_end (λ b. map_o (reverse_target mk) (target_at b r)) (mk r.name) e

  pub road_named_reversed : (o : Option Target) → bind_o (map_o (reverse_target mk) o) road_named ≡ bind_o o road_named
  unfolding reverse_target
  road_named_reversed none = refl
  road_named_reversed (some t) = refl

module _ (same : Span → Span → Bool) (mk : Span → Bool) (S : Steady same mk) where
  pub road_of_reversed : (rs : List Road) (n : Span)
      → road_of same (map (reverse_road mk) rs) n ≡ map_o (reverse_road mk) (road_of same rs n)
  unfolding road_of reverse_road
  road_of_reversed rs n = first_map_lem (reverse_road mk) (λ r. same r.name n) rs

  pub sections_of_reversed : (rs : List Road) (n : Span)
      → sections_of same (map (reverse_road mk) rs) n
      ≡ cond (mk n) (mirrored (sections_of same rs n)) (sections_of same rs n)
  unfolding sections_of reverse_road mirrored
  sections_of_reversed rs n = rw (road_of_reversed rs n) (go (road_of same rs n) refl)
    where
      none_case : (b : Bool) → [] ≡ cond b (mirrored []) []
      none_case true = refl
      none_case false = refl

      go : (o : Option Road) → road_of same rs n ≡ o
          → sections_from (map_o (reverse_road mk) o) ≡ cond (mk n) (mirrored (sections_from o)) (sections_from o)
      go none q = none_case (mk n)
      go (some r) q = rw (S r.name n (road_of_name same rs n r q))

  pub roadward_reversed : (rs : List Road) (n : Span) (e : Bool)
      → roadward same (map (reverse_road mk) rs) n e ≡ roadward same rs n (mk n ⊕ e)
  unfolding roadward
  roadward_reversed rs n e = rw (road_of_reversed rs n) (go (road_of same rs n) refl)
    where
      go : (o : Option Road) → road_of same rs n ≡ o
          → bind_o (bind_o (map_o (reverse_road mk) o) (target_at e)) road_named
          ≡ bind_o (bind_o o (target_at (mk n ⊕ e))) road_named
      go none q = refl
      go (some r) q =
          ap {B = Option Span} (λ t. bind_o t road_named) (target_at_reversed mk e r)
          ∙ road_named_reversed mk (target_at (mk r.name ⊕ e) r)
          ∙ ap {B = Option Span} (λ b. bind_o (target_at (b ⊕ e) r) road_named)
          (S r.name n (road_of_name same rs n r q))

  module _ (rs : List Road) (asc : Each (λ r. Ascends r.sections) rs) where
    pub next_section_lane : (l : Lane) (e : Bool) → Placed same rs l →
        next_section (sections_of same (map (reverse_road mk) rs) l.road) (reverse_lane same mk rs l).section
        (mk l.road ⊕ e)
        ≡ map_o (λ i. cond (mk l.road) (mirror (sections_of same rs l.road) i) i)
        (next_section (sections_of same rs l.road) l.section e)
    unfolding reverse_lane
    next_section_lane l e p = rw (sections_of_reversed rs l.road)
        (next_section_reversed (mk l.road) (sections_of same rs l.road) l.section e
        (sections_of_ascend same rs l.road asc) (placed_bound same rs l asc p))

    pub leads_to_reversed : (l : Lane) (e : Bool) → Placed same rs l →
        leads_to same (map (reverse_road mk) rs) (reverse_lane same mk rs l) (mk l.road ⊕ e) ≡ leads_to same rs l e
    unfolding leads_to reverse_lane
    leads_to_reversed l e p =
        ap (leads_by same (map (reverse_road mk) rs) (reverse_lane same mk rs l) (mk l.road ⊕ e))
        (next_section_lane l e p)
        ∙ go (next_section (sections_of same rs l.road) l.section e)
      where
        go : (o : Option ℕ)
            → leads_by same (map (reverse_road mk) rs) (reverse_lane same mk rs l) (mk l.road ⊕ e)
            (map_o (λ i. cond (mk l.road) (mirror (sections_of same rs l.road) i) i) o)
            ≡ leads_by same rs l e o
        go (some s) = refl
        go none =
            roadward_reversed rs l.road (mk l.road ⊕ e)
            ∙ ap (roadward same rs l.road) (⊕-self (mk l.road) e)

    pub link_at_reversed : (l : Lane) (e : Bool)
        → link_at e (reverse_lane same mk rs l) ≡ reverse_link same mk rs l (mk l.road ⊕ e)
    unfolding reverse_lane
    link_at_reversed l e = pick_end (reverse_link same mk rs l) (mk l.road) e
