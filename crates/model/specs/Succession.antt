-- "Succession": the lanes that can be driven into from each lane, and those before it. Definitions only.
use Rattle.std.specs.Prelude.{Bool, true, false, not, ◌&&◌, cond, List, [], ◌++◌, map, ℕ, eqb, ltb}
use Rattle.std.proofs.Math.Option.{Option, none, some}
use Rattle.geometry.specs.declared.gap.Direction.{Direction}
use Rattle.geometry.specs.declared.gap.Direction.TheVariants.{Forward, Backward, Both}
use Rattle.model.specs.Lists.{pick, keep, first, final, head_or, last_or, bind_o, gather, list_o, sort, member, once}
use Rattle.model.specs.Records.{Span, Target, Road, Connection, Junction, Map, Lane, target_at, link_at}
use Rattle.model.specs.Repair.{road_of}

-- A lane that is entered, and the end of its road at which it is.
pub record Entry : Type 0 where
  pub lane : Lane
  pub contact : Bool

-- is a lane two-way?
abbrev pub is_both : Direction → Bool
is_both Forward = false
is_both Backward = false
is_both Both = true

-- does traffic that enters at this end run away from it?
abbrev pub away : Direction → Bool → Bool
away Forward e = not e
away Backward e = e
away Both e = true

unfoldable pub runs_away : Entry → Bool
runs_away x = away x.lane.direction x.contact

unfoldable pub entry_id : Entry → ℕ
entry_id x = x.lane.identity

-- the sections of a road; none of an unknown one
abbrev pub sections_from : Option Road → List ℕ
sections_from none = []
sections_from (some r) = r.sections

-- "Within a road the next section is the next listed number": the first past s towards an end
unfoldable pub next_section : List ℕ → ℕ → Bool → Option ℕ
next_section ss s e = pick e (final (λ i. ltb i s) ss) (first (λ i. ltb s i) ss)

-- the section at an end: the Rust's first_section and last_section
unfoldable pub end_section : List ℕ → Bool → ℕ
end_section ss e = pick e (head_or 0 ss) (last_or 0 ss)

-- same: are two names equal?
module _ (same : Span → Span → Bool) where
  unfoldable pub sections_of : List Road → Span → List ℕ
  sections_of rs n = sections_from (road_of same rs n)

  -- "The registry holds each lane under road, section and number."
  unfoldable pub stands_at : Span → ℕ → ℕ → Lane → Bool
  stands_at n s k l = same l.road n && eqb l.section s && eqb l.number k

  -- the lanes registered there, entered at end e; rule 8 lets at most one be
  unfoldable pub lookup : List Lane → Span → ℕ → Bool → ℕ → List Entry
  lookup ls n s e k = map (λ l. record { lane = l; contact = e }) (keep (stands_at n s k) ls)

  -- the lanes numbered k in the section at end e of road n
  unfoldable pub lookup_at_end : Map → Span → Bool → ℕ → List Entry
  lookup_at_end m n e k = lookup m.lanes n (end_section (sections_of m.roads n) e) e k

  -- through a connection: its pairs from lane number k
  unfoldable pub through_pairs : Map → Connection → ℕ → List Entry
  through_pairs m c k =
      gather (λ p. lookup_at_end m c.connecting c.contact p.to) (keep (λ p. eqb p.from k) c.pairs)

  -- through a junction: its connections from road n
  unfoldable pub through_junction : Map → Span → ℕ → Junction → List Entry
  through_junction m n k j = gather (λ c. through_pairs m c k) (keep (λ c. same c.incoming n) j.connections)

  -- "Of junctions with one name the last row counts."
  unfoldable pub junction_of : List Junction → Span → Option Junction
  junction_of js n = final (λ j. same j.name n) js

  -- what a target leads lane l, with link o there, into: a road's lane at the target's contact point, or a
  -- junction's connections
  abbrev pub cross : Map → Lane → Option ℕ → Target → List Entry
  cross m l o t = cond t.is_junction
      (list_o (junction_of m.junctions t.name) (through_junction m l.road l.number))
      (list_o o (lookup_at_end m t.name t.contact))

  -- "past the last one, the target decides"
  abbrev pub exits_by : Map → Lane → Bool → Option ℕ → List Entry
  exits_by m l e (some s) = list_o (link_at e l) (lookup m.lanes l.road s (not e))
  exits_by m l e none = list_o (bind_o (road_of same m.roads l.road) (target_at e)) (cross m l (link_at e l))

  -- the lanes reached by driving off lane l at its road's start or end
  unfoldable pub exits : Map → Lane → Bool → List Entry
  exits m l e = exits_by m l e (next_section (sections_of m.roads l.road) l.section e)

  -- "One-way lists keep duplicates; a two-way lane's own exits are filtered by entry contact and deduplicated"
  abbrev pub successors_by : Map → Lane → Direction → List ℕ
  successors_by m l Forward = sort (map entry_id (exits m l true))
  successors_by m l Backward = sort (map entry_id (exits m l false))
  successors_by m l Both = once (sort (map entry_id (keep runs_away (exits m l true ++ exits m l false))))

  -- the successors that a lane finds by its own links
  unfoldable pub successors_of : Map → Lane → List ℕ
  successors_of m l = successors_by m l l.direction

  -- does two-way lane b find lane l, which does not find b?
  unfoldable pub finds_back : Map → Lane → Lane → Bool
  finds_back m l b = is_both b.direction && member l.identity (successors_of m b)
      && not (member b.identity (successors_of m l))

  -- "a link between two two-way lanes is added in the other direction if missing"
  unfoldable pub back_links : Map → Lane → List ℕ
  back_links m l = cond (is_both l.direction) (map (λ b. b.identity) (keep (finds_back m l) m.lanes)) []

  -- THE LANES ONWARD: "Lists ascend by identity."
  unfoldable pub successors : Map → Lane → List ℕ
  successors m l = sort (successors_of m l ++ back_links m l)

  -- THE LANES BEFORE: "the finished lists onward read the other way, repeats kept"
  unfoldable pub predecessors : Map → Lane → List ℕ
  predecessors m l = sort (gather (λ a. map (λ i. a.identity) (keep (eqb l.identity) (successors m a))) m.lanes)

  -- the two lists of every lane, in lane row order
  unfoldable pub successor_lists : Map → List (List ℕ)
  successor_lists m = map (successors m) m.lanes

  unfoldable pub predecessor_lists : Map → List (List ℕ)
  predecessor_lists m = map (predecessors m) m.lanes
