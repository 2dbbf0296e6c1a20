-- Packed lists are read back, and the lists of an accepted succession are each other's converse, so those that
-- repair, succession and the gap check find are too.
use mathlib.Core.Path.{◌≡◌, refl, sym, ◌∙◌, ap, ap₂, subst}
use mathlib.Core.Bool.{true, false≢true}
use mathlib.Core.Option.{Option, none, some, none-ne-some, some-injective}
use mathlib.Core.List.{List, [], ◌∷◌, ◌++◌, map, append_assoc, Memᴰ}
use Prim.Native.Nat.{ℕ, zero, suc, ◌+◌, ◌-◌, ◌/◌, ◌<◌}
use native.Mathlib.Nat.{le_of_suc-le-suc, not-suc-le-zero}
use native.Mathlib.Omega.{arith}
use lib.ListN.{length, take, get_or, length-append, length-map}
use lib.Seq.{drop_at, take-append_seam}
use borrow.Author.Tests.{eqb-true}
use Rattle.model.specs.Calls.{Answer, ListOutputs, Outcome, RepairOutputs, list_content, list_lengths}
use Rattle.model.specs.Calls.{list_writing, long_enough, put_lists, refused, repair_call, succession_call}
use Rattle.model.specs.Calls.{succession_rules, wrote}
use Rattle.model.specs.Claim.{Mutual, found_lists, identity_at, is_two_way, list_at, list_rows}
use Rattle.model.specs.Lists.{count, member}
use Rattle.model.specs.Lookup.{lists_after, lists_in, offsets_from, packed}
use Rattle.model.specs.Records.{Lane}
use Rattle.model.specs.Rows.{part, table, word}
use Rattle.model.specs.Rules.{Rule, first_broken, identities_once, ids_once, same}
use Rattle.model.specs.Sequence.{Buffers, by_lists, by_repair, found, from_repaired, is_accepted, with_repaired}
use Rattle.model.specs.Succession.{is_both, predecessor_lists, predecessors, successor_lists, successors}
use Rattle.model.specs.Tables.{Tables, direction_of, lane_in, lanes_in, lanes_of, map_of}
use Rattle.laws.proofs.Lay.{length_table, take_written}
use Rattle.laws.proofs.RulesReversed.{unbroken_append}
use Rattle.laws.proofs.WordsReversed.{listable, outcome_by}
use Rattle.laws.proofs.Converse as conv

-- ---- packed and read back
unpack_head : (ids : List ℕ) (k n : ℕ) (ls : List (List ℕ))
    → lists_after ids k (offsets_from n ls) ≡ part k (n - k) ids ∷ lists_in (offsets_from n ls) ids
unpack_head ids k n [] = refl
unpack_head ids k n (l ∷ ls) = refl

unpack_at : (pre : List ℕ) (ls : List (List ℕ)) → lists_in (offsets_from (length pre) ls) (pre ++ packed ls) ≡ ls
unpack_at pre [] = refl
unpack_at pre (l ∷ ls) = unpack_head (pre ++ (l ++ packed ls)) (length pre) (length pre + length l) ls
    ∙ ap₂ {C = List (List ℕ)} (λ a b. a ∷ b)
    (ap₂ (λ (n : ℕ) (xs : List ℕ). take n xs) width (drop_at pre (l ++ packed ls) (length pre) refl)
    ∙ take-append_seam l (packed ls))
    (ap₂ (λ (n : ℕ) (xs : List ℕ). lists_in (offsets_from n ls) xs) (sym (length-append pre l))
    (sym (append_assoc pre l (packed ls)))
    ∙ unpack_at (pre ++ l) ls)
  where
    width : (length pre + length l) - length pre ≡ length l
    width = omega arith

pub unpack : (ls : List (List ℕ)) → lists_in (offsets_from 0 ls) (packed ls) ≡ ls
unpack ls = unpack_at [] ls

-- ---- rows of a list
pub member_at : {A : Type 0} (l : List A) (i : ℕ) (d : A) → i < length l → Memᴰ (get_or l i d) l
member_at [] i d h = absurd (not-suc-le-zero h)
member_at (x ∷ xs) zero d h = Memᴰ.head refl
member_at (x ∷ xs) (suc i) d h = Memᴰ.tail (member_at xs i d (le_of_suc-le-suc h))

pub map_at : {A B : Type 0} (f : A → B) (l : List A) (i : ℕ) (d : A) (e : B) → i < length l
    → get_or (map f l) i e ≡ f (get_or l i d)
map_at f [] i d e h = absurd (not-suc-le-zero h)
map_at f (x ∷ xs) zero d e h = refl
map_at f (x ∷ xs) (suc i) d e h = map_at f xs i d e (le_of_suc-le-suc h)

module _ (t : Tables) where
  pub lanes_count : length (lanes_of t) ≡ length t.lanes / 10
  unfolding lanes_in
  lanes_count = length-map (table 10 t.lanes) lane_in ∙ length_table 10 t.lanes

  -- the lane of a row
  abbrev pub lane : ℕ → Lane
  lane i = lane_in (get_or (table 10 t.lanes) i [])

  pub lane_at_lem : (i : ℕ) → i < length t.lanes / 10 → get_or (lanes_of t) i (lane_in []) ≡ lane i
  unfolding lanes_in
  lane_at_lem i h =
      map_at lane_in (table 10 t.lanes) i [] (lane_in []) (omega (arith, length_table 10 t.lanes))

  lane_in_lem : (i : ℕ) → i < length t.lanes / 10 → Memᴰ (lane i) (lanes_of t)
  lane_in_lem i h =
      subst (λ l. Memᴰ l (lanes_of t)) (lane_at_lem i h)
      (member_at (lanes_of t) i (lane_in []) (omega (arith, lanes_count)))

  list_at_lem : (f : Lane → List ℕ) (i : ℕ) → i < length t.lanes / 10 → get_or (map f (lanes_of t)) i [] ≡ f (lane i)
  list_at_lem f i h = map_at f (lanes_of t) i (lane_in []) [] (omega (arith, lanes_count)) ∙ ap f (lane_at_lem i h)

  pub successors_at : (i : ℕ) → i < length t.lanes / 10
      → list_at (list_content t).successor_offsets (list_content t).successor_ids i
      ≡ successors (same t) (map_of t) (lane i)
  unfolding list_content
  successors_at i h =
      ap (λ (ls : List (List ℕ)). get_or ls i []) (unpack (successor_lists (same t) (map_of t)))
      ∙ (unfold successor_lists map_of in list_at_lem (successors (same t) (map_of t)) i h)

  pub predecessors_at : (i : ℕ) → i < length t.lanes / 10
      → list_at (list_content t).predecessor_offsets (list_content t).predecessor_ids i
      ≡ predecessors (same t) (map_of t) (lane i)
  unfolding list_content
  predecessors_at i h =
      ap (λ (ls : List (List ℕ)). get_or ls i []) (unpack (predecessor_lists (same t) (map_of t)))
      ∙ (unfold predecessor_lists map_of in list_at_lem (predecessors (same t) (map_of t)) i h)

  pub mutual_content : identities_once t ≡ true → Mutual t.lanes (list_content t)
  unfolding ids_once lane_in map_of
  mutual_content once = record {
    converse = λ i j i-in j-in. ap (count (identity_at t.lanes j)) (successors_at i i-in)
        ∙ conv.converse (same t) (map_of t) once (lane i) (lane j) (lane_in_lem i i-in)
        ∙ ap (count (identity_at t.lanes i)) (sym (predecessors_at j j-in));
    two_way = λ i j i-in j-in i-both j-both. ap (member (identity_at t.lanes j)) (successors_at i i-in)
        ∙ conv.both_or_neither (same t) (map_of t) once (lane i) (lane j) (lane_in_lem i i-in) (lane_in_lem j j-in)
        (both i i-both) (both j j-both)
        ∙ ap (member (identity_at t.lanes i)) (sym (successors_at j j-in));
  }
    where
      both : (i : ℕ) → is_two_way t.lanes i ≡ true → is_both (lane i).direction ≡ true
      both i two_way =
          ap (λ (k : ℕ). is_both (direction_of k)) (eqb-true (word (get_or (table 10 t.lanes) i []) 5) 2 two_way)

  rows_content : (o : ListOutputs)
      → list_rows (list_lengths (list_content t)) (put_lists (list_content t) o) ≡ list_content t
  unfolding list_rows list_lengths put_lists
  rows_content o =
      let c = list_content t in
      λ i. record {
        successor_offsets = take_written c.successor_offsets o.successor_offsets _ refl i;
        successor_ids = take_written c.successor_ids o.successor_ids _ refl i;
        predecessor_offsets = take_written c.predecessor_offsets o.predecessor_offsets _ refl i;
        predecessor_ids = take_written c.predecessor_ids o.predecessor_ids _ refl i;
      }

  -- an accepted succession: no rule is broken, and the rows that it wrote are its content
  pub mutual_lists : (o : ListOutputs) (counts : List ℕ) → (succession_call t o).answer ≡ wrote counts
      → Mutual t.lanes (list_rows counts (succession_call t o).outs)
  unfolding succession_call
  mutual_lists o counts a = go (first_broken (succession_rules t ++ nine)) refl a
    where
      nine : List Rule
      nine = long_enough (list_lengths (list_content t)) (list_lengths o)

      counts_of : Answer → List ℕ
      counts_of (refused k) = []
      counts_of (wrote ns) = ns

      by : Option ℕ → Outcome ListOutputs
      by = outcome_by list_writing (list_content t) o

      go : (refusal : Option ℕ) → first_broken (succession_rules t ++ nine) ≡ refusal
          → (by refusal).answer ≡ wrote counts → Mutual t.lanes (list_rows counts (by refusal).outs)
      go (some k) broken said = absurd (false≢true (ap is_accepted said))
      go none unbroken said =
          let written =
          ap (λ ns. list_rows ns (put_lists (list_content t) o)) (sym (ap counts_of said)) ∙ rows_content o in
          let rules-unbroken = (unbroken_append (succession_rules t) nine unbroken).0 in
          subst (Mutual t.lanes) (sym written) (mutual_content (listable t rules-unbroken).identities)

-- ---- the lists that repair, succession and the gap check find, on any tables
module _ (q : Buffers) (l : ListOutputs) where
  mutual_listed : (counts : List ℕ) (t : Tables) (a : Answer) → (succession_call t q.for_lists).answer ≡ a
      → found_lists (by_lists q counts t a (succession_call t q.for_lists).outs) ≡ some l → Mutual t.lanes l
  mutual_listed counts t (refused k) said there = absurd (none-ne-some l there)
  mutual_listed counts t (wrote ns) said there =
      let written = mutual_lists t q.for_lists ns said in
      subst (Mutual t.lanes) (some-injective _ _ there) written

  mutual_repaired : (t : Tables) (a : Answer) (o : RepairOutputs) → found_lists (by_repair q t a o) ≡ some l
      → Mutual t.lanes l
  unfolding from_repaired with_repaired
  mutual_repaired t (refused k) o there = absurd (none-ne-some l there)
  mutual_repaired t (wrote counts) o there = mutual_listed counts (with_repaired t counts o) _ refl there

  pub mutual_found : (t : Tables) → found_lists (found q t) ≡ some l → Mutual t.lanes l
  unfolding found
  mutual_found t there =
      mutual_repaired t (repair_call t q.for_repair).answer (repair_call t q.for_repair).outs there
