-- What is laid into the local arrays, and what the functions that lay it may count on. Definitions only.
use Rattle.std.specs.Prelude.{◌≡◌, Bool, ◌&&◌, cond, not, List, [], ◌∷◌, ◌++◌, ℕ, ◌+◌, ◌*◌, ◌/◌, ◌≤◌, ◌<◌}
use Rattle.std.specs.Prelude.{Option, Some, None, length, get_or, take, leb, ltb}
use Rattle.std.proofs.Math.Option as maths
use Rattle.model.specs.Calls.{warning_row}
use Rattle.model.specs.Lists.{bind_o, gather, list_o, some?}
use Rattle.model.specs.Records.{Span, Pair, Connection, Junction, Road, target_at}
use Rattle.model.specs.Repair.{back_at, back_end, back_of, junctions_over, meets, missing_links, repair_junction}
use Rattle.model.specs.Repair.{repair_roads, reversed, road_of, roads_over, runs_back, swapped, vacant_end, warn_after}
use Rattle.model.specs.Repair.{warn_all, warn_over}
use Rattle.model.specs.Rows.{rows_from}
use Rattle.model.specs.Rules.{same}
use Rattle.model.specs.Tables.{Tables, bit, flag, connection_row, junction_row, pair_row, pair_in}
use Rattle.model.specs.Text.{same_in}
use Rattle.words.specs.Rows.{tab, name_at, from}
use Rattle.repair.specs.Now.{end_read, junction_name, road_with, roads_with, row_connection, row_junction, run}
use Rattle.repair.specs.Ready.{connections_before, pair_count, pairs_before}
use Rattle.repair.specs.declared.junctions.State.{State}
use Rattle.repair.specs.declared.laid.LaidRows.{LaidRows}
use Rattle.repair.specs.declared.laying.Pile.{Pile}

-- ---- a connection and its pairs, as read or the other way
-- a pair as it is, or, where there is a contact, the other way
abbrev pub turned_pair : Option Bool → Pair → Pair
turned_pair None p = p
turned_pair (Some e) p = swapped p

unfoldable pub pair_at : List ℕ → ℕ → Pair
pair_at pairs q = pair_in (from 2 pairs q)

-- m pairs from row first on
abbrev pub turned_pairs : (b : Option Bool) → (pairs : List ℕ) → (first m : ℕ) → List Pair
turned_pairs b pairs first m = run (λ q. turned_pair b (pair_at pairs q)) first m

-- a connection as it is, or, where there is a contact, the other way
abbrev pub turned_connection : Option Bool → Connection → Connection
turned_connection None c = c
turned_connection (Some e) c = back_at c e

-- the other way where there is a contact, otherwise none
abbrev pub back_list : Option Bool → Connection → List Connection
back_list b x = list_o (end_read b) (λ e. back_at x e ∷ [])

-- connection c's words, its pairs from row p on: as it is, or, where there is a contact, the other way
abbrev pub row_words : Option Bool → List ℕ → ℕ → ℕ → List ℕ
row_words None ws c p =
    get_or ws (c * 7) 0 ∷ get_or ws (c * 7 + 1) 0 ∷ get_or ws (c * 7 + 2) 0 ∷ get_or ws (c * 7 + 3) 0
    ∷ bit (flag (get_or ws (c * 7 + 4) 0)) ∷ p ∷ get_or ws (c * 7 + 6) 0 ∷ []
row_words (Some e) ws c p =
    get_or ws (c * 7 + 2) 0 ∷ get_or ws (c * 7 + 3) 0 ∷ get_or ws (c * 7) 0 ∷ get_or ws (c * 7 + 1) 0 ∷ bit e ∷ p
    ∷ get_or ws (c * 7 + 6) 0 ∷ []

-- ---- the model's steps, one connection or one junction at a time
-- the end of known road r at which connection c shows that junction j is left out: what `missing_end` says of r
abbrev pub shown_end : (Span → Span → Bool) → List Road → Span → Connection → Road → maths.Option Bool
shown_end same rs j c r = cond (meets same j r) maths.none
    (bind_o (bind_o (bind_o (road_of same rs c.connecting) (target_at c.contact)) (back_end same c.incoming))
    (vacant_end r))

-- connection c the other way, unless one of cs runs that way: what `reversed` gathers
abbrev pub back_unless : (Span → Span → Bool) → List Road → Span → List Connection → Connection → List Connection
back_unless same rs j cs c = cond (not (some? (runs_back same c) cs)) (back_of same rs j c) []

-- the same of a map's tables t, with those words for the roads' ends: the end of road row r that connection row c
-- of junction row k shows, what that connection gives, what all of them give, and the junction repaired
abbrev pub shown_at : Tables → (ends : List ℕ) → (k c r : ℕ) → maths.Option Bool
shown_at t ends k c r =
    shown_end (same t) (roads_with t ends) (junction_name t k) (row_connection t c) (road_with t ends r)

abbrev pub back_from : Tables → (ends : List ℕ) → (k first m : ℕ) → Connection → List Connection
back_from t ends k first m x =
    back_unless (same t) (roads_with t ends) (junction_name t k) (run (row_connection t) first m) x

abbrev pub reversed_at : Tables → (ends : List ℕ) → (k first m : ℕ) → List Connection
reversed_at t ends k first m =
    reversed (same t) (roads_with t ends) (junction_name t k) (run (row_connection t) first m)

abbrev pub repaired_at : Tables → (ends : List ℕ) → (k : ℕ) → Junction
repaired_at t ends k = repair_junction (same t) (roads_with t ends) (row_junction t k)

-- does connection q, among those from first to last, run the other way of c?
unfoldable pub turned_at : (text connections : List ℕ) → ℕ → ℕ → ℕ → ℕ → Bool
turned_at text connections first last c q =
    leb first q && ltb q last && same_in text (name_at 7 0 connections q) (name_at 7 2 connections c) && same_in
    text (name_at 7 2 connections q) (name_at 7 0 connections c)

-- ---- how many rows there are
-- after k junctions there are at most twice as many connections and pairs as those had
pub record Twice (t : Tables) (k : ℕ) (x : Pile) : Type 0 where
  pub rows : x.connections.rows ≤ connections_before t.junctions k + connections_before t.junctions k
  pub pair_rows : x.pairs.rows
      ≤ pairs_before t.connections (connections_before t.junctions k)
      + pairs_before t.connections (connections_before t.junctions k)

-- connection c, as it is or the other way, has room after n connections and p pairs
pub record RoomFor (connections : List ℕ) (c n p : ℕ) : Type 0 where
  pub inside : c < length connections / 7
  pub rows : n < 16384
  pub pair_rows : p + pair_count connections c ≤ 16384

-- so have the connections from first on, m of them
pub record RoomForAll (connections : List ℕ) (first m n p : ℕ) : Type 0 where
  pub inside : first + m ≤ length connections / 7
  pub rows : n + m ≤ 16384
  pub pair_rows : p + pairs_before connections (first + m) ≤ 16384 + pairs_before connections first

-- ---- what is laid
-- the words of rows laid
abbrev pub laid_words : {W N : ℕ} → LaidRows W N → List ℕ
laid_words {W} x = take (x.rows * W) x.words

-- nothing is
pub record Blank (x : State) : Type 0 where
  pub junctions : x.junctions.rows ≡ 0
  pub connections : x.pile.connections.rows ≡ 0
  pub pairs : x.pile.pairs.rows ≡ 0
  pub warnings : x.warnings.rows ≡ 0

-- connections xs are laid on a pile
pub record Laid (xs : List Connection) (before after : Pile) : Type 0 where
  pub rows : after.connections.rows ≡ before.connections.rows + length xs
  pub pair_rows : after.pairs.rows ≡ before.pairs.rows + length (gather (λ (c : Connection). c.pairs) xs)
  pub words : laid_words after.connections
      ≡ laid_words before.connections
      ++ rows_from connection_row (λ (c : Connection). c.pairs) before.pairs.rows xs
  pub words_of_pairs : laid_words after.pairs
      ≡ laid_words before.pairs
      ++ gather pair_row (gather (λ (c : Connection). c.pairs) xs)

-- the links that connections cs show to be missing are given junction row k: the roads by their ends, and a
-- warning for each after those that there were
pub record Linked (t : Tables) (k : ℕ) (cs : List Connection) (ends ends' : List ℕ)
    (before after : LaidRows 4 32768) : Type 0 where
  pub roads : roads_with t ends' ≡ missing_links (same t) (junction_name t k) cs (roads_with t ends)
  pub warned : laid_words after
      ≡ laid_words before
      ++ gather (warning_row t) (warn_all (same t) k (junction_name t k) cs (roads_with t ends))

-- junction row k is repaired
pub record Stepped (t : Tables) (k : ℕ) (before after : State) : Type 0 where
  pub roads : roads_with t after.ends.words
      ≡ repair_roads (same t) (row_junction t k) (roads_with t before.ends.words)
  pub count : after.junctions.rows ≡ before.junctions.rows + 1
  pub row : laid_words after.junctions
      ≡ laid_words before.junctions
      ++ junction_row before.pile.connections.rows (repaired_at t before.ends.words k)
  pub laid : Laid (repaired_at t before.ends.words k).connections before.pile after.pile
  pub warned : laid_words after.warnings
      ≡ laid_words before.warnings
      ++ gather (warning_row t)
      (warn_after (same t) k (row_junction t k).kind (row_junction t k).name (row_junction t k).connections
      (roads_with t before.ends.words))

-- the first i junctions are repaired, from a state in which nothing is laid
pub record Over (t : Tables) (i : ℕ) (before after : State) : Type 0 where
  pub roads : roads_with t after.ends.words
      ≡ roads_over (same t) (tab i (row_junction t)) (roads_with t before.ends.words)
  pub count : after.junctions.rows ≡ i
  pub rows : laid_words after.junctions
      ≡ rows_from junction_row (λ (j : Junction). j.connections) 0
      (junctions_over (same t) (tab i (row_junction t)) (roads_with t before.ends.words))
  pub laid : Laid
      (gather (λ (j : Junction). j.connections)
      (junctions_over (same t) (tab i (row_junction t)) (roads_with t before.ends.words)))
      before.pile after.pile
  pub warned : laid_words after.warnings
      ≡ gather (warning_row t) (warn_over (same t) 0 (tab i (row_junction t)) (roads_with t before.ends.words))
