-- The targets' warnings, and those of both calls joined junction by junction: those of each call are all there, in
-- their own order, and no others.
use mathlib.Core.Path.{◌≡◌, refl, sym, ◌∙◌, ap, ap₂, subst}
use mathlib.Core.Bool.{Bool, true, false, not, cond}
use mathlib.Core.Option.{Option, none, some}
use mathlib.Core.List.{List, [], ◌∷◌, ◌++◌, map, map-append, append-nil}
use Prim.Native.Nat.{ℕ, zero, suc, ◌+◌, ◌/◌, ◌≤◌}
use native.Mathlib.Nat.{le_refl, mul-div_cancel}
use native.Mathlib.Omega.{arith}
use lib.Dec.{eqb}
use lib.ListN.{length, length-append, length-map}
use borrow.Author.Tests.{eq-eqb, ne_eqb}
use Rattle.model.specs.Calls.{repair_content, warning_row, warning_width}
use Rattle.model.specs.Joined.{is_readings, is_repairs, joined_from, joined_warnings, warned_at}
use Rattle.model.specs.Lists.{gather, is_some, keep, list_o, map_o}
use Rattle.model.specs.Reading.{RawTables, ReadWarning, connection_dropped, connection_loose, connection_warnings}
use Rattle.model.specs.Reading.{connections_at, contact_at, contact_warnings, junction_rows, junction_warnings}
use Rattle.model.specs.Reading.{kept_connections, kind_at, lane_link_dropped, lane_link_warnings, lane_links_at}
use Rattle.model.specs.Reading.{part_rows}
use Rattle.model.specs.Reading.{passed_over, raw_junction, read_connection, read_junction, read_junctions, read_pair}
use Rattle.model.specs.Reading.{read_warning_row, read_warnings, target_loose, target_warnings, to_list}
use Rattle.model.specs.ReadingCalls.{junction_content, target_content}
use Rattle.model.specs.Records.{Connection, Junction, JunctionKind, Road, Span, common, direct, virtual}
use Rattle.model.specs.Repair.{Warning, missing_end, missing_link, repair_roads, start_roads, warn_after, warn_all}
use Rattle.model.specs.Repair.{warn_one, warn_over, warnings}
use Rattle.model.specs.Rows.{table, word}
use Rattle.model.specs.Rules.{same}
use Rattle.model.specs.Tables.{Tables, junctions_in, map_of, name_in}
use Rattle.laws.proofs.Basics.{gather_ext, keep_append}
use Rattle.laws.proofs.ForEach.{each, each_append, each_keep, each_map, each_of_map}
use Rattle.laws.proofs.Lay.{length_table, table_even}
use Rattle.laws.proofs.Valid.{Each}
use Rattle.laws.proofs.WordsReversed.{length_junctions}

-- ---- those that pass a test
module _ {A : Type 0} (p : A → Bool) where
  keep_each : (xs : List A) → Each (λ x. p x ≡ true) xs → keep p xs ≡ xs
  keep_each [] h = refl
  keep_each (x ∷ xs) h = rw h.0 (ap (λ ys. x ∷ ys) (keep_each xs h.1))

  keep_no : (xs : List A) → Each (λ x. p x ≡ false) xs → keep p xs ≡ []
  keep_no [] h = refl
  keep_no (x ∷ xs) h = rw h.0 (keep_no xs h.1)

-- ---- warnings of n junction rows, from row j on, in row order
data InRows : ℕ → ℕ → List (List ℕ) → Type 0 where
  nothing : {j : ℕ} → InRows j zero []
  more : {j n : ℕ} (here rest : List (List ℕ)) → Each (λ w. word w 1 ≡ j) here → InRows (suc j) n rest
      → InRows j (suc n) (here ++ rest)

from_row : {j n : ℕ} {ws : List (List ℕ)} → InRows j n ws → Each (λ w. j ≤ word w 1) ws
from_row nothing = tt
from_row {j} (more here rest at later) =
    each_append _ here rest (each_map (λ w e. omega arith) here at)
    (each_map (λ w l. omega arith) rest (from_row later))

rows_from_lem : (j n : ℕ) → Each (λ i. j ≤ i) (part_rows j n)
rows_from_lem j zero = tt
rows_from_lem j (suc n) = (le_refl j, each_map (λ i l. omega arith) (part_rows (suc j) n) (rows_from_lem (suc j) n))

-- taken row by row they are the same list
row_by_row : {j n : ℕ} {ws : List (List ℕ)} → InRows j n ws → gather (λ i. warned_at i ws) (part_rows j n) ≡ ws
row_by_row nothing = refl
row_by_row {j} (more {n = n} here rest at later) =
    ap₂ (λ xs ys. xs ++ ys) (this_row ∙ append-nil here) (other_rows ∙ row_by_row later)
  where
    this_row : warned_at j (here ++ rest) ≡ here ++ []
    this_row =
        keep_append (λ w. eqb (word w 1) j) here rest
        ∙ ap₂ (λ xs ys. xs ++ ys)
        (keep_each _ here (each_map (λ w e. eq-eqb (word w 1) j e) here at))
        (keep_no _ rest (each_map (λ w l. ne_eqb (word w 1) j (λ e. omega arith)) rest (from_row later)))

    later_row : (i : ℕ) → suc j ≤ i → warned_at i (here ++ rest) ≡ warned_at i rest
    later_row i l =
        keep_append (λ w. eqb (word w 1) i) here rest
        ∙ ap (λ xs. xs ++ warned_at i rest)
        (keep_no _ here (each_map (λ w e. ne_eqb (word w 1) i (λ f. omega arith)) here at))

    other_rows : gather (λ i. warned_at i (here ++ rest)) (part_rows (suc j) n)
        ≡ gather (λ i. warned_at i rest) (part_rows (suc j) n)
    other_rows =
        gather_ext _ _ (part_rows (suc j) n) (each_map later_row (part_rows (suc j) n) (rows_from_lem (suc j) n))

-- ---- those of reading
abbrev ReadOf : ℕ → ReadWarning → Type 0
ReadOf j w = word (read_warning_row w) 1 ≡ j

each_gathered : {A B : Type 0} (Q : B → Type 0) (f : A → List B) → ((x : A) → Each Q (f x)) → (xs : List A)
    → Each Q (gather f xs)
each_gathered Q f h [] = tt
each_gathered Q f h (x ∷ xs) = each_append Q (f x) (gather f xs) (h x) (each_gathered Q f h xs)

module _ (t : RawTables) where
  of_lane_link : (j c l : ℕ) → Each (ReadOf j) (lane_link_warnings t j c l)
  of_lane_link j c l = go (is_some (read_pair t l))
    where
      go : (b : Bool) → Each (ReadOf j) (cond b [] (lane_link_dropped j c l ∷ []))
      go true = tt
      go false = (refl, tt)

  of_contact : (j c : ℕ) → Each (ReadOf j) (contact_warnings t j c)
  of_contact j c = go (contact_at t c).loose
    where
      go : (b : Bool) → Each (ReadOf j) (cond b (connection_loose j c ∷ []) [])
      go true = (refl, tt)
      go false = tt

  of_connection : (j c : ℕ) → Each (ReadOf j) (connection_warnings t j c)
  unfolding connection_warnings
  of_connection j c = go (passed_over t j c) (is_some (read_connection t j c))
    where
      dropped : List ReadWarning
      dropped = gather (lane_link_warnings t j c) (lane_links_at t c)

      go : (over there : Bool) → Each (ReadOf j) (cond over []
          (cond there (contact_warnings t j c ++ dropped) (connection_dropped j c ∷ [])))
      go true there = tt
      go false true =
          each_append (ReadOf j) (contact_warnings t j c) dropped (of_contact j c)
          (each_gathered (ReadOf j) (lane_link_warnings t j c) (of_lane_link j c) (lane_links_at t c))
      go false false = (refl, tt)

  of_junction : (j : ℕ) → Each (ReadOf j) (junction_warnings t j)
  unfolding junction_warnings
  of_junction j = go (is_some (name_in (raw_junction t j) 0))
    where
      go : (named : Bool) → Each (ReadOf j) (cond named (gather (connection_warnings t j) (connections_at t j))
          (map (connection_dropped j) (connections_at t j)))
      go true = each_gathered (ReadOf j) (connection_warnings t j) (of_connection j) (connections_at t j)
      go false =
          each_of_map (connection_dropped j) (ReadOf j) (connections_at t j) (each (λ c. refl) (connections_at t j))

  read_in_rows : (j n : ℕ) → InRows j n (map read_warning_row (gather (junction_warnings t) (part_rows j n)))
  read_in_rows j zero = nothing
  read_in_rows j (suc n) =
      let rest = gather (junction_warnings t) (part_rows (suc j) n) in
      subst (InRows j (suc n)) (sym (map-append read_warning_row (junction_warnings t j) rest))
      (more (map read_warning_row (junction_warnings t j)) (map read_warning_row rest)
      (each_of_map read_warning_row (λ w. word w 1 ≡ j) (junction_warnings t j) (of_junction j))
      (read_in_rows (suc j) n))

is_reading : (w : ReadWarning) → is_readings (read_warning_row w) ≡ true
is_reading (connection_dropped j c) = refl
is_reading (lane_link_dropped j c l) = refl
is_reading (connection_loose j c) = refl
is_reading (target_loose r e) = refl

-- rows of reading, as its calls write them
read_rows : (ws : List ReadWarning) → table warning_width (gather read_warning_row ws) ≡ map read_warning_row ws
read_rows ws = table_even 4 read_warning_row ws (omega arith) (each four ws)
  where
    four : (w : ReadWarning) → length (read_warning_row w) ≡ 4
    four (connection_dropped j c) = refl
    four (lane_link_dropped j c l) = refl
    four (connection_loose j c) = refl
    four (target_loose r e) = refl

all_readings : (ws : List ReadWarning)
    → Each (λ w. is_readings w ≡ true) (table warning_width (gather read_warning_row ws))
all_readings ws =
    rw (read_rows ws) (each_of_map read_warning_row (λ w. is_readings w ≡ true) ws (each is_reading ws))

-- of reading's rows none is repair's
turned : (b : Bool) → not b ≡ true → b ≡ false
turned false e = refl
turned true e = sym e

none_repairs : (ws : List (List ℕ)) → Each (λ w. is_readings w ≡ true) ws → Each (λ w. is_repairs w ≡ false) ws
none_repairs ws each-reading = each_map (λ w e. turned (is_repairs w) e) ws each-reading

-- ---- those of repair
abbrev RepairOf : ℕ → Warning → Type 0
RepairOf i w = w.junction_row ≡ i

module _ (alike : Span → Span → Bool) where
  of_one : (i : ℕ) (j : Span) (c : Connection) (rs : List Road) → Each (RepairOf i) (warn_one alike i j c rs)
  unfolding warn_one
  of_one i j c rs = go (missing_end alike rs j c)
    where
      go : (o : Option Bool)
          → Each (RepairOf i) (list_o o (λ e. record { junction_row = i; road = c.incoming; at_end = e } ∷ []))
      go none = tt
      go (some e) = (refl, tt)

  of_all : (i : ℕ) (j : Span) (cs : List Connection) (rs : List Road) → Each (RepairOf i) (warn_all alike i j cs rs)
  of_all i j [] rs = tt
  of_all i j (c ∷ cs) rs =
      each_append (RepairOf i) (warn_one alike i j c rs) (warn_all alike i j cs (missing_link alike j c rs))
      (of_one i j c rs) (of_all i j cs (missing_link alike j c rs))

  of_repaired : (i : ℕ) (k : JunctionKind) (j : Span) (cs : List Connection) (rs : List Road)
      → Each (RepairOf i) (warn_after alike i k j cs rs)
  of_repaired i common j cs rs = of_all i j cs rs
  of_repaired i direct j cs rs = tt
  of_repaired i virtual j cs rs = tt

repaired_in_rows : (u : Tables) (i : ℕ) (js : List Junction) (rs : List Road)
    → InRows i (length js) (map (warning_row u) (warn_over (same u) i js rs))
unfolding warning_row
repaired_in_rows u i [] rs = nothing
repaired_in_rows u i (j ∷ js) rs =
    let here = warn_after (same u) i j.kind j.name j.connections rs in
    let rest = warn_over (same u) (suc i) js (repair_roads (same u) j rs) in
    subst (InRows i (suc (length js))) (sym (map-append (warning_row u) here rest))
    (more (map (warning_row u) here) (map (warning_row u) rest)
    (each_of_map (warning_row u) (λ w. word w 1 ≡ i) here
    (of_repaired (same u) i j.kind j.name j.connections rs))
    (repaired_in_rows u (suc i) js (repair_roads (same u) j rs)))

is_repair : (u : Tables) (w : Warning) → is_repairs (warning_row u w) ≡ true
unfolding warning_row
is_repair u w = refl

-- how many rows raw junctions become
abbrev rows_read : RawTables → List ℕ → ℕ
rows_read t js = length (gather (λ j. to_list (read_junction t j)) js)

-- ---- joined: dropping those of one call leaves those of the other
module _ (t : RawTables) (read repaired : List (List ℕ)) (of_reading : Each (λ w. is_readings w ≡ true) read)
    (of_repair : Each (λ w. is_repairs w ≡ true) repaired) where
  abbrev joined : ℕ → List ℕ → List (List ℕ)
  joined k js = joined_from t read repaired k js

  readings_at : (j : ℕ) (rest : List (List ℕ))
      → keep is_readings (warned_at j read ++ rest) ≡ warned_at j read ++ keep is_readings rest
  readings_at j rest = keep_append is_readings (warned_at j read) rest
      ∙ ap (λ xs. xs ++ keep is_readings rest)
      (keep_each is_readings (warned_at j read) (each_keep (λ w. is_readings w ≡ true) _ read of_reading))

  readings_past : (k : ℕ) (rest : List (List ℕ))
      → keep is_readings (warned_at k repaired ++ rest) ≡ keep is_readings rest
  readings_past k rest = keep_append is_readings (warned_at k repaired) rest
      ∙ ap (λ xs. xs ++ keep is_readings rest)
      (keep_no is_readings (warned_at k repaired) (each_keep (λ w. is_readings w ≡ false) _ repaired
      (each_map (λ w e. ap not e) repaired of_repair)))

  repairs_at : (k : ℕ) (rest : List (List ℕ))
      → keep is_repairs (warned_at k repaired ++ rest) ≡ warned_at k repaired ++ keep is_repairs rest
  repairs_at k rest = keep_append is_repairs (warned_at k repaired) rest
      ∙ ap (λ xs. xs ++ keep is_repairs rest)
      (keep_each is_repairs (warned_at k repaired) (each_keep (λ w. is_repairs w ≡ true) _ repaired of_repair))

  repairs_past : (j : ℕ) (rest : List (List ℕ)) → keep is_repairs (warned_at j read ++ rest) ≡ keep is_repairs rest
  repairs_past j rest = keep_append is_repairs (warned_at j read) rest
      ∙ ap (λ xs. xs ++ keep is_repairs rest)
      (keep_no is_repairs (warned_at j read) (each_keep (λ w. is_repairs w ≡ false) _ read
      (none_repairs read of_reading)))

  -- the raw junctions js: what reading says of each
  keep_readings : (k : ℕ) (js : List ℕ) → keep is_readings (joined k js) ≡ gather (λ j. warned_at j read) js
  keep_readings k [] = refl
  keep_readings k (j ∷ js) =
      readings_at j _
      ∙ ap (λ xs. warned_at j read ++ xs) (go (is_some (name_in (raw_junction t j) 0)) (λ i. keep_readings i js))
    where
      go : (named : Bool) → ((i : ℕ) → keep is_readings (joined i js) ≡ gather (λ i. warned_at i read) js)
          → keep is_readings (cond named (warned_at k repaired ++ joined (suc k) js) (joined k js))
          ≡ gather (λ i. warned_at i read) js
      go true others = readings_past k (joined (suc k) js) ∙ others (suc k)
      go false others = others k

  -- and what repair says of each row that they became
  keep_repairs : (k : ℕ) (js : List ℕ)
      → keep is_repairs (joined k js) ≡ gather (λ i. warned_at i repaired) (part_rows k (rows_read t js))
  unfolding read_junction
  keep_repairs k [] = refl
  keep_repairs k (j ∷ js) = repairs_past j _ ∙ go (name_in (raw_junction t j) 0) (λ i. keep_repairs i js)
    where
      named : Span → Junction
      named n =
          record { name = n; kind = kind_at t j; connections = gather (kept_connections t j) (connections_at t j) }

      go : (name : Option Span)
          → ((i : ℕ) → keep is_repairs (joined i js)
          ≡ gather (λ i. warned_at i repaired) (part_rows i (rows_read t js)))
          → keep is_repairs (cond (is_some name) (warned_at k repaired ++ joined (suc k) js) (joined k js))
          ≡ gather (λ i. warned_at i repaired)
          (part_rows k (length (to_list (map_o named name) ++ gather (λ j. to_list (read_junction t j)) js)))
      go none others = others k
      go (some n) others =
          repairs_at k (joined (suc k) js) ∙ ap (λ xs. warned_at k repaired ++ xs) (others (suc k))

-- ---- the rows that the calls write, repair on the junctions that reading wrote
module _ (text raw : List ℕ) (t : RawTables) (u : Tables) (as_read : u.junctions ≡ (junction_content t).junctions) where
  abbrev targets : List (List ℕ)
  targets = table warning_width (target_content text raw).warnings

  abbrev readings : List (List ℕ)
  readings = table warning_width (junction_content t).warnings

  abbrev repairs : List (List ℕ)
  repairs = table warning_width (repair_content u).warnings

  abbrev both : List (List ℕ)
  both = joined_from t readings repairs 0 (junction_rows t)

  abbrev all : List (List ℕ)
  all = joined_warnings t (target_content text raw).warnings (junction_content t).warnings (repair_content u).warnings

  readings_are : readings ≡ map read_warning_row (read_warnings t)
  unfolding junction_content
  readings_are = read_rows (read_warnings t)

  repairs_are : repairs ≡ map (warning_row u) (warnings (same u) (map_of u))
  unfolding repair_content
  repairs_are = table_even 4 (warning_row u) (warnings (same u) (map_of u)) (omega arith)
      (each four (warnings (same u) (map_of u)))
    where
      four : (w : Warning) → length (warning_row u w) ≡ 4
      four w = unfold warning_row in refl

  of_targets : Each (λ w. is_readings w ≡ true) targets
  unfolding target_content
  of_targets = all_readings (target_warnings text raw)

  of_reading : Each (λ w. is_readings w ≡ true) readings
  unfolding junction_content
  of_reading = all_readings (read_warnings t)

  of_repair : Each (λ w. is_repairs w ≡ true) repairs
  of_repair =
      rw repairs_are (each_of_map (warning_row u) (λ w. is_repairs w ≡ true) (warnings (same u) (map_of u))
      (each (is_repair u) (warnings (same u) (map_of u))))

  junctions_read : length (map_of u).junctions ≡ length (read_junctions t)
  unfolding map_of junctions_in junction_content
  junctions_read =
      length-map (table 5 u.junctions) _
      ∙ length_table 5 u.junctions
      ∙ ap (λ (ws : List ℕ). length ws / 5) as_read
      ∙ ap (λ (n : ℕ). n / 5) (length_junctions (read_junctions t))
      ∙ mul-div_cancel (length (read_junctions t)) (omega arith)

  both_readings : keep is_readings both ≡ readings
  both_readings =
      keep_readings t readings repairs of_reading of_repair 0 (junction_rows t)
      ∙ row_by_row (subst (InRows 0 (length t.junctions / 8)) (sym readings_are)
      (unfold read_warnings in read_in_rows t 0 (length t.junctions / 8)))

  both_repairs : keep is_repairs both ≡ repairs
  both_repairs =
      let rows : rows_read t (junction_rows t) ≡ length (map_of u).junctions
      = sym (junctions_read ∙ (unfold read_junctions in refl)) in
      keep_repairs t readings repairs of_reading of_repair 0 (junction_rows t)
      ∙ ap (λ (n : ℕ). gather (λ i. warned_at i repairs) (part_rows 0 n)) rows
      ∙ row_by_row (subst (InRows 0 (length (map_of u).junctions)) (sym repairs_are)
      (unfold warnings in repaired_in_rows u 0 (map_of u).junctions (start_roads (same u) (map_of u))))

  pub joined_readings : keep is_readings all ≡ targets ++ readings
  unfolding joined_warnings
  joined_readings =
      keep_append is_readings targets both
      ∙ ap₂ (λ xs ys. xs ++ ys) (keep_each is_readings targets of_targets) both_readings

  pub joined_repairs : keep is_repairs all ≡ repairs
  unfolding joined_warnings
  joined_repairs =
      keep_append is_repairs targets both
      ∙ ap₂ (λ xs ys. xs ++ ys) (keep_no is_repairs targets (none_repairs targets of_targets)) both_repairs

  pub joined_length : length all ≡ length targets + length readings + length repairs
  joined_length =
      let read = ap length joined_readings ∙ length-append targets readings in
      omega (arith, halves all, read, ap length joined_repairs)
    where
      halves : (ws : List (List ℕ)) → length (keep is_readings ws) + length (keep is_repairs ws) ≡ length ws
      halves [] = refl
      halves (w ∷ ws) = go (is_repairs w) (halves ws)
        where
          go : (b : Bool) → length (keep is_readings ws) + length (keep is_repairs ws) ≡ length ws
              → length (cond (not b) (w ∷ keep is_readings ws) (keep is_readings ws))
              + length (cond b (w ∷ keep is_repairs ws) (keep is_repairs ws)) ≡ suc (length ws)
          go true rest = omega arith
          go false rest = omega arith
