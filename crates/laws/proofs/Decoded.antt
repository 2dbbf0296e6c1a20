-- The words of what admitted tables mean are those tables (encode after decode), table by table.
use mathlib.Core.Path.{◌≡◌, refl, sym, ◌∙◌, ap, ap₂}
use mathlib.Core.Bool.{Bool, true, false, ◌&&◌, ◌||◌, cond}
use mathlib.Core.Option.{none, some}
use mathlib.Core.List.{List, [], ◌∷◌, ◌++◌, map}
use Prim.Native.Nat.{ℕ, zero, suc, ◌%◌}
use native.Mathlib.Omega.{arith}
use lib.Dec.{eqb, leb}
use lib.Ieee.{Float}
use lib.ListN.{length, take-append-drop, length-drop}
use lib.Seq.{length-take-le}
use borrow.Author.Tests.{leb-true, eqb-true}
use Rattle.model.specs.Lists.{every, gather}
use Rattle.model.specs.Records.{Connection, Lane, Pair}
use Rattle.model.specs.Rows.{part, parts_fit, rows_from, table, word}
use Rattle.model.specs.Rules.{connection_worded, junction_worded, lane_worded, link_worded, road_worded, target_worded}
use Rattle.model.specs.Tables.{all_connections, bit, connection_in, connection_row, direction_of, direction_word}
use Rattle.model.specs.Tables.{edge_row, flag, is_absent, junction_in, junction_row, junction_words, kind_of}
use Rattle.model.specs.Tables.{kind_word, lane_in, lane_row, lane_words, link_of, link_words, name_in, name_words}
use Rattle.model.specs.Tables.{pair_in, pair_row, road_in, road_row, road_words, section_words, span_in, target_of}
use Rattle.model.specs.Tables.{target_words, with_edges}
use Rattle.model.specs.Text.{placed}
use Rattle.laws.proofs.Encoded.{Six}
use Rattle.laws.proofs.ForEach.{each_both, each_map}
use Rattle.laws.proofs.Lay.{gather_table, parts_forth, rows_forth, spelled, table_width, words_from}
use Rattle.laws.proofs.ListTests.{and_left, and_right, every_each}
use Rattle.laws.proofs.Valid.{Each}

pub bit_flag : (k : ℕ) → leb k 1 ≡ true → bit (flag k) ≡ k
bit_flag zero h = refl
bit_flag (suc zero) h = refl
bit_flag (suc (suc k)) h = absurd (omega (arith, leb-true (suc (suc k)) 1 h))

pub name_forth : (s n : ℕ) → name_words (cond (is_absent s n) none (some (record { start = s; size = n }))) ≡ s ∷ n ∷ []
name_forth s n = go (is_absent s n) refl
  where
    go : (b : Bool) → is_absent s n ≡ b → name_words (cond b none (some (record { start = s; size = n }))) ≡ s ∷ n ∷ []
    go true h =
        λ i.
        sym (eqb-true s 4294967295 (and_left (eqb s 4294967295) (eqb n 0) h)) i
        ∷ sym (eqb-true n 0 (and_right (eqb s 4294967295) (eqb n 0) h)) i ∷ []
    go false h = refl

-- a conjunction's parts
pub and3 : (a b c : Bool) → a && b && c ≡ true → (a ≡ true) × (b ≡ true) × (c ≡ true)
and3 a b c h =
    let two = and_left (a && b) c h in
    (and_left a b two, and_right a b two, and_right (a && b) c h)

pub and4 : (a b c d : Bool) → a && b && c && d ≡ true → (a ≡ true) × (b ≡ true) × (c ≡ true) × (d ≡ true)
and4 a b c d h =
    let three = and3 a b c (and_left (a && b && c) d h) in
    (three.0, three.1, three.2, and_right (a && b && c) d h)

pub and5 : (a b c d e : Bool) → a && b && c && d && e ≡ true
    → (a ≡ true) × (b ≡ true) × (c ≡ true) × (d ≡ true) × (e ≡ true)
and5 a b c d e h =
    let four = and4 a b c d (and_left (a && b && c && d) e h) in
    (four.0, four.1, four.2, four.3, and_right (a && b && c && d) e h)

pub and6 : (a b c d e f : Bool) → a && b && c && d && e && f ≡ true
    → (a ≡ true) × (b ≡ true) × (c ≡ true) × (d ≡ true) × (e ≡ true) × (f ≡ true)
and6 a b c d e f h =
    let five = and5 a b c d e (and_left (a && b && c && d && e) f h) in
    (five.0, five.1, five.2, five.3, five.4, and_right (a && b && c && d && e) f h)

zero_word : (k : ℕ) → eqb k 0 ≡ true → 0 ≡ k
zero_word k h = sym (eqb-true k 0 h)

pub target_forth : (text : List ℕ) (p k s n c g a : ℕ) → target_worded text p k s n c g a ≡ true
    → target_words (target_of p k s n c g a) ≡ p ∷ k ∷ s ∷ n ∷ c ∷ g ∷ a ∷ []
unfolding target_worded
target_forth text zero k s n c g a h =
    let w = and6 (eqb k 0) (eqb s 0) (eqb n 0) (eqb c 0) (eqb g 0) (eqb a 0) h in
    λ i.
    0 ∷ zero_word k w.0 i ∷ zero_word s w.1 i ∷ zero_word n w.2 i ∷ zero_word c w.3 i
    ∷ zero_word g w.4 i ∷ zero_word a w.5 i ∷ []
target_forth text (suc zero) k s n c g a h =
    let w = and5 (leb k 1) (placed text (record { start = s; size = n })) (leb c 1) (leb g 1) (leb a 1) h in
    λ i. 1 ∷ bit_flag k w.0 i ∷ s ∷ n ∷ bit_flag c w.2 i ∷ bit_flag g w.3 i ∷ bit_flag a w.4 i ∷ []
target_forth text (suc (suc p)) k s n c g a h =
    absurd (omega (arith, leb-true (suc (suc p)) 1 (and_left (leb (suc (suc p)) 1) _ h)))

kind_forth : (k : ℕ) → leb k 2 ≡ true → kind_word (kind_of k) ≡ k
kind_forth zero h = refl
kind_forth (suc zero) h = refl
kind_forth (suc (suc zero)) h = refl
kind_forth (suc (suc (suc k))) h = absurd (omega (arith, leb-true (suc (suc (suc k))) 2 h))

direction_forth : (k : ℕ) → leb k 2 ≡ true → direction_word (direction_of k) ≡ k
direction_forth zero h = refl
direction_forth (suc zero) h = refl
direction_forth (suc (suc zero)) h = refl
direction_forth (suc (suc (suc k))) h = absurd (omega (arith, leb-true (suc (suc (suc k))) 2 h))

link_forth : (f n : ℕ) → link_worded f n ≡ true → link_words (link_of f n) ≡ f ∷ n ∷ []
unfolding link_worded
link_forth zero n h = λ i. 0 ∷ zero_word n h i ∷ []
link_forth (suc zero) n h = refl
link_forth (suc (suc f)) n h =
    absurd (omega (arith, leb-true (suc (suc f)) 1 (and_left (leb (suc (suc f)) 1) _ h)))

-- ---- rows
abbrev pub Worded : (List ℕ → Bool) → ℕ → List ℕ → Type 0
Worded test w r = (test r ≡ true) × (length r ≡ w)

pub road_forth : (text ss r : List ℕ) → Worded (road_worded text) 20 r
    → length (road_in ss r).sections ≡ word r 19 → road_row (word r 18) (road_in ss r) ≡ r
unfolding road_in road_row road_worded
road_forth text ss r h counted =
    let passes = and4 (placed text (span_in r 0)) (is_absent (word r 2) (word r 3) || placed text (span_in r 2))
    (target_worded text (word r 4) (word r 5) (word r 6) (word r 7) (word r 8) (word r 9) (word r 10))
    (target_worded text (word r 11) (word r 12) (word r 13) (word r 14) (word r 15) (word r 16) (word r 17)) h.0 in
    let junction = name_forth (word r 2) (word r 3) in
    let before =
    target_forth text (word r 4) (word r 5) (word r 6) (word r 7) (word r 8) (word r 9) (word r 10) passes.2 in
    let after =
    target_forth text (word r 11) (word r 12) (word r 13) (word r 14) (word r 15) (word r 16) (word r 17)
    passes.3 in
    let words : word r 0 ∷ word r 1 ∷ (name_words (name_in r 2)
    ++ (target_words (road_in ss r).predecessor ++ (target_words (road_in ss r).successor
    ++ (word r 18 ∷ length (part (word r 18) (word r 19) ss) ∷ [])))) ≡ words_from 20 0 r
    = λ i. word r 0 ∷ word r 1 ∷ (junction i ++ (before i ++ (after i ++ (word r 18 ∷ counted i ∷ [])))) in
    words ∙ spelled 20 r h.1

pub connection_forth : (text : List ℕ) (ps : List Pair) (r : List ℕ) → Worded (connection_worded text) 7 r
    → length (connection_in ps r).pairs ≡ word r 6 → connection_row (word r 5) (connection_in ps r) ≡ r
unfolding connection_in connection_row connection_worded
connection_forth text ps r h counted =
    let passes = and3 (placed text (span_in r 0)) (placed text (span_in r 2)) (leb (word r 4) 1) h.0 in
    let contact = bit_flag (word r 4) passes.2 in
    let words : word r 0 ∷ word r 1 ∷ word r 2 ∷ word r 3 ∷ bit (flag (word r 4)) ∷ word r 5
    ∷ length (part (word r 5) (word r 6) ps) ∷ [] ≡ words_from 7 0 r
    = λ i. word r 0 ∷ word r 1 ∷ word r 2 ∷ word r 3 ∷ contact i ∷ word r 5 ∷ counted i ∷ [] in
    words ∙ spelled 7 r h.1

pub junction_forth : (text : List ℕ) (cs : List Connection) (r : List ℕ) → Worded (junction_worded text) 5 r
    → length (junction_in cs r).connections ≡ word r 4 → junction_row (word r 3) (junction_in cs r) ≡ r
unfolding junction_in junction_row junction_worded
junction_forth text cs r h counted =
    let kind = kind_forth (word r 2) (and_right (placed text (span_in r 0)) (leb (word r 2) 2) h.0) in
    let words : word r 0 ∷ word r 1 ∷ kind_word (kind_of (word r 2)) ∷ word r 3
    ∷ length (part (word r 3) (word r 4) cs) ∷ [] ≡ words_from 5 0 r
    = λ i. word r 0 ∷ word r 1 ∷ kind i ∷ word r 3 ∷ counted i ∷ [] in
    words ∙ spelled 5 r h.1

pub lane_forth : (text r : List ℕ) → Worded (lane_worded text) 10 r → lane_row (lane_in r) ≡ r
unfolding lane_in lane_row lane_worded
lane_forth text r h =
    let passes = and4 (placed text (span_in r 1)) (leb (word r 5) 2) (link_worded (word r 6) (word r 7))
    (link_worded (word r 8) (word r 9)) h.0 in
    let direction = direction_forth (word r 5) passes.1 in
    let onward = link_forth (word r 6) (word r 7) passes.2 in
    let back = link_forth (word r 8) (word r 9) passes.3 in
    let words : word r 0 ∷ word r 1 ∷ word r 2 ∷ word r 3 ∷ word r 4 ∷ direction_word (direction_of (word r 5))
    ∷ (link_words (link_of (word r 6) (word r 7)) ++ link_words (link_of (word r 8) (word r 9)))
    ≡ words_from 10 0 r
    = λ i. word r 0 ∷ word r 1 ∷ word r 2 ∷ word r 3 ∷ word r 4 ∷ direction i ∷ (onward i ++ back i) in
    words ∙ spelled 10 r h.1

pub pair_forth : (r : List ℕ) → length r ≡ 2 → pair_row (pair_in r) ≡ r
unfolding pair_in pair_row
pair_forth r h = spelled 2 r h

-- ---- tables
pub gather_id : {A B : Type 0} (f : A → List B) (g : List B → A) (rs : List (List B))
    → Each (λ r. f (g r) ≡ r) rs → gather f (map g rs) ≡ gather (λ r. r) rs
gather_id f g [] h = refl
gather_id {B = B} f g (r ∷ rs) h = ap₂ (λ (a b : List B). a ++ b) h.0 (gather_id f g rs h.1)

-- every row of a table passes, and has its width
rows_pass : (test : List ℕ → Bool) (w : ℕ) (ws : List ℕ) → length ws % w ≡ 0 → every test (table w ws) ≡ true
    → Each (Worded test w) (table w ws)
rows_pass test w ws e h =
    each_both (λ r. test r ≡ true) (λ r. length r ≡ w) (table w ws) (every_each test (table w ws) h)
    (table_width w ws e)

-- a table whose rows have parts in another: its rows are given back, and so is the other
module _ {X A : Type 0} (test : List ℕ → Bool) (w kf kc : ℕ) (row : ℕ → X → List ℕ) (f : X → List A)
    (from : List ℕ → X) (all : List A)
    (reads : (r : List ℕ) → f (from r) ≡ part (word r kf) (word r kc) all)
    (forth : (r : List ℕ) → Worded test w r → length (f (from r)) ≡ word r kc → row (word r kf) (from r) ≡ r) where
  table_forth : (ws : List ℕ) → length ws % w ≡ 0 → every test (table w ws) ≡ true
      → parts_fit kf kc 0 (length all) (table w ws) ≡ true →
      (rows_from row f 0 (map from (table w ws)) ≡ ws) × (gather f (map from (table w ws)) ≡ all)
  table_forth ws e h p = (
    rows_forth kf kc row f from all (Worded test w) reads forth 0 (table w ws) (rows_pass test w ws e h) p
        ∙ gather_table w ws e,
    parts_forth kf kc row f from all (Worded test w) reads forth 0 (table w ws) p,
  )

module _ (text : List ℕ) where
  pub roads_forth : (ws ss : List ℕ) → length ws % 20 ≡ 0 → every (road_worded text) (table 20 ws) ≡ true
      → parts_fit 18 19 0 (length ss) (table 20 ws) ≡ true →
      (road_words (map (road_in ss) (table 20 ws)) ≡ ws) × (section_words (map (road_in ss) (table 20 ws)) ≡ ss)
  unfolding road_words section_words
  roads_forth ws ss =
      table_forth (road_worded text) 20 18 19 road_row (λ r. r.sections) (road_in ss) ss
      (λ r. unfold road_in in refl) (road_forth text ss) ws

  pub pairs_forth : (ws : List ℕ) → length ws % 2 ≡ 0 → gather pair_row (map pair_in (table 2 ws)) ≡ ws
  pairs_forth ws e =
      gather_id pair_row pair_in (table 2 ws) (each_map pair_forth (table 2 ws) (table_width 2 ws e))
      ∙ gather_table 2 ws e

  pub connections_forth : (ws : List ℕ) (ps : List Pair) → length ws % 7 ≡ 0
      → every (connection_worded text) (table 7 ws) ≡ true → parts_fit 5 6 0 (length ps) (table 7 ws) ≡ true →
      (rows_from connection_row (λ c. c.pairs) 0 (map (connection_in ps) (table 7 ws)) ≡ ws)
      × (gather (λ c. c.pairs) (map (connection_in ps) (table 7 ws)) ≡ ps)
  connections_forth ws ps =
      table_forth (connection_worded text) 7 5 6 connection_row (λ c. c.pairs) (connection_in ps) ps
      (λ r. unfold connection_in in refl) (connection_forth text ps) ws

  pub junctions_forth : (ws : List ℕ) (cs : List Connection) → length ws % 5 ≡ 0
      → every (junction_worded text) (table 5 ws) ≡ true → parts_fit 3 4 0 (length cs) (table 5 ws) ≡ true →
      (junction_words (map (junction_in cs) (table 5 ws)) ≡ ws)
      × (all_connections (map (junction_in cs) (table 5 ws)) ≡ cs)
  unfolding junction_words all_connections
  junctions_forth ws cs =
      table_forth (junction_worded text) 5 3 4 junction_row (λ j. j.connections) (junction_in cs) cs
      (λ r. unfold junction_in in refl) (junction_forth text cs) ws

  pub lanes_forth : (ws : List ℕ) → length ws % 10 ≡ 0 → every (lane_worded text) (table 10 ws) ≡ true
      → lane_words (map lane_in (table 10 ws)) ≡ ws
  unfolding lane_words
  lanes_forth ws e h =
      gather_id lane_row lane_in (table 10 ws)
      (each_map (lane_forth text) (table 10 ws) (rows_pass (lane_worded text) 10 ws e h))
      ∙ gather_table 10 ws e

-- the lanes with their edges
pub edges_forth : (ls : List Lane) (es : List (List Float)) → length ls ≡ length es
    → gather edge_row (with_edges ls es) ≡ gather (λ r. r) es
unfolding edge_row
edges_forth [] [] h = refl
edges_forth [] (e ∷ es) h = absurd (let z : 0 ≡ suc (length es) = h in omega arith)
edges_forth (l ∷ ls) [] h = absurd (let z : suc (length ls) ≡ 0 = h in omega arith)
edges_forth (l ∷ ls) (e ∷ es) h =
    ap₂ (λ (a b : List Float). a ++ b) (take-append-drop 6 e)
    (edges_forth ls es (let z : suc (length ls) ≡ suc (length es) = h in omega arith))

pub lanes_with : (ls : List Lane) (es : List (List Float)) → length ls ≡ length es
    → map (λ x. x.lane) (with_edges ls es) ≡ ls
lanes_with [] [] h = refl
lanes_with [] (e ∷ es) h = absurd (let z : 0 ≡ suc (length es) = h in omega arith)
lanes_with (l ∷ ls) [] h = absurd (let z : suc (length ls) ≡ 0 = h in omega arith)
lanes_with (l ∷ ls) (e ∷ es) h =
    ap {B = List Lane} (λ x. l ∷ x)
    (lanes_with ls es (let z : suc (length ls) ≡ suc (length es) = h in omega arith))

pub ends_six : (ls : List Lane) (es : List (List Float)) → Each (λ e. length e ≡ 12) es → Each Six (with_edges ls es)
ends_six [] es h = tt
ends_six (l ∷ ls) [] h = tt
ends_six (l ∷ ls) (e ∷ es) h = (
  (length-take-le 6 e (omega (arith, h.0)), length-drop 6 e ∙ (omega (arith, h.0))),
  ends_six ls es h.1,
)
