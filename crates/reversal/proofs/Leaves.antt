-- The words that the code computes, case by case.
use Prim.Native.Nat.{ℕ, suc, ◌+◌, ◌*◌, ◌-◌}
use mathlib.Core.Bool.{Bool, true, false, not, beq, cond}
use mathlib.Core.List.{List, [], ◌∷◌}
use mathlib.Core.Option as maths
use mathlib.Core.Path.{◌≡◌, refl, sym, ap, ap₂, ◌∙◌}
use native.Mathlib.Omega.{arith}
use lib.Dec.{eqb}
use lib.Ieee.{Float}
use lib.ListN.{length, get_or, set}
use mir.Val.{bool_byte}
use Rattle.std.proofs.Common.{Option, Some}
use Rattle.geometry.specs.declared.gap.Direction.{Direction}
use Rattle.model.specs.Lists.{◌⊕◌, head_or, last_or, map_o, pick}
use Rattle.model.specs.Records as records
use Rattle.model.specs.Records.{Span, link_at}
use Rattle.model.specs.Reversal.{marks, mirror, reverse_direction, reverse_target, signed}
use Rattle.model.specs.Rows.{word}
use Rattle.model.specs.Tables.{bit, direction_word, flag, lane_row, link_words, span_in, target_in, target_words}
use Rattle.laws.proofs.Lay.{spelled}
use Rattle.words.specs.Fields.{number_read, target_read}
use Rattle.words.specs.Name.{place_of}
use Rattle.words.specs.Rows.{spliced}
use Rattle.words.specs.declared.target.Target.{Target}
use Rattle.reversal.specs.Turned.{connection_turned, floats_of, lane_read, mark_of, names_marked, road_turned}
use Rattle.reversal.specs.Turned.{reversed_connection, reversed_lane, reversed_on, reversed_road, road_with, row}
use Rattle.reversal.specs.Turned.{sign_at, target_marked, turned_edges, turned_pair}
use Rattle.reversal.specs.declared.lanes.Lane.{Lane}

-- either, by a mark
module _ {A : Type 0} where
  pub if_on : (b : Bool) (x y : A) {r : A} → b ≡ true → r ≡ x → r ≡ cond b x y
  if_on b x y e f = rw e f

  pub if_off : (b : Bool) (x y : A) {r : A} → b ≡ false → r ≡ y → r ≡ cond b x y
  if_off b x y e f = rw e f

-- ---- the first and the last of a part
pub head_none : (l : List ℕ) → length l ≡ 0 → 0 ≡ head_or 0 l
head_none [] e = refl
head_none (x ∷ xs) e = absurd (let z : suc (length xs) ≡ 0 = e in omega arith)

pub first_is : (l : List ℕ) → get_or l 0 0 ≡ head_or 0 l
first_is [] = refl
first_is (x ∷ xs) = refl

pub last_none : (l : List ℕ) → length l ≡ 0 → 0 ≡ last_or 0 l
last_none [] e = refl
last_none (x ∷ xs) e = absurd (let z : suc (length xs) ≡ 0 = e in omega arith)

last_at : (d x : ℕ) (xs : List ℕ) → get_or (x ∷ xs) (length xs) d ≡ last_or x xs
last_at d x [] = refl
last_at d x (y ∷ ys) = last_at d y ys

pub last_is : (l : List ℕ) → get_or l (length l - 1) 0 ≡ last_or 0 l
last_is [] = refl
last_is (x ∷ xs) =
    ap (λ (k : ℕ). get_or (x ∷ xs) k 0) (let e : suc (length xs) - 1 ≡ length xs = omega arith in e)
    ∙ last_at 0 x xs

-- ---- rows
-- a target reversed
pub target_turned : (mk : Span → Bool) {o : Option Target} {t : Target} {led : Bool} → o ≡ Some t
    → led ≡ names_marked mk (target_read (Some t))
    → maths.some (record {
      is_junction = t.is_junction;
      name = place_of t.name;
      contact = not (beq t.contact led);
      given = t.given;
      along = t.along;
    }) ≡ map_o (reverse_target mk) (target_read o)
unfolding reverse_target
target_turned mk {o} {t} {led} was leads =
    (λ i.
    maths.some (record {
      is_junction = t.is_junction;
      name = place_of t.name;
      contact = (ap (λ b. not (beq t.contact b)) leads ∙ go t.is_junction (place_of t.name) t.contact) i;
      given = t.given;
      along = t.along;
    }))
    ∙ ap (λ x. map_o (reverse_target mk) (target_read x)) (sym was)
  where
    over : (m c : Bool) → not (beq c m) ≡ m ⊕ c
    over true true = refl
    over true false = refl
    over false true = refl
    over false false = refl

    go : (j : Bool) (n : Span) (c : Bool)
        → not (beq c (marks mk (cond j maths.none (maths.some n)))) ≡ cond j c (mk n ⊕ c)
    go true n true = refl
    go true n false = refl
    go false n c = over (mk n) c

-- a road's row with two targets put in it
pub row_with : (r : List ℕ) (p s : maths.Option records.Target) {once twice : List ℕ} → length r ≡ 20
    → once ≡ spliced 4 (target_words p) r → twice ≡ spliced 11 (target_words s) once → twice ≡ road_with r p s
unfolding spliced
row_with r p s whole first second =
    second
    ∙ ap (spliced 11 (target_words s)) first
    ∙ ap (λ r. spliced 11 (target_words s) (spliced 4 (target_words p) r)) (sym (spelled 20 r whole))

-- a connection's row with a contact put in it
pub contact_put : (r : List ℕ) (k : ℕ) → length r ≡ 7
    → set r 4 k ≡ word r 0 ∷ word r 1 ∷ word r 2 ∷ word r 3 ∷ k ∷ word r 5 ∷ word r 6 ∷ []
contact_put r k whole = ap (λ r. set r 4 k) (sym (spelled 7 r whole))

-- the connection's row then
pub contact_turned : (text roads marks ws : List ℕ) (i : ℕ) {r : List ℕ} {mark contact : Bool}
    → length r ≡ 7 → r ≡ row 7 ws i → mark ≡ mark_of text roads marks (span_in r 2) → contact ≡ flag (word r 4)
    → set r 4 (bool_byte (not (beq mark contact))) ≡ reversed_connection text roads marks ws i
unfolding reversed_connection
contact_turned text roads marks ws i {r} {mark} {contact} whole read marked given =
    contact_put r (bool_byte (not (beq mark contact))) whole
    ∙ (λ j.
    word r 0 ∷ word r 1 ∷ word r 2 ∷ word r 3
    ∷ (go mark contact ∙ ap₂ (λ (m c : Bool). bit (m ⊕ c)) marked given) j ∷ word r 5 ∷ word r 6 ∷ [])
    ∙ ap (λ (r : List ℕ). connection_turned r (mark_of text roads marks (span_in r 2))) read
  where
    go : (m c : Bool) → bool_byte (not (beq m c)) ≡ bit (m ⊕ c)
    go true true = refl
    go true false = refl
    go false true = refl
    go false false = refl

-- a road marked or not
module _ (text roads marks : List ℕ) (i : ℕ) {r words : List ℕ} {before after : maths.Option records.Target}
    (read : r ≡ row 20 roads i) (first : before ≡ map_o (reverse_target (mark_of text roads marks)) (target_in r 4))
    (second : after ≡ map_o (reverse_target (mark_of text roads marks)) (target_in r 11)) where
  pub road_is : (m : Bool) → flag (get_or marks i 0) ≡ m
      → words ≡ road_with r (pick m before after) (pick m after before) → words ≡ reversed_road text roads marks i
  unfolding reversed_road
  road_is m is laid = laid ∙ go m ∙ (λ j. road_turned (mark_of text roads marks) (read j) (sym is j))
    where
      go : (m : Bool)
          → road_with r (pick m before after) (pick m after before) ≡ road_turned (mark_of text roads marks) r m
      go true = λ j. road_with r (second j) (first j)
      go false = λ j. road_with r (first j) (second j)

-- a lane's words
pub lane_words : (l : Lane) {way : ℕ} {a b : List ℕ} → way ≡ direction_word l.direction
    → a ≡ link_words (number_read l.successor) → b ≡ link_words (number_read l.predecessor)
    → l.identity ∷ l.road.start ∷ l.road.size ∷ l.section ∷ l.number ∷ way ∷ get_or a 0 0 ∷ get_or a 1 0
    ∷ get_or b 0 0 ∷ get_or b 1 0 ∷ [] ≡ lane_row (lane_read l)
unfolding lane_row
lane_words l way onward back =
    λ i.
    l.identity ∷ l.road.start ∷ l.road.size ∷ l.section ∷ l.number ∷ way i ∷ get_or (onward i) 0 0
    ∷ get_or (onward i) 1 0 ∷ get_or (back i) 0 0 ∷ get_or (back i) 1 0 ∷ []

-- a lane on its road
pub lane_is : (text roads marks : List ℕ) (l : records.Lane) (r : ℕ) (m : Bool) (ss : List ℕ) {s n h t : ℕ}
    {d : Direction} {onward back next before : maths.Option ℕ}
    → s ≡ cond m (mirror ss l.section) l.section → n ≡ signed m l.number → d ≡ reverse_direction m l.direction
    → t ≡ last_or 0 ss → h ≡ head_or 0 ss
    → onward ≡ map_o (signed (cond (eqb l.section t) (target_marked text roads marks (r * 20 + 11)) m)) l.successor
    → back ≡ map_o (signed (cond (eqb l.section h) (target_marked text roads marks (r * 20 + 4)) m)) l.predecessor
    → next ≡ pick m onward back → before ≡ pick m back onward
    → record {
      identity = l.identity;
      road = l.road;
      section = s;
      number = n;
      direction = d;
      predecessor = before;
      successor = next;
    } ≡ reversed_on text roads marks l r m ss
unfolding reversed_on
lane_is text roads marks l r m ss section number way last first onward back next before =
    let link : Bool → maths.Option ℕ =
    λ e. map_o (signed (sign_at text roads marks l.section r m ss e)) (link_at e l) in
    let sign : ℕ → ℕ → Bool = λ k a. cond (eqb l.section k) (target_marked text roads marks (r * 20 + a)) m in
    let at_end = onward ∙ ap (λ (k : ℕ). map_o (signed (sign k 11)) l.successor) last in
    let at_start = back ∙ ap (λ (k : ℕ). map_o (signed (sign k 4)) l.predecessor) first in
    λ j.
    record {
      identity = l.identity;
      road = l.road;
      section = section j;
      number = number j;
      direction = way j;
      predecessor = (before ∙ (λ k. pick m (at_start k) (at_end k)) ∙ either link m) j;
      successor = (next ∙ (λ k. pick m (at_end k) (at_start k)) ∙ other link m) j;
    }
  where
    either : (f : Bool → maths.Option ℕ) (m : Bool) → pick m (f false) (f true) ≡ f m
    either f true = refl
    either f false = refl

    other : (f : Bool → maths.Option ℕ) (m : Bool) → pick m (f true) (f false) ≡ f (not m)
    other f true = refl
    other f false = refl

-- ---- how long rows are
pub connection_7 : (text roads marks ws : List ℕ) (i : ℕ) → length (reversed_connection text roads marks ws i) ≡ 7
unfolding reversed_connection
connection_7 text roads marks ws i = refl

pub road_20 : (text roads marks : List ℕ) (i : ℕ) → length (reversed_road text roads marks i) ≡ 20
unfolding reversed_road
road_20 text roads marks i = refl

pub lane_10 : (text roads sections marks lanes owner : List ℕ) (i : ℕ)
    → length (reversed_lane text roads sections marks lanes owner i) ≡ 10
unfolding reversed_lane lane_row
lane_10 text roads sections marks lanes owner i = refl

pub edges_12 : (owner marks : List ℕ) (edges : List Float) (i : ℕ) → length (turned_edges owner marks edges i) ≡ 12
unfolding turned_edges floats_of
edges_12 owner marks edges i = refl

pub pair_2 : (m n : Bool) (pairs : List ℕ) (p : ℕ) → length (turned_pair m n pairs p) ≡ 2
unfolding turned_pair
pair_2 m n pairs p = refl

pub pair_is : (m n : Bool) (pairs : List ℕ) (p : ℕ) {x y : ℕ} → x ≡ signed m (get_or pairs (p * 2) 0)
    → y ≡ signed n (get_or pairs (p * 2 + 1) 0) → x ∷ y ∷ [] ≡ turned_pair m n pairs p
unfolding turned_pair
pair_is m n pairs p from to = λ i. from i ∷ to i ∷ []
