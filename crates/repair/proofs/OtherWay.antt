-- A direct junction's connections the other way.
use mathlib.Core.Path.{◌≡◌, refl, sym, ap, ap₂, ◌∙◌}
use mathlib.Core.Bool.{Bool, true, false, not, ◌&&◌, ◌||◌, cond}
use mathlib.Core.Option.{Option, none, some}
use mathlib.Core.List.{List, [], ◌∷◌, ◌++◌}
use Prim.Native.Nat.{ℕ, zero, suc, ◌+◌, ◌*◌, ◌/◌, ◌-◌, ◌≤◌, ◌<◌}
use native.Mathlib.Nat.{add-zero, le_refl, le_step}
use native.Mathlib.Omega.{arith}
use lib.ListN.{length}
use lib.Dec.{leb, ltb}
use borrow.Author.Tests.{leb-true, ltb-true, le-leb, lt-ltb}
use Rattle.model.specs.Lists.{gather, keep, list_o, some?, bind_o}
use Rattle.model.specs.Records.{Span, Connection, Road}
use Rattle.model.specs.Repair.{back_at, back_of, meeting_end, reversed, road_of, runs_back}
use Rattle.model.specs.Text.{same_in}
use Rattle.laws.proofs.Basics.{bool_ext}
use Rattle.laws.proofs.ListTests.{and_swap}
use Rattle.words.specs.Keys.{bears, hash_name, name_hash}
use Rattle.words.specs.Rows.{any, name_at, name_from}
use Rattle.words.proofs.Laws.{any_hit, any_same}
use Rattle.words.proofs.Scans.{and_step, left_on, right_on, some_tab}
use Rattle.repair.specs.Now.{run, connection_at}
use Rattle.repair.specs.Laying.{turned_at}
use Rattle.repair.proofs.TargetWords.{incoming_is, connecting_is}
use Rattle.words.proofs.KeyLaws.{same_hash}

-- a connection that runs the other way lies in the bucket of the connecting road's name
pub only_turned : (text connections : List ℕ) (first last c q : ℕ)
    → turned_at text connections first last c q ≡ true
    → name_hash text 7 0 connections q ≡ hash_name text (name_at 7 2 connections c)
unfolding turned_at name_hash
only_turned text connections first last c q e =
    same_hash text (name_at 7 0 connections q) (name_at 7 2 connections c)
    (right_on (leb first q && ltb q last) _
    (left_on _ (same_in text (name_at 7 2 connections q) (name_at 7 0 connections c)) e))

-- the connections that run the other way of c, by its names
pub by_names : (text cs : List ℕ) (first last c : ℕ) {incoming connecting : Span} → incoming ≡ name_from cs (c * 7)
    → connecting ≡ name_from cs (c * 7 + 2)
    → any (length cs / 7)
    (λ q.
    ((leb first q && ltb q last) && same_in text (name_from cs (q * 7 + 2)) incoming) && bears text 7 0 cs connecting q)
    ≡ any (length cs / 7) (turned_at text cs first last c)
unfolding bears turned_at
by_names text cs first last c {incoming} {connecting} from_c to_c =
    any_same (length cs / 7)
    (λ q.
    ((leb first q && ltb q last) && same_in text (name_from cs (q * 7 + 2)) incoming) && bears text 7 0 cs connecting q)
    (turned_at text cs first last c)
    (λ q l.
    ap₂ (λ (a b : Span).
    ((leb first q && ltb q last) && same_in text (name_at 7 2 cs q) a) && same_in text (name_at 7 0 cs q) b)
    (from_c ∙ ap (name_from cs) (sym (add-zero (c * 7)))) to_c
    ∙ and_swap (leb first q && ltb q last) (same_in text (name_at 7 2 cs q) (name_at 7 0 cs c))
    (same_in text (name_at 7 0 cs q) (name_at 7 2 cs c)))

-- ---- among m from first on, or among all
any_use : (n : ℕ) (p : ℕ → Bool) {C : Type 0} → any n p ≡ true → ((i : ℕ) → i < n → p i ≡ true → C) → C
unfolding any
any_use zero p e k = absurd (mathlib.Core.Bool.false≢true e)
any_use (suc n) p {C} e k = go (p n) refl (any n p) refl (λ r. any_use n p r (λ i l. k i (le_step l)))
  where
    go : (b : Bool) → p n ≡ b → (a : Bool) → any n p ≡ a → (any n p ≡ true → C) → C
    go true q a r ih = k n (le_refl (suc n)) q
    go false q true r ih = ih r
    go false q false r ih = absurd (mathlib.Core.Bool.false≢true (sym (ap₂ ◌||◌ r q) ∙ e))

abbrev in_part : (first m : ℕ) → (ℕ → Bool) → ℕ → Bool
in_part first m p q = (leb first q && ltb q (first + m)) && p q

any_part : (n first m : ℕ) (p : ℕ → Bool) → first + m ≤ n → any m (λ i. p (first + i)) ≡ any n (in_part first m p)
any_part n first m p whole = bool_ext (any m (λ i. p (first + i))) (any n (in_part first m p)) among_all within
  where
    among_all : any m (λ i. p (first + i)) ≡ true → any n (in_part first m p) ≡ true
    among_all found =
        any_use m (λ i. p (first + i)) found
        (λ i less has.
        let after = le-leb first (first + i) (omega arith) in
        let before = lt-ltb (first + i) (first + m) (omega arith) in
        any_hit n (first + i) (in_part first m p) (omega arith) (and_step (and_step after before) has))

    within : any n (in_part first m p) ≡ true → any m (λ i. p (first + i)) ≡ true
    within found =
        any_use n (in_part first m p) found
        (λ q less has.
        let inside = left_on (leb first q && ltb q (first + m)) (p q) has in
        let after = leb-true first q (left_on (leb first q) (ltb q (first + m)) inside) in
        let before = ltb-true q (first + m) (right_on (leb first q) (ltb q (first + m)) inside) in
        let back : first + (q - first) ≡ q = omega arith in
        any_hit m (q - first) (λ i. p (first + i)) (omega arith)
        (ap p back ∙ right_on (leb first q && ltb q (first + m)) (p q) has))

module _ (text connections ps : List ℕ) (c first m : ℕ) (h : first + m ≤ length connections / 7) where
  pub runs_is : some? (runs_back (same_in text) (connection_at ps connections c))
      (run (connection_at ps connections) first m)
      ≡ any (length connections / 7) (turned_at text connections first (first + m) c)
  unfolding runs_back turned_at
  runs_is =
      some_tab (runs_back (same_in text) (connection_at ps connections c)) m
      (λ j. connection_at ps connections (first + j))
      ∙ any_part (length connections / 7) first m
      (λ q. runs_back (same_in text) (connection_at ps connections c) (connection_at ps connections q)) h
      ∙ any_same (length connections / 7)
      (λ q.
      (leb first q && ltb q (first + m)) && runs_back (same_in text) (connection_at ps connections c)
      (connection_at ps connections q)) (turned_at text connections first (first + m) c)
      (λ q l.
      ap₂ (λ x y. (leb first q && ltb q (first + m)) && (x && y))
      (ap₂ (same_in text) (incoming_is ps connections q) (connecting_is ps connections c))
      (ap₂ (same_in text) (connecting_is ps connections q) (incoming_is ps connections c))
      ∙ assoc (leb first q && ltb q (first + m))
      (same_in text (name_at 7 0 connections q) (name_at 7 2 connections c))
      (same_in text (name_at 7 2 connections q) (name_at 7 0 connections c)))
    where
      assoc : (a b c : Bool) → a && (b && c) ≡ (a && b) && c
      assoc true b c = refl
      assoc false b c = refl

-- ---- one connection the other way
module _ (same : Span → Span → Bool) (rs : List Road) (j : Span) (x : Connection) (r : Bool) where
  pub runs_already : r ≡ true → [] ≡ cond (not r) (back_of same rs j x) []
  runs_already e = sym (ap (λ b. cond (not b) (back_of same rs j x) []) e)

  pub back_unknown : r ≡ false → road_of same rs x.incoming ≡ none → [] ≡ cond (not r) (back_of same rs j x) []
  unfolding back_of
  back_unknown e o =
      sym (ap₂ (λ b z. cond (not b) (list_o (bind_o z (meeting_end same j)) (λ e. back_at x e ∷ [])) []) e o)

  pub back_known : (R : Road) (q : Option Bool) → r ≡ false → road_of same rs x.incoming ≡ some R
      → q ≡ meeting_end same j R → list_o q (λ e. back_at x e ∷ []) ≡ cond (not r) (back_of same rs j x) []
  unfolding back_of
  back_known R q e o m =
      ap (λ z. list_o z (λ e. back_at x e ∷ [])) m
      ∙ sym (ap₂ (λ b z. cond (not b) (list_o (bind_o z (meeting_end same j)) (λ e. back_at x e ∷ [])) []) e o)

-- all of them
gather_keep : {A B : Type 0} (p : A → Bool) (f : A → List B) (xs : List A)
    → gather f (keep p xs) ≡ gather (λ x. cond (p x) (f x) []) xs
gather_keep p f [] = refl
gather_keep {A} {B} p f (x ∷ xs) = go (p x) (gather_keep p f xs)
  where
    go : (b : Bool) → gather f (keep p xs) ≡ gather (λ x. cond (p x) (f x) []) xs
        → gather f (cond b (x ∷ keep p xs) (keep p xs))
        ≡ cond b (f x) [] ++ gather (λ x. cond (p x) (f x) []) xs
    go true e = ap (λ (l : List B). f x ++ l) e
    go false e = e

pub reversed_is : (same : Span → Span → Bool) (rs : List Road) (j : Span) (cs : List Connection)
    → gather (λ x. cond (not (some? (runs_back same x) cs)) (back_of same rs j x) []) cs ≡ reversed same rs j cs
unfolding reversed
reversed_is same rs j cs = sym (gather_keep (λ x. not (some? (runs_back same x) cs)) (back_of same rs j) cs)
