-- Runs made word by word, links back, and one list more among packed lists.
use Prim.Native.Nat.{ℕ, zero, suc, ◌+◌, ◌-◌, ◌<◌, ◌≤◌}
use mathlib.Core.Path.{◌≡◌, refl, sym, ap, ap₂, ◌∙◌, subst}
use mathlib.Core.Bool.{Bool, true, false, cond}
use mathlib.Core.List.{List, [], ◌∷◌, ◌++◌}
use native.Mathlib.Nat.{le_refl}
use native.Mathlib.Numerals.{add-one}
use native.Mathlib.Omega.{arith}
use lib.ListN.{length, get_or, take, drop, take-append-drop}
use lib.Seq.{length-take-le, take_all, take-suc}
use Rattle.std.specs.List.{count_by}
use Rattle.std.proofs.lemmas.List.Sums.{count_by-le-length, sum_by-cons}
use Rattle.model.specs.Lists.{insert}
use Rattle.model.specs.Lookup.{list_part}
use Rattle.model.specs.Rows.{written}
use Rattle.model.specs.Succession.{is_both}
use Rattle.laws.proofs.Bound.{length_insert}
use Rattle.laws.proofs.Sorting.{Ordered}
use Rattle.words.specs.Rows.{joined, total}
use Rattle.words.proofs.Laws.{written_length}
use Rattle.succession.specs.Runs.{Rising}
use Rattle.succession.specs.ByRow.{Rows, direction_at, own_exits_by_row, successors_by_row}
use Rattle.succession.specs.Packs.{start_of}
use Rattle.succession.specs.Finished.{Made, Taking, back_into, exit_count, finished_at}
use Rattle.succession.specs.Finished.{finished_from, two_way_row, wants}
use Rattle.succession.proofs.Absorbed.{length_absorb, ordered_rising, rising_ordered}
use Rattle.succession.proofs.Absorbed.{written_front, written_take, written_twice}
use Rattle.succession.proofs.Places.{tail_back, tail_is, tail_from}
use Rattle.succession.proofs.Packing.{packed_more, joined_long}
use Rattle.succession.proofs.Turns.{own_most}
use Rattle.laws.proofs.Sorting.{ordered_insert}

-- how long the two lists of a lane are together
abbrev pub both_long : (offsets ids finder_offsets finder_ids : List ℕ) → ℕ → ℕ
both_long offsets ids finder_offsets finder_ids l =
    length (list_part offsets ids l) + length (list_part finder_offsets finder_ids l)

-- ---- a run made
module _ {run : List ℕ} (n x : ℕ) (asked : Bool) where
  pub made_put : {new : List ℕ} → asked ≡ true → n ≤ length run → new ≡ written (insert x (take n run)) run
      → Made (cond asked (insert x (take n run)) (take n run)) run new (n + 1)
  made_put e h p = record {
    list = p ∙ ap (λ (b : Bool). written (cond b (insert x (take n run)) (take n run)) run) (sym e);
    size = sym (length_insert x (take n run) ∙ ap suc (length-take-le n run h) ∙ sym (add-one n))
        ∙ ap (λ (b : Bool). length (cond b (insert x (take n run)) (take n run))) (sym e);
  }

  pub made_left : asked ≡ false → n ≤ length run → Made (cond asked (insert x (take n run)) (take n run)) run run n
  made_left e h = record {
    list = sym (written_take n run h)
        ∙ ap (λ (b : Bool). written (cond b (insert x (take n run)) (take n run)) run) (sym e);
    size = sym (length-take-le n run h)
        ∙ ap (λ (b : Bool). length (cond b (insert x (take n run)) (take n run))) (sym e);
  }

-- what a run made has in front, and a longer one made over it
module _ {xs old mid : List ℕ} {n : ℕ} (m : Made xs old mid n) where
  pub made_front : take n mid ≡ xs
  made_front = ap₂ take m.size m.list ∙ written_front xs old

  pub made_long : length xs ≤ length old → length mid ≡ length old
  made_long h = ap length m.list ∙ written_length xs old h

  pub made_then : {ys zs new : List ℕ} {q : ℕ} → Made ys mid new q → ys ≡ zs → length xs ≤ length zs
      → Made zs old new q
  made_then {ys} {zs} p e h = record {
    list = p.list ∙ ap₂ written e m.list ∙ written_twice xs zs old h;
    size = p.size ∙ ap length e;
  }

-- ---- links back
module _ (p : ℕ → Bool) where
  pub back_more : (ys : List ℕ) (y : ℕ) (xs : List ℕ)
      → back_into p (ys ++ (y ∷ [])) xs ≡ cond (p y) (insert y (back_into p ys xs)) (back_into p ys xs)
  back_more [] y xs = refl
  back_more (z ∷ ys) y xs = back_more ys y (cond (p z) (insert z xs) xs)

  pub back_take : (ys : List ℕ) (k : ℕ) (xs : List ℕ) → k < length ys
      → back_into p (take (k + 1) ys) xs
      ≡ cond (p (get_or ys k 0)) (insert (get_or ys k 0) (back_into p (take k ys) xs)) (back_into p (take k ys) xs)
  back_take ys k xs h =
      ap (λ (j : ℕ). back_into p (take j ys) xs) (add-one k)
      ∙ ap (λ (l : List ℕ). back_into p l xs) (take-suc ys k 0 h)
      ∙ back_more (take k ys) (get_or ys k 0) xs

  put_count : (b : Bool) (y : ℕ) (xs : List ℕ) → length (cond b (insert y xs) xs) ≡ length xs + cond b 1 0
  put_count true y xs = length_insert y xs ∙ sym (add-one (length xs))
  put_count false y xs = omega arith

  -- each that is wanted adds one
  pub back_count : (ys xs : List ℕ) → length (back_into p ys xs) ≡ length xs + count_by p ys
  back_count [] xs = omega arith
  back_count (y ∷ ys) xs =
      let put = cond (p y) (insert y xs) xs in
      let rest : length (back_into p ys put) ≡ length put + count_by p ys = back_count ys put in
      let all : length xs + cond (p y) 1 0 + count_by p ys ≡ length xs + count_by p (y ∷ ys) =
      omega (arith, sum_by-cons (λ x. cond (p x) 1 0) y ys) in
      rest ∙ ap (λ (k : ℕ). k + count_by p ys) (put_count (p y) y xs) ∙ all

  pub back_least : (ys xs : List ℕ) → length xs ≤ length (back_into p ys xs)
  back_least ys xs = omega (arith, back_count ys xs)

  pub back_most : (ys xs : List ℕ) → length (back_into p ys xs) ≤ length xs + length ys
  back_most ys xs = omega (arith, back_count ys xs, count_by-le-length p ys)

  ordered_put : (b : Bool) (y : ℕ) (xs : List ℕ) → Ordered xs → Ordered (cond b (insert y xs) xs)
  ordered_put true y xs h = ordered_insert y xs h
  ordered_put false y xs h = h

  pub back_ordered : (ys xs : List ℕ) → Ordered xs → Ordered (back_into p ys xs)
  back_ordered [] xs h = h
  back_ordered (y ∷ ys) xs h = back_ordered ys (cond (p y) (insert y xs) xs) (ordered_put (p y) y xs h)

  -- those that come later add to the list
  back_split : (ys zs xs : List ℕ) → back_into p (ys ++ zs) xs ≡ back_into p zs (back_into p ys xs)
  back_split [] zs xs = refl
  back_split (y ∷ ys) zs xs = back_split ys zs (cond (p y) (insert y xs) xs)

  so_far_lem : (ys : List ℕ) (k : ℕ) (xs : List ℕ) → length (back_into p (take k ys) xs) ≤ length (back_into p ys xs)
  so_far_lem ys k xs =
      subst (λ (l : List ℕ). length (back_into p (take k ys) xs) ≤ length l)
      (sym (back_split (take k ys) (drop k ys) xs)
      ∙ ap (λ (l : List ℕ). back_into p l xs) (take-append-drop k ys))
      (back_least (drop k ys) (back_into p (take k ys) xs))

  -- a turn of the count
  pub count_turn : (ys : List ℕ) (k : ℕ) (xs : List ℕ) (n : ℕ) (asked : Bool) → k < length ys
      → asked ≡ p (get_or ys k 0) → n ≡ length (back_into p (take k ys) xs)
      → cond asked (n + 1) n ≡ length (back_into p (take (k + 1) ys) xs)
  count_turn ys k xs n asked h e q =
      ap₂ (λ (b : Bool) (m : ℕ). cond b (m + 1) m) e q
      ∙ go (p (get_or ys k 0))
      ∙ ap length (sym (back_take ys k xs h))
    where
      go : (b : Bool)
          → cond b (length (back_into p (take k ys) xs) + 1) (length (back_into p (take k ys) xs))
          ≡ length (cond b (insert (get_or ys k 0) (back_into p (take k ys) xs)) (back_into p (take k ys) xs))
      go true =
          add-one (length (back_into p (take k ys) xs))
          ∙ sym (length_insert (get_or ys k 0) (back_into p (take k ys) xs))
      go false = refl

-- the loop's turn
module _ {p : ℕ → Bool} {finders : List ℕ} {start : ℕ} {run₀ : List ℕ} (ready : Taking p finders start run₀) where
  abbrev so_far : ℕ → List ℕ
  so_far k = back_into p (take k finders) (take start run₀)

  pub turn_none : Made (so_far 0) run₀ run₀ start
  turn_none =
      record {
        list = sym (written_take start run₀ ready.begun);
        size = sym (length-take-le start run₀ ready.begun);
      }

  module _ (k : ℕ) {n : ℕ} {run : List ℕ} (made : Made (so_far k) run₀ run n) where
    below : length (so_far k) ≤ length run₀
    below = let a = so_far_lem p finders k (take start run₀) in let room = ready.room in omega arith

    pub turn_long : length run ≡ length run₀
    turn_long = made_long made below

    pub turn_within : n ≤ length run
    turn_within = let a = below in let b = turn_long in let d = made.size in omega arith

    pub turn_rising : Rising (take n run)
    turn_rising =
        ordered_rising (take n run)
        (subst Ordered (sym (made_front made))
        (back_ordered p (take k finders) (take start run₀) (rising_ordered (take start run₀) ready.rising)))

    pub turn_end : length finders ≤ k → Made (back_into p finders (take start run₀)) run₀ run n
    turn_end all =
        subst (λ (l : List ℕ). Made (back_into p l (take start run₀)) run₀ run n) (take_all k finders all) made

    module _ (lt : k < length finders) {asked : Bool} (wanted : asked ≡ p (get_or finders k 0)) where
      pub turn_room : asked ≡ true → n < length run
      turn_room t =
          let a = so_far_lem p finders (k + 1) (take start run₀) in
          let room = ready.room in
          let b = turn_long in
          let d = count_turn p finders k (take start run₀) n asked lt wanted made.size in
          let f = ap (λ (b : Bool). cond b (n + 1) n) t in omega arith

      pub turn_on : {new : List ℕ} {q : ℕ}
          → Made (cond asked (insert (get_or finders k 0) (take n run)) (take n run)) run new q
          → Made (so_far (k + 1)) run₀ new q
      turn_on put =
          made_then made put
          (ap₂ (λ (b : Bool) (xs : List ℕ). cond b (insert (get_or finders k 0) xs) xs) wanted (made_front made)
          ∙ sym (back_take p finders k (take start run₀) lt))
          (subst (λ (l : List ℕ). length (so_far k) ≤ length l)
          (sym (back_take p finders k (take start run₀) lt))
          (omega (arith, put_count p (p (get_or finders k 0)) (get_or finders k 0) (so_far k))))

-- ---- a lane's finished list
module _ (lanes mine finders : List ℕ) (l : ℕ) where
  pub finish_most : length (finished_from lanes mine finders l) ≤ length mine + length finders
  unfolding finished_from
  finish_most = go (two_way_row lanes (suc l))
    where
      go : (b : Bool) → length (cond b (back_into (wants lanes mine) finders mine) mine) ≤ length mine + length finders
      go true = back_most (wants lanes mine) finders mine
      go false = omega arith

  pub plain_is : two_way_row lanes (suc l) ≡ false → finished_from lanes mine finders l ≡ mine
  unfolding finished_from
  plain_is z = ap (λ (b : Bool). cond b (back_into (wants lanes mine) finders mine) mine) z

  pub back_is : two_way_row lanes (suc l) ≡ true
      → finished_from lanes mine finders l ≡ back_into (wants lanes mine) finders mine
  unfolding finished_from
  back_is z = ap (λ (b : Bool). cond b (back_into (wants lanes mine) finders mine) mine) z

  pub finish_least : length mine ≤ length (finished_from lanes mine finders l)
  unfolding finished_from
  finish_least = go (two_way_row lanes (suc l))
    where
      go : (b : Bool) → length mine ≤ length (cond b (back_into (wants lanes mine) finders mine) mine)
      go true = back_least (wants lanes mine) finders mine
      go false = le_refl (length mine)

  module _ (run₀ : List ℕ) {run : List ℕ} (e : run ≡ written mine run₀) where
    pub finish_plain : two_way_row lanes (suc l) ≡ false
        → Made (finished_from lanes mine finders l) run₀ run (length mine)
    finish_plain z =
        record {
          list = e ∙ ap (λ (xs : List ℕ). written xs run₀) (sym (plain_is z));
          size = ap length (sym (plain_is z));
        }

    pub copied : take (length mine) run ≡ mine
    copied = ap (take (length mine)) e ∙ written_front mine run₀

    pub finish_room : two_way_row lanes (suc l) ≡ true
        → length (back_into (wants lanes mine) finders (take (length mine) run))
        ≡ length (finished_from lanes mine finders l)
    finish_room z =
        ap (λ (xs : List ℕ). length (back_into (wants lanes mine) finders xs)) copied
        ∙ ap length (sym (back_is z))

    pub finish_back : two_way_row lanes (suc l) ≡ true → {new : List ℕ} {q : ℕ}
        → Made (back_into (wants lanes mine) finders (take (length mine) run)) run new q
        → Made (finished_from lanes mine finders l) run₀ new q
    finish_back z m =
        made_then (record { list = e; size = refl }) m
        (ap (back_into (wants lanes mine) finders) copied ∙ sym (back_is z)) finish_least

-- ---- one list more, written to the tail of an output
module _ (list : ℕ → List ℕ) (f : ℕ → ℕ) (few : (i : ℕ) → length (list i) ≤ f i) where
  pub start_most : (i : ℕ) → start_of list i ≤ total i f
  unfolding total
  start_most zero = le_refl 0
  start_most (suc i) = let a : start_of list i ≤ total i f = start_most i in let b = few i in omega arith

  module _ (n i : ℕ) {at : ℕ} (out₀ out : List ℕ) (li : i < n) (room : total n f ≤ length out₀)
      (ea : at ≡ start_of list i) (long : length out ≡ length out₀) where
    upto : total (i + 1) f ≤ length out₀
    upto = let a = Rattle.words.proofs.Laws.total_le (i + 1) n f (omega arith) in omega arith

    pub tail_room : at + f i ≤ length out
    tail_room = let a = upto in let b = Rattle.words.proofs.Laws.total_more i f in let d = start_most i in omega arith

    pub tail_more : out ≡ written (joined i list) out₀ → {xs new : List ℕ} → xs ≡ list i
        → new ≡ written xs (tail_from at out (let a = tail_room in omega arith))
        → take at out ++ (new ++ drop (length out - at) (drop at out)) ≡ written (joined (i + 1) list) out₀
    tail_more e {xs} {new} ex en =
        let h : at ≤ length out = (let a = tail_room in omega arith) in
        tail_back at out h new
        ∙ packed_more list i at out₀ out (take at out ++ new) e ea
        (ap (λ (l : List ℕ). take at out ++ l) (en ∙ ap₂ written ex (tail_is at out h)))
        (let a = start_most (i + 1) in let b = upto in omega arith)

    pub more_long : {new : List ℕ} → new ≡ written (joined (i + 1) list) out₀ → length new ≡ length out₀
    more_long e =
        ap length e
        ∙ written_length (joined (i + 1) list) out₀
        (let a = joined_long list (i + 1) in let b = start_most (i + 1) in let d = upto in omega arith)

-- ---- all finished lists are no longer than the own lists and the finders' together
module _ (lanes offsets ids finder_offsets finder_ids : List ℕ) (n : ℕ) where
  abbrev finished : ℕ → List ℕ
  finished = finished_at lanes offsets ids finder_offsets finder_ids

  abbrev both : ℕ → ℕ
  both = both_long offsets ids finder_offsets finder_ids

  pub finished_most : start_of finished n ≤ total n both
  finished_most = start_most finished both (λ k. finish_most lanes _ _ k) n

pub successors_most : (R : Rows) (l : ℕ) → length (successors_by_row R l) ≤ exit_count R l
unfolding successors_by_row
successors_most R l =
    omega (arith, length_absorb (is_both (direction_at R.lanes l)) [] (own_exits_by_row R l), own_most R l)

pub both_fit : (starts ids fstarts fids : List ℕ) (n : ℕ) (f : ℕ → List ℕ)
    → ((i : ℕ) → i < n → list_part fstarts fids i ≡ f i)
    → total n (both_long starts ids fstarts fids) ≡ start_of (list_part starts ids) n + start_of f n
both_fit starts ids fstarts fids n f h =
    Rattle.succession.proofs.Spreads.total_plus n (λ k. length (list_part starts ids k))
    (λ k. length (list_part fstarts fids k)) (both_long starts ids fstarts fids) (λ r. refl)
    ∙ ap (λ (k : ℕ). start_of (list_part starts ids) n + k)
    (Rattle.words.proofs.Laws.total_same n (λ k. length (list_part fstarts fids k)) (λ k. length (f k))
    (λ i li. ap length (h i li)))
