-- A run of the code that takes entries in: none, one list after another, turn by turn.
use Rattle.std.proofs.Common.{ℕ, ◌+◌, ◌-◌, ◌<◌, ◌≤◌, ◌≡◌, Bool, refl, sym, ap, ◌∙◌, subst, arith}
use Rattle.std.proofs.Common.{List, [], ◌++◌, length}
use Rattle.std.proofs.Math.ListN.{length-append}
use Rattle.model.specs.Succession.{Entry}
use Rattle.words.proofs.Joins.{joined_le, joined_none}
use Rattle.succession.specs.declared.entries.Run.{Run}
use Rattle.succession.specs.ByRow.{Room, Took, ranged}
use Rattle.succession.specs.Grown.{Grown}
use Rattle.succession.proofs.Absorbed.{room_after, took_more, took_none, took_long}
use Rattle.succession.proofs.Steps.{ranged_more}

-- nothing taken in, whatever there was room for
pub grown_none : (run : Run) {es : List Entry} → Room run.len es run.words.now → Grown [] run run
grown_none run room = record {
  took = took_none run.both run.len run.words.now (omega (arith, room.fits));
  same = record { lent = refl; both = refl };
}

-- ---- one list after another
module _ (es fs : List Entry) (old : Run) (room : Room old.len (es ++ fs) old.words.now) where
  fits_first : old.len + length es ≤ length old.words.now
  fits_first = omega (arith, room.fits, length-append es fs)

  module _ (mid : Run) (g : Grown es old mid) where
    pub room_next : Room mid.len fs mid.words.now
    room_next =
        room_after old.both old.len es old.words.now mid.words.now mid.len g.took fits_first fs room.rising room.fits

    pub grown_on : (new : Run) → Grown fs mid new → Grown (es ++ fs) old new
    grown_on new u = record {
      took = took_more old.both old.len es old.words.now mid.words.now mid.len g.took fits_first fs new.words.now
          new.len
          (subst (λ (b : Bool). Took b mid.len fs mid.words.now new.words.now new.len) g.same.both u.took);
      same = record { lent = u.same.lent ∙ g.same.lent; both = u.same.both ∙ g.same.both };
    }

-- ---- the entries from a on, n turns: those before i are taken in
module _ (a n : ℕ) (f : ℕ → List Entry) (old : Run) (room : Room old.len (ranged a n f) old.words.now) where
  pub turns_begin : (i : ℕ) → i ≡ a → Grown (ranged a (i - a) f) old old
  turns_begin i q =
      subst (λ (es : List Entry). Grown es old old)
      (sym (ap (λ (k : ℕ). ranged a k f) (let z : i - a ≡ 0 = omega arith in z) ∙ joined_none (λ k. f (a + k))))
      (grown_none old room)

  module _ (i : ℕ) (run : Run) (g : Grown (ranged a (i - a) f) old run) (lo : a ≤ i) (hi : i < a + n) where
    room_both : Room old.len (ranged a (i - a) f ++ f i) old.words.now
    room_both = record {
      rising = room.rising;
      fits =
          let l = joined_le (i + 1 - a) n (λ k. f (a + k)) (omega arith) in
          let e = ap length (ranged_more a i f lo) in omega (arith, room.fits);
    }

    pub turns_room : Room run.len (f i) run.words.now
    turns_room = room_next (ranged a (i - a) f) (f i) old room_both run g

    pub turns_on : (new : Run) → Grown (f i) run new → Grown (ranged a (i + 1 - a) f) old new
    turns_on new u =
        subst (λ (es : List Entry). Grown es old new) (sym (ranged_more a i f lo))
        (grown_on (ranged a (i - a) f) (f i) old room_both run g new u)

  pub turns_end : (i : ℕ) (run : Run) → Grown (ranged a (i - a) f) old run → i ≡ a + n
      → Grown (ranged a n f) old run
  turns_end i run g q =
      subst (λ (k : ℕ). Grown (ranged a k f) old run) (let z : i - a ≡ n = omega arith in z) g

-- ---- the run is as long as before
pub turns_long : (both : Bool) (start a n : ℕ) (f : ℕ → List Entry) (old : List ℕ) → Room start (ranged a n f) old
    → (i m : ℕ) (run : List ℕ) → Took both start (ranged a (i - a) f) old run m → a ≤ i → i ≤ a + n
    → length run ≡ length old
turns_long both start a n f old room i m run t lo hi =
    took_long both start (ranged a (i - a) f) old run m t
    (let l = joined_le (i - a) n (λ k. f (a + k)) (omega arith) in omega (arith, room.fits))
