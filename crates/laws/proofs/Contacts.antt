-- Contact points: given just where they are there and not spelled loosely; spelled loosely, read as absent ones.
use mathlib.Core.Path.{◌≡◌, refl, sym, ap, ◌∙◌}
use mathlib.Core.Bool.{Bool, true, false, not, ◌&&◌, ◌||◌, cond, true≢false}
use mathlib.Core.Option.{Option, none, some, none-ne-some, some-injective}
use mathlib.Core.List.{List}
use Prim.Native.Nat.{ℕ}
use Rattle.model.specs.Lists.{is_some, map_o}
use Rattle.model.specs.Reading.{contact_of, end_text, is_spelled, junction_text, read_target, reads, start_text}
use Rattle.model.specs.Records.{Span, Target}
use Rattle.model.specs.Repair.{back_end}
use Rattle.model.specs.Rows.{word}
use Rattle.model.specs.Tables.{flag, name_in}

pub given_there : (text : List ℕ) (o : Option Span) → (contact_of text o).loose ≡ false
    → (contact_of text o).given ≡ is_some o
given_there text none strict = refl
given_there text (some n) strict = go (is_spelled text (some n)) strict
  where
    go : (b : Bool) → not b ≡ false → b ≡ true
    go true e = refl
    go false e = absurd (true≢false e)

pub loose_reads : (text : List ℕ) (o : Option Span) → (contact_of text o).loose ≡ true
    → ((contact_of text o).contact ≡ false) × ((contact_of text o).given ≡ false)
loose_reads text none loose = (refl, refl)
loose_reads text (some n) loose = go (reads text start_text (some n)) (reads text end_text (some n)) loose
  where
    go : (s e : Bool) → not (s || e) ≡ true → (e ≡ false) × (s || e ≡ false)
    go false false l = (refl, refl)
    go false true l = absurd (true≢false (sym l))
    go true e l = absurd (true≢false (sym l))

-- a target that gives no contact names no end
ungiven : (alike : Span → Span → Bool) (n : Span) (t : Target) → t.given ≡ false → back_end alike n t ≡ none
unfolding back_end
ungiven alike n t off =
    ap (λ (b : Bool). cond b (some t.contact) none)
    (ap (λ (g : Bool). not t.is_junction && alike t.name n && g) off
    ∙ go (not t.is_junction) (alike t.name n))
  where
    go : (a b : Bool) → (a && b && false) ≡ false
    go true true = refl
    go true false = refl
    go false b = refl

pub no_end : (text r : List ℕ) (t : Target) → read_target text r ≡ some t → (contact_of text (name_in r 5)).loose ≡ true
    → (alike : Span → Span → Bool) (n : Span) → back_end alike n t ≡ none
unfolding read_target
no_end text r t read loose alike n = go (flag (word r 0)) (name_in r 3) read
  where
    made : Span → Target
    made m = record {
      is_junction = reads text junction_text (name_in r 1);
      name = m;
      contact = (contact_of text (name_in r 5)).contact;
      given = (contact_of text (name_in r 5)).given;
      along = is_some (name_in r 7);
    }

    go : (f : Bool) (o : Option Span) → cond f (map_o made o) none ≡ some t → back_end alike n t ≡ none
    go true (some m) e =
        ungiven alike n t
        (ap (λ (x : Target). x.given) (sym (some-injective _ _ e)) ∙ (loose_reads text (name_in r 5) loose).1)
    go true none e = absurd (none-ne-some _ e)
    go false o e = absurd (none-ne-some _ e)
