-- A lane link read: a pair, or warning 2.
use Prim.Native.Nat.{ℕ}
use mathlib.Core.Path.{◌≡◌, ap, ◌∙◌, refl}
use mathlib.Core.List.{List, [], ◌∷◌}
use mathlib.Core.Bool.{cond, false, true≢false}
use mathlib.Core.Option.{Option, none, some}
use Rattle.model.specs.Lists.{is_some}
use Rattle.model.specs.Reading.{lane_link_dropped, number_of, pair_of, read_pair, row_at, to_list}
use Rattle.model.specs.Records.{Pair}
use Rattle.model.specs.Tables.{name_in, pair_row}
use Rattle.reading.specs.Laid.{LinkOuts, LinksRead, Output, Run, drops_at, pairs_at}
use Rattle.reading.proofs.RunLaws.{links_as, run_none}

pub nothing : {A : Type 0} (o : Option A) → is_some o ≡ false → o ≡ none
nothing none e = refl
nothing (some a) e = absurd (true≢false e)

module _ (text links : List ℕ) (l : ℕ) {row : List ℕ} (row_is : row ≡ row_at 4 links l) where
  -- the pair of a raw lane link
  abbrev pair_in : List ℕ → Option Pair
  pair_in row = pair_of (number_of text (name_in row 0)) (number_of text (name_in row 2))

  -- the pair read, and the warnings
  read_as : (j c : ℕ) {o : Option Pair} {old new : LinkOuts} → o ≡ pair_in row
      → LinksRead (to_list o) (cond (is_some o) [] (lane_link_dropped j c l ∷ [])) old new
      → LinksRead (pairs_at text links l) (drops_at text links j c l) old new
  unfolding pairs_at drops_at read_pair
  read_as j c e r =
      let is = e ∙ ap pair_in row_is in
      links_as r (ap to_list is) (ap (λ (o : Option Pair). cond (is_some o) [] (lane_link_dropped j c l ∷ [])) is)

  module _ (j c : ℕ) {x y o : Output} where
    pub link_on : {a b : ℕ} → some (record { from = a; to = b }) ≡ pair_in row → Run 2 (a ∷ b ∷ []) 1 x y
        → LinksRead (pairs_at text links l) (drops_at text links j c l) (record { pairs = x; warnings = o })
        (record { pairs = y; warnings = o })
    unfolding pair_row
    link_on there put = read_as j c there (record { pairs = put; warnings = run_none 4 o })

    pub link_off : none ≡ pair_in row → Run 4 (2 ∷ j ∷ c ∷ l ∷ []) 1 x y
        → LinksRead (pairs_at text links l) (drops_at text links j c l) (record { pairs = o; warnings = x })
        (record { pairs = o; warnings = y })
    link_off missing put = read_as j c missing (record { pairs = run_none 2 o; warnings = put })
