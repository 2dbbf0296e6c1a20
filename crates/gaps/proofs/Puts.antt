-- Words put after words.
use Prim.Native.Nat.{ℕ, ◌+◌, ◌-◌, ◌≤◌}
use mathlib.Core.Path.{◌≡◌, sym, ap, ◌∙◌}
use mathlib.Core.List.{List, [], ◌++◌, append-nil, append_assoc}
use native.Mathlib.Omega.{arith}
use borrow.Rule.Slice.PartMut.{put_mid}
use lib.ListN.{length, drop, take, length-append, length-drop, drop_of_length-le}
use lib.Seq.{drop-drop, take_all}
use Rattle.model.specs.Rows.{written}
use Rattle.words.specs.Rows.{spliced}
use Rattle.words.proofs.Laws.{put_step, written_none}
use Rattle.gaps.specs.Lent.{Put}

-- nothing put yet
pub put_nothing : {out : List ℕ} → Put [] out out 0
put_nothing {out} = record { count_is = omega arith; words_are = sym (written_none out) }

-- a turn of a loop: xs were put, and now ys
pub put_turn : (ys : List ℕ) {xs all out₀ out after : List ℕ} {count end : ℕ} → all ≡ xs ++ ys
    → length all ≤ length out₀ → Put xs out₀ out count → after ≡ spliced count ys out → end ≡ count + length ys
    → Put all out₀ after end
put_turn ys {xs} {all} {out₀} more room below put longer =
    let joined : length all ≡ length xs + length ys = ap length more ∙ length-append xs ys in
    record {
      count_is = omega (arith, joined, below.count_is);
      words_are = put_step xs ys out₀ below.words_are put below.count_is more (omega (arith, joined, below.count_is));
    }

-- ---- an output from word at on
module _ (at : ℕ) (out : List ℕ) (within : at ≤ length out) where
  abbrev tail : List ℕ
  tail = take (length out - at) (drop at out)

  tail_is : tail ≡ drop at out
  tail_is = take_all (length out - at) (drop at out) (omega (arith, length-drop at out))

  pub tail_size : length tail ≡ length out - at
  tail_size = ap length tail_is ∙ length-drop at out

  -- what is put at its front is put into the output from word at on
  pub tail_put : (ys : List ℕ) {new : List ℕ} → new ≡ written ys tail
      → put_mid at (length out - at) out new ≡ spliced at ys out
  unfolding spliced written
  tail_put ys {new} is =
      let rest : drop (length out - at) (drop at out) ≡ [] =
      drop_of_length-le (drop at out) (omega (arith, length-drop at out)) in
      rw (is, rest, append-nil, tail_is, drop-drop) (sym (append_assoc (take at out) ys (drop (at + length ys) out)))
