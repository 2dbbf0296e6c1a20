-- DEMAND 3: the single claim about any sequence of reversal calls on any tables. (Theorems.antt states it
-- beside the other main theorems.)
use mathlib.Core.Path.{◌≡◌, refl, sym, ◌∙◌, ap, subst}
use mathlib.Core.Bool.{Bool, true, false, false≢true, not}
use mathlib.Core.Option.{Option, none, some}
use mathlib.Core.List.{List, map}
use Prim.Native.Nat.{ℕ}
use Rattle.model.specs.Calls.{ReversalOutputs, gap_content, list_content, repair_content, repair_refusal}
use Rattle.model.specs.Calls.{reversal_call, reversal_content, reversal_lengths, reversal_refusal, table_rules}
use Rattle.model.specs.Claim.{Claim, repaired_tables, reversed_warning, the_set}
use Rattle.model.specs.Lists.{is_some}
use Rattle.model.specs.Records.{EdgedLane, Map, Span}
use Rattle.model.specs.Reversal.{reverse_edged, reverse_map}
use Rattle.model.specs.Rows.{table}
use Rattle.model.specs.Rules.{first_broken, fits}
use Rattle.model.specs.Sequence.{Call, after, answers, answers_by_set, any_accepted, empty_set, found, is_accepted}
use Rattle.model.specs.Sequence.{odd_marks, reversed_by, reversed_once_by, run}
use Rattle.model.specs.Tables.{Tables, roads_of, tables_of}
use Rattle.model.specs.Text.{same_in}
use Rattle.laws.proofs.Held.{Held}
use Rattle.laws.proofs.Packed.{mutual_found}
use Rattle.laws.proofs.SameFound.{found_reversed, repair_refusal_reversed, same_gaps, same_lists}
use Rattle.laws.proofs.SameWarnings.{warned_empty, warned_reversed}
use Rattle.laws.proofs.Valid.{reverse_model}
use Rattle.laws.proofs.WordsReversed.{Fine, accepted_leaves, fine, fine_sound, fine_words, lengths_are}
use Rattle.laws.proofs.WordsReversed.{model_of, model_rules, six_lengths, words_of}
use Rattle.laws.proofs.Sequences as seq

module _ (t : Tables) (cs : List Call) where
  -- ---- rules 1 to 8 or 10 refuse the tables: no call is accepted, and all stays as it was
  bad_claim : (k : ℕ) → first_broken (table_rules t) ≡ some k → Claim t cs
  bad_claim k bad =
      let stays = seq.stuck t k bad cs in
      let none_in = seq.stuck_set t k bad cs in
      record {
        said = seq.stuck_said t k bad cs;
        tables = stays ∙ sym (ap (λ set. reversed_by set t) none_in ∙ seq.same_tables t k bad);
        odd = none_in ∙ sym (seq.stuck_odd t k bad cs (empty_set t));
        at_once = λ any outs long. absurd (false≢true (sym (seq.stuck_none t k bad cs) ∙ any));
        repairs = λ lengths. ap (λ u. repair_refusal u lengths) stays;
        warned = ap (λ u. table 4 (repair_content u).warnings) stays
            ∙ warned_empty t (roads_of t)
            ∙ ap (λ set. map (reversed_warning set) (table 4 (repair_content t).warnings)) (sym none_in);
        alike = λ q. ap (found q) stays;
        same_lists = ap (λ u. list_content (repaired_tables u)) stays;
        same_gaps = λ offsets ids. ap (λ u. gap_content (repaired_tables u) offsets ids) stays;
        converse = λ q l there. mutual_found q l (run t cs) there;
      }

  -- ---- they let the tables pass: these are the words of a sound map, and the set reverses it
  module _ (f : Fine t) where
    abbrev set : List ℕ
    set = the_set t cs

    abbrev m : Map
    m = (model_of t).map

    abbrev xs : List EdgedLane
    xs = (model_of t).edged

    abbrev in_set : Span → Bool
    in_set = seq.in_set t f set

    starts : seq.Ready t f (empty_set t)
    starts = seq.ready_empty t f

    ready : seq.Ready t f set
    ready = seq.ready_after t f cs (empty_set t) starts

    -- the sequence begins with the map reversed by nothing
    as_empty : reversed_once_by (empty_set t) t ≡ t
    as_empty = seq.empty_same t f

    tables_are : run t cs ≡ reversed_once_by set t
    tables_are = ap (λ u. run u cs) (sym as_empty) ∙ seq.tables_by t f cs (empty_set t) starts

    said_are : answers t cs ≡ answers_by_set t (empty_set t) cs
    said_are = ap (λ u. answers u cs) (sym as_empty) ∙ seq.answers_by t f cs (empty_set t) starts

    -- an accepted call shows that rule 13 passes; where there is none, the tables are as they were
    numbers_turn_lem : any_accepted (answers t cs) ≡ true → seq.Rule13 t f
    numbers_turn_lem any =
        seq.any_numbers t f cs (empty_set t) starts (ap (λ u. any_accepted (answers u cs)) as_empty ∙ any)

    untouched : any_accepted (answers t cs) ≡ false → run t cs ≡ t
    untouched none-accepted =
        let from_empty = ap (λ u. any_accepted (answers u cs)) as_empty ∙ none-accepted in
        let none_in = seq.none_set t f cs (empty_set t) starts from_empty in
        tables_are ∙ ap (λ s. reversed_once_by s t) none_in ∙ as_empty

    by_case : (P : Tables → Type 0) → P t → (seq.Rule13 t f → P (run t cs)) → P (run t cs)
    by_case P untouched-has turned-has = go (any_accepted (answers t cs)) refl
      where
        go : (b : Bool) → any_accepted (answers t cs) ≡ b → P (run t cs)
        go true any = turned-has (numbers_turn_lem any)
        go false none-accepted = subst P (sym (untouched none-accepted)) untouched-has

    -- one reversal by the set
    once_accepted : any_accepted (answers t cs) ≡ true → (outs : ReversalOutputs)
        → fits (reversal_lengths (reversal_content t set)) (reversal_lengths outs) ≡ true
        → reversal_refusal t set (reversal_lengths outs) ≡ none
    unfolding model_rules
    once_accepted any outs long =
        seq.rules_accepted t f set (reversal_lengths outs)
        (ready.marks_for, (numbers_turn_lem any, (ready.once, (long_enough_lem, tt))))
      where
        long_enough_lem : fits (six_lengths (words_of t.text (model_of t))) (reversal_lengths outs) ≡ true
        long_enough_lem =
            ap (λ k. fits k (reversal_lengths outs))
            (sym (lengths_are t.text (model_of t) (fine_sound t f) (the_set t cs))
            ∙ ap (λ u. reversal_lengths (reversal_content u (the_set t cs))) (fine_words t f))
            ∙ long

    leaves : (c : Call) → reversal_refusal t c.marks (reversal_lengths c.outs) ≡ none
        → after t c ≡ reversed_once_by c.marks t
    leaves c accepted =
        let words-accepted =
        ap (λ u. reversal_refusal u c.marks (reversal_lengths c.outs)) (fine_words t f) ∙ accepted in
        ap (λ u. after u c) (sym (fine_words t f))
        ∙ accepted_leaves t.text (model_of t) (fine_sound t f) c words-accepted
        ∙ ap (reversed_once_by c.marks) (fine_words t f)

    answered : (outs : ReversalOutputs) → reversal_refusal t set (reversal_lengths outs) ≡ none
        → is_accepted (reversal_call t set outs).answer ≡ true
    answered outs accepted = seq.accepted_is t set outs ∙ ap (λ o. not (is_some o)) accepted

    -- the tables by the set are the words of the map reversed
    over_map : run t cs
        ≡ tables_of t.text (reverse_map (same_in t.text) in_set m)
        (map (reverse_edged (same_in t.text) in_set m.roads) xs)
    over_map = tables_are ∙ seq.reversed_once_by_words t f set ∙ (unfold reverse_model in refl)

    -- what is the same of a sound map reversed is the same of the tables
    kept : {A : Type 0} (g : Tables → A)
        → (Held (same_in t.text) m in_set
        → g (tables_of t.text (reverse_map (same_in t.text) in_set m)
        (map (reverse_edged (same_in t.text) in_set m.roads) xs)) ≡ g (tables_of t.text m xs))
        → g (run t cs) ≡ g t
    kept g reversed-same =
        by_case (λ u. g u ≡ g t) refl
        (λ turn. ap g over_map ∙ reversed-same (seq.held_set t f set ready turn) ∙ ap g (fine_words t f))

    good_claim : Claim t cs
    good_claim = record {
      said = said_are;
      tables = tables_are ∙ sym (seq.reversed_by_is t f set);
      odd = seq.odd_by t f cs (empty_set t) starts ∙ ap (λ u. odd_marks (empty_set t) (answers u cs) cs) as_empty;
      at_once = λ any outs long. (
        answered outs (once_accepted any outs long),
        leaves (record { marks = set; outs = outs }) (once_accepted any outs long) ∙ sym tables_are,
      );
      repairs = λ lengths. kept (λ u. repair_refusal u lengths)
          (λ held. repair_refusal_reversed t.text m xs (fine_sound t f) in_set held lengths);
      warned = ap (λ u. table 4 (repair_content u).warnings) over_map
          ∙ warned_reversed t.text m xs (fine_sound t f) set ready.marks_for
          ∙ ap (λ u. map (reversed_warning set) (table 4 (repair_content u).warnings)) (fine_words t f);
      alike = λ q. kept (found q) (λ held. found_reversed t.text m xs (fine_sound t f) in_set held q);
      same_lists = kept (λ u. list_content (repaired_tables u))
          (λ held. same_lists t.text m xs (fine_sound t f) in_set held);
      same_gaps = λ offsets ids. kept (λ u. gap_content (repaired_tables u) offsets ids)
          (λ held. same_gaps t.text m xs (fine_sound t f) in_set held offsets ids);
      converse = λ q l there. mutual_found q l (run t cs) there;
    }

  -- DEMAND 3: the claim holds of every sequence of reversals on every tables, and so on every map that repair accepts
  pub every_sequence : Claim t cs
  every_sequence = go (first_broken (table_rules t)) refl
    where
      go : (broken : Option ℕ) → first_broken (table_rules t) ≡ broken → Claim t cs
      go (some k) bad = bad_claim k bad
      go none passed = good_claim (fine t passed)
