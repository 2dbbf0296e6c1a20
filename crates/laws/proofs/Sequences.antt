-- A sequence of reversal calls: its answers and its tables are told by the set alone.
use mathlib.Core.Path.{◌≡◌, refl, sym, ◌∙◌, ap, ap₂, subst, fun_ext}
use mathlib.Core.Bool.{Bool, true, false, ◌&&◌, ◌||◌, cond, false≢true, true≢false, not}
use mathlib.Core.Option.{Option, none, some}
use mathlib.Core.List.{List, [], ◌∷◌, ◌++◌, map}
use Prim.Native.Nat.{ℕ}
use Rattle.model.specs.Calls.{Answer, ReversalOutputs, reversal_call, reversal_content, reversal_lengths}
use Rattle.model.specs.Calls.{reversal_refusal, reversal_writing, table_rules}
use Rattle.model.specs.Lists.{every, is_some}
use Rattle.model.specs.Records.{Span}
use Rattle.model.specs.Reversal.{marked, reverse_edged, reverse_map}
use Rattle.model.specs.Rules.{Rule, first_broken, lane_fine}
use Rattle.model.specs.Sequence.{Call, after, answers, answers_by_set, any_accepted, empty_set, fed, is_accepted}
use Rattle.model.specs.Sequence.{is_empty, odd_marks, reversed_by, reversed_once_by, run, set_after, set_by}
use Rattle.model.specs.Sequence.{toggled_marks}
use Rattle.model.specs.Tables.{Tables, edged_lanes_of, map_of, roads_of}
use Rattle.model.specs.Text.{same_in}
use Rattle.laws.proofs.Basics.{no_some}
use Rattle.laws.proofs.ByBytes.{alike_in}
use Rattle.laws.proofs.Held.{Held, compose_model, edged_placed, idle_model, marked_known, nobody_once}
use Rattle.laws.proofs.RulesReversed.{Passes, all_pass, broken_append, good_valid, marked_reversed}
use Rattle.laws.proofs.RulesReversed.{marked_steady, none_twice_toggled, pass_all, unbroken_append}
use Rattle.laws.proofs.Sets.{empty_empty, empty_for, empty_is, toggled_for, toggled_is}
use Rattle.laws.proofs.SoundMaps.{is_edged, is_map}
use Rattle.laws.proofs.Valid.{Model, Steady, Valid, junction_fine, mark_for, none_twice, reverse_model}
use Rattle.laws.proofs.WordsReversed.{Fine, SoundModel, accepted_leaves, call_rules, call_rules_are}
use Rattle.laws.proofs.WordsReversed.{fine_rules, fine_sound, fine_words, model_of, model_rules, named}
use Rattle.laws.proofs.WordsReversed.{outcome_by, refusal_reversed, refusal_split, refused_leaves}
use Rattle.laws.proofs.WordsReversed.{reversed_once_by_is, sound_model, words_of}

-- a call's refusal
abbrev call_refusal : Tables → Call → Option ℕ
call_refusal t c = reversal_refusal t c.marks (reversal_lengths c.outs)

-- a call is accepted where it has none
pub accepted_is : (t : Tables) (marks : List ℕ) (outs : ReversalOutputs)
    → is_accepted (reversal_call t marks outs).answer
    ≡ not (is_some (reversal_refusal t marks (reversal_lengths outs)))
unfolding reversal_call reversal_refusal
accepted_is t marks outs = go (reversal_refusal t marks (reversal_lengths outs))
  where
    go : (o : Option ℕ)
        → is_accepted (outcome_by reversal_writing (reversal_content t marks) outs o).answer ≡ not (is_some o)
    go none = refl
    go (some k) = refl

-- ---- tables that rules 1 to 8 or 10 refuse: every call is refused, with one number
module _ (t : Tables) (k : ℕ) (bad : first_broken (table_rules t) ≡ some k) where
  broken_stays : (xs ys : List Rule) → first_broken xs ≡ some k → first_broken (xs ++ ys) ≡ some k
  broken_stays [] ys h = absurd (no_some k h)
  broken_stays (x ∷ xs) ys h = go x.passes h (broken_stays xs ys)
    where
      go : (b : Bool) → cond b (first_broken xs) (some x.number) ≡ some k
          → (first_broken xs ≡ some k → first_broken (xs ++ ys) ≡ some k)
          → cond b (first_broken (xs ++ ys)) (some x.number) ≡ some k
      go true h ih = ih h
      go false h ih = h

  pub always : (marks lengths : List ℕ) → reversal_refusal t marks lengths ≡ some k
  always marks lengths = refusal_split t marks lengths ∙ broken_stays (table_rules t) (call_rules t marks lengths) bad

  refused : (c : Call) → call_refusal t c ≡ some k
  refused c = always c.marks (reversal_lengths c.outs)

  left : (c : Call) → after t c ≡ t
  left c = refused_leaves t c k (refused c)

  not_accepted : (c : Call) → is_accepted (reversal_call t c.marks c.outs).answer ≡ false
  not_accepted c = accepted_is t c.marks c.outs ∙ ap (λ o. not (is_some o)) (refused c)

  pub stuck : (cs : List Call) → run t cs ≡ t
  stuck [] = refl
  stuck (c ∷ cs) = ap (λ u. run u cs) (left c) ∙ stuck cs

  pub same_tables : reversed_by (empty_set t) t ≡ t
  unfolding reversed_by
  same_tables = ap (λ b. cond b t (reversed_once_by (empty_set t) t)) (empty_empty (roads_of t))

  fed_nothing : (c : Call) → fed t (empty_set t) c.marks (reversal_lengths c.outs) ≡ empty_set t
  unfolding fed
  fed_nothing c =
      ap (λ u. set_by (call_refusal u c) (empty_set t) c.marks) same_tables
      ∙ ap (λ r. set_by r (empty_set t) c.marks) (refused c)

  pub stuck_set : (cs : List Call) → set_after t (empty_set t) cs ≡ empty_set t
  stuck_set [] = refl
  stuck_set (c ∷ cs) = ap (λ set. set_after t set cs) (fed_nothing c) ∙ stuck_set cs

  pub stuck_said : (cs : List Call) → answers t cs ≡ answers_by_set t (empty_set t) cs
  stuck_said [] = refl
  stuck_said (c ∷ cs) =
      ap₂ {C = List Answer} (λ a l. a ∷ l)
      (ap (λ u. (reversal_call u c.marks c.outs).answer) (sym same_tables))
      (ap (λ u. answers u cs) (left c) ∙ stuck_said cs ∙ ap (λ set. answers_by_set t set cs) (sym (fed_nothing c)))

  pub stuck_odd : (cs : List Call) (set : List ℕ) → odd_marks set (answers t cs) cs ≡ set
  stuck_odd [] set = refl
  stuck_odd (c ∷ cs) set =
      ap₂ (λ b u. odd_marks (cond b (toggled_marks set c.marks) set) (answers u cs) cs) (not_accepted c) (left c)
      ∙ stuck_odd cs set

  pub stuck_none : (cs : List Call) → any_accepted (answers t cs) ≡ false
  stuck_none [] = refl
  stuck_none (c ∷ cs) =
      ap₂ (λ a b. a || b) (not_accepted c) (ap (λ u. any_accepted (answers u cs)) (left c) ∙ stuck_none cs)

-- ---- tables that they let pass
module _ (t : Tables) (f : Fine t) where
  abbrev alike : Span → Span → Bool
  alike = same_in t.text

  -- the map that they mean, of which they are the words
  abbrev model : Model
  model = model_of t

  sound : SoundModel t.text model
  sound = fine_sound t f

  fine_model : Fine (words_of t.text model)
  fine_model = subst Fine (sym (fine_words t f)) f

  -- the roads of a set
  abbrev pub in_set : List ℕ → Span → Bool
  in_set set = named t.text model set

  pub steady : (set : List ℕ) → Steady alike (in_set set)
  steady set = marked_steady alike (alike_in t.text) model.map.roads set

  pub reversed_once_by_words : (set : List ℕ)
      → reversed_once_by set t ≡ words_of t.text (reverse_model alike (in_set set) model)
  reversed_once_by_words set =
      ap (reversed_once_by set) (sym (fine_words t f)) ∙ reversed_once_by_is t.text model sound set

  pub empty_reversed : (set : List ℕ) → is_empty set ≡ true → reversed_once_by set t ≡ t
  empty_reversed set e =
      reversed_once_by_words set
      ∙ ap (λ s. words_of t.text (reverse_model alike s model))
      (empty_is alike model.map.roads set e)
      ∙ ap (words_of t.text) (idle_model alike model) ∙ fine_words t f

  pub reversed_by_is : (set : List ℕ) → reversed_by set t ≡ reversed_once_by set t
  unfolding reversed_by
  reversed_by_is set = go (is_empty set) refl
    where
      go : (b : Bool) → is_empty set ≡ b → cond b t (reversed_once_by set t) ≡ reversed_once_by set t
      go true e = sym (empty_reversed set e)
      go false e = refl

  pub refusal_same : (set marks lengths : List ℕ)
      → reversal_refusal (reversed_once_by set t) marks lengths ≡ reversal_refusal t marks lengths
  refusal_same set marks lengths =
      ap (λ u. reversal_refusal u marks lengths) (reversed_once_by_words set)
      ∙ refusal_reversed t.text (in_set set) (steady set) model sound fine_model marks lengths
      ∙ ap (λ u. reversal_refusal u marks lengths) (fine_words t f)

  -- what an accepted call's marks and lengths pass, and the other way round
  rules_are : (marks lengths : List ℕ) → call_rules t marks lengths ≡ model_rules t.text model marks lengths
  rules_are marks lengths =
      ap (λ u. call_rules u marks lengths) (sym (fine_words t f)) ∙ call_rules_are t.text model sound marks lengths

  pub accepted_rules : (marks lengths : List ℕ) → reversal_refusal t marks lengths ≡ none
      → Passes (model_rules t.text model marks lengths)
  accepted_rules marks lengths accepted =
      let unbroken = sym (refusal_split t marks lengths) ∙ accepted in
      let own-unbroken = (unbroken_append (table_rules t) (call_rules t marks lengths) unbroken).1 in
      subst (λ rs. Passes rs) (rules_are marks lengths) (all_pass (call_rules t marks lengths) own-unbroken)

  pub rules_accepted : (marks lengths : List ℕ) → Passes (model_rules t.text model marks lengths)
      → reversal_refusal t marks lengths ≡ none
  rules_accepted marks lengths passes =
      let own-pass = subst (λ rs. Passes rs) (sym (rules_are marks lengths)) passes in
      refusal_split t marks lengths
      ∙ broken_append (table_rules t) (call_rules t marks lengths) (fine_rules t f)
      ∙ pass_all (call_rules t marks lengths) own-pass

  -- what a reversal writes means the map reversed, and its lanes with their edges
  sound_by_set : (set : List ℕ) → SoundModel t.text (reverse_model alike (in_set set) model)
  sound_by_set set = sound_model t.text (in_set set) (steady set) model sound

  pub reversed_map_lem : (set : List ℕ)
      → map_of (reversed_once_by set t) ≡ reverse_map alike (in_set set) model.map
  unfolding reverse_model
  reversed_map_lem set =
      ap map_of (reversed_once_by_words set)
      ∙ is_map t.text (reverse_map alike (in_set set) model.map)
      (map (reverse_edged alike (in_set set) model.map.roads) model.edged)
      (sound_by_set set)

  pub reversed_edged : (set : List ℕ)
      → edged_lanes_of (reversed_once_by set t)
      ≡ map (reverse_edged alike (in_set set) model.map.roads) model.edged
  unfolding reverse_model
  reversed_edged set =
      ap edged_lanes_of (reversed_once_by_words set)
      ∙ is_edged t.text (reverse_map alike (in_set set) model.map)
      (map (reverse_edged alike (in_set set) model.map.roads) model.edged)
      (sound_by_set set)

  -- reversed by a set and then by marks: reversed once by the roads that are in just one of them
  pub reversed_twice : (set marks : List ℕ) → mark_for model.map.roads set ≡ true
      → mark_for model.map.roads marks ≡ true
      → reversed_once_by marks (reversed_once_by set t) ≡ reversed_once_by (toggled_marks set marks) t
  reversed_twice set marks set-for marks_for =
      let placed = edged_placed alike model sound.match valid in
      let composed = compose_model alike (in_set set) (in_set marks) (steady set) model valid placed in
      let toggled = toggled_is alike model.map.roads set marks set-for marks_for in
      ap (reversed_once_by marks) (reversed_once_by_words set)
      ∙ reversed_once_by_is t.text by_set (sound_by_set set) marks
      ∙ ap (words_of t.text) (ap (λ s. reverse_model alike s by_set) marks_are ∙ composed)
      ∙ ap (λ s. words_of t.text (reverse_model alike s model)) (sym toggled)
      ∙ sym (reversed_once_by_words (toggled_marks set marks))
    where
      by_set : Model
      by_set = reverse_model alike (in_set set) model

      marks_are : marked alike (reverse_model alike (in_set set) model).map.roads marks ≡ in_set marks
      marks_are =
          unfold reverse_model reverse_map in fun_ext (marked_reversed alike (in_set set) model.map.roads marks)

      valid : Valid alike model.map
      valid = good_valid alike model.map sound.good

  -- an accepted call on the map reversed by a set leaves the map reversed by the set fed its marks
  accepted_next : (set : List ℕ) (c : Call) → mark_for model.map.roads set ≡ true → call_refusal t c ≡ none
      → after (reversed_once_by set t) c ≡ reversed_once_by (toggled_marks set c.marks) t
  unfolding model_rules
  accepted_next set c set-for accepted =
      let lengths = reversal_lengths c.outs in
      let accepted-there = ap (λ u. call_refusal u c) (sym (reversed_once_by_words set))
      ∙ refusal_same set c.marks lengths
      ∙ accepted in
      let marks_for = (accepted_rules c.marks lengths accepted).0 in
      ap (λ u. after u c) (reversed_once_by_words set)
      ∙ accepted_leaves t.text (reverse_model alike (in_set set) model) (sound_by_set set) c accepted-there
      ∙ ap (reversed_once_by c.marks) (sym (reversed_once_by_words set))
      ∙ reversed_twice set c.marks set-for marks_for

  -- a refused one leaves it
  refused_next : (set : List ℕ) (c : Call) (k : ℕ) → call_refusal t c ≡ some k
      → after (reversed_once_by set t) c ≡ reversed_once_by set t
  refused_next set c k refused =
      refused_leaves (reversed_once_by set t) c k (refusal_same set c.marks (reversal_lengths c.outs) ∙ refused)

  -- what every set on the way has: a mark for each road, and no road of it that names one direct junction at
  -- both ends
  pub record Ready (set : List ℕ) : Type 0 where
    pub marks_for : mark_for model.map.roads set ≡ true
    pub once : none_twice alike (in_set set) model.map ≡ true

  pub ready_empty : Ready (empty_set t)
  ready_empty = record {
    marks_for = (unfold model_of map_of in empty_for (roads_of t));
    once =
        ap (λ s. none_twice alike s model.map)
        (empty_is alike model.map.roads (empty_set t) (empty_empty (roads_of t)))
        ∙ nobody_once alike model.map;
  }

  ready_next : (set : List ℕ) (c : Call) → Ready set → call_refusal t c ≡ none → Ready (toggled_marks set c.marks)
  unfolding model_rules
  ready_next set c ready accepted =
      let passes = accepted_rules c.marks (reversal_lengths c.outs) accepted in
      let marks_for = passes.0 in
      let marks-once = passes.1.1.0 in
      record {
        marks_for = toggled_for model.map.roads set c.marks ready.marks_for marks_for;
        once =
            ap (λ s. none_twice alike s model.map)
            (toggled_is alike model.map.roads set c.marks ready.marks_for marks_for)
            ∙ none_twice_toggled alike (in_set set) (in_set c.marks) model.map ready.once marks-once;
      }

  -- the set fed a call
  fed_is : (set : List ℕ) (c : Call)
      → fed t set c.marks (reversal_lengths c.outs) ≡ set_by (call_refusal t c) set c.marks
  unfolding fed
  fed_is set c =
      ap (λ r. set_by r set c.marks)
      (ap (λ u. call_refusal u c) (reversed_by_is set) ∙ refusal_same set c.marks (reversal_lengths c.outs))

  pub ready_after : (cs : List Call) (set : List ℕ) → Ready set → Ready (set_after t set cs)
  ready_after [] set ready = ready
  ready_after (c ∷ cs) set ready =
      subst (λ s. Ready (set_after t s cs)) (sym (fed_is set c))
      (go (call_refusal t c) refl (ready_after cs))
    where
      go : (o : Option ℕ) → call_refusal t c ≡ o
          → ((s : List ℕ) → Ready s → Ready (set_after t s cs)) → Ready (set_after t (set_by o set c.marks) cs)
      go none accepted rest = rest (toggled_marks set c.marks) (ready_next set c ready accepted)
      go (some k) refused rest = rest set ready

  pub tables_by : (cs : List Call) (set : List ℕ) → Ready set
      → run (reversed_once_by set t) cs ≡ reversed_once_by (set_after t set cs) t
  tables_by [] set ready = refl
  tables_by (c ∷ cs) set ready =
      go (call_refusal t c) refl (tables_by cs)
      ∙ ap (λ s. reversed_once_by (set_after t s cs) t) (sym (fed_is set c))
    where
      go : (o : Option ℕ) → call_refusal t c ≡ o
          → ((s : List ℕ) → Ready s → run (reversed_once_by s t) cs ≡ reversed_once_by (set_after t s cs) t) →
          run (after (reversed_once_by set t) c) cs ≡ reversed_once_by (set_after t (set_by o set c.marks) cs) t
      go none accepted rest =
          ap (λ u. run u cs) (accepted_next set c ready.marks_for accepted)
          ∙ rest (toggled_marks set c.marks) (ready_next set c ready accepted)
      go (some k) refused rest =
          ap (λ u. run u cs) (refused_next set c k refused)
          ∙ rest set ready

  pub answers_by : (cs : List Call) (set : List ℕ) → Ready set
      → answers (reversed_once_by set t) cs ≡ answers_by_set t set cs
  answers_by [] set ready = refl
  answers_by (c ∷ cs) set ready =
      ap₂ {C = List Answer} (λ a l. a ∷ l)
      (ap (λ u. (reversal_call u c.marks c.outs).answer) (sym (reversed_by_is set)))
      (go (call_refusal t c) refl (answers_by cs)
      ∙ ap (λ s. answers_by_set t s cs) (sym (fed_is set c)))
    where
      go : (o : Option ℕ) → call_refusal t c ≡ o
          → ((s : List ℕ) → Ready s → answers (reversed_once_by s t) cs ≡ answers_by_set t s cs) →
          answers (after (reversed_once_by set t) c) cs ≡ answers_by_set t (set_by o set c.marks) cs
      go none accepted rest =
          ap (λ u. answers u cs) (accepted_next set c ready.marks_for accepted)
          ∙ rest (toggled_marks set c.marks) (ready_next set c ready accepted)
      go (some k) refused rest =
          ap (λ u. answers u cs) (refused_next set c k refused)
          ∙ rest set ready

  abbrev pub Rule13 : Type 0
  Rule13 = every lane_fine model.map.lanes && every junction_fine model.map.junctions ≡ true

  -- a call on the map reversed by a set is accepted as on the map
  accepted_same : (set : List ℕ) (c : Call)
      → is_accepted (reversal_call (reversed_once_by set t) c.marks c.outs).answer
      ≡ not (is_some (call_refusal t c))
  accepted_same set c =
      accepted_is (reversed_once_by set t) c.marks c.outs
      ∙ ap (λ o. not (is_some o)) (refusal_same set c.marks (reversal_lengths c.outs))

  -- a call that was accepted shows that rule 13 passes; with none the set and the tables are as at first
  pub any_numbers : (cs : List Call) (set : List ℕ) → Ready set
      → any_accepted (answers (reversed_once_by set t) cs) ≡ true → Rule13
  unfolding model_rules
  any_numbers [] set ready a = absurd (false≢true a)
  any_numbers (c ∷ cs) set ready a = go (call_refusal t c) refl (any_numbers cs)
      (ap (λ b. b || any_accepted (answers (after (reversed_once_by set t) c) cs)) (sym (accepted_same set c)) ∙ a)
    where
      go : (o : Option ℕ) → call_refusal t c ≡ o
          → ((s : List ℕ) → Ready s → any_accepted (answers (reversed_once_by s t) cs) ≡ true → Rule13) →
          not (is_some o) || any_accepted (answers (after (reversed_once_by set t) c) cs) ≡ true → Rule13
      go none accepted rest a = (accepted_rules c.marks (reversal_lengths c.outs) accepted).1.0
      go (some k) refused rest a =
          rest set ready (ap (λ u. any_accepted (answers u cs))
          (sym (refused_next set c k refused))
          ∙ a)

  pub none_set : (cs : List Call) (set : List ℕ) → Ready set
      → any_accepted (answers (reversed_once_by set t) cs) ≡ false → set_after t set cs ≡ set
  none_set [] set ready a = refl
  none_set (c ∷ cs) set ready a =
      ap (λ s. set_after t s cs) (fed_is set c)
      ∙ go (call_refusal t c) refl (none_set cs)
      (ap (λ b. b || any_accepted (answers (after (reversed_once_by set t) c) cs)) (sym (accepted_same set c)) ∙ a)
    where
      go : (o : Option ℕ) → call_refusal t c ≡ o
          → ((s : List ℕ) → Ready s → any_accepted (answers (reversed_once_by s t) cs) ≡ false
          → set_after t s cs ≡ s) →
          not (is_some o) || any_accepted (answers (after (reversed_once_by set t) c) cs) ≡ false
          → set_after t (set_by o set c.marks) cs ≡ set
      go none accepted rest a = absurd (true≢false a)
      go (some k) refused rest a =
          rest set ready (ap (λ u. any_accepted (answers u cs))
          (sym (refused_next set c k refused))
          ∙ a)

  -- the set is the roads marked an odd number of times in accepted calls
  pub odd_by : (cs : List Call) (set : List ℕ) → Ready set
      → set_after t set cs ≡ odd_marks set (answers (reversed_once_by set t) cs) cs
  odd_by [] set ready = refl
  odd_by (c ∷ cs) set ready =
      ap (λ s. set_after t s cs) (fed_is set c)
      ∙ go (call_refusal t c) refl (odd_by cs)
      ∙ ap (λ b.
      odd_marks (cond b (toggled_marks set c.marks) set) (answers (after (reversed_once_by set t) c) cs) cs)
      (sym (accepted_same set c))
    where
      go : (o : Option ℕ) → call_refusal t c ≡ o
          → ((s : List ℕ) → Ready s → set_after t s cs ≡ odd_marks s (answers (reversed_once_by s t) cs) cs) →
          set_after t (set_by o set c.marks) cs
          ≡ odd_marks (cond (not (is_some o)) (toggled_marks set c.marks) set)
          (answers (after (reversed_once_by set t) c) cs) cs
      go none accepted rest =
          rest (toggled_marks set c.marks) (ready_next set c ready accepted)
          ∙ ap (λ u. odd_marks (toggled_marks set c.marks) (answers u cs) cs)
          (sym (accepted_next set c ready.marks_for accepted))
      go (some k) refused rest =
          rest set ready
          ∙ ap (λ u. odd_marks set (answers u cs) cs)
          (sym (refused_next set c k refused))

  pub empty_same : reversed_once_by (empty_set t) t ≡ t
  empty_same = empty_reversed (empty_set t) (empty_empty (roads_of t))

  -- what the laws on a reversed map ask of a set
  pub held_set : (set : List ℕ) → Ready set → Rule13 → Held alike model.map (in_set set)
  held_set set ready numbers_turn_lem = record {
    is_good = sound.good;
    is_steady = steady set;
    is_fine = numbers_turn_lem;
    is_once = ready.once;
    is_known = λ name w. marked_known alike model.map.roads set name w;
  }

  -- and so on the marks of an accepted call
  pub held_accepted : (marks lengths : List ℕ) → reversal_refusal t marks lengths ≡ none
      → Held alike model.map (in_set marks)
  unfolding model_rules
  held_accepted marks lengths accepted =
      let passes = accepted_rules marks lengths accepted in
      held_set marks (record { marks_for = passes.0; once = passes.1.1.0 }) passes.1.0
