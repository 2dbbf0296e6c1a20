-- One connection of a common junction: the link that it shows to be missing, and its warning.
use mathlib.Core.Path.{◌≡◌, refl, sym, ap, ap₂, ◌∙◌}
use mathlib.Core.Bool.{Bool, false, cond, true}
use mathlib.Core.Option.{Option, none, some}
use mathlib.Core.List.{List, [], ◌∷◌, ◌++◌, append-nil, append_assoc}
use Prim.Native.Nat.{ℕ, suc, ◌+◌, ◌*◌, ◌/◌, ◌<◌}
use lib.ListN.{length, get_or, set}
use Rattle.std.specs.Prelude as code
use Rattle.model.specs.Calls.{row_named, warning_row}
use Rattle.model.specs.Lists.{amend, bind_o, gather, list_o}
use Rattle.model.specs.Records.{Span, Target, Road, Connection, target_at}
use Rattle.model.specs.Repair.{Warning, back_end, linked, link_at_end, meets, missing_end, missing_link}
use Rattle.model.specs.Repair.{missing_links, put_target, road_of, vacant_end, warn_one, warn_all}
use Rattle.model.specs.Rules.{same}
use Rattle.model.specs.Tables.{Tables, bit, flag, road_in, roads_of}
use Rattle.laws.proofs.WordsReversed.{gather_append}
use Rattle.words.specs.Fields.{target_read}
use Rattle.words.specs.declared.target.Target.{Target as Here}
use Rattle.words.specs.Keys.{name_before}
use Rattle.words.specs.Rows.{any, from, name_at, name_from, tab}
use Rattle.words.proofs.Laws.{tab_more}
use Rattle.rules.specs.ByRow.{road_row_of}
use Rattle.rules.proofs.Forms.{name_at_lem, roads_tab}
use Rattle.repair.specs.Now.{junction_name, road_with, roads_now, roads_with, row_connection, target_now}
use Rattle.repair.specs.Laying.{Linked, laid_words, shown_at, shown_end}
use Rattle.repair.specs.declared.laid.LaidRows.{LaidRows}
use Rattle.repair.proofs.TargetWords.{at_end_lem, connecting_is, contact_is, incoming_is, name_first}
use Rattle.repair.proofs.RoadRows.{found_road, road_found, amend_row, row_found_lem, now_name, other_roads, this_road}

-- a road found by the name that connection row c begins with, and by its second name
pub by_incoming : (text roads cs : List ℕ) (c : ℕ) {n : Span} {f : ℕ} → f ≡ road_row_of text roads n
    → n ≡ name_from cs (c * 7) → f ≡ road_row_of text roads (name_at 7 0 cs c)
by_incoming text roads cs c found name =
    found ∙ ap (road_row_of text roads) (name ∙ name_first 7 cs c)

pub by_connecting : (text roads cs : List ℕ) (c : ℕ) {n : Span} {f : ℕ} → f ≡ road_row_of text roads n
    → n ≡ name_from cs (c * 7 + 2) → f ≡ road_row_of text roads (name_at 7 2 cs c)
by_connecting text roads cs c found name = found ∙ ap (road_row_of text roads) name

-- ---- the end that a connection shows, step by step
module _ (same : Span → Span → Bool) (rs : List Road) (j : Span) (c : Connection) (R : Road) where
  abbrev shown_by : Bool → Option Road → Option Bool
  shown_by met o = cond met none
      (bind_o (bind_o (bind_o o (target_at c.contact)) (back_end same c.incoming)) (vacant_end R))

  pub met_already : meets same j R ≡ true → none ≡ shown_end same rs j c R
  met_already met = sym (ap (λ b. shown_by b (road_of same rs c.connecting)) met)

  pub no_connecting : meets same j R ≡ false → road_of same rs c.connecting ≡ none → none ≡ shown_end same rs j c R
  no_connecting apart unknown = sym (ap₂ shown_by apart unknown)

  pub ends_back : {q : Option Bool} (S : Road) (T : Option Target) (B : Option Bool) → meets same j R ≡ false
      → road_of same rs c.connecting ≡ some S → target_at c.contact S ≡ T
      → B ≡ bind_o T (back_end same c.incoming) → q ≡ bind_o B (vacant_end R) → q ≡ shown_end same rs j c R
  ends_back S T B apart known target back vacant =
      vacant
      ∙ ap (λ x. bind_o x (vacant_end R)) (back ∙ ap (λ x. bind_o x (back_end same c.incoming)) (sym target))
      ∙ sym (ap₂ shown_by apart known)

-- ---- connection row c of junction row k
module _ (t : Tables) (ends : List ℕ)
    (once : any (length t.roads / 20) (name_before t.text 20 0 t.roads) ≡ false) where
  -- a road by its name's row plus 1
  pub road_is : (n : Span) (f : ℕ) → f ≡ road_row_of t.text t.roads n
      → road_of (same t) (roads_with t ends) n ≡ found_road (road_with t ends) f
  unfolding roads_now road_row_of
  road_is n f e =
      road_found t.text t.roads n once (road_with t ends)
      (now_name t.sections t.roads t.junctions ends) f e

  -- those of connection row c
  pub incoming_road : (c : ℕ) {f : ℕ} → f ≡ road_row_of t.text t.roads (name_at 7 0 t.connections c)
      → road_of (same t) (roads_with t ends) (row_connection t c).incoming ≡ found_road (road_with t ends) f
  incoming_road c {f} found =
      ap (road_of (same t) (roads_with t ends)) (incoming_is t.pairs t.connections c)
      ∙ road_is (name_at 7 0 t.connections c) f found

  pub connecting_road : (c : ℕ) {f : ℕ} → f ≡ road_row_of t.text t.roads (name_at 7 2 t.connections c)
      → road_of (same t) (roads_with t ends) (row_connection t c).connecting ≡ found_road (road_with t ends) f
  connecting_road c {f} found =
      ap (road_of (same t) (roads_with t ends)) (connecting_is t.pairs t.connections c)
      ∙ road_is (name_at 7 2 t.connections c) f found

  -- the end that connection row c shows of road row r, by the target of its connecting road, row `row`, at its contact
  pub shown_by_target : (k c r row : ℕ) {contact : Bool} (target : code.Option Here) (B : Option Bool) {q : Option Bool}
      → meets (same t) (junction_name t k) (road_with t ends r) ≡ false
      → suc row ≡ road_row_of t.text t.roads (name_at 7 2 t.connections c)
      → contact ≡ flag (get_or t.connections (c * 7 + 4) 0)
      → target_read target ≡ target_now t.roads t.junctions ends row contact
      → B ≡ bind_o (target_read target) (back_end (same t) (name_at 7 0 t.connections c))
      → q ≡ bind_o B (vacant_end (road_with t ends r)) → q ≡ shown_at t ends k c r
  shown_by_target k c r row target B apart known contact read back vacant =
      ends_back (same t) (roads_with t ends) (junction_name t k) (row_connection t c) (road_with t ends r)
      (road_with t ends row) (target_read target) B apart (connecting_road c known)
      (at_end_lem t.sections t.roads t.junctions ends row (row_connection t c).contact
      ∙ ap (target_now t.roads t.junctions ends row) (contact_is t.pairs t.connections c ∙ sym contact)
      ∙ sym read)
      (back ∙ ap (λ (n : Span). bind_o (target_read target) (back_end (same t) n))
      (sym (incoming_is t.pairs t.connections c)))
      vacant

  module _ (k c : ℕ) where
    abbrev connection : Connection
    connection = row_connection t c

    abbrev incoming : Span
    incoming = name_at 7 0 t.connections c

    abbrev shows : Option Bool
    shows = missing_end (same t) (roads_with t ends) (junction_name t k) connection

    -- the end at which the junction is missing
    pub end_unknown : 0 ≡ road_row_of t.text t.roads incoming → shows ≡ none
    unfolding missing_end
    end_unknown found = let unknown = incoming_road c found in rw unknown

    pub end_known : (r : ℕ) {q : Option Bool} → suc r ≡ road_row_of t.text t.roads incoming
        → q ≡ shown_end (same t) (roads_with t ends) (junction_name t k) connection (road_with t ends r) → shows ≡ q
    unfolding missing_end
    end_known r found shown = let known = incoming_road c found in rw known (sym shown)

    abbrev warning_at : Option Bool → List Warning
    warning_at o = list_o o (λ e. record { junction_row = k; road = connection.incoming; at_end = e } ∷ [])

    one_warned : {o : Option Bool} → shows ≡ o
        → warn_all (same t) k (junction_name t k) (connection ∷ []) (roads_with t ends) ≡ warning_at o
    unfolding warn_one
    one_warned shown = append-nil _ ∙ ap warning_at shown

    -- nothing is missing
    pub linked_none : (warnings : LaidRows 4 32768) → shows ≡ none
        → Linked t k (connection ∷ []) ends ends warnings warnings
    unfolding missing_link
    linked_none warnings shown = record {
      roads = sym (ap (link_at_end (same t) (roads_with t ends) (junction_name t k) connection) shown);
      warned = sym (ap (λ (ws : List Warning).
          laid_words warnings ++ gather (warning_row t) ws) (one_warned shown)
          ∙ append-nil (laid_words warnings));
    }

    -- road r is given the junction at end e
    module _ (r : ℕ) (e : Bool) (long : length ends ≡ 32768) (few : r < 16384)
        (found : suc r ≡ road_row_of t.text t.roads incoming) (shown : shows ≡ some e) where
      linked_roads : roads_with t (set ends (r * 2 + bit e) (k + 2))
          ≡ missing_link (same t) (junction_name t k) connection (roads_with t ends)
      unfolding missing_link roads_now road_row_of
      linked_roads =
          let link = put_target e (linked (junction_name t k) e) in
          sym (ap (link_at_end (same t) (roads_with t ends) (junction_name t k) connection) shown
          ∙ ap (λ (n : Span). amend (λ r. same t r.name n) link (roads_with t ends))
          (incoming_is t.pairs t.connections c)
          ∙ amend_row t.text t.roads incoming once (road_with t ends)
          (now_name t.sections t.roads t.junctions ends) r found link
          (road_with t (set ends (r * 2 + bit e) (k + 2)))
          (this_road t.sections t.roads t.junctions ends r k e long few)
          (other_roads t.sections t.roads t.junctions ends r k e long few))

      row_is : row_named (same t) (roads_of t) connection.incoming ≡ r
      unfolding road_in road_row_of
      row_is =
          ap₂ (row_named (same t)) (roads_tab t.roads t.sections) (incoming_is t.pairs t.connections c)
          ∙ row_found_lem t.text t.roads incoming once (λ i. road_in t.sections (from 20 t.roads i))
          (name_at_lem 20 0 t.roads) r found

      warning_is : gather (warning_row t)
          (warn_all (same t) k (junction_name t k) (connection ∷ []) (roads_with t ends)) ≡ 3 ∷ k ∷ r ∷ bit e ∷ []
      unfolding warning_row
      warning_is =
          ap (gather (warning_row t)) (one_warned shown)
          ∙ ap (λ (row : ℕ). 3 ∷ k ∷ row ∷ bit e ∷ []) row_is

      pub linked_one : (warnings : LaidRows 4 32768) {after : LaidRows 4 32768} {ends' : List ℕ} {word : ℕ}
          → ends' ≡ set ends (r * 2 + bit e) (k + 2) → word ≡ bit e
          → laid_words after ≡ laid_words warnings ++ (3 ∷ k ∷ r ∷ word ∷ [])
          → Linked t k (connection ∷ []) ends ends' warnings after
      linked_one warnings given end_word put = record {
        roads = ap (roads_with t) given ∙ linked_roads;
        warned = put
            ∙ ap (λ (w : ℕ). laid_words warnings ++ (3 ∷ k ∷ r ∷ w ∷ [])) end_word
            ∙ ap (λ (l : List ℕ). laid_words warnings ++ l) (sym warning_is);
      }

-- ---- one connection more
module _ (same : Span → Span → Bool) (j : Span) where
  links_snoc : (xs : List Connection) (x : Connection) (rs : List Road)
      → missing_links same j (xs ++ (x ∷ [])) rs ≡ missing_link same j x (missing_links same j xs rs)
  links_snoc [] x rs = refl
  links_snoc (y ∷ xs) x rs = links_snoc xs x (missing_link same j y rs)

  warn_snoc : (k : ℕ) (xs : List Connection) (x : Connection) (rs : List Road)
      → warn_all same k j (xs ++ (x ∷ [])) rs
      ≡ warn_all same k j xs rs ++ warn_all same k j (x ∷ []) (missing_links same j xs rs)
  warn_snoc k [] x rs = refl
  warn_snoc k (y ∷ xs) x rs =
      ap (λ (l : List Warning). warn_one same k j y rs ++ l) (warn_snoc k xs x (missing_link same j y rs))
      ∙ sym (append_assoc (warn_one same k j y rs) (warn_all same k j xs (missing_link same j y rs))
      (warn_all same k j (x ∷ []) (missing_links same j xs (missing_link same j y rs))))

pub linked_start : (t : Tables) (k : ℕ) (ends : List ℕ) (x : LaidRows 4 32768) → Linked t k [] ends ends x x
linked_start t k ends x = record { roads = refl; warned = sym (append-nil (laid_words x)) }

pub linked_more : (t : Tables) (k : ℕ) (f : ℕ → Connection) (i : ℕ) {ends ends₁ ends₂ : List ℕ}
    {x x₁ x₂ : LaidRows 4 32768} → Linked t k (tab i f) ends ends₁ x x₁ → Linked t k (f i ∷ []) ends₁ ends₂ x₁ x₂
    → Linked t k (tab (i + 1) f) ends ends₂ x x₂
linked_more t k f i {ends} {x = x} before one = record {
  roads =
      one.roads
      ∙ ap (missing_link (same t) j (f i)) before.roads
      ∙ sym (ap (λ (l : List Connection). missing_links (same t) j l rs) (tab_more i f)
      ∙ links_snoc (same t) j (tab i f) (f i) rs);
  warned =
      one.warned
      ∙ ap₂ (λ (a : List ℕ) (l : List Road). a ++ gather W (warn_all (same t) k j (f i ∷ []) l)) before.warned
      before.roads
      ∙ append_assoc (laid_words x) (gather W (warn_all (same t) k j (tab i f) rs))
      (gather W (warn_all (same t) k j (f i ∷ []) (missing_links (same t) j (tab i f) rs)))
      ∙ ap (λ (l : List ℕ). laid_words x ++ l)
      (sym (ap (λ (l : List Connection). gather W (warn_all (same t) k j l rs)) (tab_more i f)
      ∙ ap (gather W) (warn_snoc (same t) j k (tab i f) (f i) rs)
      ∙ gather_append W (warn_all (same t) k j (tab i f) rs)
      (warn_all (same t) k j (f i ∷ []) (missing_links (same t) j (tab i f) rs))));
}
  where
    j : Span
    j = junction_name t k

    rs : List Road
    rs = roads_with t ends

    W : Warning → List ℕ
    W = warning_row t
