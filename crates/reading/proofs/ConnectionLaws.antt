-- A connection read: passed over, dropped with warning 1, or kept with its pairs.
use Prim.Native.Nat.{ℕ, ◌+◌}
use mathlib.Core.Path.{◌≡◌, refl, sym, ap, ap₂, ◌∙◌}
use mathlib.Core.List.{List, [], ◌∷◌, ◌++◌, append-nil}
use mathlib.Core.Bool.{Bool, true, false, cond}
use mathlib.Core.Option.{Option, none, some}
use native.Mathlib.Omega.{arith}
use lib.ListN.{length, get_or}
use Rattle.model.specs.Lists.{bind_o, gather, is_some, map_o, pick}
use Rattle.model.specs.Reading.{ContactPoint, RawTables, ReadWarning, connection_dropped, connection_loose}
use Rattle.model.specs.Reading.{connection_warnings, contact_of, contact_warnings, kept_connections, kind_at}
use Rattle.model.specs.Reading.{lane_link_warnings, lane_links_at, leads_into, part_rows, passed_over}
use Rattle.model.specs.Reading.{raw_connection, read_connection, read_pair, to_list}
use Rattle.model.specs.Records.{Connection, JunctionKind, Pair, Span}
use Rattle.model.specs.Rules.{is_direct}
use Rattle.model.specs.Tables.{bit, connection_row, name_in}
use Rattle.reading.specs.Laid.{ConnectionOuts, ConnectionsRead, LinksRead, Output, Run, Warned, drops_at, pairs_at}
use Rattle.reading.specs.Laid.{raw_tables}
use Rattle.reading.specs.Read.{both_of}
use Rattle.reading.proofs.RunLaws.{connections_as, connections_none, links_as, links_join, run_as, run_none}

-- a connection by its attributes and its pairs
abbrev connection_by : List ℕ → (incoming connecting contact : Option Span) → List Pair → Option Connection
connection_by text incoming connecting contact ps =
    bind_o incoming λ a. map_o
    (λ b. record { incoming = a; connecting = b; contact = (contact_of text contact).contact; pairs = ps }) connecting

-- and by both of its roads
abbrev connection_of : (contact : Bool) → List Pair → Span × Span → Connection
connection_of contact ps roads =
    record { incoming = roads.0; connecting = roads.1; contact = contact; pairs = ps }

by_both : (text : List ℕ) (a b o : Option Span) (ps : List Pair)
    → connection_by text a b o ps ≡ map_o (connection_of (contact_of text o).contact ps) (both_of a b)
by_both text none b o ps = refl
by_both text (some x) none o ps = refl
by_both text (some x) (some y) o ps = refl

-- lane links do not matter to whether it is passed over
pub passed_any : (text junctions connections links : List ℕ) (j c : ℕ)
    → passed_over (raw_tables text junctions connections []) j c
    ≡ passed_over (raw_tables text junctions connections links) j c
unfolding passed_over
passed_any text junctions connections links j c = refl

module _ (t : RawTables) (j c : ℕ) where
  -- the warnings of a connection that is not passed over, by what it reads as
  abbrev warned_by : Option Connection → List ReadWarning
  warned_by o =
      cond (is_some o) (contact_warnings t j c ++ gather (lane_link_warnings t j c) (lane_links_at t c))
      (connection_dropped j c ∷ [])

  pub read_passed : (o : ConnectionOuts) → passed_over t j c ≡ true
      → ConnectionsRead (kept_connections t j c) (connection_warnings t j c) o o
  unfolding kept_connections connection_warnings
  read_passed o e =
      connections_as (connections_none o)
      (sym (ap (λ (b : Bool). cond b [] (to_list (read_connection t j c))) e))
      (sym (ap (λ (b : Bool). cond b [] (warned_by (read_connection t j c))) e))

  -- its lane links, their pairs and warnings
  abbrev pairs : List Pair
  pairs = gather (pairs_at t.text t.lane_links) (lane_links_at t c)

  abbrev drops : List ReadWarning
  drops = gather (drops_at t.text t.lane_links j c) (lane_links_at t c)

  connection_is : read_connection t j c
      ≡ connection_by t.text (name_in (raw_connection t c) 4) (leads_into t j c) (name_in (raw_connection t c) 10) pairs
  unfolding read_connection pairs_at read_pair
  connection_is = refl

  drops_are : gather (lane_link_warnings t j c) (lane_links_at t c) ≡ drops
  unfolding drops_at read_pair
  drops_are = refl

  module _ (past : passed_over t j c ≡ false) where
    -- what was read, by what the connection reads as
    read_as : {o : Option Connection} {old new : ConnectionOuts} → read_connection t j c ≡ o
        → ConnectionsRead (to_list o)
        (cond (is_some o) (contact_warnings t j c ++ drops) (connection_dropped j c ∷ [])) old new
        → ConnectionsRead (kept_connections t j c) (connection_warnings t j c) old new
    unfolding kept_connections connection_warnings
    read_as is r =
        connections_as r
        (sym (ap (λ (b : Bool). cond b [] (to_list (read_connection t j c))) past ∙ ap to_list is))
        (sym (ap (λ (b : Bool). cond b [] (warned_by (read_connection t j c))) past
        ∙ ap₂ (λ (x : Option Connection) (l : List ReadWarning).
        cond (is_some x) (contact_warnings t j c ++ l) (connection_dropped j c ∷ [])) is drops_are))

    -- by its row, as read, and the kind of its junction
    module _ {row : List ℕ} (row_is : row ≡ raw_connection t c) {kind : JunctionKind} (kind_is : kind ≡ kind_at t j)
      where
        abbrev roads : Option (Span × Span)
        roads = both_of (name_in row 4) (pick (is_direct kind) (name_in row 6) (name_in row 8))

        -- what its contactPoint says
        abbrev point : ContactPoint
        point = contact_of t.text (name_in row 10)

        by_roads : read_connection t j c ≡ map_o (connection_of point.contact pairs) roads
        unfolding leads_into
        by_roads =
            connection_is
            ∙ by_both t.text (name_in (raw_connection t c) 4) (leads_into t j c) (name_in (raw_connection t c) 10) pairs
            ∙ (λ z. map_o (connection_of (contact_of t.text (name_in (sym row_is z) 10)).contact pairs)
            (both_of (name_in (sym row_is z) 4)
            (pick (is_direct (sym kind_is z)) (name_in (sym row_is z) 6) (name_in (sym row_is z) 8))))

        loose_is : cond point.loose (connection_loose j c ∷ []) [] ≡ contact_warnings t j c
        loose_is =
            ap (λ (r : List ℕ). cond (contact_of t.text (name_in r 10)).loose (connection_loose j c ∷ []) []) row_is

        -- a road is missing
        pub read_dropped : {n p w w' : Output} → none ≡ roads → Run 4 (1 ∷ j ∷ c ∷ 0 ∷ []) 1 w w'
            → ConnectionsRead (kept_connections t j c) (connection_warnings t j c)
            (record { connections = n; rest = record { pairs = p; warnings = w } })
            (record { connections = n; rest = record { pairs = p; warnings = w' } })
        read_dropped {n} {p} missing put =
            read_as (by_roads ∙ ap (map_o (connection_of point.contact pairs)) (sym missing))
            (record { rows = run_none 7 n; rest = record { pairs = run_none 2 p; warnings = put } })

        pub read_kept : (size : ℕ) {first count : ℕ} {a b : Span} {n n' p p' w v w' : Output} → first ≡ get_or row 12 0
            → count ≡ get_or row 13 0 → some (a, b) ≡ roads
            → Warned (cond point.loose (connection_loose j c ∷ []) []) w v
            → LinksRead (gather (pairs_at t.text t.lane_links) (part_rows first count))
            (gather (drops_at t.text t.lane_links j c) (part_rows first count))
            (record { pairs = p; warnings = v }) (record { pairs = p'; warnings = w' })
            → p'.rows ≡ p.rows + size
            → Run 7 (a.start ∷ a.size ∷ b.start ∷ b.size ∷ bit point.contact ∷ p.rows ∷ size ∷ []) 1 n n'
            → ConnectionsRead (kept_connections t j c) (connection_warnings t j c)
            (record { connections = n; rest = record { pairs = p; warnings = w } })
            (record { connections = n'; rest = record { pairs = p'; warnings = w' } })
        unfolding connection_row
        read_kept size {a = a} {b = b} {p = p} {w = w} {v = v} first_is count_is there warned some-read sized put =
            let begins = first_is ∙ ap (λ (r : List ℕ). get_or r 12 0) row_is in
            let covers = count_is ∙ ap (λ (r : List ℕ). get_or r 13 0) row_is in
            let links-read =
            links_as some-read (λ z. gather (pairs_at t.text t.lane_links) (part_rows (begins z) (covers z)))
            (λ z. gather (drops_at t.text t.lane_links j c) (part_rows (begins z) (covers z))) in
            let count : size ≡ length pairs = omega (arith, links-read.pairs.count) in
            let connection = connection_of point.contact pairs (a, b) in
            let is =
            ap (λ (k : ℕ). a.start ∷ a.size ∷ b.start ∷ b.size ∷ bit point.contact ∷ p.rows ∷ k ∷ []) count in
            let contact-read : LinksRead [] (contact_warnings t j c) (record { pairs = p; warnings = w })
            (record { pairs = p; warnings = v }) =
            links_as (record { pairs = run_none 2 p; warnings = warned }) refl loose_is in
            read_as (by_roads ∙ ap (map_o (connection_of point.contact pairs)) (sym there))
            (record {
              rows = run_as put (is ∙ sym (append-nil (connection_row p.rows connection))) refl;
              rest = links_as (links_join contact-read links-read) (sym (append-nil pairs)) refl;
            })
