-- THE MAIN THEOREMS over the model, each stated in full; the proof cites where it is worked out. The last is
-- demand 3.
--
-- Three hypotheses recur, each a test of the model's own:
--   first_broken (table_rules t) ≡ none       rules 1 to 8 and 10 let the tables pass: admitted tables
--   marks_fit t.roads marks ≡ true            rule 12: a mark, 0 or 1, for each road
--   reversal_refusal t marks lengths ≡ none   a reversal by the marks, with outputs of these lengths, is accepted
-- reversed_once_by marks t: the tables with what reversal by the marks writes in place of what it reads.
-- repaired_map t: the map after repair. gaps_of t: the gap rows, from the lists of that map.
-- Each P xs: P of every element of xs. List.Memᴰ a l: a stands in l.
use mathlib.Core.Path.{◌≡◌, refl}
use mathlib.Core.Bool.{Bool, true, false, not}
use mathlib.Core.Option.{Option, none, some}
use mathlib.Core.List.{List, [], ◌++◌, map, Memᴰ}
use Prim.Native.Nat.{ℕ, ◌+◌, ◌<◌}
use lib.ListN.{length, get_or}
use Rattle.model.specs.Calls.{ListOutputs, RepairOutputs, gap_rules, list_content, repair_call, repair_content}
use Rattle.model.specs.Calls.{repaired_map, reversal_refusal, reversed_map, succession_call, succession_rules}
use Rattle.model.specs.Calls.{table_rules, warning_width, wrote}
use Rattle.model.specs.Claim.{Claim, Mutual, list_rows, repaired_tables, reversed_warning}
use Rattle.model.specs.Joined.{is_readings, is_repairs, joined_warnings}
use Rattle.model.specs.Lists.{count, is_some, keep, member, pick}
use Rattle.model.specs.Lookup.{list_lookup}
use Rattle.model.specs.Reading.{RawTables, contact_of, end_text, read_target, reads}
use Rattle.model.specs.ReadingCalls.{junction_content, target_content}
use Rattle.model.specs.Records.{EdgedLane, Lane, Map, Road, Span, Target}
use Rattle.model.specs.Renamed.{Renamed, RenamedClaim, Renaming}
use Rattle.model.specs.Repair.{back_end}
use Rattle.model.specs.Rows.{table}
use Rattle.model.specs.Rules.{edges_fit, first_broken, identities_once, ids_once, marks_fit, same}
use Rattle.model.specs.Sequence.{Call, is_empty, reversed_once_by, toggled_marks}
use Rattle.model.specs.Succession.{is_both, predecessor_lists, predecessors, successor_lists, successors}
use Rattle.model.specs.Tables.{Tables, edged_lanes_of, is_absent, lane_tables, lanes_of, map_of, map_tables, name_size}
use Rattle.model.specs.Tables.{name_in, name_start, tables_of}
use Rattle.laws.proofs.Contacts.{given_there, loose_reads, no_end}
use Rattle.laws.proofs.Encoded.{edged_whole, map_back}
use Rattle.laws.proofs.Joined.{joined_length, joined_readings, joined_repairs}
use Rattle.laws.proofs.Looked.{list_content_looked}
use Rattle.laws.proofs.Offsets.{through}
use Rattle.laws.proofs.OverTables.{gaps_over, gaps_of, marks_each, plain_names, predecessors_over}
use Rattle.laws.proofs.OverTables.{repaired_means, reversed_means, successors_over, warnings_over}
use Rattle.laws.proofs.Packed.{mutual_lists}
use Rattle.laws.proofs.RenamedTables.{renamed_claim}
use Rattle.laws.proofs.TablesRead.{repair_call_reads, succession_call_reads}
use Rattle.laws.proofs.Valid.{Each}
use Rattle.laws.proofs.WordsReversed.{fine, fine_words, model_of}
use Rattle.laws.proofs.Converse as conv
use Rattle.laws.proofs.EverySequence as demand3
use Rattle.laws.proofs.Sequences as seq

-- ---- words and the map that they mean
-- decode then encode: admitted tables are the words of the map that they mean
pub encode_decoded : (t : Tables) → first_broken (table_rules t) ≡ none →
    tables_of t.text (map_of t) (edged_lanes_of t) ≡ t
unfolding model_of
encode_decoded t admitted = fine_words t (fine t admitted)

-- encode then decode: the words of a map mean that map, where a junction name's words mean absent just where it
-- is absent, and each lane has six floats at each end
pub decode_encoded : (text : List ℕ) (m : Map) (xs : List EdgedLane)
    → Each
    (λ (r : Road). is_absent (name_start r.junction) (name_size r.junction) ≡ not (is_some r.junction))
    m.roads →
    map (λ x. x.lane) xs ≡ m.lanes
    → Each (λ (x : EdgedLane). (length x.at_start ≡ 6) × (length x.at_end ≡ 6)) xs →
    (map_of (tables_of text m xs) ≡ m) × (edged_lanes_of (tables_of text m xs) ≡ xs)
decode_encoded text m xs absent-just-there same-lanes six = (
  map_back text m xs (plain_names m.roads absent-just-there),
  edged_whole text m xs same-lanes six,
)

-- what reversal writes means the map reversed
pub reversal_means : (t : Tables) → first_broken (table_rules t) ≡ none → (marks : List ℕ) →
    map_of (reversed_once_by marks t) ≡ reversed_map t marks
reversal_means t admitted marks = reversed_means t (fine t admitted) marks

-- what repair writes means the map repaired
pub repair_means : (t : Tables) → first_broken (table_rules t) ≡ none →
    map_of (repaired_tables t) ≡ repaired_map t
repair_means t admitted = repaired_means t (fine t admitted)

-- ---- reversal
-- reversal composes: by one set and then by another is once by the roads that are in just one of them
pub reversal_composes : (t : Tables) → first_broken (table_rules t) ≡ none → (set marks : List ℕ)
    → marks_fit t.roads set ≡ true → marks_fit t.roads marks ≡ true →
    reversed_once_by marks (reversed_once_by set t) ≡ reversed_once_by (toggled_marks set marks) t
reversal_composes t admitted set marks set-fits marks_fit_lem =
    let f = fine t admitted in
    seq.reversed_twice t f set marks (marks_each t f set set-fits) (marks_each t f marks marks_fit_lem)

-- the empty set changes nothing
pub empty_changes_nothing : (t : Tables) → first_broken (table_rules t) ≡ none → (set : List ℕ) → is_empty set ≡ true →
    reversed_once_by set t ≡ t
empty_changes_nothing t admitted set empty = seq.empty_reversed t (fine t admitted) set empty

-- ---- what reversal leaves as it was
-- on a map reversed and then repaired every lane has the lists that it has on the map repaired, successors and
-- predecessors, all lanes at once
pub same_lists : (t : Tables) (marks lengths : List ℕ) → reversal_refusal t marks lengths ≡ none →
    (successor_lists (same t) (repaired_map (reversed_once_by marks t)) ≡ successor_lists (same t) (repaired_map t))
    × (predecessor_lists (same t) (repaired_map (reversed_once_by marks t))
    ≡ predecessor_lists (same t) (repaired_map t))
same_lists t marks lengths accepted =
    (successors_over t marks lengths accepted, predecessors_over t marks lengths accepted)

-- the gap rows are the same, to the bit: lane row, successor row, gap and both places
pub same_gap_rows : (t : Tables) (marks lengths : List ℕ) → reversal_refusal t marks lengths ≡ none →
    gaps_of (reversed_once_by marks t) ≡ gaps_of t
same_gap_rows t marks lengths accepted = gaps_over t marks lengths accepted

-- repair's warnings differ only in the end of a marked road: each row has its first three words, and the fourth
-- is the other end where the road is marked
pub same_warnings : (t : Tables) → first_broken (table_rules t) ≡ none → (marks : List ℕ)
    → marks_fit t.roads marks ≡ true →
    table warning_width (repair_content (reversed_once_by marks t)).warnings
    ≡ map (reversed_warning marks) (table warning_width (repair_content t).warnings)
same_warnings t admitted marks marks_fit_lem = warnings_over t (fine t admitted) marks marks_fit_lem

-- ---- the lists
-- converse: b stands in a's successors as often as a in b's predecessors, where no identity is borne twice (rule 6)
pub converse : (t : Tables) → identities_once t ≡ true → (a b : Lane) → Memᴰ a (lanes_of t) →
    count b.identity (successors (same t) (map_of t) a) ≡ count a.identity (predecessors (same t) (map_of t) b)
unfolding ids_once map_of
converse t once a b a_in = conv.converse (same t) (map_of t) once a b a_in

-- of two two-way lanes each lists the other or neither does
pub both_or_neither : (t : Tables) → identities_once t ≡ true → (a b : Lane) → Memᴰ a (lanes_of t)
    → Memᴰ b (lanes_of t) → is_both a.direction ≡ true → is_both b.direction ≡ true →
    member b.identity (successors (same t) (map_of t) a) ≡ member a.identity (successors (same t) (map_of t) b)
unfolding ids_once map_of
both_or_neither t once a b a_in b-in a-both b-both =
    conv.both_or_neither (same t) (map_of t) once a b a_in b-in a-both b-both

-- both, of the words: the lists that an accepted succession wrote, on any tables
pub converse_written : (t : Tables) (o : ListOutputs) (counts : List ℕ) → (succession_call t o).answer ≡ wrote counts →
    Mutual t.lanes (list_rows counts (succession_call t o).outs)
converse_written t o counts accepted = mutual_lists t o counts accepted

-- list lookup on what succession writes finds the lane's list, onward or before
pub lookup_finds : (t : Tables) (row : ℕ) (before : Bool) → row < length (lanes_of t) →
    list_lookup (list_content t).successor_offsets (list_content t).successor_ids
    (list_content t).predecessor_offsets (list_content t).predecessor_ids row before
    ≡ pick before (get_or (successor_lists (same t) (map_of t)) row [])
    (get_or (predecessor_lists (same t) (map_of t)) row [])
lookup_finds t row before row_in = list_content_looked t row before row_in

-- ---- one call after another
-- a call looks at no table but those that it reads: repair comes to the same with no lanes and no edges,
-- succession with no edges
pub repair_reads : (t : Tables) (o : RepairOutputs) →
    repair_call t o
    ≡ repair_call (map_tables t.text t.roads t.sections t.junctions t.connections t.pairs) o
repair_reads t o = repair_call_reads t o

pub succession_reads : (t : Tables) (o : ListOutputs) →
    succession_call t o
    ≡ succession_call
    (lane_tables t.text t.roads t.sections t.junctions t.connections t.pairs t.lanes) o
succession_reads t o = succession_call_reads t o

-- after an accepted succession the gap check on its lists, with twelve edges for each lane (rule 10), can refuse
-- by 9 alone
pub gap_check_passes : (t : Tables) → first_broken (succession_rules t) ≡ none → edges_fit t ≡ true →
    first_broken (gap_rules t (list_content t).successor_offsets (list_content t).successor_ids) ≡ none
gap_check_passes t succession_passes edges_hold = through t succession_passes edges_hold

-- ---- warnings
-- the Rust's list of warnings, from what the readings and then repair, on the junctions that reading wrote, warn of:
-- without repair's it is the readings' lists, the targets' first; without the readings' it is repair's; and nothing
-- else is in it
pub warnings_joined : (text raw : List ℕ) (t : RawTables) (u : Tables) → u.junctions ≡ (junction_content t).junctions →
    let targets = table warning_width (target_content text raw).warnings in
    let read = table warning_width (junction_content t).warnings in
    let repaired = table warning_width (repair_content u).warnings in
    let all =
    joined_warnings t (target_content text raw).warnings (junction_content t).warnings (repair_content u).warnings in
    (keep is_readings all ≡ targets ++ read) × (keep is_repairs all ≡ repaired)
    × (length all ≡ length targets + length read + length repaired)
warnings_joined text raw t u as_read = (
  joined_readings text raw t u as_read,
  joined_repairs text raw t u as_read,
  joined_length text raw t u as_read,
)

-- ---- contact points
-- where a contactPoint is absent or one of the two spellings, its contact and its given flag are the Rust's: "end" is
-- end, and given means that the attribute is there
pub contact_as_rust : (text : List ℕ) (o : Option Span) → (contact_of text o).loose ≡ false →
    ((contact_of text o).contact ≡ reads text end_text o) × ((contact_of text o).given ≡ is_some o)
contact_as_rust text o strict = (refl, given_there text o strict)

-- one spelled loosely reads as an absent one: start, and not given
pub loose_as_absent : (text : List ℕ) (o : Option Span) → (contact_of text o).loose ≡ true →
    ((contact_of text o).contact ≡ (contact_of text none).contact)
    × ((contact_of text o).given ≡ (contact_of text none).given)
loose_as_absent text o loose = loose_reads text o loose

-- so a target with such a contactPoint names no end of the road that it links to, and repair takes no notice of it
pub loose_names_no_end : (text r : List ℕ) (t : Target) → read_target text r ≡ some t
    → (contact_of text (name_in r 5)).loose ≡ true → (alike : Span → Span → Bool) (n : Span) →
    back_end alike n t ≡ none
loose_names_no_end text r t read loose alike n = no_end text r t read loose alike n

-- ---- maps renamed and reordered
-- THE COPY FINDS THE SAME, of all renamings that keep different names different, one of roads and one of junctions, and
-- all orders of road rows with their sections and of lane rows with their edges, if both maps are admitted. The model's
-- specs/Renamed.antt says it part by part: the lists of every identity and the gap rows, on the map as it is and on
-- the map repaired, what repair writes and its warnings.
pub every_renaming : (of_roads of_junctions : Renaming) (t t' : Tables) → Renamed of_roads of_junctions t t'
    → first_broken (table_rules t) ≡ none → first_broken (table_rules t') ≡ none
    → RenamedClaim of_roads of_junctions t t'
every_renaming of_roads of_junctions t t' copied admitted copy-admitted =
    renamed_claim of_roads of_junctions t t' copied (fine t admitted) (fine t' copy-admitted)

-- ---- DEMAND 3
-- THE CLAIM HOLDS of every sequence of reversal calls on every tables, refused ones included, with outputs of
-- any content and length. The model's specs/Claim.antt says it part by part: each answer, the tables,
-- the set, one reversal at once, repair's answer and warnings, the same lists and gap rows, and that the lists
-- that are found are each other's converse.
pub every_sequence : (t : Tables) (cs : List Call) → Claim t cs
every_sequence t cs = demand3.every_sequence t cs
