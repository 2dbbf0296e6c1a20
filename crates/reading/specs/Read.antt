-- What the code reads of an attribute, and its raw tables, as the model has them. Definitions only.
use Rattle.std.proofs.Math.Option as maths
use Rattle.std.specs.Prelude.{List, Option, Some, None, true, false, cond, ℕ}
use Rattle.model.specs.Lists.{bind_o, map_o}
use Rattle.model.specs.Reading as model
use Rattle.model.specs.Records as records
use Rattle.model.specs.Rows.{word}
use Rattle.model.specs.Tables.{flag, name_in}
use Rattle.words.specs.Name.{place_of}
use Rattle.words.specs.declared.name.Name.{Name}
use Rattle.reading.specs.declared.attributes.ContactPoint.{ContactPoint}
use Rattle.reading.specs.declared.attributes.ContactPoint.TheVariants.{Absent, Start, End, Loose}
use Rattle.reading.specs.declared.raw.RawJunctions.{RawJunctions}
use Rattle.reading.specs.declared.warning.Warning.{Warning}
use Rattle.reading.specs.declared.warning.Warning.TheVariants.{ConnectionDropped, LaneLinkDropped, ConnectionLoose}
use Rattle.reading.specs.declared.warning.Warning.TheVariants.{TargetLoose}
use Rattle.reading.specs.Laid.{raw_tables}

-- an attribute: where its name stands; none where it is absent
abbrev pub attribute_read : Option Name → maths.Option records.Span
attribute_read None = maths.none
attribute_read (Some n) = maths.some (place_of n)

-- a pair of lane numbers that may be missing
abbrev pub pair_read : Option (ℕ × ℕ) → maths.Option records.Pair
pair_read None = maths.none
pair_read (Some p) = maths.some (record { from = p.0; to = p.1 })

-- two that are both there
abbrev pub both_of : {A B : Type 0} → maths.Option A → maths.Option B → maths.Option (A × B)
both_of a b = bind_o a (λ x. map_o (λ y. (x, y)) b)

-- two names that are both there
abbrev pub names_read : Option (Name × Name) → maths.Option (records.Span × records.Span)
names_read None = maths.none
names_read (Some p) = maths.some (place_of p.0, place_of p.1)

-- a contact point
abbrev pub contact_read : ContactPoint → model.ContactPoint
contact_read Absent = record { contact = false; given = false; loose = false }
contact_read Start = record { contact = false; given = true; loose = false }
contact_read End = record { contact = true; given = true; loose = false }
contact_read Loose = record { contact = false; given = false; loose = true }

-- the elementId and the contactPoint of a raw target; none where it gives no target
abbrev pub kept_in : (text row : List ℕ) → maths.Option (records.Span × model.ContactPoint)
kept_in text row = cond (flag (word row 0))
    (map_o (λ n. (n, model.contact_of text (name_in row 5))) (name_in row 3)) maths.none

abbrev pub kept_read : Option (Name × ContactPoint) → maths.Option (records.Span × model.ContactPoint)
kept_read None = maths.none
kept_read (Some k) = maths.some (place_of k.0, contact_read k.1)

-- the raw tables that are lent
abbrev pub tables_read : RawJunctions → model.RawTables
tables_read raw = raw_tables raw.text.now raw.junctions.now raw.connections.now raw.lane_links.now

-- a warning
abbrev pub warning_read : Warning → model.ReadWarning
warning_read (ConnectionDropped j c) = model.connection_dropped j c
warning_read (LaneLinkDropped j c l) = model.lane_link_dropped j c l
warning_read (ConnectionLoose j c) = model.connection_loose j c
warning_read (TargetLoose r e) = model.target_loose r e
