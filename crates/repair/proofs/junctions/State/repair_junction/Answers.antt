use Rattle.std.proofs.Common.{ℕ, List, ◌++◌, ◌∙◌, ap, arith, sym}
use mathlib.Core.List.{append-nil}
use Rattle.model.specs.Calls.{warning_row}
use Rattle.model.specs.Lists.{gather}
use Rattle.model.specs.Repair.{Warning}
use Rattle.model.specs.Tables.{Tables}
use Rattle.words.specs.Map.{map_read}
use Rattle.repair.specs.Laying.{laid_words}
use Rattle.repair.specs.Ready.{Ready}
use Rattle.repair.proofs.JunctionSteps.{common_roads, common_warned, junction_row_lem, other_roads, other_warned}
use Rattle.repair.proofs.JunctionSteps.{part_of}
use Rattle.repair.proofs.junctions.State.repair_junction.Goals as goal

pub put_junction-requires : goal.put_junction-requires
put_junction-requires c =
    let j = c.args.junction.now in
    let ready : Ready (map_read j.reads.map) = j.reads.ready in
    let part = part_of j in
    let few = ready.small.few in
    let twice = c.lay_junction.ensures.twice in (
      omega (arith, j.inside, c.requires.0, ready.joined.few),
      omega (arith, c.requires.1.rows, part.begins, part.inside, few),
      omega (arith, twice.rows, part.finish, part.inside, few),
    )

pub missing_links-requires : goal.missing_links-requires
missing_links-requires c = let part = part_of c.args.junction.now in omega (arith, part.begins, c.requires.2)

pub returns-in-Common : goal.returns-in-Common
returns-in-Common c =
    let x = c.args.self.now in
    let j = c.args.junction.now in
    let t : Tables = map_read j.reads.map in
    let part = part_of j in
    let own = c.lay_junction.ensures in
    let links = c.missing_links.ensures in
    record {
      twice = own.twice;
      warnings = omega (arith, links.at_most, part.begins, part.finish, c.requires.2);
      stepped = record {
        roads = links.linked.roads ∙ common_roads _ j c.in-Common.is;
        count = c.put_junction.ensures.rows;
        row = c.put_junction.ensures.words
            ∙ ap (λ (l : List ℕ). laid_words x.junctions ++ l)
            (junction_row_lem _ j x.pile.connections.rows (omega (arith, own.laid.rows)));
        laid = own.laid;
        warned = links.linked.warned
            ∙ ap (λ (l : List Warning). laid_words x.warnings ++ gather (warning_row t) l)
            (common_warned _ j c.in-Common.is);
      };
    }

pub returns-in_default : goal.returns-in_default
returns-in_default c =
    let x = c.args.self.now in
    let j = c.args.junction.now in
    let t : Tables = map_read j.reads.map in
    let part = part_of j in
    let own = c.lay_junction.ensures in
    let other = c.in_default.not-Common in
    record {
      twice = own.twice;
      warnings = omega (arith, part.begins, part.finish, c.requires.2);
      stepped = record {
        roads = other_roads _ j other;
        count = c.put_junction.ensures.rows;
        row = c.put_junction.ensures.words
            ∙ ap (λ (l : List ℕ). laid_words x.junctions ++ l)
            (junction_row_lem _ j x.pile.connections.rows (omega (arith, own.laid.rows)));
        laid = own.laid;
        warned = sym (append-nil (laid_words x.warnings))
            ∙ ap (λ (l : List Warning). laid_words x.warnings ++ gather (warning_row t) l) (other_warned _ j other);
      };
    }
