use Rattle.std.proofs.Common.{◌/◌, Bool, ◌∙◌, ◌&&◌, ap, length, not, refl, sym}
use Rattle.model.specs.Records.{virtual}
use Rattle.repair.proofs.Virtual.{virtual_by}
use Rattle.words.specs.Keys.{is_kind_of}
use Rattle.words.specs.Name.{place_of}
use Rattle.words.specs.Rows.{any}
use Rattle.repair.proofs.along.in_virtual.Goals as goal

pub returns-then-not-is_absent : goal.returns-then-not-is_absent
returns-then-not-is_absent c =
    sym (ap (λ b. not b && c.has_kind.result) c.if-not-is_absent.true)
    ∙ virtual_by _ c.args.roads.now _ c.args.road.0 c.at-name.ensures c.is_absent.ensures c.has_kind.ensures

pub returns-else-not-is_absent : goal.returns-else-not-is_absent
returns-else-not-is_absent c =
    let junctions = c.args.junctions.now in
    let met : Bool = any (length junctions.rows.now / 5)
    (is_kind_of virtual junctions.text.now junctions.rows.now (place_of c.at-name.result)) in
    ap not c.if-not-is_absent.false
    ∙ sym (ap (λ b. not b && met) c.if-not-is_absent.false)
    ∙ virtual_by _ c.args.roads.now _ c.args.road.0 c.at-name.ensures c.is_absent.ensures refl
