use Rattle.std.proofs.Common.{◌∙◌, ap, refl}
use Rattle.model.specs.Calls.{RepairOutputs, repair_writing, written_or9}
use Rattle.model.specs.Tables.{Tables}
use Rattle.words.specs.Map.{map_read}
use Rattle.words.specs.declared.map.MapTables.{MapTables}
use Rattle.repair.specs.Answers.{content_now, outputs_of}
use Rattle.repair.proofs.CallLaws.{content_is}
use Rattle.repair.proofs.call.mend.Goals as goal

pub returns-clause-outcome : goal.returns-clause-outcome
returns-clause-outcome c =
    let t : Tables = map_read c.args.map.now in
    let over = rw c.over-reads.ensures at c.junctions.ensures in
    c.write.ensures.outcome
    ∙ ap (λ (content : RepairOutputs). written_or9 repair_writing content (outputs_of c.args.out.now))
    (ap (λ (m : MapTables). content_now (map_read m) c.junctions.new.self) c.over-reads.ensures
    ∙ content_is t c.requires.ready
    (record { junctions = refl; connections = refl; pairs = refl; warnings = refl }) c.without_along.ensures over)
