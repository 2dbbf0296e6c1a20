use Rattle.std.proofs.Common.{sym, ◌∙◌}
use Rattle.succession.specs.Read.{read_of}
use Rattle.succession.proofs.Growth.{grown_none}
use Rattle.succession.proofs.Walks.{meeting_leads, meeting_none}
use Rattle.succession.proofs.walk.Walk.through_connection.Goals as goal

pub through_pairs-requires-clause-room : goal.through_pairs-requires-clause-room
through_pairs-requires-clause-room c =
    let met = sym c.comes_from.ensures ∙ c.if-comes_from.true in
    rw (meeting_leads (read_of c.args.self.now) _ _ c.args.k _ met) at c.requires.room

pub returns-then-comes_from : goal.returns-then-comes_from
returns-then-comes_from c =
    let met = sym c.comes_from.ensures ∙ c.if-comes_from.true in
    rw (meeting_leads (read_of c.args.self.now) _ _ c.args.k _ met) c.through_pairs.ensures

pub returns-else-comes_from : goal.returns-else-comes_from
returns-else-comes_from c =
    let apart = sym c.comes_from.ensures ∙ c.if-comes_from.false in
    rw (meeting_none (read_of c.args.self.now) _ _ c.args.k _ apart)
    (grown_none _ c.requires.room)
