use Rattle.std.proofs.Common.{arith}
use Rattle.rules.proofs.Fits.{fit_in}
use Rattle.repair.specs.Ready.{Joined}
use Rattle.repair.proofs.junction.Junction.at.Goals as goal

pub invariant_of-result-clause-within : goal.invariant_of-result-clause-within
invariant_of-result-clause-within c =
    let m = c.args.reads.now.map in
    let joined : Joined m.junctions.now m.connections.now = c.args.reads.now.ready.joined in
    let fits = fit_in 5 3 4 m.junctions.now _ joined.fit c.args.row c.requires in
    omega (arith, fits, c.word.ensures.0, c.word-2.ensures.0)
