use Rattle.std.proofs.Common.{arith, length}
use Rattle.rules.proofs.Fits.{part_in}
use Rattle.rules.proofs.parts.Sections.numbers.Goals as goal

pub slice_bounds-result-end : goal.slice_bounds-result-end
slice_bounds-result-end c =
    let m = c.args.self.now in
    let inside = part_in 20 18 19 (length m.sections.now) m.roads.now (omega arith) (omega arith) m.fit c.args.road
    c.requires in
    omega arith
