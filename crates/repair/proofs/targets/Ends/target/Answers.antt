use Rattle.std.proofs.Common.{◌+◌, ◌*◌, ◌-◌, ◌≡◌, ◌∙◌, arith, get_or, rules}
use Prim.Native.Nat.{suc}
use Rattle.model.specs.Tables.{bit}
use Rattle.repair.proofs.TargetWords.{end_absent, end_as_read, end_given}
use Rattle.repair.proofs.targets.Ends.target.Goals as goal

pub returns-in-0 : goal.returns-in-0
returns-in-0 c =
    let end : c.from-end.result ≡ bit c.args.at_end = search rules in
    let zero : get_or c.args.self.now.words (c.args.road.0 * 2 + c.from-end.result) 0 ≡ 0 = omega (arith, c.in-0.is) in
    c.at.ensures ∙ end_as_read _ _ _ _ _ end zero

pub returns-in-1 : goal.returns-in-1
returns-in-1 c =
    let end : c.from-end.result ≡ bit c.args.at_end = search rules in end_absent _ _ _ _ _ end c.in-1.is

pub returns-in_default : goal.returns-in_default
returns-in_default c =
    let end : c.from-end.result ≡ bit c.args.at_end = search rules in
    let ends = c.args.self.now.words in
    let junctions = c.args.reads.now.map.junctions.now in
    let word = get_or ends (c.args.road.0 * 2 + c.from-end.result) 0 in
    let k = word - 2 in
    let given : word ≡ suc (suc k) = omega (arith, c.in_default) in
    let start : c.unwrap_or.result ≡ get_or junctions (k * 5) 0 = search rules in
    let size : c.unwrap_or-in_default.result ≡ get_or junctions (k * 5 + 1) 0 = search rules in
    end_given _ _ _ _ _ end k given start size
