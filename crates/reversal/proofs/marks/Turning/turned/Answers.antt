use Rattle.reversal.specs.Turned.{mark_of}
use Rattle.reversal.proofs.Leaves.{target_turned}
use Rattle.reversal.proofs.marks.Turning.turned.Goals as goal

pub returns : goal.returns
returns c =
    let t = c.args.self.now in
    target_turned (mark_of t.roads.text.now t.roads.rows.now t.marks.now) c.in_ok-target.was c.leads.ensures
