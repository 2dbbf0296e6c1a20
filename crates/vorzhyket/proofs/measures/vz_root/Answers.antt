-- `vz_root`: the root, or 15.
use Rattle.vorzhyket.proofs.Left.{root_as}
use Rattle.vorzhyket.proofs.measures.vz_root.Goals as goal

pub returns-in-Ok : goal.returns-in-Ok
returns-in-Ok c = root_as _ c.root-r.ensures c.in-Ok.is

pub returns-in-Err : goal.returns-in-Err
returns-in-Err c = root_as _ c.root-r.ensures c.in-Err.is
