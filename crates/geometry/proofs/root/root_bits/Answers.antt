-- `geometry::root::root_bits` meets its contract. Assumes nothing.
use Rattle.geometry.proofs.Rounded.{nearest_bits}
use Rattle.geometry.proofs.root.root_bits.Goals as goal

pub returns : goal.returns
returns c = nearest_bits _ _ _ _ c.scale-m.ensures c.nearest_root-q.ensures.0 c.nearest_root-q.ensures.1
