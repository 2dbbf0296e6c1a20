-- `geometry::segment::root_of` meets its contract. Assumes nothing.
use Rattle.geometry.proofs.Signs.{never_refused}
use Rattle.geometry.proofs.segment.root_of.Goals as goal

pub unwrap-requires : goal.unwrap-requires
unwrap-requires c = rw (never_refused _ c.requires c.root.ensures)

pub returns : goal.returns
returns c = let root_is = never_refused _ c.requires c.root.ensures in cc
