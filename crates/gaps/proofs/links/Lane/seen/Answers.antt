use Rattle.gaps.specs.Links.{seen_at}
use Rattle.gaps.proofs.RowLaws.{link_seen}
use Rattle.gaps.proofs.links.Lane.seen.Goals as goal

pub returns : goal.returns
unfolding seen_at
returns c =
    link_seen c.link_gap.ensures c.way.ensures.ends c.way.ensures.direction c.way-2.ensures.ends
    c.way-2.ensures.direction
