use Rattle.reversal.proofs.Leaves.{lane_words}
use Rattle.reversal.proofs.lanes.Lane.words.Goals as goal

pub returns : goal.returns
returns c = lane_words _ c.direction_word.ensures c.link_words.ensures c.link_words-2.ensures
