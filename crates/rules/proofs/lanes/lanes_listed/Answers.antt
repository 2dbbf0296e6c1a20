use Rattle.std.proofs.Common.{◌≡◌, ◌/◌, arith, length}
use Rattle.words.specs.Chain.{stored}
use Rattle.rules.proofs.Forms.{listing_more, listing_none}
use Rattle.rules.proofs.lanes.lanes_listed.Goals as goal

pub loop-i-init : goal.loop-i-init
loop-i-init c = listing_none c.told-owner

pub loop-i-preserved : goal.loop-i-preserved
loop-i-preserved c =
    listing_more (stored c.lane_road-road.result) c.loop-i.invariant (omega (arith, c.requires.few)) c.requires.once
    c.lane_road-road.ensures c.word_of.ensures (rw c.requires.same at c.lists-every.ensures)

pub returns : goal.returns
returns c =
    let end : c.loop-i.i ≡ length c.args.lanes.now / 10 = omega arith in
    record { value = rw end at c.loop-i.invariant.listed; owned = rw end at c.loop-i.invariant.owned }
