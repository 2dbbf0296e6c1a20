-- Before turn `a` the lists of the first `a` lanes are put in.
use Rattle.succession.specs.Packs.{Spread}
use Rattle.succession.proofs.converse.Listing.spill_all.Given as goal

abbrev pub invariant-loop-a : goal.invariant-loop-a
invariant-loop-a l = Spread l.self.lanes.lanes.now l.self.lists.offsets.now l.self.lists.ids.now l.a l.offsets
    l.initial.used l.initial.out l.used l.out
