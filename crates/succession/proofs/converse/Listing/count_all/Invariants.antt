-- Before turn `a` the lists of the first `a` lanes are counted.
use Rattle.succession.specs.Packs.{Counted, listed_by}
use lib.ListN.{length}
use Prim.Native.Nat.{◌/◌}
use Rattle.succession.proofs.converse.Listing.count_all.Given as goal

abbrev pub invariant-loop-a : goal.invariant-loop-a
invariant-loop-a l = Counted (length l.self.lanes.lanes.now / 10)
    (listed_by l.self.lanes.lanes.now l.self.lists.offsets.now l.self.lists.ids.now l.a) l.initial.counts l.counts
