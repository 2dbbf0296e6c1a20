-- Before turn `k` the list's first `k` identities are counted.
use Rattle.succession.specs.Packs.{Counted, times_in}
use lib.ListN.{length, take}
use Prim.Native.Nat.{◌/◌}
use Rattle.succession.proofs.converse.Listing.count_list.Given as goal

abbrev pub invariant-loop-id : goal.invariant-loop-id
invariant-loop-id l = Counted (length l.self.lanes.lanes.now / 10)
    (times_in l.self.lanes.lanes.now (take l.id-index l.id-items)) l.initial.counts l.counts
