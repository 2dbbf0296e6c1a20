-- Before turn `k` the runs have the identity as often as the list's first `k` identities say.
use Rattle.succession.specs.Packs.{Spilled, times_in}
use lib.ListN.{length, take}
use Prim.Native.Nat.{◌/◌}
use Rattle.succession.proofs.converse.Listing.spill_list.Given as goal

abbrev pub invariant-loop-id : goal.invariant-loop-id
invariant-loop-id l =
    Spilled (length l.self.lanes.lanes.now / 10) (times_in l.self.lanes.lanes.now (take l.id-index l.id-items)) l.mine.0
    l.offsets l.initial.used l.initial.out l.used l.out
