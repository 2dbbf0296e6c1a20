use lib.Dec.{ltb}
use Rattle.std.proofs.Common.{rules}
use Rattle.std.proofs.lemmas.List.Sorted.{IsNonDecreasingBy-from_default, IsPartitionedBy-ltb}
use Rattle.std.proofs.lemmas.List.Sorted.{IsPartitionPoint-from_clause}
use Rattle.succession.proofs.RunLaws.{place_at}
use Rattle.succession.proofs.list.below.Goals as goal

pub returns : goal.returns
returns c =
    let xs = c.args.xs.now in
    let rises = IsNonDecreasingBy-from_default (λ y. y) xs 0 c.requires in
    place_at _ _ _ c.partition_point.ensures.bound
    (IsPartitionPoint-from_clause (λ y. ltb y c.args.x) xs _ c.partition_point.ensures.partitioned
    (IsPartitionedBy-ltb (λ y. y) xs c.args.x rises) (λ a r f' k. search rules))
