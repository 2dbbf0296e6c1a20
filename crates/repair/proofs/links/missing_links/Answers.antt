use Rattle.std.proofs.Common.{◌+◌, ◌≡◌, arith}
use Rattle.model.specs.Tables.{Tables}
use Rattle.words.specs.Map.{map_read}
use Rattle.words.specs.Rows.{tab}
use Rattle.repair.specs.Now.{row_connection}
use Rattle.repair.specs.Ready.{Small}
use Rattle.repair.proofs.MissingLinks.{linked_more, linked_start}
use Rattle.repair.proofs.links.missing_links.Goals as goal

pub loop-i-init : goal.loop-i-init
unfolding tab
loop-i-init c = record { at_most = omega arith; linked = linked_start _ _ _ _ }

pub missing_link-requires : goal.missing_link-requires
missing_link-requires c =
    let j = c.args.junction.now in
    let small : Small _ _ = j.reads.ready.small in
    let held = c.loop-i.invariant in
    (omega (arith, j.within), omega (arith, held.at_most, j.within, small.few))

pub loop-i-preserved : goal.loop-i-preserved
loop-i-preserved c =
    let j = c.args.junction.now in
    let t : Tables = map_read j.reads.map in
    let held = c.loop-i.invariant in
    let linked = c.missing_link.ensures in
    record {
      at_most = omega (arith, linked.at_most, held.at_most);
      linked = linked_more t j.row (λ i. row_connection t (j.first + i)) c.loop-i.i held.linked linked.linked;
    }

pub returns : goal.returns
returns c =
    let held = c.loop-i.invariant in
    let past : c.loop-i.i ≡ c.args.junction.now.count = omega arith in
    record { at_most = omega (arith, held.at_most); linked = rw past at held.linked }
