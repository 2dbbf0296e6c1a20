use Rattle.std.proofs.Common.{refl, arith}
use Rattle.words.proofs.Loops.{all_linked_rows, linked_none, linked_more}
use Rattle.words.proofs.chain.Chain.link_rows.Goals as goal

pub loop-r-init : goal.loop-r-init
loop-r-init g c = linked_none c.requires.empty

pub find-before-requires-clause-chained : goal.find-before-requires-clause-chained
find-before-requires-clause-chained g c = (c.loop-r.invariant.hash, c.loop-r.invariant.chains)

pub loop-r-preserved : goal.loop-r-preserved
loop-r-preserved g c =
    rw (c.link.ensures, c.is_some-twice.ensures)
    (linked_more c.loop-r.invariant c.find-before.result c.loop-r-test.true c.requires.few c.bucket-b.ensures
    (c.requires.bounded _ _ c.loop-r-test.true c.bucket-b.ensures) c.find-before.ensures refl refl refl)

pub returns : goal.returns
returns g c = λ hash same put likens key_in. all_linked_rows c.loop-r.invariant (omega arith) put likens key_in
