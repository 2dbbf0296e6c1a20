use Rattle.std.proofs.Common.{◌≡◌, ◌≤◌, ◌<◌, refl, sym, ap, ◌∙◌, suc, arith}
use Rattle.words.specs.Chain.{stored}
use Rattle.words.proofs.Chains.{found_le}
use Rattle.words.proofs.Loops.{look_begin, look_none, row_hit, row_on}
use Rattle.words.proofs.chain.Chain.find.Given.{Over}
use Rattle.words.proofs.chain.Chain.find.Goals as goal

-- row r was found not to have the key: the row before it in its bucket lies below it
module _ (g : Over) (c : goal.After-row_in-at-in-Some g) where
  row_inside : c.in-Some.r < c.args.n
  row_inside = rw c.in-Some.is at c.loop-at.invariant.below

  less : stored c.row_in-at-in-Some.result ≤ c.in-Some.r
  less = found_le _ _ (c.row_in-at-in-Some.ensures ∙ c.requires.chained.1.link _ row_inside)

pub loop-at-init : goal.loop-at-init
loop-at-init g c = record {
  below = found_le _ _ (c.row_in-at.ensures ∙ c.requires.chained.1.head _ (omega arith));
  seeking = λ hash p chained key_in decides. look_begin chained key_in refl (omega arith) c.row_in-at.ensures;
}

pub returns-then-test : goal.returns-then-test
returns-then-test g c = λ hash p chained key_in decides.
    let look = rw c.in-Some.is at (c.loop-at.invariant.seeking hash p chained key_in decides) in
    let inside : c.in-Some.r < c.args.n = rw c.in-Some.is at c.loop-at.invariant.below in
    row_hit look (sym (decides _ _ inside c.test.ensures) ∙ c.if-test.true)

pub loop-at-smaller : goal.loop-at-smaller
loop-at-smaller g c =
    let before = less g c in
    let here : stored c.loop-at.at ≡ suc c.in-Some.r = ap stored c.in-Some.is in
    let smaller : stored c.row_in-at-in-Some.result < stored c.loop-at.at = omega arith in
    smaller

pub loop-at-preserved : goal.loop-at-preserved
loop-at-preserved g c = record {
  below = omega (arith, less g c, row_inside g c);
  seeking = λ hash p chained key_in decides.
      let look = rw c.in-Some.is at (c.loop-at.invariant.seeking hash p chained key_in decides) in
      let miss = sym (decides _ _ (row_inside g c) c.test.ensures) ∙ c.if-test.false in
      row_on look c.row_in-at-in-Some.ensures miss;
}

pub returns : goal.returns
returns g c = λ hash p chained key_in decides.
    look_none (c.loop-at.invariant.seeking hash p chained key_in decides) (ap stored c.in_default.is)
