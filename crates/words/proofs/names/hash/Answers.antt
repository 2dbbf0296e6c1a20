use Rattle.std.proofs.Common.{◌<◌, ◌%◌, ◌*◌, ◌+◌, ◌∙◌, rules, arith}
use Rattle.std.proofs.lemmas.Fn.{serves_by}
use Rattle.std.proofs.lemmas.Iterator.{YieldsList-from_slice}
use Rattle.std.proofs.lemmas.Iterator.Consumers.{fold_from_yields_List}
use Rattle.words.proofs.KeyLaws.{hash_fold, hash_small}
use Rattle.words.proofs.names.hash.Goals as goal

-- what a call takes and gives lies below the number of buckets
pub fold-requires-clause-callable : goal.fold-requires-clause-callable
fold-requires-clause-callable c =
    serves_by _ (λ xs q. q.1 < 16384) (λ xs q x v before step. search rules) _ _ _ _ (omega arith)
    (λ xs t q x u yields step below. search rules)

pub returns : goal.returns
returns c =
    let bytes = c.args.bytes.now in
    let is = fold_from_yields_List _ (λ h b. (h * 31 + b) % 16384) 7 _ c.fold.ensures.ran
    (YieldsList-from_slice bytes (search rules)) (λ a x b q step. search rules) ∙ hash_fold 7 bytes in
    (is, rw is (hash_small 7 bytes (omega arith)))
