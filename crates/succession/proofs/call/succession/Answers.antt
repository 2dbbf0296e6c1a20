-- The whole call: refused by its checks, or the lanes' own lists finished and written.
use lib.ListN.{length, length-replicate, replicate}
use Rattle.succession.proofs.Packing.{read_back, start_same}
use Rattle.succession.proofs.Ends.{content_is, onward_many, own_few, own_rising}
use Rattle.succession.proofs.Admits.{fewer_lanes, ids_single}
use Rattle.succession.specs.Packs.{Filled, start_of}
use Rattle.succession.specs.Answers.{answer_of, outputs_of, own_list}
use Rattle.tables.proofs.Called.{call_admitted, call_refused, err_is}
use Rattle.tables.specs.Refusals.{number_of}
use Rattle.words.specs.Map.{lanes_read}
use Rattle.model.specs.Calls.{ListOutputs, list_content, list_writing, outcome, succession_call, succession_rules}
use Rattle.model.specs.Calls.{written_or9}
use Rattle.model.specs.Lookup.{list_part}
use Rattle.model.specs.Rules.{first_broken}
use Rattle.model.specs.Tables.{Tables}
use native.Mathlib.Nat.{le_refl}
use native.Mathlib.Omega.{arith}
use mathlib.Core.List.{List}
use mathlib.Core.Option.{none}
use mathlib.Core.Path.{◌≡◌, sym, ap, ◌∙◌}
use Prim.Native.Nat.{ℕ, ◌/◌, ◌≤◌, ◌<◌}
use Rattle.succession.proofs.call.succession.Goals as goal

-- ---- where no rule is broken, the own lists can be read
module _ (t : Tables) (admitted : none ≡ first_broken (succession_rules t)) where
  abbrev rows : ℕ
  rows = length t.lanes / 10

  few_own : start_of (own_list t) rows ≤ 65536
  few_own = own_few t (sym admitted)

  read_own : {offsets own : List ℕ}
      → Filled rows (own_list t) (replicate {A = ℕ} 16385 0) (replicate {A = ℕ} 65536 0) offsets own
      → (l : ℕ) → l < rows → list_part offsets own l ≡ own_list t l
  read_own {offsets} {own} filled =
      read_back _ _ _ _ _ _ filled
      (omega (arith, length-replicate {A = ℕ} 16385 0, fewer_lanes t (sym admitted)))
      (omega (arith, length-replicate {A = ℕ} 65536 0, few_own))

pub returns-in_err-resolve_own-clause-outcome : goal.returns-in_err-resolve_own-clause-outcome
unfolding succession_call
returns-in_err-resolve_own-clause-outcome c =
    let t = lanes_read c.args.map.now c.args.lanes.now in
    let outs = outputs_of c.args.out.now in
    let r = c.in_err-resolve_own.field-0.0 in
    ap (λ q. outcome (answer_of q) outs) (err_is c.from_residual.result r c.from_residual.ensures.1)
    ∙ call_refused list_writing (succession_rules t) (list_content t) outs (number_of r)
    c.in_err-resolve_own.ensures.refusal

pub write_lists-requires-clause-once : goal.write_lists-requires-clause-once
write_lists-requires-clause-once c =
    let t = lanes_read c.args.map.now c.args.lanes.now in
    let admitted = sym c.in_ok-resolve_own.ensures.refusal in
    (fewer_lanes t admitted, ids_single t admitted)

pub write_lists-requires-clause-all_rise : goal.write_lists-requires-clause-all_rise
write_lists-requires-clause-all_rise c =
    let t = lanes_read c.args.map.now c.args.lanes.now in
    let pass = c.in_ok-resolve_own.ensures in
    own_rising t (sym pass.refusal) _ _ (read_own t pass.refusal pass.filled)

pub write_lists-requires-clause-few : goal.write_lists-requires-clause-few
write_lists-requires-clause-few c =
    let t = lanes_read c.args.map.now c.args.lanes.now in
    let pass = c.in_ok-resolve_own.ensures in
    let n = rows t pass.refusal in
    let same = start_same _ (own_list t) n (read_own t pass.refusal pass.filled) n (le_refl n) in
    omega (arith, same, few_own t pass.refusal)

pub write_lists-requires-clause-as_many : goal.write_lists-requires-clause-as_many
write_lists-requires-clause-as_many c =
    let t = lanes_read c.args.map.now c.args.lanes.now in
    let pass = c.in_ok-resolve_own.ensures in
    onward_many t (sym pass.refusal) _ _ (read_own t pass.refusal pass.filled)

pub returns-clause-outcome : goal.returns-clause-outcome
unfolding succession_call
returns-clause-outcome c =
    let t = lanes_read c.args.map.now c.args.lanes.now in
    let pass = c.in_ok-resolve_own.ensures in
    let outs = outputs_of c.args.out.now in
    let content = content_is t (sym pass.refusal) _ _ (read_own t pass.refusal pass.filled) in
    c.write_lists.ensures.outcome
    ∙ ap (λ (lists : ListOutputs). written_or9 list_writing lists outs) content
    ∙ call_admitted list_writing (succession_rules t) (list_content t) outs pass.refusal
