use Rattle.std.proofs.Common.{ℕ, List, ◌≡◌, ◌/◌, ◌≤◌, ◌∙◌, ap, ap₂, length, rules}
use Rattle.model.specs.Records.{Span}
use Rattle.rules.specs.ByRow.{road_row_of}
use Rattle.words.specs.Keys.{bears}
use Rattle.words.specs.Rows.{last_of}
use Rattle.words.proofs.Chains.{found_le}
use Rattle.repair.specs.Now.{road_stored}
use Rattle.repair.proofs.reads.Reads.road_of.Goals as goal

row_is : (n : Span) {text roads a b : List ℕ} {f : ℕ} → a ≡ text → b ≡ roads
    → f ≡ last_of (length b / 20) (bears a 20 0 b n) → f ≡ road_row_of text roads n
unfolding road_row_of
row_is n same rows found = found ∙ ap₂ (λ (a b : List ℕ). last_of (length b / 20) (bears a 20 0 b n)) same rows

row_le : (n : Span) (text roads : List ℕ) {f : ℕ} → f ≡ road_row_of text roads n → f ≤ length roads / 20
unfolding road_row_of
row_le n text roads row = found_le _ _ row

pub returns-in_err-row-clause-value : goal.returns-in_err-row-clause-value
returns-in_err-row-clause-value c =
    let same = c.args.self.now.roads_of in
    ap road_stored c.from_residual.ensures ∙ row_is _ same.0 same.1 c.in_err-row.ensures

pub overflow_cast-result : goal.overflow_cast-result
overflow_cast-result c =
    let same = c.args.self.now.roads_of in
    let inside = row_le _ _ _ (row_is _ same.0 same.1 c.in_ok-row.ensures) in
    let few = c.args.self.now.ready.few_roads in
    search rules

pub returns-clause-value : goal.returns-clause-value
returns-clause-value c = let same = c.args.self.now.roads_of in row_is _ same.0 same.1 c.in_ok-row.ensures

pub returns-clause-upper_bound : goal.returns-clause-upper_bound
returns-clause-upper_bound c =
    let same = c.args.self.now.roads_of in row_le _ _ _ (row_is _ same.0 same.1 c.in_ok-row.ensures)
