use Rattle.std.proofs.Common.{◌≡◌, ◌∙◌, [], ◌∷◌, ℤ, ap, arith, rules, w32, to_z, of_z}
use Rattle.std.proofs.lemmas.Int.{ints, to_z-of_z}
use Rattle.settlement.specs.Entries.{side_entries, trade_of}
use Rattle.settlement.specs.Postings.{total}
use Rattle.settlement.proofs.Rows.{total_rows}
use Rattle.settlement.proofs.sides.total_cents.Goals as goal

pub returns-clause-value : goal.returns-clause-value
returns-clause-value g c =
    let t = trade_of g.B.BlockRow.held g.B.BlockRow.traded in
    let at : ℤ → g.row.B.Denot → ℤ = λ p row. total (λ e. e.cents) (side_entries t p (row ∷ [])) in
    let row : g.row.B.Denot → ℤ = at (to_z w32 (of_z w32 c.args.price)) in
    let sum = c.summed.ensures.value row (λ x r s. let said : r ≡ row s.shown.now = search rules in said ∙ ap row s.shows) in
    let same = ap (λ p. total (at p) c.args.blocks.now) (to_z-of_z w32 c.args.price c.ranges.price) in
    omega (arith, ints, sum, same, total_rows t c.args.price (λ e. e.cents) c.args.blocks.now)
