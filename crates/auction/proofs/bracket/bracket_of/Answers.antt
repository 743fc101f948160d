use Rattle.std.proofs.Common.{◌≡◌, ℤ, ap, ◌∙◌, w32, SFits, to_z, of_z, rules}
use Rattle.std.specs.Int.{int_max, int_min}
use Rattle.std.proofs.lemmas.Int.{to_z-of_z}
use Rattle.market.specs.Limits.{lowest_price, highest_price}
use Rattle.auction.specs.Bracket.{low_end, high_end, highest, lowest, part_left, part_matched}
use Rattle.auction.proofs.Ends.{highest_folded, lowest_folded}
use Rattle.auction.proofs.bracket.bracket_of.Goals as goal

pub returns : goal.returns
unfolding low_end high_end
returns c =
    let ss = c.args.sales.now in
    let ps = c.args.purchases.now in
    let a : SFits w32 c.folded-left_low.result = search rules in
    let a' : SFits w32 c.folded-low.result = search rules in
    let b : SFits w32 c.folded-left_high.result = search rules in
    let b' : SFits w32 c.folded-high.result = search rules in
    let left-low = c.folded-left_low.ensures int_max (λ x y r f k. search rules) ∙ highest_folded part_left lowest_price ps in
    let low = c.folded-low.ensures int_max (λ x y r f k. search rules) ∙ highest_folded part_matched (to_z w32 (of_z w32 c.folded-left_low.result)) ss in
    let left-high = c.folded-left_high.ensures int_min (λ x y r f k. search rules) ∙ lowest_folded part_left highest_price ss in
    let high = c.folded-high.ensures int_min (λ x y r f k. search rules) ∙ lowest_folded part_matched (to_z w32 (of_z w32 c.folded-left_high.result)) ps in
    let e : to_z w32 (of_z w32 c.folded-low.result) ≡ low_end ss ps = to_z-of_z w32 c.folded-low.result a' ∙ low ∙ ap (λ (z : ℤ). highest part_matched z ss) (to_z-of_z w32 c.folded-left_low.result a ∙ left-low) in
    let e' : to_z w32 (of_z w32 c.folded-high.result) ≡ high_end ss ps = to_z-of_z w32 c.folded-high.result b' ∙ high ∙ ap (λ (z : ℤ). lowest part_matched z ps) (to_z-of_z w32 c.folded-left_high.result b ∙ left-high) in
    search rules
