-- A pool of one zone's blocks stays one.
use Rattle.std.proofs.Common.{◌≡◌, ℕ}
use Rattle.std.specs.List.{AllByRecursion}
use Rattle.market.specs.declared.zone.Zone.{Zone}
use Rattle.auction.specs.Offers.{of_sales, of_purchases, part}
use Rattle.auction.specs.Books.{total}
use Rattle.market.specs.Limits.{lowest_price, highest_price}
use Rattle.auction.specs.Clearing.{Pool, matched_amount, cleared}
use Rattle.auction.proofs.Matching.{sum_of, match_all}
use Rattle.auction.proofs.Merging.{sum_own}

pub zones_kept : (g : ℕ → ℕ → ℕ → ℕ) (z : Zone) (x : Pool) → AllByRecursion (λ o. o.zone ≡ z) x.sales → AllByRecursion (λ o. o.zone ≡ z) x.purchases →
    (total (part z (cleared g x).sales) ≡ sum_of (cleared g x).sales) × (total (part z (cleared g x).purchases) ≡ sum_of (cleared g x).purchases)
unfolding cleared
zones_kept g z x h k = (
  sum_own z (cleared g x).sales (match_all g of_sales (λ w _. w ≡ z) x.brought lowest_price (matched_amount x) x.sales h),
  sum_own z (cleared g x).purchases (match_all g of_purchases (λ w _. w ≡ z) x.taken highest_price (matched_amount x) x.purchases k),
)
