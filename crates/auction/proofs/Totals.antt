-- Sums over the offers of a side and over the rows of a table.
use Rattle.std.proofs.Common.{◌≡◌, ℕ, suc, ◌+◌, ◌<◌, ◌≤◌, Bool, true, false, cond, List, [], ◌∷◌, map, length, get_or, drop, ℤ, pos, negsuc, ◌*ℤ◌, neg_ℤ, ◌≤ℤ◌, refl, mul-le-mul, arith}
use borrow.Author.Differences.{ints}
use Rattle.std.specs.List.{AllByRecursion}
use Rattle.std.proofs.lemmas.List.{drop_more, drop_all}
use Rattle.market.specs.declared.block.Block.{Block}
use Rattle.market.specs.declared.zone.Zone.{Zone}
use Rattle.market.specs.Limits.{PriceWithinLimits}
use Rattle.auction.specs.declared.offer.Offer.{Offer}
use Rattle.auction.specs.Books.{total}
use Rattle.auction.specs.Offers.{part, same_zone}
use Rattle.auction.proofs.Sides.{blank}

total_first : (t : Bool) (b : Block) (bs : List Block) → total (cond t (b ∷ bs) bs) ≡ cond t b.matched 0 + total bs
total_first true b bs = refl
total_first false b bs = omega arith

pub total_more : (z : Zone) (os : List Offer) (i : ℕ) → i < length os → total (part z (drop i os)) ≡ cond (same_zone z (get_or os i blank).zone) (get_or os i blank).block.matched 0 + total (part z (drop (i + 1) os))
total_more z os i h = rw (drop_more os i blank h) (total_first (same_zone z (get_or os i blank).zone) (get_or os i blank).block (part z (drop (i + 1) os)))

pub total_all : (z : Zone) (os : List Offer) (i : ℕ) → length os ≤ i → total (part z (drop i os)) ≡ 0
total_all z os i h = rw (drop_all i os h) refl

-- what one block is worth, within the limits
pub worth_bounds : (p : ℤ) (m : ℕ) → PriceWithinLimits p → m ≤ 100000 → (neg_ℤ (pos 30000000000) ≤ℤ (p *ℤ pos m)) × ((p *ℤ pos m) ≤ℤ pos 30000000000)
worth_bounds (pos a) m (l, h) k = let u : a ≤ 300000 = omega (arith, ints, h) in let v = mul-le-mul u k in (omega (arith, ints, v), omega (arith, ints, v))
worth_bounds (negsuc a) m (l, h) k = let u : suc a ≤ 300000 = omega (arith, ints, l) in let v = mul-le-mul u k in (omega (arith, ints, v), omega (arith, ints, v))

pub all_unmap : {X Y : Type 0} (P : Y → Type 0) (f : X → Y) (xs : List X) → AllByRecursion P (map f xs) → AllByRecursion (λ x. P (f x)) xs
all_unmap P f [] h = tt
all_unmap P f (x ∷ xs) (h, hs) = (h, all_unmap P f xs hs)
