-- One side of the market: its blocks in the order in which they are matched. To believe: that sales go by rising
-- price and purchases by falling price, then as the market has it at one price, and that where zones are merged the block that comes first is taken first, zone 1's where neither does.
use Rattle.std.specs.Prelude.{ℕ, Bool, true, false, cond, List, [], ◌∷◌, map, ℤ, neg_ℤ, ◌≤ℤ◌}
use Rattle.std.specs.List.{AllByRecursion}
use Rattle.market.specs.Precedence.{lex, at_one_price}
use Rattle.market.specs.declared.block.Block.{Block}
use Rattle.market.specs.declared.zone.Side.{Side}
use Rattle.market.specs.declared.zone.Side.TheVariants.{Sale, Purchase}
use Rattle.market.specs.declared.zone.Zone.{Zone}
use Rattle.market.specs.declared.zone.Zone.TheVariants.{One, Two}
use Rattle.auction.specs.declared.offer.Offer.{Offer}

abbrev pub price_of : Offer → ℤ
price_of o = o.block.bid.price

abbrev pub volume_of : Offer → ℕ
volume_of o = o.block.bid.volume

abbrev pub matched_of : Offer → ℕ
matched_of o = o.block.matched

-- Sales go by their price, the lowest first, and purchases by its negative: the lower the rank, the earlier
abbrev pub of_sales : ℤ → ℤ
of_sales p = p

abbrev pub of_purchases : ℤ → ℤ
of_purchases p = neg_ℤ p

abbrev pub rank_of : Side → ℤ → ℤ
rank_of Sale = of_sales
rank_of Purchase = of_purchases

-- the ranks of the offers never fall
abbrev pub Sorted : (ℤ → ℤ) → List Offer → Type 0
Sorted rank [] = Unit {0}
Sorted rank (o ∷ os) = AllByRecursion (λ x. rank (price_of o) ≤ℤ rank (price_of x)) os × Sorted rank os

-- whether b stands before c: by the rank of the price and then as at one price
unfoldable pub comes_first : (ℤ → ℤ) → Block → Block → Bool
comes_first rank b c = lex (rank b.bid.price ∷ at_one_price b.bid) (rank c.bid.price ∷ at_one_price c.bid)

abbrev pub in_zone : Zone → Block → Offer
in_zone z b = record { zone = z; block = b }

-- the blocks of one zone
abbrev pub alone : Zone → List Block → List Offer
alone z bs = map (in_zone z) bs

module _ (rank : ℤ → ℤ) where
  -- zone 1's block b and then the rest, each behind those of zone 2 that come first
  abbrev pub weave : Block → (List Block → List Offer) → List Block → List Offer
  weave b rest [] = in_zone One b ∷ rest []
  weave b rest (c ∷ cs) = cond (comes_first rank c b) (in_zone Two c ∷ weave b rest cs) (in_zone One b ∷ rest (c ∷ cs))

  -- the blocks of zone 1 and of zone 2, merged
  abbrev pub merged : List Block → List Block → List Offer
  merged [] cs = alone Two cs
  merged (b ∷ bs) cs = weave b (merged bs) cs

-- whether the next of two lists that are merged is the second one's
abbrev pub second_first : (ℤ → ℤ) → List Block → List Block → Bool
second_first rank [] cs = true
second_first rank (b ∷ bs) [] = false
second_first rank (b ∷ bs) (c ∷ cs) = comes_first rank c b

abbrev pub same_zone : Zone → Zone → Bool
same_zone One One = true
same_zone One Two = false
same_zone Two One = false
same_zone Two Two = true

-- the blocks of zone z
abbrev pub part : Zone → List Offer → List Block
part z [] = []
part z (o ∷ os) = cond (same_zone z o.zone) (o.block ∷ part z os) (part z os)
