-- The bracket: the prices that the matched volumes leave open. To believe: its low end and its high end.
use Rattle.std.specs.Prelude.{Bool, cond, List, [], ◌∷◌, ℤ, nat_lt}
use Rattle.std.specs.Int.{int_max, int_min}
use Rattle.market.specs.Limits.{lowest_price, highest_price}
use Rattle.auction.specs.declared.bracket.Part.{Part}
use Rattle.auction.specs.declared.bracket.Part.TheVariants.{Matched, Left}
use Rattle.auction.specs.declared.offer.Offer.{Offer}
use Rattle.auction.specs.Offers.{price_of, volume_of, matched_of}

-- something of it is matched; it is not wholly matched
abbrev pub part_matched : Offer → Bool
part_matched o = nat_lt 0 (matched_of o)

abbrev pub part_left : Offer → Bool
part_left o = nat_lt (matched_of o) (volume_of o)

abbrev pub passes : Part → Offer → Bool
passes Matched = part_matched
passes Left = part_left

-- the highest and the lowest of z and the prices of the offers that pass the test
abbrev pub highest : (Offer → Bool) → ℤ → List Offer → ℤ
highest test z [] = z
highest test z (o ∷ os) = cond (test o) (int_max (price_of o) (highest test z os)) (highest test z os)

abbrev pub lowest : (Offer → Bool) → ℤ → List Offer → ℤ
lowest test z [] = z
lowest test z (o ∷ os) = cond (test o) (int_min (price_of o) (lowest test z os)) (lowest test z os)

-- the largest of −50,000, the prices of sales with anything matched and those of purchases not wholly matched
unfoldable pub low_end : List Offer → List Offer → ℤ
low_end sales purchases = highest part_matched (highest part_left lowest_price purchases) sales

-- the smallest of 300,000, the prices of purchases with anything matched and those of sales not wholly matched
unfoldable pub high_end : List Offer → List Offer → ℤ
high_end sales purchases = lowest part_matched (lowest part_left highest_price sales) purchases
