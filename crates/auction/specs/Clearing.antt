-- Clearing one period. To believe: what is cleared together and what alone, where the K tenths of a split stand, and the prices.
use Rattle.std.specs.Prelude.{ℕ, ◌≤◌, cond, List, ℤ, pos, neg_ℤ, int_le}
use Rattle.market.specs.declared.zone.Zone.{Zone}
use Rattle.market.specs.declared.zone.Zone.TheVariants.{One, Two}
use Rattle.auction.specs.declared.line.Line.{Line}
use Rattle.auction.specs.declared.line.Line.TheVariants.{Enough, There, Back}
use Rattle.auction.specs.declared.offer.Offer.{Offer}
use Rattle.auction.specs.Offers.{of_sales, of_purchases, alone, merged, part}
use Rattle.auction.specs.Curve.{behind, amount, match_side}
use Rattle.auction.specs.Books.{Book, Schedule, exported}
use Rattle.market.specs.Limits.{lowest_price, highest_price}
use Rattle.auction.specs.Bracket.{low_end, high_end}

-- What is cleared as one: sales and purchases in precedence, the sale tenths at −50,000 that the line brings in, and the purchase tenths
-- at 300,000 that it takes out, all of them ahead of every block
pub record Pool : Type 0 where
  pub sales : List Offer
  pub purchases : List Offer
  pub brought : ℕ
  pub taken : ℕ

-- the two curves, and where they meet
abbrev pub supply : Pool → List ℤ
supply x = behind x.brought lowest_price x.sales

abbrev pub demand : Pool → List ℤ
demand x = behind x.taken highest_price x.purchases

abbrev pub matched_amount : Pool → ℕ
matched_amount x = amount (supply x) (demand x)

-- the tenths of the line are among those matched
pub record Room (x : Pool) : Type 0 where
  pub brings : x.brought ≤ matched_amount x
  pub takes : x.taken ≤ matched_amount x

-- the two zones as one
abbrev pub together : Book → Book → Pool
together b₁ b₂ = record { sales = merged of_sales b₁.sales b₂.sales; purchases = merged of_purchases b₁.purchases b₂.purchases; brought = 0; taken = 0 }

-- a zone alone, into which the line brings n tenths and from which it takes m
abbrev pub zone_pool : Zone → Book → ℕ → ℕ → Pool
zone_pool z b n m = record { sales = alone z b.sales; purchases = alone z b.purchases; brought = n; taken = m }

-- a zone that exports k tenths, and one that imports them
abbrev pub exporting : Zone → ℕ → Book → Pool
exporting z k b = zone_pool z b 0 k

abbrev pub importing : Zone → ℕ → Book → Pool
importing z k b = zone_pool z b k 0

-- the blocks of a zone, with what is matched of each
abbrev pub book_of : Zone → Pool → Book
book_of z x = record { sales = part z x.sales; purchases = part z x.purchases }

-- how the line stands to a flow
unfoldable pub line : ℕ → ℕ → ℤ → Line
line cap₁₂ cap₂₁ f = cond (int_le f (pos cap₁₂)) (cond (int_le (neg_ℤ f) (pos cap₂₁)) Enough Back) There

-- what a clearing gives
pub record Outcome : Type 0 where
  pub schedule : Schedule
  pub flow_out : ℤ
  pub price₁ : ℤ
  pub price₂ : ℤ

-- each block with its part of the matched amount
unfoldable pub cleared : (ℕ → ℕ → ℕ → ℕ) → Pool → Pool
cleared g x =
    let q : ℕ = matched_amount x in
    record {
      sales = match_side g of_sales x.brought lowest_price q x.sales;
      purchases = match_side g of_purchases x.taken highest_price q x.purchases;
      brought = x.brought;
      taken = x.taken;
    }

-- the price rule's answer to the bracket
abbrev pub price_in : (ℤ → ℤ → ℤ) → Pool → ℤ
price_in f x = f (low_end x.sales x.purchases) (high_end x.sales x.purchases)

-- both zones at one price
abbrev pub common : (ℤ → ℤ → ℤ) → Pool → Outcome
common f x = record {
  schedule = record { zone₁ = book_of One x; zone₂ = book_of Two x };
  flow_out = exported (book_of One x);
  price₁ = price_in f x;
  price₂ = price_in f x;
}

-- each zone at its own
abbrev pub split : (ℤ → ℤ → ℤ) → ℤ → Pool → Pool → Outcome
split f k x₁ x₂ = record {
  schedule = record { zone₁ = book_of One x₁; zone₂ = book_of Two x₂ };
  flow_out = k;
  price₁ = price_in f x₁;
  price₂ = price_in f x₂;
}

module _ (g : ℕ → ℕ → ℕ → ℕ) (f : ℤ → ℤ → ℤ) where
  abbrev pub by_line : ℕ → ℕ → Book → Book → Line → Outcome
  by_line cap₁₂ cap₂₁ b₁ b₂ Enough = common f (cleared g (together b₁ b₂))
  by_line cap₁₂ cap₂₁ b₁ b₂ There = split f (pos cap₁₂) (cleared g (exporting One cap₁₂ b₁)) (cleared g (importing Two cap₁₂ b₂))
  by_line cap₁₂ cap₂₁ b₁ b₂ Back = split f (neg_ℤ (pos cap₂₁)) (cleared g (importing One cap₂₁ b₁)) (cleared g (exporting Two cap₂₁ b₂))

  -- the zones as one if the line carries the flow; otherwise it is full, and each zone is cleared alone
  abbrev pub clearing : ℕ → ℕ → Book → Book → Outcome
  clearing cap₁₂ cap₂₁ b₁ b₂ = by_line cap₁₂ cap₂₁ b₁ b₂ (line cap₁₂ cap₂₁ (exported (book_of One (cleared g (together b₁ b₂)))))
