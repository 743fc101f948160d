-- Worked results. To believe: that each is what the market's rules give (docs/WORKED.md). A block is given as its unit, price and volume.
use Rattle.std.specs.Prelude.{◌≡◌, ℕ, List, [], ◌∷◌, map, ℤ, pos, negsuc}
use Rattle.market.specs.declared.block.Block.{Block}
use Rattle.auction.specs.Books.{Book, surplus}
use Rattle.rules.specs.Prices.{low_end, midpoint}
use Rattle.rules.specs.Shares.{by_precedence, in_proportion}
use Rattle.auction.specs.Clearing.{Outcome, clearing}

abbrev pub block : ℕ → ℤ → ℕ → Block
block u p v = record { bid = record { agent = 1; unit = u; number = 1; stamp = 0; price = p; volume = v }; matched = 0 }

abbrev pub book : List Block → List Block → Book
book ss ps = record { sales = ss; purchases = ps }

-- the volumes matched of zone 1's sales and purchases and of zone 2's, the two prices, the flow and the surplus
pub record Results : Type 0 where
  pub sales₁ : List ℕ
  pub purchases₁ : List ℕ
  pub sales₂ : List ℕ
  pub purchases₂ : List ℕ
  pub in_zone₁ : ℤ
  pub in_zone₂ : ℤ
  pub carried : ℤ
  pub gained : ℤ

abbrev pub results : List ℕ → List ℕ → List ℕ → List ℕ → ℤ → ℤ → ℤ → ℤ → Results
results a b c d p q f s = record { sales₁ = a; purchases₁ = b; sales₂ = c; purchases₂ = d; in_zone₁ = p; in_zone₂ = q; carried = f; gained = s }

abbrev pub volumes : List Block → List ℕ
volumes bs = map (λ b. b.matched) bs

abbrev pub shown : Outcome → Results
shown o =
    results (volumes o.schedule.zone₁.sales) (volumes o.schedule.zone₁.purchases) (volumes o.schedule.zone₂.sales) (volumes o.schedule.zone₂.purchases)
    o.price₁ o.price₂ o.flow_out (surplus o.schedule)

-- a rule that shows the other end of the bracket
abbrev pub high_price : ℤ → ℤ → ℤ
high_price low high = high

-- each case by name
pub record WorkedResults : Type 0 where
  -- no block: the bracket is the whole range of prices
  pub empty_market : shown (clearing by_precedence low_end 0 0 (book [] []) (book [] []))
      ≡ results [] [] [] [] (negsuc 49999) (negsuc 49999) (pos 0) (pos 0)
  -- and its high end
  pub empty_market_high_end : shown (clearing by_precedence high_price 0 0 (book [] []) (book [] []))
      ≡ results [] [] [] [] (pos 300000) (pos 300000) (pos 0) (pos 0)
  -- a sale and a purchase at one price
  pub meeting_price : shown (clearing by_precedence low_end 0 0 (book (block 1 (pos 3000) 10 ∷ []) (block 1 (pos 3000) 10 ∷ [])) (book [] []))
      ≡ results (10 ∷ []) (10 ∷ []) [] [] (pos 3000) (pos 3000) (pos 0) (pos 0)
  -- a sale one cent above the purchase: nothing is matched, and the bracket lies between
  pub one_cent_apart : shown (clearing by_precedence low_end 0 0 (book (block 1 (pos 3001) 10 ∷ []) (block 1 (pos 3000) 10 ∷ [])) (book [] []))
      ≡ results (0 ∷ []) (0 ∷ []) [] [] (pos 3000) (pos 3000) (pos 0) (pos 0)
  -- and its high end
  pub one_cent_apart_high_end : shown (clearing by_precedence high_price 0 0 (book (block 1 (pos 3001) 10 ∷ []) (block 1 (pos 3000) 10 ∷ [])) (book [] []))
      ≡ results (0 ∷ []) (0 ∷ []) [] [] (pos 3001) (pos 3001) (pos 0) (pos 0)
  -- the line carries the flow of the two zones as one
  pub uncongested : shown (clearing by_precedence low_end 100 0 (book (block 1 (pos 2000) 100 ∷ block 2 (pos 4000) 80 ∷ []) (block 1 (pos 6000) 60 ∷ [])) (book (block 1 (pos 5000) 50 ∷ []) (block 1 (pos 7000) 100 ∷ [])))
      ≡ results (100 ∷ 60 ∷ []) (60 ∷ []) (0 ∷ []) (100 ∷ []) (pos 4000) (pos 4000) (pos 100) (pos 620000)
  -- one tenth less on the line, and the zones split
  pub one_tenth_short : shown (clearing by_precedence low_end 99 0 (book (block 1 (pos 2000) 100 ∷ block 2 (pos 4000) 80 ∷ []) (block 1 (pos 6000) 60 ∷ [])) (book (block 1 (pos 5000) 50 ∷ []) (block 1 (pos 7000) 100 ∷ [])))
      ≡ results (100 ∷ 59 ∷ []) (60 ∷ []) (1 ∷ []) (100 ∷ []) (pos 4000) (pos 5000) (pos 99) (pos 619000)
  -- a narrow line
  pub congested : shown (clearing by_precedence low_end 30 0 (book (block 1 (pos 2000) 100 ∷ block 2 (pos 4000) 80 ∷ []) (block 1 (pos 6000) 60 ∷ [])) (book (block 1 (pos 5000) 50 ∷ []) (block 1 (pos 7000) 100 ∷ [])))
      ≡ results (90 ∷ 0 ∷ []) (60 ∷ []) (50 ∷ []) (80 ∷ []) (pos 2000) (pos 7000) (pos 30) (pos 490000)
  -- three tied sales share 50 in proportion
  pub shared_tie : shown (clearing in_proportion low_end 0 0 (book (block 1 (pos 10) 30 ∷ block 2 (pos 10) 30 ∷ block 3 (pos 10) 40 ∷ []) (block 1 (pos 20) 50 ∷ [])) (book [] []))
      ≡ results (15 ∷ 15 ∷ 20 ∷ []) (50 ∷ []) [] [] (pos 10) (pos 10) (pos 0) (pos 500)
  -- and by precedence
  pub tie_in_precedence : shown (clearing by_precedence low_end 0 0 (book (block 1 (pos 10) 30 ∷ block 2 (pos 10) 30 ∷ block 3 (pos 10) 40 ∷ []) (block 1 (pos 20) 50 ∷ [])) (book [] []))
      ≡ results (30 ∷ 20 ∷ 0 ∷ []) (50 ∷ []) [] [] (pos 10) (pos 10) (pos 0) (pos 500)
  -- three tied sales of one tenth share two in proportion
  pub tie_with_remainder : shown (clearing in_proportion low_end 0 0 (book (block 1 (pos 10) 1 ∷ block 2 (pos 10) 1 ∷ block 3 (pos 10) 1 ∷ []) (block 1 (pos 20) 2 ∷ [])) (book [] []))
      ≡ results (0 ∷ 1 ∷ 1 ∷ []) (2 ∷ []) [] [] (pos 10) (pos 10) (pos 0) (pos 20)
  -- a tie right behind the tenths that the line takes out
  pub tie_behind_tenths : shown (clearing in_proportion low_end 2 0 (book (block 1 (pos 10) 4 ∷ block 2 (pos 90) 9 ∷ []) (block 1 (pos 50) 3 ∷ block 2 (pos 50) 3 ∷ [])) (book [] (block 1 (pos 100) 5 ∷ [])))
      ≡ results (4 ∷ 0 ∷ []) (1 ∷ 1 ∷ []) [] (2 ∷ []) (pos 50) (pos 100) (pos 2) (pos 260)
  -- purchases at 300,000 beside the tenths that the line takes out: they are in no tie
  pub purchase_at_limit : shown (clearing in_proportion low_end 2 0 (book (block 1 (pos 10) 2 ∷ block 2 (pos 300000) 9 ∷ []) (block 1 (pos 300000) 3 ∷ [])) (book [] (block 1 (pos 300000) 1 ∷ block 2 (pos 300000) 9 ∷ [])))
      ≡ results (2 ∷ 3 ∷ []) (3 ∷ []) [] (0 ∷ 2 ∷ []) (pos 300000) (pos 300000) (pos 2) (pos 599980)
  -- sales at −50,000 beside the tenths that the line brings in
  pub sale_at_limit : shown (clearing in_proportion low_end 0 2 (book (block 1 (negsuc 49999) 5 ∷ block 2 (pos 80) 3 ∷ []) (block 1 (pos 100) 9 ∷ [])) (book (block 1 (negsuc 49999) 9 ∷ []) (block 1 (pos 50) 1 ∷ [])))
      ≡ results (5 ∷ 2 ∷ []) (9 ∷ []) (3 ∷ []) (1 ∷ []) (pos 80) (negsuc 49999) (negsuc 1) (pos 400790)
  -- a tie of both zones
  pub tie_across_zones : shown (clearing in_proportion low_end 9 9 (book (block 1 (pos 10) 3 ∷ []) (block 1 (pos 20) 1 ∷ [])) (book (block 1 (pos 10) 3 ∷ []) (block 1 (pos 20) 3 ∷ [])))
      ≡ results (2 ∷ []) (1 ∷ []) (2 ∷ []) (3 ∷ []) (pos 10) (pos 10) (pos 1) (pos 40)
  -- where all agree zone 1 comes first
  pub tie_across_zones_in_precedence : shown (clearing by_precedence low_end 9 9 (book (block 1 (pos 10) 3 ∷ []) (block 1 (pos 20) 1 ∷ [])) (book (block 1 (pos 10) 3 ∷ []) (block 1 (pos 20) 3 ∷ [])))
      ≡ results (3 ∷ []) (1 ∷ []) (1 ∷ []) (3 ∷ []) (pos 10) (pos 10) (pos 2) (pos 40)
  -- no capacity either way
  pub no_line : shown (clearing by_precedence low_end 0 0 (book (block 1 (pos 10) 3 ∷ []) (block 1 (pos 20) 1 ∷ [])) (book (block 1 (pos 5) 3 ∷ []) (block 1 (pos 40) 4 ∷ [])))
      ≡ results (1 ∷ []) (1 ∷ []) (3 ∷ []) (3 ∷ []) (pos 10) (pos 40) (pos 0) (pos 115)
  -- zone 1 sells and zone 2 buys
  pub one_side_empty : shown (clearing by_precedence low_end 1 0 (book (block 1 (pos 10) 3 ∷ []) []) (book [] (block 1 (pos 40) 2 ∷ [])))
      ≡ results (1 ∷ []) [] [] (1 ∷ []) (pos 10) (pos 40) (pos 1) (pos 30)
  -- from zone 2 to zone 1
  pub flow_back : shown (clearing by_precedence low_end 0 2 (book (block 1 (pos 90) 5 ∷ []) (block 1 (pos 100) 6 ∷ [])) (book (block 1 (pos 10) 4 ∷ block 2 (pos 95) 2 ∷ []) (block 1 (pos 50) 1 ∷ [])))
      ≡ results (4 ∷ []) (6 ∷ []) (3 ∷ 0 ∷ []) (1 ∷ []) (pos 90) (pos 10) (negsuc 1) (pos 260)
  -- nothing is matched, and the bracket is open
  pub apart_in_both_zones : shown (clearing by_precedence midpoint 5 5 (book (block 1 (pos 30) 3 ∷ []) (block 1 (pos 20) 1 ∷ [])) (book (block 1 (pos 25) 3 ∷ []) (block 1 (pos 10) 4 ∷ [])))
      ≡ results (0 ∷ []) (0 ∷ []) (0 ∷ []) (0 ∷ []) (pos 22) (pos 22) (pos 0) (pos 0)
