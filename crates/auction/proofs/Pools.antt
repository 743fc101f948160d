-- What is cleared as one: how much of it, and which prices support it.
use Rattle.std.proofs.Common.{◌≡◌, ℕ, zero, suc, ◌-◌, ◌≤◌, List, [], ◌∷◌, length, ℤ, ◌≤ℤ◌, arith}
use borrow.Author.Differences.{ints}
use Rattle.std.proofs.ByRecursion.{All-weaker}
use Rattle.market.specs.declared.block.Block.{Block}
use Rattle.market.specs.declared.zone.Zone.{Zone}
use Rattle.auction.specs.Offers.{price_of, of_sales, of_purchases, Sorted, alone, merged, part}
use Rattle.auction.specs.Curve.{curve, Amount, Meet, match_side}
use Rattle.auction.specs.Books.{Book, BookSame, BookWithin, SameBids, Within, Supports, SaleFair, PurchaseFair, total}
use Rattle.market.specs.Limits.{lowest_price, highest_price}
use Rattle.auction.specs.Bracket.{low_end, high_end}
use Rattle.rules.specs.Shares.{Shares}
use Rattle.auction.specs.Clearing.{Pool, Room, supply, demand, matched_amount, together, exporting, importing, book_of, cleared}
use Rattle.auction.specs.Best.{InLimits, BookSound}
use Rattle.auction.proofs.Duality.{same_none, same_some, same_first, same_rest}
use Rattle.auction.proofs.Found.{amount_found}
use Rattle.auction.proofs.Matching.{Matched, side_matched, match_bids}
use Rattle.auction.proofs.Merging.{all_alone, sorted_alone, all_merged, sorted_merged, all_part}
use Rattle.auction.proofs.Sides.{tenths, bid_cons, here}
use Rattle.auction.proofs.Supporting.{Limited, ranged, bracket_supports, in_bracket, between, between_supports, amount_bounds}

-- the sides of a pool are in order and within the limits
pub record PoolSound (x : Pool) : Type 0 where
  pub rises : Sorted of_sales x.sales
  pub falls : Sorted of_purchases x.purchases
  pub sold_in : Limited x.sales
  pub bought_in : Limited x.purchases

-- and so they are behind the tenths of the line
behind_brought : (x : Pool) → PoolSound x → Sorted of_sales (tenths x.brought lowest_price ∷ x.sales)
behind_brought x h = (All-weaker (λ o. (lowest_price ≤ℤ price_of o) × (price_of o ≤ℤ highest_price)) (λ o. of_sales lowest_price ≤ℤ of_sales (price_of o)) (λ o k. k.0) x.sales h.sold_in, h.rises)

behind_taken : (x : Pool) → PoolSound x → Sorted of_purchases (tenths x.taken highest_price ∷ x.purchases)
behind_taken x h = (All-weaker (λ o. (lowest_price ≤ℤ price_of o) × (price_of o ≤ℤ highest_price)) (λ o. of_purchases highest_price ≤ℤ of_purchases (price_of o)) (λ o k. omega (arith, ints, k.1)) x.purchases h.bought_in, h.falls)

limits : (lowest_price ≤ℤ highest_price)
limits = omega (arith, ints)

-- what is matched of a pool: the matched amount on each side, the tenths of the line among it, at the prices of the bracket
pub record PoolCleared (x y : Pool) : Type 0 where
  pub sold : Matched x.brought (matched_amount x) y.sales
  pub bought : Matched x.taken (matched_amount x) y.purchases
  pub open_bracket : low_end y.sales y.purchases ≤ℤ high_end y.sales y.purchases

joins : (a b p : ℤ) → a ≤ℤ p → p ≤ℤ b → a ≤ℤ b
joins a b p h k = omega (arith, ints)

module _ (g : ℕ → ℕ → ℕ → ℕ) (shares : Shares g) where
  pub pool_cleared : (x : Pool) → PoolSound x → Room x → PoolCleared x (cleared g x)
  unfolding cleared
  pool_cleared x sound room =
      let q : ℕ = matched_amount x in
      let found : Amount (supply x) (demand x) q = amount_found (supply x) (demand x) in
      let bounds = amount_bounds (supply x) (demand x) q found in
      let ss = tenths x.brought lowest_price ∷ x.sales in
      let ps = tenths x.taken highest_price ∷ x.purchases in
      let rises = behind_brought x sound in
      let falls = behind_taken x sound in
      let (p, h) = between ss ps rises falls ((omega (arith, ints), limits), sound.sold_in) ((limits, omega (arith, ints)), sound.bought_in) q found in
      let fair = between_supports g shares x.sales x.purchases x.brought x.taken lowest_price highest_price q p rises falls bounds.0 bounds.1 room.brings room.takes h in
      let ends = in_bracket (match_side g of_sales x.brought lowest_price q x.sales) (match_side g of_purchases x.taken highest_price q x.purchases) p fair h.above h.below in
      record {
        sold = side_matched g shares of_sales x.brought lowest_price q x.sales rises bounds.0 room.brings;
        bought = side_matched g shares of_purchases x.taken highest_price q x.purchases falls bounds.1 room.takes;
        open_bracket = joins _ _ p ends.0 ends.1;
      }

-- one zone of a pool y that is cleared: the bids of b, none beyond its volume, at the prices of the bracket
pub record ZoneCleared (b : Book) (z : Zone) (y : Pool) : Type 0 where
  pub same : BookSame b (book_of z y)
  pub within : BookWithin (book_of z y)
  pub supported : (p : ℤ) → low_end y.sales y.purchases ≤ℤ p → p ≤ℤ high_end y.sales y.purchases → Supports p (book_of z y)

module _ (g : ℕ → ℕ → ℕ → ℕ) where
  pub kept_sales : (b : Book) (z : Zone) (x : Pool) → part z x.sales ≡ b.sales → SameBids b.sales (part z (cleared g x).sales)
  unfolding cleared
  kept_sales b z x e = rw e at (match_bids g of_sales z x.brought lowest_price (matched_amount x) x.sales)

  pub kept_purchases : (b : Book) (z : Zone) (x : Pool) → part z x.purchases ≡ b.purchases → SameBids b.purchases (part z (cleared g x).purchases)
  unfolding cleared
  kept_purchases b z x e = rw e at (match_bids g of_purchases z x.taken highest_price (matched_amount x) x.purchases)

  pub zone_cleared : (b : Book) (z : Zone) (x : Pool) → PoolCleared x (cleared g x) → part z x.sales ≡ b.sales → part z x.purchases ≡ b.purchases → ZoneCleared b z (cleared g x)
  zone_cleared b z x h e e' = record {
    same = record { sales_same = kept_sales b z x e; purchases_same = kept_purchases b z x e' };
    within = record {
      sales_within = all_part (λ c. c.matched ≤ c.bid.volume) z (cleared g x).sales h.sold.within;
      purchases_within = all_part (λ c. c.matched ≤ c.bid.volume) z (cleared g x).purchases h.bought.within;
    };
    supported = λ p l u.
        let fair = bracket_supports (cleared g x).sales (cleared g x).purchases p l u in
        record { sales_fair = all_part (SaleFair p) z (cleared g x).sales fair.sold; purchases_fair = all_part (PurchaseFair p) z (cleared g x).purchases fair.bought };
  }

-- the pools of a clearing
limited_together : (rank : ℤ → ℤ) (bs cs : List Block) → InLimits bs → InLimits cs → Limited (merged rank bs cs)
limited_together rank bs cs h k = all_merged rank (λ _ b. (lowest_price ≤ℤ b.bid.price) × (b.bid.price ≤ℤ highest_price)) bs cs h k

limited_alone : (z : Zone) (bs : List Block) → InLimits bs → Limited (alone z bs)
limited_alone z bs h = all_alone (λ _ b. (lowest_price ≤ℤ b.bid.price) × (b.bid.price ≤ℤ highest_price)) z bs h

pub together_sound : (b₁ b₂ : Book) → BookSound b₁ → BookSound b₂ → PoolSound (together b₁ b₂)
together_sound b₁ b₂ h k = record {
  rises = sorted_merged of_sales b₁.sales b₂.sales h.sales_rise k.sales_rise;
  falls = sorted_merged of_purchases b₁.purchases b₂.purchases h.purchases_fall k.purchases_fall;
  sold_in = limited_together of_sales b₁.sales b₂.sales h.sales_limited k.sales_limited;
  bought_in = limited_together of_purchases b₁.purchases b₂.purchases h.purchases_limited k.purchases_limited;
}

pub alone_sound : (z : Zone) (n m : ℕ) (b : Book) → BookSound b → PoolSound (record { sales = alone z b.sales; purchases = alone z b.purchases; brought = n; taken = m })
alone_sound z n m b h = record {
  rises = sorted_alone of_sales z b.sales h.sales_rise;
  falls = sorted_alone of_purchases z b.purchases h.purchases_fall;
  sold_in = limited_alone z b.sales h.sales_limited;
  bought_in = limited_alone z b.purchases h.purchases_limited;
}

pub together_room : (b₁ b₂ : Book) → Room (together b₁ b₂)
together_room b₁ b₂ = record { brings = omega arith; takes = omega arith }

-- the tenths of the line are placed where the blocks on the other side are enough for them
same_index : (n : ℕ) → suc n - 1 ≡ n
same_index n = omega arith

pub exporting_room : (z : Zone) (k : ℕ) (b : Book) → BookSound b → k ≤ length (curve (alone z b.sales)) → Room (exporting z k b)
exporting_room z zero b h l = record { brings = omega arith; takes = omega arith }
exporting_room z (suc n) b h l =
    let x = exporting z (suc n) b in
    let ps = alone z b.purchases in
    let r = ranged (alone z b.sales) n (limited_alone z b.sales h.sales_limited) (omega arith) in
    let e = here (tenths (suc n) highest_price) ps n (omega arith) in
    let meet : Meet (supply x) (demand x) (suc n) = record { counts = omega arith; sold = l; bought = omega (arith, bid_cons (tenths (suc n) highest_price) ps); agreed = rw (same_index n, e) r.1 } in
    record { brings = omega arith; takes = (amount_found (supply x) (demand x)).largest (suc n) meet }

pub importing_room : (z : Zone) (k : ℕ) (b : Book) → BookSound b → k ≤ length (curve (alone z b.purchases)) → Room (importing z k b)
importing_room z zero b h l = record { brings = omega arith; takes = omega arith }
importing_room z (suc n) b h l =
    let x = importing z (suc n) b in
    let ss = alone z b.sales in
    let r = ranged (alone z b.purchases) n (limited_alone z b.purchases h.purchases_limited) (omega arith) in
    let e = here (tenths (suc n) lowest_price) ss n (omega arith) in
    let meet : Meet (supply x) (demand x) (suc n) = record { counts = omega arith; sold = omega (arith, bid_cons (tenths (suc n) lowest_price) ss); bought = l; agreed = rw (same_index n, e) r.0 } in
    record { brings = (amount_found (supply x) (demand x)).largest (suc n) meet; takes = omega arith }

-- no more can be matched of a list's bids than they are for
pub total_le : (z : Zone) (bs cs : List Block) → SameBids bs cs → Within cs → total cs ≤ length (curve (alone z bs))
total_le z [] [] same h = omega arith
total_le z [] (c ∷ cs) same h = same_none c cs same
total_le z (b ∷ bs) [] same h = same_some b bs same
total_le z (b ∷ bs) (c ∷ cs) same (h, hs) =
    let h' = rw (← same_first b c bs cs same) at h in
    omega (arith, bid_cons (record { zone = z; block = b }) (alone z bs), total_le z bs cs (same_rest b c bs cs same) hs)
