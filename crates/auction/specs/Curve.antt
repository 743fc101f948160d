-- The curve of a side, where the two curves meet, and what is matched of each block. To believe: the n-th tenth of a curve has the
-- price of the block that holds it; the matched amount; and how the blocks of the marginal price share.
use Rattle.std.specs.Prelude.{◌≡◌, ℕ, zero, suc, ◌+◌, ◌-◌, ◌≤◌, min, Bool, cond, ◌⊎◌, List, [], ◌∷◌, ◌++◌, map, length, replicate, ℤ, pos, ◌≤ℤ◌, int_le, int_lt, slice_index_or}
use Rattle.auction.specs.declared.offer.Offer.{Offer}
use Rattle.std.specs.declared.cmp.Ordering.{Ordering}
use Rattle.std.specs.declared.cmp.Ordering.TheVariants.{Less, Equal, Greater}
use Rattle.auction.specs.Offers.{price_of, volume_of}

-- the price of each tenth, block by block
abbrev pub curve : List Offer → List ℤ
curve [] = []
curve (o ∷ os) = replicate (volume_of o) (price_of o) ++ curve os

-- the curve of a side that has k tenths at a price ahead of every block
abbrev pub behind : ℕ → ℤ → List Offer → List ℤ
behind k p os = replicate k p ++ curve os

-- the price of the n-th tenth, from 1
abbrev pub nth_price : List ℤ → ℕ → ℤ
nth_price c n = slice_index_or c (n - 1) (pos 0)

-- both curves have an n-th tenth, and there the sale is no dearer than the purchase
pub record Meet (sales purchases : List ℤ) (n : ℕ) : Type 0 where
  pub counts : 1 ≤ n
  pub sold : n ≤ length sales
  pub bought : n ≤ length purchases
  pub agreed : nth_price sales n ≤ℤ nth_price purchases n

-- q is the largest such n, or 0 where there is none
pub record Amount (sales purchases : List ℤ) (q : ℕ) : Type 0 where
  pub reached : (q ≡ 0) ⊎ Meet sales purchases q
  pub largest : (n : ℕ) → Meet sales purchases n → n ≤ q

-- the matched amount, by trying each n downwards
abbrev pub down_from : (ℕ → Bool) → ℕ → ℕ
down_from test zero = zero
down_from test (suc n) = let r = down_from test n in cond (test (suc n)) (suc n) r

unfoldable pub amount : List ℤ → List ℤ → ℕ
amount sales purchases = down_from (λ n. int_le (nth_price sales n) (nth_price purchases n)) (min (length sales) (length purchases))

-- q is the matched amount, and where it is not 0 the last tenths matched cost u and v
pub record Crossed (c d : List ℤ) (q : ℕ) (u v : ℤ) : Type 0 where
  pub found : q ≡ amount c d
  pub sale : 1 ≤ q → u ≡ nth_price c q
  pub purchase : 1 ≤ q → v ≡ nth_price d q

-- where a rank stands to the marginal one
unfoldable pub place : ℤ → ℤ → Ordering
place m r = cond (int_lt r m) Less (cond (int_lt m r) Greater Equal)

abbrev pub by_place : {A : Type 0} → A → A → A → Ordering → A
by_place x y z Less = x
by_place x y z Equal = y
by_place x y z Greater = z

module _ (rank : ℤ → ℤ) (m : ℤ) where
  -- the tenths ranked before m, and those ranked m
  abbrev pub ahead : List Offer → ℕ
  ahead [] = 0
  ahead (o ∷ os) = by_place (volume_of o) 0 0 (place m (rank (price_of o))) + ahead os

  abbrev pub tie : List Offer → ℕ
  tie [] = 0
  tie (o ∷ os) = by_place 0 (volume_of o) 0 (place m (rank (price_of o))) + tie os

abbrev pub with_matched : Offer → ℕ → Offer
with_matched o n = record { zone = o.zone; block = record { bid = o.block.bid; matched = n } }

-- nothing is matched
abbrev pub nothing : List Offer → List Offer
nothing os = map (λ o. with_matched o 0) os

module _ (g : ℕ → ℕ → ℕ → ℕ) (rank : ℤ → ℤ) where
  -- m is the marginal rank, of whose s tenths l are to be shared, and c of them are ahead of the list: a block before it is matched
  -- whole, a tied one gets what the rule gives to the first c and its own tenths less what it gives to the first c, a later one nothing
  abbrev pub fill : ℤ → ℕ → ℕ → ℕ → List Offer → List Offer
  fill m l s c [] = []
  fill m l s c (o ∷ os) =
      with_matched o (by_place (volume_of o) (g l s (c + volume_of o) - g l s c) 0 (place m (rank (price_of o))))
      ∷ fill m l s (by_place c (c + volume_of o) c (place m (rank (price_of o)))) os

  -- what is matched of a side with k tenths at the price p ahead of its blocks, where q tenths are matched in all: the marginal rank is
  -- that of the q-th, and the tie shares what the tenths ahead of it leave of q
  abbrev pub match_side : ℕ → ℤ → ℕ → List Offer → List Offer
  match_side k p zero os = nothing os
  match_side k p (suc n) os =
      let m : ℤ = rank (nth_price (behind k p os) (suc n)) in
      fill m (suc n - (k + ahead rank m os)) (tie rank m os) 0 os
