-- The zones merged into one list, and taken apart again.
use Rattle.std.proofs.Common.{◌≡◌, ℕ, ◌+◌, Bool, true, false, cond, List, [], ◌∷◌, ℤ, ◌≤ℤ◌, refl, ap, inl, inr, arith}
use borrow.Author.Differences.{ints}
use lib.Signed.{lt_z}
use Rattle.std.specs.List.{AllByRecursion}
use Rattle.std.proofs.ByRecursion.{All-weaker}
use Rattle.std.proofs.lemmas.Int.{by_lt_z}
use Rattle.std.proofs.lemmas.Bool.{cases_Bool, both_ways}
use Rattle.market.specs.declared.block.Block.{Block}
use Rattle.market.specs.declared.zone.Zone.{Zone}
use Rattle.market.specs.declared.zone.Zone.TheVariants.{One, Two}
use Rattle.auction.specs.declared.offer.Offer.{Offer}
use Rattle.auction.specs.Offers.{Sorted, second_first, comes_first, in_zone, alone, weave, merged, same_zone, part}
use Rattle.market.specs.Precedence.{lex, at_one_price}
use Rattle.auction.specs.Curve.{place, by_place}
use Rattle.auction.specs.Books.{total}
use Rattle.auction.specs.Best.{InOrder}
use Rattle.auction.proofs.Matching.{sum_of}

same_zone_same : (z : Zone) → same_zone z z ≡ true
same_zone_same One = refl
same_zone_same Two = refl

-- a zone alone
pub part_alone : (z : Zone) (bs : List Block) → part z (alone z bs) ≡ bs
part_alone z [] = refl
part_alone z (b ∷ bs) = rw (same_zone_same z) (ap (λ (xs : List Block). b ∷ xs) (part_alone z bs))

none_of_two : (cs : List Block) → part One (alone Two cs) ≡ []
none_of_two [] = refl
none_of_two (c ∷ cs) = none_of_two cs

pub all_alone : (P : Zone → Block → Type 0) (z : Zone) (bs : List Block) → AllByRecursion (P z) bs → AllByRecursion (λ o. P o.zone o.block) (alone z bs)
all_alone P z [] h = tt
all_alone P z (b ∷ bs) (h, hs) = (h, all_alone P z bs hs)

pub sorted_alone : (rank : ℤ → ℤ) (z : Zone) (bs : List Block) → InOrder rank bs → Sorted rank (alone z bs)
sorted_alone rank z [] h = tt
sorted_alone rank z (b ∷ bs) (h, hs) = (all_alone (λ _ c. rank b.bid.price ≤ℤ rank c.bid.price) z bs h, sorted_alone rank z bs hs)

-- the rank of the price comes before all else
pub first_ranked : (rank : ℤ → ℤ) (b c : Block) → comes_first rank b c ≡ true → rank b.bid.price ≤ℤ rank c.bid.price
unfolding comes_first
first_ranked rank b c h =
    by_lt_z (rank c.bid.price) (rank b.bid.price)
    (λ k. let e : true ≡ lt_z (rank c.bid.price) (rank b.bid.price) = omega (arith, ints) in
    let e' : false ≡ lt_z (rank b.bid.price) (rank c.bid.price) = omega (arith, ints) in
    absurd (both_ways false refl (rw (← e', ← e) at h)))
    (λ k. k)

later_ranked : (rank : ℤ → ℤ) (b c : Block) → comes_first rank b c ≡ false → rank c.bid.price ≤ℤ rank b.bid.price
unfolding comes_first
later_ranked rank b c h =
    by_lt_z (rank b.bid.price) (rank c.bid.price)
    (λ k. let e : true ≡ lt_z (rank b.bid.price) (rank c.bid.price) = omega (arith, ints) in
    absurd (both_ways true (rw (← e) at h) refl))
    (λ k. k)

module _ (rank : ℤ → ℤ) where
  -- what holds of the blocks of both zones
  weave_all : (P : Zone → Block → Type 0) (b : Block) (rest : List Block → List Offer) → P One b → ((cs : List Block) → AllByRecursion (P Two) cs → AllByRecursion (λ o. P o.zone o.block) (rest cs)) →
      (cs : List Block) → AllByRecursion (P Two) cs → AllByRecursion (λ o. P o.zone o.block) (weave rank b rest cs)
  weave_all P b rest h hs [] k = (h, hs [] tt)
  weave_all P b rest h hs (c ∷ cs) (k, ks) =
      elim (cases_Bool (comes_first rank c b)) [
        | inl e ↦ rw e (k, weave_all P b rest h hs cs ks)
        | inr e ↦ rw e (h, hs (c ∷ cs) (k, ks))
      ]

  pub all_merged : (P : Zone → Block → Type 0) (bs cs : List Block) → AllByRecursion (P One) bs → AllByRecursion (P Two) cs → AllByRecursion (λ o. P o.zone o.block) (merged rank bs cs)
  all_merged P [] cs h k = all_alone P Two cs k
  all_merged P (b ∷ bs) cs (h, hs) k = weave_all P b (merged rank bs) h (λ xs u. all_merged P bs xs hs u) cs k

  weave_sorted : (b : Block) (bs : List Block) → InOrder rank (b ∷ bs) → ((cs : List Block) → InOrder rank cs → Sorted rank (merged rank bs cs)) → (cs : List Block) → InOrder rank cs → Sorted rank (weave rank b (merged rank bs) cs)
  weave_sorted b bs (h, hs) ih [] k = (all_merged (λ _ x. rank b.bid.price ≤ℤ rank x.bid.price) bs [] h tt, ih [] tt)
  weave_sorted b bs (h, hs) ih (c ∷ cs) (k, ks) =
      elim (cases_Bool (comes_first rank c b)) [
        | inl e ↦ let r = first_ranked rank c b e in
            rw e (
              all_merged (λ _ x. rank c.bid.price ≤ℤ rank x.bid.price) (b ∷ bs) cs
                  (r, All-weaker (λ x. rank b.bid.price ≤ℤ rank x.bid.price) (λ x. rank c.bid.price ≤ℤ rank x.bid.price) (λ x u. omega (arith, ints)) bs h) k,
              weave_sorted b bs (h, hs) ih cs ks,
            )
        | inr e ↦ let r = later_ranked rank c b e in
            rw e (
              all_merged (λ _ x. rank b.bid.price ≤ℤ rank x.bid.price) bs (c ∷ cs) h
                  (r, All-weaker (λ x. rank c.bid.price ≤ℤ rank x.bid.price) (λ x. rank b.bid.price ≤ℤ rank x.bid.price) (λ x u. omega (arith, ints)) cs k),
              ih (c ∷ cs) (k, ks),
            )
      ]

  pub sorted_merged : (bs cs : List Block) → InOrder rank bs → InOrder rank cs → Sorted rank (merged rank bs cs)
  sorted_merged [] cs h k = sorted_alone rank Two cs k
  sorted_merged (b ∷ bs) cs h k = weave_sorted b bs h (λ xs u. sorted_merged bs xs h.1 u) cs k

  -- each zone's part is its own list
  weave_one : (b : Block) (bs : List Block) → ((cs : List Block) → part One (merged rank bs cs) ≡ bs) → (cs : List Block) → part One (weave rank b (merged rank bs) cs) ≡ b ∷ bs
  weave_one b bs ih [] = ap (λ (xs : List Block). b ∷ xs) (ih [])
  weave_one b bs ih (c ∷ cs) =
      elim (cases_Bool (comes_first rank c b)) [
        | inl e ↦ rw e (weave_one b bs ih cs)
        | inr e ↦ rw e (ap (λ (xs : List Block). b ∷ xs) (ih (c ∷ cs)))
      ]

  pub part_one : (bs cs : List Block) → part One (merged rank bs cs) ≡ bs
  part_one [] cs = none_of_two cs
  part_one (b ∷ bs) cs = weave_one b bs (part_one bs) cs

  weave_two : (b : Block) (bs : List Block) → ((cs : List Block) → part Two (merged rank bs cs) ≡ cs) → (cs : List Block) → part Two (weave rank b (merged rank bs) cs) ≡ cs
  weave_two b bs ih [] = ih []
  weave_two b bs ih (c ∷ cs) =
      elim (cases_Bool (comes_first rank c b)) [
        | inl e ↦ rw e (ap (λ (xs : List Block). c ∷ xs) (weave_two b bs ih cs))
        | inr e ↦ rw e (ih (c ∷ cs))
      ]

  pub part_two : (bs cs : List Block) → part Two (merged rank bs cs) ≡ cs
  part_two [] cs = part_alone Two cs
  part_two (b ∷ bs) cs = weave_two b bs (part_two bs) cs

-- what holds of each offer's block holds of each block of a zone
pub all_part : (P : Block → Type 0) (z : Zone) (os : List Offer) → AllByRecursion (λ o. P o.block) os → AllByRecursion P (part z os)
all_part P z [] h = tt
all_part P z (o ∷ os) (h, hs) =
    elim (cases_Bool (same_zone z o.zone)) [
      | inl e ↦ rw e (h, all_part P z os hs)
      | inr e ↦ rw e (all_part P z os hs)
    ]

-- the two zones make up the whole
either_zone : (z : Zone) (n a b : ℕ) → cond (same_zone One z) (n + a) a + cond (same_zone Two z) (n + b) b ≡ n + (a + b)
either_zone One n a b = omega arith
either_zone Two n a b = omega arith

total_cond : (t : Bool) (b : Block) (bs : List Block) → total (cond t (b ∷ bs) bs) ≡ cond t (b.matched + total bs) (total bs)
total_cond true b bs = refl
total_cond false b bs = refl

pub sum_parts : (os : List Offer) → total (part One os) + total (part Two os) ≡ sum_of os
sum_parts [] = refl
sum_parts (o ∷ os) =
    rw (total_cond (same_zone One o.zone) o.block (part One os), total_cond (same_zone Two o.zone) o.block (part Two os))
    (omega (arith, sum_parts os, either_zone o.zone o.block.matched (total (part One os)) (total (part Two os))))

-- and of a zone alone its own part does
pub sum_own : (z : Zone) (os : List Offer) → AllByRecursion (λ o. o.zone ≡ z) os → total (part z os) ≡ sum_of os
sum_own z [] h = refl
sum_own z (o ∷ os) (h, hs) = rw (h, same_zone_same z) (omega (arith, sum_own z os hs))

-- the price decides by its place, and at one price what decides there
pub first_by_place : (rank : ℤ → ℤ) (b c : Block) → comes_first rank b c ≡ by_place true (lex (at_one_price b.bid) (at_one_price c.bid)) false (place (rank c.bid.price) (rank b.bid.price))
unfolding comes_first place
first_by_place rank b c =
    elim (cases_Bool (lt_z (rank b.bid.price) (rank c.bid.price))) [
      | inl e ↦ rw e refl
      | inr e ↦ elim (cases_Bool (lt_z (rank c.bid.price) (rank b.bid.price))) [ inl f ↦ rw (e, f) refl | inr f ↦ rw (e, f) refl ]
    ]

-- the next of two lists that are merged
pub second_none : (rank : ℤ → ℤ) (cs : List Block) → second_first rank [] cs ≡ true
second_none rank cs = refl

pub merge_second : (rank : ℤ → ℤ) (bs cs xs : List Block) (c : Block) → cs ≡ c ∷ xs → second_first rank bs cs ≡ true → merged rank bs cs ≡ in_zone Two c ∷ merged rank bs xs
merge_second rank [] cs xs c e h = rw e refl
merge_second rank (b ∷ bs) cs xs c e h = let h' = rw e at h in rw (e, h') refl

pub merge_first : (rank : ℤ → ℤ) (bs cs xs : List Block) (b : Block) → bs ≡ b ∷ xs → second_first rank bs cs ≡ false → merged rank bs cs ≡ in_zone One b ∷ merged rank xs cs
merge_first rank bs [] xs b e h = rw e refl
merge_first rank bs (c ∷ cs) xs b e h = let h' = rw e at h in rw (e, h') refl
