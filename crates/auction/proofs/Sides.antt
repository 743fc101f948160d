-- One side: its curve, and what is ahead of a rank or tied at it.
use Rattle.std.proofs.Common.{◌≡◌, ℕ, zero, suc, ◌+◌, ◌-◌, ◌<◌, ◌≤◌, true, false, ◌⊎◌, List, [], ◌∷◌, length, get_or, take, replicate, ℤ, pos, neg_ℤ, ◌≤ℤ◌, ◌<ℤ◌, sym, refl, ap, ◌∙◌, inl, inr, arith}
use borrow.Author.Differences.{ints}
use lib.Signed.{lt_z}
use Rattle.std.specs.List.{AllByRecursion}
use Rattle.std.proofs.lemmas.List.{length-append, length-replicate, get_or_append_left, get_or-append_right, get_or-replicate}
use Rattle.std.proofs.lemmas.Int.{by_lt_z}
use Rattle.std.proofs.ByRecursion.{All-weaker}
use Rattle.std.proofs.lemmas.Bool.{cases_lt}
use Rattle.auction.specs.declared.offer.Offer.{Offer}
use Rattle.market.specs.declared.zone.Zone.TheVariants.{One}
use Rattle.auction.specs.Offers.{price_of, volume_of, Sorted}
use Rattle.std.specs.declared.cmp.Ordering.TheVariants.{Less, Equal, Greater}
use Rattle.auction.specs.Curve.{curve, behind, nth_price, place, ahead, tie}

-- how many tenths a side bids for
abbrev pub bid : List Offer → ℕ
bid os = length (curve os)

pub bid_cons : (b : Offer) (bs : List Offer) → bid (b ∷ bs) ≡ volume_of b + bid bs
bid_cons b bs = simp (length-append, length-replicate)

pub here : (b : Offer) (bs : List Offer) (j : ℕ) → j < volume_of b → get_or (curve (b ∷ bs)) j (pos 0) ≡ price_of b
here b bs j h =
    let l : j < length (replicate (volume_of b) (price_of b)) = simp length-replicate h in
    get_or_append_left (replicate (volume_of b) (price_of b)) (curve bs) (pos 0) j l ∙ get_or-replicate (volume_of b) j (price_of b) (pos 0) h

pub there : (b : Offer) (bs : List Offer) (j : ℕ) → volume_of b ≤ j → get_or (curve (b ∷ bs)) j (pos 0) ≡ get_or (curve bs) (j - volume_of b) (pos 0)
there b bs j h = get_or-append_right (replicate (volume_of b) (price_of b)) (curve bs) (volume_of b) j (pos 0) (length-replicate (volume_of b) (price_of b)) h

pub place_is : (m r : ℤ) → ((place m r ≡ Less) × (r <ℤ m)) ⊎ (((place m r ≡ Equal) × (r ≡ m)) ⊎ ((place m r ≡ Greater) × (m <ℤ r)))
unfolding place
place_is m r =
    by_lt_z r m
    (λ h. let e : true ≡ lt_z r m = omega (arith, ints) in inl (rw (← e) refl, h))
    (λ h. let e : false ≡ lt_z r m = omega (arith, ints) in
    by_lt_z m r
    (λ k. let f : true ≡ lt_z m r = omega (arith, ints) in inr (inr (rw (← e, ← f) refl, k)))
    (λ k. let f : false ≡ lt_z m r = omega (arith, ints) in inr (inl (rw (← e, ← f) refl, omega (arith, ints)))))

module _ (rank : ℤ → ℤ) where
  -- the least rank of a list bounds its curve
  pub at_least : (r : ℤ) (bs : List Offer) (j : ℕ) → AllByRecursion (λ c. r ≤ℤ rank (price_of c)) bs → j < bid bs → r ≤ℤ rank (get_or (curve bs) j (pos 0))
  at_least r [] j h l = absurd (omega arith)
  at_least r (b ∷ bs) j (h, hs) l =
      elim (cases_lt j (volume_of b)) [
        | inl k ↦ rw (here b bs j k) h
        | inr k ↦ rw (there b bs j k) (at_least r bs (j - volume_of b) hs (omega (arith, bid_cons b bs)))
      ]

  -- nothing is ahead of a rank that bounds the list
  pub none_ahead : (r : ℤ) (bs : List Offer) → AllByRecursion (λ c. r ≤ℤ rank (price_of c)) bs → ahead rank r bs ≡ 0
  none_ahead r [] h = refl
  none_ahead r (b ∷ bs) (h, hs) =
      elim (place_is r (rank (price_of b))) [
        | inl e ↦ absurd (omega (arith, ints, e.1))
        | inr (inl e) ↦ rw e.0 (omega (arith, none_ahead r bs hs))
        | inr (inr e) ↦ rw e.0 (omega (arith, none_ahead r bs hs))
      ]

  -- nor is anything up to a rank below it
  all_after : (r : ℤ) (bs : List Offer) → AllByRecursion (λ c. r <ℤ rank (price_of c)) bs → ahead rank r bs + tie rank r bs ≡ 0
  all_after r [] h = refl
  all_after r (b ∷ bs) (h, hs) =
      elim (place_is r (rank (price_of b))) [
        | inl e ↦ absurd (omega (arith, ints, e.1))
        | inr (inl e) ↦ absurd (omega (arith, ints, e.1))
        | inr (inr e) ↦ rw e.0 (omega (arith, all_after r bs hs))
      ]

  -- what one more block adds
  upto_cons_le : (r : ℤ) (b : Offer) (bs : List Offer) → ahead rank r (b ∷ bs) + tie rank r (b ∷ bs) ≤ volume_of b + (ahead rank r bs + tie rank r bs)
  upto_cons_le r b bs = elim (place_is r (rank (price_of b))) [ inl e ↦ rw e.0 (omega arith) | inr (inl e) ↦ rw e.0 (omega arith) | inr (inr e) ↦ rw e.0 (omega arith) ]

  pub upto_cons : (r : ℤ) (b : Offer) (bs : List Offer) → rank (price_of b) ≤ℤ r → volume_of b + (ahead rank r bs + tie rank r bs) ≡ ahead rank r (b ∷ bs) + tie rank r (b ∷ bs)
  upto_cons r b bs h = elim (place_is r (rank (price_of b))) [ inl e ↦ rw e.0 (omega arith) | inr (inl e) ↦ rw e.0 (omega arith) | inr (inr e) ↦ absurd (omega (arith, ints, e.1)) ]

  ahead_cons_le : (r : ℤ) (b : Offer) (bs : List Offer) → ahead rank r (b ∷ bs) ≤ volume_of b + ahead rank r bs
  ahead_cons_le r b bs = elim (place_is r (rank (price_of b))) [ inl e ↦ rw e.0 (omega arith) | inr (inl e) ↦ rw e.0 (omega arith) | inr (inr e) ↦ rw e.0 (omega arith) ]

  -- a rank before the first block's has nothing ahead and nothing tied
  upto_none : (r : ℤ) (b : Offer) (bs : List Offer) → Sorted rank (b ∷ bs) → r <ℤ rank (price_of b) → ahead rank r (b ∷ bs) + tie rank r (b ∷ bs) ≡ 0
  upto_none r b bs (h, hs) k = all_after r (b ∷ bs) (k, All-weaker (λ c. rank (price_of b) ≤ℤ rank (price_of c)) (λ c. r <ℤ rank (price_of c)) (λ c u. omega (arith, ints)) bs h)

  -- a tenth among the first that are ahead of r or tied at it ranks no later than r
  pub early : (r : ℤ) (bs : List Offer) (j : ℕ) → Sorted rank bs → j < ahead rank r bs + tie rank r bs → rank (get_or (curve bs) j (pos 0)) ≤ℤ r
  early r [] j h l = absurd (omega arith)
  early r (b ∷ bs) j h l =
      elim (cases_lt j (volume_of b)) [
        | inl k ↦ rw (here b bs j k) (by_lt_z r (rank (price_of b)) (λ u. absurd (omega (arith, l, upto_none r b bs h u))) (λ u. u))
        | inr k ↦ rw (there b bs j k) (early r bs (j - volume_of b) h.1 (omega (arith, l, upto_cons_le r b bs)))
      ]

  -- the rank of a tenth: it has at most the tenths before it ahead, and itself among the tied
  pub level : (r : ℤ) (bs : List Offer) (j : ℕ) → Sorted rank bs → j < bid bs → r ≡ rank (get_or (curve bs) j (pos 0)) → (ahead rank r bs ≤ j) × (j < ahead rank r bs + tie rank r bs)
  level r [] j h l e = absurd (omega arith)
  level r (b ∷ bs) j (h, hs) l e =
      elim (cases_lt j (volume_of b)) [
        | inl k ↦ first (e ∙ ap rank (here b bs j k)) k
        | inr k ↦ later k (rw (there b bs j k) at e) (level r bs (j - volume_of b) hs (omega (arith, l, bid_cons b bs)) (rw (there b bs j k) at e))
      ]
    where
      first : r ≡ rank (price_of b) → j < volume_of b → (ahead rank r (b ∷ bs) ≤ j) × (j < ahead rank r (b ∷ bs) + tie rank r (b ∷ bs))
      first u k =
          let z : ahead rank r (b ∷ bs) ≡ 0 = none_ahead r (b ∷ bs) (omega (arith, ints), All-weaker (λ c. rank (price_of b) ≤ℤ rank (price_of c)) (λ c. r ≤ℤ rank (price_of c)) (λ c w. omega (arith, ints)) bs h) in
          (omega (arith, z), omega (arith, upto_cons r b bs (omega (arith, ints))))

      later : volume_of b ≤ j → r ≡ rank (get_or (curve bs) (j - volume_of b) (pos 0)) → (ahead rank r bs ≤ j - volume_of b) × (j - volume_of b < ahead rank r bs + tie rank r bs) → (ahead rank r (b ∷ bs) ≤ j) × (j < ahead rank r (b ∷ bs) + tie rank r (b ∷ bs))
      later k u ih =
          let v : rank (price_of b) ≤ℤ r = rw u (at_least (rank (price_of b)) bs (j - volume_of b) h (omega (arith, l, bid_cons b bs))) in
          (omega (arith, ih, ahead_cons_le r b bs), omega (arith, ih, upto_cons r b bs v))

  -- a sorted curve rises
  pub rising : (bs : List Offer) (i j : ℕ) → Sorted rank bs → i ≤ j → j < bid bs → rank (get_or (curve bs) i (pos 0)) ≤ℤ rank (get_or (curve bs) j (pos 0))
  rising bs i j h k l = early (rank (get_or (curve bs) j (pos 0))) bs i h (omega (arith, level (rank (get_or (curve bs) j (pos 0))) bs j h l refl))

  pub upto_le_bid : (r : ℤ) (bs : List Offer) → ahead rank r bs + tie rank r bs ≤ bid bs
  upto_le_bid r [] = omega arith
  upto_le_bid r (b ∷ bs) = omega (arith, upto_cons_le r b bs, upto_le_bid r bs, bid_cons b bs)

  -- what is ahead of a later rank
  pub upto_le_ahead : (m r : ℤ) (bs : List Offer) → m <ℤ r → ahead rank m bs + tie rank m bs ≤ ahead rank r bs
  upto_le_ahead m r [] h = omega arith
  upto_le_ahead m r (b ∷ bs) h =
      by_lt_z m (rank (price_of b))
      (λ k. elim (place_is m (rank (price_of b))) [
        | inl e ↦ absurd (omega (arith, ints, e.1))
        | inr (inl e) ↦ absurd (omega (arith, ints, e.1))
        | inr (inr e) ↦ rw e.0 (omega (arith, upto_le_ahead m r bs h))
      ])
      (λ k. elim (place_is r (rank (price_of b))) [
        | inl e ↦ rw e.0 (omega (arith, upto_cons m b bs k, upto_le_ahead m r bs h))
        | inr (inl e) ↦ absurd (omega (arith, ints, e.1))
        | inr (inr e) ↦ absurd (omega (arith, ints, e.1))
      ])

  -- each block is in the tie of its own rank
  tie_has : (r : ℤ) (b : Offer) (bs : List Offer) → tie rank r bs ≤ tie rank r (b ∷ bs)
  tie_has r b bs = omega arith

  tie_own : (b : Offer) (bs : List Offer) → volume_of b ≤ tie rank (rank (price_of b)) (b ∷ bs)
  tie_own b bs =
      elim (place_is (rank (price_of b)) (rank (price_of b))) [
        | inl e ↦ absurd (omega (arith, ints, e.1))
        | inr (inl e) ↦ rw e.0 (omega arith)
        | inr (inr e) ↦ absurd (omega (arith, ints, e.1))
      ]

  tie_all : (whole bs : List Offer) → ((r : ℤ) → tie rank r bs ≤ tie rank r whole) → AllByRecursion (λ b. volume_of b ≤ tie rank (rank (price_of b)) whole) bs
  tie_all whole [] h = tt
  tie_all whole (b ∷ bs) h = (omega (arith, tie_own b bs, h (rank (price_of b))), tie_all whole bs (λ r. omega (arith, tie_has r b bs, h r)))

  pub in_its_tie : (bs : List Offer) → AllByRecursion (λ b. volume_of b ≤ tie rank (rank (price_of b)) bs) bs
  in_its_tie bs = tie_all bs bs (λ r. omega arith)

-- what the checker reads past a slice's end
abbrev pub blank : Offer
blank = record { zone = One; block = record { bid = record { agent = 0; unit = 0; number = 0; stamp = 0; price = pos 0; volume = 0 }; matched = 0 } }

-- a walk by blocks: u tenths into the i-th block
pub walked : (bs : List Offer) (i u : ℕ) (d : Offer) → i < length bs → u < volume_of (get_or bs i d) → (bid (take i bs) + u < bid bs) × (get_or (curve bs) (bid (take i bs) + u) (pos 0) ≡ price_of (get_or bs i d))
walked [] i u d h k = absurd (omega arith)
walked (b ∷ bs) zero u d h k = let e : 0 + u ≡ u = omega arith in (omega (arith, bid_cons b bs), rw e (here b bs u k))
walked (b ∷ bs) (suc i) u d h k =
    let ih = walked bs i u d (omega arith) k in
    let c = bid_cons b (take i bs) in
    let e : (bid (b ∷ take i bs) + u) - volume_of b ≡ bid (take i bs) + u = omega arith in
    (omega (arith, ih, c, bid_cons b bs), there b bs (bid (b ∷ take i bs) + u) (omega arith) ∙ (rw e ih.1))

pub place_before : (m r : ℤ) → r <ℤ m → place m r ≡ Less
place_before m r h = elim (place_is m r) [ inl e ↦ e.0 | inr (inl e) ↦ absurd (omega (arith, ints, e.1)) | inr (inr e) ↦ absurd (omega (arith, ints, e.1)) ]

pub place_tied : (m r : ℤ) → r ≡ m → place m r ≡ Equal
place_tied m r h = elim (place_is m r) [ inl e ↦ absurd (omega (arith, ints, e.1)) | inr (inl e) ↦ e.0 | inr (inr e) ↦ absurd (omega (arith, ints, e.1)) ]

pub place_after : (m r : ℤ) → m <ℤ r → place m r ≡ Greater
place_after m r h = elim (place_is m r) [ inl e ↦ absurd (omega (arith, ints, e.1)) | inr (inl e) ↦ absurd (omega (arith, ints, e.1)) | inr (inr e) ↦ e.0 ]

-- k tenths at the price p, as an offer: the curve of a list behind it is the list's curve behind the tenths
abbrev pub tenths : ℕ → ℤ → Offer
tenths k p = record { zone = One; block = record { bid = record { agent = 0; unit = 0; number = 0; stamp = 0; price = p; volume = k }; matched = 0 } }

-- of a side with k tenths ahead of its blocks: the tenths ahead of the tie of the q-th tenth are at most q, and with the tie they reach it
pub shared_out : (rank : ℤ → ℤ) (k : ℕ) (p : ℤ) (n : ℕ) (os : List Offer) → Sorted rank (tenths k p ∷ os) → suc n ≤ length (behind k p os) → k ≤ suc n → (m : ℤ) → m ≡ rank (nth_price (behind k p os) (suc n)) →
    (k + ahead rank m os ≤ suc n) × (suc n ≤ k + ahead rank m os + tie rank m os)
shared_out rank k p n os sorted l h m e =
    elim (place_is m (rank p)) [
      | inl u ↦ let at' = rw u.0 at at in (omega (arith, at'), omega (arith, at'))
      | inr (inl u) ↦ let at' = rw u.0 at at in
          let z : ahead rank m os ≡ 0 = none_ahead rank m os (All-weaker (λ x. rank p ≤ℤ rank (price_of x)) (λ x. m ≤ℤ rank (price_of x)) (λ x w. omega (arith, ints, u.1)) os sorted.0) in
          (omega (arith, z), omega (arith, at', z))
      | inr (inr u) ↦ absurd (omega (arith, at, upto_none rank m (tenths k p) os sorted u.1))
    ]
  where
    same : suc n - 1 ≡ n
    same = omega arith

    at : (ahead rank m (tenths k p ∷ os) ≤ n) × (n < ahead rank m (tenths k p ∷ os) + tie rank m (tenths k p ∷ os))
    at = level rank m (tenths k p ∷ os) n sorted (omega (arith, l)) (rw (← same) e)

-- purchases stand the other way round
pub place_turned : (m r : ℤ) → place (neg_ℤ m) (neg_ℤ r) ≡ place r m
place_turned m r =
    elim (place_is r m) [
      | inl e ↦ place_before (neg_ℤ m) (neg_ℤ r) (omega (arith, ints, e.1)) ∙ sym e.0
      | inr (inl e) ↦ place_tied (neg_ℤ m) (neg_ℤ r) (omega (arith, ints, e.1)) ∙ sym e.0
      | inr (inr e) ↦ place_after (neg_ℤ m) (neg_ℤ r) (omega (arith, ints, e.1)) ∙ sym e.0
    ]
