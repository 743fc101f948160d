-- Rows of two tables, merged into offers and written back.
use Rattle.std.proofs.Common.{◌≡◌, ℕ, ◌+◌, ◌<◌, ◌≤◌, List, [], ◌∷◌, ◌++◌, map, length, get_or, take, drop, ℤ, sym, refl, ap, ◌∙◌, inl, inr, arith}
use Rattle.std.proofs.lemmas.List.{append-nil, drop_more, drop-map, length-append, length-map, length-take-le, map-append, take-append-drop}
use Rattle.std.proofs.lemmas.Bool.{cases_Bool}
use Rattle.market.specs.declared.block.Block.{Block}
use Rattle.market.specs.declared.zone.Zone.TheVariants.{One, Two}
use Rattle.auction.specs.declared.offer.Offer.{Offer}
use Rattle.auction.specs.Offers.{comes_first, in_zone, alone, merged}

-- the row at i, and those behind it. f is the block that a row holds
pub read_drop : {X : Type 0} (f : X → Block) (xs : List X) (i : ℕ) (x : X) → i < length xs → x ≡ get_or xs i x → map f (drop i xs) ≡ f x ∷ map f (drop (i + 1) xs)
read_drop f xs i x h e = rw (drop_more xs i x h) (ap (λ y. f y ∷ map f (drop (i + 1) xs)) (sym e))

-- the lists merged into the first n places
pub whole_taken : (os whole rest : List Offer) (k n : ℕ) → take k os ++ rest ≡ whole → k ≤ length os → length whole ≡ n → rest ≡ [] → take n os ≡ whole
whole_taken os whole rest k n e h l z =
    let t : take k os ≡ whole = sym (append-nil (take k os)) ∙ ap (λ (xs : List Offer). take k os ++ xs) (sym z) ∙ e in
    let m : n ≡ k = omega (arith, ap length t, length-take-le k os h) in
    rw m t

-- nothing is left where every place is filled
pub nothing_left : (os whole rest : List Offer) (k : ℕ) → take k os ++ rest ≡ whole → k ≤ length os → length whole ≤ k → rest ≡ []
nothing_left os whole [] k e h l = refl
nothing_left os whole (o ∷ rest) k e h l = absurd (omega (arith, ap length e, length-append (take k os) (o ∷ rest), length-take-le k os h))

-- the first i rows hold the blocks bs, and those behind them are kept
pub written_first : {X : Type 0} (f : X → Block) (xs ys : List X) (i : ℕ) (bs left : List Block) → map f (take i ys) ++ left ≡ bs → left ≡ [] → drop i ys ≡ drop i xs → i ≤ length ys → map f ys ≡ bs ++ drop (length bs) (map f xs)
written_first {X} f xs ys i bs left e z d h =
    let t : map f (take i ys) ≡ bs = sym (append-nil (map f (take i ys))) ∙ ap (λ (cs : List Block). map f (take i ys) ++ cs) (sym z) ∙ e in
    let l : length bs ≡ i = omega (arith, ap length t, length-map (take i ys) f, length-take-le i ys h) in
    ap (map f) (sym (take-append-drop i ys)) ∙ map-append f (take i ys) (drop i ys) ∙ ap (λ (cs : List Block). cs ++ map f (drop i ys)) t
    ∙ ap (λ (zs : List X). bs ++ map f zs) d ∙ ap (λ (cs : List Block). bs ++ cs) (sym (drop-map f i xs)) ∙ ap (λ (n : ℕ). bs ++ drop n (map f xs)) (sym l)

-- as many offers as there are blocks
weave_length : (rank : ℤ → ℤ) (b : Block) (bs : List Block) → ((cs : List Block) → length (merged rank bs cs) ≡ length bs + length cs) → (cs : List Block) → length (merged rank (b ∷ bs) cs) ≡ length (b ∷ bs) + length cs
weave_length rank b bs ih [] = omega (arith, ih [])
weave_length rank b bs ih (c ∷ cs) =
    elim (cases_Bool (comes_first rank c b)) [
      | inl e ↦ rw e (omega (arith, weave_length rank b bs ih cs))
      | inr e ↦ rw e (omega (arith, ih (c ∷ cs)))
    ]

pub merged_length : (rank : ℤ → ℤ) (bs cs : List Block) → length (merged rank bs cs) ≡ length bs + length cs
merged_length rank [] cs = length-map cs (in_zone Two) ∙ omega arith
merged_length rank (b ∷ bs) cs = weave_length rank b bs (merged_length rank bs) cs

-- a zone merged with nothing
pub merged_alone : (rank : ℤ → ℤ) (bs : List Block) → merged rank bs [] ≡ alone One bs
merged_alone rank [] = refl
merged_alone rank (b ∷ bs) = ap (λ (os : List Offer). in_zone One b ∷ os) (merged_alone rank bs)
