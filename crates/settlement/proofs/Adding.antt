-- The entries of a balanced session add up, for every way of rounding that keeps its law.
use Rattle.std.proofs.Common.{◌≡◌, ℕ, ◌+◌, ◌*◌, ◌≤◌, Bool, true, false, cond, ltb, List, [], ◌∷◌, map, length, ℤ, pos, negsuc, ◌+ℤ◌, ◌-ℤ◌, ◌*ℤ◌, neg_ℤ, nat_abs, filter, sym, refl, ap, ◌∙◌, arith}
use lib.IntN.{*ℤ_comm}
use lib.ListN.{length-map}
use borrow.Author.Differences.{up, down}
use Rattle.std.proofs.lemmas.Int.{ints}
use Rattle.std.proofs.lemmas.List.Sums.{sum_by-cons}
use Rattle.std.proofs.lemmas.Bool.{ltb-false}
use Rattle.market.specs.declared.zone.Side.{Side}
use Rattle.market.specs.declared.zone.Side.TheVariants as side
use Rattle.settlement.specs.Entries.{Due, Outcome, Trade, ZoneOutcome, block_dues, buying, due, dues, entries_of, entry, income_due, is_matched, selling, session_dues, signed, zone_dues}
use Rattle.settlement.specs.Postings.{remainder, residue_of, tenth, total}
use Rattle.settlement.specs.Balance.{AddsUp, Balanced, matched}
use Rattle.settlement.proofs.Roundings.{rounds}
use Rattle.settlement.proofs.Sums.{total_append}

spread : (p a b : ℤ) → p *ℤ (a +ℤ b) ≡ p *ℤ a +ℤ p *ℤ b
spread p a b =
    let e : up (a +ℤ b) + down a + down b ≡ down (a +ℤ b) + up a + up b = omega (arith, ints) in
    omega (arith, ints, ap (λ n. up p * n) e, ap (λ n. down p * n) e)

opposite : (p a : ℤ) → p *ℤ neg_ℤ a ≡ neg_ℤ (p *ℤ a)
opposite p a =
    let e : up (neg_ℤ a) + up a ≡ down (neg_ℤ a) + down a = omega (arith, ints) in
    omega (arith, ints, ap (λ n. up p * n) e, ap (λ n. down p * n) e)

signed_adds : (s : Side) (p : ℤ) (m n : ℕ) → signed s (p *ℤ pos (m + n)) ≡ signed s (p *ℤ pos m) +ℤ signed s (p *ℤ pos n)
signed_adds side.Sale p m n = omega (arith, ints)
signed_adds side.Purchase p m n = omega (arith, ints)

signed_none : (s : Side) (p : ℤ) (n : ℕ) → n ≤ 0 → signed s (p *ℤ pos n) ≡ pos 0
signed_none side.Sale p n h = let e : n ≡ 0 = omega arith in rw e (omega (arith, ints))
signed_none side.Purchase p n h = let e : n ≡ 0 = omega arith in rw e (omega (arith, ints))

-- what the blocks of one side are due in all
pub side_exact : {X : Type 0} (t : Trade X) (p : ℤ) (xs : List X) → total (λ d. d.exact) (dues t p xs) ≡ signed t.side (p *ℤ pos (matched t xs))
side_exact t p [] = sym (signed_none t.side p 0 (omega arith))
side_exact t p (x ∷ xs) =
    let here = signed t.side (p *ℤ pos (t.block x).matched) in
    let sum : signed t.side (p *ℤ pos (matched t (x ∷ xs))) ≡ here +ℤ total (λ d. d.exact) (dues t p xs) =
    ap (λ n. signed t.side (p *ℤ pos n)) (sum_by-cons (λ y. (t.block y).matched) x xs) ∙ signed_adds t.side p (t.block x).matched (matched t xs) ∙ ap (λ z. here +ℤ z) (sym (side_exact t p xs)) in
    let P : Bool → Type 0 = λ b. ltb 0 (t.block x).matched ≡ b → total (λ d. d.exact) (map (due t p) (cond b (x ∷ filter (is_matched t) xs) (filter (is_matched t) xs))) ≡ here +ℤ total (λ d. d.exact) (dues t p xs) in
    let go : P (ltb 0 (t.block x).matched) =
    elim (ltb 0 (t.block x).matched) as P [
      | true ↦ λ h. refl
      | false ↦ λ h. let none : here ≡ pos 0 = signed_none t.side p (t.block x).matched (ltb-false 0 (t.block x).matched h) in omega (arith, ints)
    ] in
    go refl ∙ sym sum

-- over plain numbers: what a zone is due in all
zone_sum : (p f : ℤ) (s b : ℕ) → pos s ≡ pos b +ℤ f → p *ℤ pos s +ℤ neg_ℤ (p *ℤ pos b) ≡ p *ℤ f
zone_sum p f s b e = rw (e, spread p (pos b) f) (omega (arith, ints))

turned : (p f : ℤ) (s b : ℕ) → pos b ≡ pos s +ℤ f → p *ℤ pos s +ℤ neg_ℤ (p *ℤ pos b) ≡ neg_ℤ (p *ℤ f)
turned p f s b e = rw (e, spread p (pos s) f) (omega (arith, ints))

zone_exact : (z : ZoneOutcome) → total (λ d. d.exact) (zone_dues z) ≡ z.price *ℤ pos (matched selling z.sales) +ℤ neg_ℤ (z.price *ℤ pos (matched buying z.purchases))
zone_exact z =
    total_append (λ d. d.exact) (dues selling z.price z.sales) (dues buying z.price z.purchases)
    ∙ ap (λ v. v +ℤ total (λ d. d.exact) (dues buying z.price z.purchases)) (side_exact selling z.price z.sales)
    ∙ ap (λ v. z.price *ℤ pos (matched selling z.sales) +ℤ v) (side_exact buying z.price z.purchases)

cancels : (a b : ℤ) → a +ℤ neg_ℤ b +ℤ (b +ℤ neg_ℤ a) ≡ pos 0
cancels a b = omega (arith, ints)

income_sum : (p q f : ℤ) → p *ℤ f +ℤ neg_ℤ (q *ℤ f) +ℤ f *ℤ (q -ℤ p) ≡ pos 0
income_sum p q f =
    let apart : f *ℤ (q -ℤ p) ≡ q *ℤ f +ℤ neg_ℤ (p *ℤ f) = spread f q (neg_ℤ p) ∙ ap (λ a. a +ℤ f *ℤ neg_ℤ p) (*ℤ_comm f q) ∙ ap (λ a. q *ℤ f +ℤ a) (opposite f p ∙ ap neg_ℤ (*ℤ_comm f p)) in
    rw apart (cancels (p *ℤ f) (q *ℤ f))

-- what is due adds up to zero
pub zero_sum : (o : Outcome) → Balanced o → total (λ d. d.exact) (session_dues o) ≡ pos 0
zero_sum o b =
    let one = zone_exact o.one ∙ zone_sum o.one.price o.flow (matched selling o.one.sales) (matched buying o.one.purchases) b.exported in
    let two = zone_exact o.two ∙ turned o.two.price o.flow (matched selling o.two.sales) (matched buying o.two.purchases) b.imported in
    let all = total_append (λ d. d.exact) (block_dues o) (income_due o ∷ []) in
    let both = total_append (λ d. d.exact) (zone_dues o.one) (zone_dues o.two) in
    let income = income_sum o.one.price o.two.price o.flow in
    omega (arith, ints, one, two, all, both, income)

-- the remainders and the cents make up what is due
pub remainders_and_cents : (ds : List Due) → total remainder ds +ℤ pos 10 *ℤ total (λ e. e.cents) (map entry ds) ≡ total (λ d. d.exact) ds
remainders_and_cents [] = refl
remainders_and_cents (d ∷ ds) = omega (arith, ints, remainders_and_cents ds)

-- each remainder is at most half a cent
pub remainders_small : (ds : List Due) → nat_abs (total remainder ds) ≤ 5 * length ds
remainders_small [] = omega arith
remainders_small (d ∷ ds) = omega (arith, ints, remainders_small ds, rounds.half d.exact)

tenth_whole : (z c : ℤ) → z +ℤ pos 10 *ℤ c ≡ pos 0 → tenth z ≡ neg_ℤ c
tenth_whole (pos n) c h = omega (arith, ints)
tenth_whole (negsuc n) c h = omega (arith, ints)

pub adds_up : (o : Outcome) → Balanced o → AddsUp o
adds_up o b =
    let due-sum = zero_sum o b in
    let parts = remainders_and_cents (session_dues o) in
    let whole : total remainder (session_dues o) +ℤ pos 10 *ℤ total (λ e. e.cents) (entries_of o) ≡ pos 0 = parts ∙ due-sum in
    let is : residue_of o ≡ neg_ℤ (total (λ e. e.cents) (entries_of o)) = tenth_whole (total remainder (session_dues o)) (total (λ e. e.cents) (entries_of o)) whole in
    let size = remainders_small (session_dues o) in
    let long = length-map (session_dues o) entry in
    record {
      zero_sum = due-sum;
      whole = rw is (omega (arith, ints, whole));
      opposite = rw is (omega (arith, ints));
      small = rw (is, long) (omega (arith, ints, whole, size));
    }
