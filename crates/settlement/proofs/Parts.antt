-- The entries of a zone and of a session, part by part.
use Rattle.std.proofs.Common.{◌≡◌, ◌+◌, Bool, true, false, List, [], ◌∷◌, ◌++◌, length, ℤ, ◌+ℤ◌, Decides, filter, sym, ap, ◌∙◌, subst, arith, length-append}
use lib.ListN.{length-map}
use Rattle.std.specs.List.{AllByRecursion}
use Rattle.std.proofs.ByRecursion.{All-append}
use Rattle.std.proofs.lemmas.List.{map-append}
use Rattle.std.proofs.lemmas.Int.{ints}
use Rattle.settlement.specs.Entries.{Outcome, Trade, ZoneOutcome, block_dues, block_entries, buying, due, dues, entries_of, entry, income_due, is_matched, selling, side_entries, zone_dues, zone_entries}
use Rattle.settlement.specs.Postings.{income_of, total}
use Rattle.settlement.specs.declared.entry.Entry.{Entry}
use Rattle.settlement.proofs.Deciding.{decides_first, decides_second}
use Rattle.settlement.proofs.Rows.{all_parts}
use Rattle.settlement.proofs.Sums.{total_append}

pub zone_parts : (z : ZoneOutcome) → zone_entries z ≡ side_entries selling z.price z.sales ++ side_entries buying z.price z.purchases
zone_parts z = map-append entry (dues selling z.price z.sales) (dues buying z.price z.purchases)

-- at a price that equals the zone's
pub zone_total : (f : Entry → ℤ) (z : ZoneOutcome) (p : ℤ) → p ≡ z.price → total f (zone_entries z) ≡ total f (side_entries selling p z.sales) +ℤ total f (side_entries buying p z.purchases)
zone_total f z p e =
    ap (total f) (zone_parts z ∙ ap (λ (q : ℤ). side_entries selling q z.sales ++ side_entries buying q z.purchases) (sym e)) ∙ total_append f (side_entries selling p z.sales) (side_entries buying p z.purchases)

pub block_parts : (o : Outcome) → block_entries o ≡ zone_entries o.one ++ zone_entries o.two
block_parts o = map-append entry (zone_dues o.one) (zone_dues o.two)

pub entry_parts : (o : Outcome) → entries_of o ≡ block_entries o ++ entry (income_due o) ∷ []
entry_parts o = map-append entry (block_dues o) (income_due o ∷ [])

pub block_total : (f : Entry → ℤ) (o : Outcome) → total f (block_entries o) ≡ total f (zone_entries o.one) +ℤ total f (zone_entries o.two)
block_total f o = ap (total f) (block_parts o) ∙ total_append f (zone_entries o.one) (zone_entries o.two)

-- as many entries as blocks with anything matched
side_count : {X : Type 0} (t : Trade X) (p : ℤ) (xs : List X) → length (side_entries t p xs) ≡ length (filter (is_matched t) xs)
side_count t p xs = length-map (dues t p xs) entry ∙ length-map (filter (is_matched t) xs) (due t p)

pub zone_count : (z : ZoneOutcome) → length (zone_entries z) ≡ length (filter (is_matched selling) z.sales) + length (filter (is_matched buying) z.purchases)
zone_count z =
    let sold = side_count selling z.price z.sales in
    let bought = side_count buying z.price z.purchases in
    omega (arith, sold, bought, ap length (zone_parts z), length-append (side_entries selling z.price z.sales) (side_entries buying z.price z.purchases))

pub session_count : (o : Outcome) → length (entries_of o) ≡ length (zone_entries o.one) + length (zone_entries o.two) + 1
session_count o =
    omega (arith, ap length (entry_parts o), length-append (block_entries o) (entry (income_due o) ∷ []), ap length (block_parts o), length-append (zone_entries o.one) (zone_entries o.two))

-- what holds of each entry of two parts is decided by the parts
module _ {X : Type 0} (P : X → Type 0) (xs ys zs : List X) (parts : zs ≡ xs ++ ys) where
  join : AllByRecursion P xs → AllByRecursion P ys → AllByRecursion P zs
  join h k = subst (AllByRecursion P) (sym parts) (All-append P xs ys h k)

  pub both_true : {a b : Bool} → a ≡ true → Decides a (AllByRecursion P xs) → Decides b (AllByRecursion P ys) → Decides b (AllByRecursion P zs)
  both_true = decides_second join (λ h. (all_parts P xs ys (subst (AllByRecursion P) parts h)).1)

  pub both_false : {a : Bool} → a ≡ false → Decides a (AllByRecursion P xs) → Decides a (AllByRecursion P zs)
  both_false = decides_first (λ h. (all_parts P xs ys (subst (AllByRecursion P) parts h)).0)

-- the cents of all entries, part by part
pub block_cents : (o : Outcome) → total (λ e. e.cents) (entries_of o) ≡ total (λ e. e.cents) (block_entries o) +ℤ income_of o
block_cents o =
    let whole = ap (total (λ e. e.cents)) (entry_parts o) ∙ total_append (λ e. e.cents) (block_entries o) (entry (income_due o) ∷ []) in
    omega (arith, ints, whole)

pub cents_parts : (o : Outcome) → total (λ e. e.cents) (entries_of o) ≡ total (λ e. e.cents) (zone_entries o.one) +ℤ total (λ e. e.cents) (zone_entries o.two) +ℤ income_of o
cents_parts o =
    block_cents o ∙ ap (λ z. z +ℤ income_of o) (block_total (λ e. e.cents) o)
