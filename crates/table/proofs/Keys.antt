-- Where a key stands in a list of rows.
use Rattle.std.proofs.Common.{◌≡◌, ℕ, Bool, false, not, List, [], ◌∷◌, is_some, Some, arith}
use Rattle.std.specs.List.{AllByRecursion}
use Rattle.std.proofs.ByRecursion.{All-from_get_or}
use Rattle.std.proofs.lemmas.Bool.{not-true}
use Rattle.std.proofs.lemmas.Bool.Decides.{nat_tests}
use Rattle.std.proofs.lemmas.List.Sums.{prefix_len-le-length, prefix_len_passes}
use Rattle.table.specs.Order.{Order}
use Rattle.table.specs.Rows.{Absent, Present, found, seat}

module _ {X K : Type 0} (o : Order X K) where
  -- an absent key is the key of no row
  pub absent_everywhere : (k : K) (xs : List X) → Absent o k xs → AllByRecursion (λ x. o.same (o.named x) k ≡ false) xs
  absent_everywhere k [] e = tt
  absent_everywhere k (x ∷ xs) e =
      let p : X → Bool = λ y. not (o.same (o.named y) k) in
      All-from_get_or (λ y. o.same (o.named y) k ≡ false) (x ∷ xs) x (λ i l. not-true _ (prefix_len_passes p (x ∷ xs) i x (omega arith)))

  -- what a search for a key says
  pub found_none : (k : K) (xs : List X) → is_some (found o k xs) ≡ false → Absent o k xs
  found_none k xs e = grind (arith, nat_tests, prefix_len-le-length (λ y. not (o.same (o.named y) k)) xs)

  pub found_at : (k : K) (xs : List X) (p : ℕ) → found o k xs ≡ Some p → (p ≡ seat o k xs) × Present o k xs
  found_at k xs p e = (grind (arith, nat_tests), grind (arith, nat_tests))
