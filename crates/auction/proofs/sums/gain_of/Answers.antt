use borrow.Author.Differences.{ints}
use Rattle.std.proofs.Common.{◌≡◌, ℤ, pos, ◌-ℤ◌, neg_ℤ, ◌≤ℤ◌, refl, arith, w64, SFits, to_z, of_z}
use Rattle.std.proofs.lemmas.Int.{to_z-of_z}
use Rattle.auction.proofs.sums.gain_of.Goals as goal

-- what a table's blocks can be worth, and how far two of them can lie apart
abbrev Near : ℤ → Type 0
Near a = (neg_ℤ (pos 7680000000000) ≤ℤ a) × (a ≤ℤ pos 7680000000000)

abbrev Apart : ℤ → Type 0
Apart a = (neg_ℤ (pos 15360000000000) ≤ℤ a) × (a ≤ℤ pos 15360000000000)

near_fits : (a : ℤ) → Near a → SFits w64 a
near_fits a h = omega (arith, ints)

difference : (a b A B : ℤ) → a ≡ A → b ≡ B → Near a → Near b → (to_z w64 (of_z w64 (to_z w64 (of_z w64 a) -ℤ to_z w64 (of_z w64 b))) ≡ A -ℤ B) × Apart (A -ℤ B)
difference a b A B e e' h k =
    let d : SFits w64 (a -ℤ b) = omega (arith, ints) in
    (rw (to_z-of_z w64 a (near_fits a h), to_z-of_z w64 b (near_fits b k), to_z-of_z w64 (a -ℤ b) d, e, e') refl, (omega (arith, ints), omega (arith, ints)))

pub returns : goal.returns
returns c =
    let d = difference c.money_of.result c.money_of-2.result _ _ c.money_of.ensures.value c.money_of-2.ensures.value c.money_of.ensures.within c.money_of-2.ensures.within in
    record { value = d.0; within = rw d.0 d.1 }
