-- What the two price rules answer to a low end and a high end. To believe: the half of a whole number rounded down, and that
-- both rules answer the low end where it is above the high end.
use Rattle.std.specs.Prelude.{◌/◌, cond, ℤ, pos, negsuc, ◌+ℤ◌, ◌≤ℤ◌, ◌<ℤ◌, int_lt}

-- the low end itself
abbrev pub low_end : ℤ → ℤ → ℤ
low_end low high = low

-- half of a whole number, rounded down: of 3 it is 1, and of -3 it is -2 (negsuc n is -(n + 1))
abbrev pub half_down : ℤ → ℤ
half_down (pos n) = pos (n / 2)
half_down (negsuc n) = negsuc (n / 2)

-- the midpoint rounded down, or the low end where it is above the high end
abbrev pub midpoint : ℤ → ℤ → ℤ
midpoint low high = cond (int_lt high low) low (half_down (low +ℤ high))

-- twice m is the sum of the two ends, or one less
abbrev pub RoundedMidpoint : ℤ → ℤ → ℤ → Type 0
RoundedMidpoint low high m = ((m +ℤ m) ≤ℤ (low +ℤ high)) × ((low +ℤ high) <ℤ (m +ℤ m +ℤ pos 2))
