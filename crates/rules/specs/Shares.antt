-- What a sharing rule is, and what the two rules answer. A rule g says that of an amount l, shared by a tie of s tenths, the first c
-- tenths of the tie are given g l s c. To believe: the five laws, and the two rules; a quotient is rounded down, and 0 for s = 0.
use Rattle.std.specs.Prelude.{◌≡◌, ℕ, ◌+◌, ◌-◌, ◌*◌, ◌/◌, ◌≤◌, min, cond, ◌&&◌, nat_le}

-- the laws
pub record Shares (g : ℕ → ℕ → ℕ → ℕ) : Type 0 where
  -- before the first tenth nothing has been given
  pub none : (l s : ℕ) → l ≤ s → g l s 0 ≡ 0
  -- the whole tie has been given the whole amount
  pub whole : (l s : ℕ) → l ≤ s → g l s s ≡ l
  -- it never falls as c grows to d
  pub rises : (l s c d : ℕ) → l ≤ s → c ≤ d → d ≤ s → g l s c ≤ g l s d
  -- it never grows by more than c grows
  pub slowly : (l s c d : ℕ) → l ≤ s → c ≤ d → d ≤ s → g l s d + c ≤ g l s c + d
  -- where more is to be shared than is tied, or more is counted, it is 0
  pub outside : (l s c : ℕ) → ((l ≤ s) × (c ≤ s) → ⊥) → g l s c ≡ 0

-- n where the amount and the volume counted are within the tied volume, else 0
abbrev pub if_within : ℕ → ℕ → ℕ → ℕ → ℕ
if_within l s c n = cond (nat_le l s && nat_le c s) n 0

-- by precedence: the smaller of l and c
abbrev pub by_precedence : ℕ → ℕ → ℕ → ℕ
by_precedence l s c = if_within l s c (min l c)

-- in proportion: l times c by s, rounded down
abbrev pub in_proportion : ℕ → ℕ → ℕ → ℕ
in_proportion l s c = if_within l s c (l * c / s)

-- what a block of volume v gets that has c tenths of the tie ahead of it
abbrev pub share : (ℕ → ℕ → ℕ → ℕ) → ℕ → ℕ → ℕ → ℕ → ℕ
share g l s c v = g l s (c + v) - g l s c
