-- A fact of two parts is decided part by part.
use Rattle.std.proofs.Common.{◌≡◌, Bool, true, false, ℤ, Decides, subst}
use Rattle.std.proofs.lemmas.Bool.{both_ways}
use Rattle.market.specs.Limits.{PositionWithinLimits}

pub decides_second : {P Q R : Type 0} {a b : Bool} → (P → Q → R) → (R → Q) → a ≡ true → Decides a P → Decides b Q → Decides b R
decides_second join part t f s = (λ h. join (f.0 t) (s.0 h), λ r. s.1 (part r))

pub decides_first : {P R : Type 0} {a : Bool} → (R → P) → a ≡ false → Decides a P → Decides a R
decides_first {P} {R} {a} part t f = (λ h. absurd (both_ways a t h), λ r. f.1 (part r))

pub decides_at : {a : Bool} {x : ℤ} (y : ℤ) → Decides a (PositionWithinLimits x) → x ≡ y → Decides a (PositionWithinLimits y)
decides_at {a} y d e = subst (λ (z : ℤ). Decides a (PositionWithinLimits z)) e d
