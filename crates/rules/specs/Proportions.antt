-- Lemmas for the laws of sharing in proportion: rounding down shares fairly. To believe: nothing.
use Rattle.std.specs.Prelude.{◌≡◌, ℕ, zero, suc, ◌+◌, ◌-◌, ◌*◌, ◌/◌, ◌<◌, ◌≤◌}
use Rattle.std.proofs.Common.{ap, ◌∙◌, mul-div_cancel, le-div_iff_mul-le, div-mul-le_self, mul-le-mul_left, mul-le-mul_right, arith}
use Rattle.std.proofs.Math.Nat.{div-zero, zero-div, add-mul-div_left}

div_rises : (a b s : ℕ) → a ≤ b → a / s ≤ b / s
div_rises a b zero h = omega (arith, div-zero a, div-zero b)
div_rises a b (suc s) h = (le-div_iff_mul-le (omega arith)).1 (omega (arith, div-mul-le_self a (suc s)))

pub part_none : (l s : ℕ) → l * 0 / s ≡ 0
part_none l s = let e : l * 0 ≡ 0 = omega arith in rw e (zero-div s)

pub part_whole : (l s : ℕ) → l ≤ s → l * s / s ≡ l
part_whole l zero h = omega (arith, div-zero (l * 0))
part_whole l (suc s) h = mul-div_cancel l (omega arith)

pub part_rises : (l s c d : ℕ) → c ≤ d → l * c / s ≤ l * d / s
part_rises l s c d k = div_rises (l * c) (l * d) s (mul-le-mul_left l k)

pub part_slowly : (l s c d : ℕ) → l ≤ s → c ≤ d → d ≤ s → l * d / s + c ≤ l * c / s + d
part_slowly l zero c d h k u = omega (arith, div-zero (l * d))
part_slowly l (suc s) c d h k u =
    let e : d ≡ c + (d - c) = omega arith in
    let v : l * d ≡ l * c + l * (d - c) = ap (λ (n : ℕ). l * n) e ∙ omega arith in
    let p : 0 < suc s = omega arith in
    omega (arith, div_rises (l * d) (l * c + suc s * (d - c)) (suc s) (omega (arith, v, mul-le-mul_right (d - c) h)), add-mul-div_left (l * c) (d - c) p)

-- no more than is shared
pub part_fits : (l s c : ℕ) → l ≤ s → c ≤ s → l * c / s ≤ l
part_fits l s c h k = omega (arith, part_rises l s c s k, part_whole l s h)
