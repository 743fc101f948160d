use borrow.Author.Differences.{ints}
use Rattle.std.proofs.Common.{◌≡◌, ℕ, suc, ◌^◌, ◌<◌, ◌≤◌, ℤ, pos, negsuc, ◌*ℤ◌, refl, mul-le-mul_right, arith, w32, w64, SFits, to_z, of_z, rules}
use Rattle.std.proofs.lemmas.Int.{to_z-of_z}
use Rattle.auction.proofs.sums.worth.Goals as goal

product_fits : (p : ℤ) (n : ℕ) → SFits w32 p → n < 2 ^ 32 → SFits w64 (p *ℤ pos n)
product_fits (pos a) n f h = let k : a ≤ 2 ^ 31 = omega (arith, f.sfits) in omega (arith, ints, mul-le-mul_right n k)
product_fits (negsuc a) n f h = let k : suc a ≤ 2 ^ 31 = omega (arith, f.sfits) in omega (arith, ints, mul-le-mul_right n k)

factors : (p : ℤ) (n : ℕ) → SFits w32 p → n < 2 ^ 32 → to_z w64 (of_z w64 (to_z w32 (of_z w32 p))) *ℤ to_z w64 n ≡ p *ℤ pos n
factors p n f h =
    let e : to_z w64 (of_z w64 (to_z w32 (of_z w32 p))) ≡ p = omega (arith, ints) in
    let e' : to_z w64 n ≡ pos n = omega (arith, ints) in
    rw (e, e') refl

pub overflow_mul-result : goal.overflow_mul-result
overflow_mul-result c =
    let f : SFits w32 c.args.price = search rules in
    let h : c.args.volume < 2 ^ 32 = omega arith in
    rw (factors c.args.price c.args.volume f h) (product_fits c.args.price c.args.volume f h)

pub returns : goal.returns
returns c =
    let f : SFits w32 c.args.price = search rules in
    let h : c.args.volume < 2 ^ 32 = omega arith in
    rw (factors c.args.price c.args.volume f h) (to_z-of_z w64 (c.args.price *ℤ pos c.args.volume) (product_fits c.args.price c.args.volume f h))
