use Rattle.std.proofs.Common.{◌≡◌, ◌*ℤ◌, refl, arith, w32, w64, SFits, to_z, of_z}
use Rattle.std.proofs.lemmas.Int.{ints, to_z-of_z}
use Rattle.settlement.proofs.Products.{product_small}
use Rattle.settlement.proofs.amount.product.Goals as goal

pub overflow_mul-result : goal.overflow_mul-result
overflow_mul-result c =
    let a : to_z w64 (of_z w64 (to_z w32 (of_z w32 c.args.a))) ≡ c.args.a = omega (arith, ints) in
    let b : to_z w64 (of_z w64 c.args.b) ≡ c.args.b = omega (arith, ints) in
    rw (a, b) (omega (arith, ints, product_small c.args.a c.args.b c.ranges.a c.requires))

pub returns : goal.returns
returns c =
    let a : to_z w64 (of_z w64 (to_z w32 (of_z w32 c.args.a))) ≡ c.args.a = omega (arith, ints) in
    let b : to_z w64 (of_z w64 c.args.b) ≡ c.args.b = omega (arith, ints) in
    let small = product_small c.args.a c.args.b c.ranges.a c.requires in
    let fits : SFits w64 (c.args.a *ℤ c.args.b) = omega (arith, ints, small) in
    let same = to_z-of_z w64 (c.args.a *ℤ c.args.b) fits in
    rw (a, b, same) (record { value = refl; small = small })
