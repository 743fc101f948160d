use Rattle.std.proofs.Common.{◌≡◌, ◌-ℤ◌, ◌*ℤ◌, ap, ◌∙◌, arith, w32, w64, to_z, of_z}
use Rattle.std.proofs.lemmas.Int.{ints}
use Rattle.settlement.specs.Rounding.{nearest_cent}
use Rattle.settlement.proofs.Products.{cents_small}
use Rattle.settlement.proofs.amount.congestion_income.Goals as goal

pub returns : goal.returns
returns c =
    let first = c.args.price_one in
    let second = c.args.price_two in
    let f : to_z w32 (of_z w32 c.args.flow) ≡ c.args.flow = omega (arith, ints) in
    let d : to_z w64 (of_z w64 (to_z w64 (of_z w64 (to_z w32 (of_z w32 second))) -ℤ to_z w64 (of_z w64 (to_z w32 (of_z w32 first))))) ≡ second -ℤ first = omega (arith, ints) in
    let p : c.product.result ≡ c.args.flow *ℤ (second -ℤ first) = rw (f, d) at c.product.ensures.value in
    let r : to_z w64 (of_z w64 c.product.result) ≡ c.product.result = omega (arith, ints) in
    let n : c.nearest_cent.result ≡ nearest_cent c.product.result = rw r at c.nearest_cent.ensures.value in
    let out : to_z w64 (of_z w64 c.nearest_cent.result) ≡ c.nearest_cent.result = omega (arith, ints) in
    record { value = out ∙ n ∙ ap nearest_cent p; small = rw (out, n) (cents_small c.product.result c.product.ensures.small) }
