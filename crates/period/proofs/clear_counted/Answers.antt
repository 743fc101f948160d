use Rattle.std.proofs.Common.{◌≡◌, length, refl, arith}
use native.Mathlib.Nat.{sub-zero}
use Rattle.std.proofs.lemmas.List.{length-take-le}
use Rattle.period.proofs.Counted.{behind_counted, clears-counted}
use Rattle.period.proofs.clear_counted.Goals as goal

pub returns : goal.returns
returns g c =
    let a : length c.clear.new.sales_one ≡ c.args.sales_one.now.count = omega (arith, c.clear.auto.sales_one, length-take-le c.args.sales_one.now.count c.args.sales_one.now.rows.now c.requires.fits.0.0.1) in
    let b : length c.clear.new.purchases_one ≡ c.args.purchases_one.now.count = omega (arith, c.clear.auto.purchases_one, length-take-le c.args.purchases_one.now.count c.args.purchases_one.now.rows.now c.requires.fits.0.1.1) in
    let d : length c.clear.new.sales_two ≡ c.args.sales_two.now.count = omega (arith, c.clear.auto.sales_two, length-take-le c.args.sales_two.now.count c.args.sales_two.now.rows.now c.requires.fits.1.0.1) in
    let e : length c.clear.new.purchases_two ≡ c.args.purchases_two.now.count = omega (arith, c.clear.auto.purchases_two, length-take-le c.args.purchases_two.now.count c.args.purchases_two.now.rows.now c.requires.fits.1.1.1) in
    record {
      clears = clears-counted _ _ _ _ _ _ _ _ _ c.clear.new.sales_one _ c.clear.new.purchases_one _ c.clear.new.sales_two _ c.clear.new.purchases_two _ _ _ _ _ a b d e (simp sub-zero at c.clear.ensures.clears);
      gained = simp sub-zero at c.clear.ensures.surplus;
      well = simp sub-zero at c.clear.ensures.well;
      behind₁ = ((behind_counted c.args.sales_one.now.rows.now c.clear.new.sales_one _ a, refl), (behind_counted c.args.purchases_one.now.rows.now c.clear.new.purchases_one _ b, refl));
      behind₂ = ((behind_counted c.args.sales_two.now.rows.now c.clear.new.sales_two _ d, refl), (behind_counted c.args.purchases_two.now.rows.now c.clear.new.purchases_two _ e, refl));
    }
