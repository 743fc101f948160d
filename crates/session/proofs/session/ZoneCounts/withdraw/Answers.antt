use Rattle.std.proofs.Common.{Ok, Err, refl}
use Rattle.std.proofs.lemmas.Result.{err_from_is_err_and}
use Rattle.session.specs.Causes.{side_withdraw_causes}
use Rattle.session.specs.Lending.{zone_held}
use Rattle.session.specs.Tables.{withdrawn_in, lent, purchase_kind, sale_kind, taken_out}
use Rattle.session.proofs.Joins.{in_purchases, in_sales}
use Rattle.session.proofs.session.ZoneCounts.withdraw.Goals as goal

pub returns-in_err-sales-in-Sale : goal.returns-in_err-sales-in-Sale
returns-in_err-sales-in-Sale c =
    let a = c.args in
    let d = err_from_is_err_and c.from_residual.result c.from_residual.ensures.1 in
    rw (d.1, d.2) (in_sales (λ s. side_withdraw_causes s a.key (zone_held a.self a.places.now)) (λ s. withdrawn_in s a.key) a.self a.places.now a.side c.in-Sale.is (taken_out sale_kind a.key (lent a.places.now.sales.now a.self.sales)) refl (Err c.in_err-sales-in-Sale.field-0.0) c.withdraw_row.new.rows c.in_err-sales-in-Sale.ensures c.withdraw_row.auto.rows)

pub returns-in_ok-sales-in-Sale : goal.returns-in_ok-sales-in-Sale
returns-in_ok-sales-in-Sale c =
    let a = c.args in
    in_sales (λ s. side_withdraw_causes s a.key (zone_held a.self a.places.now)) (λ s. withdrawn_in s a.key) a.self a.places.now a.side c.in-Sale.is (taken_out sale_kind a.key (lent a.places.now.sales.now a.self.sales)) refl (Ok c.in_ok-sales-in-Sale.sales) c.withdraw_row.new.rows c.in_ok-sales-in-Sale.ensures c.withdraw_row.auto.rows

pub returns-in_err-purchases-in-Purchase : goal.returns-in_err-purchases-in-Purchase
returns-in_err-purchases-in-Purchase c =
    let a = c.args in
    let d = err_from_is_err_and c.from_residual-in_err-purchases-in-Purchase.result c.from_residual-in_err-purchases-in-Purchase.ensures.1 in
    rw (d.1, d.2) (in_purchases (λ s. side_withdraw_causes s a.key (zone_held a.self a.places.now)) (λ s. withdrawn_in s a.key) a.self a.places.now a.side c.in-Purchase.is (taken_out purchase_kind a.key (lent a.places.now.purchases.now a.self.purchases)) refl (Err c.in_err-purchases-in-Purchase.field-0.0) c.withdraw_row-in-Purchase.new.rows c.in_err-purchases-in-Purchase.ensures c.withdraw_row-in-Purchase.auto.rows)

pub returns-in_ok-purchases-in-Purchase : goal.returns-in_ok-purchases-in-Purchase
returns-in_ok-purchases-in-Purchase c =
    let a = c.args in
    in_purchases (λ s. side_withdraw_causes s a.key (zone_held a.self a.places.now)) (λ s. withdrawn_in s a.key) a.self a.places.now a.side c.in-Purchase.is (taken_out purchase_kind a.key (lent a.places.now.purchases.now a.self.purchases)) refl (Ok c.in_ok-purchases-in-Purchase.purchases) c.withdraw_row-in-Purchase.new.rows c.in_ok-purchases-in-Purchase.ensures c.withdraw_row-in-Purchase.auto.rows
