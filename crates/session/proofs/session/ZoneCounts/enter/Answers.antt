use Rattle.std.proofs.Common.{Ok, Err, refl}
use Rattle.std.proofs.lemmas.Result.{err_from_is_err_and}
use Rattle.session.specs.Causes.{side_enter_causes}
use Rattle.session.specs.Lending.{seen, zone_held}
use Rattle.session.specs.Tables.{entered_in, lent, put_in, purchase_kind, purchase_row, sale_kind, sale_row}
use Rattle.session.proofs.Joins.{in_purchases, in_sales}
use Rattle.session.proofs.session.ZoneCounts.enter.Goals as goal

pub returns-in_err-sales-in-Sale : goal.returns-in_err-sales-in-Sale
returns-in_err-sales-in-Sale c =
    let a = c.args in
    let d = err_from_is_err_and c.from_residual.result c.from_residual.ensures.1 in
    rw (d.1, d.2) (in_sales (λ s. side_enter_causes s a.bid (zone_held a.self a.places.now) (seen a.accounts)) (λ s. entered_in s a.bid) a.self a.places.now a.side c.in-Sale.is (put_in sale_kind (sale_row a.bid) (lent a.places.now.sales.now a.self.sales)) refl (Err c.in_err-sales-in-Sale.field-0.0) c.enter_row.new.rows c.in_err-sales-in-Sale.ensures c.enter_row.auto.rows)

pub returns-in_ok-sales-in-Sale : goal.returns-in_ok-sales-in-Sale
returns-in_ok-sales-in-Sale c =
    let a = c.args in
    in_sales (λ s. side_enter_causes s a.bid (zone_held a.self a.places.now) (seen a.accounts)) (λ s. entered_in s a.bid) a.self a.places.now a.side c.in-Sale.is (put_in sale_kind (sale_row a.bid) (lent a.places.now.sales.now a.self.sales)) refl (Ok c.in_ok-sales-in-Sale.sales) c.enter_row.new.rows c.in_ok-sales-in-Sale.ensures c.enter_row.auto.rows

pub returns-in_err-purchases-in-Purchase : goal.returns-in_err-purchases-in-Purchase
returns-in_err-purchases-in-Purchase c =
    let a = c.args in
    let d = err_from_is_err_and c.from_residual-in_err-purchases-in-Purchase.result c.from_residual-in_err-purchases-in-Purchase.ensures.1 in
    rw (d.1, d.2) (in_purchases (λ s. side_enter_causes s a.bid (zone_held a.self a.places.now) (seen a.accounts)) (λ s. entered_in s a.bid) a.self a.places.now a.side c.in-Purchase.is (put_in purchase_kind (purchase_row a.bid) (lent a.places.now.purchases.now a.self.purchases)) refl (Err c.in_err-purchases-in-Purchase.field-0.0) c.enter_row-in-Purchase.new.rows c.in_err-purchases-in-Purchase.ensures c.enter_row-in-Purchase.auto.rows)

pub returns-in_ok-purchases-in-Purchase : goal.returns-in_ok-purchases-in-Purchase
returns-in_ok-purchases-in-Purchase c =
    let a = c.args in
    in_purchases (λ s. side_enter_causes s a.bid (zone_held a.self a.places.now) (seen a.accounts)) (λ s. entered_in s a.bid) a.self a.places.now a.side c.in-Purchase.is (put_in purchase_kind (purchase_row a.bid) (lent a.places.now.purchases.now a.self.purchases)) refl (Ok c.in_ok-purchases-in-Purchase.purchases) c.enter_row-in-Purchase.new.rows c.in_ok-purchases-in-Purchase.ensures c.enter_row-in-Purchase.auto.rows
