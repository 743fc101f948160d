use Rattle.std.proofs.Common.{Some, None, Option}
use Rattle.std.proofs.lemmas.Result.{err_from_is_err_and}
use Rattle.market.specs.declared.zone.Zone.{Zone}
use Rattle.market.specs.declared.zone.Zone.TheVariants.{One, Two}
use Rattle.session.specs.Causes.{enter_causes}
use Rattle.session.specs.Lending.{blocks_held, seen}
use Rattle.session.specs.Tables.{zone_at}
use Rattle.session.specs.declared.session.Session.{Session}
use Rattle.session.specs.declared.session.ZoneCounts.{ZoneCounts}
use Rattle.session.proofs.Joins.{accepted_in, refused_in}
use Rattle.session.proofs.Zones.{zone_found, zone_missing}
use Rattle.session.proofs.session.Session.enter.Goals as goal

pub returns-in_err-one-in-Ok-One-clause-why : goal.returns-in_err-one-in-Ok-One-clause-why
returns-in_err-one-in-Ok-One-clause-why c =
    let a = c.args in
    let d = err_from_is_err_and c.from_residual.result c.from_residual.ensures.1 in
    rw (d.1, d.2) (refused_in ZoneCounts Session (λ (z : Option Zone). enter_causes z a.side a.bid (blocks_held a.self a.blocks.now) (seen a.accounts)) (Some One) (zone_at a.zone) c.in_err-one-in-Ok-One.field-0.0 (zone_found a.zone _ One c.in-Ok-One.field-0-is c.in-Ok-One.ensures) c.in_err-one-in-Ok-One.ensures.why)

pub returns-in_ok-one-in-Ok-One-clause-why : goal.returns-in_ok-one-in-Ok-One-clause-why
returns-in_ok-one-in-Ok-One-clause-why c =
    let a = c.args in
    accepted_in (λ (z : Option Zone). enter_causes z a.side a.bid (blocks_held a.self a.blocks.now) (seen a.accounts)) (Some One) (zone_at a.zone) c.in_ok-one-in-Ok-One.one _ (zone_found a.zone _ One c.in-Ok-One.field-0-is c.in-Ok-One.ensures) c.in_ok-one-in-Ok-One.ensures.why

pub returns-in_err-two-in-Ok-Two-clause-why : goal.returns-in_err-two-in-Ok-Two-clause-why
returns-in_err-two-in-Ok-Two-clause-why c =
    let a = c.args in
    let d = err_from_is_err_and c.from_residual-in_err-two-in-Ok-Two.result c.from_residual-in_err-two-in-Ok-Two.ensures.1 in
    rw (d.1, d.2) (refused_in ZoneCounts Session (λ (z : Option Zone). enter_causes z a.side a.bid (blocks_held a.self a.blocks.now) (seen a.accounts)) (Some Two) (zone_at a.zone) c.in_err-two-in-Ok-Two.field-0.0 (zone_found a.zone _ Two c.in-Ok-Two.field-0-is c.in-Ok-Two.ensures) c.in_err-two-in-Ok-Two.ensures.why)

pub returns-in_ok-two-in-Ok-Two-clause-why : goal.returns-in_ok-two-in-Ok-Two-clause-why
returns-in_ok-two-in-Ok-Two-clause-why c =
    let a = c.args in
    accepted_in (λ (z : Option Zone). enter_causes z a.side a.bid (blocks_held a.self a.blocks.now) (seen a.accounts)) (Some Two) (zone_at a.zone) c.in_ok-two-in-Ok-Two.two _ (zone_found a.zone _ Two c.in-Ok-Two.field-0-is c.in-Ok-Two.ensures) c.in_ok-two-in-Ok-Two.ensures.why

pub returns-in-Err-clause-why : goal.returns-in-Err-clause-why
returns-in-Err-clause-why c =
    let a = c.args in
    refused_in Session Session (λ (z : Option Zone). enter_causes z a.side a.bid (blocks_held a.self a.blocks.now) (seen a.accounts)) None (zone_at a.zone) c.wrong_zone.result (zone_missing a.zone c.in-Err.ensures.1) c.wrong_zone.ensures
