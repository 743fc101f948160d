use Rattle.std.proofs.Common.{Some, None, Option}
use Rattle.std.proofs.lemmas.Result.{err_from_is_err_and}
use Rattle.market.specs.declared.zone.Zone.{Zone}
use Rattle.market.specs.declared.zone.Zone.TheVariants.{One, Two}
use Rattle.session.specs.Causes.{withdraw_causes}
use Rattle.session.specs.Lending.{blocks_held}
use Rattle.session.specs.Tables.{zone_at}
use Rattle.session.specs.declared.session.Session.{Session}
use Rattle.session.specs.declared.session.ZoneCounts.{ZoneCounts}
use Rattle.session.proofs.Joins.{accepted_in, refused_in}
use Rattle.session.proofs.Zones.{zone_found, zone_missing}
use Rattle.session.proofs.session.Session.withdraw.Goals as goal

pub returns-in_err-one-in-One-clause-why : goal.returns-in_err-one-in-One-clause-why
returns-in_err-one-in-One-clause-why c =
    let a = c.args in
    let d = err_from_is_err_and c.from_residual-in_err-one-in-One.result c.from_residual-in_err-one-in-One.ensures.1 in
    rw (d.1, d.2) (refused_in ZoneCounts Session (λ (z : Option Zone). withdraw_causes z a.side a.key (blocks_held a.self a.blocks.now)) (Some One) (zone_at a.zone) c.in_err-one-in-One.field-0.0 (zone_found a.zone _ One c.in-One.is c.in_ok-try_from.ensures) c.in_err-one-in-One.ensures.why)

pub returns-in_ok-one-in-One-clause-why : goal.returns-in_ok-one-in-One-clause-why
returns-in_ok-one-in-One-clause-why c =
    let a = c.args in
    accepted_in (λ (z : Option Zone). withdraw_causes z a.side a.key (blocks_held a.self a.blocks.now)) (Some One) (zone_at a.zone) c.in_ok-one-in-One.one _ (zone_found a.zone _ One c.in-One.is c.in_ok-try_from.ensures) c.in_ok-one-in-One.ensures.why

pub returns-in_err-two-in-Two-clause-why : goal.returns-in_err-two-in-Two-clause-why
returns-in_err-two-in-Two-clause-why c =
    let a = c.args in
    let d = err_from_is_err_and c.from_residual-in_err-two-in-Two.result c.from_residual-in_err-two-in-Two.ensures.1 in
    rw (d.1, d.2) (refused_in ZoneCounts Session (λ (z : Option Zone). withdraw_causes z a.side a.key (blocks_held a.self a.blocks.now)) (Some Two) (zone_at a.zone) c.in_err-two-in-Two.field-0.0 (zone_found a.zone _ Two c.in-Two.is c.in_ok-try_from.ensures) c.in_err-two-in-Two.ensures.why)

pub returns-in_ok-two-in-Two-clause-why : goal.returns-in_ok-two-in-Two-clause-why
returns-in_ok-two-in-Two-clause-why c =
    let a = c.args in
    accepted_in (λ (z : Option Zone). withdraw_causes z a.side a.key (blocks_held a.self a.blocks.now)) (Some Two) (zone_at a.zone) c.in_ok-two-in-Two.two _ (zone_found a.zone _ Two c.in-Two.is c.in_ok-try_from.ensures) c.in_ok-two-in-Two.ensures.why

pub returns-in_err-try_from-clause-why : goal.returns-in_err-try_from-clause-why
returns-in_err-try_from-clause-why c =
    let a = c.args in
    let d = err_from_is_err_and c.from_residual.result c.from_residual.ensures.1 in
    rw (d.1, d.2) (refused_in Session Session (λ (z : Option Zone). withdraw_causes z a.side a.key (blocks_held a.self a.blocks.now)) None (zone_at a.zone) c.in_err-try_from.field-0.0 (zone_missing a.zone c.in_err-try_from.ensures.1) (λ _. c.in_err-try_from.ensures.0, λ n. absurd (n tt)))
