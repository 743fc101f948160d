use Rattle.std.proofs.Common.{arith, w32, SFits, to_z, of_z, rules}
use Rattle.std.proofs.lemmas.Int.{ints, to_z-of_z}
use Rattle.settlement.specs.Sessions.{zone_of}
use Rattle.settlement.proofs.Parts.{zone_total}
use Rattle.settlement.proofs.session.ClearedZone.total_cents.Goals as goal

pub returns-clause-value : goal.returns-clause-value
returns-clause-value c =
    let fits : SFits w32 c.args.self.price = search rules in
    let parts = zone_total (λ e. e.cents) (zone_of c.args.self) (to_z w32 (of_z w32 c.args.self.price)) (to_z-of_z w32 c.args.self.price fits) in
    omega (arith, ints, parts, c.total_cents.ensures.value, c.total_cents-2.ensures.value)
