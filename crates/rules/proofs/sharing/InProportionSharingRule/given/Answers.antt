use Rattle.std.proofs.Common.{refl, rules}
use Rattle.rules.specs.Proportions.{part_fits}
use Rattle.rules.proofs.sharing.InProportionSharingRule.given.Goals as goal

pub overflow_cast-result-then-fits-3 : goal.overflow_cast-result-then-fits-3
overflow_cast-result-then-fits-3 c = let within = c.if-fits.ensures.0 refl in search (rules, part_fits)
