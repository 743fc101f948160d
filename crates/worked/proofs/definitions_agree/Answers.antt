use Rattle.std.proofs.Common.{refl}
use Rattle.auction.proofs.Worked.{worked_results}
use Rattle.settlement.specs.Rounding.{nearest_cent}
use Rattle.worked.proofs.Drawn.{drawn_sessions}
use Rattle.worked.proofs.definitions_agree.Goals as goal

pub returns : goal.returns
unfolding nearest_cent
returns c = (record { clearings = worked_results; midpoint_below_zero = refl; half_up = refl; half_down = refl; below_half = refl; drawn_sessions = drawn_sessions }, refl)
