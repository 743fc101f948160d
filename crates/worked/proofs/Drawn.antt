-- The sessions drawn at random, by computation.
use Rattle.std.proofs.Common.{refl}
use Rattle.auction.specs.Offers.{comes_first}
use Rattle.auction.specs.Curve.{amount, place}
use Rattle.auction.specs.Bracket.{low_end, high_end}
use Rattle.auction.specs.Clearing.{cleared, line}
use Rattle.settlement.specs.Rounding.{nearest_cent}
use Rattle.worked.specs.Session.{ComeOut}
use Rattle.worked.specs.Drawn.{drawn}

pub drawn_sessions : ComeOut drawn
unfolding cleared line comes_first amount place low_end high_end nearest_cent
drawn_sessions = refl
