-- All worked results that need no call file. To believe: that each is what the market's rules give (docs/WORKED.md).
use Rattle.std.specs.Prelude.{◌≡◌, pos, neg_ℤ}
use Rattle.auction.specs.Worked.{WorkedResults}
use Rattle.rules.specs.Prices.{midpoint}
use Rattle.settlement.specs.Rounding.{nearest_cent}
use Rattle.worked.specs.Session.{ComeOut}
use Rattle.worked.specs.Drawn.{drawn}

pub record AllWorked : Type 0 where
  -- the clearings, each by name
  pub clearings : WorkedResults
  pub midpoint_below_zero : midpoint (neg_ℤ (pos 3)) (pos 0) ≡ neg_ℤ (pos 2)
  -- rounding halves
  pub half_up : nearest_cent (pos 2005) ≡ pos 201
  pub half_down : nearest_cent (neg_ℤ (pos 2005)) ≡ neg_ℤ (pos 201)
  pub below_half : nearest_cent (pos 2004) ≡ pos 200
  -- sessions drawn at random, with the results of another program (reference/README.md)
  pub drawn_sessions : ComeOut drawn
