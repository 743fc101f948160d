-- The worked results, by computation.
use Rattle.std.proofs.Common.{refl}
use Rattle.auction.specs.Offers.{comes_first}
use Rattle.auction.specs.Curve.{amount, place}
use Rattle.auction.specs.Bracket.{low_end, high_end}
use Rattle.auction.specs.Clearing.{cleared, line}
use Rattle.auction.specs.Worked.{WorkedResults}

pub worked_results : WorkedResults
unfolding cleared line comes_first amount place low_end high_end
worked_results = record {
  empty_market = refl;
  empty_market_high_end = refl;
  meeting_price = refl;
  one_cent_apart = refl;
  one_cent_apart_high_end = refl;
  uncongested = refl;
  one_tenth_short = refl;
  congested = refl;
  shared_tie = refl;
  tie_in_precedence = refl;
  tie_with_remainder = refl;
  tie_behind_tenths = refl;
  purchase_at_limit = refl;
  sale_at_limit = refl;
  tie_across_zones = refl;
  tie_across_zones_in_precedence = refl;
  no_line = refl;
  one_side_empty = refl;
  flow_back = refl;
  apart_in_both_zones = refl;
}
