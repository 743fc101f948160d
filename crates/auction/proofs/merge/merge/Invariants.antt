use Rattle.std.proofs.Common.{◌≡◌, ◌++◌, map, take}
use Rattle.auction.specs.Offers.{merged, rank_of}
use Rattle.auction.proofs.merge.merge.Given as goal

-- what is merged, and what is left to merge, make up the whole
abbrev pub invariant-loop-place : goal.invariant-loop-place
invariant-loop-place g l =
    take l.place-index l.offers ++ merged (rank_of g.R.BlockRow.traded) (map g.R.BlockRow.held l.one) (map g.R.BlockRow.held l.two)
    ≡ merged (rank_of g.R.BlockRow.traded) (map g.R.BlockRow.held l.initial.one) (map g.R.BlockRow.held l.initial.two)
