use Rattle.auction.proofs.Best.{tenths_placed}
use Rattle.auction.proofs.tenths_placed.Goals as goal

pub returns-clause-theorem : goal.returns-clause-theorem
returns-clause-theorem c = tenths_placed
