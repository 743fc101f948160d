use Rattle.auction.proofs.Best.{clearing_is_best}
use Rattle.auction.proofs.clearing_is_best.Goals as goal

pub returns-clause-theorem : goal.returns-clause-theorem
returns-clause-theorem c = clearing_is_best
