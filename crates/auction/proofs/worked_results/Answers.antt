use Rattle.auction.proofs.Worked.{worked_results}
use Rattle.auction.proofs.worked_results.Goals as goal

pub returns-clause-theorem : goal.returns-clause-theorem
returns-clause-theorem c = worked_results
