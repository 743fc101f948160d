use Rattle.std.proofs.Common.{◌+◌, ◌≤◌, arith}
use Rattle.auction.proofs.fill.part.Goals as goal

pub overflow_sub-result : goal.overflow_sub-result
overflow_sub-result g c =
    let room : c.args.passed + c.args.volume ≤ c.args.shared.tied = c.requires.room c.in-Equal.is in
    let k = (g.met.S.SharingRule.lawful c.args.rule.now).rises c.args.shared.amount c.args.shared.tied c.args.passed (c.args.passed + c.args.volume) c.args.shared.enough (omega arith) room in
    omega (arith, k, c.given.ensures, c.given-in-Equal.ensures)
