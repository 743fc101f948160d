use Rattle.std.proofs.Common.{sym, ap}
use Rattle.std.proofs.Output.{has_written_of_eq}
use Rattle.exchange.specs.declared.exchange.Answer.{Answer}
use Rattle.lines.specs.Answers.{answer_text}
use Rattle.lines.proofs.printed.PrintedDisplay.fmt.Goals as goal

pub returns-in-Cleared-clause-writes : goal.returns-in-Cleared-clause-writes
returns-in-Cleared-clause-writes g c plain ok =
    has_written_of_eq g.W.Write.write_str_gives _ _ _ _ (sym (ap (λ (a : Answer). answer_text a c.args.self.now.entries.now) c.in-Cleared.is))
    (c.writeln-in-Cleared.ensures.writes plain ok)
