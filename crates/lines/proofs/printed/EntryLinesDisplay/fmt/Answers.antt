use Rattle.std.proofs.Common.{◌≡◌, true, take, is_ok, ap, take_all, rules}
use Rattle.std.proofs.Output.{has_written_of_eq, has_written_append}
use Rattle.lines.specs.Answers.{entry_lines}
use Rattle.lines.proofs.Texts.{lines_more}
use Rattle.lines.proofs.printed.EntryLinesDisplay.fmt.Goals as goal

pub loop-row-preserved : goal.loop-row-preserved
loop-row-preserved g c plain =
    let es = c.args.self.now.entries.now in
    let i = c.loop-row.row-index in
    let so_far = c.loop-row.invariant plain in
    let ok : is_ok c.writeln.result ≡ true = search rules in
    let more = c.writeln.ensures.writes so_far.plain ok in
    has_written_of_eq g.W.Write.write_str_gives _ _ _ _ (lines_more es i _ c.loop-row-test.true) (has_written_append g.W.Write.write_str_gives _ (entry_lines (take i es)) _ _ _ so_far more)

pub returns-clause-writes : goal.returns-clause-writes
returns-clause-writes g c plain ok =
    let es = c.args.self.now.entries.now in
    has_written_of_eq g.W.Write.write_str_gives _ _ _ _ (ap entry_lines (take_all c.loop-row.row-index es c.loop-row-test.false)) (c.loop-row.invariant plain)
