use Rattle.std.proofs.Common.{take}
use Rattle.std.specs.Fmt.{IsPlainFormatter, HasWritten}
use Rattle.lines.specs.Answers.{entry_lines}
use Rattle.lines.proofs.printed.EntryLinesDisplay.fmt.Given as goal

-- the entries so far are written
abbrev pub invariant-loop-row : goal.invariant-loop-row
invariant-loop-row g l = IsPlainFormatter l.initial.f → HasWritten g.W.Write.write_str_gives l.initial.f (entry_lines (take l.row-index l.self.entries.now)) l.f
