-- The text of an answer, as docs/CALLS.md gives it: every line with the newline that ends it.
-- To believe: these texts, and those of a refusal, of a clearing, of an entry and of a settlement.
use Rattle.std.specs.Prelude.{ℕ, List, [], ◌∷◌, ◌++◌, take, codes}
use Rattle.market.specs.Answers.{refusal_text}
use Rattle.settlement.specs.Answers.{entry_text, settled_text}
use Rattle.settlement.specs.declared.entry.Entry.{Entry}
use Rattle.session.specs.Answers.{report_text}
use Rattle.exchange.specs.declared.exchange.Answer.{Answer}
use Rattle.exchange.specs.declared.exchange.Answer.TheVariants.{Accepted, Cleared, Settled, Refused}

abbrev pub newline : List ℕ
newline = 10 ∷ []

abbrev pub entry_lines : List Entry → List ℕ
entry_lines [] = []
entry_lines (e ∷ es) = entry_text e ++ (newline ++ entry_lines es)

-- of the entry list that was lent, a settlement prints as many entries as it wrote
abbrev pub answer_text : Answer → List Entry → List ℕ
answer_text Accepted es = codes "(ok)" ++ newline
answer_text (Cleared report) es = report_text report ++ newline
answer_text (Settled settled) es = entry_lines (take settled.entries es) ++ (settled_text settled ++ newline)
answer_text (Refused why) es = refusal_text why ++ newline
