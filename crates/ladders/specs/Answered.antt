-- The text of an answer, as docs/CALLS.md gives it. To believe: this text, and that of a refusal.
use Rattle.std.specs.Prelude.{ℕ, List, Ok, Err, Result, codes}
use Rattle.market.specs.Answers.{refusal_text}
use Rattle.ladders.specs.declared.answered.Answered.{Answered}

abbrev pub answered_text : Answered → List ℕ
answered_text a = elim a.0 [ Ok _ ↦ codes "(ok)" | Err why ↦ refusal_text why ]
