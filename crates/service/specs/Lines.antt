-- Which lines of an input are answered. To believe: a line ends at its newline, which is byte 10, and is no part of it; every line that
-- ends is answered in turn, and of a line of more than 120 bytes it is only known that it was too long.
use Rattle.std.specs.Prelude.{◌≡◌, ℕ, Bool, true, false, cond, List, [], ◌∷◌, ◌++◌, Option, ◌==◌}
use Rattle.callfile.specs.Gathering.{Holds, gathered}
use Rattle.callfile.specs.declared.line.LineBuffer.{LineBuffer}

-- the lines that end within the bytes, where `line` is begun before them
abbrev pub ended : List ℕ → List ℕ → List (List ℕ)
ended line [] = []
ended line (byte ∷ bytes) = cond (byte == 10) (line ∷ ended [] bytes) (ended (line ++ byte ∷ []) bytes)

-- what is begun of a line after them
abbrev pub begun_after : List ℕ → List ℕ → List ℕ
begun_after line [] = line
begun_after line (byte ∷ bytes) = cond (byte == 10) (begun_after [] bytes) (begun_after (line ++ byte ∷ []) bytes)

-- the lines are answered one after the other, and turn a service into another
abbrev pub Answered : {S : Type 0} → (S → Option (List ℕ) → S → Type 0) → S → List (List ℕ) → S → Type 0
Answered turns s [] t = t ≡ s
Answered {S} turns s (line ∷ lines) t = (m : S) × turns s (gathered line) m × Answered turns m lines t

abbrev pub is_begun : List ℕ → Bool
is_begun [] = false
is_begun (byte ∷ line) = true

-- the last line is answered too where no newline ends it
abbrev pub last_line : List ℕ → List (List ℕ)
last_line [] = []
last_line (byte ∷ line) = (byte ∷ line) ∷ []

-- the input stands within the line: the buffer holds it
abbrev pub Within : LineBuffer → List ℕ → Type 0
Within b line = Holds b line
