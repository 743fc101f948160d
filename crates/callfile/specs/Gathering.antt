-- What a line buffer holds. A reader must believe that `gathered` is what a program may keep of a line: all of it, or
-- nothing if it has more than 120 bytes; and that `items` of an array vector are the bytes put into it.
use Rattle.std.specs.Prelude.{◌≡◌, ℕ, cond, List, [], ◌∷◌, ◌++◌, length, Some, None, Option, nat_le}
use Rattle.std.specs.Option.{option_map}
use Rattle.callfile.specs.declared.line.LineBuffer.{LineBuffer}

abbrev pub gathered : List ℕ → Option (List ℕ)
gathered line = cond (nat_le (length line) 120) (Some line) None

abbrev pub held : LineBuffer → Option (List ℕ)
held b = option_map (λ v. v.items) b.bytes

-- the buffer holds what may be kept of the line
abbrev pub Holds : LineBuffer → List ℕ → Type 0
Holds b line = held b ≡ gathered line

-- one byte more
abbrev pub with_byte : Option (List ℕ) → ℕ → Option (List ℕ)
with_byte None byte = None
with_byte (Some line) byte = gathered (line ++ byte ∷ [])
