-- Numbers none of which stands twice. To believe: nothing; these words only serve the code inside the table.
use Rattle.std.specs.Prelude.{ℕ, ◌+◌, ◌%◌, ◌<◌, Bool, List, length, Some, None, Decides, Option, ◌≢◌, slice_index}

abbrev pub Distinct : List ℕ → Type 0
Distinct cs = (i j : ℕ) → i < length cs → j < length cs → (i ≢ j) → slice_index cs i ≢ slice_index cs j

-- each number differs from the next
abbrev pub Changing : List ℕ → Type 0
Changing cs = (i : ℕ) → i + 1 < length cs → slice_index cs i ≢ slice_index cs (i + 1)

-- no number is c
abbrev pub Lacking : List ℕ → ℕ → Type 0
Lacking cs c = (i : ℕ) → i < length cs → slice_index cs i ≢ c

-- the remainder by which a number is marked
abbrev pub spot : ℕ → ℕ
spot c = c % 8101

-- a test that may give no answer
abbrev pub Sifted : List ℕ → Option Bool → Type 0
Sifted cs (Some b) = Decides b (Distinct cs)
Sifted cs None = Unit {0}
