-- What a call on a table answers and leaves: xs is the whole slice and n the count before it, ys and m the same after it.
-- To believe: that the counted rows are the first n of the slice, and that places past the new count keep what they held.
use Rattle.std.specs.Prelude.{◌≡◌, ℕ, ◌+◌, ◌<◌, ◌≤◌, Bool, true, false, List, ◌++◌, length, take, drop, Ok, Err, Result}
use Rattle.table.specs.Order.{Order}
use Rattle.table.specs.Rows.{Sound, Present, Absent, with_row, without}
use Rattle.table.specs.declared.fault.Fault.{Fault}
use Rattle.table.specs.declared.fault.Fault.TheVariants.{Size, Disturbed}
use Rattle.table.specs.declared.fault.Refusal.{Refusal}
use Rattle.table.specs.declared.fault.Refusal.TheVariants.{Taken, Full}

-- the slice has no more places than the largest count, and no fewer than are counted
abbrev pub Fitting : {X : Type 0} → ℕ → List X → ℕ → Type 0
Fitting most xs n = (length xs ≤ most) × (n ≤ length xs)

-- what `check` says
abbrev pub Judged : {X K T : Type 0} → Order X K → (X → Type 0) → ℕ → List X → ℕ → Result T Fault → Type 0
Judged o limits most xs n (Ok _) = Fitting most xs n × Sound o limits (take n xs)
Judged o limits most xs n (Err Size) = Fitting most xs n → ⊥
Judged o limits most xs n (Err Disturbed) = Fitting most xs n × (Sound o limits (take n xs) → ⊥)

-- nothing changed
abbrev pub Kept : {X : Type 0} → List X → ℕ → List X → ℕ → Type 0
Kept xs n ys m = (ys ≡ xs) × (m ≡ n)

-- what `insert` says
abbrev pub Inserted : {X K T : Type 0} → Order X K → X → List X → ℕ → List X → ℕ → Result T Refusal → Type 0
Inserted o x xs n ys m (Ok _) = Absent o (o.named x) (take n xs) × (n < length xs) × (ys ≡ with_row o x (take n xs) ++ drop (n + 1) xs) × (m ≡ n + 1)
Inserted o x xs n ys m (Err Taken) = Present o (o.named x) (take n xs) × Kept xs n ys m
Inserted o x xs n ys m (Err Full) = Absent o (o.named x) (take n xs) × (length xs ≤ n) × Kept xs n ys m

-- what `remove` says
abbrev pub Removed : {X K : Type 0} → Order X K → K → List X → ℕ → List X → ℕ → Bool → Type 0
Removed o k xs n ys m true = Present o k (take n xs) × (ys ≡ without o k (take n xs) ++ drop m xs) × (m + 1 ≡ length (take n xs))
Removed o k xs n ys m false = Absent o k (take n xs) × Kept xs n ys m
