-- The counted rows of a table as a list: when they are sound, where a key stands, and the list that an edit leaves.
-- To believe: that a sound table has every row within its limits, each row before every later one, and no key twice.
use Rattle.std.specs.Prelude.{◌≡◌, ℕ, ◌<◌, true, false, cond, not, List, [], ◌∷◌, length, Some, None, Option, nat_lt}
use Rattle.std.specs.List.{prefix_len, insert, remove, AllByRecursion}
use Rattle.table.specs.Order.{Order}

-- each element stands to each later one in R
abbrev pub Pairwise : {X : Type 0} → (X → X → Type 0) → List X → Type 0
Pairwise R [] = Unit {0}
Pairwise R (x ∷ xs) = AllByRecursion (R x) xs × Pairwise R xs

-- each row comes before every later one
abbrev pub Rising : {X K : Type 0} → Order X K → List X → Type 0
Rising o xs = Pairwise (λ x y. o.precedes x y ≡ true) xs

-- no key stands twice
abbrev pub Apart : {X K : Type 0} → Order X K → List X → Type 0
Apart o xs = Pairwise (λ x y. o.same (o.named x) (o.named y) ≡ false) xs

-- each row's number is below that of every later one
abbrev pub Climbing : {X : Type 0} → (X → ℕ) → List X → Type 0
Climbing f xs = Pairwise (λ x y. f x < f y) xs

pub record Sound {X K : Type 0} (o : Order X K) (limits : X → Type 0) (xs : List X) : Type 0 where
  pub within : AllByRecursion limits xs
  pub rising : Rising o xs
  pub apart : Apart o xs

-- the place of the first row with the key k, or the length where there is none
abbrev pub seat : {X K : Type 0} → Order X K → K → List X → ℕ
seat o k xs = prefix_len (λ x. not (o.same (o.named x) k)) xs

abbrev pub Present : {X K : Type 0} → Order X K → K → List X → Type 0
Present o k xs = seat o k xs < length xs

abbrev pub Absent : {X K : Type 0} → Order X K → K → List X → Type 0
Absent o k xs = seat o k xs ≡ length xs

-- the place of the row with the key k, if there is one
abbrev pub found : {X K : Type 0} → Order X K → K → List X → Option ℕ
found o k xs = cond (nat_lt (seat o k xs) (length xs)) (Some (seat o k xs)) None

-- how many rows, from the first on, come before x
abbrev pub rank : {X K : Type 0} → Order X K → X → List X → ℕ
rank o x xs = prefix_len (λ y. o.precedes y x) xs

-- xs with x put in behind the rows that come before it
abbrev pub with_row : {X K : Type 0} → Order X K → X → List X → List X
with_row o x xs = insert xs (rank o x xs) x

-- xs without the first row of the key k
abbrev pub without : {X K : Type 0} → Order X K → K → List X → List X
without o k xs = remove xs (seat o k xs)
