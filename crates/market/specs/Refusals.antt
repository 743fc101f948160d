-- The refusals, their numbers, and which of several causes decides.
-- To believe: the numbers, and that a call is refused for the first cause in the order that holds, and for no other.
use Rattle.std.specs.Prelude.{◌≡◌, ℕ, List, [], ◌∷◌, Ok, Err, Result}
use Rattle.table.specs.declared.fault.Fault.{Fault}
use Rattle.table.specs.declared.fault.Fault.TheVariants.{Size, Disturbed}
use Rattle.table.specs.declared.fault.Refusal as table
use Rattle.table.specs.declared.fault.Refusal.TheVariants.{Taken, Full}
use Rattle.market.specs.declared.refusal.Refusal.{Refusal}
use Rattle.market.specs.declared.refusal.Refusal.TheVariants.{TableSize, TableDisturbed, OutsideLimits, PriceLimits, VolumeLimits, NoAccount, KeyTaken, TableFull, BlockAbsent, SessionNumber, CapacityLimit, EntryPlaces, PositionLimit, NoForm, WrongState}

abbrev pub refusal_number : Refusal → ℕ
refusal_number TableSize = 1
refusal_number TableDisturbed = 2
refusal_number OutsideLimits = 3
refusal_number PriceLimits = 4
refusal_number VolumeLimits = 5
refusal_number NoAccount = 6
refusal_number KeyTaken = 7
refusal_number TableFull = 8
refusal_number BlockAbsent = 9
refusal_number SessionNumber = 10
refusal_number CapacityLimit = 11
refusal_number EntryPlaces = 12
refusal_number PositionLimit = 13
refusal_number NoForm = 14
refusal_number WrongState = 15

-- the refusal of a table that is not sound
abbrev pub faulty : Fault → Refusal
faulty Size = TableSize
faulty Disturbed = TableDisturbed

-- the refusal of a row that a table does not take
abbrev pub unplaced : table.Refusal → Refusal
unplaced Taken = KeyTaken
unplaced Full = TableFull

-- a refusal, and what has to hold for it
pub record Cause : Type 1 where
  pub why : Refusal
  pub holds : Type 0

abbrev pub RefusedFor : {A : Type 0} → Refusal → Result A Refusal → Type 0
RefusedFor why (Ok _) = ⊥
RefusedFor why (Err w) = w ≡ why

-- the answer is the first cause that holds, or acceptance where none does
abbrev pub FirstCause : {A : Type 0} → List Cause → Result A Refusal → Type 0
FirstCause [] (Ok _) = Unit {0}
FirstCause [] (Err why) = ⊥
FirstCause (c ∷ cs) r = (c.holds → RefusedFor c.why r) × ((c.holds → ⊥) → FirstCause cs r)
