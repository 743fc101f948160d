-- The ladders, one for each zone and side, and what entering a bid does to them.
-- To believe: a bid goes to the ladder of its own zone and side, at its place in the precedence, and every other ladder stays.
use Rattle.std.specs.Prelude.{◌≡◌, ℕ, ◌+◌, ◌≤◌, List, [], ◌∷◌, ◌++◌, length, take, drop, Some, Ok, Err, Option, Result, ◌≢◌}
use Rattle.table.specs.Order.{Order}
use Rattle.table.specs.Rows.{Present, with_row}
use Rattle.table.specs.declared.table.Table.{Table}
use Rattle.market.specs.Entering.{bid_causes, fresh}
use Rattle.market.specs.Precedence.{purchase_order, sale_order}
use Rattle.market.specs.Refusals.{Cause, FirstCause, RefusedFor}
use Rattle.market.specs.Zones.{zone_number}
use Rattle.market.specs.declared.block.Bid.{Bid}
use Rattle.market.specs.declared.call.Call.TheVariants.{Enter}
use Rattle.market.specs.declared.refusal.Refusal.{Refusal}
use Rattle.market.specs.declared.refusal.Refusal.TheVariants.{OutsideLimits, KeyTaken, TableFull, NoForm}
use Rattle.market.specs.declared.zone.Side.{Side}
use Rattle.market.specs.declared.zone.Side.TheVariants.{Sale, Purchase}
use Rattle.market.specs.declared.zone.Zone.{Zone}
use Rattle.market.specs.declared.zone.Zone.TheVariants.{One, Two}
use Rattle.callfile.specs.Text.{Writable, text}
use Rattle.ladders.specs.declared.ladders.Ladder.{Ladder}
use Rattle.ladders.specs.declared.ladders.Ladders.{Ladders}

-- the rows that a table counts
abbrev pub standing : {X : Type 0} → Table X → List X
standing t = take t.count t.rows.now

-- what a table refuses a row for
abbrev pub row_causes : {X K : Type 0} → Order X K → X → Table X → List Cause
row_causes o x t =
    record { why = KeyTaken; holds = Present o (o.named x) (standing t) }
    ∷ record { why = TableFull; holds = length t.rows.now ≤ t.count }
    ∷ []

-- the same places, with the same count
abbrev pub Same : {X : Type 0} → Table X → Table X → Type 0
Same t u = (u.rows.now ≡ t.rows.now) × (u.count ≡ t.count)

-- an accepted row is put in at its place, and the places behind keep what they held
abbrev pub Placed : {X K A : Type 0} → Order X K → X → Table X → Table X → Result A Refusal → Type 0
Placed o x t u (Ok _) = (u.rows.now ≡ with_row o x (standing t) ++ drop (t.count + 1) t.rows.now) × (u.count ≡ t.count + 1)
Placed o x t u (Err _) = Same t u

-- the two ladders of one zone
abbrev pub side_causes : Side → Bid → Ladder → List Cause
side_causes Sale b l = row_causes sale_order (record { block = fresh b }) l.sales
side_causes Purchase b l = row_causes purchase_order (record { block = fresh b }) l.purchases

abbrev pub Put : {A : Type 0} → Side → Bid → Ladder → Ladder → Result A Refusal → Type 0
Put Sale b l m r = Placed sale_order (record { block = fresh b }) l.sales m.sales r × Same l.purchases m.purchases
Put Purchase b l m r = Same l.sales m.sales × Placed purchase_order (record { block = fresh b }) l.purchases m.purchases r

-- the zone with a number
abbrev pub of_zone : Zone → Ladders → Ladder
of_zone One l = l.one
of_zone Two l = l.two

abbrev pub other_zone : Zone → Ladders → Ladder
other_zone One l = l.two
other_zone Two l = l.one

-- a number that names no zone
abbrev pub NoZone : ℕ → Type 0
NoZone n = (z : Zone) → zone_number z ≢ n

-- what a bid is refused for in its zone: for its own fields first
abbrev pub enter_causes : Zone → Side → Bid → Ladders → List Cause
enter_causes z s b l = bid_causes b ++ side_causes s b (of_zone z l)

abbrev pub SameLadder : Ladder → Ladder → Type 0
SameLadder l m = Same l.sales m.sales × Same l.purchases m.purchases

abbrev pub SameLadders : Ladders → Ladders → Type 0
SameLadders l m = SameLadder l.one m.one × SameLadder l.two m.two

-- What entering a bid by the number n of its zone answers, r, and makes of the ladders l: m.
pub record Entering {A : Type 0} (n : ℕ) (s : Side) (b : Bid) (l m : Ladders) (r : Result A Refusal) : Type 0 where
  pub wrong : NoZone n → RefusedFor OutsideLimits r × SameLadders l m
  pub why : (z : Zone) → zone_number z ≡ n → FirstCause (enter_causes z s b l) r
  pub put : (z : Zone) → zone_number z ≡ n → Put s b (of_zone z l) (of_zone z m) r
  pub other : (z : Zone) → zone_number z ≡ n → SameLadder (other_zone z l) (other_zone z m)

-- the line is the text of an enter call; it is None where it is too long
abbrev pub Says : Option (List ℕ) → ℕ → Side → Bid → Type 0
Says line n s b = Writable (Enter n s b) × (line ≡ Some (text (Enter n s b)))

-- what a line answers and makes of the ladders: it enters the bid that it says, and is no form if it says none
pub record Answering {A : Type 0} (line : Option (List ℕ)) (l m : Ladders) (r : Result A Refusal) : Type 0 where
  pub entering : (n : ℕ) (s : Side) (b : Bid) → Says line n s b → Entering n s b l m r
  pub none : ((n : ℕ) (s : Side) (b : Bid) → Says line n s b → ⊥) → RefusedFor NoForm r × SameLadders l m
