-- What each call is refused for, in the order of the checks (docs/REFUSALS.md). To believe: these lists. A check runs over all tables of
-- the call before the next one begins.
use Rattle.std.specs.Prelude.{ℕ, ◌<◌, ◌≤◌, ◌⊎◌, List, [], ◌∷◌, ◌++◌, ℤ, Some, None, Option}
use Rattle.market.specs.Entering.{bid_causes}
use Rattle.market.specs.Limits.{AgentWithinLimits, KeyWithinLimits}
use Rattle.market.specs.Refusals.{Cause}
use Rattle.market.specs.declared.account.Account.{Account}
use Rattle.market.specs.declared.block.Bid.{Bid}
use Rattle.market.specs.declared.block.BlockKey.{BlockKey}
use Rattle.market.specs.declared.refusal.Refusal.TheVariants.{TableSize, TableDisturbed, OutsideLimits, NoAccount, KeyTaken, TableFull, BlockAbsent, SessionNumber, CapacityLimit}
use Rattle.market.specs.declared.zone.Side.{Side}
use Rattle.market.specs.declared.zone.Side.TheVariants.{Sale, Purchase}
use Rattle.market.specs.declared.zone.Zone.{Zone}
use Rattle.market.specs.declared.zone.Zone.TheVariants.{One, Two}
use Rattle.settlement.specs.Entries.{Outcome}
use Rattle.settlement.specs.Settling.{settle_causes as posting_causes}
use Rattle.settlement.specs.declared.entry.Entry.{Entry}
use Rattle.session.specs.Tables.{Blocks, Counted, Fits, Full, InOrder, Kind, Stands, ZoneTables, account_kind, purchase_kind, purchase_row, rows_of, sale_kind, sale_row}

-- a row that is to be put into a table
abbrev pub place_causes : {X K : Type 0} → Kind X K → X → Counted X → List Cause
place_causes k x t =
    record { why = KeyTaken; holds = Stands k (k.order.named x) t }
    ∷ record { why = TableFull; holds = Full t }
    ∷ []

abbrev pub admit_causes : ℕ → Counted Account → List Cause
admit_causes agent accounts =
    record { why = TableSize; holds = Fits account_kind accounts → ⊥ }
    ∷ record { why = TableDisturbed; holds = InOrder account_kind accounts → ⊥ }
    ∷ record { why = OutsideLimits; holds = AgentWithinLimits agent → ⊥ }
    ∷ record { why = KeyTaken; holds = Stands account_kind agent accounts }
    ∷ record { why = TableFull; holds = Full accounts }
    ∷ []

-- last is the number of the last session begun
abbrev pub begin_causes : ℕ → ℕ → ℕ → ℕ → List Cause
begin_causes last number there back =
    record { why = SessionNumber; holds = (1000000 < number) ⊎ (number ≤ last) }
    ∷ record { why = CapacityLimit; holds = (30000000 < there) ⊎ (30000000 < back) }
    ∷ []

-- a table, of whichever kind, that is read beside the accounts
abbrev pub standing_causes : {X K : Type 0} → Kind X K → Counted X → Counted Account → List Cause
standing_causes k t accounts =
    record { why = TableSize; holds = Fits k t × Fits account_kind accounts → ⊥ }
    ∷ record { why = TableDisturbed; holds = InOrder k t × InOrder account_kind accounts → ⊥ }
    ∷ []

-- an agent that has to have an account, and a row of the agent's that is to be put into a table
abbrev pub owned_causes : {X K : Type 0} → Kind X K → X → ℕ → Counted X → Counted Account → List Cause
owned_causes k x agent t accounts = record { why = NoAccount; holds = Stands account_kind agent accounts → ⊥ } ∷ place_causes k x t

-- a bid entered in a table as the row x
abbrev pub row_enter_causes : {X K : Type 0} → Kind X K → X → Bid → Counted X → Counted Account → List Cause
row_enter_causes k x b t accounts =
    standing_causes k t accounts ++ (bid_causes b ++ owned_causes k x b.agent t accounts)

abbrev pub side_enter_causes : Side → Bid → ZoneTables → Counted Account → List Cause
side_enter_causes Sale b t accounts = row_enter_causes sale_kind (sale_row b) b t.sales accounts
side_enter_causes Purchase b t accounts = row_enter_causes purchase_kind (purchase_row b) b t.purchases accounts

-- a wrong zone names no table of blocks
abbrev pub nowhere_causes : Counted Account → List Cause
nowhere_causes accounts =
    record { why = TableSize; holds = Fits account_kind accounts → ⊥ }
    ∷ record { why = TableDisturbed; holds = InOrder account_kind accounts → ⊥ }
    ∷ record { why = OutsideLimits; holds = Unit {0} }
    ∷ []

abbrev pub enter_causes : Option Zone → Side → Bid → Blocks → Counted Account → List Cause
enter_causes (Some One) s b t accounts = side_enter_causes s b t.one accounts
enter_causes (Some Two) s b t accounts = side_enter_causes s b t.two accounts
enter_causes None s b t accounts = nowhere_causes accounts

abbrev pub row_withdraw_causes : {X : Type 0} → Kind X BlockKey → BlockKey → Counted X → List Cause
row_withdraw_causes k key t =
    record { why = TableSize; holds = Fits k t → ⊥ }
    ∷ record { why = TableDisturbed; holds = InOrder k t → ⊥ }
    ∷ record { why = OutsideLimits; holds = KeyWithinLimits key → ⊥ }
    ∷ record { why = BlockAbsent; holds = Stands k key t → ⊥ }
    ∷ []

abbrev pub side_withdraw_causes : Side → BlockKey → ZoneTables → List Cause
side_withdraw_causes Sale key t = row_withdraw_causes sale_kind key t.sales
side_withdraw_causes Purchase key t = row_withdraw_causes purchase_kind key t.purchases

abbrev pub withdraw_causes : Option Zone → Side → BlockKey → Blocks → List Cause
withdraw_causes (Some One) s key t = side_withdraw_causes s key t.one
withdraw_causes (Some Two) s key t = side_withdraw_causes s key t.two
withdraw_causes None s key t = record { why = OutsideLimits; holds = Unit {0} } ∷ []

abbrev pub ZoneFits : ZoneTables → Type 0
ZoneFits t = Fits sale_kind t.sales × Fits purchase_kind t.purchases

abbrev pub ZoneInOrder : ZoneTables → Type 0
ZoneInOrder t = InOrder sale_kind t.sales × InOrder purchase_kind t.purchases

abbrev pub BlocksFit : Blocks → Type 0
BlocksFit t = ZoneFits t.one × ZoneFits t.two

abbrev pub BlocksInOrder : Blocks → Type 0
BlocksInOrder t = ZoneInOrder t.one × ZoneInOrder t.two

abbrev pub clear_causes : Blocks → List Cause
clear_causes t =
    record { why = TableSize; holds = BlocksFit t → ⊥ }
    ∷ record { why = TableDisturbed; holds = BlocksInOrder t → ⊥ }
    ∷ []

-- the tables of a settlement
abbrev pub five_causes : Blocks → Counted Account → List Cause
five_causes t accounts =
    record { why = TableSize; holds = BlocksFit t × Fits account_kind accounts → ⊥ }
    ∷ record { why = TableDisturbed; holds = BlocksInOrder t × InOrder account_kind accounts → ⊥ }
    ∷ []

-- and then, of what the tables hold with the prices and the flow that clear found: the balance, the accounts of the agents, the places for
-- the entries, and the limits of positions, income and residue
abbrev pub settle_causes : Outcome → Blocks → Counted Account → List Entry → ℤ → ℤ → List Cause
settle_causes o t accounts entries income residue = five_causes t accounts ++ posting_causes o (rows_of accounts) entries income residue
