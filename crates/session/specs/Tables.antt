-- The tables that are lent to a call, as lists. To believe: the counted rows of a table are the first ones, up to the count that the
-- exchange holds; a table of blocks has at most 256 places, and the accounts have at most 512.
use Rattle.std.specs.Prelude.{ℕ, ◌+◌, ◌-◌, ◌≤◌, cond, List, ◌++◌, map, length, take, drop, pos, Some, None, Option, ◌==◌}
use Rattle.table.specs.Edits.{Fitting}
use Rattle.table.specs.Order.{Order}
use Rattle.table.specs.Rows.{Sound, Present, with_row, without}
use Rattle.market.specs.Entering.{fresh}
use Rattle.market.specs.Limits.{AccountWithinLimits, BlockWithinLimits}
use Rattle.market.specs.Precedence.{account_order, purchase_order, sale_order}
use Rattle.market.specs.Zones.{zone_number}
use Rattle.market.specs.declared.account.Account.{Account}
use Rattle.market.specs.declared.block.Bid.{Bid}
use Rattle.market.specs.declared.block.Block.{Block}
use Rattle.market.specs.declared.block.BlockKey.{BlockKey}
use Rattle.market.specs.declared.purchase.Purchase as purchase
use Rattle.market.specs.declared.sale.Sale as sale
use Rattle.market.specs.declared.zone.Side.{Side}
use Rattle.market.specs.declared.zone.Side.TheVariants.{Sale, Purchase}
use Rattle.market.specs.declared.zone.Zone.{Zone}
use Rattle.market.specs.declared.zone.Zone.TheVariants.{One, Two}
use Rattle.settlement.specs.declared.entry.Entry.{Entry}
use Rattle.session.specs.declared.session.Session.{Session}
use Rattle.session.specs.declared.session.ZoneCounts.{ZoneCounts}

-- a kind of record: its order, its limits and its largest count
pub record Kind (X K : Type 0) : Type 1 where
  pub order : Order X K
  pub limits : X → Type 0
  pub most : ℕ

abbrev pub kind : {X K : Type 0} → Order X K → (X → Type 0) → ℕ → Kind X K
kind o l m = record { order = o; limits = l; most = m }

abbrev pub sale_kind : Kind sale.Sale BlockKey
sale_kind = kind sale_order (λ s. BlockWithinLimits s.block) 256

abbrev pub purchase_kind : Kind purchase.Purchase BlockKey
purchase_kind = kind purchase_order (λ p. BlockWithinLimits p.block) 256

abbrev pub account_kind : Kind Account ℕ
account_kind = kind account_order AccountWithinLimits 512

-- a table as it is lent: its places, and how many of them the exchange counts
pub record Counted (X : Type 0) : Type 0 where
  pub places : List X
  pub count : ℕ

abbrev pub lent : {X : Type 0} → List X → ℕ → Counted X
lent xs n = record { places = xs; count = n }

abbrev pub rows_of : {X : Type 0} → Counted X → List X
rows_of t = take t.count t.places

abbrev pub Fits : {X K : Type 0} → Kind X K → Counted X → Type 0
Fits k t = Fitting k.most t.places t.count

abbrev pub InOrder : {X K : Type 0} → Kind X K → Counted X → Type 0
InOrder k t = Sound k.order k.limits (rows_of t)

-- a counted row has the key
abbrev pub Stands : {X K : Type 0} → Kind X K → K → Counted X → Type 0
Stands k key t = Present k.order key (rows_of t)

abbrev pub Full : {X : Type 0} → Counted X → Type 0
Full t = length t.places ≤ t.count

-- a row put in at its place, and the row of a key taken out; the places behind keep what they held
abbrev pub put_in : {X K : Type 0} → Kind X K → X → Counted X → Counted X
put_in k x t = lent (with_row k.order x (rows_of t) ++ drop (t.count + 1) t.places) (t.count + 1)

abbrev pub taken_out : {X K : Type 0} → Kind X K → K → Counted X → Counted X
taken_out k key t = lent (without k.order key (rows_of t) ++ drop (t.count - 1) t.places) (t.count - 1)

-- a bid as a row of its side's table, with nothing matched
abbrev pub sale_row : Bid → sale.Sale
sale_row b = record { block = fresh b }

abbrev pub purchase_row : Bid → purchase.Purchase
purchase_row b = record { block = fresh b }

-- blocks as rows
abbrev pub as_sales : List Block → List sale.Sale
as_sales = map (λ b. record { block = b })

abbrev pub as_purchases : List Block → List purchase.Purchase
as_purchases = map (λ b. record { block = b })

-- a new account
abbrev pub new_account : ℕ → Account
new_account agent = record { agent = agent; position = pos 0 }

-- the two tables of a zone
pub record ZoneTables : Type 0 where
  pub sales : Counted sale.Sale
  pub purchases : Counted purchase.Purchase

abbrev pub zone_tables : ZoneCounts → List sale.Sale → List purchase.Purchase → ZoneTables
zone_tables n ss ps = record { sales = lent ss n.sales; purchases = lent ps n.purchases }

abbrev pub entered_in : Side → Bid → ZoneTables → ZoneTables
entered_in Sale b t = record { sales = put_in sale_kind (sale_row b) t.sales; purchases = t.purchases }
entered_in Purchase b t = record { sales = t.sales; purchases = put_in purchase_kind (purchase_row b) t.purchases }

abbrev pub withdrawn_in : Side → BlockKey → ZoneTables → ZoneTables
withdrawn_in Sale k t = record { sales = taken_out sale_kind k t.sales; purchases = t.purchases }
withdrawn_in Purchase k t = record { sales = t.sales; purchases = taken_out purchase_kind k t.purchases }

-- the four tables of blocks
pub record Blocks : Type 0 where
  pub one : ZoneTables
  pub two : ZoneTables

-- the zone with the number n, if there is one
abbrev pub zone_at : ℕ → Option Zone
zone_at n = cond (n == zone_number One) (Some One) (cond (n == zone_number Two) (Some Two) None)

-- a change of the tables of a zone; the other zone's stay
abbrev pub in_zone : Option Zone → (ZoneTables → ZoneTables) → Blocks → Blocks
in_zone (Some One) change t = record { one = change t.one; two = t.two }
in_zone (Some Two) change t = record { one = t.one; two = change t.two }
in_zone None change t = t

-- everything that is lent: the places of the five tables, and the entry list
pub record Places : Type 0 where
  pub sales₁ : List sale.Sale
  pub purchases₁ : List purchase.Purchase
  pub sales₂ : List sale.Sale
  pub purchases₂ : List purchase.Purchase
  pub accounts : List Account
  pub entries : List Entry

abbrev pub places : List sale.Sale → List purchase.Purchase → List sale.Sale → List purchase.Purchase → List Account → List Entry → Places
places a b c d e f = record { sales₁ = a; purchases₁ = b; sales₂ = c; purchases₂ = d; accounts = e; entries = f }

abbrev pub blocks_of : Session → List sale.Sale → List purchase.Purchase → List sale.Sale → List purchase.Purchase → Blocks
blocks_of s a b c d = record { one = zone_tables s.one a b; two = zone_tables s.two c d }

abbrev pub blocks_in : Session → Places → Blocks
blocks_in s t = blocks_of s t.sales₁ t.purchases₁ t.sales₂ t.purchases₂
