-- What a cleared session makes due, and the entries that say so in whole cents.
-- To believe: each matched block is due its matched volume times its zone's price, for the seller and against the purchaser; the
-- congestion income is the flow times the difference of the prices and comes last; and the order of the blocks.
use Rattle.std.specs.Prelude.{ℕ, Bool, List, [], ◌∷◌, ◌++◌, map, ℤ, pos, ◌-ℤ◌, ◌*ℤ◌, neg_ℤ, filter, nat_lt}
use Rattle.market.specs.declared.block.Block.{Block}
use Rattle.market.specs.declared.purchase.Purchase.{Purchase}
use Rattle.market.specs.declared.sale.Sale.{Sale}
use Rattle.market.specs.declared.zone.Side.{Side}
use Rattle.market.specs.declared.zone.Side.TheVariants as side
use Rattle.settlement.specs.Rounding.{nearest_cent}
use Rattle.settlement.specs.declared.entry.Entry.{Entry}

-- the outcome of a clearing: the blocks of each zone with their matched volumes, the zone's price, and the flow from zone 1 to zone 2
pub record ZoneOutcome : Type 0 where
  pub sales : List Sale
  pub purchases : List Purchase
  pub price : ℤ

pub record Outcome : Type 0 where
  pub one : ZoneOutcome
  pub two : ZoneOutcome
  pub flow : ℤ

-- a kind of row that is traded: the block in it, and its side
pub record Trade (X : Type 0) : Type 0 where
  pub block : X → Block
  pub side : Side

abbrev pub trade_of : {X : Type 0} → (X → Block) → Side → Trade X
trade_of held traded = record { block = held; side = traded }

abbrev pub selling : Trade Sale
selling = trade_of (λ s. s.block) side.Sale

abbrev pub buying : Trade Purchase
buying = trade_of (λ p. p.block) side.Purchase

-- for the seller, against the purchaser
abbrev pub signed : Side → ℤ → ℤ
signed side.Sale amount = amount
signed side.Purchase amount = neg_ℤ amount

-- what an agent is due for a block, exactly: in tenths of a cent, negative if the agent owes it
pub record Due : Type 0 where
  pub agent : ℕ
  pub unit : ℕ
  pub number : ℕ
  pub exact : ℤ

abbrev pub is_matched : {X : Type 0} → Trade X → X → Bool
is_matched t x = nat_lt 0 (t.block x).matched

abbrev pub due : {X : Type 0} → Trade X → ℤ → X → Due
due t price x = record { agent = (t.block x).bid.agent; unit = (t.block x).bid.unit; number = (t.block x).bid.number; exact = signed t.side (price *ℤ pos (t.block x).matched) }

-- one for each block with anything matched, in the order of the table
abbrev pub dues : {X : Type 0} → Trade X → ℤ → List X → List Due
dues t price xs = map (due t price) (filter (is_matched t) xs)

abbrev pub zone_dues : ZoneOutcome → List Due
zone_dues z = dues selling z.price z.sales ++ dues buying z.price z.purchases

abbrev pub block_dues : Outcome → List Due
block_dues o = zone_dues o.one ++ zone_dues o.two

-- the congestion income, due to the exchange
abbrev pub income_due : Outcome → Due
income_due o = record { agent = 0; unit = 0; number = 0; exact = o.flow *ℤ (o.two.price -ℤ o.one.price) }

abbrev pub session_dues : Outcome → List Due
session_dues o = block_dues o ++ income_due o ∷ []

-- what is due, in whole cents
abbrev pub entry : Due → Entry
entry d = record { agent = d.agent; unit = d.unit; number = d.number; cents = nearest_cent d.exact }

abbrev pub side_entries : {X : Type 0} → Trade X → ℤ → List X → List Entry
side_entries t price xs = map entry (dues t price xs)

abbrev pub zone_entries : ZoneOutcome → List Entry
zone_entries z = map entry (zone_dues z)

abbrev pub block_entries : Outcome → List Entry
block_entries o = map entry (block_dues o)

abbrev pub entries_of : Outcome → List Entry
entries_of o = map entry (session_dues o)
