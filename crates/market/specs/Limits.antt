-- The limits of records. To believe: these numbers. Volumes are in tenths of a MWh, prices in cents per MWh, positions in cents.
use Rattle.std.specs.Prelude.{ℕ, ◌^◌, ◌≤◌, ℤ, pos, neg_ℤ, ◌≤ℤ◌}
use Rattle.market.specs.declared.account.Account.{Account}
use Rattle.market.specs.declared.block.Bid.{Bid}
use Rattle.market.specs.declared.block.Block.{Block}
use Rattle.market.specs.declared.block.BlockKey.{BlockKey}

abbrev pub AgentWithinLimits : ℕ → Type 0
AgentWithinLimits a = (1 ≤ a) × (a ≤ 9999)

abbrev pub UnitWithinLimits : ℕ → Type 0
UnitWithinLimits u = (1 ≤ u) × (u ≤ 999999)

abbrev pub NumberWithinLimits : ℕ → Type 0
NumberWithinLimits n = (1 ≤ n) × (n ≤ 25)

abbrev pub StampWithinLimits : ℕ → Type 0
StampWithinLimits t = t ≤ 999999999

abbrev pub lowest_price : ℤ
lowest_price = neg_ℤ (pos 50000)

abbrev pub highest_price : ℤ
highest_price = pos 300000

abbrev pub PriceWithinLimits : ℤ → Type 0
PriceWithinLimits p = (lowest_price ≤ℤ p) × (p ≤ℤ highest_price)

abbrev pub VolumeWithinLimits : ℕ → Type 0
VolumeWithinLimits v = (1 ≤ v) × (v ≤ 100000)

abbrev pub PositionWithinLimits : ℤ → Type 0
PositionWithinLimits c = (neg_ℤ (pos (10 ^ 14)) ≤ℤ c) × (c ≤ℤ pos (10 ^ 14))

abbrev pub KeyWithinLimits : BlockKey → Type 0
KeyWithinLimits k = UnitWithinLimits k.unit × NumberWithinLimits k.number

-- who bids, with what, and when: every field of a bid but its price and its volume
abbrev pub NameWithinLimits : Bid → Type 0
NameWithinLimits b = AgentWithinLimits b.agent × UnitWithinLimits b.unit × NumberWithinLimits b.number × StampWithinLimits b.stamp

abbrev pub BidWithinLimits : Bid → Type 0
BidWithinLimits b = NameWithinLimits b × PriceWithinLimits b.price × VolumeWithinLimits b.volume

-- no block is matched beyond what it bid for
abbrev pub BlockWithinLimits : Block → Type 0
BlockWithinLimits b = BidWithinLimits b.bid × (b.matched ≤ b.bid.volume)

abbrev pub AccountWithinLimits : Account → Type 0
AccountWithinLimits a = AgentWithinLimits a.agent × PositionWithinLimits a.position
