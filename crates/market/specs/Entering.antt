-- What a bid is refused for by its own fields, in order, and what it becomes when it is entered.
-- To believe: names first, then the price, then the volume; nothing of a block is matched when it is entered.
use Rattle.std.specs.Prelude.{List, [], ◌∷◌}
use Rattle.market.specs.Limits.{NameWithinLimits, PriceWithinLimits, VolumeWithinLimits}
use Rattle.market.specs.Refusals.{Cause}
use Rattle.market.specs.declared.block.Bid.{Bid}
use Rattle.market.specs.declared.block.Block.{Block}
use Rattle.market.specs.declared.refusal.Refusal.TheVariants.{OutsideLimits, PriceLimits, VolumeLimits}

abbrev pub bid_causes : Bid → List Cause
bid_causes b =
    record { why = OutsideLimits; holds = NameWithinLimits b → ⊥ }
    ∷ record { why = PriceLimits; holds = PriceWithinLimits b.price → ⊥ }
    ∷ record { why = VolumeLimits; holds = VolumeWithinLimits b.volume → ⊥ }
    ∷ []

abbrev pub fresh : Bid → Block
fresh b = record { bid = b; matched = 0 }
