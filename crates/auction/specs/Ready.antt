-- What the steps of a clearing are given: one side, as the checks of the tables leave it.
use Rattle.std.specs.Prelude.{◌≤◌, List, length, ℤ}
use Rattle.std.specs.List.{AllByRecursion}
use Rattle.market.specs.Limits.{PriceWithinLimits, VolumeWithinLimits}
use Rattle.auction.specs.declared.offer.Offer.{Offer}
use Rattle.auction.specs.Offers.{price_of, volume_of, Sorted}

pub record Ready (rank : ℤ → ℤ) (os : List Offer) : Type 0 where
  pub sorted : Sorted rank os
  pub prices : AllByRecursion (λ o. PriceWithinLimits (price_of o)) os
  pub volumes : AllByRecursion (λ o. VolumeWithinLimits (volume_of o)) os
  pub few : length os ≤ 512
