-- The numbers of the zones, and how zones and sides are printed. To believe: zone One is zone 1, zone Two is zone 2, and a side is
-- printed by its own word.
use Rattle.std.specs.Prelude.{◌≡◌, ℕ, List, codes, Result, MatchResult, ◌≢◌}
use Rattle.market.specs.declared.refusal.Refusal.{Refusal}
use Rattle.market.specs.declared.refusal.Refusal.TheVariants.{OutsideLimits}
use Rattle.market.specs.declared.zone.Side.{Side}
use Rattle.market.specs.declared.zone.Side.TheVariants.{Sale, Purchase}
use Rattle.market.specs.declared.zone.Zone.{Zone}
use Rattle.market.specs.declared.zone.Zone.TheVariants.{One, Two}

abbrev pub zone_number : Zone → ℕ
zone_number One = 1
zone_number Two = 2

-- the result is the zone with the number n; where no zone has it, n is outside the limits
abbrev pub Numbered : ℕ → Result Zone Refusal → Type 0
Numbered n r = MatchResult r (λ z. zone_number z ≡ n) (λ why. (why ≡ OutsideLimits) × ((z : Zone) → zone_number z ≢ n))

abbrev pub zone_text : Zone → List ℕ
zone_text One = codes "1"
zone_text Two = codes "2"

abbrev pub side_text : Side → List ℕ
side_text Sale = codes "sale"
side_text Purchase = codes "purchase"
