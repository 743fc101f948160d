-- A cleared session as the program holds it, with its tables lent, and as the definitions speak of it.
use Rattle.settlement.specs.Entries.{Outcome, ZoneOutcome}
use Rattle.settlement.specs.declared.session.ClearedSession.{ClearedSession}
use Rattle.settlement.specs.declared.session.ClearedZone.{ClearedZone}

abbrev pub zone_of : ClearedZone → ZoneOutcome
zone_of z = record { sales = z.sales.now; purchases = z.purchases.now; price = z.price }

abbrev pub outcome_of : ClearedSession → Outcome
outcome_of s = record { one = zone_of s.one; two = zone_of s.two; flow = s.flow }
