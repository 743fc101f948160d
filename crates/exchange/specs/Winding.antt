-- The rules that an exchange was set up with and that it hands back when it is wound up. Nobody need believe more than these lines.
use Rattle.auction.specs.declared.engine.Engine.{Engine}
use Rattle.exchange.specs.declared.exchange.Exchange.{Exchange}
use Rattle.exchange.specs.declared.exchange.Exchange.TheVariants.{Idle, Open, Closed, Cleared}

abbrev pub rules_of : {P S : Type 0} → Exchange P S → Engine P S
rules_of (Idle s) = s.engine
rules_of (Open s) = s.engine
rules_of (Closed s) = s.engine
rules_of (Cleared s) = s.engine
