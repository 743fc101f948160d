-- The causes of a refused settlement, in their order.
use Rattle.std.proofs.Common.{◌<◌, List, length, ℤ, Ok, Err, refl}
use Rattle.market.specs.Refusals.{FirstCause}
use Rattle.market.specs.declared.account.Account.{Account}
use Rattle.market.specs.declared.refusal.Refusal.TheVariants.{PositionLimit}
use Rattle.settlement.specs.Balance.{Balanced}
use Rattle.settlement.specs.Entries.{Outcome, entries_of}
use Rattle.settlement.specs.Postings.{KnownAgents, WithinLimits}
use Rattle.settlement.specs.Settling.{settle_causes}
use Rattle.settlement.specs.declared.entry.Entry.{Entry}
use Rattle.settlement.specs.declared.settle.Settled.{Settled}

module _ (o : Outcome) (accounts : List Account) (entries : List Entry) (income residue : ℤ) (balanced : Balanced o) (known : KnownAgents o accounts) (room : length entries < length (entries_of o) → ⊥) where
  pub no_cause : WithinLimits o accounts income residue → (s : Settled) → FirstCause (settle_causes o accounts entries income residue) (Ok s)
  no_cause within s =
      (λ n. absurd (n balanced), λ _. (λ n. absurd (n known), λ _. (λ h. absurd (room h), λ _. (λ n. absurd (n within), λ _. tt))))

  pub past_limits : (WithinLimits o accounts income residue → ⊥) → FirstCause {A = Settled} (settle_causes o accounts entries income residue) (Err PositionLimit)
  past_limits past =
      (λ n. absurd (n balanced), λ _. (λ n. absurd (n known), λ _. (λ h. absurd (room h), λ _. (λ _. refl, λ n. absurd (n past)))))
