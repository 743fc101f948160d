-- Posting changes positions alone, so accounts that are sound stay sound within the limits.
use Rattle.std.proofs.Common.{◌≡◌, List, [], ◌∷◌, map, sym, subst}
use Rattle.std.specs.List.{AllByRecursion}
use Rattle.market.specs.Limits.{AccountWithinLimits, PositionWithinLimits}
use Rattle.market.specs.Precedence.{account_order}
use Rattle.market.specs.declared.account.Account.{Account}
use Rattle.table.specs.Rows.{Pairwise, Sound}
use Rattle.settlement.specs.Entries.{Outcome, block_entries}
use Rattle.settlement.specs.Postings.{account_after, accounts_after}
use Rattle.settlement.specs.declared.entry.Entry.{Entry}
use Rattle.std.proofs.ByRecursion.{All-map}

pairwise_map : {X : Type 0} (R : X → X → Type 0) (f : X → X) (xs : List X) → Pairwise (λ x y. R (f x) (f y)) xs → Pairwise R (map f xs)
pairwise_map R f [] h = tt
pairwise_map R f (x ∷ xs) (here, h) = (All-map (R (f x)) f xs here, pairwise_map R f xs h)

within_after : (es : List Entry) (xs : List Account) → AllByRecursion AccountWithinLimits xs → AllByRecursion (λ a. PositionWithinLimits a.position) (map (account_after es) xs) → AllByRecursion AccountWithinLimits (map (account_after es) xs)
within_after es [] h k = tt
within_after es (x ∷ xs) (here, h) (there, k) = ((here.0, there), within_after es xs h k)

sound_after : (o : Outcome) (xs : List Account) → AllByRecursion (λ a. PositionWithinLimits a.position) (accounts_after o xs) → Sound account_order AccountWithinLimits xs → Sound account_order AccountWithinLimits (accounts_after o xs)
sound_after o xs k s =
    let es = block_entries o in
    record {
      within = within_after es xs s.within k;
      rising = pairwise_map _ (account_after es) xs s.rising;
      apart = pairwise_map _ (account_after es) xs s.apart;
    }

pub sound_posted : (o : Outcome) (xs ys : List Account) → ys ≡ accounts_after o xs → AllByRecursion (λ a. PositionWithinLimits a.position) (accounts_after o xs) → Sound account_order AccountWithinLimits xs → Sound account_order AccountWithinLimits ys
sound_posted o xs ys e k s = subst (Sound account_order AccountWithinLimits) (sym e) (sound_after o xs k s)
