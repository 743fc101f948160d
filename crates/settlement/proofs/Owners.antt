-- Whether agents have an account.
use Rattle.std.proofs.Common.{◌≡◌, true, List, [], ◌∷◌, map, ℤ, Decides, refl}
use Rattle.std.specs.List.{AllByRecursion, list_all}
use Rattle.std.proofs.lemmas.Bool.Decides.{Decides-and}
use Rattle.market.specs.declared.account.Account.{Account}
use Rattle.settlement.specs.Entries.{Trade, due, entry}
use Rattle.settlement.specs.Postings.{has_account}

pub known_rows : {X : Type 0} (accounts : List Account) (t : Trade X) (p : ℤ) (rows : List X) → Decides (list_all (λ x. has_account accounts (t.block x).bid.agent) rows) (AllByRecursion (λ e. has_account accounts e.agent ≡ true) (map entry (map (due t p) rows)))
known_rows accounts t p [] = (λ _. tt, λ _. refl)
known_rows accounts t p (x ∷ rows) =
    Decides-and (has_account accounts (t.block x).bid.agent) _ (λ h. h, λ h. h) (known_rows accounts t p rows)
