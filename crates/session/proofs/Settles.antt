-- What a settlement makes of the accounts, of which only the counted ones are posted to.
use Rattle.std.proofs.Common.{◌≡◌, List, ◌++◌, take, drop, ℤ, pos, Ok, Err, Result, ap, ◌∙◌, subst, take-append-drop}
use Rattle.market.specs.Refusals.{FirstCause}
use Rattle.market.specs.declared.account.Account.{Account}
use Rattle.market.specs.declared.refusal.Refusal.{Refusal}
use Rattle.settlement.specs.Entries.{Outcome}
use Rattle.settlement.specs.Settling.{Settlement, Settles, settle_causes as posting_causes}
use Rattle.settlement.specs.declared.entry.Entry.{Entry}
use Rattle.settlement.specs.declared.settle.Settled.{Settled}
use Rattle.session.specs.Outcomes.{Four, Posts, held_for}
use Rattle.session.specs.declared.ledger.Ledger.{Ledger}
use Rattle.session.specs.declared.session.Session.{Session}

pub posts_counted : (o : Outcome) (l : Ledger) (xs : List Account) (es : List Entry) (r : Result Settled Refusal) (ys : List Account) (fs : List Entry) →
    Settlement o l.totals.income l.totals.residue (take l.accounts xs) ys es fs r → Posts o l xs es r (ys ++ drop l.accounts xs) fs
posts_counted o l xs es (Ok s) ys fs h =
    (subst (λ (zs : List Account). Settles o l.totals.income l.totals.residue (take l.accounts xs) zs es fs s) h.posts h, ap (λ (zs : List Account). zs ++ drop l.accounts xs) h.posts)
posts_counted o l xs es (Err w) ys fs h = (ap (λ (zs : List Account). zs ++ drop l.accounts xs) h.0 ∙ take-append-drop l.accounts xs, h.1)

-- ---- the numbers that a settlement is given, as they are passed
abbrev pub held_with : Session → ℤ → ℤ → ℤ → Four → Outcome
held_with s p q f t = held_for s (record { price_one = p; price_two = q; flow = f; surplus = pos 0 }) t

module _ (s : Session) (t : Four) (xs : List Account) (es : List Entry) (i j : ℤ) (r : Result Settled Refusal) (ys : List Account) (fs : List Entry) where
  abbrev pub SettlingAt : ℤ → ℤ → ℤ → Type 0
  SettlingAt p q f = FirstCause (posting_causes (held_with s p q f t) xs es i j) r × Settlement (held_with s p q f t) i j xs ys es fs r

  pub settling_as : (p p' q q' f f' : ℤ) → p' ≡ p → q' ≡ q → f' ≡ f → SettlingAt p' q' f' → SettlingAt p q f
  settling_as p p' q q' f f' a b c h = subst (λ x. SettlingAt p q x) c (subst (λ x. SettlingAt p x f') b (subst (λ x. SettlingAt x q' f') a h))
