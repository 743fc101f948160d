-- A run, one call longer; a run cut at the shorter of its two lists; and what a run leads to.
use Rattle.std.proofs.Common.{◌≡◌, ℕ, zero, suc, ◌+◌, ◌<◌, min, List, [], ◌∷◌, ◌++◌, length, get_or, take, set, ℤ, sym, refl, ap, ◌∙◌, subst₂, arith}
use Rattle.std.proofs.lemmas.List.{length-take-le, take_more, take_more_set}
use Rattle.market.specs.declared.call.Call.{Call}
use Rattle.rules.specs.Shares.{Shares}
use Rattle.auction.specs.Best.{Prices}
use Rattle.exchange.specs.After.{After}
use Rattle.exchange.specs.Calls.{new_idle}
use Rattle.exchange.specs.History.{History, event}
use Rattle.exchange.specs.Applying.{Does}
use Rattle.exchange.specs.Runs.{LawfulAfter, Step, Throughout, told}
use Rattle.session.specs.Tables.{Places, account_kind}
use Rattle.auction.specs.declared.engine.Engine.{Engine}
use Rattle.exchange.specs.declared.exchange.Answer.{Answer}
use Rattle.exchange.specs.declared.exchange.Exchange.{Exchange}
use Rattle.exchange.specs.declared.exchange.Exchange.TheVariants as exchange
use Rattle.exchange.proofs.LawHolds.{law_holds}
use Rattle.exchange.proofs.LawTables.{holding_none, sound_none}

module _ {P S : Type 0} (pricing : P → ℤ → ℤ → ℤ) (sharing : S → ℕ → ℕ → ℕ → ℕ) (e : Engine P S) where
  -- a new exchange, whatever is lent to it
  pub after_new : (t : Places) → After pricing sharing e [] (exchange.Idle (new_idle e)) t
  after_new t = record {
    ruled = refl;
    phased = refl;
    ledger = record {
      accounts = holding_none t.accounts;
      sound = sound_none account_kind;
      number = refl;
      income = refl;
      residue = refl;
      adds_up = refl;
      residues = tt;
    };
  }

  pub lawful_after : Shares (sharing e.sharing_rule) → Prices (pricing e.price_rule) → (h : History) (x : Exchange P S) (t : Places) → After pricing sharing e h x t → LawfulAfter pricing sharing e h x t
  lawful_after shares prices h x t a = record { after = a; law = law_holds pricing sharing e h shares prices x t a }

  throughout_push : (h : History) (x : Exchange P S) (t : Places) (cs : List Call) (as' : List Answer) (z : Exchange P S) (v : Places) (c : Call) (a : Answer) (y : Exchange P S) (u : Places) → length cs ≡ length as' →
      Throughout pricing sharing e h x t cs as' z v → Step pricing sharing c a z v y u → Does pricing sharing z v c y a u → Throughout pricing sharing e h x t (cs ++ c ∷ []) (as' ++ a ∷ []) y u
  throughout_push h x t [] [] z v c a y u l r s d =
      let here : LawfulAfter pricing sharing e h z v = subst₂ (λ (w : Exchange P S) (p : Places). LawfulAfter pricing sharing e h w p) (sym r.1) (sym r.2) r.0 in
      (r.0, (y, u, subst₂ (λ (w : Exchange P S) (p : Places). Does pricing sharing w p c y a u) r.1 r.2 d, (s e h here, refl, refl)))
  throughout_push h x t [] (b ∷ as') z v c a y u l r s d = absurd (omega arith)
  throughout_push h x t (b ∷ cs) [] z v c a y u l r s d = absurd (omega arith)
  throughout_push h x t (b ∷ cs) (q ∷ as') z v c a y u l r s d = (r.0, (r.1.0, r.1.1, r.1.2, throughout_push (event b q ∷ h) r.1.0 r.1.1 cs as' z v c a y u (omega arith) r.1.3 s d))

  -- one call more, whose answer is written in its place
  pub throughout_more : (h : History) (x : Exchange P S) (t : Places) (i : ℕ) (cs : List Call) (as' : List Answer) (z : Exchange P S) (v : Places) (d c : Call) (a : Answer) (y : Exchange P S) (u : Places) → i < length cs → i < length as' → c ≡ get_or cs i d →
      Throughout pricing sharing e h x t (take i cs) (take i as') z v → Step pricing sharing c a z v y u → Does pricing sharing z v c y a u →
      Throughout pricing sharing e h x t (take (i + 1) cs) (take (i + 1) (set as' i a)) y u
  throughout_more h x t i cs as' z v d c a y u l m q r s k =
      subst₂ (λ (ds : List Call) (bs : List Answer). Throughout pricing sharing e h x t ds bs y u) (ap (λ (w : Call). take i cs ++ w ∷ []) q ∙ sym (take_more cs i d l)) (sym (take_more_set as' i a m))
      (throughout_push h x t (take i cs) (take i as') z v c a y u (length-take-le i cs (omega arith) ∙ sym (length-take-le i as' (omega arith))) r s k)

  -- as far as both lists go
  pub throughout_all : (h : History) (x : Exchange P S) (t : Places) (n : ℕ) (cs : List Call) (as' : List Answer) (z : Exchange P S) (v : Places) → n ≡ min (length cs) (length as') →
      Throughout pricing sharing e h x t (take n cs) (take n as') z v → Throughout pricing sharing e h x t cs as' z v
  throughout_all h x t zero [] as' z v l r = r
  throughout_all h x t zero (c ∷ cs) [] z v l r = r
  throughout_all h x t zero (c ∷ cs) (a ∷ as') z v l r = absurd (omega arith)
  throughout_all h x t (suc n) [] as' z v l r = absurd (omega arith)
  throughout_all h x t (suc n) (c ∷ cs) [] z v l r = absurd (omega arith)
  throughout_all h x t (suc n) (c ∷ cs) (a ∷ as') z v l r = (r.0, (r.1.0, r.1.1, r.1.2, throughout_all (event c a ∷ h) r.1.0 r.1.1 n cs as' z v (omega arith) r.1.3))

  -- where a run ends the law holds too, for all that was told
  pub throughout_ends : (h : History) (x : Exchange P S) (t : Places) (cs : List Call) (as' : List Answer) (z : Exchange P S) (v : Places) →
      Throughout pricing sharing e h x t cs as' z v → LawfulAfter pricing sharing e (told cs as' h) z v
  throughout_ends h x t [] as' z v r = subst₂ (λ (w : Exchange P S) (p : Places). LawfulAfter pricing sharing e h w p) (sym r.1) (sym r.2) r.0
  throughout_ends h x t (c ∷ cs) [] z v r = subst₂ (λ (w : Exchange P S) (p : Places). LawfulAfter pricing sharing e h w p) (sym r.1) (sym r.2) r.0
  throughout_ends h x t (c ∷ cs) (a ∷ as') z v r = throughout_ends (event c a ∷ h) r.1.0 r.1.1 cs as' z v r.1.3
