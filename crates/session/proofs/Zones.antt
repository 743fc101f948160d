-- The zone with a number.
use Rattle.std.proofs.Common.{◌≡◌, ℕ, false, eqb, Some, None, refl, subst, ⊎_elim, arith}
use Rattle.std.proofs.lemmas.Bool.{cases_Bool}
use Rattle.std.proofs.lemmas.Bool.Decides.{nat_tests}
use Rattle.market.specs.Zones.{zone_number}
use Rattle.market.specs.declared.zone.Zone.{Zone}
use Rattle.market.specs.declared.zone.Zone.TheVariants.{One, Two}
use Rattle.session.specs.Tables.{zone_at}

found : (n : ℕ) (z : Zone) → zone_number z ≡ n → Some z ≡ zone_at n
found n One e = subst (λ k. Some One ≡ zone_at k) e refl
found n Two e = subst (λ k. Some Two ≡ zone_at k) e refl

pub zone_found : (n : ℕ) (y z : Zone) → y ≡ z → zone_number y ≡ n → Some z ≡ zone_at n
zone_found n y z q e = subst (λ (x : Zone). Some x ≡ zone_at n) q (found n y e)

pub zone_missing : (n : ℕ) → ((z : Zone) → zone_number z ≡ n → ⊥) → None ≡ zone_at n
zone_missing n e =
    let not-one : eqb n 1 ≡ false = ⊎_elim (λ t. absurd (e One (grind (arith, nat_tests)))) (λ f. f) (cases_Bool (eqb n 1)) in
    let not-two : eqb n 2 ≡ false = ⊎_elim (λ t. absurd (e Two (grind (arith, nat_tests)))) (λ f. f) (cases_Bool (eqb n 2)) in
    simp (not-one, not-two) refl
