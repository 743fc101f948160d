-- Calls on one table, one zone and both zones: what they promise follows from what their parts promise.
use Rattle.std.proofs.Common.{◌≡◌, ℕ, List, [], ◌∷◌, length, Some, None, Ok, Err, Option, Result, sym, refl, ap, ◌∙◌, subst}
use Rattle.market.specs.Places.{SameZonePlaces}
use Rattle.market.specs.Refusals.{Cause, FirstCause}
use Rattle.market.specs.declared.places.BlockPlaces.{BlockPlaces}
use Rattle.market.specs.declared.places.ZonePlaces.{ZonePlaces}
use Rattle.market.specs.declared.purchase.Purchase as purchase
use Rattle.market.specs.declared.refusal.Refusal.{Refusal}
use Rattle.market.specs.declared.sale.Sale as sale
use Rattle.market.specs.declared.zone.Side.{Side}
use Rattle.market.specs.declared.zone.Side.TheVariants.{Sale, Purchase}
use Rattle.market.specs.declared.zone.Zone.{Zone}
use Rattle.market.specs.declared.zone.Zone.TheVariants.{One, Two}
use Rattle.session.specs.Outcomes.{four}
use Rattle.session.specs.Changes.{Becomes, Leaves, SessionBecomes, ZoneBecomes}
use Rattle.session.specs.Lending.{blocks_held, zone_held}
use Rattle.session.specs.Tables.{Counted, ZoneTables, in_zone, lent, zone_tables}
use Rattle.session.specs.declared.session.Session.{Session}
use Rattle.session.specs.declared.session.ZoneCounts.{ZoneCounts}

-- ---- an answer of another type
pub ok_as : {A B : Type 0} (cs : List Cause) (x : A) (y : B) → FirstCause cs (Ok x) → FirstCause cs (Ok y)
ok_as [] x y h = tt
ok_as (c ∷ cs) x y h = (h.0, λ n. ok_as cs x y (h.1 n))

pub err_as : (A B : Type 0) (cs : List Cause) (w : Refusal) → FirstCause {A = A} cs (Err w) → FirstCause {A = B} cs (Err w)
err_as A B [] w h = h
err_as A B (c ∷ cs) w h = (h.0, λ n. err_as A B cs w (h.1 n))

-- ---- the two sides of a zone
abbrev pub with_sales : ZoneCounts → Result ℕ Refusal → Result ZoneCounts Refusal
with_sales n (Ok m) = Ok record { sales = m; purchases = n.purchases }
with_sales n (Err w) = Err w

abbrev pub with_purchases : ZoneCounts → Result ℕ Refusal → Result ZoneCounts Refusal
with_purchases n (Ok m) = Ok record { sales = n.sales; purchases = m }
with_purchases n (Err w) = Err w

module _ (causes : Side → List Cause) (change : Side → ZoneTables → ZoneTables) (n : ZoneCounts) (p : ZonePlaces) where
  -- of a call that leaves the rows ts and qs in the places
  abbrev pub InSide : Side → Result ZoneCounts Refusal → List sale.Sale → List purchase.Purchase → Type 0
  InSide s r ts qs = record {
    why : FirstCause (causes s) r;
    after : ZoneBecomes p.sales.now p.purchases.now (change s (zone_held n p)) r ts qs;
    lent : SameZonePlaces p (record { sales = record p.sales { now = ts }; purchases = record p.purchases { now = qs } });
  }

  -- of a call on the one table that becomes t
  abbrev pub InTable : {X : Type 0} → Side → List X → Counted X → Result ℕ Refusal → List X → Type 0
  InTable s xs t r ys = record { why : FirstCause (causes s) r; after : Leaves xs (Becomes t) r ys }

  pub in_sales : (s : Side) → s ≡ Sale → (t : Counted sale.Sale) → change Sale (zone_held n p) ≡ record { sales = t; purchases = lent p.purchases.now n.purchases } →
      (r : Result ℕ Refusal) (ts : List sale.Sale) → InTable Sale p.sales.now t r ts → length ts ≡ length p.sales.now → InSide s (with_sales n r) ts p.purchases.now
  in_sales s e t c (Ok m) ts k l = subst (λ (x : Side). InSide x (with_sales n (Ok m)) ts p.purchases.now) (sym e) record { why = ok_as (causes Sale) m (record { sales = m; purchases = n.purchases }) k.why; after = subst (λ (z : ZoneTables). ZoneBecomes p.sales.now p.purchases.now z (with_sales n (Ok m)) ts p.purchases.now) (sym c) (k.after, (refl, refl)); lent = ((refl, l), (refl, refl)) }
  in_sales s e t c (Err why) ts k l = subst (λ (x : Side). InSide x (Err why) ts p.purchases.now) (sym e) record { why = err_as ℕ ZoneCounts (causes Sale) why k.why; after = (k.after, refl); lent = ((refl, l), (refl, refl)) }

  pub in_purchases : (s : Side) → s ≡ Purchase → (t : Counted purchase.Purchase) → change Purchase (zone_held n p) ≡ record { sales = lent p.sales.now n.sales; purchases = t } →
      (r : Result ℕ Refusal) (qs : List purchase.Purchase) → InTable Purchase p.purchases.now t r qs → length qs ≡ length p.purchases.now → InSide s (with_purchases n r) p.sales.now qs
  in_purchases s e t c (Ok m) qs k l = subst (λ (x : Side). InSide x (with_purchases n (Ok m)) p.sales.now qs) (sym e) record { why = ok_as (causes Purchase) m (record { sales = n.sales; purchases = m }) k.why; after = subst (λ (z : ZoneTables). ZoneBecomes p.sales.now p.purchases.now z (with_purchases n (Ok m)) p.sales.now qs) (sym c) ((refl, refl), k.after); lent = ((refl, refl), (refl, l)) }
  in_purchases s e t c (Err why) qs k l = subst (λ (x : Side). InSide x (Err why) p.sales.now qs) (sym e) record { why = err_as ℕ ZoneCounts (causes Purchase) why k.why; after = (refl, k.after); lent = ((refl, refl), (refl, l)) }

-- ---- the two zones: z is the zone that a number names, and y the one that it is found to be
pub accepted_in : {A B : Type 0} (causes : Option Zone → List Cause) (y z : Option Zone) (x : A) (v : B) → y ≡ z → FirstCause (causes y) (Ok x) → FirstCause (causes z) (Ok v)
accepted_in {A} {B} causes y z x v e k = subst (λ (w : Option Zone). FirstCause {A = B} (causes w) (Ok v)) e (ok_as (causes y) x v k)

pub refused_in : (A B : Type 0) (causes : Option Zone → List Cause) (y z : Option Zone) (why : Refusal) → y ≡ z → FirstCause {A = A} (causes y) (Err why) → FirstCause {A = B} (causes z) (Err why)
refused_in A B causes y z why e k = subst (λ (w : Option Zone). FirstCause {A = B} (causes w) (Err why)) e (err_as A B (causes y) why k)

pub four_same : (a a' : List sale.Sale) (b b' : List purchase.Purchase) (c c' : List sale.Sale) (d d' : List purchase.Purchase) → a' ≡ a → b' ≡ b → c' ≡ c → d' ≡ d → four a' b' c' d' ≡ four a b c d
four_same a a' b b' c c' d d' p q r s = ap (λ x. four x b' c' d') p ∙ ap (λ x. four a x c' d') q ∙ ap (λ x. four a b x d') r ∙ ap (λ x. four a b c x) s
