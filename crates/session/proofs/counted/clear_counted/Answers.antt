use Rattle.std.proofs.Common.{◌≡◌, take, refl, ap, ◌∙◌, w32, w64, SFits, to_z, of_z, rules}
use Rattle.std.proofs.lemmas.Int.{to_z-of_z}
use Rattle.auction.specs.Best.{ClearedWell}
use Rattle.auction.specs.Books.{Book, surplus}
use Rattle.auction.specs.Clearing.{clearing}
use Rattle.auction.specs.Steps.{Clears}
use Rattle.auction.specs.Tables.{book}
use Rattle.session.specs.Lending.{four_held}
use Rattle.session.specs.Outcomes.{Four, outcome_at}
use Rattle.session.proofs.Clears.{flow_fits, places_scheduled}
use Rattle.session.proofs.counted.clear_counted.Goals as goal

pub returns : goal.returns
returns g c =
    let a = c.args in
    let s = a.session in
    let r = c.clear-clearing.result in
    let m = g.S.SharingRule.meaning a.engine.now.sharing_rule in
    let f = g.P.PriceRule.meaning a.engine.now.price_rule in
    let t : Four = four_held a.blocks.now in
    let b₁ : Book = book (take s.one.sales t.sales₁) (take s.one.purchases t.purchases₁) in
    let b₂ : Book = book (take s.two.sales t.sales₂) (take s.two.purchases t.purchases₂) in
    let l = c.clear-clearing.new in
    let k : Clears m f s.capacities.forward s.capacities.backward b₁ b₂ (book l.sales_one l.purchases_one) (book l.sales_two l.purchases_two) r.price_one r.price_two r.flow = search rules in
    let w : ClearedWell s.capacities.forward s.capacities.backward b₁ b₂ (clearing m f s.capacities.forward s.capacities.backward b₁ b₂) = search rules in
    let gain : r.surplus ≡ surplus (outcome_at m f s t).schedule = search rules in
    let fits_one : SFits w32 r.price_one = search rules in
    let fits-two : SFits w32 r.price_two = search rules in
    let fits-long : SFits w64 r.flow = search rules in
    let fits-flow : SFits w32 r.flow = flow_fits s.capacities.forward s.capacities.backward b₁ b₂ (clearing m f s.capacities.forward s.capacities.backward b₁ b₂) r.flow s.capacities.within.0 s.capacities.within.1 w k.carried in
    let fits-gain : SFits w64 r.surplus = search rules in
    record {
      report = record {
        price₁ = to_z-of_z w32 r.price_one fits_one ∙ k.price₁;
        price₂ = to_z-of_z w32 r.price_two fits-two ∙ k.price₂;
        flow = ap (λ z. to_z w32 (of_z w32 z)) (to_z-of_z w64 r.flow fits-long) ∙ to_z-of_z w32 r.flow fits-flow ∙ k.carried;
        gained = to_z-of_z w64 r.surplus fits-gain ∙ gain;
      };
      places = places_scheduled (outcome_at m f s t) s t l.sales_one l.purchases_one l.sales_two l.purchases_two k.zone₁ k.zone₂;
      lent = ((refl, search rules), (refl, search rules), (refl, search rules), (refl, search rules));
    }
