use Rattle.std.proofs.Common.{◌≡◌, Err, refl, sym, subst, ◌∙◌, ap}
use Rattle.std.proofs.lemmas.Result.{err_from_is_err_and}
use Rattle.market.proofs.Causes.{first_refuses}
use Rattle.market.specs.Entering.{bid_causes}
use Rattle.market.specs.Refusals.{FirstCause}
use Rattle.market.specs.declared.block.Bid.{Bid}
use Rattle.market.specs.declared.refusal.Refusal.{Refusal}
use Rattle.market.specs.declared.zone.Side.{Side}
use Rattle.market.specs.declared.zone.Side.TheVariants.{Sale, Purchase}
use Rattle.ladders.specs.Ladders.{Entering, Put, of_zone, side_causes}
use Rattle.ladders.specs.declared.ladders.Ladder.{Ladder}
use Rattle.ladders.proofs.ladders.Ladders.enter.Goals as goal

-- a refusal that leaves a ladder as it was
unput : (s : Side) (b : Bid) (l : Ladder) (w : Refusal) → Put {A = Unit {0}} s b l l (Err w)
unput Sale b l w = ((refl, refl), (refl, refl))
unput Purchase b l w = ((refl, refl), (refl, refl))

pub returns-in_err-check : goal.returns-in_err-check
returns-in_err-check c =
    let d = err_from_is_err_and c.from_residual-in_err-check.result c.from_residual-in_err-check.ensures.1 in
    let is : c.from_residual-in_err-check.result ≡ Err c.in_err-check.field-0.0 = d.1 ∙ ap Err d.2 in
    let refused = subst (λ r. FirstCause {A = Unit {0}} (bid_causes c.args.bid) r) (c.in_err-check.was) c.check.ensures in
    subst (λ r. Entering {A = Unit {0}} c.args.zone c.args.side c.args.bid c.args.self.now c.args.self.now r) (sym is)
    (record {
      wrong = λ n. absurd (n c.in_ok-zone.zone c.in_ok-zone.ensures);
      why = λ z e. first_refuses (Unit {0}) (Unit {0}) (bid_causes c.args.bid) (side_causes c.args.side c.args.bid (of_zone z c.args.self.now)) c.in_err-check.field-0.0 refused;
      put = λ z e. unput c.args.side c.args.bid (of_zone z c.args.self.now) c.in_err-check.field-0.0;
      other = λ z e. ((refl, refl), (refl, refl));
    })
