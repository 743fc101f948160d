use Rattle.std.proofs.Common.{◌≡◌, true, filter, fold, map, List, Bor, Iter, ap, ◌∙◌, w32, SFits, to_z, of_z, rules}
use Rattle.std.proofs.lemmas.Int.{to_z-of_z}
use Rattle.auction.specs.Bracket.{passes}
use Rattle.auction.specs.Offers.{price_of}
use Rattle.auction.specs.declared.offer.Offer.{Offer}
use Rattle.auction.proofs.Ends.{prices_behind}
use Rattle.auction.proofs.bracket.folded.Goals as goal

pub returns : goal.returns
returns g c = λ h acts.
    let r : SFits w32 c.fold.result = search rules in
    let test = passes c.args.part in
    let m = c.map.ensures.runs c.fold.ensures.runs.0 c.fold.ensures.runs.0.seen c.fold.ensures.runs.1 in
    let f = c.filter.ensures.runs m.0 m.0.seen m.1 in
    let priced : c.fold.ensures.runs.0.items ≡ map (λ (o : Bor Offer). price_of o.now) m.0.items = m.2.3 (λ (o : Bor Offer). price_of o.now) (λ x p q k. search rules) in
    let passed : m.0.items ≡ filter (λ (o : Bor Offer). test o.now) f.0.items = f.2.4 (λ (o : Bor Offer). test o.now) (λ x p q k. search rules) in
    let whole : f.0.whole ≡ true = f.2.0 ∙ m.2.0 ∙ c.fold.ensures.runs.2 in
    let read : map (λ (o : Bor Offer). o.now) f.0.items ≡ c.args.offers.now = (c.iter.ensures.runs f.0 f.0.seen).4 whole ∙ ap (λ (s : Iter Offer). s.rest.now) f.1 ∙ c.iter.ensures.rest in
    let prices : c.fold.ensures.runs.0.items ≡ map price_of (filter test c.args.offers.now) =
    priced ∙ ap (map (λ (o : Bor Offer). price_of o.now)) passed ∙ prices_behind test f.0.items ∙ ap (λ (os : List Offer). map price_of (filter test os)) read in
    rw (to_z-of_z w32 c.fold.result r, ← to_z-of_z w32 c.args.start c.ranges.start) (c.fold.ensures.runs.3 h acts ∙ ap (fold h (to_z w32 (of_z w32 c.args.start))) prices)
