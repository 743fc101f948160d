use Rattle.std.proofs.Common.{◌≡◌, ℕ, ◌+◌, ◌<◌, ◌≤◌, length, get_or, drop, ℤ, ap, ◌∙◌, arith, w32, SFits, to_z, of_z, rules}
use Rattle.std.proofs.lemmas.List.{at_drop_more, at_drop_all}
use Rattle.std.proofs.lemmas.Int.{to_z-of_z}
use Rattle.auction.specs.Curve.{ahead, tie, place, by_place}
use Rattle.auction.specs.Offers.{price_of, volume_of, rank_of}
use Rattle.auction.proofs.Filling.{before_le, tied_le, volume_at}
use Rattle.auction.proofs.Sides.{blank}
use Rattle.auction.proofs.fill.standing.Goals as goal

pub overflow_add-ahead : goal.overflow_add-ahead
overflow_add-ahead c =
    let i = c.loop-offer.offer-index in
    let h : i < length c.args.offers.now = search rules in
    let e : c.counted-before.result.0 ≡ by_place (volume_of (get_or c.args.offers.now i blank)) 0 0 c.place_of.result = ap (λ (r : ℕ × ℕ). r.0) c.counted-before.ensures in
    omega (arith, e, before_le (volume_of (get_or c.args.offers.now i blank)) c.place_of.result, volume_at c.args.offers.now i h c.requires.bids, c.loop-offer.invariant.2, c.requires.few)

pub overflow_add-tied : goal.overflow_add-tied
overflow_add-tied c =
    let i = c.loop-offer.offer-index in
    let h : i < length c.args.offers.now = search rules in
    let e : c.counted-before.result.1 ≡ by_place 0 (volume_of (get_or c.args.offers.now i blank)) 0 c.place_of.result = ap (λ (r : ℕ × ℕ). r.1) c.counted-before.ensures in
    omega (arith, e, tied_le (volume_of (get_or c.args.offers.now i blank)) c.place_of.result, volume_at c.args.offers.now i h c.requires.bids, c.loop-offer.invariant.3, c.requires.few)

pub loop-offer-preserved : goal.loop-offer-preserved
loop-offer-preserved c =
    let os = c.args.offers.now in
    let i = c.loop-offer.offer-index in
    let o = get_or os i blank in
    let rank = rank_of c.args.side in
    let m = rank (to_z w32 (of_z w32 c.args.marginal)) in
    let h : i < length os = search rules in
    let f : SFits w32 (price_of o) = search rules in
    let p : c.place_of.result ≡ place m (rank (price_of o)) = rw (to_z-of_z w32 (price_of o) f) at c.place_of.ensures in
    let e : c.counted-before.result.0 ≡ by_place (volume_of o) 0 0 (place m (rank (price_of o))) = ap (λ (r : ℕ × ℕ). r.0) c.counted-before.ensures ∙ ap (by_place (volume_of o) 0 0) p in
    let e' : c.counted-before.result.1 ≡ by_place 0 (volume_of o) 0 (place m (rank (price_of o))) = ap (λ (r : ℕ × ℕ). r.1) c.counted-before.ensures ∙ ap (by_place 0 (volume_of o) 0) p in
    let a : ahead rank m (drop i os) ≡ by_place (volume_of o) 0 0 (place m (rank (price_of o))) + ahead rank m (drop (i + 1) os) = at_drop_more (ahead rank m) os i blank h in
    let b : tie rank m (drop i os) ≡ by_place 0 (volume_of o) 0 (place m (rank (price_of o))) + tie rank m (drop (i + 1) os) = at_drop_more (tie rank m) os i blank h in
    let v = volume_at os i h c.requires.bids in (
      omega (arith, e, a, c.loop-offer.invariant.0),
      omega (arith, e', b, c.loop-offer.invariant.1),
      omega (arith, e, v, before_le (volume_of o) (place m (rank (price_of o))), c.loop-offer.invariant.2),
      omega (arith, e', v, tied_le (volume_of o) (place m (rank (price_of o))), c.loop-offer.invariant.3),
    )

pub returns : goal.returns
returns c =
    let os = c.args.offers.now in
    let i = c.loop-offer.offer-index in
    let rank = rank_of c.args.side in
    let m = rank (to_z w32 (of_z w32 c.args.marginal)) in
    let l : length os ≤ i = search rules in
    let u : m ≡ rank c.args.marginal = ap rank (to_z-of_z w32 c.args.marginal c.ranges.marginal) in
    let a : ahead rank m (drop i os) ≡ 0 = at_drop_all (ahead rank m) os i l in
    let b : tie rank m (drop i os) ≡ 0 = at_drop_all (tie rank m) os i l in
    record {
      ahead = let k : c.loop-offer.ahead ≡ ahead rank m os = omega (arith, a, c.loop-offer.invariant.0) in k ∙ ap (λ (r : ℤ). ahead rank r os) u;
      tied = let k : c.loop-offer.tied ≡ tie rank m os = omega (arith, b, c.loop-offer.invariant.1) in k ∙ ap (λ (r : ℤ). tie rank r os) u;
    }
