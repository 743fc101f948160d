use Rattle.std.proofs.Common.{◌≡◌, ℕ, ◌+◌, ◌-◌, ◌<◌, ◌≤◌, length, get_or, ℤ, sym, refl, ap, ◌∙◌, arith, w32, SFits, to_z, of_z, rules}
use Rattle.std.proofs.lemmas.List.{append-nil, take_all, drop_all}
use Rattle.std.proofs.lemmas.Int.{to_z-of_z}
use Rattle.auction.specs.Curve.{fill, tie, place, by_place}
use Rattle.auction.specs.Offers.{price_of, volume_of, rank_of}
use Rattle.auction.proofs.Filling.{tied_room, filled_more, room_more}
use Rattle.auction.proofs.Sides.{blank}
use Rattle.auction.proofs.fill.fill_offers.Goals as goal

pub loop-offer-init : goal.loop-offer-init
loop-offer-init g c =
    let e = ap (λ (r : ℤ). tie (rank_of c.args.side) (rank_of c.args.side r) c.args.offers.now) (to_z-of_z w32 c.args.marginal c.ranges.marginal) in
    (refl, omega (arith, e, c.requires))

pub part-matched-requires : goal.part-matched-requires
part-matched-requires g c =
    let os = c.loop-offer.offers in
    let i = c.loop-offer.offer-index in
    let rank = rank_of c.args.side in
    let m = rank (to_z w32 (of_z w32 c.args.marginal)) in
    let h : i < length os = search rules in
    let f : SFits w32 (price_of (get_or os i blank)) = search rules in
    let p : c.place_of-place.result ≡ place m (rank (price_of (get_or os i blank))) = rw (to_z-of_z w32 (price_of (get_or os i blank)) f) at c.place_of-place.ensures in
    record { room = tied_room (g.S.SharingRule.meaning c.args.rule.now) rank m c.args.shared.amount c.args.shared.tied c.loop-offer.passed i os h c.loop-offer.invariant.1 c.place_of-place.result p }

pub loop-offer-preserved : goal.loop-offer-preserved
loop-offer-preserved g c =
    let os = c.loop-offer.offers in
    let i = c.loop-offer.offer-index in
    let o = get_or os i blank in
    let rank = rank_of c.args.side in
    let m = rank (to_z w32 (of_z w32 c.args.marginal)) in
    let s : ℕ → ℕ → ℕ → ℕ = g.S.SharingRule.meaning c.args.rule.now in
    let h : i < length os = search rules in
    let f : SFits w32 (price_of o) = search rules in
    let p : c.place_of-place.result ≡ place m (rank (price_of o)) = rw (to_z-of_z w32 (price_of o) f) at c.place_of-place.ensures in
    let e : c.part-matched.result.0 ≡ by_place (volume_of o) (s c.args.shared.amount c.args.shared.tied (c.loop-offer.passed + volume_of o) - s c.args.shared.amount c.args.shared.tied c.loop-offer.passed) 0 (place m (rank (price_of o))) =
    c.part-matched.ensures.matched ∙ ap (by_place (volume_of o) (s c.args.shared.amount c.args.shared.tied (c.loop-offer.passed + volume_of o) - s c.args.shared.amount c.args.shared.tied c.loop-offer.passed) 0) p in
    let e' : c.part-matched.result.1 ≡ by_place c.loop-offer.passed (c.loop-offer.passed + volume_of o) c.loop-offer.passed (place m (rank (price_of o))) =
    c.part-matched.ensures.next ∙ ap (by_place c.loop-offer.passed (c.loop-offer.passed + volume_of o) c.loop-offer.passed) p in (
      filled_more s rank m c.args.shared.amount c.args.shared.tied c.loop-offer.passed i os h c.part-matched.result.0 c.part-matched.result.1 e e' (fill s rank m c.args.shared.amount c.args.shared.tied 0 c.args.offers.now) c.loop-offer.invariant.0,
      room_more s rank m c.args.shared.amount c.args.shared.tied c.loop-offer.passed i os h c.part-matched.result.0 c.part-matched.result.1 e e' c.loop-offer.invariant.1,
    )

pub returns : goal.returns
returns g c =
    let os = c.loop-offer.offers in
    let i = c.loop-offer.offer-index in
    let rank = rank_of c.args.side in
    let h : length os ≤ i = search rules in
    let k = rw (take_all i os h, drop_all i os h) at c.loop-offer.invariant.0 in
    sym (append-nil os) ∙ k ∙ ap (λ (r : ℤ). fill (g.S.SharingRule.meaning c.args.rule.now) rank (rank r) c.args.shared.amount c.args.shared.tied 0 c.args.offers.now) (to_z-of_z w32 c.args.marginal c.ranges.marginal)
