use borrow.Author.Differences.{ints}
use Rattle.std.proofs.Common.{◌≡◌, ℕ, ℤ, sym, ap, ◌∙◌, subst, arith, w32, SFits, rules}
use Rattle.std.proofs.lemmas.Int.{to_z-of_z}
use Rattle.market.specs.declared.places.ZonePlaces.{ZonePlaces}
use Rattle.market.specs.declared.zone.Zone.TheVariants.{One, Two}
use Rattle.auction.specs.declared.line.Line.{Line}
use Rattle.auction.specs.declared.line.Line.TheVariants.{Enough, There, Back}
use Rattle.auction.specs.Books.{Book}
use Rattle.auction.specs.Clearing.{Pool, Room, book_of, cleared, price_in, zone_pool}
use Rattle.auction.specs.Tables.{TablesSound, book_of_places}
use Rattle.rules.specs.Shares.{Shares}
use Rattle.auction.proofs.Steps.{clears_there, clears_back, room_there, room_back}
use Rattle.auction.proofs.Tables.{book_sound}
use Rattle.auction.proofs.engine.Engine.clear_tables.Goals as goal

not_enough_there : (l : Line) → l ≡ There → l ≡ Enough → ⊥
not_enough_there l e h = let z : ◌≡◌ {A = ℕ} 0 1 = cc in omega arith

not_enough_back : (l : Line) → l ≡ Back → l ≡ Enough → ⊥
not_enough_back l e h = let z : ◌≡◌ {A = ℕ} 0 1 = cc in omega arith

pub clear_alone-price_one-requires-clause-room : goal.clear_alone-price_one-requires-clause-room
clear_alone-price_one-requires-clause-room g c =
    let m : ℕ → ℕ → ℕ → ℕ = g.S.SharingRule.meaning c.args.self.now.sharing_rule in
    let f : ℤ → ℤ → ℤ = g.P.PriceRule.meaning c.args.self.now.price_rule in
    let shares : Shares m = g.met.S.SharingRule.lawful c.args.self.now.sharing_rule in
    let b₁ = book_of_places c.args.one.now in
    let b₂ = book_of_places c.args.two.now in
    let kept = c.clear_common-common.ensures.kept (not_enough_there c.clear_common-common.result.line c.in-There.is) in
    let room = room_there m f c.args.capacities.forward c.args.capacities.backward b₁ b₂ c.clear_common-common.result.line c.clear_common-common.result.price c.clear_common-common.result.flow c.clear_common-common.ensures.found b₁ b₂ shares (book_sound _ _ c.requires.one) (book_sound _ _ c.requires.two) c.in-There.is in
    rw c.forward-forward.ensures.value (subst (λ (b : ZonePlaces). Room (zone_pool One (book_of_places b) 0 c.args.capacities.forward)) (sym kept.0) room.0)

pub clear_alone-price_two-requires-clause-tables : goal.clear_alone-price_two-requires-clause-tables
clear_alone-price_two-requires-clause-tables g c =
    let kept = c.clear_common-common.ensures.kept (not_enough_there c.clear_common-common.result.line c.in-There.is) in
    subst (λ (b : ZonePlaces). TablesSound b.sales.now b.purchases.now) (sym kept.1) c.requires.two

pub clear_alone-price_two-requires-clause-room : goal.clear_alone-price_two-requires-clause-room
clear_alone-price_two-requires-clause-room g c =
    let m : ℕ → ℕ → ℕ → ℕ = g.S.SharingRule.meaning c.args.self.now.sharing_rule in
    let f : ℤ → ℤ → ℤ = g.P.PriceRule.meaning c.args.self.now.price_rule in
    let shares : Shares m = g.met.S.SharingRule.lawful c.args.self.now.sharing_rule in
    let b₁ = book_of_places c.args.one.now in
    let b₂ = book_of_places c.args.two.now in
    let kept = c.clear_common-common.ensures.kept (not_enough_there c.clear_common-common.result.line c.in-There.is) in
    let room = room_there m f c.args.capacities.forward c.args.capacities.backward b₁ b₂ c.clear_common-common.result.line c.clear_common-common.result.price c.clear_common-common.result.flow c.clear_common-common.ensures.found b₁ b₂ shares (book_sound _ _ c.requires.one) (book_sound _ _ c.requires.two) c.in-There.is in
    rw c.forward-forward.ensures.value (subst (λ (b : ZonePlaces). Room (zone_pool Two (book_of_places b) c.args.capacities.forward 0)) (sym kept.1) room.1)

pub clear_alone-price_one-requires-in-Back-clause-tables : goal.clear_alone-price_one-requires-in-Back-clause-tables
clear_alone-price_one-requires-in-Back-clause-tables g c =
    let kept = c.clear_common-common.ensures.kept (not_enough_back c.clear_common-common.result.line c.in-Back.is) in
    subst (λ (b : ZonePlaces). TablesSound b.sales.now b.purchases.now) (sym kept.0) c.requires.one

pub clear_alone-price_one-requires-in-Back-clause-room : goal.clear_alone-price_one-requires-in-Back-clause-room
clear_alone-price_one-requires-in-Back-clause-room g c =
    let m : ℕ → ℕ → ℕ → ℕ = g.S.SharingRule.meaning c.args.self.now.sharing_rule in
    let f : ℤ → ℤ → ℤ = g.P.PriceRule.meaning c.args.self.now.price_rule in
    let shares : Shares m = g.met.S.SharingRule.lawful c.args.self.now.sharing_rule in
    let b₁ = book_of_places c.args.one.now in
    let b₂ = book_of_places c.args.two.now in
    let kept = c.clear_common-common.ensures.kept (not_enough_back c.clear_common-common.result.line c.in-Back.is) in
    let room = room_back m f c.args.capacities.forward c.args.capacities.backward b₁ b₂ c.clear_common-common.result.line c.clear_common-common.result.price c.clear_common-common.result.flow c.clear_common-common.ensures.found b₁ b₂ shares (book_sound _ _ c.requires.one) (book_sound _ _ c.requires.two) c.in-Back.is in
    rw c.backward-backward.ensures.value (subst (λ (b : ZonePlaces). Room (zone_pool One (book_of_places b) c.args.capacities.backward 0)) (sym kept.0) room.0)

pub clear_alone-price_two-requires-in-Back-clause-tables : goal.clear_alone-price_two-requires-in-Back-clause-tables
clear_alone-price_two-requires-in-Back-clause-tables g c =
    let kept = c.clear_common-common.ensures.kept (not_enough_back c.clear_common-common.result.line c.in-Back.is) in
    subst (λ (b : ZonePlaces). TablesSound b.sales.now b.purchases.now) (sym kept.1) c.requires.two

pub clear_alone-price_two-requires-in-Back-clause-room : goal.clear_alone-price_two-requires-in-Back-clause-room
clear_alone-price_two-requires-in-Back-clause-room g c =
    let m : ℕ → ℕ → ℕ → ℕ = g.S.SharingRule.meaning c.args.self.now.sharing_rule in
    let f : ℤ → ℤ → ℤ = g.P.PriceRule.meaning c.args.self.now.price_rule in
    let shares : Shares m = g.met.S.SharingRule.lawful c.args.self.now.sharing_rule in
    let b₁ = book_of_places c.args.one.now in
    let b₂ = book_of_places c.args.two.now in
    let kept = c.clear_common-common.ensures.kept (not_enough_back c.clear_common-common.result.line c.in-Back.is) in
    let room = room_back m f c.args.capacities.forward c.args.capacities.backward b₁ b₂ c.clear_common-common.result.line c.clear_common-common.result.price c.clear_common-common.result.flow c.clear_common-common.ensures.found b₁ b₂ shares (book_sound _ _ c.requires.one) (book_sound _ _ c.requires.two) c.in-Back.is in
    rw c.backward-backward.ensures.value (subst (λ (b : ZonePlaces). Room (zone_pool Two (book_of_places b) 0 c.args.capacities.backward)) (sym kept.1) room.1)

pub returns-in-There-clause-clears : goal.returns-in-There-clause-clears
returns-in-There-clause-clears g c =
    let m : ℕ → ℕ → ℕ → ℕ = g.S.SharingRule.meaning c.args.self.now.sharing_rule in
    let f : ℤ → ℤ → ℤ = g.P.PriceRule.meaning c.args.self.now.price_rule in
    let b₁ = book_of_places c.args.one.now in
    let b₂ = book_of_places c.args.two.now in
    let kept = c.clear_common-common.ensures.kept (not_enough_there c.clear_common-common.result.line c.in-There.is) in
    let e₁ : book_of_places c.clear_common-common.new.one ≡ b₁ = ap book_of_places kept.0 in
    let e₂ : book_of_places c.clear_common-common.new.two ≡ b₂ = ap book_of_places kept.1 in
    let in₁ : Book → ℕ → Pool = λ b k. cleared m (zone_pool One b 0 k) in
    let in₂ : Book → ℕ → Pool = λ b k. cleared m (zone_pool Two b k 0) in
    let same₁ : in₁ (book_of_places c.clear_common-common.new.one) c.forward-forward.result ≡ in₁ b₁ c.args.capacities.forward = ap (λ (b : Book). in₁ b c.forward-forward.result) e₁ ∙ ap (in₁ b₁) c.forward-forward.ensures.value in
    let same₂ : in₂ (book_of_places c.clear_common-common.new.two) c.forward-forward.result ≡ in₂ b₂ c.args.capacities.forward = ap (λ (b : Book). in₂ b c.forward-forward.result) e₂ ∙ ap (in₂ b₂) c.forward-forward.ensures.value in
    let r₁ : SFits w32 c.clear_alone-price_one.result = search rules in
    let r₂ : SFits w32 c.clear_alone-price_two.result = search rules in
    clears_there m f c.args.capacities.forward c.args.capacities.backward b₁ b₂ c.clear_common-common.result.line c.clear_common-common.result.price c.clear_common-common.result.flow c.clear_common-common.ensures.found
    (book_of_places c.clear_alone-price_one.new.places) (book_of_places c.clear_alone-price_two.new.places) _ _ _ c.in-There.is
    (c.clear_alone-price_one.ensures.tables ∙ ap (book_of One) same₁) (c.clear_alone-price_two.ensures.tables ∙ ap (book_of Two) same₂)
    (to_z-of_z w32 c.clear_alone-price_one.result r₁ ∙ c.clear_alone-price_one.ensures.price ∙ ap (price_in f) same₁) (to_z-of_z w32 c.clear_alone-price_two.result r₂ ∙ c.clear_alone-price_two.ensures.price ∙ ap (price_in f) same₂)
    (omega (arith, ints, c.forward-forward.ensures.value, c.forward-forward.ensures.within))

pub returns-in-Back-clause-clears : goal.returns-in-Back-clause-clears
returns-in-Back-clause-clears g c =
    let m : ℕ → ℕ → ℕ → ℕ = g.S.SharingRule.meaning c.args.self.now.sharing_rule in
    let f : ℤ → ℤ → ℤ = g.P.PriceRule.meaning c.args.self.now.price_rule in
    let b₁ = book_of_places c.args.one.now in
    let b₂ = book_of_places c.args.two.now in
    let kept = c.clear_common-common.ensures.kept (not_enough_back c.clear_common-common.result.line c.in-Back.is) in
    let e₁ : book_of_places c.clear_common-common.new.one ≡ b₁ = ap book_of_places kept.0 in
    let e₂ : book_of_places c.clear_common-common.new.two ≡ b₂ = ap book_of_places kept.1 in
    let in₁ : Book → ℕ → Pool = λ b k. cleared m (zone_pool One b k 0) in
    let in₂ : Book → ℕ → Pool = λ b k. cleared m (zone_pool Two b 0 k) in
    let same₁ : in₁ (book_of_places c.clear_common-common.new.one) c.backward-backward.result ≡ in₁ b₁ c.args.capacities.backward = ap (λ (b : Book). in₁ b c.backward-backward.result) e₁ ∙ ap (in₁ b₁) c.backward-backward.ensures.value in
    let same₂ : in₂ (book_of_places c.clear_common-common.new.two) c.backward-backward.result ≡ in₂ b₂ c.args.capacities.backward = ap (λ (b : Book). in₂ b c.backward-backward.result) e₂ ∙ ap (in₂ b₂) c.backward-backward.ensures.value in
    let r₁ : SFits w32 c.clear_alone-price_one-in-Back.result = search rules in
    let r₂ : SFits w32 c.clear_alone-price_two-in-Back.result = search rules in
    clears_back m f c.args.capacities.forward c.args.capacities.backward b₁ b₂ c.clear_common-common.result.line c.clear_common-common.result.price c.clear_common-common.result.flow c.clear_common-common.ensures.found
    (book_of_places c.clear_alone-price_one-in-Back.new.places) (book_of_places c.clear_alone-price_two-in-Back.new.places) _ _ _ c.in-Back.is
    (c.clear_alone-price_one-in-Back.ensures.tables ∙ ap (book_of One) same₁) (c.clear_alone-price_two-in-Back.ensures.tables ∙ ap (book_of Two) same₂)
    (to_z-of_z w32 c.clear_alone-price_one-in-Back.result r₁ ∙ c.clear_alone-price_one-in-Back.ensures.price ∙ ap (price_in f) same₁) (to_z-of_z w32 c.clear_alone-price_two-in-Back.result r₂ ∙ c.clear_alone-price_two-in-Back.ensures.price ∙ ap (price_in f) same₂)
    (omega (arith, ints, c.backward-backward.ensures.value, c.backward-backward.ensures.within))
