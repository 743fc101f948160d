-- Small histories, by computation from the definitions.
use Rattle.std.specs.Prelude.{◌≡◌, ℕ, true, false, [], ◌∷◌, length, pos, refl}
use Rattle.market.specs.declared.block.Bid.{Bid}
use Rattle.market.specs.declared.call.Call.TheVariants.{Admit, Begin, Enter, Withdraw, Close}
use Rattle.market.specs.declared.refusal.Refusal.TheVariants.{TableFull}
use Rattle.market.specs.declared.zone.Side.TheVariants.{Sale}
use Rattle.market.specs.declared.zone.Zone.TheVariants.{One, Two}
use Rattle.exchange.specs.History.{History, accepted, begun, closed, phase, refused, standing_purchases, standing_sales}
use Rattle.exchange.specs.Law.{admitted}
use Rattle.session.specs.Tables.{sale_row}

abbrev bid : ℕ → ℕ → Bid
bid unit volume = record { agent = 1; unit = unit; number = 1; stamp = 0; price = pos 10; volume = volume }

-- two agents, and a sale of 3 tenths behind a sale of 2; a second bid is refused, and the session is closed
abbrev story : History
story =
    accepted Close
    ∷ refused (Enter 1 Sale (bid 9 9)) TableFull
    ∷ accepted (Enter 1 Sale (bid 5 2))
    ∷ accepted (Enter 1 Sale (bid 4 3))
    ∷ accepted (Begin 7 100 0)
    ∷ accepted (Admit 1)
    ∷ []

two_sales : standing_sales One story ≡ sale_row (bid 5 2) ∷ sale_row (bid 4 3) ∷ []
two_sales = refl

none_elsewhere : length (standing_sales Two story) ≡ 0
none_elsewhere = refl

no_purchase : length (standing_purchases One story) ≡ 0
no_purchase = refl

one_withdrawn : standing_sales One (accepted (Withdraw 1 Sale (record { unit = 5; number = 1 })) ∷ story) ≡ sale_row (bid 4 3) ∷ []
one_withdrawn = refl

begun_last : (begun story).there ≡ 100
begun_last = refl

is_closed : phase story ≡ closed
is_closed = refl

first_admitted : admitted 1 story ≡ true
first_admitted = refl

second_not : admitted 2 story ≡ false
second_not = refl
