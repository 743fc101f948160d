-- What the steps of a clearing answer, and what the whole of it does.
use Rattle.std.specs.Prelude.{◌≡◌, ℕ, ℤ}
use Rattle.market.specs.declared.zone.Zone.TheVariants.{One}
use Rattle.auction.specs.declared.line.Line.{Line}
use Rattle.auction.specs.Books.{Book, exported}
use Rattle.auction.specs.Clearing.{book_of, cleared, clearing, line, price_in, together}

module _ (g : ℕ → ℕ → ℕ → ℕ) (f : ℤ → ℤ → ℤ) (forward backward : ℕ) (b₁ b₂ : Book) where
  -- the zones as one: how the line stands to their flow, and their price
  pub record CommonFound (l : Line) (p e : ℤ) : Type 0 where
    pub line_is : l ≡ line forward backward (exported (book_of One (cleared g (together b₁ b₂))))
    pub price_is : p ≡ price_in f (cleared g (together b₁ b₂))
    pub flow_is : e ≡ exported (book_of One (cleared g (together b₁ b₂)))

  -- the books c₁ and c₂, the prices and the flow are those of the clearing
  pub record Clears (c₁ c₂ : Book) (p₁ p₂ e : ℤ) : Type 0 where
    pub zone₁ : c₁ ≡ (clearing g f forward backward b₁ b₂).schedule.zone₁
    pub zone₂ : c₂ ≡ (clearing g f forward backward b₁ b₂).schedule.zone₂
    pub price₁ : p₁ ≡ (clearing g f forward backward b₁ b₂).price₁
    pub price₂ : p₂ ≡ (clearing g f forward backward b₁ b₂).price₂
    pub carried : e ≡ (clearing g f forward backward b₁ b₂).flow_out
