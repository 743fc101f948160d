-- A slice whose counted part was rewritten.
use Rattle.std.proofs.Common.{◌≡◌, ℕ, ◌-◌, List, ◌++◌, length, take, drop, ℤ, sym, ap, ◌∙◌, subst}
use native.Mathlib.Nat.{sub-zero}
use borrow.Rule.Slice.PartMut.{post_of}
use Rattle.std.proofs.lemmas.List.{drop_at, take_at}
use Rattle.market.specs.declared.purchase.Purchase.{Purchase}
use Rattle.market.specs.declared.sale.Sale.{Sale}
use Rattle.auction.specs.Books.{Book}
use Rattle.auction.specs.Steps.{Clears}
use Rattle.auction.specs.Tables.{book}

-- ys in the place of the first n of xs
pub behind_counted : {X : Type 0} (xs ys : List X) (n : ℕ) → length ys ≡ n → drop n (ys ++ post_of 0 (n - 0) xs) ≡ drop n xs
behind_counted xs ys n e = drop_at ys (post_of 0 (n - 0) xs) n e ∙ ap (λ k. drop k xs) (sub-zero n)

-- the books of a zone's counted rows
book_counted : (ss ss' : List Sale) (ps ps' : List Purchase) (n m : ℕ) → length ss ≡ n → length ps ≡ m → book (take n (ss ++ ss')) (take m (ps ++ ps')) ≡ book ss ps
book_counted ss ss' ps ps' n m d e = ap (λ x. book x (take m (ps ++ ps'))) (take_at ss ss' n d) ∙ ap (book ss) (take_at ps ps' m e)

module _ (g : ℕ → ℕ → ℕ → ℕ) (f : ℤ → ℤ → ℤ) (forward backward : ℕ) (b₁ b₂ : Book) (p₁ p₂ e : ℤ) where
  pub clears-counted :
      (s₁ s₁' : List Sale) (q₁ q₁' : List Purchase) (s₂ s₂' : List Sale) (q₂ q₂' : List Purchase) (n₁ m₁ n₂ m₂ : ℕ) →
      length s₁ ≡ n₁ → length q₁ ≡ m₁ → length s₂ ≡ n₂ → length q₂ ≡ m₂ →
      Clears g f forward backward b₁ b₂ (book s₁ q₁) (book s₂ q₂) p₁ p₂ e →
      Clears g f forward backward b₁ b₂ (book (take n₁ (s₁ ++ s₁')) (take m₁ (q₁ ++ q₁'))) (book (take n₂ (s₂ ++ s₂')) (take m₂ (q₂ ++ q₂'))) p₁ p₂ e
  clears-counted s₁ s₁' q₁ q₁' s₂ s₂' q₂ q₂' n₁ m₁ n₂ m₂ a b c d h =
      subst (λ x. Clears g f forward backward b₁ b₂ x (book (take n₂ (s₂ ++ s₂')) (take m₂ (q₂ ++ q₂'))) p₁ p₂ e) (sym (book_counted s₁ s₁' q₁ q₁' n₁ m₁ a b))
      (subst (λ x. Clears g f forward backward b₁ b₂ (book s₁ q₁) x p₁ p₂ e) (sym (book_counted s₂ s₂' q₂ q₂' n₂ m₂ c d)) h)
