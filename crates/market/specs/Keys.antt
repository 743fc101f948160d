-- Lemmas for the laws of the orders: bids with different keys never stand at one place of an order. To believe: nothing.
use Rattle.std.specs.Prelude.{◌≡◌, ℕ, true, false, List, ◌∷◌, ℤ, Decides, ◌==◌}
use Rattle.std.proofs.Common.{ap, ◌∙◌, arith}
use Rattle.std.proofs.lemmas.Bool.Decides.{Decides-and, Decides-eqb, Decides-like, nat_tests}
use Rattle.std.proofs.lemmas.Bool.{both_ways}
use Rattle.table.specs.Order.{Lawful}
use Rattle.market.specs.Precedence.{at_one_price, key_of, lex, same_key}
use Rattle.market.specs.declared.block.Bid.{Bid}
use Rattle.market.specs.declared.block.BlockKey.{BlockKey}
use Rattle.market.specs.Lexes.{lex_apart, lex_chains, lex_never}

pub key_decides : (a b : BlockKey) → Decides (same_key a b) (a ≡ b)
key_decides a b =
    let of : ℕ → ℕ → BlockKey = λ u n. record { unit = u; number = n } in
    Decides-like (same_key a b)
    (λ h. ap (λ u. of u a.number) h.0 ∙ ap (λ n. of b.unit n) h.1)
    (λ e. (ap (λ k. k.unit) e, ap (λ k. k.number) e))
    (Decides-and (a.unit == b.unit) (a.number == b.number) (Decides-eqb a.unit b.unit) (Decides-eqb a.number b.number))

-- p and q are what the prices count for
pub ranks_apart : (p q : ℤ) (a b : Bid) → same_key (key_of a) (key_of b) ≡ false → lex (p ∷ at_one_price a) (q ∷ at_one_price b) ≡ false → lex (q ∷ at_one_price b) (p ∷ at_one_price a) ≡ true
ranks_apart p q a b d =
    lex_apart (p ∷ at_one_price a) (q ∷ at_one_price b)
    (λ e.
    let u : a.unit ≡ b.unit = cc in
    let n : a.number ≡ b.number = cc in
    both_ways (same_key (key_of a) (key_of b)) d (grind (arith, nat_tests)))

-- rows that hold bids, in the order of what their prices count for
pub ranked_lawful : {X : Type 0} (bid_in : X → Bid) (counted : Bid → ℤ) → Lawful {X = X} {K = BlockKey} (record { named = λ x. key_of (bid_in x); same = same_key; precedes = λ x y. lex (counted (bid_in x) ∷ at_one_price (bid_in x)) (counted (bid_in y) ∷ at_one_price (bid_in y)) })
ranked_lawful {X} bid_in counted =
    let ranked : X → List ℤ = λ x. counted (bid_in x) ∷ at_one_price (bid_in x) in
    record {
      alike = key_decides;
      never = λ x. lex_never (ranked x);
      chains = λ x y z. lex_chains (ranked x) (ranked y) (ranked z);
      apart = λ x y. ranks_apart (counted (bid_in x)) (counted (bid_in y)) (bid_in x) (bid_in y);
    }
