-- Keys, and the order in which sales, purchases and accounts stand.
-- To believe: sales by rising price and purchases by falling price; at one price by rising stamp, volume, unit and block number;
-- accounts by rising agent. `lex` compares two lists by the first place at which they differ.
use Rattle.std.specs.Prelude.{ℕ, ◌+◌, ◌*◌, Bool, true, false, cond, ◌&&◌, List, [], ◌∷◌, ℤ, pos, neg_ℤ, ◌==◌, int_lt, nat_eq, nat_lt}
use Rattle.table.specs.Order.{Order}
use Rattle.market.specs.declared.account.Account.{Account}
use Rattle.market.specs.declared.block.Bid.{Bid}
use Rattle.market.specs.declared.block.BlockKey.{BlockKey}
use Rattle.market.specs.declared.purchase.Purchase.{Purchase}
use Rattle.market.specs.declared.sale.Sale.{Sale}

abbrev pub lex : List ℤ → List ℤ → Bool
lex [] [] = false
lex [] (y ∷ ys) = true
lex (x ∷ xs) [] = false
lex (x ∷ xs) (y ∷ ys) = cond (int_lt x y) true (cond (int_lt y x) false (lex xs ys))

abbrev pub key_of : Bid → BlockKey
key_of b = record { unit = b.unit; number = b.number }

abbrev pub same_key : BlockKey → BlockKey → Bool
same_key a b = a.unit == b.unit && a.number == b.number

-- units and block numbers are numbers of 32 bits
abbrev pub key_code : BlockKey → ℕ
key_code k = k.unit * 4294967296 + k.number

-- what decides between bids of one price
abbrev pub at_one_price : Bid → List ℤ
at_one_price b = pos b.stamp ∷ pos b.volume ∷ pos b.unit ∷ pos b.number ∷ []

-- the cheapest sale first
abbrev pub sale_rank : Bid → List ℤ
sale_rank b = b.price ∷ at_one_price b

-- the dearest purchase first
abbrev pub purchase_rank : Bid → List ℤ
purchase_rank b = neg_ℤ b.price ∷ at_one_price b

abbrev pub sale_order : Order Sale BlockKey
sale_order = record {
  named = λ s. key_of s.block.bid;
  same = same_key;
  precedes = λ x y. lex (sale_rank x.block.bid) (sale_rank y.block.bid);
}

abbrev pub purchase_order : Order Purchase BlockKey
purchase_order = record {
  named = λ p. key_of p.block.bid;
  same = same_key;
  precedes = λ x y. lex (purchase_rank x.block.bid) (purchase_rank y.block.bid);
}

abbrev pub account_order : Order Account ℕ
account_order = record {
  named = λ a. a.agent;
  same = nat_eq;
  precedes = λ x y. nat_lt x.agent y.agent;
}
