-- How the rows of one kind of record are keyed and ordered, and what makes such an order a precedence.
-- To believe: that a precedence is a strict order in which, of two rows with different keys, one comes first.
use Rattle.std.specs.Prelude.{◌≡◌, Bool, true, false, Decides}

pub record Order (X K : Type 0) : Type 0 where
  -- the key of a row
  pub named : X → K
  -- whether two keys are the same
  pub same : K → K → Bool
  -- whether a row comes before another
  pub precedes : X → X → Bool

pub record Lawful {X K : Type 0} (o : Order X K) : Type 0 where
  pub alike : (a b : K) → Decides (o.same a b) (a ≡ b)
  pub never : (x : X) → o.precedes x x ≡ false
  pub chains : (x y z : X) → o.precedes x y ≡ true → o.precedes y z ≡ true → o.precedes x z ≡ true
  pub apart : (x y : X) → o.same (o.named x) (o.named y) ≡ false → o.precedes x y ≡ false → o.precedes y x ≡ true
