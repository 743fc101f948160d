-- A reading is lawful if it takes just the texts of the fitting values from the front of a line.
use Rattle.std.proofs.Common.{◌≡◌, ℕ, ◌<◌, List, [], ◌∷◌, ◌++◌, Some, decimal, Option, sym, refl, ap, ◌∙◌, subst, append_assoc, arith}
use Rattle.std.specs.Option.{option_map}
use Rattle.std.proofs.lemmas.Option.{none-some, same_Some}
use Rattle.callfile.specs.Forms.{Reading, past, until, both, made}
use Rattle.callfile.specs.Reading.{and_then, byte_of, number_of, value_from, value_of}
use Rattle.callfile.specs.Tokens.{Part, open_part, close_part, word_part, number_part, token_of}
use Rattle.callfile.specs.Text.{Short}
use Rattle.callfile.proofs.Numerals.{numeral_sound, numeral_complete, decimal_digits}
use Rattle.callfile.proofs.Tokens.{and_then_some, mapped_some, byte_sound, byte_complete, bytes_of, token_sound, token_digits, Ends}

pub record Lawful {A : Type 0} (read : Reading A) (write : A → List ℕ) (Fit : A → Type 0) : Type 0 where
  pub sound : (bs : List ℕ) (a : A) (rest : List ℕ) → read bs ≡ Some (a, rest) → Fit a × (bs ≡ write a ++ rest)
  pub complete : (a : A) (rest : List ℕ) → Fit a → Ends rest → read (write a ++ rest) ≡ Some (a, rest)

-- a byte that is no digit and no letter
pub record Mark (b : ℕ) : Type 0 where
  pub some : 0 < b
  pub ends : (rest : List ℕ) → Ends (b ∷ rest)

pub space : Mark 32
space = record { some = omega arith; ends = λ rest. record { no_digit = refl; no_letter = refl } }

pub opening : Mark 40
opening = record { some = omega arith; ends = λ rest. record { no_digit = refl; no_letter = refl } }

pub closing : Mark 41
closing = record { some = omega arith; ends = λ rest. record { no_digit = refl; no_letter = refl } }

module _ {A : Type 0} {f : Reading A} {w : A → List ℕ} {Fit : A → Type 0} (law : Lawful f w Fit) (b : ℕ) (mark : Mark b) where
  pub past_lawful : Lawful (past b f) (λ a. b ∷ w a) Fit
  past_lawful =
      record {
        sound = λ bs a rest e.
            let first = and_then_some (byte_of b bs) f (a, rest) e in
            let then-f = law.sound first.0 a rest first.2 in
            (then-f.0, byte_sound b mark.some bs first.0 first.1 ∙ ap (λ l. b ∷ l) then-f.1);
        complete = λ a rest fits ends. ap (λ o. and_then o f) (byte_complete b (w a ++ rest)) ∙ law.complete a rest fits ends;
      }

  pub until_lawful : Lawful (until b f) (λ a. w a ++ b ∷ []) Fit
  until_lawful =
      record {
        sound = λ bs a rest e.
            let first = and_then_some (f bs) _ (a, rest) e in
            let last = mapped_some _ (byte_of b first.0.1) (a, rest) first.2 in
            let same-a : first.0.0 ≡ a = ap (λ (p : A × List ℕ). p.0) last.2 in
            let same_rest : last.0 ≡ rest = ap (λ (p : A × List ℕ). p.1) last.2 in
            let by-f = law.sound bs first.0.0 first.0.1 first.1 in
            let mark-next : first.0.1 ≡ b ∷ last.0 = byte_sound b mark.some first.0.1 last.0 last.1 in
            (subst Fit same-a by-f.0, by-f.1 ∙ (λ i. w (same-a i) ++ mark-next i) ∙ ap (λ l. w a ++ b ∷ l) same_rest ∙ sym (append_assoc (w a) (b ∷ []) rest));
        complete = λ a rest fits ends.
            let first : f ((w a ++ b ∷ []) ++ rest) ≡ Some (a, b ∷ rest) = ap f (append_assoc (w a) (b ∷ []) rest) ∙ law.complete a (b ∷ rest) fits (mark.ends rest) in
            ap (λ o. and_then o (λ p. option_map (λ rest. (p.0, rest)) (byte_of b p.1))) first ∙ ap (λ o. option_map (λ rest. (a, rest)) o) (byte_complete b rest);
      }

module _ {A B : Type 0} {f : Reading A} {g : Reading B} {wf : A → List ℕ} {wg : B → List ℕ} {F : A → Type 0} {G : B → Type 0} (first-law : Lawful f wf F) (second-law : Lawful g wg G) (begins : (y : B) (rest : List ℕ) → Ends (wg y ++ rest)) where
  pub both_lawful : Lawful (both f g) (λ p. wf p.0 ++ wg p.1) (λ p. F p.0 × G p.1)
  both_lawful =
      record {
        sound = λ bs p rest e.
            let first = and_then_some (f bs) _ (p, rest) e in
            let second = mapped_some _ (g first.0.1) (p, rest) first.2 in
            let same-a : first.0.0 ≡ p.0 = ap (λ (q : (A × B) × List ℕ). q.0.0) second.2 in
            let same-b : second.0.0 ≡ p.1 = ap (λ (q : (A × B) × List ℕ). q.0.1) second.2 in
            let same_rest : second.0.1 ≡ rest = ap (λ (q : (A × B) × List ℕ). q.1) second.2 in
            let by-f = first-law.sound bs first.0.0 first.0.1 first.1 in
            let by-g = second-law.sound first.0.1 second.0.0 second.0.1 second.1 in (
              (subst F same-a by-f.0, subst G same-b by-g.0),
              by-f.1 ∙ ap (λ l. wf first.0.0 ++ l) by-g.1 ∙ (λ i. wf (same-a i) ++ (wg (same-b i) ++ same_rest i)) ∙ sym (append_assoc (wf p.0) (wg p.1) rest),
            );
        complete = λ p rest fits ends.
            let first : f ((wf p.0 ++ wg p.1) ++ rest) ≡ Some (p.0, wg p.1 ++ rest) =
            ap f (append_assoc (wf p.0) (wg p.1) rest) ∙ first-law.complete p.0 (wg p.1 ++ rest) fits.0 (begins p.1 rest) in
            ap (λ o. and_then o (λ q. option_map (λ r. ((q.0, r.0), r.1)) (g q.1))) first
            ∙ ap (λ o. option_map (λ r. ((p.0, r.0), r.1)) o) (second-law.complete p.1 rest fits.1 ends);
      }

-- the same values under another name
module _ {A B : Type 0} {f : Reading A} {w : A → List ℕ} {F : A → Type 0} (law : Lawful f w F) (h : A → B) (k : B → A) (back : (b : B) → h (k b) ≡ b) (forth : (a : A) → k (h a) ≡ a) {v : B → List ℕ} {G : B → Type 0} (texts : (b : B) → v b ≡ w (k b)) (to : (b : B) → F (k b) → G b) (from : (b : B) → G b → F (k b)) where
  pub made_lawful : Lawful (made h f) v G
  made_lawful =
      record {
        sound = λ bs b rest e.
            let first = mapped_some _ (f bs) (b, rest) e in
            let same-b : h first.0.0 ≡ b = ap (λ (q : B × List ℕ). q.0) first.2 in
            let same-a : first.0.0 ≡ k b = sym (forth first.0.0) ∙ ap k same-b in
            let same_rest : first.0.1 ≡ rest = ap (λ (q : B × List ℕ). q.1) first.2 in
            let by-f = law.sound bs first.0.0 first.0.1 first.1 in
            (to b (subst F same-a by-f.0), by-f.1 ∙ (λ i. w (same-a i) ++ same_rest i) ∙ ap (λ l. l ++ rest) (sym (texts b)));
        complete = λ b rest fits ends.
            ap (λ l. option_map (λ p. (h p.0, p.1)) (f (l ++ rest))) (texts b)
            ∙ ap (λ o. option_map (λ p. (h p.0, p.1)) o) (law.complete (k b) rest (from b fits) ends)
            ∙ ap (λ x. Some (x, rest)) (back b);
      }

-- only a number has a value
numbered : {A : Type 0} (value : List ℕ → Option A) (part : Part) (left : List ℕ) (p : A × List ℕ) → value_from value part left ≡ Some p → (w : List ℕ) × (part ≡ number_part w) × (value w ≡ Some p.0) × (left ≡ p.1)
numbered value open_part left p e = absurd (none-some _ e)
numbered value close_part left p e = absurd (none-some _ e)
numbered value (word_part w) left p e = absurd (none-some _ e)
numbered {A} value (number_part w) left p e =
    let found = mapped_some _ (value w) p e in
    (w, refl, found.1 ∙ ap (λ (q : A × List ℕ). Some q.0) found.2, ap (λ (q : A × List ℕ). q.1) found.2)

-- a numeral that comes first, and its value
module _ {A : Type 0} {value : List ℕ → Option A} {w : A → List ℕ} {Fit : A → Type 0} (sound : (ds : List ℕ) (a : A) → value ds ≡ Some a → Fit a × (ds ≡ w a)) (complete : (a : A) → Fit a → value (w a) ≡ Some a) (first : (a : A) (rest : List ℕ) → Fit a → Ends rest → token_of (w a ++ rest) ≡ Some (number_part (w a), rest)) where
  pub value_lawful : Lawful (value_of value) w Fit
  value_lawful =
      record {
        sound = λ bs a rest e.
            let part = and_then_some (token_of bs) (λ q. value_from value q.0 q.1) (a, rest) e in
            let is = numbered value part.0.0 part.0.1 (a, rest) part.2 in
            let fits = sound is.0 a is.2 in
            (fits.0, token_sound bs part.0 part.1 ∙ (λ i. bytes_of (is.1 i) ++ is.3 i) ∙ ap (λ l. l ++ rest) fits.1);
        complete = λ a rest fits ends.
            ap (λ o. and_then o (λ q. value_from value q.0 q.1)) (first a rest fits ends)
            ∙ ap (λ o. option_map (λ x. (x, rest)) o) (complete a fits);
      }

-- the value of a text that was read first
pub text_value : {A : Type 0} (value : List ℕ → Option A) (bs text rest : List ℕ) (a : A) → value_of Some bs ≡ Some (text, rest) → value text ≡ Some a → value_of value bs ≡ Some (a, rest)
text_value value bs text rest a read is =
    let part = and_then_some (token_of bs) (λ q. value_from Some q.0 q.1) (text, rest) read in
    let n = numbered Some part.0.0 part.0.1 (text, rest) part.2 in
    ap (λ o. and_then o (λ q. value_from value q.0 q.1)) part.1 ∙ (λ i. value_from value (n.1 i) (n.3 i))
    ∙ ap (λ o. option_map (λ x. (x, rest)) o) (ap value (same_Some _ _ n.2) ∙ is)

pub number_lawful : Lawful number_of decimal Short
number_lawful =
    value_lawful numeral_sound numeral_complete
    (λ n rest short ends. let digits = decimal_digits n short in token_digits (decimal n) rest digits.0 digits.1 ends)

pub field_lawful : Lawful (past 32 number_of) (λ n. 32 ∷ decimal n) Short
field_lawful = past_lawful number_lawful 32 space
