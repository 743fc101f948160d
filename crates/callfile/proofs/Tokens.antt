-- What the first part of a line says of the line.
use Rattle.std.proofs.Common.{◌≡◌, ℕ, suc, ◌+◌, ◌<◌, ◌≤◌, Bool, true, false, cond, ◌&&◌, eqb, leb, List, [], ◌∷◌, ◌++◌, length, get_or, take, drop, Some, None, Option, sym, refl, ap, ◌∙◌, subst, arith}
use Rattle.std.specs.Option.{option_map}
use Rattle.std.specs.Int.{is_in_range}
use Rattle.std.specs.Str.{all_ascii_digits}
use Rattle.std.specs.List.{take_while}
use Rattle.std.proofs.lemmas.List.Sums.{take_while-cons}
use Rattle.std.proofs.lemmas.List.{take-append-drop, take_at, drop_at}
use Rattle.std.proofs.lemmas.Bool.{eqb-true, eq-eqb, ne_eqb, leb-true, and_parts, lt-leb, and_from, and_left, cond-true, cond-false}
use Rattle.std.proofs.lemmas.Option.{none-some}
use Rattle.callfile.specs.Reading.{and_then, byte_of, word_from, word_of}
use Rattle.callfile.specs.Tokens.{front, Part, open_part, close_part, word_part, number_part, token_of, token_at, run_part, signed_part}

-- a step that came to an answer
pub and_then_some : {A B : Type 0} (o : Option A) (f : A → Option B) (y : B) → and_then o f ≡ Some y → (x : A) × (o ≡ Some x) × (f x ≡ Some y)
and_then_some None f y e = absurd (none-some _ e)
and_then_some (Some x) f y e = (x, refl, e)

pub mapped_some : {A B : Type 0} (f : A → B) (o : Option A) (y : B) → option_map f o ≡ Some y → (x : A) × (o ≡ Some x) × (f x ≡ y)
mapped_some f None y e = absurd (none-some _ e)
mapped_some f (Some x) y e = (x, refl, cc)

pub cond_some : {A : Type 0} (b : Bool) (o : Option A) (y : A) → cond b o None ≡ Some y → (b ≡ true) × (o ≡ Some y)
cond_some true o y e = (refl, e)
cond_some false o y e = absurd (none-some _ e)

pub cond_none : {A : Type 0} (b : Bool) (o : Option A) (y : A) → cond b None o ≡ Some y → (b ≡ false) × (o ≡ Some y)
cond_none true o y e = absurd (none-some _ e)
cond_none false o y e = (refl, e)

-- a byte at the front
pub byte_sound : (b : ℕ) → 0 < b → (bs rest : List ℕ) → byte_of b bs ≡ Some rest → bs ≡ b ∷ rest
byte_sound b some [] rest e = absurd (let same = eqb-true 0 b (cond_some _ _ _ e).0 in omega arith)
byte_sound b some (c ∷ cs) rest e =
    let found = cond_some (eqb c b) (Some cs) rest e in
    let same : c ≡ b = eqb-true c b found.0 in
    let is : cs ≡ rest = let f = found.1 in cc in
    cc

pub byte_complete : (b : ℕ) (rest : List ℕ) → byte_of b (b ∷ rest) ≡ Some rest
byte_complete b rest = cond-true (eqb b b) _ _ (eq-eqb b b refl)

-- the bytes of a part
abbrev pub bytes_of : Part → List ℕ
bytes_of open_part = 40 ∷ []
bytes_of close_part = 41 ∷ []
bytes_of (word_part w) = w
bytes_of (number_part w) = w

pub by_cases : {A P : Type 0} (b : Bool) (x y : Option A) (z : A) → (b ≡ true → x ≡ Some z → P) → (b ≡ false → y ≡ Some z → P) → cond b x y ≡ Some z → P
by_cases true x y z first second e = first refl e
by_cases false x y z first second e = second refl e

pub marked : (b : ℕ) → 0 < b → (bs : List ℕ) → eqb (get_or bs 0 0) b ≡ true → bs ≡ b ∷ drop 1 bs
marked b some bs e = byte_sound b some bs (drop 1 bs) (cond-true _ _ _ e)

run_sound : (kind : List ℕ → Part) → ((w : List ℕ) → bytes_of (kind w) ≡ w) → (n : ℕ) (bs : List ℕ) (p : Part × List ℕ) → run_part kind n bs ≡ Some p → bs ≡ bytes_of p.0 ++ p.1
run_sound kind bytes n bs p e =
    let is : (kind (take n bs), drop n bs) ≡ p = cc in
    subst (λ (q : Part × List ℕ). bs ≡ bytes_of q.0 ++ q.1) is (sym (take-append-drop n bs) ∙ ap (λ l. l ++ drop n bs) (sym (bytes (take n bs))))

one_byte : (part : Part) (bs : List ℕ) (p : Part × List ℕ) → bs ≡ bytes_of part ++ drop 1 bs → ◌≡◌ {A = Option (Part × List ℕ)} (Some (part, drop 1 bs)) (Some p) → bs ≡ bytes_of p.0 ++ p.1
one_byte part bs p whole e =
    let is : (part, drop 1 bs) ≡ p = cc in
    subst (λ (q : Part × List ℕ). bs ≡ bytes_of q.0 ++ q.1) is whole

-- a line is its first part and what follows that
pub token_sound : (bs : List ℕ) (p : Part × List ℕ) → token_of bs ≡ Some p → bs ≡ bytes_of p.0 ++ p.1
token_sound bs p =
    let c = get_or bs 0 0 in
    by_cases (eqb c 40) _ _ p (λ is. one_byte open_part bs p (marked 40 (omega arith) bs is))
    (λ _. by_cases (eqb c 41) _ _ p (λ is. one_byte close_part bs p (marked 41 (omega arith) bs is))
    (λ _. by_cases (is_in_range 97 122 c) _ _ p (λ _. run_sound word_part (λ w. refl) (front 97 122 bs) bs p)
    (λ _. by_cases (is_in_range 48 57 c) _ _ p (λ _. run_sound number_part (λ w. refl) (front 48 57 bs) bs p)
    (λ _ e. run_sound number_part (λ w. refl) (front 48 57 (drop 1 bs) + 1) bs p (cond_none (eqb (front 48 57 (drop 1 bs)) 0) _ _ (cond_some (eqb c 45) _ _ e).1).1))))

-- no digit and no letter comes first
pub record Ends (rest : List ℕ) : Type 0 where
  pub no_digit : is_in_range 48 57 (get_or rest 0 0) ≡ false
  pub no_letter : is_in_range 97 122 (get_or rest 0 0) ≡ false

counted : (b : Bool) (c : ℕ) (cs : List ℕ) → length (cond b (c ∷ cs) []) ≡ cond b (suc (length cs)) 0
counted true c cs = refl
counted false c cs = refl

front_cons : (low high c : ℕ) (cs : List ℕ) → front low high (c ∷ cs) ≡ cond (is_in_range low high c) (suc (front low high cs)) 0
front_cons low high c cs = ap length (take_while-cons (is_in_range low high) c cs) ∙ counted (is_in_range low high c) c (take_while (is_in_range low high) cs)

front_of : (low high : ℕ) (rest : List ℕ) → 0 < low → is_in_range low high (get_or rest 0 0) ≡ false → front low high rest ≡ 0
front_of low high [] some e = refl
front_of low high (c ∷ cs) some e = front_cons low high c cs ∙ cond-false _ _ _ e

-- every byte lies from low to high
abbrev pub all_within : ℕ → ℕ → List ℕ → Bool
all_within low high [] = true
all_within low high (c ∷ cs) = is_in_range low high c && all_within low high cs

pub front_run : (low high : ℕ) (ds rest : List ℕ) → 0 < low → all_within low high ds ≡ true → is_in_range low high (get_or rest 0 0) ≡ false → front low high (ds ++ rest) ≡ length ds
front_run low high [] rest some d ends = front_of low high rest some ends
front_run low high (c ∷ cs) rest some d ends =
    let both = and_parts (is_in_range low high c) (all_within low high cs) d in
    front_cons low high c (cs ++ rest) ∙ cond-true _ _ _ both.0 ∙ ap suc (front_run low high cs rest some both.1 ends)

digits_run : (ds : List ℕ) → all_ascii_digits ds ≡ true → all_within 48 57 ds ≡ true
digits_run [] d = refl
digits_run (c ∷ cs) d =
    let both = and_parts (is_in_range 48 57 c) (all_ascii_digits cs) d in
    and_from _ _ both.0 (digits_run cs both.1)

front_digits : (ds rest : List ℕ) → all_ascii_digits ds ≡ true → Ends rest → front 48 57 (ds ++ rest) ≡ length ds
front_digits ds rest d ends = front_run 48 57 ds rest (omega arith) (digits_run ds d) ends.no_digit

-- a run of a kind of byte comes first
token_run : (kind : List ℕ → Part) (low high : ℕ) → 0 < low → ((c : ℕ) (bs : List ℕ) → is_in_range low high c ≡ true → token_at c bs ≡ run_part kind (front low high bs) bs) → (w rest : List ℕ) → all_within low high w ≡ true → 0 < length w → is_in_range low high (get_or rest 0 0) ≡ false → token_of (w ++ rest) ≡ Some (kind w, rest)
token_run kind low high from ways [] rest all some stops = absurd (omega arith)
token_run kind low high from ways (c ∷ cs) rest all some stops =
    let line = c ∷ (cs ++ rest) in
    let count : front low high line ≡ length (c ∷ cs) = front_run low high (c ∷ cs) rest from all stops in
    let first : token_of line ≡ run_part kind (front low high line) line = ways c line (and_parts (is_in_range low high c) (all_within low high cs) all).0 in
    first ∙ ap (λ n. run_part kind n line) count
    ∙ (λ i. Some (kind (take_at (c ∷ cs) rest (length (c ∷ cs)) refl i), drop_at (c ∷ cs) rest (length (c ∷ cs)) refl i))

digit_ways : (c : ℕ) (bs : List ℕ) → is_in_range 48 57 c ≡ true → token_at c bs ≡ run_part number_part (front 48 57 bs) bs
digit_ways c bs is =
    let low : 48 ≤ c = leb-true 48 c (and_parts (leb 48 c) (leb c 57) is).0 in
    let high : c ≤ 57 = leb-true c 57 (and_parts (leb 48 c) (leb c 57) is).1 in
    cond-false _ _ _ (ne_eqb c 40 (λ e. omega arith))
    ∙ cond-false _ _ _ (ne_eqb c 41 (λ e. omega arith))
    ∙ cond-false _ _ _ (and_left _ _ (lt-leb 97 c (omega arith)))
    ∙ cond-true _ _ _ is

letter_ways : (c : ℕ) (bs : List ℕ) → is_in_range 97 122 c ≡ true → token_at c bs ≡ run_part word_part (front 97 122 bs) bs
letter_ways c bs is =
    let low : 97 ≤ c = leb-true 97 c (and_parts (leb 97 c) (leb c 122) is).0 in
    cond-false _ _ _ (ne_eqb c 40 (λ e. omega arith))
    ∙ cond-false _ _ _ (ne_eqb c 41 (λ e. omega arith))
    ∙ cond-true _ _ _ is

pub token_digits : (ds rest : List ℕ) → all_ascii_digits ds ≡ true → 0 < length ds → Ends rest → token_of (ds ++ rest) ≡ Some (number_part ds, rest)
token_digits ds rest d some ends = token_run number_part 48 57 (omega arith) digit_ways ds rest (digits_run ds d) some ends.no_digit

pub token_minus : (ds rest : List ℕ) → all_ascii_digits ds ≡ true → 0 < length ds → Ends rest → token_of (45 ∷ (ds ++ rest)) ≡ Some (number_part (45 ∷ ds), rest)
token_minus ds rest d some ends =
    let count : front 48 57 (ds ++ rest) ≡ length ds = front_digits ds rest d ends in
    let long : length (45 ∷ ds) ≡ length ds + 1 = omega arith in
    ap (λ n. signed_part n (45 ∷ (ds ++ rest))) count
    ∙ cond-false _ _ _ (ne_eqb (length ds) 0 (λ e. omega arith))
    ∙ (λ i. Some (number_part (take_at (45 ∷ ds) rest (length ds + 1) long i), drop_at (45 ∷ ds) rest (length ds + 1) long i))

pub word_complete : (w rest : List ℕ) → all_within 97 122 w ≡ true → 0 < length w → Ends rest → word_of (w ++ rest) ≡ Some (w, rest)
word_complete w rest d some ends = ap (λ o. and_then o (λ p. word_from p.0 p.1)) (token_run word_part 97 122 (omega arith) letter_ways w rest d some ends.no_letter)

word_from_sound : (part : Part) (left : List ℕ) (p : List ℕ × List ℕ) → word_from part left ≡ Some p → bytes_of part ++ left ≡ p.0 ++ p.1
word_from_sound open_part left p e = absurd (none-some _ e)
word_from_sound close_part left p e = absurd (none-some _ e)
word_from_sound (word_part w) left p e =
    let is : (w, left) ≡ p = cc in
    ap (λ (q : List ℕ × List ℕ). q.0 ++ q.1) is
word_from_sound (number_part w) left p e = absurd (none-some _ e)

pub word_sound : (bs : List ℕ) (p : List ℕ × List ℕ) → word_of bs ≡ Some p → bs ≡ p.0 ++ p.1
word_sound bs p e =
    let first = and_then_some (token_of bs) (λ q. word_from q.0 q.1) p e in
    token_sound bs first.0 first.1 ∙ word_from_sound first.0.0 first.0.1 p first.2
