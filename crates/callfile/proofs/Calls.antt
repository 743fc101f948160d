-- A line is read as a call exactly if it is the call's text.
use Rattle.std.proofs.Common.{◌≡◌, ℕ, suc, ◌^◌, ◌<◌, ◌≤◌, true, cond, eqb, List, [], ◌∷◌, ◌++◌, length, ℤ, pos, negsuc, Some, None, codes, decimal, Option, sym, refl, ap, ◌∙◌, subst, append_assoc, append-nil, arith}
use Rattle.std.specs.Option.{option_map}
use Rattle.std.specs.Fmt.{signed_decimal}
use Rattle.std.specs.Str.{bytes_eq}
use Rattle.std.proofs.lemmas.Fmt.{length-decimal-le}
use Rattle.std.proofs.lemmas.Slice.Eq.{bytes_eq-Decides}
use Rattle.std.proofs.lemmas.List.{length-append, nil_from_length}
use Rattle.std.proofs.lemmas.Int.{ints}
use Rattle.std.proofs.lemmas.Option.{none-some, same_Some}
use Rattle.std.proofs.lemmas.Bool.{eqb-true}
use Rattle.market.specs.declared.block.Bid.{Bid}
use Rattle.market.specs.declared.block.BlockKey.{BlockKey}
use Rattle.market.specs.declared.call.Call.{Call}
use Rattle.market.specs.declared.call.Call.TheVariants.{Admit, Begin, Enter, Withdraw, Close, Clear, Settle, Annul}
use Rattle.market.specs.declared.zone.Side.{Side}
use Rattle.market.specs.declared.zone.Side.TheVariants.{Sale, Purchase}
use Rattle.callfile.specs.Forms.{Reading, past, both, made, bracketed, field_of, side_named, side_of, bid_from, bid_of, key_from, key_of, call_named, named_of, call_of}
use Rattle.callfile.specs.Reading.{and_then, word_of}
use Rattle.market.specs.Answers.{bid_text}
use Rattle.market.specs.Zones.{side_text}
use Rattle.callfile.specs.Text.{key_text, text, Short, ShortPrice, ShortBid, ShortKey, Writable, Reads}
use Rattle.callfile.proofs.Laws.{Lawful, past_lawful, until_lawful, both_lawful, made_lawful, number_lawful, field_lawful, space, opening, closing}
use Rattle.callfile.proofs.Prices.{price_lawful}
use Rattle.callfile.proofs.Tokens.{and_then_some, mapped_some, by_cases, cond_some, word_sound, word_complete, all_within, Ends}

-- a side
named_side : (name : List ℕ) (s : Side) → side_named name ≡ Some s → name ≡ side_text s
named_side name s =
    by_cases (bytes_eq name (codes "sale")) _ _ s (λ is e. (bytes_eq-Decides name (codes "sale")).0 is ∙ ap side_text (same_Some _ _ e))
    (λ _. by_cases (bytes_eq name (codes "purchase")) _ _ s (λ is e. (bytes_eq-Decides name (codes "purchase")).0 is ∙ ap side_text (same_Some _ _ e))
    (λ _ e. absurd (none-some _ e)))

side_complete : (s : Side) (rest : List ℕ) → Ends rest → side_of (side_text s ++ rest) ≡ Some (s, rest)
side_complete Sale rest ends = ap (λ o. and_then o (λ p. option_map (λ x. (x, p.1)) (side_named p.0))) (word_complete (codes "sale") rest refl (omega arith) ends)
side_complete Purchase rest ends = ap (λ o. and_then o (λ p. option_map (λ x. (x, p.1)) (side_named p.0))) (word_complete (codes "purchase") rest refl (omega arith) ends)

abbrev Any : {A : Type 0} → A → Type 0
Any x = Unit {0}

side_lawful : Lawful side_of side_text Any
side_lawful =
    record {
      sound = λ bs s rest e.
          let first = and_then_some (word_of bs) (λ p. option_map (λ x. (x, p.1)) (side_named p.0)) (s, rest) e in
          let second = mapped_some _ (side_named first.0.0) (s, rest) first.2 in
          let same_rest : first.0.1 ≡ rest = ap (λ (q : Side × List ℕ). q.1) second.2 in
          let same_side : second.0 ≡ s = ap (λ (q : Side × List ℕ). q.0) second.2 in
          (tt, word_sound bs first.0 first.1 ∙ (λ i. (named_side first.0.0 second.0 second.1 ∙ ap side_text same_side) i ++ same_rest i));
      complete = λ s rest fits ends. side_complete s rest ends;
    }

-- a key and a bid
key_lawful : Lawful key_of key_text ShortKey
unfolding key_text ShortKey
key_lawful =
    made_lawful (past_lawful (until_lawful (both_lawful number_lawful field_lawful (λ y rest. space.ends _)) 41 closing) 40 opening)
    key_from (λ k. (k.unit, k.number)) (λ k. refl) (λ p. refl) (λ k. simp append_assoc) (λ k h. h) (λ k h. h)

bid_lawful : Lawful bid_of bid_text ShortBid
unfolding bid_text ShortBid
bid_lawful =
    made_lawful
    (past_lawful (until_lawful
    (both_lawful number_lawful
    (both_lawful field_lawful
    (both_lawful field_lawful
    (both_lawful field_lawful
    (both_lawful (past_lawful price_lawful 32 space) field_lawful (λ y rest. space.ends _))
    (λ y rest. space.ends _))
    (λ y rest. space.ends _))
    (λ y rest. space.ends _))
    (λ y rest. space.ends _))
    41 closing) 40 opening)
    bid_from (λ b. (b.agent, (b.unit, (b.number, (b.stamp, (b.price, b.volume)))))) (λ b. refl) (λ p. refl) (λ b. simp append_assoc)
    (λ b h. (h.0, h.1.0, h.1.1.0, h.1.1.1.0, h.1.1.1.1.0, h.1.1.1.1.1))
    (λ b h. (h.0, (h.1, (h.2, (h.3, (h.4, h.5))))))

-- what stands between the brackets of a call
abbrev inner : Call → List ℕ
inner (Admit agent) = codes "admit" ++ (32 ∷ decimal agent)
inner (Begin session forward backward) = codes "begin" ++ ((32 ∷ decimal session) ++ ((32 ∷ decimal forward) ++ (32 ∷ decimal backward)))
inner (Enter zone side bid) = codes "enter" ++ ((32 ∷ decimal zone) ++ ((32 ∷ side_text side) ++ (32 ∷ bid_text bid)))
inner (Withdraw zone side key) = codes "withdraw" ++ ((32 ∷ decimal zone) ++ ((32 ∷ side_text side) ++ (32 ∷ key_text key)))
inner Close = codes "close"
inner Clear = codes "clear"
inner Settle = codes "settle"
inner Annul = codes "annul"

bracketed_text : (c : Call) → 40 ∷ (inner c ++ 41 ∷ []) ≡ text c
unfolding text
bracketed_text (Admit agent) = simp append_assoc
bracketed_text (Begin session forward backward) = simp append_assoc
bracketed_text (Enter zone side bid) = simp append_assoc
bracketed_text (Withdraw zone side key) = simp append_assoc
bracketed_text Close = refl
bracketed_text Clear = refl
bracketed_text Settle = refl
bracketed_text Annul = refl

-- a call whose name is word, and whose fields f reads
record Form {A : Type 0} (word : List ℕ) (make : A → Call) (f : Reading A) (write : A → List ℕ) (Fit : A → Type 0) : Type 0 where
  letters : all_within 97 122 word ≡ true
  some : 0 < length word
  reads : (rest : List ℕ) → call_named word rest ≡ made make f rest
  law : Lawful f write Fit
  begins : (a : A) (rest : List ℕ) → Ends rest → Ends (write a ++ rest)
  to : (a : A) → Fit a → Writable (make a)
  from : (a : A) → Writable (make a) → Fit a
  texts : (a : A) → word ++ write a ≡ inner (make a)

module _ {A : Type 0} {word : List ℕ} {make : A → Call} {f : Reading A} {write : A → List ℕ} {Fit : A → Type 0} (form : Form word make f write Fit) where
  form_sound : (name rest : List ℕ) (c : Call) (left : List ℕ) → bytes_eq name word ≡ true → made make f rest ≡ Some (c, left) → Writable c × (name ++ rest ≡ inner c ++ left)
  form_sound name rest c left same e =
      let found = mapped_some _ (f rest) (c, left) e in
      let by-f = form.law.sound rest found.0.0 found.0.1 found.1 in
      let is_word : name ≡ word = (bytes_eq-Decides name word).0 same in
      subst (λ (q : Call × List ℕ). Writable q.0 × (name ++ rest ≡ inner q.0 ++ q.1)) found.2 (
        form.to found.0.0 by-f.0,
        (λ i. is_word i ++ by-f.1 i) ∙ sym (append_assoc word (write found.0.0) found.0.1) ∙ ap (λ l. l ++ found.0.1) (form.texts found.0.0),
      )

  form_complete : (a : A) (rest : List ℕ) → Writable (make a) → Ends rest → named_of (inner (make a) ++ rest) ≡ Some (make a, rest)
  form_complete a rest fits ends =
      ap (λ l. named_of (l ++ rest)) (sym (form.texts a))
      ∙ ap named_of (append_assoc word (write a) rest)
      ∙ ap (λ o. and_then o (λ p. call_named p.0 p.1)) (word_complete word (write a ++ rest) form.letters form.some (form.begins a rest ends))
      ∙ form.reads (write a ++ rest)
      ∙ ap (λ o. option_map (λ p. (make p.0, p.1)) o) (form.law.complete a rest (form.from a fits) ends)

admit_form : Form (codes "admit") Admit field_of (λ n. 32 ∷ decimal n) Short
unfolding Writable
admit_form =
    record {
      letters = refl;
      some = omega arith;
      reads = λ rest. refl;
      law = field_lawful;
      begins = λ n rest ends. space.ends _;
      to = λ n h. h;
      from = λ n h. h;
      texts = λ n. refl;
    }

begin_form : Form (codes "begin") (λ (p : ℕ × (ℕ × ℕ)). Begin p.0 p.1.0 p.1.1) (both field_of (both field_of field_of)) (λ p. (32 ∷ decimal p.0) ++ ((32 ∷ decimal p.1.0) ++ (32 ∷ decimal p.1.1))) (λ p. Short p.0 × (Short p.1.0 × Short p.1.1))
unfolding Writable
begin_form =
    record {
      letters = refl;
      some = omega arith;
      reads = λ rest. refl;
      law = both_lawful field_lawful (both_lawful field_lawful field_lawful (λ y rest. space.ends _)) (λ y rest. space.ends _);
      begins = λ p rest ends. space.ends _;
      to = λ p h. (h.0, h.1.0, h.1.1);
      from = λ p h. (h.0, (h.1, h.2));
      texts = λ p. refl;
    }

-- a zone, a side and what names a block
module _ {B : Type 0} {f : Reading B} {w : B → List ℕ} {F : B → Type 0} (law : Lawful f w F) where
  placed_lawful : Lawful (both field_of (both (past 32 side_of) (past 32 f))) (λ p. (32 ∷ decimal p.0) ++ ((32 ∷ side_text p.1.0) ++ (32 ∷ w p.1.1))) (λ p. Short p.0 × (Any p.1.0 × F p.1.1))
  placed_lawful =
      both_lawful field_lawful (both_lawful (past_lawful side_lawful 32 space) (past_lawful law 32 space) (λ y rest. space.ends _)) (λ y rest. space.ends _)

enter_form : Form (codes "enter") (λ (p : ℕ × (Side × Bid)). Enter p.0 p.1.0 p.1.1) (both field_of (both (past 32 side_of) (past 32 bid_of))) (λ p. (32 ∷ decimal p.0) ++ ((32 ∷ side_text p.1.0) ++ (32 ∷ bid_text p.1.1))) (λ p. Short p.0 × (Any p.1.0 × ShortBid p.1.1))
unfolding Writable
enter_form =
    record {
      letters = refl;
      some = omega arith;
      reads = λ rest. refl;
      law = placed_lawful bid_lawful;
      begins = λ p rest ends. space.ends _;
      to = λ p h. (h.0, h.1.1);
      from = λ p h. (h.0, (tt, h.1));
      texts = λ p. refl;
    }

withdraw_form : Form (codes "withdraw") (λ (p : ℕ × (Side × BlockKey)). Withdraw p.0 p.1.0 p.1.1) (both field_of (both (past 32 side_of) (past 32 key_of))) (λ p. (32 ∷ decimal p.0) ++ ((32 ∷ side_text p.1.0) ++ (32 ∷ key_text p.1.1))) (λ p. Short p.0 × (Any p.1.0 × ShortKey p.1.1))
unfolding Writable
withdraw_form =
    record {
      letters = refl;
      some = omega arith;
      reads = λ rest. refl;
      law = placed_lawful key_lawful;
      begins = λ p rest ends. space.ends _;
      to = λ p h. (h.0, h.1.1);
      from = λ p h. (h.0, (tt, h.1));
      texts = λ p. refl;
    }

-- a call that is its name alone
abbrev nothing : Reading (Unit {0})
nothing bs = Some (tt, bs)

abbrev rest_of : List ℕ → Option (Unit {0} × List ℕ) → List ℕ
rest_of bs None = bs
rest_of bs (Some p) = p.1

nothing_lawful : Lawful nothing (λ _. []) Any
nothing_lawful =
    record {
      sound = λ bs a rest e. (tt, ap (λ (o : Option (Unit {0} × List ℕ)). rest_of bs o) e);
      complete = λ a rest fits ends. refl;
    }

abbrev NameForm : List ℕ → Call → Type 0
NameForm word call = Form word (λ (_ : Unit {0}). call) nothing (λ _. []) Any

name_form : (word : List ℕ) (call : Call) → all_within 97 122 word ≡ true → 0 < length word → ((rest : List ℕ) → call_named word rest ≡ Some (call, rest)) → Writable call → word ≡ inner call → NameForm word call
name_form word call letters some reads fits texts =
    record {
      letters = letters;
      some = some;
      reads = reads;
      law = nothing_lawful;
      begins = λ _ rest ends. ends;
      to = λ _ _. fits;
      from = λ _ _. tt;
      texts = λ _. append-nil word ∙ texts;
    }

close_form : NameForm (codes "close") Close
unfolding Writable
close_form = name_form (codes "close") Close refl (omega arith) (λ rest. refl) tt refl

clear_form : NameForm (codes "clear") Clear
unfolding Writable
clear_form = name_form (codes "clear") Clear refl (omega arith) (λ rest. refl) tt refl

settle_form : NameForm (codes "settle") Settle
unfolding Writable
settle_form = name_form (codes "settle") Settle refl (omega arith) (λ rest. refl) tt refl

annul_form : NameForm (codes "annul") Annul
unfolding Writable
annul_form = name_form (codes "annul") Annul refl (omega arith) (λ rest. refl) tt refl

call_named_sound : (name rest : List ℕ) (c : Call) (left : List ℕ) → call_named name rest ≡ Some (c, left) → Writable c × (name ++ rest ≡ inner c ++ left)
call_named_sound name rest c left =
    by_cases (bytes_eq name (codes "admit")) _ _ (c, left) (form_sound admit_form name rest c left)
    (λ _. by_cases (bytes_eq name (codes "begin")) _ _ (c, left) (form_sound begin_form name rest c left)
    (λ _. by_cases (bytes_eq name (codes "enter")) _ _ (c, left) (form_sound enter_form name rest c left)
    (λ _. by_cases (bytes_eq name (codes "withdraw")) _ _ (c, left) (form_sound withdraw_form name rest c left)
    (λ _. by_cases (bytes_eq name (codes "close")) _ _ (c, left) (form_sound close_form name rest c left)
    (λ _. by_cases (bytes_eq name (codes "clear")) _ _ (c, left) (form_sound clear_form name rest c left)
    (λ _. by_cases (bytes_eq name (codes "settle")) _ _ (c, left) (form_sound settle_form name rest c left)
    (λ _. by_cases (bytes_eq name (codes "annul")) _ _ (c, left) (form_sound annul_form name rest c left)
    (λ _ e. absurd (none-some _ e)))))))))

named_complete : (c : Call) (rest : List ℕ) → Writable c → Ends rest → named_of (inner c ++ rest) ≡ Some (c, rest)
named_complete (Admit agent) = form_complete admit_form agent
named_complete (Begin session forward backward) = form_complete begin_form (session, (forward, backward))
named_complete (Enter zone side bid) = form_complete enter_form (zone, (side, bid))
named_complete (Withdraw zone side key) = form_complete withdraw_form (zone, (side, key))
named_complete Close = form_complete close_form tt
named_complete Clear = form_complete clear_form tt
named_complete Settle = form_complete settle_form tt
named_complete Annul = form_complete annul_form tt

named_lawful : Lawful named_of inner Writable
named_lawful =
    record {
      sound = λ bs c rest e.
          let first = and_then_some (word_of bs) (λ p. call_named p.0 p.1) (c, rest) e in
          let is = call_named_sound first.0.0 first.0.1 c rest first.2 in
          (is.0, word_sound bs first.0 first.1 ∙ is.1);
      complete = named_complete;
    }

line_lawful : Lawful (bracketed named_of) (λ c. 40 ∷ (inner c ++ 41 ∷ [])) Writable
line_lawful = past_lawful (until_lawful named_lawful 41 closing) 40 opening

-- what is read is the call whose text the line is
pub call_sound : (bs : List ℕ) (c : Call) → call_of bs ≡ Some c → Writable c × (bs ≡ text c)
call_sound bs c e =
    let first = and_then_some (bracketed named_of bs) (λ p. cond (eqb (length p.1) 0) (Some p.0) None) c e in
    let last = cond_some (eqb (length first.0.1) 0) (Some first.0.0) c first.2 in
    let is_c : first.0.0 ≡ c = let h = last.1 in cc in
    let empty : first.0.1 ≡ [] = nil_from_length first.0.1 (eqb-true _ 0 last.0) in
    let is = line_lawful.sound bs first.0.0 first.0.1 first.1 in (
      subst Writable is_c is.0,
      is.1 ∙ (λ i. (40 ∷ (inner (is_c i) ++ 41 ∷ [])) ++ empty i) ∙ append-nil (40 ∷ (inner c ++ 41 ∷ [])) ∙ bracketed_text c,
    )

-- the text of a call is read as that call
pub call_complete : (c : Call) → Writable c → call_of (text c) ≡ Some c
call_complete c fits =
    ap call_of (sym (append-nil (40 ∷ (inner c ++ 41 ∷ [])) ∙ bracketed_text c))
    ∙ ap (λ o. and_then o (λ p. cond (eqb (length p.1) 0) (Some p.0) None)) (line_lawful.complete c [] fits (record { no_digit = refl; no_letter = refl }))

pub reads_from : (bs : List ℕ) (r : Option Call) → r ≡ call_of bs → Reads bs r
reads_from bs None e =
    λ d fits is. let never : None ≡ Some d = e ∙ ap call_of is ∙ call_complete d fits in let z : ◌≡◌ {A = ℕ} 0 1 = cc in omega arith
reads_from bs (Some c) e =
    let is = call_sound bs c (sym e) in
    (is.0, is.1, λ d fits same. let both : Some c ≡ Some d = e ∙ ap call_of same ∙ call_complete d fits in cc)

-- a text is short
decimal_short : (n : ℕ) → Short n → length (decimal n) ≤ 9
unfolding Short
decimal_short n h = length-decimal-le 9 n (omega arith) (omega arith) (omega arith)

price_short : (p : ℤ) → ShortPrice p → length (signed_decimal p) ≤ 10
unfolding ShortPrice
price_short (pos n) h = let most : n < 10 ^ 9 = omega (arith, ints) in let d : length (decimal n) ≤ 9 = length-decimal-le 9 n (omega arith) most (omega arith) in omega arith
price_short (negsuc n) h = let most : suc n < 10 ^ 9 = omega (arith, ints) in let d : length (decimal (suc n)) ≤ 9 = length-decimal-le 9 (suc n) (omega arith) most (omega arith) in omega arith

side_short : (s : Side) → length (side_text s) ≤ 8
side_short Sale = omega arith
side_short Purchase = omega arith

bid_short : (b : Bid) → ShortBid b → length (bid_text b) ≤ 64
unfolding bid_text ShortBid
bid_short b h =
    let agent = decimal_short b.agent h.0 in
    let unit = decimal_short b.unit h.1 in
    let number = decimal_short b.number h.2 in
    let stamp = decimal_short b.stamp h.3 in
    let price = price_short b.price h.4 in
    let volume = decimal_short b.volume h.5 in
    simp length-append (omega arith)

key_short : (k : BlockKey) → ShortKey k → length (key_text k) ≤ 21
unfolding key_text ShortKey
key_short k h =
    let unit = decimal_short k.unit h.0 in
    let number = decimal_short k.number h.1 in
    simp length-append (omega arith)

pub text_short : (c : Call) → Writable c → length (text c) ≤ 120
unfolding text Writable
text_short (Admit agent) h = let a = decimal_short agent h in simp length-append (omega arith)
text_short (Begin session forward backward) h =
    let s = decimal_short session h.0 in
    let f = decimal_short forward h.1 in
    let b = decimal_short backward h.2 in
    simp length-append (omega arith)
text_short (Enter zone side bid) h =
    let z = decimal_short zone h.0 in
    let s = side_short side in
    let b = bid_short bid h.1 in
    simp length-append (omega arith)
text_short (Withdraw zone side key) h =
    let z = decimal_short zone h.0 in
    let s = side_short side in
    let k = key_short key h.1 in
    simp length-append (omega arith)
text_short Close h = omega arith
text_short Clear h = omega arith
text_short Settle h = omega arith
text_short Annul h = omega arith

pub long_from : (bs : List ℕ) (r : Option Call) → r ≡ call_of bs → 120 < length bs → r ≡ None
long_from bs None e lt = refl
long_from bs (Some c) e lt =
    let is = call_sound bs c (sym e) in
    absurd (omega (arith, text_short c is.0, ap length is.1))
