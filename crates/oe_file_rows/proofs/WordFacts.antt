-- What is read of a column is spelled there, and what is spelled there is read.
use Rattle.std.proofs.Common.{◌≡◌, ℕ, zero, suc, ◌+◌, ◌*◌, ◌/◌, ◌%◌, ◌^◌, ◌<◌, ◌≤◌, ◌⊎◌, inl, inr, List, [], ◌∷◌}
use Rattle.std.proofs.Common.{◌++◌}
use Rattle.std.proofs.Common.{Bool, true, false, ◌&&◌, ◌||◌, Option, Some, None, length, take, drop, get_or}
use Rattle.std.proofs.Common.{set, decimal}
use Rattle.std.proofs.Common.{codes, nat_le, nat_lt, eqb, sym, ap, subst, ◌∙◌, refl, append-nil, arith}
use Rattle.std.proofs.Common.{le-leb}
use Rattle.std.proofs.Common.{length-append}
use Rattle.std.specs.Prelude.{ℤ, pos, negsuc, ◌==◌}
use Rattle.std.specs.List.{list_all}
use Rattle.std.specs.Int.{IsInRange}
use Rattle.std.specs.Option.{option_map}
use Rattle.std.proofs.lemmas.Bool.{eqb-true, eq-eqb, leb-true, ltb-true}
use Rattle.std.proofs.lemmas.Bool.Decides.{nat_tests}
use Rattle.std.proofs.lemmas.Int.{ints}
use Rattle.std.proofs.lemmas.List.{take-append-drop, take_at, drop_at, length-set, set-set, set-get_or, get_or-set_same}
use Rattle.std.proofs.lemmas.List.Sums.{AllPass-from_list_all, list_all-from_AllPass}
use Rattle.std.proofs.lemmas.Slice.Eq.{bytes_eq-Decides}
use Rattle.oe_values.specs.Number.{IsWithin}
use Rattle.oe_values.specs.Text.{IsText}
use Rattle.oe_values.specs.Stamp.{two_digits, SaysStamp}
use Rattle.oe_values.specs.Front.{◌>>=◌, after_of, pair_of, decimal_of, alone}
use Rattle.oe_values.proofs.FrontFacts.{bind_some, some_same, chosen, guarded, both, alone_found, after_found}
use Rattle.oe_values.proofs.FrontFacts.{pair_found, pair_only, decimal_found, decimal_only}
use Rattle.oe_rows.specs.Credit.{money_text}
use Rattle.oe_rows.specs.declared.customers.Credit.{Credit}
use Rattle.oe_rows.specs.declared.customers.Credit.TheVariants.{Good, Bad}
use Rattle.oe_texts.specs.Column.{balance_text, rate_text, credit_text, flag_text}
use Rattle.oe_texts.specs.Stamp.{stamp_text}
use Rattle.oe_texts.proofs.StampFacts.{stamp_text_says}
use Rattle.oe_decode.specs.ColumnFronts.{is_text, text_within}
use Rattle.oe_decode.specs.ColumnFacts.{is_text-test, is_text-true}
use Rattle.oe_lines.specs.Words.{within, stamp_of}
use Rattle.oe_lines.proofs.WordFacts.{map_some, within_found, within_only}
use Rattle.oe_lines.proofs.StampFacts.{stamp_found, stamp_only}
use Rattle.oe_file_rows.specs.declared.forms.Form.{Form}
use Rattle.oe_file_rows.specs.declared.forms.Form.TheVariants as form
use Rattle.oe_file_rows.specs.Value.{Value, Null, Number, Text, Money, Balance, Rate, Standing, Flag, Stamp, IsOf}
use Rattle.oe_file_rows.specs.Value.{Spells}
use Rattle.oe_file_rows.specs.Value.{IsNoFraction, SpellsStamp}
use Rattle.oe_file_rows.specs.Word.{is_word, number_of, cents_of, debt_cents, credit_cents, signed_of, balance_of}
use Rattle.oe_file_rows.specs.Word.{rate_of}
use Rattle.oe_file_rows.specs.Word.{credit_of}
use Rattle.oe_file_rows.specs.Word.{flag_of, is_no_fraction, parted_of, stamp_at, is_null, null_or, ranged_of, value_of}

-- words

word_is : (a b : List ℕ) → is_word a b ≡ true → a ≡ b
unfolding is_word
word_is a b e = (bytes_eq-Decides a b).0 e

is_one : (a b : List ℕ) → a ≡ b → is_word a b ≡ true
unfolding is_word
is_one a b e = (bytes_eq-Decides a b).1 e

-- numbers

number_found : (s : List ℕ) (n : ℕ) → number_of s ≡ Some n → s ≡ decimal n
unfolding number_of
number_found s n e =
    let p = bind_some (decimal_of s) _ n e in
    let f = decimal_found s p.0.0 p.0.1 p.1 in
    let end = alone_found p.0.0 n p.0.1 p.2 in
    f.0 ∙ ap (λ z. decimal p.0.0 ++ z) end.0 ∙ append-nil (decimal p.0.0) ∙ ap decimal end.1

pub number_only : (n : ℕ) → n < 10 ^ 15 → number_of (decimal n) ≡ Some n
unfolding number_of
number_only n h = rw (← append-nil (decimal n), decimal_only n [] h refl) refl

ranged_found : (low high : ℕ) (s : List ℕ) (v : Value) → ranged_of low high s ≡ Some v
    → (n : ℕ) × (Number n ≡ v) × IsInRange low high n × (s ≡ decimal n)
ranged_found low high s v e =
    let m = map_some (λ n. Number n) (number_of s >>= within low high) v e in
    let b = bind_some (number_of s) (within low high) m.0 m.1 in
    let w = within_found low high b.0 m.0 b.2 in
    (m.0, m.2, (w.1, w.2), number_found s b.0 b.1 ∙ ap decimal w.0)

ranged_only : (low high n : ℕ) → high < 10 ^ 15 → IsInRange low high n → ranged_of low high (decimal n)
    ≡ Some (Number n)
ranged_only low high n h r = rw (number_only n (omega (arith, r.1, h)), within_only low high n r.0 r.1) refl

-- money

money_same : (n whole rest : ℕ) → rest < 100 → whole * 100 + rest ≡ n → (whole ≡ n / 100) × (rest ≡ n % 100)
money_same n whole rest h e = (omega arith, omega arith)

cents_found : (s : List ℕ) (n : ℕ) → cents_of s ≡ Some n → s ≡ money_text n
unfolding cents_of
cents_found s n e =
    let w = bind_some (decimal_of s) _ n e in
    let a = bind_some (after_of (codes ".") w.0.1) _ n w.2 in
    let d = bind_some (pair_of a.0) _ n a.2 in
    let end = alone_found (w.0.0 * 100 + d.0.0) n d.0.1 d.2 in
    let whole = decimal_found s w.0.0 w.0.1 w.1 in
    let rest = pair_found a.0 d.0.0 d.0.1 d.1 in
    let parts = money_same n w.0.0 d.0.0 rest.1 end.1 in
    let cents : a.0 ≡ two_digits d.0.0 = rest.0 ∙ ap (λ z. two_digits d.0.0 ++ z) end.0 in
    let point : w.0.1 ≡ 46 ∷ two_digits d.0.0 = after_found (codes ".") w.0.1 a.0 a.1 ∙ ap (λ z. 46 ∷ z) cents in
    whole.0 ∙ ap (λ z. decimal w.0.0 ++ z) point ∙ ap (λ x. decimal x ++ (46 ∷ two_digits d.0.0)) parts.0
    ∙ ap (λ y. decimal (n / 100) ++ (46 ∷ two_digits y)) parts.1

pub cents_only : (n : ℕ) → n < 10 ^ 17 → cents_of (money_text n) ≡ Some n
unfolding cents_of
cents_only n h =
    let value : n / 100 * 100 + n % 100 ≡ n = omega arith in
    rw (
      decimal_only (n / 100) (46 ∷ two_digits (n % 100)) (omega arith) refl,
      pair_only (n % 100) [] (omega arith),
      value,
    ) refl

money_found : (most : ℕ) (s : List ℕ) (n : ℕ) → (cents_of s >>= within 0 most) ≡ Some n
    → (n ≤ most) × (s ≡ money_text n)
money_found most s n e =
    let b = bind_some (cents_of s) (within 0 most) n e in
    let w = within_found 0 most b.0 n b.2 in
    (w.2, cents_found s b.0 b.1 ∙ ap money_text w.0)

money_only : (most n : ℕ) → most < 10 ^ 17 → n ≤ most → (cents_of (money_text n) >>= within 0 most) ≡ Some n
money_only most n h l = rw (cents_only n (omega arith), within_only 0 most n (omega arith) l) refl

-- balances

owned_found : (n : ℕ) (z : ℤ) → credit_cents n ≡ Some z → IsWithin 999_999_999_999 z × (money_text n ≡ balance_text z)
owned_found n z e =
    let g = guarded (nat_le n 999_999_999_999) (Some (pos n)) z e in
    let same : pos n ≡ z = some_same (pos n) z g.1 in
    let most = leb-true n 999_999_999_999 g.0 in
    subst (λ z. IsWithin 999_999_999_999 z × (money_text n ≡ balance_text z)) same
    ((omega (arith, ints, most), omega (arith, ints, most)), refl)

owed_found : (n : ℕ) (z : ℤ) → debt_cents n ≡ Some z → IsWithin 999_999_999_999 z × (45 ∷ money_text n ≡ balance_text z)
owed_found zero z e = cc
owed_found (suc n) z e =
    let g = guarded (nat_le (suc n) 999_999_999_999) (Some (negsuc n)) z e in
    let same : negsuc n ≡ z = some_same (negsuc n) z g.1 in
    let most = leb-true (suc n) 999_999_999_999 g.0 in
    subst (λ z. IsWithin 999_999_999_999 z × (45 ∷ money_text (suc n) ≡ balance_text z)) same
    ((omega (arith, ints, most), omega (arith, ints, most)), refl)

signed_found : (o : Option (List ℕ)) (s : List ℕ) (z : ℤ) → after_of (codes "-") s ≡ o → signed_of o s ≡ Some z
    → IsWithin 999_999_999_999 z × (s ≡ balance_text z)
signed_found None s z h e =
    let b = bind_some (cents_of s) credit_cents z e in
    let f = owned_found b.0 z b.2 in
    (f.0, cents_found s b.0 b.1 ∙ f.1)
signed_found (Some r) s z h e =
    let b = bind_some (cents_of r) debt_cents z e in
    let f = owed_found b.0 z b.2 in
    (f.0, after_found (codes "-") s r h ∙ ap (λ t. 45 ∷ t) (cents_found r b.0 b.1) ∙ f.1)

balance_found : (s : List ℕ) (z : ℤ) → balance_of s ≡ Some z → IsWithin 999_999_999_999 z × (s ≡ balance_text z)
unfolding balance_of
balance_found s z e = signed_found (after_of (codes "-") s) s z refl e

-- no minus sign stands before money
no_cents : (r : List ℕ) → cents_of (45 ∷ r) ≡ None
unfolding cents_of decimal_of
no_cents r = refl

no_sign : (s : List ℕ) (n : ℕ) (o : Option (List ℕ)) → after_of (codes "-") s ≡ o → cents_of s ≡ Some n → o ≡ None
no_sign s n None h e = refl
no_sign s n (Some r) h e =
    let none : cents_of s ≡ None = ap cents_of (after_found (codes "-") s r h) ∙ no_cents r in
    absurd (cc)

balance_only : (z : ℤ) → IsWithin 999_999_999_999 z → balance_of (balance_text z) ≡ Some z
unfolding balance_of
balance_only (pos n) h =
    let most : n ≤ 999_999_999_999 = omega (arith, ints) in
    let read = cents_only n (omega arith) in
    rw (no_sign (money_text n) n _ refl read, read, le-leb n 999_999_999_999 most) refl
balance_only (negsuc n) h =
    let most : suc n ≤ 999_999_999_999 = omega (arith, ints) in
    rw (cents_only (suc n) (omega arith), le-leb (suc n) 999_999_999_999 most) refl

-- rates

rate_same : (n h t : ℕ) → t < 100 → h * 100 + t ≡ n → (h ≡ n / 100) × (t ≡ n % 100)
rate_same n h t l e = (omega arith, omega arith)

rate_found : (s : List ℕ) (n : ℕ) → rate_of s ≡ Some n → (n ≤ 9_999) × (s ≡ rate_text n)
unfolding rate_of
rate_found s n e =
    let a = bind_some (after_of (codes "0.") s) _ n e in
    let h = bind_some (pair_of a.0) _ n a.2 in
    let t = bind_some (pair_of h.0.1) _ n h.2 in
    let m = bind_some (alone (h.0.0 * 100 + t.0.0) t.0.1) _ n t.2 in
    let end = alone_found (h.0.0 * 100 + t.0.0) m.0 t.0.1 m.1 in
    let high = pair_found a.0 h.0.0 h.0.1 h.1 in
    let low = pair_found h.0.1 t.0.0 t.0.1 t.1 in
    let w = within_found 0 9_999 m.0 n m.2 in
    let parts = rate_same n h.0.0 t.0.0 low.1 (end.1 ∙ w.0) in
    let behind : h.0.1 ≡ two_digits t.0.0 = low.0 ∙ ap (λ z. two_digits t.0.0 ++ z) end.0 in (
      w.2,
      after_found (codes "0.") s a.0 a.1
          ∙ ap (λ z. 48 ∷ 46 ∷ z) (high.0 ∙ ap (λ z. two_digits h.0.0 ++ z) behind)
          ∙ ap (λ x. 48 ∷ 46 ∷ (two_digits x ++ two_digits t.0.0)) parts.0
          ∙ ap (λ y. 48 ∷ 46 ∷ (two_digits (n / 100) ++ two_digits y)) parts.1,
    )

rate_only : (n : ℕ) → n ≤ 9_999 → rate_of (rate_text n) ≡ Some n
unfolding rate_of
rate_only n h =
    let value : n / 100 * 100 + n % 100 ≡ n = omega arith in
    rw (
      pair_only (n / 100) (two_digits (n % 100)) (omega arith),
      pair_only (n % 100) [] (omega arith),
      value,
      within_only 0 9_999 n (omega arith) h,
    ) refl

-- credits and flags

credit_found : (s : List ℕ) (c : Credit) → credit_of s ≡ Some c → s ≡ credit_text c
unfolding credit_of
credit_found s c e = elim (chosen (is_word s (codes "GC")) (Some Good) _ (Some c) e) [
  | inl h ↦ word_is s (codes "GC") h.0 ∙ ap credit_text (some_same Good c h.1)
  | inr h ↦
      let g = guarded (is_word s (codes "BC")) (Some Bad) c h.1 in
      word_is s (codes "BC") g.0 ∙ ap credit_text (some_same Bad c g.1)
]

credit_only : (c : Credit) → credit_of (credit_text c) ≡ Some c
unfolding credit_of is_word
credit_only Good = refl
credit_only Bad = refl

flag_found : (s : List ℕ) (b : Bool) → flag_of s ≡ Some b → s ≡ flag_text b
unfolding flag_of
flag_found s b e = elim (chosen (is_word s (codes "1")) (Some true) _ (Some b) e) [
  | inl h ↦ word_is s (codes "1") h.0 ∙ ap flag_text (some_same true b h.1)
  | inr h ↦
      let g = guarded (is_word s (codes "0")) (Some false) b h.1 in
      word_is s (codes "0") g.0 ∙ ap flag_text (some_same false b g.1)
]

flag_only : (b : Bool) → flag_of (flag_text b) ≡ Some b
unfolding flag_of is_word
flag_only true = refl
flag_only false = refl

-- stamps

fraction_found : (s : List ℕ) → is_no_fraction s ≡ true → IsNoFraction s
fraction_found [] e = tt
fraction_found (b ∷ []) e = absurd (cc)
fraction_found (b ∷ c ∷ s) e =
    let p : (eqb b 46 ≡ true) × ((eqb c 48 && list_all (λ d. d == 48) s) ≡ true) = both _ _ e in
    let q : (eqb c 48 ≡ true) × (list_all (λ d. d == 48) s ≡ true) = both _ _ p.1 in (
      eqb-true b 46 p.0,
      eqb-true c 48 q.0,
      λ k d lt. eqb-true _ 48 (AllPass-from_list_all (λ d. d == 48) s q.1 k d lt),
    )

fraction_only : (s : List ℕ) → IsNoFraction s → is_no_fraction s ≡ true
fraction_only [] h = refl
fraction_only (b ∷ []) h = absurd h
fraction_only (b ∷ c ∷ s) h =
    rw (
      eq-eqb b 46 h.0,
      eq-eqb c 48 h.1,
      list_all-from_AllPass (λ d. d == 48) s (λ k d lt. eq-eqb _ 48 (h.2 k d lt)),
    ) refl

abbrev IsParted : ℕ → List ℕ → Type 0
IsParted n s = (s ≡ stamp_text n) ⊎ (s ≡ set (stamp_text n) 10 32)

parted_found : (s : List ℕ) (n : ℕ) → parted_of s ≡ Some n → IsParted n s × (n < 6_342_969_600)
unfolding parted_of
parted_found s n e =
    elim (chosen (eqb (get_or s 10 0) 32) (stamp_of (set s 10 84)) (stamp_of s) (Some n) e) [
      | inl h ↦
          let f = stamp_found (set s 10 84) n h.1 in
          let blank : get_or s 10 0 ≡ 32 = eqb-true _ 32 h.0 in
          let back : set s 10 32 ≡ s = ap (λ b. set s 10 b) (sym blank) ∙ set-get_or s 10 0 in
          (inr (sym back ∙ sym (set-set s 10 84 32) ∙ ap (λ t. set t 10 32) f.0), f.1)
      | inr h ↦ let f = stamp_found s n h.1 in (inl f.0, f.1)
    ]

says_19 : (s : List ℕ) (n : ℕ) → SaysStamp s n → (length s ≡ 19) × (get_or s 10 0 ≡ 84)
says_19 s n h = rw h.spelled (refl, refl)

parted_19 : (n : ℕ) (s : List ℕ) → n < 6_342_969_600 → IsParted n s → length s ≡ 19
parted_19 n s h (inl e) = ap length e ∙ (says_19 (stamp_text n) n (stamp_text_says n h)).0
parted_19 n s h (inr e) =
    ap length e ∙ length-set (stamp_text n) 10 32 ∙ (says_19 (stamp_text n) n (stamp_text_says n h)).0

parted_only : (n : ℕ) (s : List ℕ) → n < 6_342_969_600 → IsParted n s → parted_of s ≡ Some n
unfolding parted_of
parted_only n s h (inl e) =
    let t = says_19 (stamp_text n) n (stamp_text_says n h) in
    rw (e, t.1, stamp_only n h) refl
parted_only n s h (inr e) =
    let t = says_19 (stamp_text n) n (stamp_text_says n h) in
    let blank : get_or (set (stamp_text n) 10 32) 10 0 ≡ 32 =
    get_or-set_same (stamp_text n) 10 32 0 (omega (arith, t.0)) in
    let back : set (set (stamp_text n) 10 32) 10 84 ≡ stamp_text n =
    set-set (stamp_text n) 10 32 84 ∙ ap (λ b. set (stamp_text n) 10 b) (sym t.1) ∙ set-get_or (stamp_text n) 10 0 in
    rw (e, blank, back, stamp_only n h) refl

stamp_at_found : (s : List ℕ) (n : ℕ) → stamp_at s ≡ Some n → SpellsStamp n s × (n < 6_342_969_600)
unfolding stamp_at
stamp_at_found s n e = elim (chosen (nat_lt (length s) 19) None _ (Some n) e) [
  | inl h ↦ cc
  | inr h ↦
      let g = guarded (is_no_fraction (drop 19 s)) (parted_of (take 19 s)) n h.1 in
      let f = parted_found (take 19 s) n g.1 in (
        record {
          front = take 19 s;
          fraction = drop 19 s;
          whole = sym (take-append-drop 19 s);
          parted = f.0;
          zeros = fraction_found (drop 19 s) g.0;
        },
        f.1,
      )
]

long : (n : ℕ) → 19 ≤ n → nat_lt n 19 ≡ false
long n h = grind (arith, nat_tests)

stamp_at_only : (s : List ℕ) (n : ℕ) → SpellsStamp n s → n < 6_342_969_600 → stamp_at s ≡ Some n
unfolding stamp_at
stamp_at_only s n r h =
    let size = parted_19 n r.front h r.parted in
    rw (
      r.whole,
      long (length (r.front ++ r.fraction)) (omega (arith, size, length-append r.front r.fraction)),
      drop_at r.front r.fraction 19 size,
      take_at r.front r.fraction 19 size,
      fraction_only r.fraction r.zeros,
      parted_only n r.front h r.parted,
    ) refl

-- null

null_found : (s : List ℕ) → is_null s ≡ true → Spells Null s
unfolding is_null
null_found s e = either (is_word s (codes "-")) (is_word s (92 ∷ 78 ∷ [])) (word_is s (codes "-"))
    (word_is s (92 ∷ 78 ∷ [])) e
  where
    either : {P Q : Type 0} (a b : Bool) → (a ≡ true → P) → (b ≡ true → Q) → (a || b) ≡ true → P ⊎ Q
    either true b f g e = inl (f refl)
    either false b f g e = inr (g e)

null_only : (s : List ℕ) → Spells Null s → is_null s ≡ true
unfolding is_null
null_only s (inl e) = rw (is_one s (codes "-") e) refl
null_only s (inr e) = first (is_word s (codes "-")) (is_one s (92 ∷ 78 ∷ []) e)
  where
    first : (a : Bool) {b : Bool} → b ≡ true → (a || b) ≡ true
    first true e = refl
    first false e = e

no_number : (s : List ℕ) → Spells Null s → number_of s ≡ None
unfolding number_of decimal_of
no_number s (inl e) = rw e refl
no_number s (inr e) = rw e refl

no_ranged : (low high : ℕ) (s : List ℕ) → Spells Null s → ranged_of low high s ≡ None
no_ranged low high s h = rw (no_number s h) refl

no_stamp : (s : List ℕ) → Spells Null s → stamp_at s ≡ None
unfolding stamp_at
no_stamp s (inl e) = rw e refl
no_stamp s (inr e) = rw e refl

null_or_found : (b : Bool) (o : Option Value) (v : Value) → null_or b o ≡ Some v
    → ((b ≡ true) × (Null ≡ v)) ⊎ (o ≡ Some v)
null_or_found true o v e = inl (refl, some_same Null v e)
null_or_found false o v e = inr e

null_or_only : (b : Bool) (o : Option Value) (v : Value) → (b ≡ true → o ≡ None) → o ≡ Some v → null_or b o ≡ Some v
null_or_only true o v none e = let no : o ≡ None = none refl in absurd (cc)
null_or_only false o v none e = e

-- values

abbrev Found : Form → List ℕ → Value → Type 0
Found f s v = IsOf f v × Spells v s

ranged_is : (low high : ℕ) (s : List ℕ) (v : Value) → ranged_of low high s ≡ Some v → Found (form.Number low high) s v
ranged_is low high s v e =
    let r = ranged_found low high s v e in
    subst (Found (form.Number low high) s) r.1 (r.2, r.3)

stamp_is : (s : List ℕ) (v : Value) → option_map (λ n. Stamp n) (stamp_at s) ≡ Some v → Found form.Stamp s v
stamp_is s v e =
    let m = map_some (λ n. Stamp n) (stamp_at s) v e in
    let f = stamp_at_found s m.0 m.1 in
    subst (Found form.Stamp s) m.2 (f.1, f.0)

text_is : (least most : ℕ) (s t : List ℕ) → text_within least most s ≡ Some t → IsText least most t × (s ≡ t)
text_is least most s t e =
    let g = guarded (is_text least most s) (Some s) t e in
    let same = some_same s t g.1 in
    (subst (IsText least most) same (is_text-test least most s g.0), same)

as_nullable : (low high : ℕ) (s : List ℕ) (v : Value) → Found (form.Number low high) s v
    → Found (form.NullableNumber low high) s v
as_nullable low high s (Number n) h = h
as_nullable low high s Null h = absurd h.0
as_nullable low high s (Text t) h = absurd h.0
as_nullable low high s (Money n) h = absurd h.0
as_nullable low high s (Balance z) h = absurd h.0
as_nullable low high s (Rate n) h = absurd h.0
as_nullable low high s (Standing c) h = absurd h.0
as_nullable low high s (Flag b) h = absurd h.0
as_nullable low high s (Stamp n) h = absurd h.0

as_nullable_stamp : (s : List ℕ) (v : Value) → Found form.Stamp s v → Found form.NullableStamp s v
as_nullable_stamp s (Stamp n) h = h
as_nullable_stamp s Null h = absurd h.0
as_nullable_stamp s (Number n) h = absurd h.0
as_nullable_stamp s (Text t) h = absurd h.0
as_nullable_stamp s (Money n) h = absurd h.0
as_nullable_stamp s (Balance z) h = absurd h.0
as_nullable_stamp s (Rate n) h = absurd h.0
as_nullable_stamp s (Standing c) h = absurd h.0
as_nullable_stamp s (Flag b) h = absurd h.0

pub value_found : (f : Form) (s : List ℕ) (v : Value) → value_of f s ≡ Some v → IsOf f v × Spells v s
unfolding value_of
value_found (form.Number low high) s v e = ranged_is low high s v e
value_found (form.NullableNumber low high) s v e = elim (null_or_found (is_null s) (ranged_of low high s) v e) [
  | inl h ↦ subst (Found (form.NullableNumber low high) s) h.1 (tt, null_found s h.0)
  | inr h ↦ as_nullable low high s v (ranged_is low high s v h)
]
value_found (form.Text least most) s v e =
    let m = map_some (λ t. Text t) (text_within least most s) v e in
    subst (Found (form.Text least most) s) m.2 (text_is least most s m.0 m.1)
value_found (form.Money most) s v e =
    let m = map_some (λ n. Money n) (cents_of s >>= within 0 most) v e in
    subst (Found (form.Money most) s) m.2 (money_found most s m.0 m.1)
value_found form.Balance s v e =
    let m = map_some (λ z. Balance z) (balance_of s) v e in
    subst (Found form.Balance s) m.2 (balance_found s m.0 m.1)
value_found form.Rate s v e =
    let m = map_some (λ n. Rate n) (rate_of s) v e in
    subst (Found form.Rate s) m.2 (rate_found s m.0 m.1)
value_found form.Credit s v e =
    let m = map_some (λ c. Standing c) (credit_of s) v e in
    subst (Found form.Credit s) m.2 (tt, credit_found s m.0 m.1)
value_found form.Flag s v e =
    let m = map_some (λ b. Flag b) (flag_of s) v e in
    subst (Found form.Flag s) m.2 (tt, flag_found s m.0 m.1)
value_found form.Stamp s v e = stamp_is s v e
value_found form.NullableStamp s v e =
    elim (null_or_found (is_null s) (option_map (λ n. Stamp n) (stamp_at s)) v e) [
      | inl h ↦ subst (Found form.NullableStamp s) h.1 (tt, null_found s h.0)
      | inr h ↦ as_nullable_stamp s v (stamp_is s v h)
    ]

-- the numbers of the form are those that are read whole
abbrev pub is_small : Form → Bool
is_small (form.Number low high) = nat_lt high 1_000_000_000_000_000
is_small (form.NullableNumber low high) = nat_lt high 1_000_000_000_000_000
is_small (form.Money most) = nat_lt most 100_000_000_000_000_000
is_small _ = true

ranged_read : (low high n : ℕ) (s : List ℕ) → nat_lt high 1_000_000_000_000_000 ≡ true → IsInRange low high n
    → s ≡ decimal n → ranged_of low high s ≡ Some (Number n)
ranged_read low high n s small r e = rw e (ranged_only low high n (ltb-true high 1_000_000_000_000_000 small) r)

stamp_read : (n : ℕ) (s : List ℕ) → n < 6_342_969_600 → SpellsStamp n s
    → option_map (λ n. Stamp n) (stamp_at s) ≡ Some (Stamp n)
stamp_read n s h r = rw (stamp_at_only s n r h) refl

text_read : (least most : ℕ) (s t : List ℕ) → IsText least most t → s ≡ t
    → option_map (λ t. Text t) (text_within least most s) ≡ Some (Text t)
text_read least most s t h e = rw (e, is_text-true least most t h) refl

pub value_only : (f : Form) (v : Value) (s : List ℕ) → is_small f ≡ true → IsOf f v → Spells v s
    → value_of f s ≡ Some v
unfolding value_of
value_only (form.Number low high) (Number n) s small h e = ranged_read low high n s small h e
value_only (form.NullableNumber low high) (Number n) s small h e =
    null_or_only (is_null s) (ranged_of low high s) (Number n) (λ b. no_ranged low high s (null_found s b))
    (ranged_read low high n s small h e)
value_only (form.NullableNumber low high) Null s small h e = rw (null_only s e) refl
value_only (form.Text least most) (Text t) s small h e = text_read least most s t h e
value_only (form.Money most) (Money n) s small h e =
    rw (e, money_only most n (ltb-true most 100_000_000_000_000_000 small) h) refl
value_only form.Balance (Balance z) s small h e = rw (e, balance_only z h) refl
value_only form.Rate (Rate n) s small h e = rw (e, rate_only n h) refl
value_only form.Credit (Standing c) s small h e = rw (e, credit_only c) refl
value_only form.Flag (Flag b) s small h e = rw (e, flag_only b) refl
value_only form.Stamp (Stamp n) s small h e = stamp_read n s h e
value_only form.NullableStamp (Stamp n) s small h e =
    null_or_only (is_null s) (option_map (λ n. Stamp n) (stamp_at s)) (Stamp n)
    (λ b. rw (no_stamp s (null_found s b)) refl) (stamp_read n s h e)
value_only form.NullableStamp Null s small h e = rw (null_only s e) refl
value_only _ _ s small h e = absurd h
