-- Columns are read exactly.
use Rattle.std.proofs.Common.{◌≡◌, ◌==◌, ◌||◌, ℕ, zero, suc, ℤ, pos, negsuc, ◌^◌, ◌<◌, ◌≤◌, Bool, true, false, cond}
use Rattle.std.proofs.Common.{ltb, List, [], ◌∷◌, ◌++◌, length, take, drop, get_or, Option, Some, None, refl, sym, ap}
use Rattle.std.proofs.Common.{subst, ◌∙◌, arith}
use Rattle.std.specs.Prelude.{nat_le, FitsSigned, IsSome, IfSome}
use Rattle.std.specs.List.{list_all, All}
use Rattle.std.specs.Int.{w64, cast_signed, cast_unsigned}
use Rattle.std.proofs.lemmas.Bool.{ltb-false, le-ltb, leb-true, le-leb, eqb-true}
use Rattle.std.proofs.lemmas.Bool.Decides.{nat_tests}
use Rattle.std.proofs.lemmas.List.{take_at, drop_at, take-append-drop, length-append, length-take}
use Rattle.std.proofs.lemmas.List.Elements.{All-nil, All-cons}
use Rattle.std.proofs.lemmas.List.Sums.{AllPass-from_list_all, list_all-from_AllPass}
use Rattle.std.proofs.lemmas.Int.{ints, to_z-of_z, of_z-to_z}
use Rattle.std.proofs.Math.Facts.{sfits_to_z, Fits-of_z, Fits-of_lt, Fits-lt-pow}
use Rattle.byteorder.specs.Endian.{big_bytes}
use Rattle.oe_extent.specs.Images.{number, number_at, run_at}
use Rattle.oe_values.specs.Number.{IsWithin}
use Rattle.oe_values.specs.Text.{IsText, IsPrintable}
use Rattle.oe_rows.specs.declared.customers.Credit.{Credit}
use Rattle.oe_rows.specs.declared.customers.Credit.TheVariants.{Good, Bad}
use Rattle.oe_decode.specs.Fronts.{IsBytes, front_where, front_as, is_from, ranged_at}
use Rattle.oe_image.specs.Columns.{text, optional, flag, balance, credit_text, credit, ten_texts}
use Rattle.oe_decode.specs.ColumnFronts.{is_within, stamp_at, balance_at, is_printable, is_text, text_within, text_at}
use Rattle.oe_decode.specs.ColumnFronts.{present, column_by_mark, optional_at, flag_by, flag_at, is_credit, credit_of}
use Rattle.oe_decode.specs.ColumnFronts.{credit_at, ten_texts_at}
use Rattle.oe_decode.specs.Codec.{Takes, IsCodec}
use Rattle.oe_decode.specs.FrontFacts.{IsBytes-drop, bind_some, guard_some, kept_some, Takes-then}
use Rattle.oe_decode.specs.FrontFacts.{number_law, kept_law, both, in_range, is_from-true, seen_law, pair_law}

-- ---- numbers from 0 on

pub upto_law : (width most : ℕ) → most < 256 ^ width
    → IsCodec (λ n. n ≤ most) (λ n. number width n) (ranged_at width 0 most)
upto_law width most fits =
    kept_law (λ n. n < 256 ^ width) (λ n. n ≤ most) (λ n. number width n) (number_at width) (is_from 0 most)
    (λ n e lt. (in_range 0 most n e).1) (λ n h. (is_from-true 0 most n (omega arith, h), omega arith))
    (number_law width)

pub stamp_law : IsCodec (λ n. n < 6_342_969_600) (λ n. number 8 n) stamp_at
stamp_law =
    kept_law (λ n. n < 256 ^ 8) (λ n. n < 6_342_969_600) (λ n. number 8 n) (number_at 8) (is_from 0 6_342_969_599)
    (λ n e lt. let h = (in_range 0 6_342_969_599 n e).1 in omega (arith, h))
    (λ n h. (is_from-true 0 6_342_969_599 n (omega arith, omega (arith, h)), omega (arith, h))) (number_law 8)

-- ---- balances

IsWithin-test : (z : ℤ) → is_within 999_999_999_999 z ≡ true → IsWithin 999_999_999_999 z
IsWithin-test (pos n) e = grind (arith, nat_tests, both, ints)
IsWithin-test (negsuc n) e = grind (arith, nat_tests, both, ints)

is_within-true : (z : ℤ) → IsWithin 999_999_999_999 z → is_within 999_999_999_999 z ≡ true
is_within-true (pos n) h = grind (arith, nat_tests, ints)
is_within-true (negsuc n) h = grind (arith, nat_tests, ints)

fits_within : (z : ℤ) → IsWithin 999_999_999_999 z → FitsSigned w64 z
fits_within (pos n) h = omega (arith, ints)
fits_within (negsuc n) h = omega (arith, ints)

pub balance_law : IsCodec (λ z. IsWithin 999_999_999_999 z) (λ z. balance z) balance_at
balance_law =
    kept_law (λ z. FitsSigned w64 z) (λ z. IsWithin 999_999_999_999 z) (λ z. balance z)
    (λ bytes. front_as (cast_signed w64) (number_at 8 bytes)) (is_within 999_999_999_999)
    (λ z e s. IsWithin-test z e) (λ z h. (is_within-true z h, fits_within z h))
    (seen_law (cast_signed w64) (cast_unsigned w64) (λ z. FitsSigned w64 z)
    (λ z s. (Fits-lt-pow (Fits-of_z s), to_z-of_z w64 z s))
    (λ n lt. (sfits_to_z (Fits-of_lt {w = w64} lt), of_z-to_z w64 n lt)) (number_law 8))

-- ---- texts

printable_test : (b : ℕ) → is_printable b ≡ true → IsPrintable b
printable_test b e = let p = both (nat_le 32 b) (nat_le b 126) e in (leb-true _ _ p.0, leb-true _ _ p.1)

printable_true : (b : ℕ) → IsPrintable b → is_printable b ≡ true
printable_true b h = rw (le-leb _ _ h.0, le-leb _ _ h.1) refl

all_printable : (bytes : List ℕ) → list_all is_printable bytes ≡ true → All IsPrintable bytes
all_printable bytes e k d lt = printable_test _ (AllPass-from_list_all is_printable bytes e k d lt)

printable_all : (bytes : List ℕ) → All IsPrintable bytes → list_all is_printable bytes ≡ true
printable_all bytes h = list_all-from_AllPass is_printable bytes (λ k d lt. printable_true _ (h k d lt))

pub is_text-test : (least most : ℕ) (bytes : List ℕ) → is_text least most bytes ≡ true → IsText least most bytes
is_text-test least most bytes e =
    let a = both (nat_le least (length bytes)) _ e in
    let b = both (nat_le (length bytes) most) _ a.1 in
    record { at_least = leb-true _ _ a.0; at_most = leb-true _ _ b.0; printable = all_printable bytes b.1 }

pub is_text-true : (least most : ℕ) (bytes : List ℕ) → IsText least most bytes → is_text least most bytes ≡ true
is_text-true least most bytes h = rw (le-leb _ _ h.at_least, le-leb _ _ h.at_most, printable_all bytes h.printable) refl

-- what a reading of a text answers is what the test says
pub checked_is : (least most : ℕ) (bytes : List ℕ) (r : Option (List ℕ)) → (IsSome r → IsText least most bytes)
    → (IsText least most bytes → IsSome r) → IfSome r (λ t. t ≡ bytes) → r ≡ text_within least most bytes
checked_is least most bytes None f g v = go (is_text least most bytes)
    (λ e. absurd (let s = g (is_text-test least most bytes e) in cc))
  where
    go : (b : Bool) → (b ≡ true → ⊥) → ◌≡◌ {A = Option (List ℕ)} None (cond b (Some bytes) None)
    go true h = absurd (h refl)
    go false h = refl
checked_is least most bytes (Some t) f g v = let e = is_text-true least most bytes (f refl) in rw (e, v) refl

text_takes : (least most : ℕ) (bytes : List ℕ) (x : List ℕ × List ℕ) → IsBytes bytes → text_at least most bytes ≡ Some x
    → IsText least most x.0 × Takes bytes (text x.0) x.1
text_takes least most bytes x fits e =
    let a = bind_some (number_at 2 bytes) (λ n. front_where (is_text least most) (run_at n.0 n.1)) x e in
    let n = a.0 in
    let t = (number_law 2).takes bytes n fits a.1 in
    let k = kept_some (is_text least most) (run_at n.0 n.1) x a.2 in
    let g = guard_some (ltb (length n.1) n.0) (take n.0 n.1, drop n.0 n.1) x k.0 in
    let long : n.0 ≤ length n.1 = ltb-false _ _ g.0 in
    let len : length (take n.0 n.1) ≡ n.0 = omega (arith, length-take n.0 n.1) in
    let second : Takes n.1 (take n.0 n.1) (drop n.0 n.1) =
    record { parts = sym (take-append-drop n.0 n.1); rest_fits = IsBytes-drop n.0 n.1 t.1.rest_fits } in
    let whole : Takes bytes (text (take n.0 n.1)) (drop n.0 n.1) = subst
    (λ (k : ℕ). Takes bytes (big_bytes 2 k ++ take n.0 n.1) (drop n.0 n.1)) (sym len)
    (Takes-then bytes (big_bytes 2 n.0) n.1 (take n.0 n.1) (drop n.0 n.1) t.1 second) in
    (is_text-test least most x.0 k.1, subst (λ (p : List ℕ × List ℕ). Takes bytes (text p.0) p.1) g.1 whole)

text_again : (least most : ℕ) (v rest : List ℕ) → most < 65536 → IsText least most v
    → text_at least most (text v ++ rest) ≡ Some (v, rest)
text_again least most v rest small h =
    let long : ltb (length (v ++ rest)) (length v) ≡ false = le-ltb _ _ (omega (arith, length-append v rest)) in
    rw (
      (number_law 2).again (length v) (v ++ rest) (omega (arith, h.at_most)),
      long,
      take_at v rest (length v) refl,
      drop_at v rest (length v) refl,
      is_text-true least most v h,
    ) refl

pub text_law : (least most : ℕ) → most < 65536 → IsCodec (IsText least most) (λ v. text v) (text_at least most)
text_law least most small = record {
  takes = λ bytes x fits e. text_takes least most bytes x fits e;
  again = λ v rest h. text_again least most v rest small h;
}

-- ---- what may be null

present_some : {X : Type 0} (r : Option (X × List ℕ)) (y : Option X × List ℕ) → present r ≡ Some y
    → (x : X × List ℕ) × (r ≡ Some x) × ((Some x.0, x.1) ≡ y)
present_some None y e = absurd cc
present_some (Some x) y e = (x, refl, cc)

mark_taken : {X : Type 0} (image : X → List ℕ) (Fits : X → Type 0) (at : List ℕ → Option (X × List ℕ))
    → IsCodec Fits image at
    → (bytes : List ℕ) (n : ℕ) (rest : List ℕ) → Takes bytes (number 1 n) rest → (a b : Bool) → (a ≡ true → n ≡ 0)
    → (b ≡ true → n ≡ 1)
    → (x : Option X × List ℕ) → cond a (Some (None, rest)) (cond b (present (at rest)) None) ≡ Some x
    → IfSome x.0 Fits × Takes bytes (optional image x.0) x.1
mark_taken {X = X} image Fits at law bytes n rest t true b f g x e =
    let is : ◌≡◌ {A = Option X × List ℕ} (None, rest) x = cc in
    let zero : Takes bytes (number 1 0) rest = subst (λ (k : ℕ). Takes bytes (number 1 k) rest) (f refl) t in
    subst (λ (p : Option X × List ℕ). IfSome p.0 Fits × Takes bytes (optional image p.0) p.1) is (tt, zero)
mark_taken {X = X} image Fits at law bytes n rest t false true f g x e =
    let p = present_some (at rest) x e in
    let one : Takes bytes (number 1 1) rest = subst (λ (k : ℕ). Takes bytes (number 1 k) rest) (g refl) t in
    let inner = law.takes rest p.0 t.rest_fits p.1 in
    subst (λ (q : Option X × List ℕ). IfSome q.0 Fits × Takes bytes (optional image q.0) q.1) p.2
    (inner.0, Takes-then bytes (number 1 1) rest (image p.0.0) p.0.1 one inner.1)
mark_taken image Fits at law bytes n rest t false false f g x e = absurd cc

optional_again : {X : Type 0} (image : X → List ℕ) (Fits : X → Type 0) (at : List ℕ → Option (X × List ℕ))
    → IsCodec Fits image at
    → (v : Option X) (rest : List ℕ) → IfSome v Fits → optional_at at (optional image v ++ rest) ≡ Some (v, rest)
optional_again image Fits at law None rest h = rw ((number_law 1).again 0 rest (omega arith)) refl
optional_again image Fits at law (Some x) rest h =
    let a = (number_law 1).again 1 (image x ++ rest) (omega arith) in
    let b = law.again x rest h in
    rw (a, b) refl

pub optional_law : {X : Type 0} {Fits : X → Type 0} {image : X → List ℕ} {at : List ℕ → Option (X × List ℕ)}
    → IsCodec Fits image at
    → IsCodec (λ v. IfSome v Fits) (λ v. optional image v) (optional_at at)
optional_law {X = X} {Fits = Fits} {image = image} {at = at} law = record {
  takes = λ bytes x fits e.
      let n = bind_some (number_at 1 bytes) (λ n. column_by_mark at n.0 n.1) x e in
      let t = (number_law 1).takes bytes n.0 fits n.1 in
      mark_taken image Fits at law bytes n.0.0 n.0.1 t.1 (n.0.0 == 0) (n.0.0 == 1) (eqb-true n.0.0 0) (eqb-true n.0.0 1)
      x n.2;
  again = optional_again image Fits at law;
}

-- ---- what is so or not

flag_taken : (bytes : List ℕ) (n : ℕ) (rest : List ℕ) → Takes bytes (number 1 n) rest → (a b : Bool)
    → (a ≡ true → n ≡ 0) → (b ≡ true → n ≡ 1)
    → (x : Bool × List ℕ) → cond a (Some (false, rest)) (cond b (Some (true, rest)) None) ≡ Some x
    → Unit {0} × Takes bytes (flag x.0) x.1
flag_taken bytes n rest t true b f g x e =
    let is : ◌≡◌ {A = Bool × List ℕ} (false, rest) x = cc in
    subst (λ (p : Bool × List ℕ). Unit {0} × Takes bytes (flag p.0) p.1) is
    (tt, subst (λ (k : ℕ). Takes bytes (number 1 k) rest) (f refl) t)
flag_taken bytes n rest t false true f g x e =
    let is : ◌≡◌ {A = Bool × List ℕ} (true, rest) x = cc in
    subst (λ (p : Bool × List ℕ). Unit {0} × Takes bytes (flag p.0) p.1) is
    (tt, subst (λ (k : ℕ). Takes bytes (number 1 k) rest) (g refl) t)
flag_taken bytes n rest t false false f g x e = absurd cc

flag_again : (v : Bool) (rest : List ℕ) → flag_at (flag v ++ rest) ≡ Some (v, rest)
flag_again true rest = rw ((number_law 1).again 1 rest (omega arith)) refl
flag_again false rest = rw ((number_law 1).again 0 rest (omega arith)) refl

pub flag_law : IsCodec (λ b. Unit {0}) (λ b. flag b) flag_at
flag_law = record {
  takes = λ bytes x fits e.
      let n = bind_some (number_at 1 bytes) (λ n. flag_by n.0 n.1) x e in
      let t = (number_law 1).takes bytes n.0 fits n.1 in
      flag_taken bytes n.0.0 n.0.1 t.1 (n.0.0 == 0) (n.0.0 == 1) (eqb-true n.0.0 0) (eqb-true n.0.0 1) x n.2;
  again = λ v rest h. flag_again v rest;
}

-- ---- credits

-- a text that is a credit
abbrev IsCreditText : List ℕ → Type 0
IsCreditText t = (is_credit t ≡ true) × IsText 2 2 t

credit_case : (x y : Bool) (a b : ℕ) → (x ≡ true → a ≡ 71) → (y ≡ true → a ≡ 66) → (x || y) ≡ true → b ≡ 67
    → credit_text (cond x Good Bad) ≡ a ∷ b ∷ []
credit_case true y a b f g e h = let first = f refl in cc
credit_case false true a b f g e h = let first = g refl in cc
credit_case false false a b f g e h = absurd cc

credit_two : (a b : ℕ) → is_credit (a ∷ b ∷ []) ≡ true → credit_text (credit_of (a ∷ b ∷ [])) ≡ a ∷ b ∷ []
credit_two a b e =
    let p = both (a == 71 || a == 66) (b == 67) e in
    credit_case (a == 71) (a == 66) a b (eqb-true a 71) (eqb-true a 66) p.0 (eqb-true b 67 p.1)

credit_back : (t : List ℕ) → IsCreditText t → credit_text (credit_of t) ≡ t
credit_back [] h = absurd cc
credit_back (a ∷ []) h = absurd (omega (arith, h.1.at_least))
credit_back (a ∷ b ∷ []) h = credit_two a b h.0
credit_back (a ∷ b ∷ c ∷ t) h = absurd (omega (arith, h.1.at_most))

credit_fits : (c : Credit) → IsCreditText (credit_text c) × (credit_of (credit_text c) ≡ c)
credit_fits Good = ((refl, is_text-test 2 2 _ refl), refl)
credit_fits Bad = ((refl, is_text-test 2 2 _ refl), refl)

pub credit_law : IsCodec (λ c. Unit {0}) (λ c. credit c) credit_at
unfolding credit_at
credit_law =
    seen_law credit_of credit_text (λ c. Unit {0}) (λ c h. credit_fits c) (λ t h. (tt, credit_back t h))
    (kept_law (IsText 2 2) IsCreditText (λ t. text t) (text_at 2 2) is_credit (λ t e h. (e, h)) (λ t h. h)
    (text_law 2 2 (omega arith)))

-- ---- ten texts

-- n elements from index i on
unfoldable pub cells : {A : Type 0} → A → ℕ → ℕ → List A → List A
cells d i zero xs = []
cells d i (suc n) xs = get_or xs i d ∷ cells d (suc i) n xs

cells-cons : {A : Type 0} (d : A) (i n : ℕ) (x : A) (xs : List A) → cells d (suc i) n (x ∷ xs) ≡ cells d i n xs
unfolding cells
cells-cons d i zero x xs = refl
cells-cons {A = A} d i (suc n) x xs = ap (λ (r : List A). get_or xs i d ∷ r) (cells-cons d (suc i) n x xs)

pub cells-all : {A : Type 0} (d : A) (n : ℕ) (xs : List A) → length xs ≡ n → cells d 0 n xs ≡ xs
unfolding cells
cells-all d zero [] e = refl
cells-all d zero (x ∷ xs) e = absurd (omega (arith, e))
cells-all d (suc n) [] e = absurd (omega (arith, e))
cells-all {A = A} d (suc n) (x ∷ xs) e =
    ap (λ (r : List A). x ∷ r) (cells-cons d 0 n x xs ∙ cells-all d n xs (omega (arith, e)))

-- ten texts of 24 bytes
abbrev pub AreTen : List (List ℕ) → Type 0
AreTen ds = (length ds ≡ 10) × All (IsText 24 24) ds

-- each of ten elements
pub all_ten : {A : Type 0} (P : A → Type 0) (a b c d e f g h i j : A) → P a → P b → P c → P d → P e → P f → P g → P h
    → P i → P j
    → All P (a ∷ b ∷ c ∷ d ∷ e ∷ f ∷ g ∷ h ∷ i ∷ j ∷ [])
all_ten P a b c d e f g h i j pa pb pc pd pe pf pg ph pi pj =
    All-cons P a (b ∷ c ∷ d ∷ e ∷ f ∷ g ∷ h ∷ i ∷ j ∷ []) pa
    (All-cons P b (c ∷ d ∷ e ∷ f ∷ g ∷ h ∷ i ∷ j ∷ []) pb (All-cons P c (d ∷ e ∷ f ∷ g ∷ h ∷ i ∷ j ∷ []) pc
    (All-cons P d (e ∷ f ∷ g ∷ h ∷ i ∷ j ∷ []) pd (All-cons P e (f ∷ g ∷ h ∷ i ∷ j ∷ []) pe
    (All-cons P f (g ∷ h ∷ i ∷ j ∷ []) pf (All-cons P g (h ∷ i ∷ j ∷ []) pg
    (All-cons P h (i ∷ j ∷ []) ph (All-cons P i (j ∷ []) pi (All-cons P j [] pj (All-nil P))))))))))

pub ten_texts_law : IsCodec AreTen ten_texts ten_texts_at
unfolding ten_texts ten_texts_at cells
ten_texts_law =
    seen_law
    (λ p. p.0 ∷ p.1.0 ∷ p.1.1.0 ∷ p.1.1.1.0 ∷ p.1.1.1.1.0 ∷ p.1.1.1.1.1.0 ∷ p.1.1.1.1.1.1.0 ∷ p.1.1.1.1.1.1.1.0
    ∷ p.1.1.1.1.1.1.1.1.0 ∷ p.1.1.1.1.1.1.1.1.1 ∷ [])
    (λ ds. (
      get_or ds 0 [],
      (
        get_or ds 1 [],
        (
          get_or ds 2 [],
          (
            get_or ds 3 [],
            (
              get_or ds 4 [],
              (get_or ds 5 [], (get_or ds 6 [], (get_or ds 7 [], (get_or ds 8 [], get_or ds 9 [])))),
            ),
          ),
        ),
      ),
    ))
    AreTen
    (λ ds h. (
      (
        h.1 0 [] (omega (arith, h.0)),
        (
          h.1 1 [] (omega (arith, h.0)),
          (
            h.1 2 [] (omega (arith, h.0)),
            (
              h.1 3 [] (omega (arith, h.0)),
              (
                h.1 4 [] (omega (arith, h.0)),
                (
                  h.1 5 [] (omega (arith, h.0)),
                  (
                    h.1 6 [] (omega (arith, h.0)),
                    (h.1 7 [] (omega (arith, h.0)), (h.1 8 [] (omega (arith, h.0)), h.1 9 [] (omega (arith, h.0)))),
                  ),
                ),
              ),
            ),
          ),
        ),
      ),
      cells-all [] 10 ds h.0,
    ))
    (λ p h. (
      (
        refl,
        all_ten (IsText 24 24) p.0 p.1.0 p.1.1.0 p.1.1.1.0 p.1.1.1.1.0 p.1.1.1.1.1.0 p.1.1.1.1.1.1.0
            p.1.1.1.1.1.1.1.0 p.1.1.1.1.1.1.1.1.0 p.1.1.1.1.1.1.1.1.1 h.0 h.1.0 h.1.1.0 h.1.1.1.0 h.1.1.1.1.0
            h.1.1.1.1.1.0
            h.1.1.1.1.1.1.0 h.1.1.1.1.1.1.1.0 h.1.1.1.1.1.1.1.1.0 h.1.1.1.1.1.1.1.1.1,
      ),
      refl,
    ))
    (pair_law (text_law 24 24 (omega arith))
    (pair_law (text_law 24 24 (omega arith))
    (pair_law (text_law 24 24 (omega arith))
    (pair_law (text_law 24 24 (omega arith))
    (pair_law (text_law 24 24 (omega arith))
    (pair_law (text_law 24 24 (omega arith))
    (pair_law (text_law 24 24 (omega arith))
    (pair_law (text_law 24 24 (omega arith))
    (pair_law (text_law 24 24 (omega arith)) (text_law 24 24 (omega arith)))))))))))
