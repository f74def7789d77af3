-- The parts of a word that names kinds.
use Rattle.std.proofs.Common.{◌≡◌, ◌≢◌, ℕ, ◌+◌, ◌<◌, ◌≤◌, ◌==◌, cond, List, [], ◌∷◌, ◌++◌, All}
use Rattle.std.proofs.Common.{length, take, drop, get_or, slice_index, Some, None, sym, ap, subst, ◌∙◌, refl, arith}
use Rattle.std.proofs.Common.{append_assoc, Bool, true, false, true≢false, inl, inr}
use Rattle.std.specs.Prelude.{IsTrue, ◌↔◌, ◌⊎◌}
use Rattle.std.proofs.lemmas.List.{drop_more, get_or-take, get_or_default, length-take-le, take-append-drop, append-nil}
use Rattle.std.proofs.lemmas.List.Elements.{All-head, All-tail}
use Rattle.std.proofs.lemmas.Bool.{eqb-true, eq-eqb, ne_eqb}
use Rattle.memchr.specs.Find.{IsFirstByte, Nowhere, Passes, is_byte}
use Rattle.oe_numbers.specs.declared.kinds.Kind.{Kind}
use Rattle.oe_numbers.specs.declared.kinds.Kind.TheVariants as kind
use Rattle.oe_numbers.specs.declared.kinds.Kinds.{Kinds}
use Rattle.oe_numbers.specs.Kinds.{kind_name, is_named, with_kind, none_named, parts_from, parts_of, IsPart, Names}

-- each part names a kind, beside those that were named before
abbrev pub NameAll : List (List ℕ) → Kinds → Kinds → Type 0
NameAll [] before k = k ≡ before
NameAll (p ∷ ps) before k = (x : Kind) × (p ≡ kind_name x) × NameAll ps (with_kind x before) k

abbrev HasNoComma : List ℕ → Type 0
HasNoComma bytes = All (λ b. b ≢ 44) bytes

no_comma : (p : List ℕ) → IsFirstByte (is_byte 44) p None → HasNoComma p
no_comma p none = λ k d h e. none k (omega arith) h (eq-eqb (get_or p k 0) 44 (get_or_default p k 0 d h ∙ e))

front_without : (p : List ℕ) (n : ℕ) → n ≤ length p → Nowhere (Passes (is_byte 44) p) 0 n → HasNoComma (take n p)
front_without p n fits none = λ k d h e.
    let len : length (take n p) ≡ n = length-take-le n p fits in
    let below : k < n = omega (arith, h, len) in
    let inside : k < length p = omega (arith, below, fits) in
    none k (omega arith) below
    (eq-eqb (get_or p k 0) 44 (get_or_default p k 0 d inside ∙ sym (get_or-take n p k d below) ∙ e))

whole : (p : List ℕ) (n : ℕ) → IsFirstByte (is_byte 44) p (Some n) → p ≡ take n p ++ 44 ∷ drop (n + 1) p
whole p n first =
    sym (take-append-drop n p) ∙ ap (λ z. take n p ++ z) (drop_more p n 0 first.0.high)
    ∙ ap (λ b. take n p ++ b ∷ drop (n + 1) p) (eqb-true (get_or p n 0) 44 first.1)

cut : (held front back : List ℕ) → HasNoComma front
    → parts_from held (front ++ 44 ∷ back) ≡ (held ++ front) ∷ parts_of back
cut held [] back h = ap (λ z. z ∷ parts_of back) (sym (append-nil held))
cut held (b ∷ front) back h =
    ap (λ t. cond t (held ∷ parts_of (front ++ 44 ∷ back)) (parts_from (held ++ b ∷ []) (front ++ 44 ∷ back)))
    (ne_eqb b 44 (All-head (λ b. b ≢ 44) b front h))
    ∙ (cut (held ++ b ∷ []) front back (All-tail (λ b. b ≢ 44) b front h)
    ∙ ap (λ z. z ∷ parts_of back) (append_assoc held (b ∷ []) front))

all : (held word : List ℕ) → HasNoComma word → parts_from held word ≡ (held ++ word) ∷ []
all held [] h = ap (λ z. z ∷ []) (sym (append-nil held))
all held (b ∷ word) h =
    ap (λ t. cond t (held ∷ parts_of word) (parts_from (held ++ b ∷ []) word))
    (ne_eqb b 44 (All-head (λ b. b ≢ 44) b word h))
    ∙ (all (held ++ b ∷ []) word (All-tail (λ b. b ≢ 44) b word h)
    ∙ ap (λ z. z ∷ []) (append_assoc held (b ∷ []) word))

-- the first part, and those behind its comma
pub next_part : (p : List ℕ) (n : ℕ) → IsFirstByte (is_byte 44) p (Some n)
    → parts_of p ≡ take n p ∷ parts_of (drop (n + 1) p)
next_part p n first =
    ap parts_of (whole p n first)
    ∙ cut [] (take n p) (drop (n + 1) p) (front_without p n (omega (arith, first.0.high)) first.0.before)

pub last_part : (p : List ℕ) → IsFirstByte (is_byte 44) p None → parts_of p ≡ p ∷ []
last_part p none = all [] p (no_comma p none)

-- A NAME NAMES ONE KIND

abbrev first_of : ℕ → Kind
first_of n =
    cond (n == 110) kind.NewOrder
    (cond (n == 112) kind.Payment (cond (n == 115) kind.Status (cond (n == 100) kind.Delivery kind.Level)))

told : (x : Kind) → x ≡ first_of (slice_index (kind_name x) 0)
told kind.NewOrder = refl
told kind.Payment = refl
told kind.Status = refl
told kind.Delivery = refl
told kind.Level = refl

one_kind : (x y : Kind) → kind_name x ≡ kind_name y → x ≡ y
one_kind x y e = told x ∙ ap (λ (p : List ℕ). first_of (slice_index p 0)) e ∙ sym (told y)

-- what parts name, the first of which names this kind
pub named : (p : List ℕ) (ps : List (List ℕ)) (x : Kind) (before k : Kinds) → p ≡ kind_name x
    → NameAll (p ∷ ps) before k → NameAll ps (with_kind x before) k
named p ps x before k e (y, f, r) =
    subst (λ (z : Kind). NameAll ps (with_kind z before) k) (one_kind y x (sym f ∙ e)) r

-- WHAT IS NAMED

by_kind : (P : Kind → Type 0) → P kind.NewOrder → P kind.Payment → P kind.Status → P kind.Delivery → P kind.Level
    → (x : Kind) → P x
by_kind P a b c d e kind.NewOrder = a
by_kind P a b c d e kind.Payment = b
by_kind P a b c d e kind.Status = c
by_kind P a b c d e kind.Delivery = d
by_kind P a b c d e kind.Level = e

own_named : (x : Kind) (b : Kinds) → is_named (with_kind x b) x ≡ true
own_named kind.NewOrder b = refl
own_named kind.Payment b = refl
own_named kind.Status b = refl
own_named kind.Delivery b = refl
own_named kind.Level b = refl

-- another kind is named as before
named_before : (x y : Kind) (b : Kinds) → (x ≡ y) ⊎ (is_named (with_kind x b) y ≡ is_named b y)
named_before kind.NewOrder y b =
    by_kind (λ y. (kind.NewOrder ≡ y) ⊎ (is_named (with_kind kind.NewOrder b) y ≡ is_named b y)) (inl refl) (inr refl)
    (inr refl) (inr refl) (inr refl) y
named_before kind.Payment y b =
    by_kind (λ y. (kind.Payment ≡ y) ⊎ (is_named (with_kind kind.Payment b) y ≡ is_named b y)) (inr refl) (inl refl)
    (inr refl) (inr refl) (inr refl) y
named_before kind.Status y b =
    by_kind (λ y. (kind.Status ≡ y) ⊎ (is_named (with_kind kind.Status b) y ≡ is_named b y)) (inr refl) (inr refl)
    (inl refl) (inr refl) (inr refl) y
named_before kind.Delivery y b =
    by_kind (λ y. (kind.Delivery ≡ y) ⊎ (is_named (with_kind kind.Delivery b) y ≡ is_named b y)) (inr refl) (inr refl)
    (inr refl) (inl refl) (inr refl) y
named_before kind.Level y b =
    by_kind (λ y. (kind.Level ≡ y) ⊎ (is_named (with_kind kind.Level b) y ≡ is_named b y)) (inr refl) (inr refl)
    (inr refl) (inr refl) (inl refl) y

-- a kind is named where it was, or is this one
marked_names : (x y : Kind) (b : Kinds) → IsTrue (is_named (with_kind x b) y) ↔ (IsTrue (is_named b y) ⊎ (x ≡ y))
marked_names x y b = go (named_before x y b)
  where
    go : (x ≡ y) ⊎ (is_named (with_kind x b) y ≡ is_named b y)
        → IsTrue (is_named (with_kind x b) y) ↔ (IsTrue (is_named b y) ⊎ (x ≡ y))
    go (inl same) = (
      (λ _. inr same),
      (λ _. subst (λ (z : Kind). IsTrue (is_named (with_kind x b) z)) same (own_named x b)),
    )
    go (inr same) = ((λ h. inl (subst IsTrue same h)), back)
      where
        back : IsTrue (is_named b y) ⊎ (x ≡ y) → IsTrue (is_named (with_kind x b) y)
        back (inl h) = subst IsTrue (sym same) h
        back (inr e) = subst (λ (z : Kind). IsTrue (is_named (with_kind x b) z)) e (own_named x b)

-- each part is a kind's name, and a kind is named where it was before, or where a part is its name
record Tells (ps : List (List ℕ)) (before k : Kinds) : Type 0 where
  parts : (p : List ℕ) → IsPart p ps → (x : Kind) × (p ≡ kind_name x)
  kinds : (y : Kind) → IsTrue (is_named k y) ↔ (IsTrue (is_named before y) ⊎ IsPart (kind_name y) ps)

tells : (ps : List (List ℕ)) (before k : Kinds) → NameAll ps before k → Tells ps before k
tells [] before k e = record {
  parts = λ p none. absurd none;
  kinds = λ y. (
    (λ h. inl (subst (λ (z : Kinds). IsTrue (is_named z y)) e h)),
    (λ h. elim h [
      | inl was ↦ subst (λ (z : Kinds). IsTrue (is_named z y)) (sym e) was
      | inr none ↦ absurd none
    ]),
  );
}
tells (p ∷ ps) before k (x, e, rest) = let t = tells ps (with_kind x before) k rest in record {
  parts = λ q h. elim h [
    | inl same ↦ (x, sym same ∙ e)
    | inr later ↦ t.parts q later
  ];
  kinds = λ y. (
    (λ h. elim ((t.kinds y).0 h) [
      | inl m ↦ elim ((marked_names x y before).0 m) [
        | inl was ↦ inl was
        | inr same ↦ inr (inl (e ∙ ap kind_name same))
      ]
      | inr later ↦ inr (inr later)
    ]),
    (λ h. (t.kinds y).1 (elim h [
      | inl was ↦ inl ((marked_names x y before).1 (inl was))
      | inr part ↦ elim part [
        | inl same ↦ inl ((marked_names x y before).1 (inr (one_kind x y (sym e ∙ same))))
        | inr later ↦ inr later
      ]
    ])),
  );
}

same_bool : (a b : Bool) → (IsTrue a → IsTrue b) → (IsTrue b → IsTrue a) → a ≡ b
same_bool true true h g = refl
same_bool false false h g = refl
same_bool true false h g = sym (h refl)
same_bool false true h g = g refl

same_kinds : (k j : Kinds) → ((y : Kind) → is_named k y ≡ is_named j y) → k ≡ j
same_kinds k j h = λ i. record {
  new_order = h kind.NewOrder i;
  payment = h kind.Payment i;
  status = h kind.Status i;
  delivery = h kind.Delivery i;
  level = h kind.Level i;
}

names_all : (ps : List (List ℕ)) (before k : Kinds) → Tells ps before k → NameAll ps before k
names_all [] before k t = same_kinds k before (λ y. same_bool _ _
    (λ h. elim ((t.kinds y).0 h) [
      | inl was ↦ was
      | inr none ↦ absurd none
    ])
    (λ h. (t.kinds y).1 (inl h)))
names_all (p ∷ ps) before k t =
    let (x, e) = t.parts p (inl refl) in (
      x,
      e,
      names_all ps (with_kind x before) k (record {
        parts = λ q later. t.parts q (inr later);
        kinds = λ y. (
          (λ h. elim ((t.kinds y).0 h) [
            | inl was ↦ inl ((marked_names x y before).1 (inl was))
            | inr part ↦ elim part [
              | inl same ↦ inl ((marked_names x y before).1 (inr (one_kind x y (sym e ∙ same))))
              | inr later ↦ inr later
            ]
          ]),
          (λ h. (t.kinds y).1 (elim h [
            | inl m ↦ elim ((marked_names x y before).0 m) [
              | inl was ↦ inl was
              | inr same ↦ inr (inl (e ∙ ap kind_name same))
            ]
            | inr later ↦ inr (inr later)
          ])),
        );
      }),
    )

not_before : (y : Kind) → IsTrue (is_named none_named y) → ⊥
not_before y h = by_kind (λ y. IsTrue (is_named none_named y) → ⊥) (λ h. true≢false (sym h)) (λ h. true≢false (sym h))
    (λ h. true≢false (sym h)) (λ h. true≢false (sym h)) (λ h. true≢false (sym h)) y h

-- the parts that are read one after another name what the word names
pub names_by : (word : List ℕ) (k : Kinds) → NameAll (parts_of word) none_named k → Names word k
names_by word k h = let t = tells (parts_of word) none_named k h in record {
  parts = t.parts;
  kinds = λ y. (
    (λ h. elim ((t.kinds y).0 h) [
      | inl was ↦ absurd (not_before y was)
      | inr part ↦ part
    ]),
    (λ part. (t.kinds y).1 (inr part)),
  );
}

pub by_names : (word : List ℕ) (k : Kinds) → Names word k → NameAll (parts_of word) none_named k
by_names word k n = names_all (parts_of word) none_named k (record {
  parts = n.parts;
  kinds = λ y. (
    (λ h. inr ((n.kinds y).0 h)),
    (λ h. (n.kinds y).1 (elim h [
      | inl was ↦ absurd (not_before y was)
      | inr part ↦ part
    ])),
  );
})

-- A WORD NAMES ONE SET OF KINDS

pub names_one : (word : List ℕ) (k j : Kinds) → Names word k → Names word j → k ≡ j
names_one word k j h g = same_kinds k j (λ y. same_bool _ _
    (λ m. (g.kinds y).1 ((h.kinds y).0 m)) (λ m. (h.kinds y).1 ((g.kinds y).0 m)))
