-- Where a byte parts bytes, and parts of texts between marks.
use Rattle.std.proofs.Common.{◌≡◌, ◌≢◌, ℕ, ◌+◌, ◌<◌, ◌≤◌, ◌==◌, cond, true, false, List, [], ◌∷◌, ◌++◌}
use Rattle.std.proofs.Common.{length, take, drop, get_or, Some, None, sym, ap, subst, ◌∙◌, refl, append_assoc, arith}
use Rattle.std.proofs.lemmas.List.{drop_more, get_or-take, get_or_default, length-take-le, take-append-drop, append-nil}
use Rattle.std.proofs.lemmas.List.Elements.{All-head, All-tail}
use Rattle.std.proofs.lemmas.Bool.{eqb-true, eq-eqb, ne_eqb}
use Rattle.memchr.specs.Find.{IsFirstByte, Nowhere, Passes, is_byte}
use Rattle.oe_reply_words.specs.Parts.{IsWithout, IsParted, parts_from, parts_of, parts_behind}

-- TEXTS

-- one text behind another
pub and_then : (start text more front all : List ℕ) → front ≡ start ++ text → all ≡ front ++ more
    → all ≡ start ++ (text ++ more)
and_then start text more front all e f = f ∙ ap (λ t. t ++ more) e ∙ append_assoc start text more

-- FOUND BY A SEARCH

pub without_byte : (m : ℕ) (p : List ℕ) → IsFirstByte (is_byte m) p None → IsWithout m p
without_byte m p none = λ k d h e. none k (omega arith) h (eq-eqb (get_or p k 0) m (get_or_default p k 0 d h ∙ e))

front_without : (m : ℕ) (p : List ℕ) (n : ℕ) → n ≤ length p → Nowhere (Passes (is_byte m) p) 0 n
    → IsWithout m (take n p)
front_without m p n fits none = λ k d h e.
    let len : length (take n p) ≡ n = length-take-le n p fits in
    let below : k < n = omega (arith, h, len) in
    let inside : k < length p = omega (arith, below, fits) in
    none k (omega arith) below
    (eq-eqb (get_or p k 0) m (get_or_default p k 0 d inside ∙ sym (get_or-take n p k d below) ∙ e))

pub parted_by : (m : ℕ) (p : List ℕ) (n : ℕ) → IsFirstByte (is_byte m) p (Some n)
    → IsParted m p (take n p) (drop (n + 1) p)
parted_by m p n first = record {
  whole =
      sym (take-append-drop n p) ∙ ap (λ z. take n p ++ z) (drop_more p n 0 first.0.high)
      ∙ ap (λ b. take n p ++ b ∷ drop (n + 1) p) (eqb-true (get_or p n 0) m first.1);
  first = front_without m p n (omega (arith, first.0.high)) first.0.before;
}

-- ONE WAY

head_same : (x y : ℕ) (xs ys : List ℕ) → x ∷ xs ≡ y ∷ ys → x ≡ y
head_same x y xs ys e = cc

tail_same : (x y : ℕ) (xs ys : List ℕ) → x ∷ xs ≡ y ∷ ys → xs ≡ ys
tail_same x y xs ys e = cc

pub once : (m : ℕ) (a a' c c' : List ℕ) → IsWithout m a → IsWithout m a' → a ++ m ∷ c ≡ a' ++ m ∷ c'
    → (a ≡ a') × (c ≡ c')
once m [] [] c c' h k e = (refl, tail_same m m c c' e)
once m [] (x ∷ a') c c' h k e = absurd (All-head (λ b. b ≢ m) x a' k (sym (head_same m x c (a' ++ m ∷ c') e)))
once m (x ∷ a) [] c c' h k e = absurd (All-head (λ b. b ≢ m) x a h (head_same x m (a ++ m ∷ c) c' e))
once m (x ∷ a) (y ∷ a') c c' h k e =
    let r = once m a a' c c' (All-tail (λ b. b ≢ m) x a h) (All-tail (λ b. b ≢ m) y a' k)
    (tail_same x y (a ++ m ∷ c) (a' ++ m ∷ c') e) in
    (ap (λ z. z ∷ a) (head_same x y (a ++ m ∷ c) (a' ++ m ∷ c') e) ∙ ap (λ z. y ∷ z) r.0, r.1)

pub parted_once : (m : ℕ) (p a a' c c' : List ℕ) → IsParted m p a c → IsParted m p a' c' → (a ≡ a') × (c ≡ c')
parted_once m p a a' c c' h k = once m a a' c c' h.first k.first (sym h.whole ∙ k.whole)

not_without : (m : ℕ) (a c : List ℕ) → IsWithout m (a ++ m ∷ c) → ⊥
not_without m [] c h = All-head (λ b. b ≢ m) m c h refl
not_without m (x ∷ a) c h = not_without m a c (All-tail (λ b. b ≢ m) x (a ++ m ∷ c) h)

pub parted_not_without : (m : ℕ) (p a c : List ℕ) → IsParted m p a c → IsWithout m p → ⊥
parted_not_without m p a c h k = not_without m a c (subst (IsWithout m) h.whole k)

-- PARTS

other : (b m : ℕ) → b ≢ m → (b == m) ≡ false
other b m ne = ne_eqb b m ne

here : (m : ℕ) → (m == m) ≡ true
here m = eq-eqb m m refl

parts_cut : (m : ℕ) (held part rest : List ℕ) → IsWithout m part
    → parts_from m held (part ++ m ∷ rest) ≡ (held ++ part) ∷ parts_of m rest
parts_cut m held [] rest h =
    ap (λ t. cond t (held ∷ parts_of m rest) (parts_from m (held ++ m ∷ []) rest)) (here m)
    ∙ ap (λ z. z ∷ parts_of m rest) (sym (append-nil held))
parts_cut m held (b ∷ part) rest h =
    ap (λ t. cond t (held ∷ parts_of m (part ++ m ∷ rest)) (parts_from m (held ++ b ∷ []) (part ++ m ∷ rest)))
    (other b m (All-head (λ b. b ≢ m) b part h))
    ∙ (parts_cut m (held ++ b ∷ []) part rest (All-tail (λ b. b ≢ m) b part h)
    ∙ ap (λ z. z ∷ parts_of m rest) (append_assoc held (b ∷ []) part))

parts_none : (m : ℕ) (held text : List ℕ) → IsWithout m text → parts_from m held text ≡ (held ++ text) ∷ []
parts_none m held [] h = ap (λ z. z ∷ []) (sym (append-nil held))
parts_none m held (b ∷ text) h =
    ap (λ t. cond t (held ∷ parts_of m text) (parts_from m (held ++ b ∷ []) text))
    (other b m (All-head (λ b. b ≢ m) b text h))
    ∙ (parts_none m (held ++ b ∷ []) text (All-tail (λ b. b ≢ m) b text h)
    ∙ ap (λ z. z ∷ []) (append_assoc held (b ∷ []) text))

-- the first part of a text, and what is behind it
pub parted : (m : ℕ) (text part rest : List ℕ) → IsParted m text part rest
    → parts_of m text ≡ part ∷ parts_behind m (Some rest)
parted m text part rest p = ap (parts_of m) p.whole ∙ parts_cut m [] part rest p.first

pub unparted : (m : ℕ) (text : List ℕ) → IsWithout m text → parts_of m text ≡ text ∷ parts_behind m None
unparted m text h = parts_none m [] text h

-- ONE PART
