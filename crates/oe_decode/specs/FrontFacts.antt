-- What is read of bytes is an image that stands there, and an image that stands there is read: of a number, and of what
-- is made of such parts.
use Rattle.std.proofs.Common.{◌≡◌, ℕ, ◌+◌, ◌^◌, ◌<◌, ◌≤◌, Bool, true, false, cond, ltb, List, ◌++◌, ◌&&◌, length, drop}
use Rattle.std.proofs.Common.{Option, Some, None, refl, sym, ap, subst, ◌∙◌, arith, append_assoc}
use Rattle.std.specs.Int.{IsInRange}
use Rattle.std.proofs.lemmas.Bool.{ltb-false, le-ltb}
use Rattle.std.proofs.lemmas.Bool.Decides.{nat_tests}
use Rattle.std.proofs.lemmas.List.{drop_at, take-append-drop, length-append, get_or-drop}
use Rattle.byteorder.specs.Endian.{big_bytes, big_number}
use Rattle.byteorder.specs.Numbers.{big_from-lt, big_number-reads_back, length-bytes_high_first}
use Rattle.oe_extent.specs.Images.{number, number_at}
use Rattle.oe_decode.specs.Fronts.{IsBytes, IsExact, ◌>>=◌, front_where, front_as, pair_at, is_from, ranged_at}
use Rattle.oe_decode.specs.Codec.{Takes, IsCodec, Shows}
use Rattle.oe_decode.specs.NumberFacts.{number_back}

pub exact : {X : Type 0} {Fits : X → Type 0} {image : X → List ℕ} {at : List ℕ → Option (X × List ℕ)}
    → IsCodec Fits image at → IsExact Fits image at
exact {at = at} law bytes fits = record {
  found = λ x rest e.
      let t = law.takes bytes (x, rest) fits e in
      (t.0, t.1.parts);
  finds = λ x rest f e. ap at e ∙ law.again x rest f;
}

-- ---- the value of a step that found one

pub bind_some : {A B : Type 0} (r : Option A) (f : A → Option B) (y : B) → (r >>= f) ≡ Some y
    → (x : A) × (r ≡ Some x) × (f x ≡ Some y)
bind_some None f y e = absurd cc
bind_some (Some x) f y e = (x, refl, e)

abbrev some : {A : Type 0} → A → Option A
some x = Some x

pub some_is : {A : Type 0} (x y : A) → some x ≡ some y → x ≡ y
some_is x y e = cc

pub guard_some : {A : Type 0} (b : Bool) (x y : A) → cond b None (Some x) ≡ Some y → (b ≡ false) × (x ≡ y)
guard_some true x y e = absurd cc
guard_some false x y e = (refl, cc)

choice_some : {A : Type 0} (b : Bool) (x y : A) → cond b (Some x) None ≡ Some y → (b ≡ true) × (x ≡ y)
choice_some true x y e = (refl, cc)
choice_some false x y e = absurd cc

pub kept_some : {X : Type 0} (test : X → Bool) (r : Option (X × List ℕ)) (y : X × List ℕ) → front_where test r ≡ Some y
    → (r ≡ Some y) × (test y.0 ≡ true)
kept_some test None y e = absurd cc
kept_some {X = X} test (Some x) y e =
    let g = choice_some (test x.0) x y e in
    (ap (λ (p : X × List ℕ). Some p) g.1, subst (λ (p : X × List ℕ). test p.0 ≡ true) g.1 g.0)

pub seen_some : {X Y : Type 0} (f : X → Y) (r : Option (X × List ℕ)) (y : Y × List ℕ) → front_as f r ≡ Some y
    → (x : X × List ℕ) × (r ≡ Some x) × (f x.0 ≡ y.0) × (x.1 ≡ y.1)
seen_some f None y e = absurd cc
seen_some {Y = Y} f (Some x) y e =
    let g = some_is (f x.0, x.1) y e in
    (x, refl, ap (λ (p : Y × List ℕ). p.0) g, ap (λ (p : Y × List ℕ). p.1) g)

pub Takes-then : (a x b y c : List ℕ) → Takes a x b → Takes b y c → Takes a (x ++ y) c
Takes-then a x b y c p q = record {
  parts = p.parts ∙ ap (λ (t : List ℕ). x ++ t) q.parts ∙ sym (append_assoc x y c);
  rest_fits = q.rest_fits;
}

-- ---- numbers

pub IsBytes-drop : (n : ℕ) (bytes : List ℕ) → IsBytes bytes → IsBytes (drop n bytes)
IsBytes-drop n bytes h i = rw get_or-drop (h (n + i))

number_takes : (width : ℕ) (bytes : List ℕ) (x : ℕ × List ℕ) → IsBytes bytes → number_at width bytes ≡ Some x
    → (x.0 < 256 ^ width) × Takes bytes (number width x.0) x.1
number_takes width bytes x fits e =
    let g = guard_some (ltb (length bytes) width) (big_number width bytes, drop width bytes) x e in
    let long : width ≤ length bytes = ltb-false _ _ g.0 in
    let front = number_back width bytes long fits in
    let whole : (big_number width bytes < 256 ^ width) × Takes bytes (big_bytes width (big_number width bytes))
    (drop width bytes) = (
      big_from-lt 0 width bytes fits,
      record {
        parts = rw front (sym (take-append-drop width bytes));
        rest_fits = IsBytes-drop width bytes fits;
      },
    ) in
    subst (λ (p : ℕ × List ℕ). (p.0 < 256 ^ width) × Takes bytes (big_bytes width p.0) p.1) g.1 whole

number_again : (width n : ℕ) (rest : List ℕ) → n < 256 ^ width
    → number_at width (number width n ++ rest) ≡ Some (n, rest)
number_again width n rest lt =
    let size = length-bytes_high_first width n in
    let long : ltb (length (big_bytes width n ++ rest)) width ≡ false =
    le-ltb _ _ (omega (arith, length-append (big_bytes width n) rest)) in
    rw (long, drop_at (big_bytes width n) rest width size, big_number-reads_back width n rest lt) refl

pub number_law : (width : ℕ) → IsCodec (λ n. n < 256 ^ width) (λ n. number width n) (number_at width)
number_law width = record {
  takes = λ bytes x fits e. number_takes width bytes x fits e;
  again = λ n rest lt. number_again width n rest lt;
}

-- ---- the values that pass a test

pub kept_law : {X : Type 0} (Wide Fits : X → Type 0) (image : X → List ℕ) (at : List ℕ → Option (X × List ℕ))
    (test : X → Bool)
    → ((x : X) → test x ≡ true → Wide x → Fits x) → ((x : X) → Fits x → (test x ≡ true) × Wide x)
    → IsCodec Wide image at
    → IsCodec Fits image (λ bytes. front_where test (at bytes))
kept_law Wide Fits image at test into out_of law = record {
  takes = λ bytes x fits e.
      let g = kept_some test (at bytes) x e in
      let t = law.takes bytes x fits g.0 in
      (into x.0 g.1 t.0, t.1);
  again = λ v rest fits.
      let f = out_of v fits in
      let r = law.again v rest f.1 in
      rw (r, f.0) refl;
}

pub both : (a b : Bool) → (a && b) ≡ true → (a ≡ true) × (b ≡ true)
both true b e = (refl, e)
both false b e = absurd cc

pub in_range : (low high n : ℕ) → is_from low high n ≡ true → IsInRange low high n
in_range low high n e = grind (arith, nat_tests, both)

pub is_from-true : (low high n : ℕ) → IsInRange low high n → is_from low high n ≡ true
is_from-true low high n h = grind (arith, nat_tests)

pub ranged_law : (width low high : ℕ) → high < 256 ^ width
    → IsCodec (λ n. IsInRange low high n) (λ n. number width n) (ranged_at width low high)
ranged_law width low high fits =
    kept_law (λ n. n < 256 ^ width) (λ n. IsInRange low high n) (λ n. number width n) (number_at width)
    (is_from low high)
    (λ n e lt. in_range low high n e) (λ n h. (is_from-true low high n h, omega arith)) (number_law width)

-- ---- the values seen as others, one for one where they fit

pub seen_law : {X Y : Type 0} {Fits : X → Type 0} {image : X → List ℕ} {at : List ℕ → Option (X × List ℕ)} (f : X → Y)
    (g : Y → X) (Shown : Y → Type 0)
    → ((y : Y) → Shown y → Fits (g y) × (f (g y) ≡ y)) → ((x : X) → Fits x → Shown (f x) × (g (f x) ≡ x))
    → IsCodec Fits image at → IsCodec Shown (λ y. image (g y)) (λ bytes. front_as f (at bytes))
seen_law {X = X} {Y = Y} {Fits = Fits} {image = image} {at = at} f g Shown there back law = record {
  takes = λ bytes y fits e.
      let s = seen_some f (at bytes) y e in
      let t = law.takes bytes s.0 fits s.1 in
      let b = back s.0.0 t.0 in
      let same : s.0.0 ≡ g y.0 = sym b.1 ∙ ap g s.2 in (
        subst Shown s.2 b.0,
        subst (λ (r : List ℕ). Takes bytes (image (g y.0)) r) s.3
            (subst (λ (x : X). Takes bytes (image x) s.0.1) same t.1),
      );
  again = λ v rest fits.
      let t = there v fits in
      let r = law.again (g v) rest t.0 in
      rw r (ap (λ (y : Y). Some (y, rest)) t.1);
}

-- of a record, its columns one after another
pub record_law : {X Y : Type 0} {Fits : X → Type 0} {image : X → List ℕ} {at : List ℕ → Option (X × List ℕ)} (f : X → Y)
    (g : Y → X) (Shown : Y → Type 0)
    → ((y : Y) → f (g y) ≡ y) → ((x : X) → g (f x) ≡ x) → ((y : Y) → Shown y → Fits (g y))
    → ((x : X) → Fits x → Shown (f x))
    → IsCodec Fits image at → IsCodec Shown (λ y. image (g y)) (λ bytes. front_as f (at bytes))
record_law f g Shown there back apart together law = seen_law f g Shown (λ y h. (apart y h, there y))
    (λ x h. (together x h, back x)) law

-- ---- one after the other

pub pair_law : {A B : Type 0} {P : A → Type 0} {p : A → List ℕ} {p_at : List ℕ → Option (A × List ℕ)} {Q : B → Type 0}
    {q : B → List ℕ} {q_at : List ℕ → Option (B × List ℕ)}
    → IsCodec P p p_at → IsCodec Q q q_at → IsCodec (λ x. P x.0 × Q x.1) (λ x. p x.0 ++ q x.1) (pair_at p_at q_at)
pair_law {A = A} {B = B} {P = P} {p = p} {p_at = p_at} {Q = Q} {q = q} {q_at = q_at} first second = record {
  takes = λ bytes z fits e.
      let a = bind_some (p_at bytes) (λ x. q_at x.1 >>= λ y. Some ((x.0, y.0), y.1)) z e in
      let b = bind_some (q_at a.0.1) (λ y. Some ((a.0.0, y.0), y.1)) z a.2 in
      let s = first.takes bytes a.0 fits a.1 in
      let t = second.takes a.0.1 b.0 s.1.rest_fits b.1 in
      let same = some_is ((a.0.0, b.0.0), b.0.1) z b.2 in
      subst (λ (w : (A × B) × List ℕ). (P w.0.0 × Q w.0.1) × Takes bytes (p w.0.0 ++ q w.0.1) w.1) same
      ((s.0, t.0), Takes-then bytes (p a.0.0) a.0.1 (q b.0.0) b.0.1 s.1 t.1);
  again = λ v rest fits.
      let a = first.again v.0 (q v.1 ++ rest) fits.0 in
      let b = second.again v.1 rest fits.1 in
      rw (append_assoc (p v.0) (q v.1) rest, a, b) refl;
}

-- ---- the values seen as one kind among others

pub found_as : {X Y : Type 0} {Fits : X → Type 0} {image : X → List ℕ} {at : List ℕ → Option (X × List ℕ)} (f : X → Y)
    (Shown : Y → Type 0) (whole : Y → List ℕ)
    → ((x : X) → Fits x → Shown (f x)) → ((x : X) → whole (f x) ≡ image x) → IsCodec Fits image at
    → (bytes : List ℕ) → IsBytes bytes → (y : Y) (rest : List ℕ) → front_as f (at bytes) ≡ Some (y, rest)
    → Shown y × (bytes ≡ whole y ++ rest)
found_as {at = at} f Shown whole shown same law bytes fits y rest e =
    let s = seen_some f (at bytes) (y, rest) e in
    let t = law.takes bytes s.0 fits s.1 in
    let as_y : whole y ≡ whole (f s.0.0) = sym (ap whole s.2) in (
      subst Shown s.2 (shown s.0.0 t.0),
      t.1.parts ∙ ap (λ (l : List ℕ). l ++ s.0.1) (sym (same s.0.0) ∙ sym as_y)
          ∙ ap (λ (l : List ℕ). whole y ++ l) s.3,
    )

pub finds_as : {X Y : Type 0} {Fits : X → Type 0} {image : X → List ℕ} {at : List ℕ → Option (X × List ℕ)} (f : X → Y)
    → IsCodec Fits image at
    → (x : X) (bytes rest : List ℕ) → Fits x → bytes ≡ image x ++ rest → front_as f (at bytes) ≡ Some (f x, rest)
finds_as {at = at} f law x bytes rest fits e = ap (front_as f) (ap at e ∙ law.again x rest fits)

-- a row, by its columns
pub row_law : {X Y : Type 0} {Fits : X → Type 0} {image : X → List ℕ} {at : List ℕ → Option (X × List ℕ)}
    {Shown : Y → Type 0} {f : X → Y} {g : Y → X} → Shows Fits Shown f g
    → IsCodec Fits image at → IsCodec Shown (λ y. image (g y)) (λ bytes. front_as f (at bytes))
row_law {Shown = Shown} {f = f} {g = g} s law =
    seen_law f g Shown (λ y h. (s.apart y h, s.there y h)) (λ x h. (s.together x h, s.back x h)) law

-- the same images, written otherwise
pub image_law : {Y : Type 0} {Shown : Y → Type 0} {image whole : Y → List ℕ} {at : List ℕ → Option (Y × List ℕ)}
    → ((y : Y) → image y ≡ whole y) → IsCodec Shown image at → IsCodec Shown whole at
image_law {at = at} same law = record {
  takes = λ bytes y fits e.
      let t = law.takes bytes y fits e in
      (t.0, subst (λ (l : List ℕ). Takes bytes l y.1) (same y.0) t.1);
  again = λ v rest h. ap (λ (l : List ℕ). at (l ++ rest)) (sym (same v)) ∙ law.again v rest h;
}

-- four columns, and those behind them
pub grouped : (a b c d rest : List ℕ) → (a ++ (b ++ (c ++ d))) ++ rest ≡ a ++ (b ++ (c ++ (d ++ rest)))
grouped a b c d rest =
    append_assoc a (b ++ (c ++ d)) rest
    ∙ ap (λ (t : List ℕ). a ++ t)
    (append_assoc b (c ++ d) rest ∙ ap (λ (t : List ℕ). b ++ t) (append_assoc c d rest))
