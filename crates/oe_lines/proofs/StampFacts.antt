-- A stamp's text is read, and no other.
use Rattle.std.proofs.Common.{◌≡◌, refl, sym, ◌∙◌, ap, ℕ, ◌+◌, ◌-◌, ◌*◌, ◌/◌, ◌%◌, ◌<◌, ◌≤◌, List, ◌∷◌, ◌++◌, length}
use Rattle.std.proofs.Common.{take, drop, codes, IfSome, ◌⊎◌, inl, inr, Bool, true, false, ◌&&◌, cond, Option, Some}
use Rattle.std.proofs.Common.{None, nat_lt, arith, lt-ltb, ltb-true, length-append}
use Rattle.std.specs.Str.{bytes_eq}
use Rattle.std.proofs.lemmas.Slice.Eq.{bytes_eq-Decides}
use Rattle.oe_values.specs.Front.{after_of}
use Rattle.oe_values.specs.Stamp.{SaysStamp}
use Rattle.oe_values.proofs.FrontFacts.{bind_some, some_same, chosen, after_found}
use Rattle.oe_values.proofs.StampFacts.{clock_small, year_small, month_small, day_small, says_alone}
use Rattle.oe_texts.specs.Stamp.{stamp_text}
use Rattle.oe_texts.proofs.StampFacts.{stamp_text_says}
use Rattle.std.proofs.lemmas.List.{take-append-drop}
use Rattle.std.proofs.lemmas.Bool.Decides.{nat_tests}
use Rattle.oe_lines.specs.Words.{stamp_seconds, stamp_of, stamp_before}

pair : (n : ℕ) → n < 100 → (48 + n / 10 - 48) * 10 + (48 + n % 10 - 48) ≡ n
pair n h = omega arith

counted_says : (s : List ℕ) (n : ℕ) → SaysStamp s n → stamp_seconds s ≡ n
unfolding stamp_seconds
counted_says s n r =
    let clock = clock_small r.hour r.minute r.second r.counted.is_time in
    let years = year_small r.year r.month r.day r.counted.is_date in
    let months = month_small r.year r.month r.day r.counted.is_date in
    let days = day_small r.year r.month r.day r.counted.is_date in
    let year : (48 + r.year / 100 / 10 - 48) * 10 + (48 + r.year / 100 % 10 - 48) ≡ r.year / 100 =
    pair (r.year / 100) (omega arith) in
    let of_century = pair (r.year % 100) (omega arith) in
    let whole : r.year / 100 * 100 + r.year % 100 ≡ r.year = omega arith in
    rw (
      r.spelled,
      year,
      of_century,
      whole,
      pair r.month months,
      pair r.day days,
      pair r.hour clock.0,
      pair r.minute
          clock.1,
      pair r.second clock.2,
      ← r.counted.count,
    )

picked : (p q : Bool) (m n : ℕ) → cond (p && q) (Some m) None ≡ Some n → (p ≡ true) × (q ≡ true) × (m ≡ n)
picked true true m n e = (refl, refl, cc)
picked true false m n e = cc
picked false q m n e = cc

pub stamp_of-says : (s : List ℕ) (n : ℕ) → SaysStamp s n → stamp_of s ≡ Some n
unfolding stamp_of
stamp_of-says s n r =
    let one : stamp_text n ≡ s = says_alone (stamp_text n) s n (stamp_text_says n r.counted.before_2101) r in
    rw (counted_says s n r, lt-ltb n 6_342_969_600 r.counted.before_2101, (bytes_eq-Decides (stamp_text n) s).1 one)
    refl

pub stamp_found : (s : List ℕ) (n : ℕ) → stamp_of s ≡ Some n → (s ≡ stamp_text n) × (n < 6_342_969_600)
unfolding stamp_of
stamp_found s n e =
    let p = picked (nat_lt (stamp_seconds s) 6_342_969_600) (bytes_eq (stamp_text (stamp_seconds s)) s)
    (stamp_seconds s) n e in (
      sym ((bytes_eq-Decides (stamp_text (stamp_seconds s)) s).0 p.1) ∙ ap stamp_text p.2,
      ltb-true n 6_342_969_600
          (rw (← p.2) p.0),
    )

pub stamp_only : (n : ℕ) → n < 6_342_969_600 → stamp_of (stamp_text n) ≡ Some n
stamp_only n h = stamp_of-says (stamp_text n) n (stamp_text_says n h)

none_is : (o : Option ℕ) → ((n : ℕ) → o ≡ Some n → ⊥) → o ≡ None
none_is None h = refl
none_is (Some n) h = absurd (h n refl)

pub stamp_of-none : (s : List ℕ) → ((n : ℕ) → SaysStamp s n → ⊥) → stamp_of s ≡ None
stamp_of-none s h =
    none_is (stamp_of s)
    (λ n e. let f = stamp_found s n e in h n (rw f.0 (stamp_text_says n f.1)))

-- what a reading gives that finds each stamp and nothing else
pub stamp_of-read : (s : List ℕ) (o : Option ℕ) → IfSome o (SaysStamp s) → ((n : ℕ) → SaysStamp s n → o ≡ Some n)
    → o ≡ stamp_of s
stamp_of-read s None some reads = sym (stamp_of-none s (λ n r. cc (reads n r)))
stamp_of-read s (Some n) some reads = sym (stamp_of-says s n some)

-- before a space

pub stamp_before_found : (s : List ℕ) (n : ℕ) (r : List ℕ) → stamp_before s ≡ Some (n, r)
    → (s ≡ stamp_text n ++ 32 ∷ r) × (n < 6_342_969_600)
unfolding stamp_before
stamp_before_found s n r e = elim (chosen (nat_lt (length s) 19) None _ (Some (n, r)) e) [
  | inl h ↦ cc
  | inr h ↦
      let t = bind_some (stamp_of (take 19 s)) _ (n, r) h.1 in
      let a = bind_some (after_of (codes " ") (drop 19 s)) _ (n, r) t.2 in
      let f = stamp_found (take 19 s) t.0 t.1 in
      let pair = some_same (t.0, a.0) (n, r) a.2 in
      let same : t.0 ≡ n = ap (λ (x : ℕ × List ℕ). x.0) pair in (
        sym (take-append-drop 19 s) ∙ ap (λ z. z ++ drop 19 s) f.0 ∙ ap (λ z. stamp_text t.0 ++ z)
            (after_found (codes " ") (drop 19 s) a.0 a.1)
            ∙ ap (λ (x : ℕ × List ℕ). stamp_text x.0 ++ 32 ∷ x.1) pair,
        omega (arith, same, f.1),
      )
]

-- a stamp's text has 19 bytes
abbrev IsOf19 : List ℕ → Type 0
IsOf19 t = (length t ≡ 19) × ((r : List ℕ) → (take 19 (t ++ r) ≡ t) × (drop 19 (t ++ r) ≡ r))

says_19 : (s : List ℕ) (n : ℕ) → SaysStamp s n → IsOf19 s
says_19 s n h = rw h.spelled (refl, λ r. (refl, refl))

long : (n : ℕ) → 19 ≤ n → nat_lt n 19 ≡ false
long n h = grind (arith, nat_tests)

pub stamp_before_only : (n : ℕ) (r : List ℕ) → n < 6_342_969_600 → stamp_before (stamp_text n ++ 32 ∷ r) ≡ Some (n, r)
unfolding stamp_before
stamp_before_only n r h =
    let f = says_19 (stamp_text n) n (stamp_text_says n h) in
    let whole = f.1 (32 ∷ r) in
    rw (
      long (length (stamp_text n ++ 32 ∷ r)) (omega (arith, f.0, length-append (stamp_text n) (32 ∷ r))),
      whole.0,
      whole.1,
      stamp_only n h,
    ) refl

-- nor is a stamp's text behind a word
pub stamp_of-longer : (w : List ℕ) (n : ℕ) → n < 6_342_969_600 → stamp_of (w ++ 32 ∷ stamp_text n) ≡ None
stamp_of-longer w n h =
    let f = says_19 (stamp_text n) n (stamp_text_says n h) in
    stamp_of-none (w ++ 32 ∷ stamp_text n)
    (λ m r. let g = says_19 _ m r in let z : ⊥ = omega (arith, f.0, g.0, length-append w (32 ∷ stamp_text n)) in z)

-- a text of another length is none
pub stamp_of-other_length : (s : List ℕ) → (length s ≡ 19 → ⊥) → stamp_of s ≡ None
stamp_of-other_length s h = stamp_of-none s (λ n r. h (says_19 s n r).0)
