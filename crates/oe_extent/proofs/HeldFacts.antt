-- Extents that are taken, and given back.
use Rattle.std.proofs.Common.{◌≡◌, ◌≢◌, ℕ, suc, ◌+◌, ◌<◌, ◌≤◌, inl, inr, Bool, true, false, cond, List, [], ◌∷◌, length}
use Rattle.std.proofs.Common.{get_or, set, refl, sym, ◌∙◌, subst, arith}
use Rattle.std.specs.List.{AllByRecursion}
use Rattle.std.proofs.lemmas.Bool.{cases_eq, cases_lt}
use Rattle.std.proofs.lemmas.Bool.Decides.{nat_tests}
use Rattle.std.proofs.lemmas.List.{get_or_past, get_or_default, get_or-set_same, get_or-set_other, length-set}
use Rattle.std.proofs.lemmas.List.Sums.{sum_by-set}
use Rattle.oe_extent.specs.Free.{with_free}
use Rattle.oe_extent.specs.Kept.{times, AreHeld}

pub times-self : (e : ℕ) → times e (e ∷ []) ≡ 1
times-self e = grind (arith, nat_tests)

times-other : (x e : ℕ) → x ≢ e → times x (e ∷ []) ≡ 0
times-other x e h = grind (arith, nat_tests)

pub times-cons : (x e : ℕ) (es : List ℕ) → times x (e ∷ es) ≡ times x (e ∷ []) + times x es
times-cons x e es = omega arith

pub free_within : (free : List Bool) (e : ℕ) → get_or free e false ≡ true → e < length free
free_within free e h = elim (cases_lt e (length free)) [
  | inl lt ↦ lt
  | inr ge ↦ let past = get_or_past free e false ge in absurd cc
]

pub taken_within : (free : List Bool) (e : ℕ) → get_or free e true ≡ false → e < length free
taken_within free e h = elim (cases_lt e (length free)) [
  | inl lt ↦ lt
  | inr ge ↦ let past = get_or_past free e true ge in absurd cc
]

-- a free one is not used
pub free_unused : (free : List Bool) (u : ℕ → ℕ) (m e : ℕ) → AreHeld free u m → get_or free e false ≡ true → u e ≡ 0
free_unused free u m e h is_free = elim (cases_lt 0 (u e)) [
  | inl some ↦ let same = get_or_default free e false true (free_within free e is_free) in let no = h.taken e some in
      absurd (let both : true ≡ false = sym is_free ∙ same ∙ no in cc)
  | inr none ↦ omega arith
]

pub same_held : (free : List Bool) (u v : ℕ → ℕ) (m n : ℕ) → AreHeld free u m → ((x : ℕ) → v x ≡ u x) → n ≡ m
    → AreHeld free v n
same_held free u v m n h e q = record {
  once = λ x. omega (arith, h.once x, e x);
  taken = λ x some. h.taken x (omega (arith, some, e x));
  counted = omega (arith, h.counted, q);
}

-- a free one is taken
pub take_held : (free : List Bool) (u v : ℕ → ℕ) (m n e : ℕ) → AreHeld free u m → get_or free e false ≡ true → ((x : ℕ)
    → v x ≡ u x + times x (e ∷ [])) → n ≡ suc m → AreHeld (set free e false) v n
take_held free u v m n e h is_free change q =
    let within = free_within free e is_free in
    let unused = free_unused free u m e h is_free in
    record {
      once = λ x. elim (cases_eq x e) [
        | inl same ↦ subst (λ (y : ℕ). v y ≤ 1) (sym same) (omega (arith, change e, unused, times-self e))
        | inr other ↦ omega (arith, change x, times-other x e other, h.once x)
      ];
      taken = λ x some. elim (cases_eq x e) [
        | inl same ↦ subst (λ (y : ℕ). get_or (set free e false) y true ≡ false) (sym same)
            (get_or-set_same free e false true within)
        | inr other ↦ get_or-set_other free e x false true other ∙ h.taken x
            (omega (arith, some, change x, times-other x e other))
      ];
      counted =
          let count = sum_by-set (λ b. cond b 1 0) free e false false within in
          let was : ◌≡◌ {A = ℕ} (cond (get_or free e false) 1 0) 1 = rw is_free refl in
          omega (arith, count, was, h.counted, q, length-set free e false);
    }

-- one that was taken is free
pub give_held : (free : List Bool) (u v : ℕ → ℕ) (m n e : ℕ) → AreHeld free u m
    → ((x : ℕ) → u x ≡ v x + times x (e ∷ [])) → m ≡ suc n
    → AreHeld (set free e true) v n × (e < length free)
give_held free u v m n e h change q =
    let some : 0 < u e = omega (arith, change e, times-self e) in
    let not_free : get_or free e true ≡ false = h.taken e some in
    let within = taken_within free e not_free in
    let left : v e ≡ 0 = omega (arith, change e, times-self e, h.once e) in (
      record {
        once = λ x. omega (arith, change x, h.once x);
        taken = λ x more. elim (cases_eq x e) [
          | inl same ↦ absurd (let here : 0 < v e = subst (λ (y : ℕ). 0 < v y) same more in omega (arith, here, left))
          | inr other ↦ get_or-set_other free e x true true other ∙ h.taken x (omega (arith, more, change x))
        ];
        counted =
            let count = sum_by-set (λ b. cond b 1 0) free e true true within in
            let was : ◌≡◌ {A = ℕ} (cond (get_or free e true) 1 0) 0 = rw not_free refl in
            omega (arith, count, was, h.counted, q, length-set free e true);
      },
      within,
    )

-- several
pub give_all_held : (es : List ℕ) (free : List Bool) (u v : ℕ → ℕ) (m n size : ℕ) → AreHeld free u m
    → ((x : ℕ) → u x ≡ v x + times x es)
    → m ≡ n + length es → size ≡ length free
    → AreHeld (with_free es free) v n × AllByRecursion (λ e. e < size) es × (length (with_free es free) ≡ size)
give_all_held [] free u v m n size h change q s =
    (same_held free u v m n h (λ x. omega (arith, change x)) (omega (arith, q)), tt, sym s)
give_all_held (e ∷ es) free u v m n size h change q s =
    let one = give_held free u (λ x. v x + times x es) m (n + length es) e h
    (λ x. omega (arith, change x, times-cons x e es)) (omega (arith, q)) in
    let rest = give_all_held es (set free e true) (λ x. v x + times x es) v (n + length es) n size one.0 (λ x. refl)
    refl (omega (arith, s, length-set free e true)) in
    (rest.0, (omega (arith, one.1, s), rest.1), rest.2)
