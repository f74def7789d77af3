-- The order of the table: names that were more often in the way come first.
use Rattle.std.proofs.Common.{◌≡◌, ℕ, ◌<◌, ◌==◌, true, false, refl, sym, ◌∙◌, inl, inr, arith}
use Rattle.std.specs.Prelude.{◌⊎◌, nat_lt}
use Rattle.std.proofs.lemmas.Bool.{cases_order, cond-true, cond-false, eq-eqb, ne_eqb, lt-ltb, le-ltb, true≢false}
use Rattle.oe_rows.specs.declared.locks.Name.{Name}
use Rattle.oe_waits.specs.Names.{is_before, place}
use Rattle.oe_waits.proofs.OrderFacts as waits
use Rattle.oe_busy.specs.Firsts.{precedes}

-- names by how often they were in the way

module _ (f : Name → ℕ) where
  equal : (a b : Name) → f a ≡ f b → precedes f a b ≡ is_before (place a) (place b)
  equal a b e = cond-true (f a == f b) _ _ (eq-eqb (f a) (f b) e)

  apart : (a b : Name) → (f a ≡ f b → ⊥) → precedes f a b ≡ nat_lt (f b) (f a)
  apart a b n = cond-false (f a == f b) _ _ (ne_eqb (f a) (f b) n)

  below : (a b : Name) → f a < f b → precedes f a b ≡ false
  below a b l = apart a b (λ e. omega (arith, e, l)) ∙ le-ltb (f b) (f a) (omega (arith, l))

  not_above : (a b : Name) → precedes f a b ≡ false
      → (f a < f b) ⊎ ((f a ≡ f b) × (is_before (place a) (place b) ≡ false))
  not_above a b h = by (cases_order (f a) (f b))
    where
      by : (f a ≡ f b) ⊎ ((f a < f b) ⊎ (f b < f a))
          → (f a < f b) ⊎ ((f a ≡ f b) × (is_before (place a) (place b) ≡ false))
      by (inl e) = inr (e, sym (equal a b e) ∙ h)
      by (inr (inl l)) = inl l
      by (inr (inr g)) = absurd (true≢false (sym (lt-ltb (f b) (f a) g)
          ∙ (sym (apart a b (λ e. omega (arith, e, g))) ∙ h)))

  pub not_itself : (a : Name) → precedes f a a ≡ false
  not_itself a = equal a a refl ∙ waits.before_itself (place a)

  pub not_back : (a b : Name) → precedes f a b ≡ true → precedes f b a ≡ false
  not_back a b h = by (cases_order (f b) (f a))
    where
      by : (f b ≡ f a) ⊎ ((f b < f a) ⊎ (f a < f b)) → precedes f b a ≡ false
      by (inl e) = equal b a e ∙ waits.not_back (place a) (place b) (sym (equal a b (sym e)) ∙ h)
      by (inr (inl l)) = below b a l
      by (inr (inr g)) = absurd (true≢false (sym h ∙ below a b g))

  -- what is not before one that is not before a third is not before the third
  pub not_before : (a b c : Name) → precedes f a b ≡ false → precedes f b c ≡ false → precedes f a c ≡ false
  not_before a b c h k = by (not_above a b h) (not_above b c k)
    where
      by : (f a < f b) ⊎ ((f a ≡ f b) × (is_before (place a) (place b) ≡ false))
          → (f b < f c) ⊎ ((f b ≡ f c) × (is_before (place b) (place c) ≡ false)) → precedes f a c ≡ false
      by (inl l) (inl m) = below a c (omega (arith, l, m))
      by (inl l) (inr (e, y)) = below a c (omega (arith, l, e))
      by (inr (d, x)) (inl m) = below a c (omega (arith, d, m))
      by (inr (d, x)) (inr (e, y)) = equal a c (d ∙ e) ∙ waits.not_before (place a) (place b) (place c) x y
