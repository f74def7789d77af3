-- A terminal's transaction is what its own steps made of it.
use Rattle.std.proofs.Common.{◌≡◌, ◌≢◌, ℕ, ◌==◌, Bool, true, false, cond, Option, None, Some, is_some, refl, sym, ap}
use Rattle.std.proofs.Common.{◌∙◌, subst, arith}
use Rattle.std.proofs.lemmas.Bool.Decides.{nat_tests}
use Rattle.oe_theory.specs.Machine.{Machine}
use Rattle.oe_theory.specs.World.{World, Open, set}
use Rattle.oe_theory.specs.Next.{Next, Step}
use Rattle.oe_theory.specs.Next.{Answer}
use Rattle.oe_history.specs.Slots.{terminal_of, after}
use Rattle.oe_theory.specs.Next.{begins, goes_on, commits, saves, goes_back, rolls_back, reads, audits, purges, rewinds}
use Rattle.oe_theory.specs.Next.{stops, fails, is_busy, is_full, is_rejected, is_open, number_is_rejected}
use Rattle.oe_theory.specs.Next.{query_is_rejected, misses, not_open, too_old, future, not_quiet}
use Rattle.oe_theory.specs.Next.{lacks_memory_at_begin, lacks_memory}

module _ (M : Machine) where
  set_else : (t u : ℕ) (v : Option (Open M)) (f : ℕ → Option (Open M)) → u ≢ t → set t v f u ≡ f u
  set_else t u v f ne = let e : (u == t) ≡ false = grind (arith, nat_tests) in ap (λ (b : Bool). cond b v (f u)) e

  -- the steps of others leave it
  pub other : (w v : World M) (s : Step M) (a : Answer M) (t : ℕ) → terminal_of M s ≢ Some t → Next M w s a v
      → v.active t ≡ w.active t
  other w _ _ _ t ne (begins u q b) = set_else u t _ w.active (λ e. ne (ap Some (sym e)))
  other w _ _ _ t ne (goes_on u o c p at g x r) = set_else u t _ w.active (λ e. ne (ap Some (sym e)))
  other w _ _ _ t ne (commits u o y at g x) = set_else u t _ w.active (λ e. ne (ap Some (sym e)))
  other w _ _ _ t ne (saves u o at) = set_else u t _ w.active (λ e. ne (ap Some (sym e)))
  other w _ _ _ t ne (goes_back u o at) = set_else u t _ w.active (λ e. ne (ap Some (sym e)))
  other w _ _ _ t ne (rolls_back u o at) = set_else u t _ w.active (λ e. ne (ap Some (sym e)))
  other w _ _ _ t ne (reads m q f k a b h) = refl
  other w _ _ _ t ne (audits m c a b) = refl
  other w _ _ _ t ne (purges m a b) = refl
  other w _ _ _ t ne (rewinds m q a b) = refl
  other w _ _ _ t ne (stops u o e at x) = set_else u t _ w.active (λ e. ne (ap Some (sym e)))
  other w _ _ _ t ne (fails u o e at g x) = set_else u t _ w.active (λ e. ne (ap Some (sym e)))
  other w _ _ _ t ne (is_busy u o n m by at x y) = refl
  other w _ _ _ t ne (is_full u o c p at g x y) = refl
  other w _ _ _ t ne (is_rejected u q e x) = refl
  other w _ _ _ t ne (is_open u q o x at) = refl
  other w _ _ _ t ne (number_is_rejected u q e x c r) = refl
  other w _ _ _ t ne (query_is_rejected m q e x) = refl
  other w _ _ _ t ne (misses m q e x a b h) = refl
  other w _ _ _ t ne (not_open s u x c) = refl
  other w _ _ _ t ne (too_old s m x p l) = refl
  other w _ _ _ t ne (future s m x p l) = refl
  other w _ _ _ t ne (not_quiet m n x) = refl
  other w _ _ _ t ne (lacks_memory_at_begin u q b) = refl
  other w _ _ _ t ne (lacks_memory u o at x) = refl

  set_here : (u t : ℕ) (v : Option (Open M)) (f : ℕ → Option (Open M)) → u ≡ t → set u v f t ≡ v
  set_here u t v f is = let e : (t == u) ≡ true = grind (arith, nat_tests) in ap (λ (b : Bool). cond b v (f t)) e

  same : (u t : ℕ) → Some u ≡ Some t → u ≡ t
  same u t e = cc e

  was : (w : World M) (u t : ℕ) (o : Open M) → w.active u ≡ Some o → Some u ≡ Some t → is_some (w.active t) ≡ true
  was w u t o at is = ap is_some (subst (λ (n : ℕ). w.active n ≡ Some o) (same u t is) at)

  -- its own steps make it, leave it or end it
  pub own : (w v : World M) (s : Step M) (a : Answer M) (t : ℕ) → terminal_of M s ≡ Some t → Next M w s a v
      → is_some (v.active t) ≡ after M (is_some (w.active t)) a
  own w _ _ _ t is (begins u q b) = ap is_some (set_here u t _ w.active (same u t is))
  own w _ _ _ t is (goes_on u o c p at g x r) = ap is_some (set_here u t _ w.active (same u t is))
      ∙ sym (was w u t o at is)
  own w _ _ _ t is (commits u o y at g x) = ap is_some (set_here u t _ w.active (same u t is))
  own w _ _ _ t is (saves u o at) = ap is_some (set_here u t _ w.active (same u t is)) ∙ sym (was w u t o at is)
  own w _ _ _ t is (goes_back u o at) = ap is_some (set_here u t _ w.active (same u t is)) ∙ sym (was w u t o at is)
  own w _ _ _ t is (rolls_back u o at) = ap is_some (set_here u t _ w.active (same u t is))
  own w _ _ _ t is (reads m q f k a b h) = refl
  own w _ _ _ t is (audits m c a b) = refl
  own w _ _ _ t is (purges m a b) = refl
  own w _ _ _ t is (rewinds m q a b) = refl
  own w _ _ _ t is (stops u o e at x) = ap is_some (set_here u t _ w.active (same u t is))
  own w _ _ _ t is (fails u o e at g x) = ap is_some (set_here u t _ w.active (same u t is))
  own w _ _ _ t is (is_busy u o n m by at x y) = refl
  own w _ _ _ t is (is_full u o c p at g x y) = refl
  own w _ _ _ t is (is_rejected u q e x) = refl
  own w _ _ _ t is (is_open u q o x at) = refl
  own w _ _ _ t is (number_is_rejected u q e x c r) = refl
  own w _ _ _ t is (query_is_rejected m q e x) = refl
  own w _ _ _ t is (misses m q e x a b h) = refl
  own w _ _ _ t is (not_open s u x c) = refl
  own w _ _ _ t is (too_old s m x p l) = refl
  own w _ _ _ t is (future s m x p l) = refl
  own w _ _ _ t is (not_quiet m n x) = refl
  own w _ _ _ t is (lacks_memory_at_begin u q b) = refl
  own w _ _ _ t is (lacks_memory u o at x) = refl

  -- a step of no terminal leaves all open ones open
  pub nobodys : (w v : World M) (s : Step M) (a : Answer M) (b : Bool) → terminal_of M s ≡ None → Next M w s a v
      → after M b a ≡ b
  nobodys w _ _ _ b is (begins t q d) = absurd (cc is)
  nobodys w _ _ _ b is (goes_on t o c p at g x r) = refl
  nobodys w _ _ _ b is (commits t o y at g x) = absurd (cc is)
  nobodys w _ _ _ b is (saves t o at) = refl
  nobodys w _ _ _ b is (goes_back t o at) = refl
  nobodys w _ _ _ b is (rolls_back t o at) = absurd (cc is)
  nobodys w _ _ _ b is (reads m q f k a d h) = refl
  nobodys w _ _ _ b is (audits m c a d) = refl
  nobodys w _ _ _ b is (purges m a d) = refl
  nobodys w _ _ _ b is (rewinds m q a d) = refl
  nobodys w _ _ _ b is (stops t o e at x) = absurd (cc is)
  nobodys w _ _ _ b is (fails t o e at g x) = absurd (cc is)
  nobodys w _ _ _ b is (is_busy t o n m u at x y) = refl
  nobodys w _ _ _ b is (is_full t o c p at g x y) = refl
  nobodys w _ _ _ b is (is_rejected t q e x) = refl
  nobodys w _ _ _ b is (is_open t q o x at) = refl
  nobodys w _ _ _ b is (number_is_rejected t q e x c r) = refl
  nobodys w _ _ _ b is (query_is_rejected m q e x) = refl
  nobodys w _ _ _ b is (misses m q e x a d h) = refl
  nobodys w _ _ _ b is (not_open s t x c) = refl
  nobodys w _ _ _ b is (too_old s m x p l) = refl
  nobodys w _ _ _ b is (future s m x p l) = refl
  nobodys w _ _ _ b is (not_quiet m n x) = refl
  nobodys w _ _ _ b is (lacks_memory_at_begin t q d) = refl
  nobodys w _ _ _ b is (lacks_memory t o at x) = refl
