-- A want of memory changes nothing, and stands in the place of an answer that it may stand for.
use Rattle.std.proofs.Common.{◌≡◌, ℕ, ◌<◌, ◌≤◌, None, Some, refl, sym, subst, inl, inr, arith}
use Rattle.std.specs.Prelude.{◌⊎◌}
use Rattle.std.proofs.lemmas.Bool.{cases_order}
use Rattle.oe_theory.specs.Machine.{Machine, Ask, Stop, Plain, Take, Act, Fail, Go, Ready}
use Rattle.oe_theory.specs.World.{Open, World, tx_of, tables}
use Rattle.oe_theory.specs.Next.{record_on, fill_of, extents_used, IsGranted, GivesWay, MayLackMemory, Step, Advance}
use Rattle.oe_theory.specs.Next.{Answer}
use Rattle.oe_theory.specs.Next.{No_memory, Next, begins, goes_on, stops, fails, is_full, lacks_memory_at_begin}
use Rattle.oe_theory.specs.Next.{lacks_memory}
use Rattle.oe_theory.specs.Theorems.{Stands_for, begins_else, goes_else, full_else, stops_else, Want_stands_for}

module _ (M : Machine) where
  open M use {Name, Change, Position, Reply, Refusal, ask, act, size_of, yields}

  either : (a b : ℕ) → (a ≤ b) ⊎ (b < a)
  either a b = go (cases_order a b)
    where
      go : (a ≡ b) ⊎ ((a < b) ⊎ (b < a)) → (a ≤ b) ⊎ (b < a)
      go (inl e) = inl (omega (arith, e))
      go (inr (inl l)) = inl (omega (arith, l))
      go (inr (inr l)) = inr l

  of_act : (w : World M) (t : ℕ) (o : Open M) → w.active t ≡ Some o
      → IsGranted M w t (ask (tx_of M t o) o.now.position (tables M w))
      → (d : Act Change Position Reply Refusal) → act (tx_of M t o) o.now.position (tables M w) ≡ d
      → GivesWay M (yields (tx_of M t o) o.now.position) d → Stands_for M w (Advance t)
  of_act w t o e g (Fail x) r h = stops_else t o x _ e h (fails t o x e g r)
  of_act w t o e g (Ready y) r h = absurd h
  of_act w t o e g (Go None p) r h = goes_else t _ (goes_on t o None p e g r tt)
  of_act w t o e g (Go (Some c) p) r h = room
      (either (size_of (record_on M w.layout c (tables M w))) (fill_of M o.lengths).1)
      (either w.extents (extents_used M w))
    where
      room : (size_of (record_on M w.layout c (tables M w)) ≤ (fill_of M o.lengths).1)
          ⊎ ((fill_of M o.lengths).1 < size_of (record_on M w.layout c (tables M w)))
          → (w.extents ≤ extents_used M w) ⊎ (extents_used M w < w.extents) → Stands_for M w (Advance t)
      room (inl fits) x = goes_else t _ (goes_on t o (Some c) p e g r (inl fits))
      room (inr long) (inr free) = goes_else t _ (goes_on t o (Some c) p e g r (inr free))
      room (inr long) (inl full) = full_else t (is_full t o c p e g r (long, full))

  of_ask : (w : World M) (t : ℕ) (o : Open M) → w.active t ≡ Some o → (a : Ask Name Refusal)
      → ask (tx_of M t o) o.now.position (tables M w) ≡ a
      → MayLackMemory M w t o a → Stands_for M w (Advance t)
  of_ask w t o e (Stop x) r h = stops_else t o x _ e h (stops t o x e r)
  of_ask w t o e Plain r h = of_act w t o e (subst (IsGranted M w t) (sym r) h.0) _ refl h.2
  of_ask w t o e (Take n m) r h = of_act w t o e (subst (IsGranted M w t) (sym r) h.0) _ refl h.2

  want : (w : World M) (i : Step M) (a : Answer M) (v : World M) → Next M w i a v → a ≡ No_memory
      → (v ≡ w) × Stands_for M w i
  want w _ _ _ (lacks_memory_at_begin t q b) e = (refl, begins_else t q _ (begins t q b))
  want w _ _ _ (lacks_memory t o l h) e = (refl, of_ask w t o l _ refl h)
  want w _ _ _ n e = cc

  pub want_stands_for : Want_stands_for M
  want_stands_for w v i n = want w i No_memory v n refl
