-- What each step counts, how a transaction's last row ends it, and what holds all along a run.
use Rattle.std.proofs.Common.{◌≡◌, ℕ, suc, zero, ◌+◌, ◌<◌, ◌≤◌, Option, None, Some, [], ◌∷◌, refl, sym, ap, ◌∙◌, inl}
use Rattle.std.proofs.Common.{inr, arith}
use Rattle.std.specs.Prelude.{◌⊎◌, ◌≢◌}
use Rattle.std.proofs.lemmas.Bool.{cases_eq}
use Rattle.oe_theory.specs.Machine.{Machine}
use Rattle.oe_theory.specs.World.{set, Open, World, newest}
use Rattle.oe_theory.specs.Next.{Step, Answer, after_commit, count_open, Next, begins, goes_on}
use Rattle.oe_theory.specs.Next.{commits}
use Rattle.oe_theory.specs.Next.{saves, goes_back, rolls_back, purges, rewinds, stops, fails}
use Rattle.oe_theory.specs.Laws.{Sound, Laws}
use Rattle.oe_theory.specs.Theorems.{IsReached}
use Rattle.oe_theory.specs.StepTheorems.{Is_counted, Steps_are_counted, IsEnding, Endings_are_whole, Runs_pass}
use Rattle.oe_theory.proofs.Sets.{set_same, set_other}
use Rattle.oe_theory.proofs.Steps.{purged_latest}
use Rattle.oe_theory.proofs.Past.{rewound_newest, purged_horizon, purged_newest}
use Rattle.oe_theory.proofs.Theorems.{reached_sound, run_is_reached, commit_is_whole, abort_has_no_effect}
use Rattle.oe_theory.proofs.Theorems.{abort_is_its_own}

module _ (M : Machine) (L : Laws M) where
  open M use {terminal_limit}

  -- how many transactions a slot has
  abbrev one : Option (Open M) → ℕ
  one None = 0
  one (Some o) = 1

  count_next : (active : ℕ → Option (Open M)) (n : ℕ)
      → count_open M active (suc n) ≡ count_open M active n + one (active n)
  count_next active n = go (active n)
    where
      go : (v : Option (Open M))
          → (elim v as (λ _. ℕ) [ None ↦ count_open M active n | Some o ↦ suc (count_open M active n) ]) ≡ count_open M
          active n + one v
      go None = omega arith
      go (Some o) = omega arith

  count_above : (active : ℕ → Option (Open M)) (t n : ℕ) (v : Option (Open M)) → n ≤ t
      → count_open M (set t v active) n ≡ count_open M active n
  count_above active t zero v h = refl
  count_above active t (suc n) v h =
      count_next (set t v active) n
      ∙ (ap (λ z. count_open M (set t v active) n + one z) (set_other t v active n (λ e. omega (arith, e, h)))
      ∙ (ap (λ z. z + one (active n)) (count_above active t n v (omega (arith, h))) ∙ sym (count_next active n)))

  -- one slot's share in the count: what was there against what is there now
  count_set : (active : ℕ → Option (Open M)) (t n : ℕ) (v : Option (Open M)) → t < n
      → count_open M (set t v active) n + one (active t) ≡ count_open M active n + one v
  count_set active t zero v h = absurd (omega (arith, h))
  count_set active t (suc n) v h = go (cases_eq n t) (count_set active t n v)
    where
      go : (n ≡ t) ⊎ (n ≢ t)
          → (t < n → count_open M (set t v active) n + one (active t) ≡ count_open M active n + one v)
          → count_open M (set t v active) (suc n) + one (active t) ≡ count_open M active (suc n) + one v
      go (inl q) i =
          omega (
            arith,
            count_next (set t v active) n,
            count_next active n,
            ap one (set_same t v active n q),
            ap
                (λ (z : ℕ). one (active z)) q,
            count_above active t n v (omega (arith, q)),
          )
      go (inr ne) i = omega (
        arith,
        count_next (set t v active) n,
        count_next active n,
        ap one (set_other t v active n ne),
        i
            (omega (arith, h, ne)),
      )

  begun_one : (w : World M) (t : ℕ) (o : Open M) → t < terminal_limit → w.active t ≡ None
      → count_open M (set t (Some o) w.active) terminal_limit ≡ suc (count_open M w.active terminal_limit)
  begun_one w t o h e =
      let a : count_open M (set t (Some o) w.active) terminal_limit + one (w.active t) ≡ count_open M w.active
      terminal_limit + 1 = count_set w.active t terminal_limit (Some o) h in
      let b : one (w.active t) ≡ 0 = ap one e in
      omega (arith, a, b)

  as_many : (w : World M) (t : ℕ) (o p : Open M) → t < terminal_limit → w.active t ≡ Some o
      → count_open M (set t (Some p) w.active) terminal_limit ≡ count_open M w.active terminal_limit
  as_many w t o p h e =
      let a : count_open M (set t (Some p) w.active) terminal_limit + one (w.active t) ≡ count_open M w.active
      terminal_limit + 1 = count_set w.active t terminal_limit (Some p) h in
      let b : one (w.active t) ≡ 1 = ap one e in
      omega (arith, a, b)

  one_ended : (w : World M) (t : ℕ) (o : Open M) → t < terminal_limit → w.active t ≡ Some o
      → count_open M w.active terminal_limit ≡ suc (count_open M (set t None w.active) terminal_limit)
  one_ended w t o h e =
      let a : count_open M (set t None w.active) terminal_limit + one (w.active t) ≡ count_open M w.active
      terminal_limit + 0 = count_set w.active t terminal_limit None h in
      let b : one (w.active t) ≡ 1 = ap one e in
      omega (arith, a, b)

  counted : (w : World M) → Sound M w → (i : Step M) (a : Answer M) (v : World M) → Next M w i a v → Is_counted M w a v
  counted w s _ _ _ (begins t q b) =
      record { open_count = begun_one w t _ b.terminal.1 b.closed; newest = refl; horizon = refl; latest = refl }
  counted w s _ _ _ (goes_on t o c p e g r room) =
      record { open_count = as_many w t o _ (s.each t o e).terminal.1 e; newest = refl; horizon = refl; latest = refl }
  counted w s _ _ _ (commits t o y e g r) =
      let next : newest M (after_commit M w t o y) ≡ suc (newest M w) = omega arith in
      record {
        open_count = one_ended w t o (s.each t o e).terminal.1 e;
        newest = (next, sym next);
        horizon = refl;
        latest = tt;
      }
  counted w s _ _ _ (saves t o e) =
      record { open_count = as_many w t o _ (s.each t o e).terminal.1 e; newest = refl; horizon = refl; latest = refl }
  counted w s _ _ _ (goes_back t o e) =
      record { open_count = as_many w t o _ (s.each t o e).terminal.1 e; newest = refl; horizon = refl; latest = refl }
  counted w s _ _ _ (rolls_back t o e) =
      record { open_count = one_ended w t o (s.each t o e).terminal.1 e; newest = refl; horizon = refl; latest = refl }
  counted w s _ _ _ (purges m l h) =
      record {
        open_count = refl;
        newest = purged_newest M L w s m l h;
        horizon = (purged_horizon M L w s m l h, l);
        latest = purged_latest M L w m;
      }
  counted w s _ _ _ (rewinds m quiet l h) =
      record { open_count = refl; newest = (rewound_newest M L w m l h, h); horizon = refl; latest = refl }
  counted w s _ _ _ (stops t o x e r) =
      record { open_count = one_ended w t o (s.each t o e).terminal.1 e; newest = refl; horizon = refl; latest = refl }
  counted w s _ _ _ (fails t o x e g r) =
      record { open_count = one_ended w t o (s.each t o e).terminal.1 e; newest = refl; horizon = refl; latest = refl }
  counted w s _ _ _ n = record { open_count = refl; newest = refl; horizon = refl; latest = refl }

  pub steps_are_counted : Steps_are_counted M
  steps_are_counted w v i a r n = counted w (reached_sound M L w r) i a v n

  -- the row that ends its transaction
  ending : (w : World M) → IsReached M w → (i : Step M) (a : Answer M) (v : World M) → Next M w i a v
      → IsEnding M w a i v
  ending w r _ _ _ (commits t o y e g d) = commit_is_whole M L w _ t _ y r (commits t o y e g d)
  ending w r _ _ _ (stops t o x e d) =
      (abort_has_no_effect M L w _ t x r (stops t o x e d), abort_is_its_own M L w _ t x r (stops t o x e d))
  ending w r _ _ _ (fails t o x e g d) =
      (abort_has_no_effect M L w _ t x r (fails t o x e g d), abort_is_its_own M L w _ t x r (fails t o x e g d))
  ending w r _ _ _ n = tt

  pub endings_are_whole : Endings_are_whole M
  endings_are_whole w v i a r n = ending w r i a v n

  -- what holds of worlds and of steps holds all along a run
  module _ (P : World M → Type 0) (R : World M → Answer M → Step M → World M → Type 0)
      (of_world : (w : World M) → IsReached M w → P w)
      (of_step : (w v : World M) (i : Step M) (a : Answer M) → IsReached M w → Next M w i a v → R w a i v) where
    pub runs_pass : Runs_pass M P R
    runs_pass w w' [] [] r h = (of_world w r, h)
    runs_pass w w' [] (a ∷ ys) r h = absurd h
    runs_pass w w' (i ∷ is) [] r h = absurd h
    runs_pass w w' (i ∷ is) (a ∷ ys) r h = (
      of_world w r,
      (
        h.0,
        h.1,
        of_step w h.0 i a r h.1,
        runs_pass h.0 w' is ys
            (run_is_reached M L w h.0 (i ∷ []) (a ∷ []) r (h.0, h.1, refl)) h.2,
      ),
    )
