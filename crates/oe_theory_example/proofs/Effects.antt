-- What holds of the tables that a whole effect leaves.
use Rattle.std.proofs.Common.{◌≡◌, ℕ, suc, ◌<◌, Bool, true, false, cond, Option, None, Some, refl, ap, ◌∙◌, subst, inl}
use Rattle.std.proofs.Common.{inr, arith}
use Rattle.std.specs.Prelude.{◌⊎◌, ◌≢◌, nat_le}
use Rattle.std.specs.Ordering.{eq_by_cmp}
use Rattle.std.specs.FinMap.{get, get-insert}
use Rattle.std.proofs.lemmas.Bool.{cases_eq}
use Rattle.oe_theory.specs.Machine.{Tx}
use Rattle.oe_theory.specs.World.{bump}
use Rattle.oe_theory.specs.Laws.{IsGood}
use Rattle.oe_theory.proofs.Sets.{set_same, set_other, some_inj}
use Rattle.oe_theory_example.specs.Rows.{pair_cmp, Entry, Tables, least, first_owned}
use Rattle.oe_theory_example.specs.Programs.{Payment, Request, Pay, Serve, Rename, Visit, Reply, Effect, ◌>>=◌}
use Rattle.oe_theory_example.specs.Programs.{◌>>!◌, pay_whole}
use Rattle.oe_theory_example.specs.Programs.{serve_whole, whole_of}
use Rattle.oe_theory_example.specs.Bank.{bank, Good}
use Rattle.oe_theory_example.proofs.Rows.{pair_total, tied, pair_exact}

-- the effect is a refusal, or this holds of the tables that it leaves
pub data Leaves (P : Tables → Type 0) : Effect → Type 0 where
  refused : Leaves P None
  leaves : (after : Tables) (reply : Reply) → P after → Leaves P (Some (after, reply))

module _ (P : Tables → Type 0) where
  pub leaves_given : {A : Type 0} (o : Option A) (f : A → Effect) → ((a : A) → o ≡ Some a → Leaves P (f a))
      → Leaves P (o >>= f)
  leaves_given None f h = refused
  leaves_given (Some a) f h = h a refl

  pub leaves_absent : {A : Type 0} (o : Option A) (e : Effect) → (o ≡ None → Leaves P e) → Leaves P (o >>! e)
  leaves_absent None e h = h refl
  leaves_absent (Some a) e h = refused

  pub leaves_within : (b : Bool) (e : Effect) → (b ≡ true → Leaves P e) → Leaves P (cond b e None)
  leaves_within true e h = h refl
  leaves_within false e h = refused

  pub left_by : (e : Effect) (after : Tables) (reply : Reply) → Leaves P e → e ≡ Some (after, reply) → P after
  left_by _ after reply refused q = let no : ⊥ = cc in absurd no
  left_by _ after reply (leaves own old h) q =
      subst P (ap (λ (t : Tables × Reply). t.0) (some_inj (own, old) (after, reply) q)) h

-- all slips but the transaction's own stay
abbrev OthersStay : Tx Request → Tables → Tables → Type 0
OthersStay x r after = (k : ℕ × ℕ) → eq_by_cmp pair_cmp k (x.terminal, x.number) ≡ false
    → get after.journal k ≡ get r.journal k

module _ (x : Tx Request) (r : Tables) where
  pay_stays : (q : Payment) → Leaves (OthersStay x r) (pay_whole x q r)
  pay_stays q =
      leaves_given (OthersStay x r) (get r.accounts q.account) _ (λ a _.
      leaves_within (OthersStay x r) (nat_le q.amount a.balance) _ (λ _.
      leaves_absent (OthersStay x r) (get r.queues q.entry) _ (λ _.
      leaves _ _ (λ k e. get-insert pair_total r.journal (x.terminal, x.number) q.amount k
      ∙ ap (λ b. cond b (Some q.amount) (get r.journal k)) e))))

  serve_stays : (d : ℕ) (o : Option ((ℕ × ℕ) × Entry)) → Leaves (OthersStay x r) (serve_whole d r o)
  serve_stays d None = leaves _ _ (λ k e. refl)
  serve_stays d (Some t) = leaves_given (OthersStay x r) (get r.accounts t.1.account) _
      (λ a _. leaves _ _ (λ k e. refl))

  others_stay : (q : Request) → Leaves (OthersStay x r) (whole_of x q r)
  others_stay (Pay q) = pay_stays q
  others_stay (Serve d) = serve_stays d (least d r)
  others_stay (Rename k n) = leaves_given (OthersStay x r) (get r.accounts k) _ (λ a _. leaves _ _ (λ j e. refl))
  others_stay (Visit n) = leaves_given (OthersStay x r) (first_owned n r) _
      (λ k _. leaves_given (OthersStay x r) (get r.accounts k) _ (λ a _. leaves _ _ (λ j e. refl)))

pub stays_good : (f : ℕ → ℕ) (x : Tx Request) (r after : Tables) (reply : Reply) → IsGood bank f x r
    → whole_of x x.request r ≡ Some (after, reply) → Good (bump x.terminal f) after
stays_good f x r after reply g h k late = stay k (other (eq_by_cmp pair_cmp k (x.terminal, x.number)) refl)
    ∙ g.good k (later (cases_eq k.0 x.terminal))
  where
    stay : OthersStay x r after
    stay = left_by (OthersStay x r) (whole_of x x.request r) after reply (others_stay x r x.request) h

    later : (k.0 ≡ x.terminal) ⊎ (k.0 ≢ x.terminal) → f k.0 < k.1
    later (inl e) = omega (arith, set_same x.terminal (suc (f x.terminal)) f k.0 e, ap f e, late)
    later (inr n) = omega (arith, set_other x.terminal (suc (f x.terminal)) f k.0 n, late)

    other : (b : Bool) → eq_by_cmp pair_cmp k (x.terminal, x.number) ≡ b
        → eq_by_cmp pair_cmp k (x.terminal, x.number) ≡ false
    other false e = e
    other true e =
        let own : k ≡ (x.terminal, x.number) = tied pair_exact k (x.terminal, x.number) e in
        let first : k.0 ≡ x.terminal = ap (λ (z : ℕ × ℕ). z.0) own in
        let second : k.1 ≡ x.number = ap (λ (z : ℕ × ℕ). z.1) own in
        let no : ⊥ = omega (arith, set_same x.terminal (suc (f x.terminal)) f k.0 first, second, g.number, late) in
        absurd no
