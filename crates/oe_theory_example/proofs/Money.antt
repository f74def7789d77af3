-- Each whole effect keeps the money.
use Rattle.std.proofs.Common.{◌≡◌, ℕ, ◌+◌, ◌≤◌, Option, None, Some, refl, arith}
use Rattle.std.specs.Prelude.{nat_le}
use Rattle.std.specs.Cmp.{nat_cmp_total}
use Rattle.std.specs.FinMap.{get, insert, remove, nat_cmp-IsAntisymmetric}
use Rattle.std.proofs.lemmas.Bool.{leb-true}
use Rattle.oe_theory.specs.Machine.{Tx}
use Rattle.oe_theory.specs.Theorems.{IsKept}
use Rattle.oe_theory_example.specs.Rows.{Account, Entry, Tables, least, first_owned}
use Rattle.oe_theory_example.specs.Programs.{Payment, Request, Pay, Serve, Rename, Visit, after_payment, entry_of}
use Rattle.oe_theory_example.specs.Programs.{after_entry, pay_whole}
use Rattle.oe_theory_example.specs.Programs.{serve_whole, whole_of}
use Rattle.oe_theory_example.specs.Bank.{bank}
use Rattle.oe_theory_example.specs.Conditions.{sum_map, balance, waiting, HasMoney}
use Rattle.oe_theory_example.proofs.Rows.{pair_total, pair_exact, least_found}
use Rattle.oe_theory_example.proofs.Effects.{Leaves, leaves, leaves_given, leaves_absent, leaves_within, left_by}
use Rattle.oe_theory_example.proofs.Sums.{sum_insert, sum_remove}

-- the sum of balances after an account was changed
account_sum : (r : Tables) (k : ℕ) (a b : Account) → get r.accounts k ≡ Some a
    → sum_map balance (insert r.accounts k b) + a.balance ≡ sum_map balance r.accounts + b.balance
account_sum r k a b g = let i = sum_insert nat_cmp_total nat_cmp-IsAntisymmetric balance r.accounts k b in rw g at i

module _ (n : ℕ) (r : Tables) (h : HasMoney n r) where
  -- an account whose balance stays
  same_balance : (k : ℕ) (a b : Account) → get r.accounts k ≡ Some a → b.balance ≡ a.balance
      → HasMoney n (record r { accounts = insert r.accounts k b })
  same_balance k a b g e = let i = account_sum r k a b g in omega (arith, i, e, h)

  pay_keeps : (x : Tx Request) (q : Payment) → Leaves (HasMoney n) (pay_whole x q r)
  pay_keeps x q =
      leaves_given (HasMoney n) (get r.accounts q.account) _ (λ a g.
      leaves_within (HasMoney n) (nat_le q.amount a.balance) _ (λ e.
      leaves_absent (HasMoney n) (get r.queues q.entry) _ (λ f.
      let enough : q.amount ≤ a.balance = leb-true q.amount a.balance e in
      let i = account_sum r q.account a (after_payment q a) g in
      let j = sum_insert pair_total pair_exact waiting r.queues q.entry (entry_of q) in
      let k : sum_map waiting (insert r.queues q.entry (entry_of q)) + 0 ≡ sum_map waiting r.queues + q.amount =
      rw f at j in
      leaves _ _ (omega (arith, i, k, h, enough)))))

  serve_keeps : (d : ℕ) (o : Option ((ℕ × ℕ) × Entry)) → least d r ≡ o → Leaves (HasMoney n) (serve_whole d r o)
  serve_keeps d None first = leaves _ _ h
  serve_keeps d (Some t) first =
      leaves_given (HasMoney n) (get r.accounts t.1.account) _ (λ a g.
      let i = account_sum r t.1.account a (after_entry t.1 a) g in
      let j = sum_remove pair_total pair_exact waiting r.queues (d, t.0.1) in
      let k : sum_map waiting (remove r.queues (d, t.0.1)) + t.1.amount ≡ sum_map waiting r.queues =
      rw (least_found d r t.0 t.1 first) at j in
      leaves _ _ (omega (arith, i, k, h)))

  whole_keeps : (x : Tx Request) (q : Request) → Leaves (HasMoney n) (whole_of x q r)
  whole_keeps x (Pay q) = pay_keeps x q
  whole_keeps x (Serve d) = serve_keeps d (least d r) refl
  whole_keeps x (Rename k o) = leaves_given (HasMoney n) (get r.accounts k) _
      (λ a g. leaves _ _ (same_balance k a _ g refl))
  whole_keeps x (Visit o) =
      leaves_given (HasMoney n) (first_owned o r) _ (λ k _.
      leaves_given (HasMoney n) (get r.accounts k) _ (λ a g. leaves _ _ (same_balance k a _ g refl)))

pub keeps_money : (n : ℕ) → IsKept bank (HasMoney n)
keeps_money n f x r after reply g e h = left_by (HasMoney n) (whole_of x x.request r) after reply
    (whole_keeps n r h x x.request) e
