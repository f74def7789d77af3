-- Each program, run alone, ends with its whole effect.
use Rattle.std.proofs.Common.{◌≡◌, ℕ, Bool, true, false, cond, Option, None, Some, refl, sym, ap, subst}
use Rattle.std.specs.Prelude.{nat_le, is_some}
use Rattle.std.specs.FinMap.{get}
use Rattle.oe_theory.specs.Machine.{Tx, Exclusive, Ask, Stop, Take}
use Rattle.oe_theory.specs.Laws.{IsAsked, all_held, Ends, stops_here, fails_here, ends_here, goes_here}
use Rattle.oe_theory_example.specs.Rows.{Account, Entry, Tables, AccountRow, Accepts, under, account_in, is_there}
use Rattle.oe_theory_example.specs.Rows.{least}
use Rattle.oe_theory_example.specs.Rows.{first_owned}
use Rattle.oe_theory_example.specs.declared.Name.{Name}
use Rattle.oe_theory_example.specs.declared.Name.TheVariants.{OfAccount}
use Rattle.oe_theory_example.specs.Programs.{Payment, Request, Pay, Serve, Rename, Visit, Refusal, NoAccount}
use Rattle.oe_theory_example.specs.Programs.{Overflow, Present}
use Rattle.oe_theory_example.specs.Programs.{AtAccount, AtQueue, ToRead, ToFind, Program, Paying, Serving}
use Rattle.oe_theory_example.specs.Programs.{Renaming, Visiting}
use Rattle.oe_theory_example.specs.Programs.{program_of, MayRefuse, Action, with_value, if_absent, if_within}
use Rattle.oe_theory_example.specs.Programs.{take_least}
use Rattle.oe_theory_example.specs.Programs.{rejection}
use Rattle.oe_theory_example.specs.Programs.{Effect, ◌>>=◌, ◌>>!◌, pay_whole, serve_whole, rename_whole}
use Rattle.oe_theory_example.specs.Programs.{visit_whole, whole_of, ask}
use Rattle.oe_theory_example.specs.Programs.{act}
use Rattle.oe_theory_example.specs.Bank.{bank}
use Rattle.oe_theory_example.proofs.Rows.{least_found}
use Rattle.oe_theory_example.proofs.Programs.{AskedAt, given_same, absent_same}

there : {A : Type 0} (v : Option A) (a : A) → v ≡ Some a → is_some v ≡ true
there v a e = ap is_some e

module _ (Only : Refusal → Type 0) (x : Tx Request) where
  abbrev Ended : Program → Tables → Effect → Type 0
  Ended p r e = Ends bank x Only Accepts p r e

  module _ (p : Program) (r : Tables) where
    -- a position that needs a value, one that needs none, and one that needs a number within its range
    ends_given : {A : Type 0} (e : Refusal) (o : Option A) (f : A → Action) (g : A → Effect) → AskedAt x p r
        → act x p r ≡ with_value e o f → Only e
        → ((a : A) → o ≡ Some a → act x p r ≡ f a → Ended p r (g a)) → Ended p r (o >>= g)
    ends_given e None f g i is why h = fails_here p r e why i is
    ends_given e (Some a) f g i is why h = h a refl is

    ends_absent : {A : Type 0} (o : Option A) (d : Action) (g : Effect) → AskedAt x p r → act x p r ≡ if_absent o d
        → Only Present → (o ≡ None → act x p r ≡ d → Ended p r g) → Ended p r (o >>! g)
    ends_absent None d g i e why h = h refl e
    ends_absent (Some a) d g i e why h = fails_here p r Present why i e

    ends_within : (b : Bool) (d : Action) (g : Effect) → AskedAt x p r → act x p r ≡ if_within b d → Only Overflow
        → (b ≡ true → act x p r ≡ d → Ended p r g) → Ended p r (cond b g None)
    ends_within true d g i e why h = h refl e
    ends_within false d g i e why h = fails_here p r Overflow why i e

    -- a position that asks for an account's name, and stops where there is no such account
    ends_account : (k : ℕ) (o : Option Account) (f : Account → Action) (g : Account → Effect)
        → ask x p r ≡ cond (is_there (account_in (under AccountRow o))) (Take (OfAccount k) Exclusive) (Stop NoAccount)
        → act x p r ≡ with_value NoAccount o f → (o ≡ None → Only NoAccount)
        → ((a : Account) → o ≡ Some a → AskedAt x p r → act x p r ≡ f a → Ended p r (g a)) → Ended p r (o >>= g)
    ends_account k None f g i e why h = stops_here p r NoAccount (why refl) i
    ends_account k (Some a) f g i e why h = h a refl
        (subst (λ (b : Ask Name Refusal). IsAsked bank (all_held bank) b) (sym i) tt) e

  pay_ends : (q : Payment) (r : Tables) → Only NoAccount → Only Overflow → Only Present
      → get r.journal (x.terminal, x.number) ≡ None → Ended (Paying q AtAccount) r (pay_whole x q r)
  pay_ends q r no_account overflow present unused =
      ends_account _ _ q.account (get r.accounts q.account) _ _ refl refl (λ _. no_account) (λ a a_at i e.
      ends_within _ _ (nat_le q.amount a.balance) _ _ i e overflow (λ _ e.
      goes_here _ _ _ _ _ i e (there _ a a_at) (
      ends_absent _ _ (get r.queues q.entry) _ _ tt refl present (λ absent e.
      goes_here _ _ _ _ _ tt e absent (
      goes_here _ _ _ _ _ tt (absent_same _ None _ unused) unused (
      ends_here _ _ _ tt refl))))))

  serve_ends : (d : ℕ) (r : Tables) → Only NoAccount → (o : Option ((ℕ × ℕ) × Entry)) → least d r ≡ o
      → Ended (Serving d AtQueue) r (serve_whole d r o)
  serve_ends d r no_account None none = goes_here _ _ _ _ _ tt (ap (take_least d) none) tt (ends_here _ _ _ tt refl)
  serve_ends d r no_account (Some t) first =
      goes_here _ _ _ _ _ tt (ap (take_least d) first) (there _ t.1 (least_found d r t.0 t.1 first)) (
      ends_given _ _ _ (get r.accounts t.1.account) _ _ tt refl no_account (λ a a_at e.
      goes_here _ _ _ _ _ tt e (there _ a a_at) (
      ends_here _ _ _ tt refl)))

  rename_ends : (k n : ℕ) (r : Tables) → (get r.accounts k ≡ None → ⊥)
      → Ended (Renaming k n ToRead) r (rename_whole k n r)
  rename_ends k n r known =
      ends_account _ _ k (get r.accounts k) _ _ refl refl (λ none. absurd (known none)) (λ a a_at i e.
      goes_here _ _ _ _ _ i e tt (
      goes_here _ _ _ _ _ tt refl tt (
      goes_here _ _ _ _ _ tt (given_same _ _ (Some a) _ a_at) (there _ a a_at) (
      ends_here _ _ _ tt refl))))

  visit_ends : (n : ℕ) (r : Tables) → Only NoAccount → Ended (Visiting n ToFind) r (visit_whole n r)
  visit_ends n r no_account =
      ends_given _ _ _ (first_owned n r) _ _ tt refl no_account (λ k _ e.
      goes_here _ _ _ _ _ tt e tt (
      ends_given _ _ _ (get r.accounts k) _ _ tt refl no_account (λ a a_at e.
      goes_here _ _ _ _ _ tt e (there _ a a_at) (
      ends_here _ _ _ tt refl))))

-- a renaming that is not turned away has its account
known_there : (o : Option Account) → cond {A = Option Refusal} (is_there (account_in (under AccountRow o))) None
    (Some NoAccount) ≡ None → o ≡ None → ⊥
known_there None h e = cc
known_there (Some a) h e = cc

pub program_ends : (x : Tx Request) (q : Request) (r : Tables) → rejection q r ≡ None
    → get r.journal (x.terminal, x.number) ≡ None → Ends bank x (MayRefuse q) Accepts (program_of q) r (whole_of x q r)
program_ends x (Pay q) r known unused = pay_ends (MayRefuse (Pay q)) x q r tt tt tt unused
program_ends x (Serve d) r known unused = serve_ends (MayRefuse (Serve d)) x d r tt (least d r) refl
program_ends x (Rename k n) r known unused = rename_ends (MayRefuse (Rename k n)) x k n r
    (known_there (get r.accounts k) known)
program_ends x (Visit n) r known unused = visit_ends (MayRefuse (Visit n)) x n r tt
