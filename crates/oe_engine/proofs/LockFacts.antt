-- The locks of the code are those of the theory of transactions.
use Rattle.std.proofs.Common.{◌≡◌, ℕ, ◌==◌, Bool, true, false, ◌||◌, cond, List, [], ◌∷◌, is_some, refl, sym, ap, ◌∙◌}
use Rattle.std.proofs.Common.{inl, inr}
use Rattle.std.specs.Prelude.{Option, None, Some, option_map}
use Rattle.std.proofs.lemmas.Bool.{cases_eq, cond-true, cond-false, eq-eqb, ne_eqb, false≢true}
use mathlib.Core.Path.{fun_ext}
use Rattle.oe_rows.specs.declared.locks.Name.{Name}
use Rattle.oe_rows.specs.declared.locks.Mode.{Mode}
use Rattle.oe_rows.specs.declared.locks.Mode.TheVariants.{Shared, Exclusive}
use Rattle.oe_theory.specs.Machine as theory
use Rattle.oe_theory.specs.Machine.{Take}
use Rattle.oe_theory.specs.World as world
use Rattle.oe_theory.specs.Next.{held_after}
use Rattle.oe_model.specs.Locks.{mode_of, is_name}
use Rattle.oe_model.specs.System.{system}
use Rattle.oe_model.proofs.SystemLaws as model
use Rattle.oe_locks.specs.Held as locks
use Rattle.oe_locks.specs.Held.{Holdings, mode_held, Takes, GivesBack, OthersKeep, HoldsNothing}
use Rattle.oe_locks.specs.Listed.{stands, IsListed}
use Rattle.oe_locks.proofs.NameFacts as names

-- the tests of names are one
pub same_name : (a b : Name) → locks.is_name a b ≡ is_name a b
same_name a b = go (locks.is_name a b) (is_name a b) refl refl
  where
    go : (x y : Bool) → locks.is_name a b ≡ x → is_name a b ≡ y → x ≡ y
    go true true e f = refl
    go false false e f = refl
    go true false e f = sym (ap (λ z. is_name a z) (sym (names.name_true a b e)) ∙ model.name_refl a) ∙ f
    go false true e f = sym e ∙ (ap (λ z. locks.is_name a z) (sym (model.name_true a b f)) ∙ names.name_refl a)

-- the modes go together alike
pub same_together : (m : Mode) (o : Option Mode)
    → world.go_together (mode_of m) (option_map mode_of o) ≡ locks.go_together m o
same_together Shared None = refl
same_together Exclusive None = refl
same_together Shared (Some Shared) = refl
same_together Shared (Some Exclusive) = refl
same_together Exclusive (Some Shared) = refl
same_together Exclusive (Some Exclusive) = refl

-- and rise alike
same_risen : (m : Mode) (o : Option Mode) → mode_of (locks.greater_mode m o)
    ≡ world.greater_mode (mode_of m) (option_map mode_of o)
same_risen Shared None = refl
same_risen Exclusive None = refl
same_risen Shared (Some Shared) = refl
same_risen Shared (Some Exclusive) = refl
same_risen Exclusive (Some Shared) = refl
same_risen Exclusive (Some Exclusive) = refl

-- what all terminals hold, in the theory's words
abbrev pub held_of : Holdings → ℕ → Name → Option theory.Mode
held_of ls t n = option_map mode_of (mode_held ls t n)

-- one terminal's names have changed
one_changed : (old new : Holdings) (t : ℕ) (f : Name → Option theory.Mode) → OthersKeep old new t
    → ((q : Name) → held_of new t q ≡ f q)
    → held_of new ≡ world.set t f (held_of old)
one_changed old new t f others own = fun_ext (λ u. fun_ext (λ q. by_terminal u q))
  where
    by_terminal : (u : ℕ) (q : Name) → held_of new u q ≡ world.set t f (held_of old) u q
    by_terminal u q =
        elim (cases_eq u t) [
          | inl e ↦ ap (λ x. held_of new x q) e ∙ own q
              ∙ sym (ap (λ g. g q) (cond-true (u == t) f (held_of old u) (eq-eqb u t e)))
          | inr ne ↦ ap (option_map mode_of) (others u ne q)
              ∙ sym (ap (λ g. g q) (cond-false (u == t) f (held_of old u) (ne_eqb u t ne)))
        ]

cond_map : (b : Bool) (x y : Option Mode) → option_map mode_of (cond b x y) ≡ cond b (option_map mode_of x)
    (option_map mode_of y)
cond_map true x y = refl
cond_map false x y = refl

-- a name was taken
pub taken_is : (old new : Holdings) (t : ℕ) (n : Name) (m : Mode) → Takes old new t n m → OthersKeep old new t
    → held_of new ≡ world.set t (held_after system (Take n (mode_of m)) (held_of old t)) (held_of old)
taken_is old new t n m own others =
    one_changed old new t _ others
    (λ q. ap (option_map mode_of) (own q)
    ∙ cond_map (locks.is_name q n) (Some (locks.greater_mode m (mode_held old t q))) (mode_held old t q)
    ∙ ap (λ b. cond b (Some (mode_of (locks.greater_mode m (mode_held old t q)))) (held_of old t q)) (same_name q n)
    ∙ ap (λ k. cond (is_name q n) (Some k) (held_of old t q)) (same_risen m (mode_held old t q)))

-- a name was put into a mode, or let go of
pub put_is : (old new : Holdings) (t : ℕ) (n : Name) (m : Option Mode) → GivesBack old new t n m → OthersKeep old new t
    → held_of new ≡ world.set t (λ q. cond (is_name q n) (option_map mode_of m) (held_of old t q)) (held_of old)
put_is old new t n m own others =
    one_changed old new t _ others
    (λ q. ap (option_map mode_of) (own q)
    ∙ cond_map (locks.is_name q n) m (mode_held old t q)
    ∙ ap (λ b. cond b (option_map mode_of m) (held_of old t q)) (same_name q n))

-- all names were let go of
pub released_is : (old new : Holdings) (t : ℕ) → HoldsNothing new t → OthersKeep old new t
    → held_of new ≡ world.set t (λ _. None) (held_of old)
released_is old new t own others = one_changed old new t _ others (λ q. ap (option_map mode_of) (own q))

-- a function with its own value put at an argument is that function
pub set_own : {A : Type 0} (t : ℕ) (f : ℕ → A) → world.set t (f t) f ≡ f
set_own t f = fun_ext (λ u. elim (cases_eq u t) [
  | inl e ↦ cond-true (u == t) (f t) (f u) (eq-eqb u t e) ∙ ap f (sym e)
  | inr ne ↦ cond-false (u == t) (f t) (f u) (ne_eqb u t ne)
])

pub set_at : {A : Type 0} (t : ℕ) (a : A) (f : ℕ → A) → world.set t a f t ≡ a
set_at t a f = cond-true (t == t) a (f t) (eq-eqb t t refl)

pub set_twice : {A : Type 0} (t : ℕ) (a b : A) (f : ℕ → A) → world.set t a (world.set t b f) ≡ world.set t a f
set_twice t a b f = fun_ext (λ u. go u (u == t))
  where
    go : (u : ℕ) (c : Bool) → cond c a (cond c b (f u)) ≡ cond c a (f u)
    go u true = refl
    go u false = refl

-- where the name is put back into the mode that it was taken from, all is held as before
pub put_taken : (f : Name → Option theory.Mode) (n : Name) (m : theory.Mode) (q : Name)
    → cond (is_name q n) (f n) (held_after system (Take n m) f q) ≡ f q
put_taken f n m q = go (is_name q n) refl
  where
    go : (b : Bool) → is_name q n ≡ b → cond b (f n) (cond b (Some (world.greater_mode m (f q))) (f q)) ≡ f q
    go true e = ap f (sym (model.name_true q n e))
    go false e = refl

-- where nothing is held no name is listed
pub nothing_listed : (xs : List Name) → ((q : Name) → stands xs q ≡ false) → xs ≡ []
nothing_listed [] none = refl
nothing_listed (x ∷ xs) none = absurd (false≢true (sym (none x) ∙ ap (λ b. b || stands xs x) (names.name_refl x)))

-- the terminal's list, in the theory's words
pub listed_held : (ls : Holdings) (t : ℕ) (xs : List Name) → IsListed ls t xs → (q : Name)
    → stands xs q ≡ is_some (held_of ls t q)
listed_held ls t xs listed q = listed q ∙ go (mode_held ls t q)
  where
    go : (o : Option Mode) → is_some o ≡ is_some (option_map mode_of o)
    go None = refl
    go (Some m) = refl

pub listed_idle : (ls : Holdings) (t : ℕ) (xs : List Name) → IsListed ls t xs → HoldsNothing ls t → xs ≡ []
listed_idle ls t xs listed idle = nothing_listed xs (λ q. listed q ∙ ap (λ o. is_some o) (idle q))
