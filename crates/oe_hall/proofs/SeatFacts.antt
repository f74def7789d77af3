-- Seats that are dealt, and given away.
use Rattle.std.proofs.Common.{◌≡◌, ◌≢◌, ℕ, zero, suc, ◌≤◌, inl, inr, List, [], ◌∷◌, ◌++◌, Option, Some, None, length}
use Rattle.std.proofs.Common.{subst}
use Rattle.std.proofs.Common.{slice_get, slice_set, sym, ap, ◌∙◌, refl, arith}
use Rattle.std.specs.Prelude.{◌⊎◌}
use Rattle.std.proofs.lemmas.Bool.{cases_eq}
use Rattle.atomic_table.specs.Seated.{TableId}
use Rattle.oe_history.specs.declared.views.Entry.{Entry}
use Rattle.oe_history.specs.Views.{calls_by}
use Rattle.oe_history.specs.Calls.{Knows}
use Rattle.oe_hall.specs.Seats.{ThePlace, TheRoom, fresh_place, AreFresh, waiting, AreHere, HasCalled, HaveCalled}
use Rattle.oe_hall.specs.Desks.{IsNobodys}

pub get_other : {X : Type 0} (xs : List X) (i k : ℕ) (x : X) → k ≢ i → slice_get (slice_set xs i x) k ≡ slice_get xs k
get_other [] i k x h = refl
get_other (y ∷ ys) zero zero x h = absurd (h refl)
get_other (y ∷ ys) zero (suc k) x h = refl
get_other (y ∷ ys) (suc i) zero x h = refl
get_other (y ∷ ys) (suc i) (suc k) x h = get_other ys i k x (λ e. h (ap suc e))

get_same : {X : Type 0} (xs : List X) (i : ℕ) (x y : X) → slice_get (slice_set xs i x) i ≡ Some y → x ≡ y
get_same [] i x y e = cc
get_same (z ∷ zs) zero x y e = cc
get_same (z ∷ zs) (suc i) x y e = get_same zs i x y e

pub get_set : {X : Type 0} (xs : List X) (i : ℕ) (x y : X) → slice_get xs i ≡ Some y
    → slice_get (slice_set xs i x) i ≡ Some x
get_set [] i x y e = cc
get_set (z ∷ zs) zero x y e = refl
get_set (z ∷ zs) (suc i) x y e = get_set zs i x y e

pub set_idle : (xs : List (Option ThePlace)) (t : ℕ) → slice_get xs t ≡ Some None → slice_set xs t None ≡ xs
set_idle [] t e = refl
set_idle (y ∷ ys) zero e = ap (λ z. z ∷ ys) (cc)
set_idle (y ∷ ys) (suc t) e = ap (λ z. y ∷ z) (set_idle ys t e)

pub fresh_set : (z : TheRoom) (xs : List (Option ThePlace)) (i : ℕ) → AreFresh z xs
    → AreFresh z (slice_set xs i None)
fresh_set z xs i f k s e = go (cases_eq k i)
  where
    go : (k ≡ i) ⊎ (k ≢ i) → s ≡ fresh_place z k
    go (inl q) =
        let no : None ≡ Some s = get_same xs i None (Some s)
        (ap (λ (j : ℕ). slice_get (slice_set xs i None) j) (sym q) ∙ e) in
        let not : ⊥ = cc in
        absurd not
    go (inr ne) = f k s (sym (get_other xs i k None ne) ∙ e)

pub waiting_set : (xs : List (Option ThePlace)) (i : ℕ) (s : ThePlace) → slice_get xs i ≡ Some (Some s)
    → waiting xs ≡ suc (waiting (slice_set xs i None))
waiting_set [] i s e = let no : ⊥ = cc in absurd no
waiting_set (None ∷ xs) zero s e = let no : ⊥ = cc in absurd no
waiting_set (Some r ∷ xs) zero s e = refl
waiting_set (None ∷ xs) (suc i) s e = waiting_set xs i s e
waiting_set (Some r ∷ xs) (suc i) s e = ap suc (waiting_set xs i s e)

pub waiting_snoc : (xs : List (Option ThePlace)) (s : ThePlace) → waiting (xs ++ Some s ∷ []) ≡ suc (waiting xs)
waiting_snoc [] s = refl
waiting_snoc (None ∷ xs) s = waiting_snoc xs s
waiting_snoc (Some r ∷ xs) s = ap suc (waiting_snoc xs s)

get_snoc : (xs : List (Option ThePlace)) (x y : Option ThePlace) (k : ℕ) → slice_get (xs ++ x ∷ []) k ≡ Some y
    → (slice_get xs k ≡ Some y) ⊎ ((k ≡ length xs) × (x ≡ y))
get_snoc [] x y zero e = inr (refl, cc)
get_snoc [] x y (suc k) e = let no : ⊥ = cc in absurd no
get_snoc (z ∷ zs) x y zero e = inl e
get_snoc (z ∷ zs) x y (suc k) e = go (get_snoc zs x y k e)
  where
    go : (slice_get zs k ≡ Some y) ⊎ ((k ≡ length zs) × (x ≡ y)) → (slice_get zs k ≡ Some y)
        ⊎ ((suc k ≡ suc (length zs)) × (x ≡ y))
    go (inl a) = inl a
    go (inr a) = inr (ap suc a.0, a.1)

pub fresh_snoc : (z : TheRoom) (xs : List (Option ThePlace)) (s : ThePlace) → AreFresh z xs
    → s ≡ fresh_place z (length xs) → AreFresh z (xs ++ Some s ∷ [])
fresh_snoc z xs s f is k r e = go (get_snoc xs (Some s) (Some r) k e)
  where
    go : (slice_get xs k ≡ Some (Some r)) ⊎ ((k ≡ length xs) × (Some s ≡ Some r)) → r ≡ fresh_place z k
    go (inl a) = f k r a
    go (inr a) =
        let same : s ≡ r = cc in
        sym same ∙ (is ∙ ap (fresh_place z) (sym a.0))

pub fresh_none : (z : TheRoom) → AreFresh z []
fresh_none z k s e = let no : ⊥ = cc in absurd no

waiting_most : (xs : List (Option ThePlace)) → waiting xs ≤ length xs
waiting_most [] = omega arith
waiting_most (None ∷ xs) = let h : waiting xs ≤ length xs = waiting_most xs in omega (arith, h)
waiting_most (Some s ∷ xs) = let h : waiting xs ≤ length xs = waiting_most xs in omega (arith, h)

-- where as many are there as there are slots, no slot is empty
pub all_there : (xs : List (Option ThePlace)) → waiting xs ≡ length xs → (k : ℕ) → slice_get xs k ≢ Some None
all_there [] e k is = let no : ⊥ = cc in no
all_there (None ∷ xs) e k is = let h : waiting xs ≤ length xs = waiting_most xs in absurd (omega (arith, e, h))
all_there (Some s ∷ xs) e zero is = let no : ⊥ = cc in no
all_there (Some s ∷ xs) e (suc k) is = all_there xs (omega (arith, e)) k is

-- WHAT PLACES HAVE CALLED

all_here : (history : TableId) (xs : List (Option ThePlace))
    → ((k : ℕ) (p : ThePlace) → slice_get xs k ≡ Some (Some p) → p.calls.table ≡ history) → AreHere history xs
all_here history [] f = tt
all_here history (None ∷ xs) f = (tt, all_here history xs (λ k p e. f (suc k) p e))
all_here history (Some q ∷ xs) f = (f 0 q refl, all_here history xs (λ k p e. f (suc k) p e))

pub fresh_here : (z : TheRoom) (xs : List (Option ThePlace)) → AreFresh z xs → AreHere z.history xs
fresh_here z xs f = all_here z.history xs (λ k p e. ap (λ (q : ThePlace). q.calls.table) (f k p e))

called_at : (log : List Entry) (xs : List (Option ThePlace)) (k : ℕ) (p : ThePlace) → HaveCalled log xs
    → slice_get xs k ≡ Some (Some p) → Knows log p.calls
called_at log [] k p all e = let no : ⊥ = cc in absurd no
called_at log (x ∷ xs) zero p all e =
    let same : x ≡ Some p = cc in
    subst (HasCalled log) same all.0
called_at log (x ∷ xs) (suc k) p all e = called_at log xs k p all.1 e

-- no place that is there has called anything, and no higher number has
pub nobodys_calls : (z : TheRoom) (xs : List (Option ThePlace)) (log : List Entry) → AreFresh z xs
    → HaveCalled log xs → ((by : ℕ) → 65 ≤ by → calls_by by log ≡ []) → (by : ℕ) → IsNobodys xs by
    → calls_by by log ≡ []
nobodys_calls z xs log f all others by (inl high) = others by (omega (arith, high))
nobodys_calls z xs log f all others by (inr it) =
    let p : ThePlace = it.1 in
    let is : p ≡ fresh_place z it.0 = f it.0 p it.3 in
    ap (λ (n : ℕ). calls_by n log) (it.2 ∙ sym (ap (λ (q : ThePlace). q.calls.by) is))
    ∙ ((called_at log xs it.0 p all it.3).1 ∙ ap (λ (q : ThePlace). q.calls.mine) is)
