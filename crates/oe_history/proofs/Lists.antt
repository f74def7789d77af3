-- The entries of one number in a list, and beginnings of lists.
use Rattle.std.proofs.Common.{◌≡◌, ◌≢◌, ℕ, ◌==◌, Bool, true, false, cond, List, [], ◌∷◌, ◌++◌, length, refl, sym, ap}
use Rattle.std.proofs.Common.{◌∙◌, arith, append_assoc, length-append}
use Rattle.std.proofs.lemmas.Bool.Decides.{nat_tests}
use mathlib.Core.List.{IsPrefix}
use Rattle.oe_history.specs.declared.views.Entry.{Entry}
use Rattle.oe_history.specs.Views.{calls_by}

abbrev push : Bool → Entry → List Entry → List Entry
push b e es = cond b (e ∷ es) es

push-append : (b : Bool) (e : Entry) (xs ys : List Entry) → push b e (xs ++ ys) ≡ push b e xs ++ ys
push-append true e xs ys = refl
push-append false e xs ys = refl

pub calls-append : (by : ℕ) (xs ys : List Entry) → calls_by by (xs ++ ys) ≡ calls_by by xs ++ calls_by by ys
calls-append by [] ys = refl
calls-append by (e ∷ xs) ys =
    ap (push (e.by == by) e) (calls-append by xs ys) ∙ push-append (e.by == by) e (calls_by by xs) (calls_by by ys)

pub calls-own : (by : ℕ) (xs : List Entry) (e : Entry) → e.by ≡ by
    → calls_by by (xs ++ e ∷ []) ≡ calls_by by xs ++ e ∷ []
calls-own by xs e is =
    let same : (e.by == by) ≡ true = grind (arith, nat_tests) in
    calls-append by xs (e ∷ []) ∙ ap (λ (b : Bool). calls_by by xs ++ push b e []) same

pub append-nothing : (xs : List Entry) → xs ++ [] ≡ xs
append-nothing [] = refl
append-nothing (x ∷ xs) = ap (λ (ys : List Entry). x ∷ ys) (append-nothing xs)

pub calls-other : (by : ℕ) (xs : List Entry) (e : Entry) → e.by ≢ by → calls_by by (xs ++ e ∷ []) ≡ calls_by by xs
calls-other by xs e not =
    let other : (e.by == by) ≡ false = grind (arith, nat_tests) in
    calls-append by xs (e ∷ []) ∙ ap (λ (b : Bool). calls_by by xs ++ push b e []) other
    ∙ append-nothing (calls_by by xs)

nothing-after : (xs ys : List Entry) → xs ++ ys ≡ xs → ys ≡ []
nothing-after xs [] e = refl
nothing-after xs (y ∷ ys) e =
    absurd (let n = sym (length-append xs (y ∷ ys)) ∙ ap length e in omega (arith, n))

-- no call of a caller stands behind what it has seen, where its own calls are the same
pub none-between : (by : ℕ) (seen log : List Entry) (p : IsPrefix seen log) (mine : List Entry)
    → calls_by by seen ≡ mine → calls_by by log ≡ mine → calls_by by p.0 ≡ []
none-between by seen log p mine a b =
    nothing-after (calls_by by seen) (calls_by by p.0)
    (sym (calls-append by seen p.0) ∙ (ap (calls_by by) p.1 ∙ (b ∙ sym a)))

pub prefix-longer : (xs ys zs : List Entry) → IsPrefix xs ys → IsPrefix xs (ys ++ zs)
prefix-longer xs ys zs p = (p.0 ++ zs, sym (append_assoc xs p.0 zs) ∙ ap (λ (w : List Entry). w ++ zs) p.1)
