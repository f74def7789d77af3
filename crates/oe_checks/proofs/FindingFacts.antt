-- A check over tallies is the check over facts, where the tallies have the facts' figures.
use Rattle.std.proofs.Common.{◌≡◌, ◌∙◌, ap, Result, Ok, Err}
use Rattle.std.specs.Prelude.{IfOk}

pub alike_of_one : {A D : Type 0} (f : A → D) {a aa : A} → a ≡ aa → f a ≡ f aa
alike_of_one f p = ap f p

pub alike_of_two : {A B D : Type 0} (f : A → B → D) {a aa : A} {b bb : B} → a ≡ aa → b ≡ bb → f a b ≡ f aa bb
alike_of_two f {a} {aa} {b} {bb} p q = ap (λ x. f x b) p ∙ ap (f aa) q

pub alike_of_three : {A B C D : Type 0} (f : A → B → C → D) {a aa : A} {b bb : B} {c cc : C} → a ≡ aa → b ≡ bb → c ≡ cc
    → f a b c ≡ f aa bb cc
alike_of_three f {a} {aa} {b} {bb} {c} {cc} p q r = ap (λ x. f x b c) p ∙ alike_of_two (f aa) q r

pub if_ok : {T E : Type 0} {P Q : T → Type 0} (r : Result T E) → IfOk r P → ((x : T) → P x → Q x) → IfOk r Q
if_ok (Ok x) p f = f x p
if_ok (Err e) p f = tt
