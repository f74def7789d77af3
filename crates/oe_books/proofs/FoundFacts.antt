-- One list more.
use Rattle.std.proofs.Common.{◌≡◌, ℕ, ◌+◌, ◌<◌, ◌≤◌, List, [], ◌∷◌, ◌++◌, length, take, get_or, map, sym, ap, subst}
use Rattle.std.proofs.Common.{◌∙◌, Ok, Err}
use Rattle.std.proofs.lemmas.List.{take_more, take_all, map-append}
use Rattle.std.specs.Prelude.{IfOk, Result}
use Rattle.std.specs.List.{AllZip}

zip_push : {A B : Type 0} (R : A → B → Type 0) (xs : List A) (ys : List B) (x : A) (y : B) → AllZip R xs ys → R x y
    → AllZip R (xs ++ x ∷ []) (ys ++ y ∷ [])
zip_push R [] [] x y h r = (r, tt)
zip_push R [] (b ∷ ys) x y h r = absurd h
zip_push R (a ∷ xs) [] x y h r = absurd h
zip_push R (a ∷ xs) (b ∷ ys) x y h r = (h.0, zip_push R xs ys x y h.1 r)

pub zip_more : {A B : Type 0} (R : A → B → Type 0) (xs : List A) (ys : List B) (i : ℕ) (d : A) (y : B)
    → i < length xs → AllZip R (take i xs) ys → R (get_or xs i d) y → AllZip R (take (i + 1) xs) (ys ++ y ∷ [])
zip_more R xs ys i d y inside h r =
    subst (λ zs. AllZip R zs (ys ++ y ∷ [])) (sym (take_more xs i d inside)) (zip_push R (take i xs) ys (get_or xs i
    d) y h r)

pub zip_whole : {A B : Type 0} (R : A → B → Type 0) (xs : List A) (ys : List B) (i : ℕ) → length xs ≤ i
    → AllZip R (take i xs) ys → AllZip R xs ys
zip_whole R xs ys i past h = subst (λ zs. AllZip R zs ys) (take_all i xs past) h

pub map_more : {A B : Type 0} (f : A → B) (xs : List A) (ys : List B) (i : ℕ) (d : A) (y : B) → i < length xs
    → ys ≡ map f (take i xs) → y ≡ f (get_or xs i d) → ys ++ y ∷ [] ≡ map f (take (i + 1) xs)
map_more f xs ys i d y inside h e =
    ap (λ zs. zs ++ y ∷ []) h ∙ ap (λ z. map f (take i xs) ++ z ∷ []) e ∙ sym (map-append f (take i xs) (get_or xs i
    d ∷ []))
    ∙ ap (map f) (sym (take_more xs i d inside))

pub if_ok : {T E : Type 0} (P Q : T → Type 0) (r : Result T E) → ((x : T) → P x → Q x) → IfOk r P → IfOk r Q
if_ok P Q (Ok x) f p = f x p
if_ok P Q (Err e) f p = tt
