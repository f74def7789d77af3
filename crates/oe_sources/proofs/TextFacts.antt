-- What the ends of a text tell.
use Rattle.std.proofs.Common.{◌≡◌, ℕ, suc, ◌<◌, ◌-◌, Bool, true, false, cond, List, [], ◌∷◌, length, get_or, take, drop}
use Rattle.std.proofs.Common.{None, refl, ap, sym, ◌∙◌, eqb, ltb, arith, eqb-true, eq-eqb}
use Rattle.std.proofs.lemmas.Bool.{eqb-false, le-ltb, ne_eqb}
use Rattle.std.specs.Prelude.{codes}
use Rattle.std.proofs.lemmas.List.{drop_more, drop_all}
use Rattle.oe_sources.specs.Text.{is_word, after_of, before_of, without_return, count_of}

either_same : {T : Type 0} (b : Bool) (x : T) → cond b x x ≡ x
either_same true x = refl
either_same false x = refl

-- a text does not begin with a word that has another first byte
after_none : (f : ℕ) (fs : List ℕ) (x : ℕ) (xs : List ℕ) → eqb x f ≡ false → after_of (f ∷ fs) (x ∷ xs) ≡ None
unfolding after_of is_word
after_none f fs x xs e = rw e (either_same _ None)

-- a text says no count that is empty, or begins with neither `r` nor a bracket
pub no_count_empty : (t : List ℕ) → length t ≡ 0 → count_of t ≡ None
unfolding count_of after_of is_word
no_count_empty [] e = refl
no_count_empty (x ∷ xs) e = cc

pub no_count : (t : List ℕ) → 0 < length t → (get_or t 0 0 ≡ 114 → ⊥) → eqb (get_or t 0 0) 40 ≡ false
    → count_of t ≡ None
unfolding count_of
no_count [] some r b = absurd (omega arith)
no_count (x ∷ xs) some r b =
    rw (after_none 114 (codes "ows ") x xs (ne_eqb x 114 r), after_none 40 [] x xs b) refl

-- the last byte alone
last_of : (line : List ℕ) (n : ℕ) → length line ≡ suc n → drop n line ≡ get_or line n 0 ∷ []
last_of line n e =
    drop_more line n 0 (omega arith) ∙ ap (λ z. get_or line n 0 ∷ z) (drop_all _ line (omega arith))

stays : (line : List ℕ) (n : ℕ) → length line ≡ suc n → length line - 1 ≡ n → eqb (get_or line n 0) 13 ≡ false
    → without_return line ≡ line
unfolding before_of is_word
stays line n e less b =
    let some : ltb (length line) 1 ≡ false = le-ltb _ _ (omega arith) in rw (some, less, last_of line n e, b) refl

goes : (line : List ℕ) (n : ℕ) → length line ≡ suc n → length line - 1 ≡ n → eqb (get_or line n 0) 13 ≡ true
    → without_return line ≡ take n line
unfolding before_of is_word
goes line n e less b =
    let some : ltb (length line) 1 ≡ false = le-ltb _ _ (omega arith) in rw (some, less, last_of line n e, b) refl

-- a line without bytes, with another last byte than a carriage return, or with one
pub return_empty : (line : List ℕ) → eqb (length line) 0 ≡ true → line ≡ without_return line
unfolding before_of is_word
return_empty [] e = refl
return_empty (x ∷ xs) e = absurd (let n = eqb-true (length (x ∷ xs)) 0 e in omega arith)

pub return_stays : (line : List ℕ) → eqb (length line) 0 ≡ false
    → (get_or line (length line - 1) 0 ≡ 13 → ⊥) → line ≡ without_return line
return_stays line some b =
    let n = eqb-false (length line) 0 some in
    sym (stays line (length line - 1) (omega arith) refl (ne_eqb _ 13 b))

pub return_goes : (line : List ℕ) → eqb (length line) 0 ≡ false → get_or line (length line - 1) 0 ≡ 13
    → take (length line - 1) line ≡ without_return line
return_goes line some b =
    let n = eqb-false (length line) 0 some in
    sym (goes line (length line - 1) (omega arith) refl (eq-eqb _ 13 b))
