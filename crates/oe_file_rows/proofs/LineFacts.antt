-- A line is read exactly: its values, or its first fault.
use Rattle.std.proofs.Common.{◌≡◌, ℕ, ◌+◌, inl, inr, List, [], ◌∷◌, ◌++◌, true, Option, Some, None}
use Rattle.std.proofs.Common.{Result, Ok, Err}
use Rattle.std.proofs.Common.{sym, ap, subst, ◌∙◌, refl}
use Rattle.std.specs.List.{list_all}
use Rattle.oe_values.proofs.FrontFacts.{both}
use Rattle.oe_file_rows.specs.declared.forms.Form.{Form}
use Rattle.oe_file_rows.specs.declared.forms.LineFault.{LineFault}
use Rattle.oe_file_rows.specs.declared.forms.LineFault.TheVariants.{NoForm, MissingColumn, ExtraColumn}
use Rattle.oe_file_rows.specs.Value.{Value}
use Rattle.oe_file_rows.specs.Word.{value_of}
use Rattle.oe_file_rows.specs.Line.{all_forms, fields_of, AreSpelled, FailsAt, ReadsLeft, ReadsRow, Left, ◌>>=◌}
use Rattle.oe_file_rows.specs.Line.{column, column_value}
use Rattle.oe_file_rows.specs.Line.{columns, values_at_end, group_columns, row_as}
use Rattle.oe_file_rows.proofs.WordFacts.{value_found, is_small, value_only}

abbrev left : ℕ → List (List ℕ) → Left
left n ss = record { column = n; fields = ss }

-- ---- groups are read as their columns one after another

abbrev whole : List Form → Left → Result (List Value) LineFault
whole [] l = values_at_end l
whole (f ∷ fs) l = column f l >>= λ v. whole fs v.1 >>= λ ws. Ok (v.0 ∷ ws)

same : (r : Result (List Value) LineFault) → (r >>= λ ws. Ok ([] ++ ws)) ≡ r
same (Ok ws) = refl
same (Err e) = refl

pushed_on : (v : Value) (vs : List Value) (r : Result (List Value) LineFault)
    → (r >>= λ ws. Ok ((v ∷ vs) ++ ws)) ≡ ((r >>= λ ws. Ok (vs ++ ws)) >>= λ ws. Ok (v ∷ ws))
pushed_on v vs (Ok ws) = refl
pushed_on v vs (Err e) = refl

-- with a value before the others
abbrev with_first : Value → List Value × Left → Result (List Value × Left) LineFault
with_first v vs = Ok (v ∷ vs.0, vs.1)

pushed : (v : Value) (c : Result (List Value × Left) LineFault) (gs : List (List Form))
    → ((c >>= with_first v) >>= λ vs. group_columns gs vs.1 >>= λ ws. Ok (vs.0 ++ ws))
    ≡ ((c >>= λ vs. group_columns gs vs.1 >>= λ ws. Ok (vs.0 ++ ws)) >>= λ ws. Ok (v ∷ ws))
pushed v (Err e) gs = refl
pushed v (Ok vs) gs = pushed_on v vs.0 (group_columns gs vs.1)

abbrev After : List (List Form) → Type 0
After gs = (l : Left) → group_columns gs l ≡ whole (all_forms gs) l

one_more : (gs : List (List Form)) (fs : List Form)
    → ((l : Left) → (columns fs l >>= λ vs. group_columns gs vs.1 >>= λ ws. Ok (vs.0 ++ ws))
    ≡ whole (fs ++ all_forms gs) l)
    → (r : Result (Value × Left) LineFault)
    → ((r >>= λ v. columns fs v.1 >>= with_first v.0) >>= λ vs. group_columns gs vs.1 >>= λ ws. Ok (vs.0 ++ ws))
    ≡ (r >>= λ v. whole (fs ++ all_forms gs) v.1 >>= λ ws. Ok (v.0 ∷ ws))
one_more gs fs again (Err e) = refl
one_more gs fs again (Ok v) =
    pushed v.0 (columns fs v.1) gs ∙ ap (λ r. r >>= λ ws. Ok (v.0 ∷ ws)) (again v.1)

group_is : (gs : List (List Form)) → After gs → (g : List Form) (l : Left)
    → (columns g l >>= λ vs. group_columns gs vs.1 >>= λ ws. Ok (vs.0 ++ ws)) ≡ whole (g ++ all_forms gs) l
group_is gs after [] l = same (group_columns gs l) ∙ after l
group_is gs after (f ∷ fs) l = one_more gs fs (group_is gs after fs) (column f l)

grouped_is : (gs : List (List Form)) (l : Left) → group_columns gs l ≡ whole (all_forms gs) l
grouped_is [] l = refl
grouped_is (g ∷ gs) l = group_is gs (grouped_is gs) g l

-- ---- what is read is spelled

cons_ok : (v : Value) (r : Result (List Value) LineFault) (vs : List Value) → (r >>= λ ws. Ok (v ∷ ws)) ≡ Ok vs
    → (ws : List Value) × (r ≡ Ok ws) × (v ∷ ws ≡ vs)
cons_ok v (Ok ws) vs e = (ws, refl, cc)
cons_ok v (Err x) vs e = absurd (cc)

cons_err : (v : Value) (r : Result (List Value) LineFault) (e : LineFault) → (r >>= λ ws. Ok (v ∷ ws)) ≡ Err e → r
    ≡ Err e
cons_err v (Ok ws) e h = absurd (cc)
cons_err v (Err x) e h = cc

abbrev Spelled : List Form → List (List ℕ) → List Value → Type 0
Spelled fs ss vs = AreSpelled fs vs ss

first_found : (f : Form) (n : ℕ) (fs : List Form) (s : List ℕ) (ss : List (List ℕ)) (vs : List Value)
    → ((ws : List Value) → whole fs (left (n + 1) ss) ≡ Ok ws → Spelled fs ss ws)
    → (o : Option Value) → value_of f s ≡ o → (column_value f n ss o >>= λ v. whole fs v.1 >>= λ ws. Ok (v.0 ∷ ws))
    ≡ Ok vs
    → Spelled (f ∷ fs) (s ∷ ss) vs
first_found f n fs s ss vs again None h e = absurd (cc)
first_found f n fs s ss vs again (Some v) h e =
    let rest = cons_ok v (whole fs (left (n + 1) ss)) vs e in
    let found = value_found f s v h in
    subst (Spelled (f ∷ fs) (s ∷ ss)) rest.2 (found.0, found.1, again rest.0 rest.1)

whole_found : (n : ℕ) (fs : List Form) (ss : List (List ℕ)) (vs : List Value) → whole fs (left n ss) ≡ Ok vs
    → Spelled fs ss vs
unfolding column values_at_end
whole_found n [] [] vs e = subst (Spelled [] []) (same_ok [] vs e) tt
  where
    same_ok : (a b : List Value) → ◌≡◌ {A = Result (List Value) LineFault} (Ok a) (Ok b) → a ≡ b
    same_ok a b e = cc
whole_found n [] (s ∷ ss) vs e = absurd (cc)
whole_found n (f ∷ fs) [] vs e = absurd (cc)
whole_found n (f ∷ fs) (s ∷ ss) vs e =
    first_found f n fs s ss vs (whole_found (n + 1) fs ss) (value_of f s) refl e

-- ---- what is spelled is read

whole_only : (n : ℕ) (fs : List Form) (vs : List Value) (ss : List (List ℕ)) → list_all is_small fs ≡ true
    → AreSpelled fs vs ss → whole fs (left n ss) ≡ Ok vs
unfolding column values_at_end
whole_only n [] [] [] small h = refl
whole_only n (f ∷ fs) (v ∷ vs) (s ∷ ss) small h =
    let sizes : (is_small f ≡ true) × (list_all is_small fs ≡ true) = both (is_small f) (list_all is_small fs) small in
    rw (value_only f v s sizes.0 h.0 h.1, whole_only (n + 1) fs vs ss sizes.1 h.2) refl
whole_only n [] [] (s ∷ ss) small h = absurd h
whole_only n [] (v ∷ vs) ss small h = absurd h
whole_only n (f ∷ fs) [] ss small h = absurd h
whole_only n (f ∷ fs) (v ∷ vs) [] small h = absurd h

-- ---- what is told else is the first fault

first_fault : (f : Form) (n : ℕ) (fs : List Form) (s : List ℕ) (ss : List (List ℕ)) (e : LineFault)
    → is_small f ≡ true → (whole fs (left (n + 1) ss) ≡ Err e → FailsAt (n + 1) fs ss e)
    → (o : Option Value) → value_of f s ≡ o → (column_value f n ss o >>= λ v. whole fs v.1 >>= λ ws. Ok (v.0 ∷ ws))
    ≡ Err e
    → FailsAt n (f ∷ fs) (s ∷ ss) e
first_fault f n fs s ss e small again None h is =
    inl (
      λ has. let read = value_only f has.0 s small has.1 has.2 in absurd (cc),
      same_err e (NoForm n f) is,
    )
  where
    same_err : (a b : LineFault) → ◌≡◌ {A = Result (List Value) LineFault} (Err b) (Err a) → a ≡ b
    same_err a b e = cc
first_fault f n fs s ss e small again (Some v) h is =
    let found = value_found f s v h in
    inr ((v, found.0, found.1), again (cons_err v (whole fs (left (n + 1) ss)) e is))

err_is : (a b : LineFault) → ◌≡◌ {A = Result (List Value) LineFault} (Err b) (Err a) → a ≡ b
err_is a b e = cc

whole_fault : (n : ℕ) (fs : List Form) (ss : List (List ℕ)) (e : LineFault) → list_all is_small fs ≡ true
    → whole fs (left n ss) ≡ Err e → FailsAt n fs ss e
unfolding column values_at_end
whole_fault n [] [] e small h = absurd (cc)
whole_fault n [] (s ∷ ss) e small h = err_is e ExtraColumn h
whole_fault n (f ∷ fs) [] e small h = err_is e (MissingColumn n) h
whole_fault n (f ∷ fs) (s ∷ ss) e small h =
    let sizes : (is_small f ≡ true) × (list_all is_small fs ≡ true) = both (is_small f) (list_all is_small fs) small in
    first_fault f n fs s ss e sizes.0 (whole_fault (n + 1) fs ss e sizes.1) (value_of f s) refl h

-- ---- rows

abbrev IsInjective : {R : Type 0} → (R → List Value) → Type 0
IsInjective {R = R} values = (a b : R) → values a ≡ values b → a ≡ b

rows_same : {R : Type 0} (values : R → List Value) → IsInjective values → (r : Result R LineFault) (b : R)
    → row_as values r ≡ Ok (values b) → r ≡ Ok b
rows_same values inj (Ok a) b e = ap (λ x. Ok x) (inj a b (cc))
rows_same values inj (Err x) b e = absurd (cc)

pub left_reads : {R : Type 0} (l : Left) (forms : List (List Form)) (values : R → List Value)
    → list_all is_small (all_forms forms) ≡ true → IsInjective values
    → (r : Result R LineFault) → row_as values r ≡ group_columns forms l → ReadsLeft l forms values r
left_reads l forms values small inj r e =
    let read = e ∙ grouped_is forms l in
    record {
      found = λ x h. whole_found l.column (all_forms forms) l.fields (values x) (sym read ∙ ap (row_as values) h);
      finds = λ x h.
          rows_same values inj r x (read ∙ whole_only l.column (all_forms forms) (values x) l.fields small h);
      fault = λ x h. whole_fault l.column (all_forms forms) l.fields x small (sym read ∙ ap (row_as values) h);
    }

pub row_reads : {R : Type 0} (place : ℕ) (forms : List (List Form)) (values : R → List Value)
    → list_all is_small (all_forms forms) ≡ true → IsInjective values
    → (line : List ℕ) (r : Result R LineFault) → row_as values r ≡ group_columns forms (left place (fields_of line))
    → ReadsRow place forms values line r
row_reads place forms values small inj line r e = left_reads (left place (fields_of line)) forms values small inj r e
