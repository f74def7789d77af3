-- Columns tell rows apart; and the first row that differs.
use Rattle.std.proofs.Common.{◌≡◌, ◌↔◌, ℕ, ◌+◌, ◌-◌, Bool, true, false, List, [], ◌∷◌, ◌++◌, length, take, Option, None}
use Rattle.std.proofs.Common.{if◌then◌else◌, Some, refl, sym, ap, subst, ◌∙◌, arith, append_assoc}
use Rattle.std.specs.List.{list_all}
use Rattle.std.specs.Cmp.{IsTotalOrder}
use Rattle.std.specs.Cmp.Lexicographic.{same_text}
use Rattle.std.specs.FinMap.{IsAntisymmetric}
use Rattle.std.specs.declared.cmp.Ordering.{Ordering}
use Rattle.std.specs.declared.cmp.Ordering.TheVariants.{Less, Equal, Greater}
use Rattle.oe_values.proofs.FrontFacts.{both}
use Rattle.std.proofs.lemmas.Cmp.{tied_itself}
use Rattle.std.proofs.lemmas.List.{length-append, take_at}
use Rattle.oe_texts.specs.Column.{line_of}
use Rattle.oe_file_rows.specs.declared.forms.Form.{Form}
use Rattle.oe_file_rows.specs.Value.{Value}
use Rattle.oe_file_rows.specs.Line.{all_forms, AreSpelled}
use Rattle.oe_file_rows.specs.Dumped.{AreReadBack}
use Rattle.oe_file_rows.proofs.WordFacts.{is_small, value_only}
use Rattle.oe_comparison.specs.Columns.{Other, is_same, column_texts, shown_line, first_other}
use Rattle.oe_comparison.specs.Differences.{Difference, Extra, Missing, Column, differences_at, differences}
use Rattle.oe_comparison.specs.Laws.{AreToldApart, AreSame, BeginsSo, IsFirst}

-- ---- a row's line and its end

abbrev front_of : List (List ℕ) → List ℕ
front_of [] = []
front_of (c ∷ []) = c
front_of (c ∷ d ∷ cs) = c ++ 9 ∷ front_of (d ∷ cs)

line_front : (cs : List (List ℕ)) → line_of cs ≡ front_of cs ++ 10 ∷ []
line_front [] = refl
line_front (c ∷ []) = refl
line_front (c ∷ d ∷ cs) =
    ap (λ z. c ++ 9 ∷ z) (line_front (d ∷ cs)) ∙ sym (append_assoc c (9 ∷ front_of (d ∷ cs)) (10 ∷ []))

without_end : (f : List ℕ) → take (length (f ++ 10 ∷ []) - 1) (f ++ 10 ∷ []) ≡ f
without_end f =
    let long = length-append f (10 ∷ []) in
    take_at f (10 ∷ []) (length (f ++ 10 ∷ []) - 1) (omega (arith, long))

pub line_shown : (cs : List (List ℕ)) → line_of cs ≡ shown_line cs ++ 10 ∷ []
line_shown cs =
    let is = line_front cs in
    let front : shown_line cs ≡ front_of cs =
    ap (λ l. take (length l - 1) l) is ∙ without_end (front_of cs) in
    is ∙ ap (λ z. z ++ 10 ∷ []) (sym front)

-- ---- what an option is not, and what a list is not

no_some : {A : Type 0} (x : A) → Some x ≡ None → ⊥
no_some x e = cc

some_is : {A : Type 0} (x y : A) → Some x ≡ Some y → x ≡ y
some_is x y e = cc

no_front : {A : Type 0} (x : A) (xs : List A) → x ∷ xs ≡ [] → ⊥
no_front x xs e = cc

no_end : {A : Type 0} (x : A) (xs : List A) → [] ≡ x ∷ xs → ⊥
no_end x xs e = cc

front_is : {A : Type 0} (x y : A) (xs ys : List A) → x ∷ xs ≡ y ∷ ys → x ≡ y
front_is x y xs ys e = cc

-- ---- rows without a column that differs

abbrev first_other_by : ℕ → List ℕ → List ℕ → List (List ℕ) → List (List ℕ) → Bool → Option Other
first_other_by n x y xs ys c =
    if c then first_other (n + 1) xs ys else Some (record { place = n; theirs = x; ours = y })

same_first : (n : ℕ) (x y : List ℕ) (xs ys : List (List ℕ)) (b : Bool) → b ≡ is_same x y
    → first_other n (x ∷ xs) (y ∷ ys) ≡ None → (x ≡ y) × (first_other (n + 1) xs ys ≡ None)
same_first n x y xs ys true is h = (
  same_text x y is,
  subst (λ (c : Bool). first_other_by n x y xs ys c ≡ None)
      (sym is) h,
)
same_first n x y xs ys false is h =
    absurd (no_some _ (subst (λ (c : Bool). first_other_by n x y xs ys c ≡ None) (sym is) h))

same_fields : (n : ℕ) (xs ys : List (List ℕ)) → length xs ≡ length ys → first_other n xs ys ≡ None → xs ≡ ys
same_fields n [] [] long h = refl
same_fields n [] (y ∷ ys) long h = absurd (omega (arith, long))
same_fields n (x ∷ xs) [] long h = absurd (omega (arith, long))
same_fields n (x ∷ xs) (y ∷ ys) long h =
    let first = same_first n x y xs ys (is_same x y) refl h in
    let rest = same_fields (n + 1) xs ys (omega (arith, long)) first.1 in
    λ i. first.0 i ∷ rest i

as_long : (fs : List Form) (vs : List Value) (ss : List (List ℕ)) → AreSpelled fs vs ss → length ss ≡ length fs
as_long [] [] [] h = refl
as_long (f ∷ fs) (v ∷ vs) (s ∷ ss) h =
    let rest = as_long fs vs ss h.2 in
    omega (arith, rest)
as_long [] [] (s ∷ ss) h = absurd h
as_long [] (v ∷ vs) ss h = absurd h
as_long (f ∷ fs) [] ss h = absurd h
as_long (f ∷ fs) (v ∷ vs) [] h = absurd h

one_value : (v w : Value) (o : Option Value) → o ≡ Some v → o ≡ Some w → v ≡ w
one_value v w o e f =
    let same : Some v ≡ Some w = sym e ∙ f in
    cc

one_row : (fs : List Form) (vs ws : List Value) (ss : List (List ℕ)) → list_all is_small fs ≡ true
    → AreSpelled fs vs ss → AreSpelled fs ws ss → vs ≡ ws
one_row [] [] [] [] small h k = refl
one_row (f ∷ fs) (v ∷ vs) (w ∷ ws) (s ∷ ss) small h k =
    let sizes : (is_small f ≡ true) × (list_all is_small fs ≡ true) = both (is_small f) (list_all is_small fs) small in
    let first = one_value v w _ (value_only f v s sizes.0 h.0 h.1) (value_only f w s sizes.0 k.0 k.1) in
    let rest = one_row fs vs ws ss sizes.1 h.2 k.2 in
    λ i. first i ∷ rest i
one_row [] [] [] (s ∷ ss) small h k = absurd h
one_row [] [] (w ∷ ws) ss small h k = absurd k
one_row [] (v ∷ vs) ws ss small h k = absurd h
one_row (f ∷ fs) [] ws ss small h k = absurd h
one_row (f ∷ fs) (v ∷ vs) [] ss small h k = absurd k
one_row (f ∷ fs) (v ∷ vs) (w ∷ ws) [] small h k = absurd h

pub told_apart : {R : Type 0} (forms : List (List Form)) (values : R → List Value) (columns : R → List (List ℕ))
    → list_all is_small (all_forms forms) ≡ true → AreReadBack forms values columns
    → ((a b : R) → values a ≡ values b → a ≡ b) → AreToldApart forms values columns
told_apart forms values columns small back inj a b ha hb none =
    let one = back a (shown_line (columns a)) ha (line_shown (columns a)) in
    let two = back b (shown_line (columns b)) hb (line_shown (columns b)) in
    let first = as_long (all_forms forms) (values a) (column_texts (columns a)) one in
    let second = as_long (all_forms forms) (values b) (column_texts (columns b)) two in
    let fields = same_fields 0 (column_texts (columns a)) (column_texts (columns b)) (first ∙ sym second) none in
    inj a b
    (one_row (all_forms forms) (values a) (values b) (column_texts (columns b)) small
    (subst (AreSpelled (all_forms forms) (values a)) fields one) two)

-- ---- the first row that differs

module _ {K : Type 0} (cmp : K → K → Ordering) (exact : IsAntisymmetric cmp) (total : IsTotalOrder cmp) where
  met_same : (t o : K × List (List ℕ)) (ts os : List (K × List (List ℕ))) (below both above : List (Difference K))
      → (both ≡ [] → AreSame ts os) → (c : Ordering) → cmp t.0 o.0 ≡ c → (x : Option Other)
      → first_other 0 t.1 o.1 ≡ x → differences_at c t.0 o.0 x below both above ≡ [] → AreSame (t ∷ ts) (o ∷ os)
  met_same t o ts os below both above again Less e x f h = absurd (no_front _ _ h)
  met_same t o ts os below both above again Greater e x f h = absurd (no_front _ _ h)
  met_same t o ts os below both above again Equal e (Some c) f h = absurd (no_front _ _ h)
  met_same t o ts os below both above again Equal e None f h = (exact t.0 o.0 e, f, again h)

  all_same : (ts os : List (K × List (List ℕ))) → differences cmp ts os ≡ [] → AreSame ts os
  all_same [] [] h = tt
  all_same [] (o ∷ os) h = absurd (no_front _ _ h)
  all_same (t ∷ ts) [] h = absurd (no_front _ _ h)
  all_same (t ∷ ts) (o ∷ os) h =
      met_same t o ts os _ _ _ (all_same ts os) (cmp t.0 o.0) refl (first_other 0 t.1 o.1) refl h

  none_differs : (ts os : List (K × List (List ℕ))) → AreSame ts os → differences cmp ts os ≡ []
  none_differs [] [] h = refl
  none_differs [] (o ∷ os) h = absurd h
  none_differs (t ∷ ts) [] h = absurd h
  none_differs (t ∷ ts) (o ∷ os) h =
      let tie : cmp t.0 o.0 ≡ Equal = subst (λ (k : K). cmp t.0 k ≡ Equal) h.0 (tied_itself total t.0) in
      rw (tie, h.1) (none_differs ts os h.2)

  pub none_is_same : (ts os : List (K × List (List ℕ))) → (differences cmp ts os ≡ []) ↔ AreSame ts os
  none_is_same ts os = (all_same ts os, none_differs ts os)

  -- a difference at the first rows of both sides
  at_once : (ts os : List (K × List (List ℕ))) (d e : Difference K) → d ≡ e → BeginsSo cmp ts os d
      → IsFirst cmp ts os e
  at_once ts os d e is begins = subst (λ (z : Difference K). IsFirst cmp ts os z) is
      (record {
        their_front = [];
        our_front = [];
        their_rest = ts;
        our_rest = os;
        theirs_are = refl;
        ours_are = refl;
        same = tt;
        begins = begins;
      })

  met_first : (t o : K × List (List ℕ)) (ts os : List (K × List (List ℕ))) (d : Difference K)
      (ds below both above : List (Difference K)) → (both ≡ d ∷ ds → IsFirst cmp ts os d) → (c : Ordering)
      → cmp t.0 o.0 ≡ c → (x : Option Other) → first_other 0 t.1 o.1 ≡ x
      → differences_at c t.0 o.0 x below both above ≡ d ∷ ds → IsFirst cmp (t ∷ ts) (o ∷ os) d
  met_first t o ts os d ds below both above again Less e x f h =
      at_once (t ∷ ts) (o ∷ os) (Extra t.0) d (front_is _ _ _ _ h) (refl, e)
  met_first t o ts os d ds below both above again Greater e x f h =
      at_once (t ∷ ts) (o ∷ os) (Missing o.0) d (front_is _ _ _ _ h) (refl, e)
  met_first t o ts os d ds below both above again Equal e (Some c) f h =
      at_once (t ∷ ts) (o ∷ os) (Column o.0 c) d (front_is _ _ _ _ h) (refl, exact t.0 o.0 e, f)
  met_first t o ts os d ds below both above again Equal e None f h =
      let r = again h in
      record {
        their_front = t ∷ r.their_front;
        our_front = o ∷ r.our_front;
        their_rest = r.their_rest;
        our_rest = r.our_rest;
        theirs_are = ap (λ z. t ∷ z) r.theirs_are;
        ours_are = ap (λ z. o ∷ z) r.ours_are;
        same = (exact t.0 o.0 e, f, r.same);
        begins = r.begins;
      }

  pub some_is_first : (ts os : List (K × List (List ℕ))) (d : Difference K) (ds : List (Difference K))
      → differences cmp ts os ≡ d ∷ ds → IsFirst cmp ts os d
  some_is_first [] [] d ds h = absurd (no_end _ _ h)
  some_is_first [] (o ∷ os) d ds h = at_once [] (o ∷ os) (Missing o.0) d (front_is _ _ _ _ h) refl
  some_is_first (t ∷ ts) [] d ds h = at_once (t ∷ ts) [] (Extra t.0) d (front_is _ _ _ _ h) refl
  some_is_first (t ∷ ts) (o ∷ os) d ds h =
      met_first t o ts os d ds _ _ _ (some_is_first ts os d ds) (cmp t.0 o.0) refl (first_other 0 t.1 o.1) refl h
