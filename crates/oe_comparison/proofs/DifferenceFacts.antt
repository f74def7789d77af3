-- The rows that differ, one row after another.
use Rattle.std.proofs.Common.{◌≡◌, ℕ, zero, suc, ◌+◌, ◌<◌, ◌==◌, false, List, [], ◌∷◌, length, map}
use Rattle.std.proofs.Common.{if◌then◌else◌, Bor, Option, None, Some, Ok, refl, sym, ap, subst, ◌∙◌, arith}
use Rattle.std.proofs.lemmas.Bool.{ne_eqb}
use Rattle.std.specs.Iterator.{YieldsFirstBy}
use Rattle.std.specs.Ordering.{is_le, is_ge}
use Rattle.std.specs.declared.cmp.Ordering.{Ordering}
use Rattle.std.specs.declared.cmp.Ordering.TheVariants.{Less, Equal, Greater}
use Rattle.oe_rows.specs.declared.keys.Table.{Table}
use Rattle.oe_file_tables.specs.declared.lines.Numbered.{Numbered}
use Rattle.oe_comparison.specs.Columns.{Other, column_texts, first_other}
use Rattle.oe_comparison.specs.Differences.{Difference, Extra, Missing, Column, differences, with_columns, theirs_shown}
use Rattle.oe_comparison.specs.Differences.{keyless, row_by_key, own_key}
use Rattle.oe_comparison.specs.Texts.{Told, with_line, with_first, with_more, with_differences}
use Rattle.oe_comparison.specs.Walks.{rows_from, pair_of, key_and_texts, at_rows, front, Counts, TellsFront}
use Rattle.oe_comparison.specs.declared.sides.Turn.TheVariants as turn

-- ---- the difference that the first rows make

module _ {K : Type 0} (cmp : K → K → Ordering) where
  before : (ts os : List (K × List (List ℕ))) (t o : K × List (List ℕ)) → cmp t.0 o.0 ≡ Less
      → differences cmp (t ∷ ts) (o ∷ os) ≡ Extra t.0 ∷ differences cmp ts (o ∷ os)
  before ts os t o c = rw c refl

  behind : (ts os : List (K × List (List ℕ))) (t o : K × List (List ℕ)) → cmp t.0 o.0 ≡ Greater
      → differences cmp (t ∷ ts) (o ∷ os) ≡ Missing o.0 ∷ differences cmp (t ∷ ts) os
  behind ts os t o c = rw c refl

  other : (ts os : List (K × List (List ℕ))) (t o : K × List (List ℕ)) (x : Other) → cmp t.0 o.0 ≡ Equal
      → first_other 0 t.1 o.1 ≡ Some x
      → differences cmp (t ∷ ts) (o ∷ os) ≡ Column o.0 x ∷ differences cmp ts os
  other ts os t o x c is = rw (c, is) refl

  same : (ts os : List (K × List (List ℕ))) (t o : K × List (List ℕ)) → cmp t.0 o.0 ≡ Equal
      → first_other 0 t.1 o.1 ≡ None → differences cmp (t ∷ ts) (o ∷ os) ≡ differences cmp ts os
  same ts os t o c is = rw (c, is) refl

-- ---- what is left of a walk: the row that it looks at, and those behind it

pub pair_left : {S K X : Type 0} (left : S → List (K × X)) (s t : S) (r : Option (Bor K × Bor X))
    → YieldsFirstBy (λ p. (p.0.now, p.1.now)) left s r t → rows_from (pair_of r) (left t) ≡ left s
pair_left left s t None h = sym h.0
pair_left left s t (Some p) h = sym h

-- rows of a slice, each its own key
none_of : {X : Type 0} (xs : List X) → length xs ≡ 0 → [] ≡ xs
none_of [] e = refl
none_of (x ∷ xs) e = absurd (omega (arith, e))

-- ---- what was told so far

-- what is left of all rows that differ, behind n of them: the walk told the first
abbrev pub IsAhead : {D : Type 0} → (D → List ℕ) → List D → List D → ℕ → Told → Told → Type 0
IsAhead line all rest zero start now = (rest ≡ all) × (now ≡ start)
IsAhead line all rest (suc n) start now = (suc n + length rest ≡ length all) × (now ≡ with_first line all start)

one_more : {D : Type 0} (line : D → List ℕ) (all rest rest' : List D) (d : D) (n m : ℕ) (start now now' : Told)
    → IsAhead line all rest n start now → rest ≡ d ∷ rest' → m ≡ n + 1
    → now' ≡ (if n == 0 then with_line (line d) now else now) → IsAhead line all rest' m start now'
one_more line all rest rest' d zero m start now now' h is counted told =
    let whole : all ≡ d ∷ rest' = sym h.0 ∙ is in
    let long : suc (length rest') ≡ length all = sym (ap length whole) in
    let first : now' ≡ with_first line all start =
    told ∙ ap (λ t. with_line (line d) t) h.1 ∙ ap (λ ds. with_first line ds start) (sym whole) in
    subst (λ k. IsAhead line all rest' k start now') (sym counted) (omega (arith, long), first)
one_more line all rest rest' d (suc n) m start now now' h is counted told =
    let long : length rest ≡ suc (length rest') = ap length is in
    let sum = h.0 in
    let more : suc (suc n) + length rest' ≡ length all = omega (arith, long, sum) in
    let next : m ≡ suc (suc n) = omega (arith, counted) in
    let behind : (suc n == 0) ≡ false = ne_eqb (suc n) 0 (λ e. omega arith) in
    let same : now' ≡ now = told ∙ ap (λ b. if b then with_line (line d) now else now) behind in
    subst (λ k. IsAhead line all rest' k start now') (sym next) (more, same ∙ h.1)

none_more : {D : Type 0} (line : D → List ℕ) (all rest rest' : List D) (n m : ℕ) (start now now' : Told)
    → IsAhead line all rest n start now → rest ≡ rest' → m ≡ n → now' ≡ now → IsAhead line all rest' m start now'
none_more line all rest rest' n m start now now' h is counted told = rw (← is, counted, told) h

pub all_told : {D : Type 0} (line : D → List ℕ) (t : Table) (all rest : List D) (n : ℕ) (start now new : Told)
    → IsAhead line all rest n start now → rest ≡ [] → new ≡ with_more t n now → new ≡ with_differences t line all start
all_told line t all rest zero start now new h is told =
    let none : all ≡ [] = sym h.0 ∙ is in
    told ∙ h.1 ∙ sym (ap (λ ds. with_differences t line ds start) none)
all_told line t all rest (suc n) start now new h is told =
    let long : length rest ≡ 0 = ap length is in
    let sum = h.0 in
    let all_of_them : suc n ≡ length all = omega (arith, long, sum) in
    told ∙ ap (λ z. with_more t (suc n) z) h.1
    ∙ ap (λ k. with_more t k (with_first line all start)) all_of_them

-- ---- what the next rows of both sides add

abbrev before_rest : {D : Type 0} → Option D → List D → List D
before_rest None ds = ds
before_rest (Some d) ds = d ∷ ds

module _ {K X : Type 0} (cmp : K → K → Ordering) (columns : K → X → List (List ℕ)) (line : Difference K → List ℕ)
    (all : List (Difference K)) (start : Told) where
  -- the rows behind these were passed
  abbrev pub Ahead : List (K × X) → List (K × X) → ℕ → Told → Type 0
  Ahead ts os n now =
      IsAhead line all (differences cmp (with_columns columns ts) (with_columns columns os)) n start now

  pub ahead_of : (ts ts' os os' : List (K × X)) (n : ℕ) (now : Told) → ts' ≡ ts → os' ≡ os → Ahead ts os n now
      → Ahead ts' os' n now
  ahead_of ts ts' os os' n now e f h = rw (e, f) h

  counted : (d : Option (Difference K)) (rest rest' : List (Difference K)) (n m : ℕ) (now now' : Told)
      → Counts line d n m now now' → rest ≡ before_rest d rest' → IsAhead line all rest n start now
      → IsAhead line all rest' m start now'
  counted None rest rest' n m now now' told is h = none_more line all rest rest' n m start now now' h is told.0 told.1
  counted (Some d) rest rest' n m now now' told is h =
      one_more line all rest rest' d n m start now now' h is told.0 told.1

  -- the rows that are left behind the next ones
  abbrev their_rest : Ordering → List (K × X) → List (K × X) → List (K × X)
  their_rest p xs ts = if is_le p then xs else ts

  abbrev our_rest : Ordering → List (K × X) → List (K × X) → List (K × X)
  our_rest p ys os = if is_ge p then ys else os

  -- where both sides have one
  met : (t o : K × X) (xs ys : List (K × X)) (n m : ℕ) (now now' : Told) (c : Ordering) → cmp t.0 o.0 ≡ c
      → (d : Option Other) → first_other 0 (columns t.0 t.1) (columns o.0 o.1) ≡ d
      → Counts line (at_rows c t.0 o.0 d).difference n m now now' → Ahead (t ∷ xs) (o ∷ ys) n now
      → Ahead (their_rest (at_rows c t.0 o.0 d).passed xs (t ∷ xs))
      (our_rest (at_rows c t.0 o.0 d).passed ys (o ∷ ys)) m now'
  met t o xs ys n m now now' Less is d f told h =
      let is_so = before cmp (with_columns columns xs) (with_columns columns ys) (t.0, columns t.0 t.1)
      (o.0, columns o.0 o.1) is in
      counted (Some (Extra t.0)) _ _ n m now now' told is_so h
  met t o xs ys n m now now' Greater is d f told h =
      let is_so = behind cmp (with_columns columns xs) (with_columns columns ys) (t.0, columns t.0 t.1)
      (o.0, columns o.0 o.1) is in
      counted (Some (Missing o.0)) _ _ n m now now' told is_so h
  met t o xs ys n m now now' Equal is (Some x) f told h =
      let is_so = other cmp (with_columns columns xs) (with_columns columns ys) (t.0, columns t.0 t.1)
      (o.0, columns o.0 o.1) x is f in
      counted (Some (Column o.0 x)) _ _ n m now now' told is_so h
  met t o xs ys n m now now' Equal is None f told h =
      let is_so = same cmp (with_columns columns xs) (with_columns columns ys) (t.0, columns t.0 t.1)
      (o.0, columns o.0 o.1) is f in
      counted None _ _ n m now now' told is_so h

  -- by what the next rows are, and what was told of them
  pub passed_by : (E : Type 0) (r q : Option (Bor K × Bor X)) (xs ys : List (K × X)) (n m : ℕ) (p : Ordering)
      (now now' : Told)
      → TellsFront {E = E} line (front cmp (key_and_texts columns r) (key_and_texts columns q)) n now now'
      (Ok (turn.Passed p m))
      → Ahead (rows_from (pair_of r) xs) (rows_from (pair_of q) ys) n now
      → Ahead (their_rest p xs (rows_from (pair_of r) xs)) (our_rest p ys (rows_from (pair_of q) ys)) m now'
  passed_by E None None xs ys n m p now now' told h = absurd told
  passed_by E (Some t) None xs ys n m p now now' told h =
      subst (λ (z : Ordering). Ahead (their_rest z xs ((t.0.now, t.1.now) ∷ xs)) (our_rest z ys []) m now') (sym told.0)
      (counted (Some (Extra t.0.now)) _ _ n m now now' told.1 refl h)
  passed_by E None (Some o) xs ys n m p now now' told h =
      subst (λ (z : Ordering). Ahead (their_rest z xs []) (our_rest z ys ((o.0.now, o.1.now) ∷ ys)) m now') (sym told.0)
      (counted (Some (Missing o.0.now)) _ _ n m now now' told.1 refl h)
  passed_by E (Some t) (Some o) xs ys n m p now now' told h =
      subst (λ (z : Ordering).
      Ahead (their_rest z xs ((t.0.now, t.1.now) ∷ xs)) (our_rest z ys ((o.0.now, o.1.now) ∷ ys)) m now') (sym told.0)
      (met (t.0.now, t.1.now) (o.0.now, o.1.now) xs ys n m now now' (cmp t.0.now o.0.now) refl
      (first_other 0 (columns t.0.now t.1.now) (columns o.0.now o.1.now)) refl told.1 h)

  -- fewer rows are left
  fewer_met : (t o : K × X) (xs ys : List (K × X)) (c : Ordering) (d : Option Other)
      → length (their_rest (at_rows c t.0 o.0 d).passed xs (t ∷ xs))
      + length (our_rest (at_rows c t.0 o.0 d).passed ys (o ∷ ys)) < length (t ∷ xs) + length (o ∷ ys)
  fewer_met t o xs ys Less d = omega arith
  fewer_met t o xs ys Greater d = omega arith
  fewer_met t o xs ys Equal d = omega arith

  pub fewer : (E : Type 0) (r q : Option (Bor K × Bor X)) (xs ys : List (K × X)) (n m : ℕ) (p : Ordering)
      (now now' : Told)
      → TellsFront {E = E} line (front cmp (key_and_texts columns r) (key_and_texts columns q)) n now now'
      (Ok (turn.Passed p m))
      → length (their_rest p xs (rows_from (pair_of r) xs)) + length (our_rest p ys (rows_from (pair_of q) ys))
      < length (rows_from (pair_of r) xs) + length (rows_from (pair_of q) ys)
  fewer E None None xs ys n m p now now' told = absurd told
  fewer E (Some t) None xs ys n m p now now' told =
      subst (λ (z : Ordering).
      length (their_rest z xs ((t.0.now, t.1.now) ∷ xs)) + length (our_rest z ys []) < suc (length xs) + 0) (sym told.0)
      (omega arith)
  fewer E None (Some o) xs ys n m p now now' told =
      subst (λ (z : Ordering).
      length (their_rest z xs []) + length (our_rest z ys ((o.0.now, o.1.now) ∷ ys)) < 0 + suc (length ys)) (sym told.0)
      (omega arith)
  fewer E (Some t) (Some o) xs ys n m p now now' told =
      subst (λ (z : Ordering).
      length (their_rest z xs ((t.0.now, t.1.now) ∷ xs)) + length (our_rest z ys ((o.0.now, o.1.now) ∷ ys))
      < length ((t.0.now, t.1.now) ∷ xs) + length ((o.0.now, o.1.now) ∷ ys)) (sym told.0)
      (fewer_met (t.0.now, t.1.now) (o.0.now, o.1.now) xs ys (cmp t.0.now o.0.now)
      (first_other 0 (columns t.0.now t.1.now) (columns o.0.now o.1.now)))

  -- at the end of both sides
  pub none_left : (E : Type 0) (r q : Option (Bor K × Bor X)) (xs ys : List (K × X)) (n : ℕ) (now now' : Told)
      → TellsFront {E = E} line (front cmp (key_and_texts columns r) (key_and_texts columns q)) n now now' (Ok turn.End)
      → (differences cmp (with_columns columns (rows_from (pair_of r) xs))
      (with_columns columns (rows_from (pair_of q) ys)) ≡ []) × (now' ≡ now)
  none_left E None None xs ys n now now' told = (refl, told)
  none_left E (Some t) None xs ys n now now' told = absurd told
  none_left E None (Some o) xs ys n now now' told = absurd told
  none_left E (Some t) (Some o) xs ys n now now' told = absurd told

-- ---- rows of a file, and rows without a key

pub numbered_shown : {K X : Type 0} (columns : K → X → List (List ℕ)) (ns : List (Numbered K X))
    → with_columns {K = K} {X = X} (λ k x. column_texts (columns k x)) (map row_by_key ns) ≡ theirs_shown columns ns
numbered_shown columns [] = refl
numbered_shown columns (n ∷ ns) =
    ap (λ z. (n.key, column_texts (columns n.key n.row)) ∷ z) (numbered_shown columns ns)

pub keyless_shown : {X : Type 0} (xs : List X) → with_columns {K = X} {X = X} (λ k x. []) (map own_key xs) ≡ keyless xs
keyless_shown [] = refl
keyless_shown (x ∷ xs) = ap (λ z. (x, []) ∷ z) (keyless_shown xs)
