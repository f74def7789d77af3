-- The columns of a table, by their numbers.
use Rattle.std.proofs.Common.{◌≡◌, ℕ, zero, suc, ◌≤◌, ◌<◌, Bool, true, List, [], ◌∷◌, length, get_or, map, refl, ap}
use Rattle.std.proofs.Common.{sym, ◌∙◌, ◌+◌, ◌++◌, subst}
use Rattle.std.proofs.lemmas.List.{length-map}
use Rattle.std.proofs.Common.{arith, leb}
use Rattle.std.specs.Prelude.{◌&&◌}
use Rattle.std.proofs.lemmas.Bool.{leb-true, and_parts}
use Rattle.oe_facts.specs.declared.tables.Table.{Table}
use Rattle.oe_facts.specs.declared.tables.Table.TheVariants as table
use Rattle.oe_columns.specs.declared.columns.Column.{Column}
use Rattle.oe_columns.specs.Columns.{column_of, columns_of}
use Rattle.oe_columns.specs.Columns.{names_of}
use Rattle.oe_columns.specs.declared.constants.Constant.{Constant}
use Rattle.oe_columns.specs.Constants.{constant_of, constant_names}
use Rattle.oe_file_audit.specs.Faults.{name_or, kind_or, name_at}

-- a name of the first list, and one of the second
name_front : (xs ys : List (List ℕ)) (n : ℕ) → n < length xs → name_or (xs ++ ys) n ≡ name_or xs n
name_front [] ys n within = absurd (omega arith)
name_front (x ∷ xs) ys zero within = refl
name_front (x ∷ xs) ys (suc n) within = name_front xs ys n (omega arith)

name_behind : (xs ys : List (List ℕ)) (n m : ℕ) → n ≡ length xs + m → name_or (xs ++ ys) n ≡ name_or ys m
name_behind [] ys n m e = ap (name_or ys) (omega (arith, e))
name_behind (x ∷ xs) ys zero m e = absurd (omega (arith, e))
name_behind (x ∷ xs) ys (suc n) m e = name_behind xs ys n m (omega (arith, e))

column_found : (xs : List Column) (n : ℕ) (x : Column) → n < length xs → x ≡ get_or xs n x
    → x.name.now ≡ name_or (map (λ p. p.0) (map column_of xs)) n
column_found [] n x within is = absurd (omega arith)
column_found (y ∷ ys) zero x within is = ap (λ (c : Column). c.name.now) is
column_found (y ∷ ys) (suc n) x within is = column_found ys n x (omega arith) is

pub constant_found : (xs : List Constant) (n : ℕ) (x : Constant) → n < length xs → x ≡ get_or xs n x
    → x.name.now ≡ name_or (map (λ p. p.0) (map constant_of xs)) n
constant_found [] n x within is = absurd (omega arith)
constant_found (y ∷ ys) zero x within is = ap (λ (c : Constant). c.name.now) is
constant_found (y ∷ ys) (suc n) x within is = constant_found ys n x (omega arith) is

counted : (xs : List Column) (t : Table) → map column_of xs ≡ columns_of t → length xs ≡ length (names_of t)
counted xs t e =
    sym (length-map xs column_of) ∙ ap length e ∙ sym (length-map (columns_of t) (λ p. p.0))

-- a column that a fact needs, and one that no transaction changes
pub name_first : (xs : List Column) (t : Table) (n : ℕ) (x : Column) → map column_of xs ≡ columns_of t
    → n < length xs → x ≡ get_or xs n x → x.name.now ≡ name_at t n
name_first xs t n x e within is =
    column_found xs n x within is ∙ ap (λ cs. name_or (map (λ p. p.0) cs) n) e
    ∙ sym (name_front (names_of t) (constant_names t) n (subst (λ m. n < m) (counted xs t e) within))

column_at : (xs : List Column) (n : ℕ) (d : Column) → n < length xs → get_or xs n d ≡ get_or xs n (get_or xs n d)
column_at [] n d within = absurd (omega (arith, within))
column_at (x ∷ xs) zero d within = refl
column_at (x ∷ xs) (suc n) d within = column_at xs n d (omega (arith, within))

pub name_first_at : (xs : List Column) (t : Table) (n : ℕ) (d : Column) → map column_of xs ≡ columns_of t
    → n < length xs → (get_or xs n d).name.now ≡ name_at t n
name_first_at xs t n d e within = name_first xs t n (get_or xs n d) e within (column_at xs n d within)

pub name_second : (xs : List Column) (t : Table) (n m : ℕ) → map column_of xs ≡ columns_of t → n ≡ length xs + m
    → name_or (constant_names t) m ≡ name_at t n
name_second xs t n m e is =
    sym (name_behind (names_of t) (constant_names t) n m (is ∙ ap (λ k. k + m) (counted xs t e)))

pub kind_found : (xs : List Column) (n : ℕ) (x : Column) → n < length xs → x ≡ get_or xs n x
    → x.kind ≡ kind_or (map column_of xs) n
kind_found [] n x within is = absurd (omega arith)
kind_found (y ∷ ys) zero x within is = ap (λ (c : Column). c.kind) is
kind_found (y ∷ ys) (suc n) x within is = kind_found ys n x (omega arith) is

are_short : List (List ℕ) → Bool
are_short [] = true
are_short (c ∷ cs) = leb (length c) 20 && are_short cs

short_first : (c : List ℕ) (cs : List (List ℕ)) → are_short (c ∷ cs) ≡ true
    → (leb (length c) 20 ≡ true) × (are_short cs ≡ true)
unfolding are_short
short_first c cs e = and_parts (leb (length c) 20) (are_short cs) e

name_or_short : (cs : List (List ℕ)) (n : ℕ) → are_short cs ≡ true → length (name_or cs n) ≤ 20
name_or_short [] n e = omega arith
name_or_short (c ∷ cs) zero e = leb-true (length c) 20 (short_first c cs e).0
name_or_short (c ∷ cs) (suc n) e = name_or_short cs n (short_first c cs e).1

names_are_short : (t : Table) → are_short (names_of t ++ constant_names t) ≡ true
unfolding are_short
names_are_short table.Warehouse = refl
names_are_short table.District = refl
names_are_short table.Customer = refl
names_are_short table.History = refl
names_are_short table.NewOrder = refl
names_are_short table.Order = refl
names_are_short table.OrderLine = refl
names_are_short table.Item = refl
names_are_short table.Stock = refl

constants_are_short : (t : Table) → are_short (constant_names t) ≡ true
unfolding are_short
constants_are_short table.Warehouse = refl
constants_are_short table.District = refl
constants_are_short table.Customer = refl
constants_are_short table.History = refl
constants_are_short table.NewOrder = refl
constants_are_short table.Order = refl
constants_are_short table.OrderLine = refl
constants_are_short table.Item = refl
constants_are_short table.Stock = refl

pub name_short : (t : Table) (n : ℕ) → length (name_at t n) ≤ 20
name_short t n = name_or_short (names_of t ++ constant_names t) n (names_are_short t)

pub constant_short : (t : Table) (n : ℕ) → length (name_or (constant_names t) n) ≤ 20
constant_short t n = name_or_short (constant_names t) n (constants_are_short t)
