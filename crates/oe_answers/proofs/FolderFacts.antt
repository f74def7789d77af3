-- The names of a table's files, one more at a time.
use Rattle.std.proofs.Common.{◌≡◌, ℕ, zero, suc, ◌+◌, ◌<◌, Bool, true, false, List, [], ◌∷◌, ◌++◌, take, drop, get_or}
use Rattle.std.proofs.Common.{length, refl, sym, ap, subst, ◌∙◌, arith, if◌then◌else◌}
use Rattle.std.proofs.lemmas.List.{append-nil}
use Rattle.std.specs.String.{string_bytes}
use Rattle.oe_facts.specs.declared.tables.Table.{Table}
use Rattle.oe_answers.specs.declared.folders.TableName.{TableName}
use Rattle.oe_answers.specs.Folders.{is_of, names_of, only_of}

if_append : (b : Bool) (n : List ℕ) (a s : List (List ℕ))
    → (if b then n ∷ (a ++ s) else (a ++ s)) ≡ (if b then n ∷ a else a) ++ s
if_append true n a s = refl
if_append false n a s = refl

-- the next file's name, where it is the table's
abbrev pub own_name : Table → TableName → List (List ℕ)
own_name t x = if is_of t x then string_bytes x.name ∷ [] else []

one_behind : (t : Table) (ns : List TableName) (i : ℕ) (x : TableName) → i < length ns → x ≡ get_or ns i x
    → names_of t (take (suc i) ns) ≡ names_of t (take i ns) ++ own_name t x
one_behind t [] i x h is = absurd (omega (arith, h))
one_behind t (y ∷ ns) zero x h is = ap (own_name t) (sym is)
one_behind t (y ∷ ns) (suc i) x h is =
    ap (λ z. if is_of t y then string_bytes y.name ∷ z else z) (one_behind t ns i x (omega (arith, h)) is)
    ∙ if_append (is_of t y) (string_bytes y.name) (names_of t (take i ns)) (own_name t x)

one_more : (t : Table) (ns : List TableName) (i : ℕ) (x : TableName) → i < length ns → x ≡ get_or ns i x
    → names_of t (take (i + 1) ns) ≡ names_of t (take i ns) ++ own_name t x
one_more t ns i x h is =
    let next : suc i ≡ i + 1 = omega arith in
    subst (λ k. names_of t (take k ns) ≡ names_of t (take i ns) ++ own_name t x) next (one_behind t ns i x h is)

parted : (t : Table) (ns : List TableName) (k : ℕ) → names_of t ns ≡ names_of t (take k ns) ++ names_of t (drop k ns)
parted t [] zero = refl
parted t [] (suc k) = refl
parted t (y ∷ ns) zero = refl
parted t (y ∷ ns) (suc k) =
    ap (λ z. if is_of t y then string_bytes y.name ∷ z else z) (parted t ns k)
    ∙ if_append (is_of t y) (string_bytes y.name) (names_of t (take k ns)) (names_of t (drop k ns))

-- a second name of the table's
pub second : (t : Table) (ns : List TableName) (i : ℕ) (x : TableName) (m : List ℕ) → i < length ns → x ≡ get_or ns i x
    → is_of t x ≡ true → names_of t (take i ns) ≡ m ∷ [] → [] ≡ only_of (names_of t ns)
second t ns i x m h is own one =
    let two : names_of t (take (i + 1) ns) ≡ m ∷ string_bytes x.name ∷ [] =
    one_more t ns i x h is ∙ ap (λ z. z ++ own_name t x) one
    ∙ ap (λ b. m ∷ (if b then string_bytes x.name ∷ [] else [])) own in
    sym (ap only_of (parted t ns (i + 1) ∙ ap (λ z. z ++ names_of t (drop (i + 1) ns)) two))

pub not_own : (t : Table) (ns : List TableName) (i : ℕ) (x : TableName) → i < length ns → x ≡ get_or ns i x
    → is_of t x ≡ false → names_of t (take (i + 1) ns) ≡ names_of t (take i ns)
not_own t ns i x h is other =
    one_more t ns i x h is ∙ ap (λ b. names_of t (take i ns) ++ (if b then string_bytes x.name ∷ [] else [])) other
    ∙ append-nil (names_of t (take i ns))

pub first : (t : Table) (ns : List TableName) (i : ℕ) (x : TableName) → i < length ns → x ≡ get_or ns i x
    → is_of t x ≡ true → names_of t (take i ns) ≡ [] → names_of t (take (i + 1) ns) ≡ string_bytes x.name ∷ []
first t ns i x h is own none =
    one_more t ns i x h is ∙ ap (λ z. z ++ own_name t x) none
    ∙ ap (λ b. if b then string_bytes x.name ∷ [] else []) own
