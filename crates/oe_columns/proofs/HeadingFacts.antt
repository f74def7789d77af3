-- A heading is read field by field.
use Rattle.std.proofs.Common.{◌≡◌, ℕ, zero, suc, ◌+◌, ◌-◌, ◌<◌, ◌≤◌, ◌↔◌, Bool, true, false, cond, List, [], ◌∷◌}
use Rattle.std.proofs.Common.{◌++◌, length, map}
use Rattle.std.proofs.Common.{drop, get_or, Some, None, Result, Ok, Err, sym, ap, ◌∙◌, refl, arith, append_assoc}
use Rattle.std.proofs.Common.{append-nil}
use Rattle.std.specs.Char.{to_ascii_lowercase}
use Rattle.std.specs.Prelude.{slice_get, IsTrue}
use Rattle.std.proofs.lemmas.List.{drop_more, drop_all}
use Rattle.std.proofs.lemmas.Option.{slice_get_within, get_or_from_slice_get}
use Rattle.std.proofs.lemmas.Bool.Decides.{same_from_decides}
use Rattle.std.proofs.lemmas.Slice.Eq.{bytes_eq-Decides}
use Rattle.oe_fields.specs.Parting.{Line, fields_of}
use Rattle.oe_facts.specs.declared.tables.Table.{Table}
use Rattle.oe_columns.specs.Columns.{column_of, columns_of}
use Rattle.oe_columns.specs.declared.columns.Column.{Column}
use Rattle.oe_columns.specs.declared.headings.LayoutFault.{LayoutFault}
use Rattle.oe_columns.specs.declared.headings.Named.{Named}
use Rattle.oe_columns.specs.declared.headings.Named.TheVariants as stands
use Rattle.oe_columns.specs.Headings.{◌>>=◌, bare, is_name, places_from, only, column_place, again, named_by, one_place}
use Rattle.oe_columns.specs.Headings.{placed_from}
use Rattle.oe_columns.specs.Headings.{heading_places, places_behind}
use Rattle.std.specs.Str.{bytes_eq}

pub name_is : (name text : List ℕ) (r : Bool)
    → IsTrue r ↔ (map to_ascii_lowercase (bare text) ≡ map to_ascii_lowercase name) → r ≡ is_name name text
unfolding is_name
name_is name text r h =
    let a = map to_ascii_lowercase (bare text) in
    let b = map to_ascii_lowercase name in
    same_from_decides r (bytes_eq a b) h (bytes_eq-Decides a b)

twice_stays : (ps : List ℕ) → named_by stands.Twice ps ≡ stands.Twice
twice_stays [] = refl
twice_stays (p ∷ ps) = twice_stays ps

by_one : (ps : List ℕ) → named_by stands.Missing ps ≡ only ps
by_one [] = refl
by_one (p ∷ []) = refl
by_one (p ∷ q ∷ ps) = twice_stays ps

-- what the fields from a place on say
abbrev pub NamedSo : (name : List ℕ) → List (List ℕ) → Named → ℕ → Type 0
NamedSo name fields seen place = column_place name fields ≡ named_by seen (places_from name place (drop place fields))

pub named_first : (name : List ℕ) (fields : List (List ℕ)) → NamedSo name fields stands.Missing 0
unfolding column_place
named_first name fields = sym (by_one (places_from name 0 fields))

at_front : (fields : List (List ℕ)) (place : ℕ) (f : List ℕ) → slice_get fields place ≡ Some f
    → drop place fields ≡ f ∷ drop (place + 1) fields
at_front fields place f e =
    let within = slice_get_within fields place f e in
    drop_more fields place [] within ∙ ap (λ g. g ∷ drop (place + 1) fields) (get_or_from_slice_get fields place f [] e)

-- one field more
pub named_more : (name : List ℕ) (fields : List (List ℕ)) (seen : Named) (place : ℕ) (f : List ℕ)
    → Some f ≡ slice_get fields place → NamedSo name fields seen place
    → NamedSo name fields (cond (is_name name f) (again seen place) seen) (place + 1)
named_more name fields seen place f e so =
    let rest = places_from name (place + 1) (drop (place + 1) fields) in
    so ∙ ap (λ fs. named_by seen (places_from name place fs)) (at_front fields place f (sym e))
    ∙ elim (is_name name f) as
    (λ t. named_by seen (cond t (place ∷ rest) rest) ≡ named_by (cond t (again seen place) seen) rest)
    [ true ↦ refl | false ↦ refl ]

pub fewer : (fields : List (List ℕ)) (place : ℕ) (f : List ℕ) → Some f ≡ slice_get fields place
    → length fields - (place + 1) < length fields - place
fewer fields place f e = omega (arith, slice_get_within fields place f (sym e))

pub stepped : (name : List ℕ) (l l' : Line) (seen seen' : Named) (place : ℕ) (text : List ℕ)
    → l'.format ≡ l.format → l'.text ≡ l.text → Some text ≡ slice_get (fields_of l.format l.text) l.place
    → l'.place ≡ l.place + 1 → place ≡ l.place → seen' ≡ cond (is_name name text) (again seen place) seen
    → NamedSo name (fields_of l.format l.text) seen l.place
    → NamedSo name (fields_of l'.format l'.text) seen' l'.place
stepped name l l' seen seen' place text f t e p q s so =
    rw (f, t, p, s, q) (named_more name (fields_of l.format l.text) seen l.place text e so)

pub shorter : (l l' : Line) (text : List ℕ) → l'.format ≡ l.format → l'.text ≡ l.text
    → Some text ≡ slice_get (fields_of l.format l.text) l.place → l'.place ≡ l.place + 1
    → length (fields_of l'.format l'.text) - l'.place < length (fields_of l.format l.text) - l.place
shorter l l' text f t e p = rw (f, t, p) (fewer (fields_of l.format l.text) l.place text e)

none_from : (fields : List (List ℕ)) (place : ℕ) → slice_get fields place ≡ None → drop place fields ≡ []
none_from [] zero e = refl
none_from [] (suc n) e = refl
none_from (f ∷ fs) zero e = absurd (cc)
none_from (f ∷ fs) (suc n) e = none_from fs n e

pub named_last : (name : List ℕ) (fields : List (List ℕ)) (seen : Named) (place : ℕ)
    → None ≡ slice_get fields place → NamedSo name fields seen place → seen ≡ column_place name fields
named_last name fields seen place e so =
    sym (so ∙ ap (λ fs. named_by seen (places_from name place fs)) (none_from fields place (sym e)))

-- ---- the columns of a table

abbrev pub names_in : List Column → List (List ℕ)
names_in cs = map (λ c. c.name.now) cs

names_are : (cs : List Column) → names_in cs ≡ map (λ p. p.0) (map column_of cs)
names_are [] = refl
names_are (c ∷ cs) = ap (λ ns. c.name.now ∷ ns) (names_are cs)

-- the columns from the k-th on are left
abbrev pub PlacedSo : Table → List Column → List (List ℕ) → List ℕ → ℕ → Type 0
PlacedSo t cs fields ps k = heading_places t fields ≡ places_behind ps (placed_from (names_in (drop k cs)) k fields)

pub none_prepended : (r : Result (List ℕ) LayoutFault) → places_behind [] r ≡ r
none_prepended (Ok ps) = refl
none_prepended (Err e) = refl

pub one_prepended : (ps : List ℕ) (p : ℕ) (r : Result (List ℕ) LayoutFault)
    → places_behind ps (r >>= λ qs. Ok (p ∷ qs)) ≡ places_behind (ps ++ p ∷ []) r
one_prepended ps p (Ok qs) = ap Ok (sym (append_assoc ps (p ∷ []) qs))
one_prepended ps p (Err e) = refl

pub placed_first : (t : Table) (cs : List Column) (fields : List (List ℕ)) → map column_of cs ≡ columns_of t
    → PlacedSo t cs fields [] 0
unfolding heading_places
placed_first t cs fields e =
    ap (λ ns. placed_from ns 0 fields) (sym (names_are cs ∙ ap (map (λ p. p.0)) e))
    ∙ sym (none_prepended (placed_from (names_in cs) 0 fields))

placed_at : (t : Table) (cs : List Column) (fields : List (List ℕ)) (ps : List ℕ) (k : ℕ) (d : Column) → k < length cs
    → PlacedSo t cs fields ps k
    → heading_places t fields
    ≡ places_behind ps (one_place k (column_place (get_or cs k d).name.now fields)
    >>= λ p. placed_from (names_in (drop (k + 1) cs)) (k + 1) fields >>= λ qs. Ok (p ∷ qs))
placed_at t cs fields ps k d h so =
    so ∙ ap (λ (rest : List Column). places_behind ps (placed_from (names_in rest) k fields)) (drop_more cs k d h)

pub placed_more : (t : Table) (cs : List Column) (fields : List (List ℕ)) (ps : List ℕ) (k p : ℕ) (d : Column)
    (found : Named)
    → k < length cs → found ≡ column_place (get_or cs k d).name.now fields → one_place k found ≡ Ok p
    → PlacedSo t cs fields ps k
    → PlacedSo t cs fields (ps ++ p ∷ []) (k + 1)
placed_more t cs fields ps k p d found h is e so =
    let rest = placed_from (names_in (drop (k + 1) cs)) (k + 1) fields in
    placed_at t cs fields ps k d h so
    ∙ ap (λ r. places_behind ps (r >>= λ p. rest >>= λ qs. Ok (p ∷ qs))) (ap (one_place k) (sym is) ∙ e)
    ∙ one_prepended ps p rest

pub placed_fault : (t : Table) (cs : List Column) (fields : List (List ℕ)) (ps : List ℕ) (k : ℕ) (e : LayoutFault)
    (d : Column) (found : Named)
    → k < length cs → found ≡ column_place (get_or cs k d).name.now fields → one_place k found ≡ Err e
    → PlacedSo t cs fields ps k → heading_places t fields ≡ Err e
placed_fault t cs fields ps k f d found h is e so =
    let rest = placed_from (names_in (drop (k + 1) cs)) (k + 1) fields in
    placed_at t cs fields ps k d h so
    ∙ ap (λ r. places_behind ps (r >>= λ p. rest >>= λ qs. Ok (p ∷ qs))) (ap (one_place k) (sym is) ∙ e)

pub placed_all : (t : Table) (cs : List Column) (fields : List (List ℕ)) (ps : List ℕ) (k : ℕ) → length cs ≤ k
    → PlacedSo t cs fields ps k → heading_places t fields ≡ Ok ps
placed_all t cs fields ps k h so =
    so ∙ ap (λ (rest : List Column). places_behind ps (placed_from (names_in rest) k fields)) (drop_all k cs h)
    ∙ ap Ok (append-nil ps)
