-- The columns that no transaction changes are found in a heading one after another.
use Rattle.std.proofs.Common.{◌≡◌, ℕ, ◌+◌, ◌<◌, ◌≤◌, List, [], ◌∷◌, ◌++◌, length, map, drop, get_or}
use Rattle.std.proofs.Common.{Ok, Err, sym, ap, ◌∙◌, refl, arith, append-nil}
use Rattle.std.proofs.lemmas.List.{drop_more, drop_all}
use Rattle.oe_columns.specs.declared.constants.Constant.{Constant}
use Rattle.oe_columns.specs.declared.constants.Form.{Form}
use Rattle.oe_columns.specs.declared.headings.LayoutFault.{LayoutFault}
use Rattle.oe_columns.specs.declared.headings.Named.{Named}
use Rattle.oe_columns.specs.Constants.{constant_of}
use Rattle.oe_columns.specs.Headings.{◌>>=◌, column_place, one_place, placed_from, places_behind}
use Rattle.oe_columns.proofs.HeadingFacts.{none_prepended, one_prepended}

abbrev pub names_in : List Constant → List (List ℕ)
names_in cs = map (λ c. c.name.now) cs

names_are : (cs : List Constant) → names_in cs ≡ map (λ p. p.0) (map constant_of cs)
names_are [] = refl
names_are (c ∷ cs) = ap (λ ns. c.name.now ∷ ns) (names_are cs)

-- behind `before` columns, those from the k-th on are left
abbrev pub PlacedSo : ℕ → List Constant → List (List ℕ) → List ℕ → ℕ → Type 0
PlacedSo before cs fields ps k =
    placed_from (names_in cs) before fields ≡ places_behind ps (placed_from (names_in (drop k cs)) (before + k) fields)

module _ (before : ℕ) (cs : List Constant) (fields : List (List ℕ)) where
  pub placed_first : PlacedSo before cs fields [] 0
  placed_first =
      ap (λ n. placed_from (names_in cs) n fields) (let same : before ≡ before + 0 = omega arith in same)
      ∙ sym (none_prepended (placed_from (names_in cs) (before + 0) fields))

  placed_at : (ps : List ℕ) (k : ℕ) (d : Constant) → k < length cs → PlacedSo before cs fields ps k
      → placed_from (names_in cs) before fields
      ≡ places_behind ps (one_place (before + k) (column_place (get_or cs k d).name.now fields)
      >>= λ p. placed_from (names_in (drop (k + 1) cs)) (before + k + 1) fields >>= λ qs. Ok (p ∷ qs))
  placed_at ps k d h so =
      so ∙ ap (λ (rest : List Constant). places_behind ps (placed_from (names_in rest) (before + k) fields))
      (drop_more cs k d h)

  pub placed_more : (ps : List ℕ) (k p : ℕ) (d : Constant) (found : Named)
      → k < length cs → found ≡ column_place (get_or cs k d).name.now fields → one_place (before + k) found ≡ Ok p
      → PlacedSo before cs fields ps k → PlacedSo before cs fields (ps ++ p ∷ []) (k + 1)
  placed_more ps k p d found h is e so =
      let rest = placed_from (names_in (drop (k + 1) cs)) (before + k + 1) fields in
      placed_at ps k d h so
      ∙ ap (λ r. places_behind ps (r >>= λ p. rest >>= λ qs. Ok (p ∷ qs))) (ap (one_place (before + k)) (sym is) ∙ e)
      ∙ one_prepended ps p rest
      ∙ ap (λ n. places_behind (ps ++ p ∷ []) (placed_from (names_in (drop (k + 1) cs)) n fields))
      (let same : before + k + 1 ≡ before + (k + 1) = omega arith in same)

  pub placed_fault : (ps : List ℕ) (k : ℕ) (e : LayoutFault) (d : Constant) (found : Named)
      → k < length cs → found ≡ column_place (get_or cs k d).name.now fields → one_place (before + k) found ≡ Err e
      → PlacedSo before cs fields ps k → placed_from (names_in cs) before fields ≡ Err e
  placed_fault ps k f d found h is e so =
      let rest = placed_from (names_in (drop (k + 1) cs)) (before + k + 1) fields in
      placed_at ps k d h so
      ∙ ap (λ r. places_behind ps (r >>= λ p. rest >>= λ qs. Ok (p ∷ qs))) (ap (one_place (before + k)) (sym is) ∙ e)

  pub placed_all : (ps : List ℕ) (k : ℕ) → length cs ≤ k → PlacedSo before cs fields ps k
      → placed_from (names_in cs) before fields ≡ Ok ps
  placed_all ps k h so =
      so ∙ ap (λ (rest : List Constant). places_behind ps (placed_from (names_in rest) (before + k) fields))
      (drop_all k cs h)
      ∙ ap Ok (append-nil ps)

-- the columns of a table, behind as many as a fact needs
pub places_are : (cs : List Constant) (of_table : List (List ℕ × Form)) (before number : ℕ) (fields : List (List ℕ))
    → map constant_of cs ≡ of_table → before ≡ number
    → placed_from (map (λ c. c.0) of_table) number fields ≡ placed_from (names_in cs) before fields
places_are cs of_table before number fields e n =
    ap (λ k. placed_from (map (λ c. c.0) of_table) k fields) (sym n)
    ∙ ap (λ ns. placed_from ns before fields) (sym (names_are cs ∙ ap (map (λ p. p.0)) e))
