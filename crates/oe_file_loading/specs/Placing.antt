-- What becomes of rows that are put.
use Rattle.std.specs.Prelude.{◌≡◌, ◌⊎◌, List, [], ◌∷◌, ◌++◌, Option, Some, None, IsSome, is_some, if◌then◌else◌}
use Rattle.oe_rows.specs.declared.keys.Key.{Key}
use Rattle.oe_file_tables.specs.declared.lines.Numbered.{Numbered}
use Rattle.oe_file_loading.specs.declared.loading.Apart as apart
use Rattle.oe_model.specs.Rows.{Rows, row_at}

-- the key has a row
abbrev pub HasRow : Rows → Key → Type 0
HasRow r k = IsSome (row_at r k)

-- the first of these keys that has no row
unfoldable pub missing_of : List Key → Rows → Option Key
missing_of [] r = None
missing_of (k ∷ ks) r = if is_some (row_at r k) then missing_of ks r else Some k

-- a line of them has that row
unfoldable pub IsRowOf : {K X : Type 0} → List (Numbered K X) → K → X → Type 0
IsRowOf [] k x = ⊥
IsRowOf (n ∷ ns) k x = ((n.key ≡ k) × (n.row ≡ x)) ⊎ IsRowOf ns k x

-- a line of them has a row with that key
abbrev pub IsKeyOf : {K X : Type 0} → List (Numbered K X) → K → Type 0
IsKeyOf {K} {X} ns k = (x : X) × IsRowOf ns k x

module _ {K X : Type 0} (key_of : K → Key) (refers : K → X → List Key) (with : K → X → Rows → Rows) where
  -- Rows were put, one after another: each is kept where the rows that it refers to are there then, and else it is set
  -- apart, with the first of them that is missing.
  pub data Put : List (Numbered K X) → Rows → Rows → List apart.Apart → Type 0 where
    Starts : {r : Rows} → Put [] r r []
    Keeps : {ns : List (Numbered K X)} {r s : Rows} {aparts : List apart.Apart} (n : Numbered K X)
        → Put ns r s aparts → missing_of (refers n.key n.row) s ≡ None
        → Put (ns ++ n ∷ []) r (with n.key n.row s) aparts
    SetsApart : {ns : List (Numbered K X)} {r s : Rows} {aparts : List apart.Apart} (n : Numbered K X) (m : Key)
        → Put ns r s aparts → missing_of (refers n.key n.row) s ≡ Some m
        → Put (ns ++ n ∷ []) r s (aparts ++ record { key = key_of n.key; missing = m } ∷ [])

  -- the same, behind what was set apart before
  abbrev pub Puts : List (Numbered K X) → Rows → Rows → List apart.Apart → List apart.Apart → Type 0
  Puts ns r s old_apart new_apart =
      (aparts : List apart.Apart) × Put ns r s aparts × (new_apart ≡ old_apart ++ aparts)

  -- what a row adds to what was put, or to what was set apart
  abbrev pub PutsOne : K → X → Rows → Rows → List apart.Apart → List apart.Apart → Type 0
  PutsOne k x old new old_apart new_apart =
      ((missing_of (refers k x) old ≡ None) × (new ≡ with k x old) × (new_apart ≡ old_apart))
      ⊎ ((m : Key) × (missing_of (refers k x) old ≡ Some m) × (new ≡ old)
      × (new_apart ≡ old_apart ++ record { key = key_of k; missing = m } ∷ []))

-- whatever key has a row now had one before, or is this one
abbrev pub OnlyAdds : {K : Type 0} → (K → Key) → K → Rows → Rows → Type 0
OnlyAdds {K} key_of own old new = (k : K) → HasRow new (key_of k) → (k ≡ own) ⊎ HasRow old (key_of k)

-- whatever key has a row now had one before, or is that of a line
abbrev pub OnlyOf : {K X : Type 0} → (K → Key) → List (Numbered K X) → Rows → Rows → Type 0
OnlyOf {K} key_of ns old new = (k : K) → HasRow new (key_of k) → HasRow old (key_of k) ⊎ IsKeyOf ns k
