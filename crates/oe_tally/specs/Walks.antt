-- Two settled tallies side by side, in the order of their keys.
use Rattle.std.specs.Prelude.{◌≡◌, ℕ, ◌+◌, Bool, List, [], ◌∷◌, map, length, Option, Some, None, MatchOption}
use Rattle.std.specs.Option.{option_map}
use Rattle.std.specs.List.{filter_map}
use Rattle.std.specs.Map.{lookup}
use Rattle.std.specs.Ordering.{match_ordering}
use Rattle.std.specs.declared.cmp.Ordering.{Ordering}
use Rattle.oe_tally.specs.declared.pairs.Pair.{Pair}
use Rattle.oe_tally.specs.Tallies.{total, IsSettled}

module _ {K A B : Type 0} where
  -- an entry of one side, or of both
  abbrev pub of_left : K × A → Pair K A B
  of_left e = record { key = e.0; left = Some e.1; right = None }

  abbrev pub of_right : K × B → Pair K A B
  of_right f = record { key = f.0; left = None; right = Some f.1 }

  abbrev pub of_both : K × A → K × B → Pair K A B
  of_both e f = record { key = e.0; left = Some e.1; right = Some f.1 }

module _ {K A B : Type 0} (cmp : K → K → Ordering) where
  -- an entry of the left goes before the first of the right that is not less; `rest` merges what is behind it
  abbrev pub entry_among : K × A → (List (K × B) → List (Pair K A B)) → List (K × B) → List (Pair K A B)
  entry_among e rest [] = of_left e ∷ rest []
  entry_among e rest (f ∷ fs) =
      match_ordering (cmp e.0 f.0) (of_left e ∷ rest (f ∷ fs)) (of_both e f ∷ rest fs)
      (of_right f ∷ entry_among e rest fs)

  -- the entries of both sides in the order of keys, those of one key as one
  abbrev pub pairs_of_both : List (K × A) → List (K × B) → List (Pair K A B)
  pairs_of_both [] fs = map of_right fs
  pairs_of_both (e ∷ es) fs = entry_among e (pairs_of_both es) fs

-- a walk gives the first of what it has left, or has nothing left
abbrev pub GivesFirst : {K A B : Type 0} → (K → K → Ordering) → List (K × A) × List (K × B) → List (K × A)
    × List (K × B)
    → Option (Pair K A B) → Type 0
GivesFirst cmp old new given =
    MatchOption given (pairs_of_both cmp old.0 old.1 ≡ [])
    (λ p. pairs_of_both cmp old.0 old.1 ≡ p ∷ pairs_of_both cmp new.0 new.1)

-- how many entries a walk has left
abbrev pub left_of : {K A B : Type 0} → List (K × A) × List (K × B) → ℕ
left_of lists = length lists.0 + length lists.1

-- what a test finds wrong with a pair of sums, by the pair's key; nothing where it finds nothing
abbrev pub finding : {K A B F : Type 0} → (Option A → Option B → Option F) → Pair K A B → Option (K × F)
finding judge p = option_map (λ f. (p.key, f)) (judge p.left p.right)

abbrev pub findings_of : {K A B F : Type 0} → (Option A → Option B → Option F) → List (Pair K A B) → List (K × F)
findings_of judge ps = filter_map (finding judge) ps

-- what a test finds wrong with a key's sums
abbrev pub wrong_at : {K A B F : Type 0} → (K → K → Bool) → (A → A → A) → (B → B → B)
    → (Option A → Option B → Option F) → List (K × A) → List (K × B) → K → Option F
wrong_at same add join judge es fs k = judge (total same add es k) (total same join fs k)

-- the list has the keys at which something is wrong, all of them and no others, in their order, each with what is wrong
pub record AreAll {K F : Type 0} (cmp : K → K → Ordering) (same : K → K → Bool) (wrong : K → Option F)
    (found : List (K × F)) : Type 0 where
  pub ordered : IsSettled cmp found
  pub exact : (k : K) → lookup (λ x. same x k) found ≡ wrong k
