-- Names, each in a mode, that one terminal holds.
use Rattle.std.proofs.Common.{◌≡◌, ℕ, ◌==◌, Bool, true, false, not, ◌||◌, cond, if◌then◌else◌, List, [], ◌∷◌, ◌++◌}
use Rattle.std.proofs.Common.{filter, Option, None, Some, is_some, refl, sym, ap, ◌∙◌}
use Rattle.std.proofs.lemmas.Bool.{cond-true, false≢true}
use Rattle.std.proofs.lemmas.Map.Keys.{IsDistinct-head, IsDistinct-tail}
use Rattle.std.specs.List.{IsDistinct, AllByRecursion}
use Rattle.std.specs.Map.{lookup, keys_of, remove_entry}
use Rattle.indexmap.specs.IndexMap.{insert_entry}
use Rattle.oe_rows.specs.declared.locks.Name.{Name}
use Rattle.oe_rows.specs.declared.locks.Mode.{Mode}
use Rattle.oe_rows.specs.contracts.locks.NamePartialEq.TheImpl.{ghosts}
use Rattle.oe_locks.specs.Held.{is_name}
use Rattle.oe_locks.specs.Listed.{stands, AreOnce, taken_names, given_back_names}
use Rattle.oe_locks.specs.Marks.{Changes}
use Rattle.oe_locks.proofs.NameFacts.{eq_is_name, name_sym, same_true}

abbrev Entries : Type 0
Entries = List (Name × Mode)

-- a name stands among the names where it has a mode
pub stands-found : (es : Entries) (q : Name) → stands (keys_of es) q ≡ is_some (lookup (ghosts.eq q) es)
stands-found [] q = refl
stands-found (e ∷ es) q =
    ap (λ b. b || stands (keys_of es) q) (sym (eq_is_name q e.0)) ∙ go (ghosts.eq q e.0) (stands-found es q)
  where
    go : (b : Bool) → stands (keys_of es) q ≡ is_some (lookup (ghosts.eq q) es)
        → (b || stands (keys_of es) q) ≡ is_some (cond b (Some e.1) (lookup (ghosts.eq q) es))
    go true ih = refl
    go false ih = ih

none_is : (o : Option Mode) → is_some o ≡ false → o ≡ None
none_is None e = refl
none_is (Some m) e = absurd (false≢true (sym e))

-- where no two keys are equal, no name stands twice
apart : (x : Name) (xs : List Name) → AllByRecursion (λ y. ghosts.eq x y ≡ false) xs → stands xs x ≡ false
apart x [] h = refl
apart x (y ∷ ys) h = ap (λ b. b || stands ys x) (sym (eq_is_name x y) ∙ h.0) ∙ apart x ys h.1

pub once-distinct : (xs : List Name) → IsDistinct ghosts.eq xs → AreOnce xs
once-distinct [] d = tt
once-distinct (x ∷ xs) d = (
  apart x xs (IsDistinct-head ghosts.eq x xs d),
  once-distinct xs (IsDistinct-tail ghosts.eq x xs d),
)

-- a name that is there keeps its place
pub taken-there : (es : Entries) (n : Name) → is_some (lookup (ghosts.eq n) es) ≡ true
    → taken_names (keys_of es) n ≡ keys_of es
taken-there es n there = cond-true (stands (keys_of es) n) (keys_of es) (keys_of es ++ n ∷ [])
    (stands-found es n ∙ there)

-- and so the names are after an insertion
pub taken-inserted : (es : Entries) (n : Name) (m : Mode)
    → keys_of (insert_entry ghosts.eq es n m) ≡ taken_names (keys_of es) n
taken-inserted [] n m = refl
taken-inserted (e ∷ es) n m =
    go (ghosts.eq n e.0) (taken-inserted es n m)
    ∙ ap (λ b. if b || stands ks n then e.0 ∷ ks else e.0 ∷ (ks ++ n ∷ [])) (eq_is_name n e.0)
  where
    ks : List Name
    ks = keys_of es

    push : (b : Bool) → ◌≡◌ {A = List Name} (e.0 ∷ (if b then ks else ks ++ n ∷ []))
        (if b then e.0 ∷ ks else e.0 ∷ (ks ++ n ∷ []))
    push true = refl
    push false = refl

    go : (b : Bool) → keys_of (insert_entry ghosts.eq es n m) ≡ taken_names ks n
        → keys_of (if b then (e.0, m) ∷ es else e ∷ insert_entry ghosts.eq es n m)
        ≡ (if b || stands ks n then e.0 ∷ ks else e.0 ∷ (ks ++ n ∷ []))
    go true ih = refl
    go false ih = ap (λ l. e.0 ∷ l) ih ∙ push (stands ks n)

-- a name that leaves, where no name stands twice
or_false : (a b : Bool) → (a || b) ≡ false → (a ≡ false) × (b ≡ false)
or_false false b h = (refl, h)
or_false true b h = absurd (false≢true (sym h))

stay : (n : Name) (xs : List Name) → stands xs n ≡ false → filter (λ x. not (is_name x n)) xs ≡ xs
stay n [] h = refl
stay n (x ∷ xs) h =
    let p = or_false (is_name n x) (stands xs n) h in
    ap (λ b. cond (not b) (x ∷ filter (λ x. not (is_name x n)) xs) (filter (λ x. not (is_name x n)) xs))
    (name_sym x n ∙ p.0) ∙ ap (λ l. x ∷ l) (stay n xs p.1)

pub left-entries : (n : Name) (es : Entries) → lookup (ghosts.eq n) (remove_entry (ghosts.eq n) es) ≡ None
    → keys_of (remove_entry (ghosts.eq n) es) ≡ given_back_names (keys_of es) n None
left-entries n [] none = refl
left-entries n (e ∷ es) none = go (ghosts.eq n e.0) refl none (left-entries n es)
  where
    rest : Entries
    rest = remove_entry (ghosts.eq n) es

    others : List Name
    others = filter (λ x. not (is_name x n)) (keys_of es)

    go : (b : Bool) → ghosts.eq n e.0 ≡ b
        → lookup (ghosts.eq n) (cond b es (e ∷ rest)) ≡ None
        → (lookup (ghosts.eq n) rest ≡ None
        → keys_of rest ≡ others)
        → keys_of (cond b es (e ∷ rest)) ≡ cond (not (is_name e.0 n)) (e.0 ∷ others) others
    go true s gone ih =
        sym (stay n (keys_of es) (stands-found es n ∙ ap (λ o. is_some o) gone))
        ∙ sym (ap (λ b. cond (not b) (e.0 ∷ others) others) (name_sym e.0 n ∙ (sym (eq_is_name n e.0) ∙ s)))
    go false s gone ih =
        ap (λ l. e.0 ∷ l) (ih (sym (ap (λ b. cond b (Some e.1) (lookup (ghosts.eq n) rest)) s)
        ∙ gone))
        ∙ sym (ap (λ b. cond (not b) (e.0 ∷ others) others) (name_sym e.0 n ∙ (sym (eq_is_name n e.0) ∙ s)))

-- a name that stays in its mode
pub found-changes : (es : Entries) (n : Name) (m : Mode) → lookup (ghosts.eq n) es ≡ Some m → Changes es es n (Some m)
found-changes es n m found q = go (ghosts.eq n q) refl
  where
    go : (b : Bool) → ghosts.eq n q ≡ b → lookup (ghosts.eq q) es ≡ cond b (Some m) (lookup (ghosts.eq q) es)
    go true s = ap (λ k. lookup (ghosts.eq k) es) (sym (same_true n q s)) ∙ found
    go false s = refl
