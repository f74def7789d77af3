-- Each facet that records have changed stays under a name that is held exclusively.
use Rattle.std.proofs.Common.{◌≡◌, ◌≢◌, ℕ, zero, suc, Bool, true, false, cond, refl, sym, ap, ◌∙◌, subst, inl, inr, ◌⊎◌}
use Rattle.std.proofs.Common.{List, [], ◌∷◌, take, drop, Option, Some}
use Rattle.oe_theory.specs.Machine.{Under}
use Rattle.oe_theory.specs.Machine as theory
use Rattle.oe_theory.specs.Next.{record_on}
use Rattle.oe_theory.specs.Undo.{unwind}
use Rattle.oe_rows.specs.declared.layouts.Layout.{Layout}
use Rattle.oe_rows.specs.declared.keys.Key.{Key}
use Rattle.oe_rows.specs.declared.locks.Name.{Name}
use Rattle.oe_model.specs.Rows.{Rows, row_at, is_key}
use Rattle.oe_model.specs.Changes.{Change, key_of, row_of, rows_after, Record, record_key, restore, put_back}
use Rattle.oe_model.specs.Locks.{is_name, Facet, part, facet_key, governs_part}
use Rattle.oe_model.specs.System.{system}
use Rattle.oe_model.proofs.RowFacts.{key_true, at_changed, at_put_back, same_rows, undone}
use Rattle.oe_model.proofs.SystemLaws as model
use Rattle.oe_undo.specs.Chains.{HaveNone}
use Rattle.oe_engine.specs.Covered.{SamePart, OwnsParts, OwnAllParts, IsUnused}
use Rattle.oe_engine.proofs.CoveredFacts.{AreApart, commutes, at_other_put_back}

abbrev Holding : Type 0
Holding = Name → Option theory.Mode

same_or : {A B C : Type 0} → (A → B) → A ⊎ C → B ⊎ C
same_or k (inl a) = inl (k a)
same_or k (inr c) = inr c

or_held : {A B C : Type 0} → (B → C) → A ⊎ B → A ⊎ C
or_held k (inl a) = inl a
or_held k (inr b) = inr (k b)

-- ---- names that are taken, and let go of

pub more_parts : (held now : Holding) → ((n : Name) → held n ≡ Some theory.Exclusive → now n ≡ Some theory.Exclusive)
    → (bs : List Record) (r : Rows) → OwnAllParts held bs r → OwnAllParts now bs r
more_parts held now more [] r h = tt
more_parts held now more (b ∷ bs) r h =
    ((λ f n g. or_held (more n) (h.0 f n g)), more_parts held now more bs (put_back b r) h.1)

pub less_parts : (held : Holding) (n : Name) (o : Option theory.Mode) (bs : List Record) (r : Rows) → IsUnused n bs r
    → OwnAllParts held bs r → OwnAllParts (λ q. cond (is_name q n) o (held q)) bs r
less_parts held n o [] r unused h = tt
less_parts held n o (b ∷ bs) r unused h =
    ((λ f q g. go f q g (is_name q n) refl (h.0 f q g)), less_parts held n o bs (put_back b r) unused.1 h.1)
  where
    go : (f : Facet) (q : Name) → governs_part f ≡ Under q → (x : Bool) → is_name q n ≡ x
        → SamePart f (put_back b r) r ⊎ (held q ≡ Some theory.Exclusive)
        → SamePart f (put_back b r) r ⊎ (cond x o (held q) ≡ Some theory.Exclusive)
    go f q g true e own = inl (unused.0.1 f (g ∙ ap Under (model.name_true q n e)))
    go f q g false e own = own

-- nothing was changed under a name that is not held so
pub left_if_lower : (held : Holding) (n : Name) (b : Record) (r : Rows) → held n ≢ Some theory.Exclusive
    → OwnsParts held (put_back b r) r → (f : Facet) → governs_part f ≡ Under n → SamePart f (put_back b r) r
left_if_lower held n b r ne own f g = go (own f n g)
  where
    go : SamePart f (put_back b r) r ⊎ (held n ≡ Some theory.Exclusive) → SamePart f (put_back b r) r
    go (inl same) = same
    go (inr e) = absurd (ne e)

-- ---- a change of the transaction's own

pub made_parts : (held : Holding) (l : Layout) (c : Change) (bs : List Record) (r : Rows)
    → OwnsParts held r (rows_after c r) → OwnAllParts held bs r
    → OwnAllParts held (record_on system l c r ∷ bs) (rows_after c r)
made_parts held l c bs r own h = (
  subst (λ (s : Rows). OwnsParts held s (rows_after c r)) (sym (undone l c r)) own,
  subst (λ (s : Rows). OwnAllParts held bs s) (sym (undone l c r)) h,
)

-- ---- a change of another row

under_change : (c : Change) (b : Record) (r : Rows) (f : Facet) → record_key b ≢ key_of c → SamePart f (put_back b r) r
    → SamePart f (put_back b (rows_after c r)) (rows_after c r)
under_change c b r f ne same =
    ap (λ (s : Rows). part f (row_at s (facet_key f))) (commutes b c r ne)
    ∙ ap (part f) (at_changed c (put_back b r) (facet_key f))
    ∙ go (is_key (facet_key f) (key_of c))
    ∙ sym (ap (part f) (at_changed c r (facet_key f)))
  where
    go : (x : Bool) → part f (cond x (row_of c) (row_at (put_back b r) (facet_key f)))
        ≡ part f (cond x (row_of c) (row_at r (facet_key f)))
    go true = refl
    go false = same

pub parts_under : (held : Holding) (c : Change) (bs : List Record) (r : Rows) → AreApart c bs → OwnAllParts held bs r
    → OwnAllParts held bs (rows_after c r)
parts_under held c [] r p h = tt
parts_under held c (b ∷ bs) r p h = (
  λ f n g. same_or (under_change c b r f p.0.other) (h.0 f n g),
  subst (λ (s : Rows). OwnAllParts held bs s) (sym (commutes b c r p.0.other))
      (parts_under held c bs (put_back b r) p.1 h.1),
)

-- ---- the undo of another row's changes

backs_commute : (a b : Record) (r : Rows) → record_key b ≢ record_key a
    → put_back b (put_back a r) ≡ put_back a (put_back b r)
backs_commute a b r ne = same_rows _ _ (λ k.
    at_put_back b (put_back a r) k
    ∙ ap (λ o. cond (is_key k (record_key b)) (restore b o) o) (at_put_back a r k)
    ∙ go k (is_key k (record_key b)) (is_key k (record_key a)) refl refl
    ∙ sym (ap (λ o. cond (is_key k (record_key a)) (restore a o) o) (at_put_back b r k))
    ∙ sym (at_put_back a (put_back b r) k))
  where
    go : (k : Key) (x y : Bool) → is_key k (record_key b) ≡ x → is_key k (record_key a) ≡ y
        → cond x (restore b (cond y (restore a (row_at r k)) (row_at r k)))
        (cond y (restore a (row_at r k)) (row_at r k))
        ≡ cond y (restore a (cond x (restore b (row_at r k)) (row_at r k)))
        (cond x (restore b (row_at r k)) (row_at r k))
    go k true true e d = absurd (ne (sym (key_true k (record_key b) e) ∙ key_true k (record_key a) d))
    go k true false e d = refl
    go k false true e d = refl
    go k false false e d = refl

under_back : (a b : Record) (r : Rows) (f : Facet) → record_key b ≢ record_key a → SamePart f (put_back b r) r
    → SamePart f (put_back b (put_back a r)) (put_back a r)
under_back a b r f ne same =
    ap (λ (s : Rows). part f (row_at s (facet_key f))) (backs_commute a b r ne)
    ∙ ap (part f) (at_put_back a (put_back b r) (facet_key f))
    ∙ go (is_key (facet_key f) (record_key a)) refl
    ∙ sym (ap (part f) (at_put_back a r (facet_key f)))
  where
    go : (x : Bool) → is_key (facet_key f) (record_key a) ≡ x
        → part f (cond x (restore a (row_at (put_back b r) (facet_key f))) (row_at (put_back b r) (facet_key f)))
        ≡ part f (cond x (restore a (row_at r (facet_key f))) (row_at r (facet_key f)))
    go true e = ap (λ o. part f (restore a o))
        (at_other_put_back b r (facet_key f) (λ d. ne (sym d ∙ key_true (facet_key f) (record_key a) e)))
    go false e = same

parts_beside : (held : Holding) (a : Record) (bs : List Record) (r : Rows) → HaveNone (record_key a) bs
    → OwnAllParts held bs r → OwnAllParts held bs (put_back a r)
parts_beside held a [] r p h = tt
parts_beside held a (b ∷ bs) r p h = (
  λ f n g. same_or (under_back a b r f p.0) (h.0 f n g),
  subst (λ (s : Rows). OwnAllParts held bs s) (sym (backs_commute a b r p.0))
      (parts_beside held a bs (put_back b r) p.1 h.1),
)

-- none of the first records is of a row that one of the others is of
abbrev pub AreOthers : List Record → List Record → Type 0
AreOthers [] bs = Unit {0}
AreOthers (a ∷ rest) bs = HaveNone (record_key a) bs × AreOthers rest bs

pub parts_unwound : (held : Holding) (gone bs : List Record) (r : Rows) → AreOthers gone bs → OwnAllParts held bs r
    → OwnAllParts held bs (unwind system gone r)
parts_unwound held [] bs r p h = h
parts_unwound held (a ∷ gone) bs r p h = parts_unwound held gone bs (put_back a r) p.1
    (parts_beside held a bs r p.0 h)

-- ---- the undo of its own

pub parts_below : (n : ℕ) (held : Holding) (bs : List Record) (r : Rows) → OwnAllParts held bs r
    → OwnAllParts held (drop n bs) (unwind system (take n bs) r)
parts_below zero held bs r h = h
parts_below (suc n) held [] r h = tt
parts_below (suc n) held (b ∷ bs) r h = parts_below n held bs (put_back b r) h.1
