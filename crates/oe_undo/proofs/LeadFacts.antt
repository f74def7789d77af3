-- What is left of the links where one was set, inserted, or given a place, and where a place was given up.
use Rattle.std.proofs.Common.{◌≡◌, refl, sym, ◌∙◌, ap, subst, cond, inl, inr, ◌⊎◌, Bool, true, false, Option, Some}
use Rattle.std.proofs.Common.{None}
use Rattle.std.specs.Prelude.{IsSome}
use Rattle.oe_rows.specs.declared.keys.Key.{Key}
use Rattle.oe_table.specs.Table.{left_of}
use Rattle.oe_model.specs.Rows.{is_key}
use Rattle.oe_model.proofs.RowFacts.{key_true, key_refl}
use Rattle.oe_undo.specs.declared.links.OwnedLink.{OwnedLink}
use Rattle.oe_undo.specs.Links.{LinkMaps, link_in, place_of, links_of, HasPlace, comes_with, SetsLink, GivesPlaces}
use Rattle.oe_undo.specs.Links.{InsertsLink, GivesUpLink, KeepsPlaces, Comes, LeadsTo}

set_in : (b : Bool) (l : Option OwnedLink) (p : Option (Option OwnedLink))
    → link_in (cond b (Some l) p) ≡ cond b l (link_in p)
set_in true l p = refl
set_in false l p = refl

given_in : (b : Bool) (p : Option (Option OwnedLink)) → link_in (cond b (Some (link_in p)) p) ≡ link_in p
given_in true p = refl
given_in false p = refl

has_still : (b : Bool) (l : Option OwnedLink) (p : Option (Option OwnedLink)) → IsSome p → IsSome (cond b (Some l) p)
has_still true l p h = refl
has_still false l p h = h

-- the key had a place
pub set_leads : (old new : LinkMaps) (own : Key) (l : Option OwnedLink) → SetsLink old new own l → LeadsTo old new own l
set_leads old new own l set = record {
  links = λ k. ap link_in (set k) ∙ set_in (is_key own k) l (place_of old k);
  kept = kept;
  placed = subst IsSome (sym (set own ∙ ap (λ b. cond b (Some l) (place_of old own)) (key_refl own))) refl;
  same = λ had k. (there had k (is_key own k) refl, kept k);
  given = λ k h. more k (is_key own k) refl h;
}
  where
    kept : KeepsPlaces old new
    kept k h = subst IsSome (sym (set k)) (has_still (is_key own k) l (place_of old k) h)

    more : (k : Key) (b : Bool) → is_key own k ≡ b → HasPlace new k → HasPlace old k ⊎ Comes own k
    more k true e h = inr (inl (sym (key_true own k e)))
    more k false e h = inl (subst IsSome (set k ∙ ap (λ b. cond b (Some l) (place_of old k)) e) h)

    there : HasPlace old own → (k : Key) (b : Bool) → is_key own k ≡ b → HasPlace new k → HasPlace old k
    there had k true e h = subst (HasPlace old) (key_true own k e) had
    there had k false e h = subst IsSome (set k ∙ ap (λ b. cond b (Some l) (place_of old k)) e) h

-- it had none
pub insert_leads : (old new : LinkMaps) (own : Key) (l : Option OwnedLink) → place_of old own ≡ None
    → InsertsLink old new own l → LeadsTo old new own l
insert_leads old new own l none inserts = record {
  links = λ k. ap link_in (inserts k) ∙ set_in (is_key own k) l (given k)
      ∙ ap (cond (is_key own k) l) (given_in (comes_with own k) (place_of old k));
  kept = λ k h. subst IsSome (sym (inserts k))
      (has_still (is_key own k) l (given k) (has_still (comes_with own k) (links_of old k) (place_of old k) h));
  placed = subst IsSome (sym (inserts own ∙ ap (λ b. cond b (Some l) (given own)) (key_refl own))) refl;
  same = λ had. let no : IsSome {T = Option OwnedLink} None = subst IsSome none had in cc;
  given = λ k h. more k (is_key own k) refl (comes_with own k) refl h;
}
  where
    given : Key → Option (Option OwnedLink)
    given k = cond (comes_with own k) (Some (links_of old k)) (place_of old k)

    more : (k : Key) (b : Bool) → is_key own k ≡ b → (c : Bool) → comes_with own k ≡ c → HasPlace new k
        → HasPlace old k ⊎ Comes own k
    more k true e c f h = inr (inl (sym (key_true own k e)))
    more k false e true f h = inr (inr f)
    more k false e false f h =
        inl (subst IsSome (inserts k ∙ ap (λ b. cond b (Some l) (given k)) e
        ∙ ap (λ b. cond b (Some (links_of old k)) (place_of old k)) f) h)

-- places alone were given
pub given_links : (old new : LinkMaps) (own : Key) → GivesPlaces old new own → (k : Key)
    → links_of new k ≡ links_of old k
given_links old new own given k = ap link_in (given k) ∙ given_in (comes_with own k) (place_of old k)

-- a place alone was given up: each key's link is as it was
left_in : (b : Bool) (p : Option (Option OwnedLink)) → link_in (cond b (left_of p) p) ≡ link_in p
left_in true None = refl
left_in true (Some None) = refl
left_in true (Some (Some l)) = refl
left_in false p = refl

pub given_up_links : (old new : LinkMaps) (own : Key) → GivesUpLink old new own → (k : Key)
    → links_of new k ≡ links_of old k
given_up_links old new own given_up k = ap link_in (given_up k) ∙ left_in (is_key own k) (place_of old k)
