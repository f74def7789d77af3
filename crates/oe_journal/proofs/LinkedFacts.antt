-- Which keys have places for their links, after a link is set, and after a record that was pushed is taken off again.
use Rattle.std.proofs.Common.{◌≡◌, Bool, true, false, cond, refl, sym, ap, ◌∙◌, subst, inl, inr, Option, None, Some}
use Rattle.std.proofs.Common.{is_some}
use Rattle.std.specs.Prelude.{◌≢◌, ◌↔◌, IsSome}
use Rattle.oe_rows.specs.declared.keys.Key.{Key}
use Rattle.oe_rows.specs.declared.keys.Key.TheVariants as key
use Rattle.oe_table.specs.Table.{left_of}
use Rattle.oe_model.specs.Changes.{Record, InsertedHistory, InsertedNewOrder, InsertedOrder, InsertedOrderLine}
use Rattle.oe_model.specs.Changes.{UpdatedWarehouse, UpdatedDistrict, UpdatedCustomer, UpdatedOrder, UpdatedOrderLine}
use Rattle.oe_model.specs.Changes.{UpdatedStock, DeletedNewOrder}
use Rattle.oe_model.specs.Changes.{ChangedWarehouse, ChangedDistrict, ChangedCustomer, ChangedOrder, ChangedOrderLine}
use Rattle.oe_model.specs.Changes.{ChangedStock}
use Rattle.oe_model.specs.Rows.{is_key}
use Rattle.oe_model.proofs.RowFacts.{key_true}
use Rattle.oe_store.specs.Places.{AddsPlace}
use Rattle.oe_store.specs.Places as tables
use Rattle.oe_undo.specs.declared.links.OwnedLink.{OwnedLink}
use Rattle.oe_change.specs.PutBack.{LeavesPlaces}
use Rattle.oe_undo.specs.Links.{LinkMaps, place_of, links_of, HasPlace, SetsLink, SamePlaces, LeadsTo, GivesUpLink}
use Rattle.oe_undo.proofs.LeadFacts.{set_leads}
use Rattle.oe_undo.specs.Owners.{link_by_now}
use Rattle.oe_undo.specs.Undo.{UndoState, link_seen}
use Rattle.oe_journal.specs.Linked.{MayChange, AreLinked, SameLinks, StayLinked, GivesUpOwn}

-- ---- a key's link is set

-- it is set, and then it leads again where it led, in the same log
pub given_back : (old mid new : UndoState) (own : Key) (l p : Option OwnedLink) → LeadsTo old.links mid.links own l
    → SetsLink mid.links new.links own p
    → new.log ≡ old.log → link_by_now new.log p ≡ link_seen old own → SameLinks old new
given_back old mid new own l p leads back log was k =
    ap (link_by_now new.log) ((set_leads mid.links new.links own p back).links k) ∙ go (is_key own k) refl
  where
    go : (b : Bool) → is_key own k ≡ b → link_by_now new.log (cond b p (links_of mid.links k)) ≡ link_seen old k
    go true e = was ∙ ap (link_seen old) (key_true own k e)
    go false e =
        ap (link_by_now new.log) (leads.links k ∙ ap (λ b. cond b l (links_of old.links k)) e)
        ∙ ap (λ v. link_by_now v (links_of old.links k)) log

-- ---- keys of the tables have places for their links

pub still_linked : (ts : tables.Places) (old new : LinkMaps) → ((k : Key) → HasPlace old k → HasPlace new k)
    → AreLinked ts old → AreLinked ts new
still_linked ts old new more h k may had = more k (h k may had)

-- and a key more, which has one
pub one_more_linked : (ts ts' : tables.Places) (old new : LinkMaps) (own : Key)
    → ((k : Key) → HasPlace old k → HasPlace new k) → HasPlace new own
    → AddsPlace ts ts' own → AreLinked ts old → AreLinked ts' new
one_more_linked ts ts' old new own more has adds h k may had =
    elim ((adds k).0 had) [
      | inl before ↦ more k (h k may before)
      | inr e ↦ subst (HasPlace new) (sym e) has
    ]

-- a key that has no place for its link has none in its table
pub unplaced : (ts : tables.Places) (links : LinkMaps) (k : Key) → MayChange k → AreLinked ts links
    → place_of links k ≡ None → tables.HasPlace ts k → ⊥
unplaced ts links k may h none had =
    let some : is_some (place_of links k) ≡ true = h k may had in
    let no : ◌≡◌ {A = Bool} false true = ap is_some (sym none) ∙ some in
    cc

-- ---- the places of links beside those of the tables

pub none_stay : (ts : tables.Places) (m : LinkMaps) → StayLinked ts ts m m
none_stay ts m = record { fewer = λ k h. h; linked = λ h. h }

pub then_stay : (ts ts' ts'' : tables.Places) (old mid new : LinkMaps) → StayLinked ts ts' old mid
    → StayLinked ts' ts'' mid new → StayLinked ts ts'' old new
then_stay ts ts' ts'' old mid new a b =
    record { fewer = λ k h. a.fewer k (b.fewer k h); linked = λ h. b.linked (a.linked h) }

pub links_stay : (ts : tables.Places) (old new : LinkMaps) → SamePlaces old new → StayLinked ts ts old new
links_stay ts old new same = record { fewer = λ k h. (same k).0 h; linked = λ h k may p. (same k).1 (h k may p) }

tables_stay : (ts ts' : tables.Places) (m : LinkMaps) → tables.SamePlaces ts ts' → StayLinked ts ts' m m
tables_stay ts ts' m same = record { fewer = λ k h. h; linked = λ h k may p. h k may ((same k).0 p) }

lost_stay : (ts ts' : tables.Places) (m : LinkMaps) (own : Key) → tables.LosesPlace ts ts' own → StayLinked ts ts' m m
lost_stay ts ts' m own lost = record { fewer = λ k h. h; linked = λ h k may p. h k may ((lost k).0 p).0 }

some_left : {X : Type 0} (p : Option (Option X)) → IsSome (left_of p) → IsSome p
some_left None h = h
some_left (Some p) h = refl

-- the place of a key's link goes with its place in the table
own_stay : (ts ts' : tables.Places) (old new : LinkMaps) (own : Key) → tables.LosesPlace ts ts' own
    → GivesUpLink old new own → StayLinked ts ts' old new
own_stay ts ts' old new own lost gives =
    record {
      fewer = λ k h. less k (is_key own k) (subst IsSome (gives k) h);
      linked = λ h k may p. more k (is_key own k) refl (lost k) (h k may ((lost k).0 p).0) p;
    }
  where
    less : (k : Key) (b : Bool) → IsSome (cond b (left_of (place_of old k)) (place_of old k)) → HasPlace old k
    less k true h = some_left (place_of old k) h
    less k false h = h

    more : (k : Key) (b : Bool) → is_key own k ≡ b → tables.HasPlace ts' k ↔ (tables.HasPlace ts k × (k ≢ own))
        → HasPlace old k → tables.HasPlace ts' k → HasPlace new k
    more k true e lost h p = absurd ((lost.0 p).1 (sym (key_true own k e)))
    more k false e lost h p =
        subst IsSome (sym (gives k ∙ ap (λ b. cond b (left_of (place_of old k)) (place_of old k)) e)) h

-- a change is undone, and its key's place stays, or goes with that of its link
pub kept_stay : (ts ts' : tables.Places) (old new : LinkMaps) → new ≡ old → tables.SamePlaces ts ts'
    → StayLinked ts ts' old new
kept_stay ts ts' old new same places = subst (StayLinked ts ts' old) (sym same) (tables_stay ts ts' old places)

pub gone_stay : (b : Record) (ts ts' : tables.Places) (old new : LinkMaps) → LeavesPlaces b ts ts'
    → GivesUpOwn b old new → StayLinked ts ts' old new
gone_stay (InsertedHistory k v) ts ts' old new h g = own_stay ts ts' old new (key.History k) h g
gone_stay (InsertedNewOrder k v) ts ts' old new h g = subst (StayLinked ts ts' old) (sym g)
    (lost_stay ts ts' old (key.NewOrder k) h)
gone_stay (InsertedOrder k v) ts ts' old new h g = subst (StayLinked ts ts' old) (sym g)
    (lost_stay ts ts' old (key.Order k) h)
gone_stay (InsertedOrderLine k v) ts ts' old new h g = subst (StayLinked ts ts' old) (sym g)
    (lost_stay ts ts' old (key.OrderLine k) h)
gone_stay (UpdatedWarehouse k v) ts ts' old new h g = kept_stay ts ts' old new g h
gone_stay (UpdatedDistrict k v) ts ts' old new h g = kept_stay ts ts' old new g h
gone_stay (UpdatedCustomer k v) ts ts' old new h g = kept_stay ts ts' old new g h
gone_stay (UpdatedOrder k v) ts ts' old new h g = kept_stay ts ts' old new g h
gone_stay (UpdatedOrderLine k v) ts ts' old new h g = kept_stay ts ts' old new g h
gone_stay (UpdatedStock k v) ts ts' old new h g = kept_stay ts ts' old new g h
gone_stay (ChangedWarehouse k v) ts ts' old new h g = kept_stay ts ts' old new g h
gone_stay (ChangedDistrict k v) ts ts' old new h g = kept_stay ts ts' old new g h
gone_stay (ChangedCustomer k v) ts ts' old new h g = kept_stay ts ts' old new g h
gone_stay (ChangedOrder k v) ts ts' old new h g = kept_stay ts ts' old new g h
gone_stay (ChangedOrderLine k v) ts ts' old new h g = kept_stay ts ts' old new g h
gone_stay (ChangedStock k v) ts ts' old new h g = kept_stay ts ts' old new g h
gone_stay (DeletedNewOrder k v) ts ts' old new h g = kept_stay ts ts' old new g h

-- ---- the same keys have places

pub no_links_set : (old new : LinkMaps) → new ≡ old → SamePlaces old new
no_links_set old new e = subst (SamePlaces old) (sym e) (λ k. (λ h. h, λ h. h))
