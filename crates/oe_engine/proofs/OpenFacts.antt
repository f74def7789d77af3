-- How the keys of tables get places for their links, one after another.
use Rattle.std.proofs.Common.{◌≡◌, refl, sym, ◌∙◌, subst, List, [], ◌∷◌}
use Rattle.std.specs.Prelude.{Option, None, Some, true, Result, Ok, Err, OnOk}
use Rattle.oe_rows.specs.declared.keys.Key.{Key}
use Rattle.oe_rows.specs.declared.keys.Key.TheVariants as key
use Rattle.oe_rows.specs.declared.keys.Table.{Table}
use Rattle.oe_rows.specs.declared.keys.Table.TheVariants as table
use Rattle.oe_undo.specs.Links.{LinkMaps, HasPlace, KeepsPlaces, comes_with}
use Rattle.oe_undo.proofs.LinkFacts.{comes_placed}
use Rattle.oe_undo.specs.Undo.{UndoState}
use Rattle.oe_store.specs.Places.{Places}
use Rattle.std.specs.List.{AllByRecursion}
use Rattle.oe_store.specs.KeyWalk.{placed_keys}
use Rattle.oe_store.proofs.KeyWalkFacts.{in_table}
use Rattle.oe_journal.specs.Linked.{AreLinked}
use Rattle.oe_engine.specs.Opened.{IsLinked, HasWaiting, IsCovered}

-- some of all were given places, and no place went: when the rest have theirs, all have
pub record IsLinking {X : Type 0} (P : LinkMaps → X → Type 0) (first now : UndoState) (rest all : List X) : Type 0 where
  pub log : now.log ≡ first.log
  pub kept : KeepsPlaces first.links now.links
  pub left : (m : LinkMaps) → KeepsPlaces now.links m → AllByRecursion (P m) rest → AllByRecursion (P m) all

module _ {X : Type 0} (P : LinkMaps → X → Type 0) where
  pub none_linked : (s : UndoState) (all : List X) → IsLinking P s s all all
  none_linked s all = record {
    log = refl;
    kept = λ k h. h;
    left = λ m kept h. h;
  }

  pub one_linked : ((m m' : LinkMaps) (x : X) → KeepsPlaces m m' → P m x → P m' x)
      → (first now next : UndoState) (x : X) (rest all : List X)
      → next.log ≡ now.log → KeepsPlaces now.links next.links → P next.links x → IsLinking P first now (x ∷ rest) all
      → IsLinking P first next rest all
  one_linked still first now next x rest all same kept has h = record {
    log = same ∙ h.log;
    kept = λ k p. kept k (h.kept k p);
    left = λ m more others. h.left m (λ k p. more k (kept k p)) (still next.links m x more has, others);
  }

  pub all_linked : (first now : UndoState) (all : List X) → IsLinking P first now [] all
      → AllByRecursion (P now.links) all
  all_linked first now all h = h.left now.links (λ k p. p) tt

-- the same of keys, of which one may wait
pub record IsLinkingKeys (first now : UndoState) (waiting : Option Key) (rest all : List Key) : Type 0 where
  pub log : now.log ≡ first.log
  pub kept : KeepsPlaces first.links now.links
  pub left : (m : LinkMaps) → KeepsPlaces now.links m → HasWaiting m waiting → AllByRecursion (HasPlace m) rest
      → AllByRecursion (HasPlace m) all

pub none_waits : (s : UndoState) (all : List Key) → IsLinkingKeys s s None all all
none_waits s all = record {
  log = refl;
  kept = λ k h. h;
  left = λ m kept waiting h. h;
}

pub next_waits : (first now next : UndoState) (waiting : Option Key) (k : Key) (rest all : List Key)
    → next.log ≡ now.log
    → KeepsPlaces now.links next.links → IsCovered next.links waiting k → IsLinkingKeys first now waiting (k ∷ rest) all
    → IsLinkingKeys first next (Some k) rest all
next_waits first now next waiting k rest all same kept covered h = record {
  log = same ∙ h.log;
  kept = λ j p. kept j (h.kept j p);
  left = λ m more has others. h.left m (λ j p. more j (kept j p)) (covered m more has) (has, others);
}

pub waiting_linked : (first now next : UndoState) (waiting : Option Key) (all : List Key)
    → KeepsPlaces now.links next.links → HasWaiting next.links waiting
    → IsLinkingKeys first now waiting [] all → AllByRecursion (HasPlace next.links) all
waiting_linked first now next waiting all kept has h = h.left next.links kept has tt

pub placed_covered : {T E : Type 0} (r : Result T E) (links : LinkMaps) (waiting : Option Key) (k next : Key)
    → waiting ≡ Some k → OnOk r (HasPlace links k)
    → OnOk r (IsCovered links waiting next)
placed_covered (Ok v) links waiting k next is has = λ m kept _. subst (HasWaiting m) (sym is) (kept k has)
placed_covered (Err e) links waiting k next is has = tt

pub waits_covered : (links : LinkMaps) (waiting : Option Key) (k next : Key) → waiting ≡ Some k
    → comes_with next k ≡ true → IsCovered links waiting next
waits_covered links waiting k next is with_next m kept has = subst (HasWaiting m) (sym is)
    (comes_placed m next k with_next has)

-- what has a place keeps it, and so does a table
still_of_all : (m m' : LinkMaps) (ks : List Key) → KeepsPlaces m m' → AllByRecursion (HasPlace m) ks
    → AllByRecursion (HasPlace m') ks
still_of_all m m' [] kept h = tt
still_of_all m m' (k ∷ ks) kept h = (kept k h.0, still_of_all m m' ks kept h.1)

pub tables_still : (ts : Places) (m m' : LinkMaps) (t : Table) → KeepsPlaces m m' → IsLinked ts m t → IsLinked ts m' t
tables_still ts m m' t = still_of_all m m' (placed_keys t ts)

-- the tables that are changed
abbrev pub changed_tables : List Table
changed_tables = table.Warehouse ∷ table.District ∷ table.Customer ∷ table.History ∷ table.NewOrder ∷ table.Order
    ∷ table.OrderLine ∷ table.Stock ∷ []

pub are_linked : (ts : Places) (m : LinkMaps) → AllByRecursion (IsLinked ts m) changed_tables → AreLinked ts m
are_linked ts m h (key.Item k) may = absurd may
are_linked ts m h (key.Warehouse k) may = in_table (HasPlace m) ts (key.Warehouse k) h.0
are_linked ts m h (key.District k) may = in_table (HasPlace m) ts (key.District k) h.1.0
are_linked ts m h (key.Customer k) may = in_table (HasPlace m) ts (key.Customer k) h.1.1.0
are_linked ts m h (key.History k) may = in_table (HasPlace m) ts (key.History k) h.1.1.1.0
are_linked ts m h (key.NewOrder k) may = in_table (HasPlace m) ts (key.NewOrder k) h.1.1.1.1.0
are_linked ts m h (key.Order k) may = in_table (HasPlace m) ts (key.Order k) h.1.1.1.1.1.0
are_linked ts m h (key.OrderLine k) may = in_table (HasPlace m) ts (key.OrderLine k) h.1.1.1.1.1.1.0
are_linked ts m h (key.Stock k) may = in_table (HasPlace m) ts (key.Stock k) h.1.1.1.1.1.1.1.0
