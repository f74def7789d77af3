-- The places that a purge gives up.
use Rattle.std.specs.Prelude.{◌≡◌, ◌↔◌, ◌⊎◌, List, [], ◌∷◌, Option, IsSome}
use Rattle.oe_rows.specs.declared.keys.NewOrderKey.{NewOrderKey}
use Rattle.oe_rows.specs.declared.keys.Key.{Key}
use Rattle.oe_rows.specs.declared.keys.Key.TheVariants as key
use Rattle.oe_rows.specs.declared.orders.NewOrder.{NewOrder}
use Rattle.oe_model.specs.Rows.{row_at}
use Rattle.oe_model.specs.Changes.{Record, DeletedNewOrder}
use Rattle.oe_store.specs.Places.{Places, rows, HasPlace}
use Rattle.oe_log.specs.Log.{SegmentLog}
use Rattle.oe_undo.specs.Held.{all_held, of_key}

-- the record is of a delete of this NEW-ORDER row
abbrev pub IsDelete : NewOrderKey → Record → Type 0
IsDelete k b = (v : Option NewOrder) × (b ≡ DeletedNewOrder k v)

-- some record of the list is
abbrev pub HasDelete : NewOrderKey → List Record → Type 0
HasDelete k [] = ⊥
HasDelete k (b ∷ bs) = IsDelete k b ⊎ HasDelete k bs

-- some record of these commits is
abbrev pub HasDeleteIn : NewOrderKey → List (List Record) → Type 0
HasDeleteIn k [] = ⊥
HasDeleteIn k (bs ∷ ss) = HasDelete k bs ⊎ HasDeleteIn k ss

-- the key is of a NEW-ORDER row that one of these records says was deleted
abbrev pub IsDeleted : Key → List Record → Type 0
IsDeleted k bs = (o : NewOrderKey) × (k ≡ key.NewOrder o) × HasDelete o bs

-- the key is of a NEW-ORDER row that one of these commits deleted
abbrev pub IsDeletedIn : Key → List (List Record) → Type 0
IsDeletedIn k ss = (o : NewOrderKey) × (k ≡ key.NewOrder o) × HasDeleteIn o ss

-- the log has no record of the key, open or committed
abbrev pub HasNoRecord : SegmentLog → Key → Type 0
HasNoRecord u k = of_key k (all_held u) ≡ []

-- a key of this kind that has no row has no place any more, and each other key has one as before
abbrev pub GivesUpThose : Places → Places → (Key → Type 0) → Type 0
GivesUpThose old new P = (k : Key) → HasPlace new k ↔ (HasPlace old k × (P k → IsSome (row_at (rows old) k)))

-- the keys of the NEW-ORDER rows that these commits deleted have no place any more, where the log has no record of the
-- key
abbrev pub GivesUpDeleted : Places → Places → List (List Record) → SegmentLog → Type 0
GivesUpDeleted old new ss u = GivesUpThose old new (λ k. IsDeletedIn k ss × HasNoRecord u k)
