-- The files of tables.
use Rattle.std.specs.Prelude.{◌≡◌, ℕ, ◌<◌, true, false, is_ok, is_some, List, [], ◌∷◌, length, take}
use Rattle.std.specs.Prelude.{⊤, Option, Some, None, Result, Ok, Err}
use Rattle.std.specs.List.{list_all}
use Rattle.std.specs.Io.KnownBytes.{Consumes, IsAtEnd}
use Rattle.std.specs.IoError.{error_kind}
use Rattle.std.specs.declared.io.Error.{Error}
use Rattle.std.specs.declared.io.ErrorKind.TheVariants as kind
use Rattle.oe_rows.specs.declared.keys.Table.{Table}
use Rattle.oe_rows.specs.declared.keys.Table.TheVariants as table
use Rattle.oe_file_loading.specs.declared.loading.Sources.{Sources}
use Rattle.oe_file_loading.specs.declared.opening.Openness.{Openness}
use Rattle.oe_file_loading.specs.declared.opening.Openness.TheVariants as openness

-- the reader of a table
abbrev pub reader_of : {S : Type 0} → Sources S → Table → S
reader_of s table.Warehouse = s.warehouse
reader_of s table.District = s.district
reader_of s table.Customer = s.customer
reader_of s table.History = s.history
reader_of s table.NewOrder = s.new_order
reader_of s table.Order = s.order
reader_of s table.OrderLine = s.order_line
reader_of s table.Item = s.item
reader_of s table.Stock = s.stock

-- the nine readers
abbrev pub nine : {S : Type 0} → Sources S → List S
nine s =
    s.warehouse ∷ s.district ∷ s.customer ∷ s.history ∷ s.new_order ∷ s.order ∷ s.order_line ∷ s.item ∷ s.stock ∷ []

-- each table's reader is of that table
abbrev pub AreTheirs : {S : Type 0} → (S → Table) → Sources S → Type 0
AreTheirs of s = (t : Table) → of (reader_of s t) ≡ t

-- why a file is closed
abbrev pub cause_of : {F E : Type 0} → Result F E → Option E
cause_of (Ok file) = None
cause_of (Err cause) = Some cause

-- A read hands on the bytes that the open file gives next; or it fails, and the file is closed, or stays so for the
-- same cause.
abbrev pub HandsOn :
    {F E X : Type 0} → (F → Option (List ℕ)) → Result F E → Result F E → Result ℕ X → List ℕ → Type 0
HandsOn remaining (Ok old) (Ok new) (Ok n) buf =
    Consumes (remaining old) (remaining new) (take n buf) × (n ≡ 0 → 0 < length buf → IsAtEnd (remaining new))
HandsOn remaining (Ok old) (Ok new) (Err f) buf = ⊥
HandsOn remaining (Ok old) (Err cause) (Ok n) buf = ⊥
HandsOn remaining (Ok old) (Err cause) (Err f) buf = ⊤
HandsOn remaining (Err cause) (Ok new) r buf = ⊥
HandsOn remaining (Err cause) (Err later) (Ok n) buf = ⊥
HandsOn remaining (Err cause) (Err later) (Err f) buf = later ≡ cause

-- there was no memory to open a file
abbrev pub LacksMemory : {F : Type 0} → Result F Error → Type 0
LacksMemory (Ok file) = ⊥
LacksMemory (Err cause) = error_kind cause ≡ kind.OutOfMemory

-- whether a file is open that is closed for this cause, or for none
abbrev pub IsOneOpen : Option Error → Openness → Type 0
IsOneOpen cause openness.Open = cause ≡ None
IsOneOpen cause openness.Closed = is_some cause ≡ true
IsOneOpen cause openness.NoMemory = (e : Error) × (cause ≡ Some e) × (error_kind e ≡ kind.OutOfMemory)

-- whether nine files are open
abbrev pub AreOpen : {S F : Type 0} → (S → Result F Error) → Sources S → Openness → Type 0
AreOpen file s openness.Open = list_all (λ x. is_ok (file x)) (nine s) ≡ true
AreOpen file s openness.Closed = list_all (λ x. is_ok (file x)) (nine s) ≡ false
AreOpen file s openness.NoMemory = (t : Table) × LacksMemory (file (reader_of s t))
