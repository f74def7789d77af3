-- The files of a folder that have names of tables.
use Rattle.std.specs.Prelude.{◌≡◌, ℕ, Bool, List, [], ◌∷◌, map, nat_eq, Option, None, Some, if◌then◌else◌}
use Rattle.std.specs.Prelude.{Result, IfOk, IfSome}
use Rattle.std.specs.Borrow.{Bor}
use Rattle.std.specs.Cmp.Lexicographic.{pointwise}
use Rattle.std.specs.String.{string_bytes}
use Rattle.std.specs.declared.alloc.Global.{Global}
use Rattle.std.specs.declared.vec.Vec.{Vec}
use Rattle.oe_facts.specs.Table.{name_of}
use Rattle.oe_facts.specs.declared.tables.Table.{Table}
use Rattle.oe_facts.specs.declared.tables.Table.TheVariants as table
use Rattle.oe_file_audit.specs.declared.reading.TableSource.{TableSource}
use Rattle.oe_answers.specs.declared.folders.Audited.{Audited}
use Rattle.oe_answers.specs.declared.folders.Audited.TheVariants as audited
use Rattle.oe_answers.specs.declared.folders.TableName.{TableName}

-- the tables, customers before orders
abbrev pub tables : List Table
tables =
    table.Warehouse ∷ table.District ∷ table.Customer ∷ table.History ∷ table.NewOrder ∷ table.Order ∷ table.OrderLine
    ∷ table.Item ∷ table.Stock ∷ []

-- those whose rows are compared with earlier ones
abbrev pub lasting_tables : List Table
lasting_tables = table.Warehouse ∷ table.District ∷ table.Customer ∷ table.Item ∷ table.Stock ∷ []

abbrev pub is_of : Table → TableName → Bool
is_of t n = pointwise nat_eq (name_of n.table) (name_of t)

-- the names of a table's files
abbrev pub names_of : Table → List TableName → List (List ℕ)
names_of t [] = []
names_of t (n ∷ ns) = if is_of t n then string_bytes n.name ∷ names_of t ns else names_of t ns

-- a name, where it is the only one
abbrev pub only_of : List (List ℕ) → List (List ℕ)
only_of [] = []
only_of (n ∷ []) = n ∷ []
only_of (n ∷ m ∷ r) = []

abbrev pub texts_of : Option (Bor (List ℕ)) → List (List ℕ)
texts_of None = []
texts_of (Some name) = name.now ∷ []

-- the tables whose files were opened, where all of them were
abbrev pub AreOf : {S E : Type 0} → List Table → Result (Option (Vec (TableSource S) Global)) E → Type 0
AreOf ts opened = IfOk opened (λ o. IfSome o (λ s. map (λ t. t.table) s.items ≡ ts))

-- a folder that is audited has a file for each table
abbrev pub HasTables : {F D : Type 0} → Audited F D → Type 0
HasTables (audited.Folder opened) = AreOf tables opened
HasTables (audited.Dump source) = Unit {0}
