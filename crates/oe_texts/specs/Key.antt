-- The texts of keys, and of the names of locks.
use Rattle.std.specs.Prelude.{ℕ, List, [], ◌∷◌, ◌++◌, map, codes, decimal}
use Rattle.std.specs.List.{join_with_byte}
use Rattle.oe_rows.specs.Key.{table_of, table_name, key_columns}
use Rattle.oe_rows.specs.declared.keys.Key.{Key}
use Rattle.oe_rows.specs.declared.locks.Name.{Name}
use Rattle.oe_rows.specs.declared.locks.Name.TheVariants.{Warehouse, District, Customer, Order, Queue, Stock, Names}

-- the columns of a key, from the left
abbrev pub key_texts : Key → List (List ℕ)
key_texts k = map decimal (key_columns k)

-- the table's name and the columns of the key, parted by blanks
abbrev pub key_text : Key → List ℕ
key_text k = join_with_byte 32 (table_name (table_of k) ∷ map decimal (key_columns k))

-- the word of a name's kind
abbrev pub kind_text : Name → List ℕ
kind_text (Warehouse k) = codes "Warehouse"
kind_text (District k) = codes "District"
kind_text (Customer k) = codes "Customer"
kind_text (Order k) = codes "Order"
kind_text (Queue k) = codes "Queue"
kind_text (Stock k) = codes "Stock"
kind_text (Names k last) = codes "Names"

-- the columns of the key in a name, from the left, and of a last name its letters
abbrev pub name_words : Name → List (List ℕ)
name_words (Warehouse k) = decimal k.warehouse ∷ []
name_words (District k) = decimal k.warehouse ∷ decimal k.district ∷ []
name_words (Customer k) = decimal k.warehouse ∷ decimal k.district ∷ decimal k.customer ∷ []
name_words (Order k) = decimal k.warehouse ∷ decimal k.district ∷ decimal k.order ∷ []
name_words (Queue k) = decimal k.warehouse ∷ decimal k.district ∷ []
name_words (Stock k) = decimal k.warehouse ∷ decimal k.item ∷ []
name_words (Names k last) = decimal k.warehouse ∷ decimal k.district ∷ last ∷ []

-- the kind, and in brackets the words parted by commas
abbrev pub name_text : Name → List ℕ
name_text n =
    kind_text n ++ codes "(" ++ join_with_byte 44 (name_words n) ++ codes ")"
