-- The words that name kinds of transactions.
use Rattle.std.specs.Prelude.{◌≡◌, ◌↔◌, ◌⊎◌, ℕ, ◌==◌, List, [], ◌∷◌, ◌++◌, Bool, true, false, IsTrue, codes}
use Rattle.std.specs.Prelude.{if◌then◌else◌}
use Rattle.oe_numbers.specs.declared.kinds.Kind.{Kind}
use Rattle.oe_numbers.specs.declared.kinds.Kind.TheVariants as kind
use Rattle.oe_numbers.specs.declared.kinds.Kinds.{Kinds}

abbrev pub kind_name : Kind → List ℕ
kind_name kind.NewOrder = codes "neworder"
kind_name kind.Payment = codes "payment"
kind_name kind.Status = codes "status"
kind_name kind.Delivery = codes "delivery"
kind_name kind.Level = codes "level"

abbrev pub none_named : Kinds
none_named = record { new_order = false; payment = false; status = false; delivery = false; level = false }

-- a kind is among these
abbrev pub is_named : Kinds → Kind → Bool
is_named k kind.NewOrder = k.new_order
is_named k kind.Payment = k.payment
is_named k kind.Status = k.status
is_named k kind.Delivery = k.delivery
is_named k kind.Level = k.level

-- one more is named
abbrev pub with_kind : Kind → Kinds → Kinds
with_kind kind.NewOrder k = record k { new_order = true }
with_kind kind.Payment k = record k { payment = true }
with_kind kind.Status k = record k { status = true }
with_kind kind.Delivery k = record k { delivery = true }
with_kind kind.Level k = record k { level = true }

-- the parts of a word, which commas part; `held` stands before the word in its first part
abbrev pub parts_from : List ℕ → List ℕ → List (List ℕ)
parts_from held [] = held ∷ []
parts_from held (b ∷ bs) = if b == 44 then held ∷ parts_from [] bs else parts_from (held ++ b ∷ []) bs

abbrev pub parts_of : List ℕ → List (List ℕ)
parts_of word = parts_from [] word

-- this name is one of the parts
abbrev pub IsPart : List ℕ → List (List ℕ) → Type 0
IsPart name [] = ⊥
IsPart name (p ∷ ps) = (p ≡ name) ⊎ IsPart name ps

-- the word names these kinds: each part is a kind's name, and a kind is named exactly where a part is its name
pub record Names (word : List ℕ) (k : Kinds) : Type 0 where
  pub parts : (p : List ℕ) → IsPart p (parts_of word) → (x : Kind) × (p ≡ kind_name x)
  pub kinds : (x : Kind) → IsTrue (is_named k x) ↔ IsPart (kind_name x) (parts_of word)
