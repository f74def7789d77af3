-- Faults: the first twenty, and how many there are.
use Rattle.std.specs.Prelude.{ℕ, ◌+◌, ◌-◌, ◌^◌, min, List, [], ◌∷◌, ◌++◌, length, nat_lt, if◌then◌else◌}
use Rattle.oe_file_tables.specs.declared.faults.TheConstants.{KEPT}

pub record Told (T : Type 0) : Type 0 where
  pub kept : List T
  pub count : ℕ

abbrev pub no_faults : {T : Type 0} → Told T
no_faults = record { kept = []; count = 0 }

-- the count, as 64 bits hold it
abbrev pub in_64_bits : ℕ → ℕ
in_64_bits n = min n (2 ^ 64 - 1)

-- the last one too, where fewer than twenty stand before it
abbrev pub kept_more : {A : Type 0} → A → List A → List A
kept_more x xs = if nat_lt (length xs) KEPT then xs ++ x ∷ [] else xs

-- one fault more
abbrev pub with_fault : {T : Type 0} → T → Told T → Told T
with_fault f t = record { kept = kept_more f t.kept; count = in_64_bits (t.count + 1) }

-- more faults, the newest first
abbrev pub with_faults : {T : Type 0} → List T → Told T → Told T
with_faults [] t = t
with_faults (f ∷ fs) t = with_fault f (with_faults fs t)

-- more faults, one after another
abbrev pub with_each_fault : {T : Type 0} → List T → Told T → Told T
with_each_fault [] t = t
with_each_fault (f ∷ fs) t = with_each_fault fs (with_fault f t)
