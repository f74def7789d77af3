-- What leads from a record to the previous one of its row, as three numbers: extent, offset and moment.
use Rattle.std.specs.Prelude.{◌==◌, ◌≤◌, ◌&&◌, ⊤, ℕ, nat_le, List, ◌++◌, Option, Some, None, if◌then◌else◌}
use Rattle.std.specs.Int.{IsInRange}
use Rattle.oe_extent.specs.Images.{number, number_at}
use Rattle.oe_decode.specs.Fronts.{pair_at}
use Rattle.oe_extent.specs.declared.extents.Address.{Address}
use Rattle.oe_layout.specs.declared.links.Previous.{Previous}
use Rattle.oe_layout.specs.declared.links.Previous.TheVariants.{Nothing, Own, Committed}

-- the extent's number, the offset in it, and the moment
abbrev pub LinkNumbers : Type 0
LinkNumbers = ℕ × (ℕ × ℕ)

-- where there is no previous record, all bits of the address are 1 and the moment is 0; where it is of the same
-- transaction, all bits of the moment are 1
abbrev pub link_numbers : Previous → LinkNumbers
link_numbers Nothing = (65_535, (65_535, 0))
link_numbers (Own a) = (a.extent, (a.offset, 18_446_744_073_709_551_615))
link_numbers (Committed a moment) = (a.extent, (a.offset, moment))

-- 2, 2 and 8 bytes
abbrev pub link_image : LinkNumbers → List ℕ
link_image n = number 2 n.0 ++ (number 2 n.1.0 ++ number 8 n.1.1)

abbrev pub previous_image : Previous → List ℕ
previous_image p = link_image (link_numbers p)

pub record IsAddress (a : Address) : Type 0 where
  pub extent : a.extent ≤ 4_095
  pub offset : a.offset ≤ 4_095

-- a commit's moment is 1 or later
abbrev pub IsPrevious : Previous → Type 0
IsPrevious Nothing = ⊤
IsPrevious (Own a) = IsAddress a
IsPrevious (Committed a moment) = IsAddress a × IsInRange 1 999_999_999_999 moment

-- ---- read

abbrev pub with_rest : {Y : Type 0} → List ℕ → Option Y → Option (Y × List ℕ)
with_rest rest None = None
with_rest rest (Some y) = Some (y, rest)

-- what was read, as the value that it stands for, if any
abbrev pub read_as : {X Y : Type 0} → (X → Option Y) → Option (X × List ℕ) → Option (Y × List ℕ)
read_as f None = None
read_as f (Some x) = with_rest x.1 (f x.0)

abbrev pub at_address : Address → ℕ → Option Previous
at_address a moment =
    if moment == 18_446_744_073_709_551_615 then Some (Own a)
    else (if nat_le 1 moment && nat_le moment 999_999_999_999 then Some (Committed a moment) else None)

abbrev pub nothing_at : ℕ → ℕ → Option Previous
nothing_at offset moment = if offset == 65_535 && moment == 0 then Some Nothing else None

abbrev pub previous_of : LinkNumbers → Option Previous
previous_of n =
    if n.0 == 65_535 then nothing_at n.1.0 n.1.1
    else (if nat_le n.0 4_095 && nat_le n.1.0 4_095 then at_address (record {
      extent = n.0;
      offset = n.1.0;
    }) n.1.1 else None)

unfoldable pub previous_at : List ℕ → Option (Previous × List ℕ)
previous_at bytes =
    read_as previous_of (pair_at (number_at 2) (pair_at (number_at 2) (number_at 8)) bytes)
