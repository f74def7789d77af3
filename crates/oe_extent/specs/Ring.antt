-- The strings of a ring, by slot and by commit, and what each call makes of them.
use Rattle.std.specs.Prelude.{◌≡◌, ◌≢◌, ◌<◌, ◌≤◌, ◌⊎◌, ◌+◌, ◌-◌, ◌==◌, ℕ, suc, nat_le, cond, true, List, [], ◌∷◌}
use Rattle.std.specs.Prelude.{length, map, take, drop, get_or, set, replicate}
use Rattle.std.specs.List.{AllByRecursion, sum_by}
use Rattle.oe_extent.specs.declared.sizes.TheConstants.{EXTENT_BYTES}
use Rattle.oe_extent.specs.declared.extents.Address.{Address}
use Rattle.oe_extent.specs.Free.{FreeExtents, IsNextFree, without_free_at, with_free_at, with_all_free}

-- a string with its address
pub record Addressed : Type 0 where
  pub address : Address
  pub bytes : List ℕ

-- How many extents there are, the strings of each slot and of each commit, newest first, for how many commits more
-- there is memory, and which extents are free. Commits are newest first too.
pub record RingStrings : Type 0 where
  pub extents : ℕ
  pub active : List (List Addressed)
  pub committed : List (List Addressed)
  pub room : ℕ
  pub pool : FreeExtents

-- how many extents strings of these lengths, the newest first, fill in order, and how many bytes are left of the last
abbrev pub fill_of : List ℕ → ℕ × ℕ
fill_of [] = (0, 0)
fill_of (l ∷ ls) = let f = fill_of ls in cond (nat_le l f.1) (f.0, f.1 - l) (suc f.0, EXTENT_BYTES - l)

abbrev pub lengths_of : List Addressed → List ℕ
lengths_of ss = map (λ s. length s.bytes) ss

-- how many extents all strings fill
abbrev pub used_of : RingStrings → ℕ
used_of v =
    sum_by (λ ss. (fill_of (lengths_of ss)).0) v.active
    + sum_by (λ ss. (fill_of (lengths_of ss)).0) v.committed

-- for how many commits there is memory, those that are there included
abbrev pub capacity_of : RingStrings → ℕ
capacity_of v = length v.committed + v.room

-- how many bytes are left behind these strings in the last extent that they fill
abbrev pub rest_behind : List Addressed → ℕ
rest_behind ss = (fill_of (lengths_of ss)).1

-- a string of that length fits neither the rest of the slot's last extent nor a free one
abbrev pub IsFull : RingStrings → ℕ → ℕ → Type 0
IsFull v slot length =
    (rest_behind (get_or v.active slot []) < length) × (v.extents ≤ used_of v)

-- the address behind the newest of these strings
abbrev pub behind : List Addressed → Address
behind [] = record { extent = 0; offset = 0 }
behind (s ∷ ss) =
    record { extent = s.address.extent; offset = s.address.offset + length s.bytes }

-- A string of that length comes to stand there: behind the slot's newest string, where the rest of its extent has room,
-- else at the front of the extent that is the next free one from the cursor on.
pub record IsNextAddress (v : RingStrings) (slot size : ℕ) (a : Address) : Type 0 where
  pub fits : size ≤ rest_behind (get_or v.active slot []) → a ≡ behind (get_or v.active slot [])
  pub other : rest_behind (get_or v.active slot []) < size
      → IsNextFree v.pool.is_free v.pool.cursor a.extent × (a.offset ≡ 0)

-- a slot has a string more, and the string takes its extent where the rest of the slot's last one is too short
abbrev pub with_string_at : RingStrings → ℕ → Address → List ℕ → RingStrings
with_string_at v slot a bytes =
    let s : Addressed = record { address = a; bytes = bytes } in
    let ss = get_or v.active slot [] in
    record v {
      active = set v.active slot (s ∷ ss);
      pool = cond (nat_le (length bytes) (rest_behind ss)) v.pool (without_free_at v.pool a.extent);
    }

-- the pool without the newest of these strings, whose extent is free again where the string stands at its front: no
-- other stands there
abbrev pub pool_without_newest : List Addressed → FreeExtents → FreeExtents
pool_without_newest [] p = p
pool_without_newest (s ∷ ss) p = cond (s.address.offset == 0) (with_free_at p s.address.extent) p

-- a slot has a string less, and the pool an extent more where that string was the only one there
abbrev pub without_string_at : RingStrings → ℕ → RingStrings
without_string_at v slot =
    let ss = get_or v.active slot [] in
    record v { active = set v.active slot (drop 1 ss); pool = pool_without_newest ss v.pool }

-- the bytes of the newest of these strings
abbrev pub newest_bytes : List Addressed → List ℕ
newest_bytes [] = []
newest_bytes (s ∷ ss) = s.bytes

-- the strings themselves
abbrev pub strings_of : List Addressed → List (List ℕ)
strings_of ss = map (λ s. s.bytes) ss

-- the string with these bytes is in the list, at that address
abbrev pub StandsAt : Address → List ℕ → List Addressed → Type 0
StandsAt a bytes [] = ⊥
StandsAt a bytes (s ∷ ss) = (s ≡ record { address = a; bytes = bytes }) ⊎ StandsAt a bytes ss

-- one of these strings is at that address
pub record HasAddress (ss : List Addressed) (a : Address) : Type 0 where
  pub bytes : List ℕ
  pub stands : StandsAt a bytes ss

-- the string at that address has these bytes
abbrev pub IsStringAt : List Addressed → Address → List ℕ → Type 0
IsStringAt ss a bytes = (s : List ℕ) → StandsAt a s ss → bytes ≡ s

-- none of these strings is at that address
abbrev pub StandElsewhere : Address → List Addressed → Type 0
StandElsewhere a ss = AllByRecursion (λ s. s.address ≢ a) ss

-- no string of a slot or of a commit is at that address
pub record IsFresh (v : RingStrings) (a : Address) : Type 0 where
  pub active : (slot : ℕ) → StandElsewhere a (get_or v.active slot [])
  pub committed : (commit : ℕ) → StandElsewhere a (get_or v.committed commit [])

-- the newest commit has a slot's strings, and the slot has none
abbrev pub after_seal_at : RingStrings → ℕ → RingStrings
after_seal_at v slot =
    record v { active = set v.active slot []; committed = get_or v.active slot [] ∷ v.committed }

-- a slot has the strings of the newest commit, which is gone
abbrev pub after_reopening_at : RingStrings → ℕ → RingStrings
after_reopening_at v slot =
    record v {
      active = set v.active slot (get_or v.committed 0 []);
      committed = drop 1 v.committed;
    }

-- all but the last, which is the oldest
abbrev pub without_last : List (List Addressed) → List (List Addressed)
without_last ss = take (length ss - 1) ss

-- the last, which is the oldest, where there is one
abbrev pub oldest_of : List (List Addressed) → List Addressed
oldest_of ss = get_or ss (length ss - 1) []

-- the extent of each of these strings
abbrev pub extents_of : List Addressed → List ℕ
extents_of ss = map (λ s. s.address.extent) ss

-- the oldest commit is gone, where there is one, and the extents of its strings are free again
abbrev pub without_oldest : RingStrings → ℕ → RingStrings
without_oldest v room =
    record v {
      committed = without_last v.committed;
      room = room;
      pool = with_all_free v.pool (extents_of (oldest_of v.committed));
    }

-- no strings, and all extents are free
abbrev pub no_strings : ℕ → ℕ → RingStrings
no_strings extents slots =
    record {
      extents = extents;
      active = replicate slots [];
      committed = [];
      room = 0;
      pool = record { is_free = replicate extents true; cursor = 0 };
    }
