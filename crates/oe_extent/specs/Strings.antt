-- Byte strings that stand one after another, and how a reader tells them apart.
use Rattle.std.specs.Prelude.{◌≡◌, ◌≤◌, ℕ, zero, suc, ◌-◌, ◌*◌, List, [], ◌∷◌, ◌++◌, length, take, drop}
use Rattle.std.specs.List.{AllByRecursion}
use Rattle.byteorder.specs.Endian.{big_number}
use Rattle.oe_extent.specs.declared.sizes.TheConstants.{EXTENT_BYTES, LENGTH_BYTES, FRAME_BYTES}

-- the length in the last two bytes
unfoldable pub last_length : List ℕ → ℕ
last_length bytes = big_number LENGTH_BYTES (drop (length bytes - LENGTH_BYTES) bytes)

-- a string's length stands at both its ends
pub record IsFramed (s : List ℕ) : Type 0 where
  pub long : FRAME_BYTES ≤ length s
  pub first : big_number LENGTH_BYTES s ≡ length s
  pub last : last_length s ≡ length s

-- the bytes of strings, the newest first, which stands last
unfoldable pub bytes_of_strings : List (List ℕ) → List ℕ
bytes_of_strings [] = []
bytes_of_strings (s ∷ ss) = bytes_of_strings ss ++ s

-- the last k strings of the bytes, the newest first: the last two bytes of each are its length
unfoldable pub last_strings : ℕ → List ℕ → List (List ℕ)
last_strings zero bytes = []
last_strings (suc k) bytes =
    let start = length bytes - last_length bytes in drop start bytes ∷ last_strings k (take start bytes)

-- `count` framed strings fill the bytes
pub record AreStrings (count : ℕ) (bytes : List ℕ) : Type 0 where
  pub framed : AllByRecursion IsFramed (last_strings count bytes)
  pub whole : bytes_of_strings (last_strings count bytes) ≡ bytes
  pub counted : FRAME_BYTES * count ≤ length bytes

-- the bytes of an extent, whose front is full of strings
pub record IsPacked (count fill : ℕ) (bytes : List ℕ) : Type 0 where
  pub small : fill ≤ length bytes
  pub size : length bytes ≡ EXTENT_BYTES
  pub strings : AreStrings count (take fill bytes)

-- s is one of these strings, and the older ones before it have `offset` bytes
pub record BeginsAt (ss : List (List ℕ)) (offset : ℕ) (s : List ℕ) : Type 0 where
  pub newer : List (List ℕ)
  pub older : List (List ℕ)
  pub parts : ss ≡ newer ++ s ∷ older
  pub behind : length (bytes_of_strings older) ≡ offset

-- one of these strings begins there
pub record HasOffset (ss : List (List ℕ)) (offset : ℕ) : Type 0 where
  pub string : List ℕ
  pub begins : BeginsAt ss offset string

-- the bytes are the string of these that begins there
abbrev pub IsStringFrom : List (List ℕ) → ℕ → List ℕ → Type 0
IsStringFrom ss offset bytes = (s : List ℕ) → BeginsAt ss offset s → bytes ≡ s
