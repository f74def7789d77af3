-- What a hasher of names computes.
use Rattle.std.specs.Prelude.{ℕ, ◌*◌, ◌%◌, ◌^◌, List, length, fold, if◌then◌else◌, nat_eq, bit_xor}
use Rattle.std.specs.Int.{w32, w64, from_le_bytes}

-- a number joins a state
abbrev pub hash_with : ℕ → ℕ → ℕ
hash_with s n = (bit_xor s n * 0x9e37_79b9_7f4a_7c15) % 2 ^ 64

-- bytes join a state: four or eight as one number, the lowest first, and others one by one
abbrev pub joined_bytes : ℕ → List ℕ → ℕ
joined_bytes s bs = if nat_eq (length bs) 4 then hash_with s (from_le_bytes w32 bs)
    else (if nat_eq (length bs) 8 then hash_with s (from_le_bytes w64 bs) else fold hash_with s bs)
