-- The images of numbers, what a write leaves, and what is read from the front of bytes.
use Rattle.std.specs.Prelude.{◌≡◌, ℕ, ◌+◌, List, ◌++◌, length, take, drop, Option, Some, None, nat_lt, if◌then◌else◌}
use Rattle.byteorder.specs.Endian.{big_bytes, big_number}

-- a number in `width` bytes, the most significant first
abbrev pub number : ℕ → ℕ → List ℕ
number width n = big_bytes width n

-- `new` is `old` with the text from `start` up to `end`
pub record Writes (old : List ℕ) (start : ℕ) (text new : List ℕ) (end : ℕ) : Type 0 where
  pub end_is : end ≡ start + length text
  pub same_length : length new ≡ length old
  pub front : take end new ≡ take start old ++ text
  pub rest : drop end new ≡ drop end old

-- the number in the first `width` bytes, and the bytes behind them; none where there are fewer
abbrev pub number_at : ℕ → List ℕ → Option (ℕ × List ℕ)
number_at width bytes =
    if nat_lt (length bytes) width then None else Some (big_number width bytes, drop width bytes)

-- the first `count` bytes, and the bytes behind them; none where there are fewer
abbrev pub run_at : ℕ → List ℕ → Option (List ℕ × List ℕ)
run_at count bytes =
    if nat_lt (length bytes) count then None else Some (take count bytes, drop count bytes)
