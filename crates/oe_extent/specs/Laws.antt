-- A reading finds again what a write left.
use Rattle.std.specs.Prelude.{◌≡◌, ◌<◌, ◌≤◌, ℕ, ◌^◌, List, ◌++◌, length, drop, Some}
use Rattle.oe_extent.specs.Images.{number, Writes, number_at, run_at}

pub record Written_is_read : Type 0 where
  -- from the write's offset on stand its text and the old bytes behind that
  pub stands : (old : List ℕ) (start : ℕ) (text new : List ℕ) (end : ℕ)
      → start ≤ length old → Writes old start text new end → drop start new ≡ text ++ drop end old
  -- a number or a run is read where its image stands, whatever follows
  pub numbers : (width n : ℕ) (rest : List ℕ)
      → n < 256 ^ width → number_at width (number width n ++ rest) ≡ Some (n, rest)
  pub runs : (run rest : List ℕ) → run_at (length run) (run ++ rest) ≡ Some (run, rest)
