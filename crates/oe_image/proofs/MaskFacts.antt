-- Binary digits: how great a number of so many of them is, also at the left end of bytes.
use Rattle.std.proofs.Common.{◌≡◌, ℕ, zero, suc, ◌+◌, ◌-◌, ◌*◌, ◌^◌, ◌<◌, Bool, true, false, cond, List, [], ◌∷◌}
use Rattle.std.proofs.Common.{length, refl, ap, arith, pow-add, pow-suc, pow_pos}
use Rattle.std.specs.Prelude.{◌≤◌}
use Rattle.std.proofs.lemmas.Nat.{mul-add-lt}
use Rattle.oe_image.specs.Before.{binary}

pub binary_small : (bs : List Bool) → binary bs < 2 ^ length bs
binary_small [] = omega arith
binary_small (b ∷ bs) = go b (binary_small bs) (pow-suc 2 (length bs))
  where
    go : (b : Bool) → binary bs < 2 ^ length bs → 2 ^ suc (length bs) ≡ 2 ^ length bs * 2
        → cond b (2 ^ length bs) 0 + binary bs < 2 ^ suc (length bs)
    go true h e = omega (arith, h, e)
    go false h e = omega (arith, h, e)

-- the number of two runs of digits
joined_small : (a b m n : ℕ) → a < 2 ^ m → b < 2 ^ n → a * 2 ^ n + b < 2 ^ (m + n)
joined_small a b m n p q = omega (arith, mul-add-lt a (2 ^ n) b (2 ^ m) p q, pow-add 2 m n)

pub bytes_wide : (w : ℕ) → w ≤ 3 → 256 ^ w ≡ 2 ^ (8 * w)
bytes_wide zero h = refl
bytes_wide (suc zero) h = refl
bytes_wide (suc (suc zero)) h = refl
bytes_wide (suc (suc (suc zero))) h = refl
bytes_wide (suc (suc (suc (suc w)))) h = absurd (omega (arith, h))

-- digits at the left end of bytes
pub in_bytes : (a m w : ℕ) → a < 2 ^ m → m ≤ 8 * w → w ≤ 3 → a * 2 ^ (8 * w - m) < 256 ^ w
in_bytes a m w p h q =
    let whole : m + (8 * w - m) ≡ 8 * w = omega (arith, h) in
    omega (
      arith,
      joined_small a 0 m (8 * w - m) p (pow_pos (8 * w - m)),
      ap (λ n. 2 ^ n) whole,
      bytes_wide w q,
    )
