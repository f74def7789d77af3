-- Blocks are one by their columns.
use Rattle.std.proofs.Common.{◌≡◌, refl, ℕ, ◌*◌, ◌%◌, ◌^◌, ◌<◌, mod-eq_of_lt, one-mul, ap, ◌∙◌, Option}
use Rattle.std.proofs.Common.{Some, None}
use Rattle.std.proofs.Math.Pow.{pow-lt}
use Rattle.std.specs.Cmp.{IsEquivalence, nat_eq_equiv, on_equiv, and_equiv}
use Rattle.std.specs.Option.{option_map}
use Rattle.oe_ledgers.proofs.KeptFacts.{orders_equal}
use Rattle.oe_line_numbers.specs.declared.numbers.LineBlock.{LineBlock}
use Rattle.oe_line_numbers.specs.Numbers.{same_block}

pub blocks_equal : IsEquivalence same_block
blocks_equal =
    and_equiv (on_equiv (λ (k : LineBlock). k.order) orders_equal) (on_equiv (λ (k : LineBlock). k.block) nat_eq_equiv)

pub mapped-twice : {V A B : Type 0} (f : V → A) (g : A → B) (r : Option V)
    → option_map (λ s. g (f s)) r ≡ option_map g (option_map f r)
mapped-twice f g None = refl
mapped-twice f g (Some x) = refl

-- a bit below 64 is within 64 bits
pub shifted : (k : ℕ) → k < 64 → 1 * 2 ^ k % 2 ^ 64 ≡ 2 ^ k
shifted k h = ap (λ n. n % 2 ^ 64) (one-mul (2 ^ k)) ∙ mod-eq_of_lt (pow-lt h)
