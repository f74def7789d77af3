-- Numbers may be put together in any order.
use Rattle.std.specs.Prelude.{◌≡◌, ℕ, bit_or, max}
use Rattle.std.proofs.Common.{sym, ◌∙◌, ap}
use Rattle.std.proofs.lemmas.Nat.Bits.{same_from_bits, bit_at_or}
use Rattle.std.specs.Int.{bit_at}
use Rattle.oe_ledgers.specs.ColumnLaws.{capped_associative, capped_commutative, max_associative, max_commutative}
use Rattle.oe_ledgers.specs.Sums.{most}
use Rattle.oe_line_numbers.specs.declared.numbers.Numbers.{Numbers}
use Rattle.oe_line_numbers.specs.Numbers.{numbers_joined}

seen_associative : (a b c : ℕ) → bit_or (bit_or a b) c ≡ bit_or a (bit_or b c)
seen_associative a b c =
    same_from_bits (bit_or (bit_or a b) c) (bit_or a (bit_or b c)) (λ i.
    bit_at_or (bit_or a b) c i ∙ ap (λ x. max x (bit_at c i)) (bit_at_or a b i)
    ∙ max_associative (bit_at a i) (bit_at b i) (bit_at c i)
    ∙ sym (bit_at_or a (bit_or b c) i ∙ ap (max (bit_at a i)) (bit_at_or b c i)))

seen_commutative : (a b : ℕ) → bit_or a b ≡ bit_or b a
seen_commutative a b =
    same_from_bits (bit_or a b) (bit_or b a) (λ i.
    bit_at_or a b i ∙ max_commutative (bit_at a i) (bit_at b i) ∙ sym (bit_at_or b a i))

pub numbers_associative : (a b c : Numbers)
    → numbers_joined (numbers_joined a b) c ≡ numbers_joined a (numbers_joined b c)
numbers_associative a b c = λ i. record {
  seen = seen_associative a.seen b.seen c.seen i;
  rows = capped_associative most a.rows b.rows c.rows i;
}

pub numbers_commutative : (a b : Numbers) → numbers_joined a b ≡ numbers_joined b a
numbers_commutative a b = λ i. record {
  seen = seen_commutative a.seen b.seen i;
  rows = capped_commutative most a.rows b.rows i;
}
