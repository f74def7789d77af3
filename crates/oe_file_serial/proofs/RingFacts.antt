-- A line opens an undo ring where it opens a scale too, once three words stand before the extents.
use Rattle.std.proofs.Common.{◌≡◌, ℕ, ◌<◌, ◌^◌, List, ◌∷◌, ◌++◌, length, codes, sym, ap, ◌∙◌, arith}
use Rattle.std.specs.Prelude.{◌≤◌, decimal}
use Rattle.std.specs.List.{join_with_byte}
use Rattle.std.proofs.lemmas.Fmt.{decimal_digit}
use Rattle.std.proofs.lemmas.List.{append_cancel_left}
use Rattle.oe_rows.specs.declared.scales.Scale.{Scale}
use Rattle.oe_lines.specs.declared.commands.RingChoice.{RingChoice}
use Rattle.oe_lines.specs.declared.commands.Command.TheVariants as command
use Rattle.oe_lines.specs.Grammar.{Says}
use Rattle.oe_lines.specs.Rings.{layout_words}
use Rattle.oe_file_serial.specs.Files.{OpensRing}
use Rattle.oe_reply_words.proofs.PartFacts.{once}
use Rattle.oe_file_serial.proofs.QueryFacts.{decimal_unparted, one_digit}

-- the words of a ring
abbrev ring_text : RingChoice → List ℕ
ring_text ring = join_with_byte 32 (decimal ring.extents ∷ layout_words ring.layout)

-- the smallest scale
abbrev pub smallest : Scale
smallest = record { warehouses = 1; customers = 1; items = 1 }

-- one word less
behind : (n : ℕ) (xs ys : List ℕ) → n < 2 ^ 64 → codes "1" ++ 32 ∷ xs ≡ decimal n ++ 32 ∷ ys → xs ≡ ys
behind n xs ys small e = (once 32 (codes "1") (decimal n) xs ys (one_digit 1) (decimal_unparted n small) e).1

found : (rest : List ℕ) (s : Scale) (ring : RingChoice)
    → Says (codes "open 1 1 1 " ++ rest) (command.Open s ring) → rest ≡ ring_text ring
found rest s ring says =
    let scale = says.form.0 in
    let all : codes "1" ++ 32 ∷ (codes "1" ++ 32 ∷ (codes "1" ++ 32 ∷ rest))
    ≡ decimal s.warehouses ++ 32 ∷ (decimal s.customers ++ 32 ∷ (decimal s.items ++ 32 ∷ ring_text ring)) =
    append_cancel_left (codes "open ")
    (codes "1" ++ 32 ∷ (codes "1" ++ 32 ∷ (codes "1" ++ 32 ∷ rest)))
    (decimal s.warehouses ++ 32 ∷ (decimal s.customers ++ 32 ∷ (decimal s.items ++ 32 ∷ ring_text ring)))
    says.spelled in
    behind s.items rest (ring_text ring) (omega (arith, scale.items.1))
    (behind s.customers (codes "1" ++ 32 ∷ rest) (decimal s.items ++ 32 ∷ ring_text ring)
    (omega (arith, scale.customers.1))
    (behind s.warehouses (codes "1" ++ 32 ∷ (codes "1" ++ 32 ∷ rest))
    (decimal s.customers ++ 32 ∷ (decimal s.items ++ 32 ∷ ring_text ring)) (omega (arith, scale.warehouses.1)) all))

pub opens_ring : (line rest : List ℕ) (s : Scale) (ring : RingChoice) → length line ≤ 1_024
    → line ≡ codes "open " ++ rest → Says (codes "open 1 1 1 " ++ rest) (command.Open s ring) → OpensRing line
opens_ring line rest s ring short is says = record {
  short = short;
  ring = ring;
  extents = says.form.1;
  spelled = is ∙ ap (λ (z : List ℕ). codes "open " ++ z) (found rest s ring says);
}

-- the text behind the first word
pub ring_behind : (line rest : List ℕ) (o : OpensRing line) → line ≡ codes "open " ++ rest → rest ≡ ring_text o.ring
ring_behind line rest o is = append_cancel_left (codes "open ") rest (ring_text o.ring) (sym is ∙ o.spelled)

pub ring_said : (line rest : List ℕ) (o : OpensRing line) → line ≡ codes "open " ++ rest
    → Says (codes "open 1 1 1 " ++ rest) (command.Open smallest o.ring)
ring_said line rest o is = record {
  form = (
    record {
      warehouses = (omega arith, omega arith);
      customers = (omega arith, omega arith);
      items = (omega arith, omega arith);
    },
    o.extents,
  );
  spelled =
      ap (λ (z : List ℕ). codes "open 1 1 1 " ++ z) (ring_behind line rest o is)
      ∙ ap (λ (d : List ℕ). codes "open " ++ (d ++ 32 ∷ (d ++ 32 ∷ (d ++ 32 ∷ ring_text o.ring))))
      (sym (decimal_digit 1 (omega arith)));
}
