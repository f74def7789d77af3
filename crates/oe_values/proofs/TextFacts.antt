-- Lemmas on texts.
use Rattle.std.proofs.Common.{ℕ, zero, suc, List, [], ◌∷◌, arith, lit<}
use Rattle.std.specs.List.{All}
use Rattle.std.specs.Str.{IsAscii, IsUtf8}
use Rattle.std.proofs.lemmas.Str.{IsUtf8-from_ascii}
use Rattle.std.proofs.lemmas.List.Elements.{All-head, All-tail}
use Rattle.oe_values.specs.Text.{IsPrintable}

-- printable bytes are text
pub IsUtf8-printable : (bs : List ℕ) → All IsPrintable bs → IsUtf8 bs
IsUtf8-printable bs h = IsUtf8-from_ascii bs (ascii bs h)
  where
    ascii : (bs : List ℕ) → All IsPrintable bs → IsAscii bs
    ascii [] h i = lit< tt
    ascii (b ∷ bs) h zero = omega (arith, (All-head IsPrintable b bs h).1)
    ascii (b ∷ bs) h (suc i) = ascii bs (All-tail IsPrintable b bs h) i
