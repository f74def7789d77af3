-- A line tells of a reply where its words ask for something.
use Rattle.std.proofs.Common.{◌≡◌, ℕ, ◌≤◌, Bool, List, Option, Some, None, length, sym, subst}
use Rattle.std.specs.Prelude.{MatchOption, IsTrue, is_some}
use Rattle.oe_rows.specs.declared.scales.Scale.{Scale}
use Rattle.oe_file_serial.specs.declared.lines.Asked.{Asked}
use Rattle.oe_file_serial.specs.Files.{Parts, Asks, IsTold, Opens, IsOpening}
use Rattle.oe_file_serial.specs.declared.origins.Opening.{Opening}
use Rattle.oe_file_serial.specs.declared.origins.Opening.TheVariants as opening
use Rattle.oe_file_serial.proofs.LineFacts.{parts_once}

-- words that ask for nothing, or what they ask for
abbrev pub AreRead : List ℕ → Option Asked → Type 0
AreRead words r = MatchOption r ((a : Asked) → Asks words a → ⊥) (Asks words)

-- a line whose words ask for nothing tells of no reply
pub untold : (line words text : List ℕ) → Parts line words text → ((a : Asked) → Asks words a → ⊥) → IsTold line → ⊥
untold line words text p none (a, other, tells) =
    none a (subst (λ (w : List ℕ). Asks w a) (parts_once line tells.words words other text tells.parts p).0 tells.asks)

pub told_is : (line words text : List ℕ) (r : Option Asked) (b : Bool) → length line ≤ 1_024 → Parts line words text
    → AreRead words r → b ≡ is_some r → (IsTrue b → IsTold line) × (IsTold line → IsTrue b)
told_is line words text None b short p none is =
    (λ yes. let never : ⊥ = cc in absurd never, λ told. absurd (untold line words text p none told))
told_is line words text (Some a) b short p asks is = (
  λ yes. (a, text, record { short = short; words = words; parts = p; asks = asks }),
  λ told. is,
)

pub opens_scale : (line : List ℕ) (r : Option Scale) (b : Bool) → b ≡ is_some r
    → MatchOption r ((s : Scale) → Opens line s → ⊥) (Opens line) → (k : Opening) → k ≡ opening.OfScale
    → (IsTrue b → IsOpening k line) × (IsOpening k line → IsTrue b)
opens_scale line None b is none k scale = (
  λ yes. let never : ⊥ = cc in absurd never,
  λ opens. let o = subst (λ (z : Opening). IsOpening z line) scale opens in absurd (none o.0 o.1),
)
opens_scale line (Some s) b is opens k scale =
    (λ yes. subst (λ (z : Opening). IsOpening z line) (sym scale) (s, opens), λ o. is)
