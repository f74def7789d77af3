-- Shares of kinds, and lines whose items are there.
use Rattle.std.proofs.Common.{◌≡◌, ◌+◌, ◌<◌, ◌≤◌, ℕ, [], ◌∷◌, ◌++◌}
use Rattle.std.proofs.Common.{min, ◌∙◌, arith}
use Rattle.oe_rows.specs.declared.scales.Scale.{Scale}
use Rattle.oe_requests.specs.declared.requests.RequestLine.{RequestLine}
use Rattle.std.specs.Prelude.{Bool, true, false}
use Rattle.oe_numbers.specs.declared.kinds.Kinds.{Kinds}
use Rattle.oe_terms.specs.Plans.{shares_to, used_line}

abbrev levels_of : Bool → Bool → Bool → Bool → Bool → ℕ
levels_of o p s d l =
    (shares_to (record { new_order = o; payment = p; status = s; delivery = d; level = l })).levels

some_of : (o p s d l : Bool) → 1 ≤ levels_of o p s d l
some_of true p s d l = omega arith
some_of false true s d l = omega arith
some_of false false true d l = omega arith
some_of false false false true l = omega arith
some_of false false false false true = omega arith
some_of false false false false false = omega arith

-- some kind is drawn
pub some_share : (k : Kinds) → 1 ≤ (shares_to k).levels
some_share k = some_of k.new_order k.payment k.status k.delivery k.level

min_low : (m n : ℕ) → m ≤ n → min m n ≡ m
min_low m n h = omega (arith, h)

-- a line whose item is there
used_same : (s : Scale) (l : RequestLine) → l.item ≤ s.items → used_line s l ≡ l
used_same s l h = λ i. record { supply = l.supply; item = min_low l.item s.items h i; quantity = l.quantity }
