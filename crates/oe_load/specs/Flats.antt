-- The requests of a load alone, in an order in which each is the next of its terminal.
use Rattle.std.specs.Prelude.{zero, suc, ◌+◌, ◌-◌, ◌%◌, nat_lt, if◌then◌else◌, Bool, Option}
use Rattle.std.specs.Prelude.{None, Some, ◌≡◌, ℕ, List, [], ◌∷◌, ◌++◌, decimal}
use Rattle.std.specs.List.{flat_map}
use Rattle.oe_theory.specs.World.{bump}
use Rattle.oe_lines.specs.Grammar.{request_words, query_words}
use Rattle.oe_lines.specs.Texts.{line_of_words}
use Rattle.rand_pcg.specs.Lcg.{Lcg}
use Rattle.oe_terms.specs.Draws.{random}
use Rattle.oe_terms.specs.declared.plans.Plan.{Plan}
use Rattle.oe_terms.specs.declared.plans.Asked.{Asked}
use Rattle.oe_terms.specs.declared.plans.Asked.TheVariants as asked
use Rattle.oe_numbers.specs.declared.forms.Form.TheVariants as load_form
use Rattle.oe_load.specs.declared.origins.Origin.{Origin}
use Rattle.oe_load.specs.Loads.{IsNext, HasWords, opening_text}

-- a terminal, and what it asks for
pub record Sent : Type 0 where
  pub terminal : ℕ
  pub asked : Asked

-- the words behind a script's `begin` or `read now`
abbrev pub words_of : Asked → List (List ℕ)
words_of (asked.Transaction q) = request_words q
words_of (asked.Query q) = query_words q

-- the terminal and the words, as a line
abbrev pub flat_text : ℕ → Asked → List ℕ
flat_text t a = line_of_words (decimal t ∷ words_of a) ++ 10 ∷ []

-- the terminal that comes this number of places behind one, round
abbrev pub behind : Plan → ℕ → ℕ → ℕ
behind p t n = (t - 1 + n) % p.numbers.terminals + 1

-- the first of this number of terminals that passes a test, behind `before` others from one on
abbrev pub first_behind : Plan → (ℕ → Bool) → ℕ → ℕ → ℕ → Option ℕ
first_behind p f t before zero = None
first_behind p f t before (suc n) =
    if f (behind p t before) then Some (behind p t before) else first_behind p f t (suc before) n

-- that has requests left
abbrev pub left_behind : Plan → (ℕ → ℕ) → ℕ → ℕ → ℕ → Option ℕ
left_behind p served = first_behind p (λ t. nat_lt (served t) p.numbers.requests)

-- whose turn it is: the first terminal with requests left, from a drawn one on, round
abbrev pub turn_of : Plan → (ℕ → ℕ) → Lcg → Option ℕ
turn_of p served g = left_behind p served (random 1 p.numbers.terminals g).0 0 p.numbers.terminals

-- Requests in order, each the next of the terminal whose turn it is; `after` counts what is served then. So they are a
-- function of the plan and of how many they are.
abbrev pub InTurn : Plan → (ℕ → ℕ) → Lcg → List Sent → (ℕ → ℕ) → Lcg → Type 0
InTurn p served g [] after h = (after ≡ served) × (h ≡ g)
InTurn p served g (x ∷ xs) after h =
    (turn_of p served g ≡ Some x.terminal) × IsNext p served x.terminal x.asked × HasWords x.asked
    × InTurn p (bump x.terminal served) (random 1 p.numbers.terminals g).1 xs after h

abbrev pub requests_text : Plan → Origin → List Sent → List ℕ
requests_text p o xs = opening_text p o load_form.Flat ++ flat_map (λ x. flat_text x.terminal x.asked) xs
