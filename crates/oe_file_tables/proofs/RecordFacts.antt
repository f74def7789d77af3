-- A record goes on by one byte.
use Rattle.std.proofs.Common.{◌≡◌, ℕ, List, [], ◌∷◌, ◌++◌, Option, Some, None, sym, ap, ◌∙◌, refl, append_assoc}
use Rattle.std.specs.Option.{option_map}
use Rattle.oe_values.specs.Front.{◌>>=◌}
use Rattle.oe_file_tables.specs.declared.records.Within.{Within}
use Rattle.oe_file_tables.specs.Record.{step, line_from, line_onward}

pub some_inj : {A : Type 0} (a b : A) → ◌≡◌ {A = Option A} (Some a) (Some b) → a ≡ b
some_inj a b e = cc

-- what is left of the record, behind the line so far
abbrev pub whole : List ℕ → List ℕ → Within → Option ℕ → Option (List ℕ)
whole line s within before_null = option_map (λ t. line ++ t) (line_from s within before_null)

glued : (line add : List ℕ) (o : Option (List ℕ))
    → option_map (λ t. line ++ t) (option_map (λ l. add ++ l) o) ≡ option_map (λ t. (line ++ add) ++ t) o
glued line add None = refl
glued line add (Some t) = ap Some (sym (append_assoc line add t))

went : (line line' : List ℕ) (w : Within) (n : Option ℕ) (s : List ℕ) (o : Option (List ℕ × Within × Option ℕ))
    → line_onward line o ≡ Some (line', w, n)
    → option_map (λ t. line ++ t) (o >>= (λ a. option_map (λ l. a.0 ++ l) (line_from s a.1 a.2))) ≡ whole line' s w n
went line line' w n s None e = absurd (cc)
went line line' w n s (Some a) e =
    glued line a.0 (line_from s a.1 a.2)
    ∙ ap (λ (q : List ℕ × Within × Option ℕ). whole q.0 s q.1 q.2) (some_inj _ _ e)

stopped : (line s : List ℕ) (o : Option (List ℕ × Within × Option ℕ)) → line_onward line o ≡ None
    → (o >>= (λ a. option_map (λ l. a.0 ++ l) (line_from s a.1 a.2))) ≡ None
stopped line s None e = refl
stopped line s (Some a) e = absurd (cc)

pub next_byte : (b : ℕ) (s line line' : List ℕ) (w v : Within) (n m : Option ℕ)
    → line_onward line (step b w n) ≡ Some (line', v, m) → whole line (b ∷ s) w n ≡ whole line' s v m
next_byte b s line line' w v n m e = went line line' v m s (step b w n) e

pub no_next : (b : ℕ) (s line : List ℕ) (w : Within) (n : Option ℕ) → line_onward line (step b w n) ≡ None
    → whole line (b ∷ s) w n ≡ None
no_next b s line w n e = ap (λ o. option_map (λ t. line ++ t) o) (stopped line s (step b w n) e)
