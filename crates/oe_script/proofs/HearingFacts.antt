-- What a listener hears of a line.
use Rattle.std.proofs.Common.{◌≡◌, ℕ, ◌≤◌, ◌<◌, false, List, [], ◌∷◌, ◌++◌, length, None, Some}
use Rattle.std.proofs.Common.{sym, ap, ◌∙◌, subst, refl, inl, inr, arith}
use Rattle.std.specs.Prelude.{◌⊎◌}
use Rattle.oe_script.specs.declared.listeners.Place.{Place}
use Rattle.oe_script.specs.declared.listeners.Place.TheVariants as place
use Rattle.oe_filelines.specs.Lines.{Held}
use Rattle.oe_script.specs.Script.{State, LineAnswer, Holds}
use Rattle.oe_script.specs.Hearing.{Heard, HearsEach, HearsLine, IsBad, Takes, last_heard, place_of}

-- what is heard of a line, and by it the listener becomes another
abbrev pub IsHeard : {L : Type 0} → (L → Heard → L → Type 0) → State → ℕ → List ℕ → L → L → Type 0
IsHeard hears s n line l l' = (told : List Heard) × HearsLine s n line told × HearsEach hears l told l'

module _ {L : Type 0} (hears : L → Heard → L → Type 0) where
  pub each_append : (l : L) (a : List Heard) (m : L) (b : List Heard) (n : L) → HearsEach hears l a m
      → HearsEach hears m b n → HearsEach hears l (a ++ b) n
  each_append l [] m b n p q = subst (λ z. HearsEach hears z b n) p q
  each_append l (x ∷ xs) m b n p q = (p.0, p.1, each_append p.0 xs m b n p.2 q)

  pub heard_bad : (s : State) (n : ℕ) (line : List ℕ) (l l' : L) (p : Place) → length line ≤ 1_024
      → Takes false s line → p ≡ place_of s → hears l (record { number = n; line = line; place = p }) l'
      → IsHeard hears s n line l l'
  heard_bad s n line l l' p short bad e h = (
    record { number = n; line = line; place = place_of s } ∷ [],
    inr (inl (bad, short, refl)),
    (l', subst (λ z. hears l (record { number = n; line = line; place = z }) l') e h, refl),
  )

  pub heard_long : (s : State) (n : ℕ) (line : List ℕ) (held : Held) (l l' : L) → held ≡ None
      → Holds held line → hears l (record { number = n; line = []; place = place.Long }) l'
      → IsHeard hears s n line l l'
  heard_long s n line None l l' e long h =
      (record { number = n; line = []; place = place.Long } ∷ [], inr (inr (long, refl)), (l', h, refl))
  heard_long s n line (Some bytes) l l' e long h = let no : ⊥ = cc in absurd no

  pub heard_last : (n : ℕ) (line : List ℕ) (held : Held) (l l' : L) → (held ≡ Some [] → ⊥) → Holds held line
      → hears l (record { number = n; line = []; place = place.Unended }) l'
      → HearsEach hears l (last_heard n line) l'
  heard_last n [] None l l' begun holds h = absurd (omega (arith, holds))
  heard_last n [] (Some bytes) l l' begun holds h = absurd (begun (ap Some holds.0))
  heard_last n (b ∷ bs) held l l' begun holds h = (l', h, refl)

  pub heard_none : (n : ℕ) (line : List ℕ) (held : Held) (l : L) → held ≡ Some [] → Holds held line
      → HearsEach hears l (last_heard n line) l
  heard_none n line held l none holds =
      subst (λ z. HearsEach hears l (last_heard n z) l) (subst (λ x. Holds x line) none holds).0 refl

-- a line that is no command leaves the state
pub same_state : (s : State) (n : ℕ) (line text : List ℕ) (s' : State) → LineAnswer s n line text s'
    → Takes false s line → s' ≡ s
same_state s n line text s' (inl (c, asks, a)) bad = absurd (bad c asks)
same_state s n line text s' (inr (none, e, same)) bad = same

pub is_bad : (s : State) (line : List ℕ) → length line ≤ 1_024 → Takes false s line → IsBad (place_of s) line
is_bad None line short bad = (short, bad)
is_bad (Some w) line short bad = (short, λ c asks. bad c (asks w))

pub is_bad_at : (p : Place) (s s' : State) (line : List ℕ) → p ≡ place_of s' → s' ≡ s → length line ≤ 1_024
    → Takes false s line → IsBad p line
is_bad_at p s s' line e same short bad =
    subst (λ z. IsBad z line) (sym (e ∙ ap place_of same)) (is_bad s line short bad)
