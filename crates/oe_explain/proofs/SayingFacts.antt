-- What is said of each line in turn.
use Rattle.std.specs.Prelude.{◌↔◌, is_err}
use Rattle.std.proofs.Common.{◌≡◌, ℕ, ◌≤◌, Bool, true, false, List, [], ◌∷◌, ◌++◌, Option, None, Some, sym, ap, ◌∙◌}
use Rattle.std.proofs.Common.{subst, refl, length, Result, Ok, Err}
use Rattle.std.proofs.lemmas.List.{append-nil}
use Rattle.oe_lines.specs.declared.commands.Command.{Command}
use Rattle.oe_lines.specs.declared.commands.Command.TheVariants as command
use Rattle.oe_model.specs.System.{system}
use Rattle.oe_theory.specs.World.{World}
use Rattle.oe_io.specs.Ports.{Sink, Sent, Cut, Streams}
use Rattle.oe_io.proofs.Streaming.{sent_none, sent_then, sent_cut, cut_more}
use Rattle.oe_reasons.specs.Reasons.{is_opening}
use Rattle.oe_script.specs.Script.{Asks, IsAllowed}
use Rattle.oe_script.specs.Hearing.{Heard, HearsEach}
use Rattle.oe_explain.specs.Explaining.{Explains, IsUntaken, Said, SaysOne}

-- `open` is asked for while nothing is open
opens : (c : Command) → is_opening c ≡ true → IsAllowed None c
opens (command.Open s e) h = tt
opens (command.Begin t q) h = let no : ⊥ = cc in absurd no
opens (command.Next t) h = let no : ⊥ = cc in absurd no
opens (command.Run t) h = let no : ⊥ = cc in absurd no
opens (command.Save t) h = let no : ⊥ = cc in absurd no
opens (command.Back t) h = let no : ⊥ = cc in absurd no
opens (command.Rollback t) h = let no : ⊥ = cc in absurd no
opens (command.Show t) h = let no : ⊥ = cc in absurd no
opens (command.Audit c m) h = let no : ⊥ = cc in absurd no
opens (command.Read m q) h = let no : ⊥ = cc in absurd no
opens (command.Purge m) h = let no : ⊥ = cc in absurd no
opens (command.Rewind m) h = let no : ⊥ = cc in absurd no

-- and every other command once something is
goes_on : (w : World system) (c : Command) → is_opening c ≡ false → IsAllowed (Some w) c
goes_on w (command.Open s e) h = let no : ⊥ = cc in absurd no
goes_on w (command.Begin t q) h = tt
goes_on w (command.Next t) h = tt
goes_on w (command.Run t) h = tt
goes_on w (command.Save t) h = tt
goes_on w (command.Back t) h = tt
goes_on w (command.Rollback t) h = tt
goes_on w (command.Show t) h = tt
goes_on w (command.Audit c m) h = tt
goes_on w (command.Read m q) h = tt
goes_on w (command.Purge m) h = tt
goes_on w (command.Rewind m) h = tt

pub untaken_open : (line : List ℕ)
    → (length line ≤ 1_024) × ((c : Command) → ((w : World system) → Asks (Some w) line c) → ⊥)
    → IsUntaken true line
untaken_open line h =
    (h.0, λ c t. h.1 c (λ w. record { short = t.short; says = t.says; allowed = goes_on w c t.placed }))

moved : (c waits said : List ℕ) → waits ≡ said → (c ++ waits) ++ [] ≡ (c ++ []) ++ said
moved c waits said e = append-nil (c ++ waits) ∙ ap (λ z. c ++ z) e ∙ ap (λ z. z ++ said) (sym (append-nil c))

-- what waited is what is said
pub flushed : {T E : Type 0} (a b : Option Sink) (waits waited said : List ℕ) (r : Result T E) → waited ≡ []
    → waits ≡ said → Streams a waits b waited [] r → Streams a [] b [] said r
flushed None b waits waited said (Ok x) n e h = tt
flushed None b waits waited said (Err x) n e h = tt
flushed (Some a) None waits waited said (Ok x) n e h = absurd h
flushed (Some a) None waits waited said (Err x) n e h = absurd h
flushed (Some a) (Some b) waits waited said (Ok x) n e h =
    (ap (λ z. b.contents ++ z) (sym n) ∙ h.0 ∙ moved a.contents waits said e, h.1)
flushed (Some a) (Some b) waits waited said (Err x) n e h =
    ((h.0.0, h.0.1 ∙ moved a.contents waits said e), h.1)

-- one line, as it was written
pub says_one : {T E : Type 0} (f : Bool) (a b : Option Sink) (x : Heard) (r : Result T E) → f ≡ false
    → ((said : List ℕ) × Explains x said × Streams a [] b [] said r) → SaysOne f (is_err r) a b x
says_one true a b x r e h = let no : ⊥ = cc in absurd no
says_one false a b x (Ok v) e h = h
says_one false a b x (Err v) e h = h

-- an output that failed says nothing more
stays : (f g : Bool) (a b : Option Sink) (x : Heard) → f ≡ true → SaysOne f g a b x → (g ≡ true) × (b ≡ a)
stays true g a b x e h = h
stays false g a b x e h = let no : ⊥ = cc in absurd no

-- one line, and those behind it
step : (f g k : Bool) (a b c : Option Sink) (x : Heard) (xs : List Heard) → f ≡ false → SaysOne f g a b x
    → (g ≡ false → Said k b c xs) → (g ≡ true → (k ≡ true) × (c ≡ b)) → Said k a c (x ∷ xs)
step true g k a b c x xs e one goes ends = let no : ⊥ = cc in absurd no
step false false false a b c x xs e one goes ends = let r = goes refl in (
  one.0 ++ r.0,
  (one.0, r.0, one.1, r.1, refl),
  sent_then a b c [] [] [] one.0 r.0 one.2 r.2,
)
step false false true a b c x xs e one goes ends = let r = goes refl in (
  x ∷ r.0,
  r.1,
  one.0 ++ r.2,
  ap (λ z. x ∷ z) r.3,
  (one.0, r.2, one.1, r.4, refl),
  sent_cut a b c [] [] one.0 r.2 one.2 r.5,
)
step false true k a b c x xs e one goes ends = let s = ends refl in
    subst (λ z. Said z a c (x ∷ xs)) (sym s.0) (
      x ∷ [],
      xs,
      one.0 ++ [],
      refl,
      (one.0, [], one.1, refl, refl),
      subst (λ z. Cut a [] z (one.0 ++ [])) (sym s.1) (cut_more a b [] one.0 [] one.2),
    )

module _ {L : Type 0} (failed : L → Bool) (sink : L → Option Sink) where
  says_nothing : (l : L) (told : List Heard) (l' : L) → failed l ≡ true
      → HearsEach (λ a x b. SaysOne (failed a) (failed b) (sink a) (sink b) x) l told l'
      → (failed l' ≡ true) × (sink l' ≡ sink l)
  says_nothing l [] l' e h = (ap failed h ∙ e, ap sink h)
  says_nothing l (x ∷ xs) l' e h =
      let first = stays (failed l) (failed h.0) (sink l) (sink h.0) x e h.1 in
      let rest = says_nothing h.0 xs l' first.0 h.2 in
      (rest.0, rest.1 ∙ first.1)

  pub said : (l : L) (told : List Heard) (l' : L) → failed l ≡ false
      → HearsEach (λ a x b. SaysOne (failed a) (failed b) (sink a) (sink b) x) l told l'
      → Said (failed l') (sink l) (sink l') told
  said l [] l' e h =
      subst (λ z. Said z (sink l) (sink l') []) (sym (ap failed h ∙ e))
      ([], refl, subst (λ z. Sent (sink l) [] z [] []) (sym (ap sink h)) (sent_none (sink l) []))
  said l (x ∷ xs) l' e h =
      step (failed l) (failed h.0) (failed l') (sink l) (sink h.0) (sink l') x xs e h.1
      (λ good. said h.0 xs l' good h.2) (λ bad. says_nothing h.0 xs l' bad h.2)
