-- How a program's stage ends, where it needs a value, a row within its ranges, or a lock.
use Rattle.std.proofs.Common.{◌≡◌, refl, sym, ◌∙◌, ap, subst, Option, Some, None}
use Rattle.std.specs.Prelude.{option_map}
use Rattle.oe_theory.specs.Machine.{Mode, Ask, Stop, Take, Tx}
use Rattle.oe_theory.specs.Laws.{IsAsked, all_held, Ends, stops_here, fails_here}
use Rattle.oe_rows.specs.declared.locks.Name.{Name}
use Rattle.oe_requests.specs.declared.requests.Request.{Request}
use Rattle.oe_requests.specs.declared.replies.Reply.{Reply}
use Rattle.oe_requests.specs.declared.refusals.Column.{Column}
use Rattle.oe_requests.specs.declared.refusals.Refusal.{Refusal}
use Rattle.oe_requests.specs.declared.refusals.Refusal.TheVariants.{Overflow}
use Rattle.oe_model.specs.Rows.{Rows}
use Rattle.oe_model.specs.Meets.{Accepts}
use Rattle.oe_model.specs.Positions.{Position}
use Rattle.oe_model.specs.Effects.{◌>>=◌, in_range, Doing, with_value, within}
use Rattle.oe_model.specs.System.{system, ask, act}

-- the program alone ends so, with these refusals, and each of its changes is accepted
abbrev pub EndsSo : (Refusal → Type 0) → Tx Request → Position → Rows → Option (Rows × Reply) → Type 0
EndsSo Only x p r end = Ends system x Only Accepts p r end

module _ (Only : Refusal → Type 0) (x : Tx Request) (p : Position) (r : Rows)
    (asked : IsAsked system (all_held system) (ask x p r)) where
  -- a row that needs a value
  pub ends_given : {A : Type 0} (e : Refusal) (o : Option A) (f : A → Doing) (g : A → Option (Rows × Reply))
      → (o ≡ None → Only e) → act x p r ≡ with_value e o f
      → ((a : A) → o ≡ Some a → act x p r ≡ f a → EndsSo Only x p r (g a)) → EndsSo Only x p r (o >>= g)
  ends_given e None f g why is h = fails_here p r e (why refl) asked is
  ends_given e (Some a) f g why is h = h a refl is

  -- the same, where the value was changed since
  pub ends_mapped : {A : Type 0} (e : Refusal) (t : A → A) (o now : Option A) (f : A → Doing)
      (g : A → Option (Rows × Reply)) → (o ≡ None → Only e) → act x p r ≡ with_value e now f → now ≡ option_map t o
      → ((a : A) → o ≡ Some a → act x p r ≡ f (t a) → EndsSo Only x p r (g a)) → EndsSo Only x p r (o >>= g)
  ends_mapped e t None now f g why is to h = fails_here p r e (why refl) asked (is ∙ ap (λ v. with_value e v f) to)
  ends_mapped e t (Some a) now f g why is to h = h a refl (is ∙ ap (λ v. with_value e v f) to)

  -- a row that needs a row within its ranges
  pub ends_within : {A : Type 0} (out : A → Option Column) (y : A) (d : Doing) (g : A → Option (Rows × Reply))
      → ((c : Column) → out y ≡ Some c → Only (Overflow c)) → act x p r ≡ within (out y) d
      → (out y ≡ None → act x p r ≡ d → EndsSo Only x p r (g y)) → EndsSo Only x p r (in_range out y >>= g)
  ends_within out y d g over is h =
      elim (out y) as (λ o. out y ≡ o → act x p r ≡ within o d
      → EndsSo Only x p r ((elim o [ None ↦ Some y | Some c ↦ None ]) >>= g)) [
        | None ↦ λ ok e. h ok e
        | Some c ↦ λ t e. fails_here p r (Overflow c) (over c t) asked e
      ] refl is

-- a row that stops where a value is not there, and otherwise takes a lock
pub ends_found : (Only : Refusal → Type 0) (x : Tx Request) (p : Position) (r : Rows) {A : Type 0} (e d : Refusal)
    (o : Option A) (n : A → Name) (m : Mode) (f : A → Doing) (g : A → Option (Rows × Reply))
    → Only e → ask x p r ≡ elim o [ None ↦ Stop e | Some a ↦ Take (n a) m ] → act x p r ≡ with_value d o f
    → ((a : A) → o ≡ Some a → IsAsked system (all_held system) (ask x p r) → act x p r ≡ f a → EndsSo Only x p r (g a))
    → EndsSo Only x p r (o >>= g)
ends_found Only x p r e d None n m f g why s is h = stops_here p r e why s
ends_found Only x p r e d (Some a) n m f g why s is h =
    h a refl (subst (λ (b : Ask Name Refusal). IsAsked system (all_held system) b) (sym s) tt) is
