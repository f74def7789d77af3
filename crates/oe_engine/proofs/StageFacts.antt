-- A stage that was done, or refused, by the engine is one of its program, whichever program that is.
use Rattle.std.proofs.Common.{◌≡◌, Option, None, Some, refl, sym, ap, ◌∙◌, subst, inl}
use Rattle.std.proofs.Common.{inr, ◌⊎◌}
use Rattle.std.specs.Prelude.{Result, Ok, Err}
use Rattle.oe_theory.specs.Machine.{Ask, Stop, Plain, Take, Go}
use Rattle.oe_theory.specs.Machine as theory
use Rattle.oe_theory.specs.Next.{IsNew, GivesWay}
use Rattle.oe_rows.specs.declared.locks.Name.{Name}
use Rattle.oe_requests.specs.declared.requests.Request.{Request}
use Rattle.oe_requests.specs.declared.refusals.Refusal.{Refusal}
use Rattle.oe_requests.specs.declared.refusals.Refusal.TheVariants.{NoSuchRow, RowExists, Overflow, Reference}
use Rattle.oe_requests.specs.declared.refusals.Refusal.TheVariants.{KeyColumn, Busy, UndoFull, NoMemory, NotOpen}
use Rattle.oe_requests.specs.declared.refusals.Refusal.TheVariants.{AlreadyOpen, InvalidItem, NoCustomer, TooOld}
use Rattle.oe_requests.specs.declared.refusals.Refusal.TheVariants.{Future, NotQuiet, NotPinned}
use Rattle.oe_model.specs.Changes.{Change}
use Rattle.oe_model.specs.Positions.{Position}
use Rattle.oe_model.specs.System.{system, yields}
use Rattle.oe_engine.specs.View.{EngineState, view_of, Handle, IsOpen}
use Rattle.oe_engine.specs.Calls.{IsFree, IsFullFor, IsFullForAny, after_stage, AcceptsAll}
use Rattle.oe_engine.specs.Calls.{StageRefused, WantsPlace}
use Rattle.oe_engine.specs.Programs.{ask_here, act_here, GoesOn, WantsMemory, IsStageRefusal}
use Rattle.oe_change.specs.declared.writes.Write.{Write}
use Rattle.oe_engine.specs.Writes.{change_written, WantsRow, IsMade, Writes}
use Rattle.oe_engine.specs.Stages.{Does}
use Rattle.oe_engine.proofs.WriteFacts.{of_change}

-- done
pub goes_on : (s s' : EngineState) (x : Handle) (a : Ask Name Refusal) (c : Option Change) → IsOpen s x
    → IsFree (view_of s) x.terminal a
    → AcceptsAll c (view_of s).rows → (IsFullForAny (view_of s) x.terminal c → ⊥)
    → view_of s' ≡ after_stage x.terminal a c (view_of s) → s'.name ≡ s.name
    → (q : Request) (p p' : Position) → ask_here s x q p ≡ a → act_here s x q p ≡ Go c p' → GoesOn s x q p s' p'
goes_on s s' x a c o free accepted room done same q p p' asks does =
    record {
      is_open = o;
      free = subst (IsFree (view_of s) x.terminal) (sym asks) free;
      change = c;
      does = does;
      accepted = accepted;
      room = room;
      done = done ∙ ap (λ b. after_stage x.terminal b c (view_of s)) (sym asks);
      name = same;
    }

-- where a stage with a change is told that memory is wanted or that its record has no room, it is so
module _ (s : EngineState) (x : Handle) (c : Change) where
  abbrev pub IsRoom : Ask Name Refusal → Refusal → Type 0
  IsRoom a e = ((IsNew system ((view_of s).held x.terminal) a → ⊥) → e ≡ NoMemory → WantsPlace (Some c) s.tables)
      × (e ≡ UndoFull → IsFullFor (view_of s) x.terminal c)

  wants : (a : Ask Name Refusal) → IsRoom a NoMemory → IsNew system ((view_of s).held x.terminal) a
      ⊎ WantsPlace (Some c) s.tables
  wants (Stop e) room = inr (room.0 (λ k. k) refl)
  wants Plain room = inr (room.0 (λ k. k) refl)
  wants (Take n m) room = by_mode ((view_of s).held x.terminal n) refl
    where
      by_mode : (o : Option theory.Mode) → (view_of s).held x.terminal n ≡ o
          → IsNew system ((view_of s).held x.terminal) (Take n m) ⊎ WantsPlace (Some c) s.tables
      by_mode None e = inl e
      by_mode (Some k) e = inr (room.0 (λ none. let no : ⊥ = let both : None ≡ Some k = sym none ∙ e in cc in no) refl)

-- refused, where it makes a change
with_change : (s : EngineState) (x : Handle) (q : Request) (p p' : Position) (c : Change)
    → act_here s x q p ≡ Go (Some c) p'
    → (e : Refusal) → IsRoom s x c (ask_here s x q p) e → StageRefused s x (ask_here s x q p) (Some c) e
    → IsStageRefusal s x q p e
with_change s x q p p' c does NotOpen room h = h
with_change s x q p p' c does (Busy n u) room h = h
with_change s x q p p' c does UndoFull room (o, f, some) = (o, f, (c, p', does, room.1 refl))
with_change s x q p p' c does NoMemory room (o, f, n) =
    (o, f, by (wants s x c (ask_here s x q p) room), subst (λ d. GivesWay system (yields p) d) (sym does) tt)
  where
    by : IsNew system ((view_of s).held x.terminal) (ask_here s x q p) ⊎ WantsPlace (Some c) s.tables
        → IsNew system ((view_of s).held x.terminal) (ask_here s x q p) ⊎ WantsMemory s x q p
    by (inl h) = inl h
    by (inr h) = inr (c, p', does, h)
with_change s x q p p' c does (NoSuchRow k) room (o, f, why) = (o, inr (inr (f, c, p', does, why)))
with_change s x q p p' c does (RowExists k) room (o, f, why) = (o, inr (inr (f, c, p', does, why)))
with_change s x q p p' c does (Overflow k) room (o, f, why) = (o, inr (inr (f, c, p', does, why)))
with_change s x q p p' c does (Reference k) room (o, f, why) = (o, inr (inr (f, c, p', does, why)))
with_change s x q p p' c does KeyColumn room (o, f, why) = (o, inr (inr (f, c, p', does, why)))
with_change s x q p p' c does AlreadyOpen room (o, f, why) = (o, inr (inr (f, c, p', does, why)))
with_change s x q p p' c does InvalidItem room (o, f, why) = (o, inr (inr (f, c, p', does, why)))
with_change s x q p p' c does NoCustomer room (o, f, why) = (o, inr (inr (f, c, p', does, why)))
with_change s x q p p' c does (TooOld m) room (o, f, why) = (o, inr (inr (f, c, p', does, why)))
with_change s x q p p' c does (Future m) room (o, f, why) = (o, inr (inr (f, c, p', does, why)))
with_change s x q p p' c does (NotQuiet n) room (o, f, why) = (o, inr (inr (f, c, p', does, why)))
with_change s x q p p' c does (NotPinned n) room (o, f, why) = (o, inr (inr (f, c, p', does, why)))

pub refused_change : (s : EngineState) (x : Handle) (a : Ask Name Refusal) (c : Change) (e : Refusal) → IsRoom s x c a e
    → StageRefused s x a (Some c) e
    → (q : Request) (p p' : Position) → ask_here s x q p ≡ a → act_here s x q p ≡ Go (Some c) p'
    → IsStageRefusal s x q p e
refused_change s x a c e room h q p p' asks does =
    with_change s x q p p' c does e (subst (λ b. IsRoom s x c b e) (sym asks) room)
    (subst (λ b. StageRefused s x b (Some c) e) (sym asks) h)

-- the answer of a stage that writes a row
pub does_write : (s s' : EngineState) (x : Handle) (a : Ask Name Refusal) (w : Write) (r : Result (Unit {0}) Refusal)
    → Writes s x a w r s' → s'.name ≡ s.name
    → (c : Change) → change_written w (view_of s) ≡ Some c → Does s x a (Some c) r s'
does_write s s' x a w (Ok u) h same c found =
    let is : IsMade s x a c s' = of_change (λ d. IsMade s x a d s') _ c found h.made in
    goes_on s s' x a (Some c) is.is_open is.free is.accepted is.room is.done same
does_write s s' x a w (Err e) h same c found =
    refused_change s x a c e (
      λ held told. subst (λ o. WantsRow o s.tables) found (h.wants held told),
      h.full c found,
    ) (h.cause c found)
