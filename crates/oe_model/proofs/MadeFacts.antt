-- Each stored record is one that an accepted change makes.
use Rattle.std.proofs.Common.{ℕ, List, [], ◌∷◌, ◌++◌, sym, subst, inr}
use Rattle.oe_theory.specs.World.{World, set, tables}
use Rattle.oe_theory.specs.Undo.{Undo, Finds, GoesBack, open_records, commit_records, Keeps}
use Rattle.oe_theory.specs.Store.{all_below}
use Rattle.oe_theory.specs.Theorems.{IsReached}
use Rattle.oe_theory.proofs.StoreFacts.{below}
use Rattle.oe_theory.proofs.Theorems.{reached_sound}
use Rattle.oe_theory.proofs.InTurn.{each_goes_back}
use Rattle.oe_model.specs.Rows.{Rows}
use Rattle.oe_model.specs.Changes.{Record, IsRecord, put_back}
use Rattle.oe_rows.specs.declared.layouts.Layout.{Layout}
use Rattle.oe_model.specs.Meets.{Meets}
use Rattle.oe_model.specs.Headline.{EachRecord, Records_are_made}
use Rattle.oe_model.specs.System.{system, terminal_limit}
use Rattle.oe_model.proofs.RowFacts.{in_layout_made}
use Rattle.oe_model.proofs.ChangeFacts.{accepted_meets}
use Rattle.oe_model.proofs.SystemLaws.{laws}

front : (P : Record → Type 0) (xs ys : List Record) → EachRecord P (xs ++ ys) → EachRecord P xs
front P [] ys h = tt
front P (b ∷ xs) ys h = (h.0, front P xs ys h.1)

back : (P : Record → Type 0) (xs ys : List Record) → EachRecord P (xs ++ ys) → EachRecord P ys
back P [] ys h = h
back P (b ∷ xs) ys h = back P xs ys h.1

-- what finds its row was made by an accepted change
all_made : (l : Layout) (bs : List Record) (r : Rows) → GoesBack system l Meets bs r → EachRecord IsRecord bs
all_made l [] r h = tt
all_made l (b ∷ bs) r h = (one l h.1, all_made l bs (put_back b r) h.2)
  where
    one : (l : Layout) → Finds system l b r → IsRecord b
    one l f = subst IsRecord (sym f.is_of) (in_layout_made l f.change f.on f.accepted)

-- the terminals, this one first
all_from : (w : World system) (u : Undo system) → IsReached system w → Keeps system w u → (t : ℕ)
    → EachRecord IsRecord ((u.active t ++ open_records system (set t [] u.active) (all_below system terminal_limit))
    ++ commit_records system u.history)
all_from w u r k t =
    all_made w.layout _ (tables system w)
    (each_goes_back system laws Meets (record { between = λ f r g. g.meets; kept = accepted_meets }) w u
    (t ∷ all_below system terminal_limit) r k
    (λ v o e. inr (below system laws terminal_limit v ((reached_sound system laws w r).each v o e).terminal.1)))

pub records_are_made : Records_are_made
records_are_made w u r k = (
  λ t. front IsRecord (u.active t) _
      (front IsRecord (u.active t ++ open_records system (set t [] u.active) (all_below system terminal_limit)) _
      (all_from w u r k t)),
  back IsRecord (u.active 0 ++ open_records system (set 0 [] u.active) (all_below system terminal_limit)) _
      (all_from w u r k 0),
)
