-- What a change leaves, with its record.
use Rattle.std.proofs.Common.{◌≡◌, ◌<◌, ℕ, sym, ap, ◌∙◌, subst, inl, inr, ◌∷◌}
use Rattle.std.specs.Prelude.{is_some}
use mathlib.Core.Path.{fun_ext}
use Rattle.oe_rows.specs.declared.keys.Key.{Key}
use Rattle.oe_theory.specs.Next.{record_on}
use Rattle.oe_model.specs.Rows.{row_at}
use Rattle.oe_model.specs.Changes.{Change, key_of, record_key}
use Rattle.oe_model.specs.System.{system}
use Rattle.oe_model.proofs.RowFacts.{in_layout_key}
use Rattle.oe_store.specs.Places.{HasPlace, rows}
use Rattle.oe_store.specs.Places as tables
use Rattle.oe_log.specs.Log.{active_at}
use Rattle.oe_log.specs.Stands.{undo_of}
use Rattle.oe_undo.specs.Undo.{UndoState}
use Rattle.oe_journal.specs.Recorded.{IsRecorded}
use Rattle.oe_journal.specs.GoesBack.{HavePlaces, AllHavePlaces}
use Rattle.oe_journal.proofs.BackFacts.{more_places}
use Rattle.oe_journal.proofs.ExactFacts.{made_needed}
use Rattle.oe_journal.proofs.PurgeFacts.{all_more_places}
use Rattle.oe_locks.specs.Held.{Holdings}
use Rattle.oe_engine.specs.View.{view_from}
use Rattle.oe_engine.specs.Kept.{IsKept}
use Rattle.oe_engine.specs.Calls.{after_change}
use Rattle.oe_engine.proofs.LockFacts.{held_of}
use Rattle.oe_engine.proofs.KeptFacts.{places_set}

module _ (ts ts' : tables.Places) (u x : UndoState) (ls : Holdings) (t : ℕ) (c : Change)
    (h : IsRecorded c ts ts' u x t) where
  pub change_view : view_from ts' x.log ls ≡ after_change t c (view_from ts u.log ls)
  unfolding view_from
  change_view =
      let opens : (λ (y : ℕ). is_some (active_at x.log y)) ≡ (λ (y : ℕ). is_some (active_at u.log y)) =
      fun_ext h.is_open in
      λ i. record {
        rows = h.applies.changes i;
        undo = h.stands.undo i;
        seals = h.stands.seals i;
        counts = h.stands.counts i;
        held = held_of ls;
        is_open = opens i;
        extents = h.extents i;
        layout = h.layout i;
      }

  pub change_kept : IsKept ts u.log ls → IsKept ts' x.log ls
  change_kept k =
      let more : (j : Key) → HasPlace ts j → HasPlace ts' j = λ j p. (h.applies.places j).1 (inl p) in
      let b = record_on system u.log.layout c (rows ts) in
      let own : HavePlaces ts' (b ∷ (undo_of u.log).active t) = (
        (h.applies.places (record_key b)).1 (inr (in_layout_key u.log.layout c (row_at (rows ts) (key_of c)))),
        more_places ts ts'
            more _ (k.active t),
      ) in
      record {
        size = h.size ∙ k.size;
        active = λ y. subst (λ z. HavePlaces ts' (z.active y)) (sym h.stands.undo)
            (places_set ts' t _ (undo_of u.log).active own (λ z. more_places ts ts' more _ (k.active z)) y);
        history = subst (λ z. AllHavePlaces ts' z.history) (sym h.stands.undo)
            (all_more_places ts ts' more _ k.history);
        needed = made_needed u.log.layout ts ts' (undo_of u.log) (undo_of x.log) t c h.applies.places h.applies.changes
            h.stands.undo k.needed;
        idle = λ y e. k.idle y (sym (h.is_open y) ∙ e);
        counted = λ y e. subst (λ n. n < 4_294_967_295) (sym (ap (λ f. f y) h.stands.counts))
            (k.counted y (sym (h.is_open y) ∙ e));
      }
