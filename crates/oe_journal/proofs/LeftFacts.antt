-- Where a log has no record of a key, no open transaction and no commit has one.
use Rattle.std.proofs.Common.{◌≡◌, ℕ, ◌-◌, ◌<◌, Bool, true, false, cond, sym, ap, ◌∙◌, subst, inl, inr, List, [], ◌∷◌}
use Rattle.std.proofs.Common.{◌++◌, length, map}
use Rattle.std.proofs.lemmas.Bool.{cases_lt, cond-true}
use Rattle.std.proofs.lemmas.List.{get_or_past}
use Rattle.oe_rows.specs.declared.keys.Key.{Key}
use Rattle.oe_theory.specs.Undo.{HasRecord, HasRecordIn}
use Rattle.oe_theory.specs.Store.{all_below}
use Rattle.oe_model.specs.Rows.{is_key}
use Rattle.oe_model.specs.Changes.{record_key}
use Rattle.oe_model.specs.System.{system, terminal_limit}
use Rattle.oe_model.proofs.RowFacts.{key_refl}
use Rattle.oe_log.specs.Records.{Logged}
use Rattle.oe_log.specs.Log.{SegmentLog, Committed, idle, records_in, records_at, total_count}
use Rattle.oe_log.specs.Stands.{model_records, undo_of}
use Rattle.oe_undo.specs.declared.holders.Holder.{Holder}
use Rattle.oe_undo.specs.declared.holders.Holder.TheVariants.{Open, At}
use Rattle.oe_undo.specs.Held.{Held, held_by, held_open, held_commits, of_key}
use Rattle.oe_undo.proofs.ChainWalkFacts.{of_key-append}
use Rattle.oe_journal.specs.GivesUp.{HasNoRecord}
use Rattle.oe_journal.proofs.ChainedFacts.{none_first, none_after, none_open}

module _ (k : Key) where
  fewer : (b : Bool) (x : Held) (xs : List Held) → cond b (x ∷ xs) xs ≡ [] → xs ≡ []
  fewer true x xs e = cc
  fewer false x xs e = e

  -- in one segment
  none_among : (h : Holder) (rs : List Logged) → of_key k (held_by h rs) ≡ [] → HasRecord system k (model_records rs)
      → ⊥
  none_among h [] none has = has
  none_among h (r ∷ rs) none (inl same) =
      let own : is_key k (record_key r.before) ≡ true = ap (is_key k) same ∙ key_refl k in
      let no : ◌≡◌ {A = List Held} [] (record { logged = r; holder = h } ∷ of_key k (held_by h rs)) =
      sym none ∙ cond-true (is_key k (record_key r.before)) _ _ own in cc
  none_among h (r ∷ rs) none (inr has) =
      none_among h rs (fewer (is_key k (record_key r.before)) (record { logged = r; holder = h })
      (of_key k (held_by h rs)) none) has

  none_committed : (n : ℕ) (cs : List Committed) → of_key k (held_commits n cs) ≡ []
      → HasRecordIn system k (map (λ c. model_records c.records) cs) → ⊥
  none_committed n [] none has = has
  none_committed n (c ∷ cs) none (inl has) =
      none_among (At n) c.records
      (none_first _ _ (sym (of_key-append k (held_by (At n) c.records) (held_commits (n - 1) cs)) ∙ none)) has
  none_committed n (c ∷ cs) none (inr has) =
      none_committed (n - 1) cs
      (none_after _ _ (sym (of_key-append k (held_by (At n) c.records) (held_commits (n - 1) cs)) ∙ none)) has

  parts : (u : SegmentLog) → HasNoRecord u k
      → of_key k (held_open (records_at u) (all_below system terminal_limit))
      ++ of_key k (held_commits (total_count u) u.committed) ≡ []
  parts u none = sym (of_key-append k (held_open (records_at u) (all_below system terminal_limit))
      (held_commits (total_count u) u.committed)) ∙ none

  pub none_in_open : (u : SegmentLog) → length u.terminals ≡ terminal_limit → HasNoRecord u k → (t : ℕ)
      → HasRecord system k ((undo_of u).active t) → ⊥
  none_in_open u size none t has =
      elim (cases_lt t (length u.terminals)) [
        | inl within ↦
            none_among (Open t) (records_at u t)
            (none_open k (records_at u) t terminal_limit (subst (λ n. t < n) size within)
            (none_first _ _ (parts u none))) has
        | inr past ↦ subst (λ z. HasRecord system k (model_records (records_in z.active)))
            (get_or_past u.terminals t idle past) has
      ]

  pub none_in_commits : (u : SegmentLog) → HasNoRecord u k → HasRecordIn system k (undo_of u).history → ⊥
  none_in_commits u none has = none_committed (total_count u) u.committed (none_after _ _ (parts u none)) has
