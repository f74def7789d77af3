-- A HISTORY line spells what is read of it.
use Rattle.std.proofs.Common.{◌≡◌, ℕ, ◌≤◌, List, Result, Ok, Err}
use Rattle.std.proofs.Common.{sym, ap, ◌∙◌}
use Rattle.std.proofs.lemmas.Bool.{cases_lt}
use Rattle.std.proofs.Common.{⊎_elim}
use Rattle.oe_rows.specs.declared.histories.History.{History}
use Rattle.oe_rows.specs.declared.keys.HistoryKey.{HistoryKey}
use Rattle.oe_file_rows.specs.declared.forms.LineFault.{LineFault}
use Rattle.oe_file_rows.specs.Rows.{key_of_line, with_key, ReadsHistory}
use Rattle.oe_file_tables.specs.Rows.{SpellsHistory}

with_found : (k : HistoryKey) (row : Result History LineFault) (r : HistoryKey × History) → with_key k row ≡ Ok r
    → (r.0 ≡ k) × (row ≡ Ok r.1)
with_found k (Ok h) r e =
    let same : ◌≡◌ {A = HistoryKey × History} (k, h) r = cc in
    (sym (ap (λ (p : HistoryKey × History). p.0) same), ap (λ (p : HistoryKey × History). Ok p.1) same)
with_found k (Err e) r h = absurd (cc)

module _ (n : ℕ) (line : List ℕ) (result : Result (HistoryKey × History) LineFault) where
  pub history_found : ReadsHistory n line result → (r : HistoryKey × History) → result ≡ Ok r → SpellsHistory n line r
  history_found read r e =
      ⊎_elim (λ large. absurd (let none = read.no_key large in cc))
      (λ small.
      let rows = read.read small in
      let f = with_found (key_of_line n) rows.0 r (sym rows.2 ∙ e) in
      (small, f.0, rows.1.found r.1 f.1))
      (cases_lt 4_294_967_295 n)

  pub history_finds : ReadsHistory n line result → (r : HistoryKey × History) → SpellsHistory n line r → result ≡ Ok r
  history_finds read r h =
      let rows = read.read h.0 in
      let found : rows.0 ≡ Ok r.1 = rows.1.finds r.1 h.2 in
      rows.2 ∙ ap (with_key (key_of_line n)) found ∙ ap (λ (k : HistoryKey). Ok (k, r.1)) (sym h.1)
