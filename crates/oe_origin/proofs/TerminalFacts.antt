-- HISTORY rows that are read from a file are of terminal 0.
use Rattle.std.proofs.Common.{◌≡◌, ℕ, Bool, false, inl, inr, List, [], ◌∷◌, ◌++◌, Option, ap, ◌∙◌, sym}
use Rattle.std.specs.List.{All}
use Rattle.std.proofs.lemmas.List.Elements.{All-nil, All-head, All-tail, All-push}
use Rattle.std.proofs.lemmas.List.Sorted.{All-permutation}
use Rattle.oe_rows.specs.Key.{history_cmp}
use Rattle.oe_io.specs.Ports.{Source}
use Rattle.oe_rows.specs.declared.histories.History.{History}
use Rattle.oe_rows.specs.declared.keys.HistoryKey.{HistoryKey}
use Rattle.oe_rows.specs.declared.keys.Table.TheVariants as table
use Rattle.oe_model.specs.Rows.{Rows}
use Rattle.oe_file_tables.specs.declared.faults.TableFault.{TableFault}
use Rattle.oe_file_tables.specs.declared.formats.Format.{Format}
use Rattle.oe_file_tables.specs.declared.formats.Format.TheVariants as written
use Rattle.oe_file_tables.specs.declared.lines.Numbered.{Numbered}
use Rattle.oe_file_tables.specs.Lines.{Spelled, Taken, Begins, TakesHeading, TakesRow, TakesCount, TakesFault}
use Rattle.oe_file_tables.specs.Rows.{SpellsHistory}
use Rattle.oe_file_tables.specs.Tables.{AreRowsOf, ReadWellAs}
use Rattle.oe_file_loading.specs.Loading.{Nine}
use Rattle.oe_file_loading.specs.Placing.{IsRowOf}
use Rattle.oe_file_loading.specs.Whole.{AreWhole}
use Rattle.oe_origin.specs.Lacks.{AreOfPopulation}

abbrev IsZero : Numbered HistoryKey History → Type 0
IsZero n = n.key.terminal ≡ 0

spelled_zero : (format : Format) (n : ℕ) (line : List ℕ) (r : HistoryKey × History)
    → Spelled format SpellsHistory table.History n line r → r.0.terminal ≡ 0
spelled_zero written.Dump n line r h = ap (λ (k : HistoryKey). k.terminal) h.1
spelled_zero written.Csv n line r h = ap (λ (k : HistoryKey). k.terminal) h.2.1

module _ (format : Format) where
  taken_zero : (ls : List (List ℕ)) (counted headed : Bool) (rs : List (Numbered HistoryKey History))
      (fs : List TableFault) → Taken format SpellsHistory table.History ls counted headed rs fs → All IsZero rs
  taken_zero _ _ _ _ _ Begins = All-nil IsZero
  taken_zero _ _ _ _ _ (TakesHeading {ls = ls} {headed = headed} {rs = rs} {fs = fs} line h e) =
      taken_zero ls false headed rs fs h
  taken_zero _ _ _ _ _ (TakesRow {ls = ls} {headed = headed} {rs = rs} {fs = fs} line r h spells) =
      All-push IsZero rs _ (taken_zero ls false headed rs fs h) (spelled_zero format _ line r spells)
  taken_zero _ _ _ _ _ (TakesCount {ls = ls} {headed = headed} {rs = rs} {fs = fs} line said h e same) =
      taken_zero ls false headed rs fs h
  taken_zero _ _ _ _ _ (TakesFault {ls = ls} {rs = rs} {fs = fs} {counted = counted} {headed = headed} line w h wrong) =
      taken_zero ls counted headed rs fs h

  rows_zero : (bytes : List ℕ) (ns : List (Numbered HistoryKey History))
      → AreRowsOf format SpellsHistory table.History bytes ns → All IsZero ns
  rows_zero bytes ns (lines, counted, headed, taken, are, t, moved) =
      All-permutation IsZero taken ns moved (taken_zero lines counted headed taken [] t)

  file_zero : (old new : Option Source) (ns : List (Numbered HistoryKey History))
      → ReadWellAs format history_cmp SpellsHistory table.History old new ns → All IsZero ns
  file_zero old new ns ((bytes, all, rows), sorted) = rows_zero bytes ns rows

row_zero : (ns : List (Numbered HistoryKey History)) → All IsZero ns → (k : HistoryKey) (x : History) → IsRowOf ns k x
    → k.terminal ≡ 0
unfolding IsRowOf
row_zero [] all k x h = absurd h
row_zero (n ∷ ns) all k x (inl is) = ap (λ (k : HistoryKey). k.terminal) (sym is.0) ∙ All-head IsZero n ns all
row_zero (n ∷ ns) all k x (inr h) = row_zero ns (All-tail IsZero n ns all) k x h

pub whole_zero : (format : Format) (old new : Nine) (r : Rows) → AreWhole format old new r → AreOfPopulation r
whole_zero format old new r w k x e =
    row_zero w.files.histories
    (file_zero format old.history new.history w.files.histories w.read.histories) k x ((w.rows.histories k x).0 e)
