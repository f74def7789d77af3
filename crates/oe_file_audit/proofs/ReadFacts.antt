-- One source more.
use Rattle.std.proofs.Common.{◌≡◌, ℕ, ◌+◌, List, [], ◌∷◌, ◌++◌, Option, sym, subst, length, get_or, take, drop, ◌∙◌}
use Rattle.std.proofs.Common.{ap, ◌<◌}
use Rattle.std.proofs.lemmas.List.{drop_more, take-append-drop}
use Rattle.std.proofs.lemmas.List.Sums.{fold_push}
use Rattle.std.proofs.lemmas.List.{map-append}
use Rattle.oe_columns.specs.declared.constants.Wanted.{Wanted}
use Rattle.oe_columns.specs.declared.prints.RowFact.{RowFact}
use Rattle.oe_earlier.specs.Traces.{no_rows}
use Rattle.oe_fields.specs.declared.fields.Format.{Format}
use Rattle.oe_sources.specs.Tables.{TableRead}
use Rattle.oe_sources.specs.Dump as dump
use Rattle.oe_sources.specs.declared.ledgers.Taken as taken
use Rattle.oe_books.specs.Facts.{facts_by_table, with_fact, no_facts}
use Rattle.oe_file_audit.specs.declared.reading.Entered.{Entered}
use Rattle.oe_file_audit.specs.declared.reading.Spelled.{Spelled}
use Rattle.oe_file_audit.specs.declared.reading.TableSource.{TableSource}
use Rattle.oe_file_audit.specs.Reading.{Holds, TablesSpell, TablesRead, DumpRead, facts_of, with_print, prints_of}

pub parted_push : (rows : List RowFact) (r : RowFact)
    → facts_by_table (facts_of (rows ++ r ∷ [])) ≡ with_fact (facts_by_table (facts_of rows)) r.fact
parted_push rows r =
    ap facts_by_table (map-append (λ (q : RowFact). q.fact) rows (r ∷ []))
    ∙ fold_push with_fact no_facts (facts_of rows) r.fact

pub prints_push : (rows : List RowFact) (r : RowFact) → prints_of (rows ++ r ∷ []) ≡ with_print (prints_of rows) r
prints_push rows r = fold_push with_print no_rows rows r

module _ {S : Type 0} (remaining : S → Option (List ℕ)) (wanted : Wanted) (format : Format) where
  pub tables_more : (given : Option ℕ) (sources : List (TableSource S)) (s : TableSource S)
      (old next : Spelled) (told : taken.Taken Entered) → TablesRead remaining wanted format given sources old
      → TableRead Holds s.table wanted format old.entered (remaining s.source) told
      → next.entered ≡ told.ledger → next.faults.items ≡ old.faults.items ++ told.faults ∷ []
      → TablesRead remaining wanted format given (sources ++ s ∷ []) next
  tables_more given sources s old next told before read e f = (
    before.0 ++ read.5.facts,
    subst (λ ts. TablesSpell remaining wanted format (sources ++ s ∷ []) (before.0 ++ read.5.facts) ts) (sym f)
        (TablesSpell.more sources before.0 old.faults.items before.1 s read.5.facts told.faults
        (record {
          new = read.0;
          bytes = read.1;
          lines = read.3;
          all = read.2;
          are_lines = read.4;
          facts_are = read.5.are;
          faults_are = read.5.told;
        })),
    subst (λ entered. Holds given entered (before.0 ++ read.5.facts)) (sym e) (read.5.held given before.0 before.2),
  )

pub dump_read : (wanted : Wanted) (given : Option ℕ) (old : Option (List ℕ)) (begun : Entered)
    (told : taken.Taken Entered) (next : Spelled)
    → Holds given begun [] → dump.DumpRead Holds wanted begun old told → next.entered ≡ told.ledger
    → next.faults.items ≡ told.faults ∷ [] → DumpRead wanted given old next
dump_read wanted given old begun told next none read e f = (
  read.5.facts,
  told.faults,
  record {
    new = read.0;
    bytes = read.1;
    lines = read.3;
    all = read.2;
    are_lines = read.4;
    facts_are = read.5.are;
    faults_are = read.5.told;
  },
  f,
  subst (λ entered. Holds given entered read.5.facts) (sym e) (read.5.held given [] none),
)

-- the n-th of a list stands between those before it and those behind it
pub parted_at : {X : Type 0} (xs : List X) (n : ℕ) (x : X) → n < length xs → x ≡ get_or xs n x
    → xs ≡ take n xs ++ x ∷ drop (n + 1) xs
parted_at xs n x within is =
    sym (take-append-drop n xs) ∙ ap (λ t. take n xs ++ t) (drop_more xs n x within)
    ∙ ap (λ y. take n xs ++ y ∷ drop (n + 1) xs) (sym is)
