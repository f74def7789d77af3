-- What a table's file spells, taken in behind what was read before.
use Rattle.std.proofs.Common.{◌≡◌, ℕ, Bool, true, List, [], ◌∷◌, ◌++◌, map, Option, Some, None, Result, Ok, Err}
use Rattle.std.proofs.Common.{refl, sym, subst, ap, ◌∙◌, append_assoc, append-nil, inl, inr}
use Rattle.std.specs.Prelude.{◌⊎◌, ◌&&◌, IfOk, IfErr, IfSome, OnSome}
use Rattle.std.specs.Option.{option_and, option_to_list}
use Rattle.std.specs.List.{fold}
use Rattle.std.proofs.lemmas.Bool.{and_parts}
use Rattle.std.proofs.lemmas.List.{map-append}
use Rattle.std.proofs.lemmas.List.Sums.{fold-append}
use Rattle.oe_facts.specs.declared.tables.Fact.{Fact}
use Rattle.oe_facts.specs.declared.tables.Fact.TheVariants as fact
use Rattle.oe_facts.specs.declared.tables.Table.{Table}
use Rattle.oe_fields.specs.declared.fields.Format.{Format}
use Rattle.oe_columns.specs.declared.constants.Wanted.{Wanted}
use Rattle.oe_columns.specs.declared.prints.RowFact.{RowFact}
use Rattle.oe_earlier.specs.Traces.{Traced, trace_of, residue_of, no_rows, with_row, traced_together}
use Rattle.oe_earlier.specs.Keeping.{KeepsTraces}
use Rattle.oe_earlier.proofs.KeptFacts.{on_both}
use Rattle.oe_sources.specs.Fault.{Told}
use Rattle.oe_sources.specs.Tables.{TableRead}
use Rattle.oe_sources.specs.Taken.{spelling}
use Rattle.oe_sources.specs.declared.ledgers.Taken as taken
use Rattle.oe_file_audit.proofs.OwnFacts.{AreOf, table_own}
use Rattle.oe_books.specs.Facts.{Facts, facts_by_table, stands_apart, with_apart}
use Rattle.oe_books.specs.Keeping.{Keeps}
use Rattle.oe_books.proofs.ApartFacts.{StandApart, parted_apart}
use Rattle.oe_file_audit.specs.declared.reading.Entered.{Entered}
use Rattle.oe_file_audit.specs.declared.reading.Spelled.{Spelled}
use Rattle.oe_file_audit.specs.declared.reading.TableSource.{TableSource}
use Rattle.oe_file_audit.specs.declared.reading.Unread.{Unread}
use Rattle.oe_file_audit.specs.Reading.{Holds, HoldsBoth, TableSpells, TablesSpell, TablesRead, ReadAlone, IsBehind}
use Rattle.oe_file_audit.specs.Reading.{PutBehind, StopsAt, facts_of, printed_by, with_print, prints_of}

-- ---- prints

row_print : (t u : Traced) (print : ℕ) (f : Fact)
    → with_row (traced_together t u) print f ≡ traced_together t (with_row u print f)
row_print t u print (fact.Warehouse f) =
    ap (λ xs. record (traced_together t u) { warehouses = xs })
    (append_assoc t.warehouses u.warehouses ((f.warehouse, trace_of print) ∷ []))
row_print t u print (fact.District f) =
    ap (λ xs. record (traced_together t u) { districts = xs })
    (append_assoc t.districts u.districts ((f.key, trace_of print) ∷ []))
row_print t u print (fact.Customer f) =
    ap (λ xs. record (traced_together t u) { customers = xs })
    (append_assoc t.customers u.customers ((f.key, trace_of print) ∷ []))
row_print t u print (fact.History f) = refl
row_print t u print (fact.NewOrder f) = refl
row_print t u print (fact.Order f) = refl
row_print t u print (fact.OrderLine f) = refl
row_print t u print (fact.Item f) =
    ap (λ xs. record (traced_together t u) { items = xs })
    (append_assoc t.items u.items ((f.item, trace_of print) ∷ []))
row_print t u print (fact.Stock f) = λ i. record (traced_together t u) {
  stocks = append_assoc t.stocks u.stocks ((f.key, trace_of print) ∷ []) i;
  residues = append_assoc t.residues u.residues ((f.key, residue_of f) ∷ []) i;
}

fact_print : (t u : Traced) (f : Fact) (print : Option ℕ)
    → printed_by (traced_together t u) f print ≡ traced_together t (printed_by u f print)
fact_print t u f None = refl
fact_print t u f (Some print) = row_print t u print f

no_print : (t : Traced) → t ≡ traced_together t no_rows
no_print t = λ i. record {
  warehouses = sym (append-nil t.warehouses) i;
  districts = sym (append-nil t.districts) i;
  customers = sym (append-nil t.customers) i;
  items = sym (append-nil t.items) i;
  stocks = sym (append-nil t.stocks) i;
  residues = sym (append-nil t.residues) i;
}

all_prints : (t u : Traced) (rows : List RowFact)
    → fold with_print (traced_together t u) rows ≡ traced_together t (fold with_print u rows)
all_prints t u [] = refl
all_prints t u (r ∷ rows) =
    ap (λ v. fold with_print v rows) (fact_print t u r.fact r.print) ∙ all_prints t (with_print u r) rows

prints_both : (rows more : List RowFact) → prints_of (rows ++ more) ≡ traced_together (prints_of rows) (prints_of more)
prints_both rows more =
    fold-append with_print no_rows rows more
    ∙ ap (λ v. fold with_print v more) (no_print (prints_of rows))
    ∙ all_prints (prints_of rows) no_rows more

-- ---- facts

own_apart : (t : Table) (rows : List RowFact) → stands_apart t ≡ true → AreOf t (map spelling rows)
    → StandApart (facts_of rows)
own_apart t [] apart h = tt
own_apart t (r ∷ rows) apart h = (ap stands_apart h.0 ∙ apart, own_apart t rows apart h.1)

parted_both : (rows more : List RowFact) → StandApart (facts_of more)
    → facts_by_table (facts_of (rows ++ more))
    ≡ with_apart (facts_by_table (facts_of rows)) (facts_by_table (facts_of more))
parted_both rows more h =
    ap facts_by_table (map-append (λ (r : RowFact). r.fact) rows more) ∙ parted_apart (facts_of rows) (facts_of more) h

-- ---- one source more

module _ {S : Type 0} (remaining : S → Option (List ℕ)) (wanted : Wanted) (format : Format) (s : TableSource S) where
  pub alone : (begun : Entered) (own : taken.Taken Entered) → Holds (Some 0) begun []
      → TableRead Holds s.table wanted format begun (remaining s.source) own → ReadAlone remaining wanted format s own
  alone begun own none read = (
    read.5.facts,
    record {
      new = read.0;
      bytes = read.1;
      lines = read.3;
      all = read.2;
      are_lines = read.4;
      facts_are = read.5.are;
      faults_are = read.5.told;
    },
    read.5.held (Some 0) [] none,
  )

  own_stand : (own : List RowFact) (faults : Told) → stands_apart s.table ≡ true
      → TableSpells (remaining s.source) s.table wanted format own faults → StandApart (facts_of own)
  own_stand own faults apart h =
      own_apart s.table own apart
      (subst (AreOf s.table) (sym h.facts_are) (table_own s.table wanted format h.lines))

  module _ (given : Option ℕ) (sources : List (TableSource S)) (apart : stands_apart s.table ≡ true) where
    pub behind : (so_far both : Spelled) (own : taken.Taken Entered)
        → TablesRead remaining wanted format given sources so_far → ReadAlone remaining wanted format s own
        → IsBehind so_far own both → TablesRead remaining wanted format given (sources ++ s ∷ []) both
    behind so_far both own before read is =
        let rows = before.0 in
        let more = read.0 in (
          rows ++ more,
          subst (λ told. TablesSpell remaining wanted format (sources ++ s ∷ []) (rows ++ more) told) (sym is.1)
              (TablesSpell.more sources rows so_far.faults.items before.1 s more own.faults read.1),
          record {
            books = subst (λ (t : Facts). Keeps given t both.entered.books)
                (sym (parted_both rows more (own_stand more own.faults apart read.1)))
                (is.0.books given (Some 0) (facts_by_table (facts_of rows))
                (facts_by_table (facts_of more)) before.2.books
                read.2.books);
            traces = subst (λ (t : Traced). KeepsTraces t both.entered.traces) (sym (prints_both rows more))
                (is.0.traces (prints_of rows) (prints_of more) before.2.traces read.2.traces);
          },
        )

    pub read_behind : (so_far : Result Spelled Unread) (own : Result (taken.Taken Entered) Unread)
        (both : Result Spelled Unread)
        → IfOk so_far (TablesRead remaining wanted format given sources)
        → IfOk own (ReadAlone remaining wanted format s) → IfOk both (PutBehind so_far own)
        → IfOk both (TablesRead remaining wanted format given (sources ++ s ∷ []))
    read_behind (Ok so_far) (Ok own) (Ok both) before read is = behind so_far both own before read is
    read_behind (Ok so_far) (Err unread) (Ok both) before read is = absurd is
    read_behind (Err unread) (Ok own) (Ok both) before read is = absurd is
    read_behind (Err unread) (Err other) (Ok both) before read is = absurd is
    read_behind so_far own (Err unread) before read is = tt

-- the last of a list is taken off
pub last_off : {X : Type 0} (all rest : List X) (o : Option X) (x : X) → all ≡ rest ++ option_to_list o → o ≡ Some x
    → rest ++ x ∷ [] ≡ all
last_off all rest o x are is = sym (are ∙ ap (λ o. rest ++ option_to_list o) is)

pub first_of_both : (b p q : Bool) → b ≡ (p && q) → b ≡ true → p ≡ true
first_of_both b p q are is = (and_parts p q (sym are ∙ is)).0

pub none_read : {S : Type 0} (remaining : S → Option (List ℕ)) (wanted : Wanted) (format : Format) (given : Option ℕ)
    (sources : List (TableSource S)) (so_far : Spelled) → sources ≡ [] → so_far.faults.items ≡ []
    → Holds given so_far.entered [] → TablesRead remaining wanted format given sources so_far
none_read {S} remaining wanted format given sources so_far none sound holds = (
  [],
  subst (λ (xs : List (TableSource S)). TablesSpell remaining wanted format xs [] so_far.faults.items) (sym none)
      (subst (λ (told : List Told). TablesSpell remaining wanted format [] [] told) (sym sound) TablesSpell.none),
  holds,
)

module _ {S : Type 0} (sources : List (TableSource S)) (s : TableSource S) where
  pub stops_before : (unread : Unread) → StopsAt sources unread → StopsAt (sources ++ s ∷ []) unread
  stops_before unread h = (
    h.0,
    h.1,
    h.2 ++ s ∷ [],
    ap (λ xs. xs ++ s ∷ []) h.3 ∙ append_assoc h.0 (h.1 ∷ h.2) (s ∷ []),
    h.4,
  )

  stops_last : (unread : Unread) → unread.table ≡ Some s.table → StopsAt (sources ++ s ∷ []) unread
  stops_last unread is = (sources, s, [], refl, is)

  pub stops_read : (r : Result Spelled Unread) → IfErr r (λ unread. unread.table ≡ Some s.table)
      → IfErr r (StopsAt (sources ++ s ∷ []))
  stops_read (Ok spelling) is = tt
  stops_read (Err unread) is = stops_last unread is

  stops_at : (unread : Unread) (so_far : Result Spelled Unread) → IfErr so_far (StopsAt sources)
      → (so_far ≡ Err unread) ⊎ (unread.table ≡ Some s.table) → StopsAt (sources ++ s ∷ []) unread
  stops_at unread so_far before (inl is) =
      stops_before unread (subst (λ r. IfErr r (StopsAt sources)) is before)
  stops_at unread so_far before (inr is) = stops_last unread is

  pub stops_behind : (so_far both : Result Spelled Unread) → IfErr so_far (StopsAt sources)
      → IfErr both (λ unread. (so_far ≡ Err unread) ⊎ (unread.table ≡ Some s.table))
      → IfErr both (StopsAt (sources ++ s ∷ []))
  stops_behind so_far (Ok both) before is = tt
  stops_behind so_far (Err unread) before is = stops_at unread so_far before is

-- ---- books

pub with_both : (so_far : Spelled) (own : taken.Taken Entered) (joined : Entered) (r : Option Spelled)
    → HoldsBoth so_far.entered own.ledger joined
    → IfSome r (λ both. (both.entered ≡ joined) × (both.faults.items ≡ so_far.faults.items ++ own.faults ∷ []))
    → IfSome r (IsBehind so_far own)
with_both so_far own joined None holds h = tt
with_both so_far own joined (Some both) holds h =
    (subst (HoldsBoth so_far.entered own.ledger) (sym h.0) holds, h.1)

pub both_there : {T U : Type 0} (P Q : Type 0) (p : Option T) (q r : Option U) (x : U) → r ≡ option_and p q → r ≡ Some x
    → OnSome p P → OnSome q Q → P × Q
both_there {T} {U} P Q p q r x is there h g =
    subst (λ (r : Option U). OnSome r (P × Q)) there (on_both P Q p q r is h g)

pub put_both : (so_far : Result Spelled Unread) (own : Result (taken.Taken Entered) Unread) (s : Spelled)
    (o : taken.Taken Entered) (both : Spelled) → so_far ≡ Ok s → own ≡ Ok o → IsBehind s o both
    → PutBehind so_far own both
put_both so_far own s o both e f h =
    subst (λ r. PutBehind r own both) (sym e) (subst (λ r. PutBehind (Ok s) r both) (sym f) h)
