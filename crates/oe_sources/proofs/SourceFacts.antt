-- One line more.
use Rattle.std.proofs.Common.{◌≡◌, ℕ, ◌+◌, ◌<◌, ◌≤◌, cond, List, [], ◌∷◌, ◌++◌, length}
use Rattle.std.proofs.Common.{sym, ap, subst, ◌∙◌, refl, append_assoc, append-nil, eqb}
use Rattle.std.proofs.lemmas.Bool.{lt-ltb, le-ltb}
use Rattle.std.proofs.lemmas.List.{map-append}
use Rattle.oe_facts.specs.declared.tables.Table.{Table}
use Rattle.oe_facts.specs.Table.{table_of}
use Rattle.oe_columns.specs.Facts.{fact_values}
use Rattle.oe_columns.specs.declared.prints.RowFact.{RowFact}
use Rattle.oe_sources.specs.declared.faults.SourceFault.{SourceFault}
use Rattle.oe_sources.specs.declared.faults.Wrong.{Wrong}
use Rattle.oe_sources.specs.declared.ledgers.Taken as taken
use Rattle.oe_sources.specs.declared.readings.Reading.{Reading}
use Rattle.oe_sources.specs.declared.lines.SoFar as lines
use Rattle.oe_sources.specs.Dump as dump
use Rattle.oe_sources.specs.Fault.{Told, in_64_bits, with_fault, with_each_fault}
use Rattle.oe_sources.specs.Reading.{Says, Row, Fault, step, long_says}
use Rattle.oe_sources.specs.Taken.{Got, Spelled, spelling, rows_said, faults_said}
use Rattle.oe_sources.specs.Tables.{Read, begun_read, next, all_next, Stands, StandsBehind, file_step}
use Rattle.oe_sources.specs.Text.{text_of}

-- ---- what was taken

each_push : (fs : List SourceFault) (f : SourceFault) (t : Told)
    → with_each_fault (fs ++ f ∷ []) t ≡ with_fault f (with_each_fault fs t)
each_push [] f t = refl
each_push (g ∷ fs) f t = each_push fs f (with_fault g t)

module _ {L B : Type 0} (holds : B → L → List RowFact → Type 0) (start : taken.Taken L) where
  pub got_as : (rows rows' : List Spelled) (faults faults' : List SourceFault) (now : taken.Taken L)
      → rows ≡ rows' → faults ≡ faults' → Got holds start rows faults now → Got holds start rows' faults' now
  got_as rows rows' faults faults' now e f g = record {
    facts = g.facts;
    are = g.are ∙ e;
    held = g.held;
    told = g.told ∙ ap (λ fs. with_each_fault fs start.faults) f;
  }

  pub got_none : Got holds start [] [] start
  got_none = record {
    facts = [];
    are = refl;
    held = λ begun before h. subst (λ fs. holds begun start.ledger fs) (sym (append-nil before)) h;
    told = refl;
  }

  pub got_row : (rows : List Spelled) (faults : List SourceFault) (old now : taken.Taken L) (t : Table)
      (n : ℕ) (s : Says) (f : RowFact) → s ≡ Row (table_of f.fact) (fact_values f.fact) f.print
      → now.faults ≡ old.faults
      → ((begun : B) (facts : List RowFact) → holds begun old.ledger facts → holds begun now.ledger (facts ++ f ∷ []))
      → Got holds start rows faults old
      → Got holds start (rows ++ rows_said s) (faults ++ faults_said t n s) now
  got_row rows faults old now t n s f e same takes g = record {
    facts = g.facts ++ f ∷ [];
    are = map-append spelling g.facts (f ∷ []) ∙ ap (λ rs. rs ++ spelling f ∷ []) g.are
        ∙ sym (ap (λ s. rows ++ rows_said s) e);
    held = λ begun before h.
        subst (λ fs. holds begun now.ledger fs) (append_assoc before g.facts (f ∷ []))
        (takes begun (before ++ g.facts) (g.held begun before h));
    told = same ∙ g.told
        ∙ sym (ap (λ fs. with_each_fault fs start.faults)
        (ap (λ s. faults ++ faults_said t n s) e ∙ append-nil faults));
  }

  pub got_fault : (rows : List Spelled) (faults : List SourceFault) (old now : taken.Taken L) (t : Table)
      (n : ℕ) (s : Says) (w : Wrong) (text : List ℕ) → s ≡ Fault w text → now.ledger ≡ old.ledger
      → now.faults ≡ with_fault (record { table = t; line = n; wrong = w; text = text }) old.faults
      → Got holds start rows faults old
      → Got holds start (rows ++ rows_said s) (faults ++ faults_said t n s) now
  got_fault rows faults old now t n s w text e same push g =
      let f : SourceFault = record { table = t; line = n; wrong = w; text = text } in
      record {
        facts = g.facts;
        are = g.are ∙ sym (ap (λ s. rows ++ rows_said s) e ∙ append-nil rows);
        held = λ begun before h. subst (λ l. holds begun l (before ++ g.facts)) (sym same) (g.held begun before h);
        told = push ∙ ap (with_fault f) g.told ∙ sym (each_push faults f start.faults)
            ∙ sym (ap (λ s. with_each_fault (faults ++ faults_said t n s) start.faults) e);
      }

-- ---- the next line

pub short_step : (n : ℕ) (reading : Reading) (line : List ℕ) → length line ≤ 65_536
    → file_step n reading line ≡ step reading (text_of (eqb n 1) line)
unfolding file_step
short_step n reading line h =
    ap (λ t. cond t (reading, long_says reading) (step reading (text_of (eqb n 1) line)))
    (le-ltb 65_536 (length line) h)

pub long_step : (n : ℕ) (reading : Reading) (line : List ℕ) → 65_536 < length line
    → file_step n reading line ≡ (reading, long_says reading)
unfolding file_step
long_step n reading line h =
    ap (λ t. cond t (reading, long_says reading) (step reading (text_of (eqb n 1) line)))
    (lt-ltb 65_536 (length line) h)

pub short_line : (n : ℕ) (reading : Reading) (line : List ℕ) → length line ≤ 65_536
    → dump.line_step n reading line ≡ dump.dump_step reading (text_of (eqb n 1) line)
unfolding dump.line_step
short_line n reading line h =
    ap (λ t. cond t (reading, dump.dump_long reading) (dump.dump_step reading (text_of (eqb n 1) line)))
    (le-ltb 65_536 (length line) h)

pub long_line : (n : ℕ) (reading : Reading) (line : List ℕ) → 65_536 < length line
    → dump.line_step n reading line ≡ (reading, dump.dump_long reading)
unfolding dump.line_step
long_line n reading line h =
    ap (λ t. cond t (reading, dump.dump_long reading) (dump.dump_step reading (text_of (eqb n 1) line)))
    (lt-ltb 65_536 (length line) h)

module _ (line_step : ℕ → Reading → List ℕ → Reading × Says) where
  all_push : (r : Read) (ls : List (List ℕ)) (line : List ℕ)
      → all_next line_step r (ls ++ line ∷ []) ≡ next line_step (all_next line_step r ls) line
  all_push r [] line = refl
  all_push r (l ∷ ls) line = all_push (next line_step r l) ls line

  module _ {L B : Type 0} (holds : B → L → List RowFact → Type 0) (start : lines.SoFar L) where
    next_stands : (r : Read) (line : List ℕ) (old now : lines.SoFar L) (t : Table) (n : ℕ) (s : Says)
        → t ≡ now.reading.table → n ≡ in_64_bits (old.count + 1) → now.reading ≡ (line_step n old.reading line).0
        → now.count ≡ n
        → s ≡ (line_step n old.reading line).1
        → ((start : taken.Taken L) (rows : List Spelled) (faults : List SourceFault)
        → Got holds start rows faults old.taken
        → Got holds start (rows ++ rows_said s) (faults ++ faults_said t n s) now.taken)
        → Stands line_step holds start r old → Stands line_step holds start (next line_step r line) now
    next_stands r line old now t n s of_table h reading count said takes stands =
        let m = in_64_bits (r.count + 1) in
        let en : n ≡ m = h ∙ ap (λ k. in_64_bits (k + 1)) stands.count in
        let es : line_step n old.reading line ≡ line_step m r.reading line =
        ap (λ k. line_step k old.reading line) en ∙ ap (λ rd. line_step m rd line) stands.reading in
        let same : s ≡ (line_step m r.reading line).1 = said ∙ ap (λ (p : Reading × Says). p.1) es in
        let now_is : now.reading ≡ (line_step m r.reading line).0 =
        reading ∙ ap (λ (p : Reading × Says). p.0) es in
        let table = (line_step m r.reading line).0.table in
        record {
          reading = now_is;
          count = count ∙ en;
          got = got_as holds start.taken (r.rows ++ rows_said s) _ (r.faults ++ faults_said t n s) _
              now.taken (ap (λ s. r.rows ++ rows_said s) same)
              (ap (λ t. r.faults ++ faults_said t n s) (of_table ∙ ap (λ (rd : Reading). rd.table) now_is)
              ∙ ap (λ k. r.faults ++ faults_said table k s) en
              ∙ ap (λ s. r.faults ++ faults_said table m s) same)
              (takes start.taken r.rows r.faults stands.got);
        }

    pub line_stands : (ls : List (List ℕ)) (line : List ℕ) (old now : lines.SoFar L) (t : Table) (n : ℕ) (s : Says)
        → t ≡ now.reading.table → n ≡ in_64_bits (old.count + 1) → now.reading ≡ (line_step n old.reading line).0
        → now.count ≡ n
        → s ≡ (line_step n old.reading line).1
        → ((start : taken.Taken L) (rows : List Spelled) (faults : List SourceFault)
        → Got holds start rows faults old.taken
        → Got holds start (rows ++ rows_said s) (faults ++ faults_said t n s) now.taken)
        → StandsBehind line_step holds start ls old → StandsBehind line_step holds start (ls ++ line ∷ []) now
    line_stands ls line old now t n s of_table h reading count said takes stands =
        subst (λ r. Stands line_step holds start r now)
        (sym (all_push (begun_read start.reading start.count) ls line))
        (next_stands (all_next line_step (begun_read start.reading start.count) ls) line old now t n s of_table h
        reading count
        said takes stands)

    pub begins : StandsBehind line_step holds start [] start
    begins = record {
      reading = refl;
      count = refl;
      got = got_none holds start.taken;
    }
