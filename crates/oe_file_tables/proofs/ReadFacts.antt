-- A file goes on by one byte or one line.
use Rattle.std.proofs.Common.{◌≡◌, ◌≢◌, ℕ, ◌+◌, ◌<◌, ◌≤◌, inl, inr, Bool, true, false, List, [], ◌∷◌}
use Rattle.std.proofs.Common.{◌++◌, length, take, Option, Some, None, sym, ap, subst, ◌∙◌, refl}
use Rattle.std.proofs.Common.{append_assoc, arith}
use Rattle.std.specs.Prelude.{⊤, Result, Ok, Err}
use Rattle.oe_io.specs.Ports.{Source, Reads}
use Rattle.std.proofs.lemmas.List.{append-nil, length_push}
use Rattle.oe_rows.specs.declared.keys.Table.{Table}
use Rattle.oe_file_tables.specs.declared.faults.TableFault.{TableFault}
use Rattle.oe_file_tables.specs.declared.faults.Wrong.{Wrong}
use Rattle.oe_file_tables.specs.declared.faults.Wrong.TheVariants as wrong
use Rattle.oe_file_rows.specs.declared.forms.LineFault.{LineFault}
use Rattle.oe_file_tables.specs.declared.formats.Format.{Format}
use Rattle.oe_file_tables.specs.declared.formats.Format.TheVariants as written
use Rattle.oe_file_tables.specs.declared.lines.Numbered.{Numbered}
use Rattle.oe_file_tables.specs.declared.lines.TableLines as taker
use Rattle.oe_file_tables.specs.Fault.{Told, in_64_bits, with_fault, with_faults}
use Rattle.oe_file_tables.specs.Format.{text_in, heads, null_place, spelled_as}
use Rattle.oe_file_tables.specs.Record.{line_of}
use Rattle.oe_filelines.specs.Lines.{Finished}
use Rattle.oe_file_tables.specs.Lines.{said_of, IsWrong, counts, Taken, Begins}
use Rattle.oe_file_tables.specs.Lines.{TakesRow}
use Rattle.oe_file_tables.specs.Lines.{TakesHeading, TakesCount, TakesFault, Stands, AreAll, FileRead}
use Rattle.oe_file_tables.specs.Tables.{TableReadAs, ReadWellAs}
use Rattle.oe_file_tables.specs.Twice.{twice_in}
use Rattle.oe_file_tables.proofs.RecordFacts.{some_inj}
use Rattle.oe_file_tables.proofs.TwiceFacts.{none_each, once}
use Rattle.oe_rows.specs.declared.keys.Key.{Key}
use Rattle.std.specs.Cmp.{IsTotalOrder}
use Rattle.std.specs.declared.cmp.Ordering.{Ordering}
use Rattle.oe_file_tables.specs.Reading.{CountsOne, TakesOne, TakesRead, TableTaken}

-- ---- the number of the next line

pub shown_next : (n m : ℕ) → n ≡ in_64_bits m → in_64_bits (n + 1) ≡ in_64_bits (m + 1)
shown_next n m e = omega (arith, e)

-- ---- one line more

module _ {K X : Type 0} (format : Format) (spells : ℕ → List ℕ → K × X → Type 0) (table : Table)
    (start : Told TableFault) (ls : List (List ℕ)) (line : List ℕ) (count n : ℕ)
    (next : n ≡ in_64_bits (count + 1)) where
  at_next : count ≡ in_64_bits (length ls) → n ≡ in_64_bits (length ls + 1)
  at_next e = next ∙ shown_next count (length ls) e

  at_end : count ≡ in_64_bits (length ls) → n ≡ in_64_bits (length (ls ++ line ∷ []))
  at_end e = at_next e ∙ ap in_64_bits (sym (length_push ls line))

  pub fault_stands : (counted headed : Bool) (rows : List (Numbered K X)) (told told' : Told TableFault) (w : Wrong)
      → Stands format spells table start ls counted headed count rows told
      → IsWrong format spells table counted headed n line w
      → told' ≡ with_fault (record { table = table; line = n; wrong = w }) told
      → Stands format spells table start (ls ++ line ∷ []) (counts format spells table counted w) headed n rows told'
  fault_stands counted headed rows told told' w s wrong e =
      let at = at_next s.3 in (
        record { table = table; line = in_64_bits (length ls + 1); wrong = w } ∷ s.0,
        TakesFault line w s.1 (subst (λ (n : ℕ). IsWrong format spells table counted headed n line w) at wrong),
        e ∙ ap (with_fault (record { table = table; line = n; wrong = w })) s.2
            ∙ ap (λ (m : ℕ). with_fault (record { table = table; line = m; wrong = w }) (with_faults s.0 start)) at,
        at_end s.3,
      )

  pub heading_stands : (headed : Bool) (rows : List (Numbered K X)) (told : Told TableFault)
      → Stands format spells table start ls false headed count rows told
      → heads format n (text_in format line) ≡ true
      → Stands format spells table start (ls ++ line ∷ []) false true n rows told
  heading_stands headed rows told s is = (
    s.0,
    TakesHeading line s.1 (subst (λ (n : ℕ). heads format n (text_in format line) ≡ true) (at_next s.3) is),
    s.2,
    at_end s.3,
  )

  pub row_stands : (headed : Bool) (rows rows' : List (Numbered K X)) (told told' : Told TableFault) (r : K × X)
      → Stands format spells table start ls false headed count rows told
      → spelled_as format table spells n (text_in format line) r
      → rows' ≡ rows ++ record { line = n; key = r.0; row = r.1 } ∷ [] → told' ≡ told
      → Stands format spells table start (ls ++ line ∷ []) false headed n rows' told'
  row_stands headed rows rows' told told' r s spelled e f =
      let at = at_next s.3 in (
        s.0,
        subst (λ rs. Taken format spells table (ls ++ line ∷ []) false headed rs s.0)
            (sym (e ∙ ap (λ (m : ℕ). rows ++ record { line = m; key = r.0; row = r.1 } ∷ []) at))
            (TakesRow line r s.1
            (subst (λ (n : ℕ). spelled_as format table spells n (text_in format line) r) at spelled)),
        f ∙ s.2,
        at_end s.3,
      )

  pub count_stands : (headed : Bool) (rows rows' : List (Numbered K X)) (told told' : Told TableFault) (said : ℕ)
      → Stands format spells table start ls false headed count rows told → said_of (text_in format line) ≡ Some said
      → rows' ≡ rows → CountsOne table headed said n told told'
      → Stands format spells table start (ls ++ line ∷ []) true headed n rows' told'
  count_stands headed rows rows' told told' said s says e (inl h) = (
    s.0,
    subst (λ rs. Taken format spells table (ls ++ line ∷ []) true headed rs s.0) (sym e)
        (TakesCount line said s.1 says (h.0 ∙ at_next s.3)),
    h.1 ∙ s.2,
    at_end s.3,
  )
  count_stands headed rows rows' told told' said s says e (inr h) =
      subst (λ rs. Stands format spells table start (ls ++ line ∷ []) true headed n rs told') (sym e)
      (fault_stands false headed rows told told' (wrong.Miscount said) s (says, h.0) h.1)

  pub one_stands : (headed : Bool) (rows rows' : List (Numbered K X)) (told told' : Told TableFault)
      → heads format n (text_in format line) ≡ false
      → Stands format spells table start ls false headed count rows told
      → TakesOne format spells table n (text_in format line) rows told rows' told'
      → Stands format spells table start (ls ++ line ∷ []) false headed n rows' told'
  one_stands headed rows rows' told told' none s (inl h) =
      row_stands headed rows rows' told told' h.0 s h.1 h.2 h.3
  one_stands headed rows rows' told told' none s (inr (inl h)) =
      subst (λ rs. Stands format spells table start (ls ++ line ∷ []) false headed n rs told') (sym h.2)
      (fault_stands false headed rows told told' (wrong.NoRow h.0) s (none, h.1) h.3)
  one_stands headed rows rows' told told' none s (inr (inr h)) =
      subst (λ rs. Stands format spells table start (ls ++ line ∷ []) false headed n rs told') (sym h.2)
      (fault_stands false headed rows told told' wrong.NoRecord s (none, h.0, h.1) h.3)

pub stands_as : {format : Format} {K X : Type 0} {spells : ℕ → List ℕ → K × X → Type 0} {table : Table}
    {start : Told TableFault} {ls : List (List ℕ)} {b c h i : Bool} {n m : ℕ} {rows : List (Numbered K X)}
    {told : Told TableFault}
    → c ≡ b → i ≡ h → m ≡ n
    → Stands format spells table start ls b h n rows told → Stands format spells table start ls c i m rows told
stands_as e f g s = rw (e, f, g) s

-- what was read of a line's text

module _ {K X : Type 0} (spells : ℕ → List ℕ → K × X → Type 0) (table : Table) (n : ℕ)
    (rows rows' : List (Numbered K X)) (told told' : Told TableFault) where
  pub takes_dump : (text : List ℕ) (read : Result (K × X) LineFault)
      → ((r : K × X) → read ≡ Ok r → spells n text r) → ((r : K × X) → spells n text r → read ≡ Ok r)
      → TakesRead table n read rows told rows' told' → TakesOne written.Dump spells table n text rows told rows' told'
  takes_dump text (Ok r) found finds h = inl (r, found r refl, h.0, h.1)
  takes_dump text (Err f) found finds h = inr (inl (f, λ r s. absurd (let e = finds r s in cc), h.0, h.1))

  pub takes_csv : (text line : List ℕ) (read : Result (K × X) LineFault) → line_of (null_place table) text ≡ Some line
      → ((r : K × X) → read ≡ Ok r → spells n line r) → ((r : K × X) → spells n line r → read ≡ Ok r)
      → TakesRead table n read rows told rows' told' → TakesOne written.Csv spells table n text rows told rows' told'
  takes_csv text line (Ok r) is found finds h = inl (r, (line, is, found r refl), h.0, h.1)
  takes_csv text line (Err f) is found finds h =
      inr
      (inl (
        f,
        λ r s. absurd (let e = finds r (subst (λ l. spells n l r) (some_inj _ _ (sym s.1 ∙ is)) s.2) in cc),
        h.0,
        h.1,
      ))

-- ---- the lines of a file

module _ {K X : Type 0} (spells : ℕ → List ℕ → K × X → Type 0) (table : Table) where
  pub stands_start : (format : Format) (start : Told TableFault) (counted headed : Bool) (count : ℕ)
      (rows : List (Numbered K X)) → rows ≡ [] → count ≡ 0 → counted ≡ false → headed ≡ false
      → Stands format spells table start [] counted headed count rows start
  stands_start format start counted headed count rows e f g k = ([], rw (e, g, k) Begins, refl, f)

  -- a file is read as its lines were taken
  pub file_read : (old new : Option Source) (bytes : List ℕ) (start now : taker.TableLines K X) → AreAll old new bytes
      → Finished (TableTaken spells table start) bytes now
      → FileRead start.format spells table old new start.faults.now now.lot.now.rows now.faults.now
  file_read old new bytes start now all f = (
    bytes,
    all,
    (f.0, now.lot.now.is_counted, now.lot.now.is_headed, f.2.3.0, f.1, f.2.3.1, f.2.3.2),
  )

pub stands_in : {format other : Format} {K X : Type 0} {spells : ℕ → List ℕ → K × X → Type 0} {table : Table}
    {start : Told TableFault} {ls : List (List ℕ)} {b h : Bool} {n : ℕ} {rows : List (Numbered K X)}
    {told : Told TableFault} → format ≡ other → Stands format spells table start ls b h n rows told
    → Stands other spells table start ls b h n rows told
stands_in {spells = spells} {table = table} {start = start} {ls = ls} {b = b} {h = h} {n = n} {rows = rows}
    {told = told} e s = subst (λ f. Stands f spells table start ls b h n rows told) e s

pub file_read_as : {K X : Type 0} (format : Format) (spells : ℕ → List ℕ → K × X → Type 0) (table : Table)
    (old new : Option Source) (start : Told TableFault) (rows rows' : List (Numbered K X))
    (told told' : Told TableFault) → rows' ≡ rows → told' ≡ told
    → FileRead format spells table old new start rows told → FileRead format spells table old new start rows' told'
file_read_as format spells table old new start rows rows' told told' e f r =
    subst (λ z. FileRead format spells table old new start z told') (sym e)
    (subst (λ z. FileRead format spells table old new start rows z) (sym f) r)

-- ---- what calls of the reader gave

abbrev pub ReadSoFar : Option Source → Option Source → List ℕ → Type 0
ReadSoFar None now read = ⊤
ReadSoFar (Some a) None read = ⊥
ReadSoFar (Some a) (Some b) read = (a.remaining ≡ read ++ b.remaining) × (b.failures ≡ a.failures)

pub read_none : (s : Option Source) → ReadSoFar s s []
read_none None = tt
read_none (Some a) = (refl, refl)

pub read_more : (E : Type 0) (s now new : Option Source) (read buf : List ℕ) (n : ℕ) → ReadSoFar s now read
    → Reads {E = E} now new (Ok n) buf → ReadSoFar s new (read ++ take n buf)
read_more E None now new read buf n h g = tt
read_more E (Some a) None new read buf n h g = absurd h
read_more E (Some a) (Some b) None read buf n h g = absurd g
read_more E (Some a) (Some b) (Some d) read buf n h g = (
  h.0 ∙ ap (λ z. read ++ z) g.0 ∙ sym (append_assoc read (take n buf) d.remaining),
  g.1 ∙ h.1,
)

pub read_all : (E : Type 0) (s now new : Option Source) (read buf : List ℕ) → ReadSoFar s now read
    → Reads {E = E} now new (Ok 0) buf → 0 < length buf → AreAll s new read
read_all E None now new read buf h g room = tt
read_all E (Some a) None new read buf h g room = absurd h
read_all E (Some a) (Some b) None read buf h g room = absurd g
read_all E (Some a) (Some b) (Some d) read buf h g room =
    let end : d.remaining ≡ [] = g.2 refl room in
    (h.0 ∙ ap (λ z. read ++ z) (g.0 ∙ end) ∙ append-nil read, end, g.1 ∙ h.1)

-- ---- where no fault was told

pushed_some : (n : ℕ) → in_64_bits (n + 1) ≡ 0 → ⊥
pushed_some n e = omega (arith, e)

pub none_pushed : (fs : List TableFault) (t : Told TableFault) → (with_faults fs t).count ≡ 0 → (fs ≡ [])
    × (t.count ≡ 0)
none_pushed [] t e = (refl, e)
none_pushed (f ∷ fs) t e = absurd (pushed_some (with_faults fs t).count e)

-- a file in which nothing was told
pub table_read_as : {K X : Type 0} (format : Format) (cmp : K → K → Ordering) (total : IsTotalOrder cmp)
    (key_of : K → Key) (spells : ℕ → List ℕ → K × X → Type 0) (table : Table) (old new : Option Source)
    (start told : Told TableFault) (rows : List (Numbered K X))
    → TableReadAs format cmp key_of spells table old new start told rows → told.count ≡ 0
    → ReadWellAs format cmp spells table old new rows × (start.count ≡ 0)
table_read_as format cmp total key_of spells table old new start told rows l e =
    let read = l.read in
    let twice = none_each (twice_in cmp table key_of rows) l.middle
    (sym (ap (λ (t : Told TableFault). t.count) l.twice) ∙ e) in
    let none = none_pushed read.2.3 start (sym (ap (λ (t : Told TableFault). t.count) read.2.6) ∙ twice.1) in (
      (
        (
          read.0,
          read.1,
          (
            read.2.0,
            read.2.1,
            read.2.2,
            l.taken,
            read.2.4,
            subst (λ fs. Taken format spells table read.2.0 read.2.1 read.2.2 l.taken fs) none.0 read.2.5,
            l.moved,
          ),
        ),
        once cmp total table key_of rows l.sorted twice.0,
      ),
      none.1,
    )
