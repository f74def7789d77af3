-- The lines of a table's file spell rows of that table alone.
use Rattle.std.proofs.Common.{◌≡◌, ℕ, ◌+◌, Bool, true, false, cond, List, [], ◌∷◌, ◌++◌, length, refl, subst, ◌∙◌}
use Rattle.std.specs.Prelude.{◌==◌, nat_lt, Option, Some, None, Result, Ok, Err}
use Rattle.oe_facts.specs.declared.tables.Table.{Table}
use Rattle.oe_fields.specs.declared.fields.Format.{Format}
use Rattle.oe_fields.specs.Parting.{fields_of}
use Rattle.oe_columns.specs.declared.headings.LayoutFault.{LayoutFault}
use Rattle.oe_columns.specs.declared.rows.Misfit.{Misfit}
use Rattle.oe_columns.specs.declared.constants.Wanted.{Wanted}
use Rattle.oe_columns.specs.Facts.{values_in}
use Rattle.oe_columns.specs.Headings.{is_heading}
use Rattle.oe_columns.specs.Prints.{print_of}
use Rattle.oe_columns.specs.Values.{Value, Placed}
use Rattle.oe_sources.specs.declared.faults.Wrong.{Wrong}
use Rattle.oe_sources.specs.declared.readings.Layout.{Layout}
use Rattle.oe_sources.specs.declared.readings.Layout.TheVariants.{Unknown, Known, Lost}
use Rattle.oe_sources.specs.declared.readings.Reading.{Reading}
use Rattle.oe_sources.specs.Fault.{in_64_bits}
use Rattle.oe_sources.specs.Reading.{Says, Nothing, fault_says, row_says, fields_at, read_row, first_reading, row_by}
use Rattle.oe_sources.specs.Reading.{row_step, first_layout, begin_by, begin_step, count_step, data_by, data_step, step}
use Rattle.oe_sources.specs.Reading.{long_by}
use Rattle.oe_sources.specs.Taken.{Spelled, rows_said}
use Rattle.oe_sources.specs.Tables.{Read, begun_read, next, all_next, file_step, table_says}
use Rattle.oe_sources.specs.Text.{text_of, is_end, count_of}

-- these rows are of that table
abbrev pub AreOf : Table → List Spelled → Type 0
AreOf t [] = Unit {0}
AreOf t (s ∷ ss) = (s.0 ≡ t) × AreOf t ss

of_both : (t : Table) (xs ys : List Spelled) → AreOf t xs → AreOf t ys → AreOf t (xs ++ ys)
of_both t [] ys h g = g
of_both t (x ∷ xs) ys h g = (h.0, of_both t xs ys h.1 g)

-- the table stays, and what is said is of it
abbrev IsOwn : Table → Reading × Says → Type 0
IsOwn t p = (p.0.table ≡ t) × AreOf t (rows_said p.1)

own_if : (t : Table) (b : Bool) (p q : Reading × Says) → IsOwn t p → IsOwn t q → IsOwn t (cond b p q)
own_if t true p q h g = h
own_if t false p q h g = g

row_own : (t : Table) (row : Placed) (print : Option ℕ) (r : Result (List Value) Misfit)
    → AreOf t (rows_said (row_says t row print r))
row_own t row print (Ok vs) = (refl, tt)
row_own t row print (Err m) = tt

read_own : (t : Table) (format : Format) (places constants text : List ℕ)
    → AreOf t (rows_said (read_row t format places constants text))
unfolding read_row
read_own t format places constants text =
    row_own t (fields_at places (fields_of format text)) (print_of t (fields_at constants (fields_of format text)))
    (values_in t (fields_at places (fields_of format text)))

by_layout : (r : Reading) (text : List ℕ) (l : Layout) → IsOwn r.table (row_by r text l)
by_layout r text (Known places constants) = (refl, read_own r.table r.format places constants text)
by_layout r text Unknown = (refl, tt)
by_layout r text Lost = (refl, tt)

step_own : (r : Reading) (text : List ℕ) → IsOwn r.table (row_step r text)
unfolding row_step
step_own r text = by_layout r text r.layout

by_heading : (r : Reading) (text : List ℕ) (heading : Bool) (l : Result Layout LayoutFault)
    → IsOwn r.table (begin_by r text heading l)
by_heading r text true (Ok l) = (refl, tt)
by_heading r text false (Ok l) = step_own (record r { layout = l }) text
by_heading r text true (Err e) = (refl, tt)
by_heading r text false (Err e) = (refl, tt)

begin_own : (r : Reading) (text : List ℕ) → IsOwn r.table (begin_step r text)
unfolding begin_step
begin_own r text =
    by_heading r text (is_heading (fields_of r.format text)) (first_layout r (fields_of r.format text))

count_says : (t : Table) (b : Bool) (w : Wrong) (text : List ℕ)
    → AreOf t (rows_said (cond b Nothing (fault_says w text)))
count_says t true w text = tt
count_says t false w text = tt

count_own : (r : Reading) (n : ℕ) (text : List ℕ) → IsOwn r.table (count_step r n text)
unfolding count_step
count_own r n text = (refl, count_says r.table (n == r.rows) _ text)

by_count : (r : Reading) (text : List ℕ) (l : Layout) (count : Option ℕ) → IsOwn r.table (data_by r text l count)
by_count r text Lost None = (refl, tt)
by_count r text Lost (Some n) = (refl, tt)
by_count r text Unknown (Some n) = count_own r n text
by_count r text Unknown None = begin_own r text
by_count r text (Known places constants) (Some n) = count_own r n text
by_count r text (Known places constants) None = step_own r text

data_own : (r : Reading) (text : List ℕ) → IsOwn r.table (data_step r text)
unfolding data_step
data_own r text = by_count r text r.layout (count_of text)

text_own : (r : Reading) (text : List ℕ) → IsOwn r.table (step r text)
unfolding step
text_own r text =
    own_if r.table (length text == 0) _ _ (refl, tt)
    (own_if r.table r.is_ended _ _ (refl, tt)
    (own_if r.table (is_end text) _ _ (refl, tt) (data_own r text)))

long_own : (t : Table) (l : Layout) → AreOf t (rows_said (long_by l))
long_own t Lost = tt
long_own t Unknown = tt
long_own t (Known places constants) = tt

line_own : (n : ℕ) (r : Reading) (line : List ℕ) → IsOwn r.table (file_step n r line)
unfolding file_step
line_own n r line =
    own_if r.table (nat_lt 65_536 (length line)) _ _ (refl, long_own r.table r.layout)
    (text_own r (text_of (n == 1) line))

lines_own : (t : Table) (r : Read) (lines : List (List ℕ)) → r.reading.table ≡ t → AreOf t r.rows
    → AreOf t (all_next file_step r lines).rows
lines_own t r [] is h = h
lines_own t r (line ∷ lines) is h =
    let own = line_own (in_64_bits (r.count + 1)) r.reading line in
    let said = (file_step (in_64_bits (r.count + 1)) r.reading line).1 in
    lines_own t (next file_step r line) lines (own.0 ∙ is)
    (of_both t r.rows (rows_said said) h (subst (λ u. AreOf u (rows_said said)) is own.1))

pub table_own : (t : Table) (wanted : Wanted) (format : Format) (lines : List (List ℕ))
    → AreOf t (table_says t wanted format lines).rows
table_own t wanted format lines = lines_own t (begun_read (first_reading t wanted format) 0) lines refl tt
