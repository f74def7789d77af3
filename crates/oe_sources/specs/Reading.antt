-- How the rows of one table are read, line by line.
use Rattle.std.specs.Prelude.{ℕ, ◌+◌, ◌==◌, Bool, true, false, List, [], take, length, Option, Some, None}
use Rattle.std.specs.Prelude.{Result, Ok, Err, if◌then◌else◌}
use Rattle.oe_facts.specs.declared.tables.Table.{Table}
use Rattle.oe_facts.specs.declared.tables.Table.TheVariants.{Warehouse}
use Rattle.oe_facts.specs.Table.{table_of}
use Rattle.oe_fields.specs.declared.fields.Format.{Format}
use Rattle.oe_fields.specs.declared.fields.Format.TheVariants.{Tabs}
use Rattle.oe_fields.specs.Parting.{fields_of}
use Rattle.oe_columns.specs.declared.headings.LayoutFault.{LayoutFault}
use Rattle.oe_columns.specs.declared.rows.Misfit.{Misfit}
use Rattle.oe_columns.specs.Facts.{values_in, fact_values}
use Rattle.oe_columns.specs.declared.constants.Wanted.{Wanted}
use Rattle.oe_columns.specs.Constants.{constants_in, wanted_constants}
use Rattle.oe_columns.specs.Headings.{is_heading, layout_of}
use Rattle.oe_columns.specs.Prints.{print_of}
use Rattle.oe_columns.specs.Values.{Value, Placed, field_at}
use Rattle.oe_sources.specs.declared.faults.Wrong.{Wrong}
use Rattle.oe_sources.specs.declared.faults.Wrong.TheVariants as wrong
use Rattle.oe_sources.specs.declared.readings.Layout.{Layout}
use Rattle.oe_sources.specs.declared.readings.Layout.TheVariants.{Unknown, Known, Lost}
use Rattle.oe_sources.specs.declared.readings.Reading.{Reading}
use Rattle.oe_sources.specs.declared.readings.Said.{Said}
use Rattle.oe_sources.specs.declared.readings.Said.TheVariants as said
use Rattle.oe_sources.specs.Fault.{in_64_bits}
use Rattle.oe_sources.specs.Text.{is_end, count_of}

-- what a line says: nothing that is kept, a row of the table with these values and this print, or a fault with a text
pub data Says : Type 0 where
  Nothing : Says
  Row : Table → List Value → Option ℕ → Says
  Fault : Wrong → List ℕ → Says

-- a row says its table, its values, and its print
abbrev pub says : Said → Says
says said.Nothing = Nothing
says (said.Row r) = Row (table_of r.fact) (fact_values r.fact) r.print
says (said.Fault w t) = Fault w t

-- a fault shows the first 40 bytes
abbrev pub fault_says : Wrong → List ℕ → Says
fault_says w text = Fault w (take 40 text)

abbrev pub shown_of : Option (List ℕ) → List ℕ
shown_of None = []
shown_of (Some field) = field

-- the column that has no value, with its field
abbrev pub misfit_says : Placed → Misfit → Says
misfit_says row m = fault_says (wrong.Misfit m) (shown_of (field_at row m.column))

abbrev pub row_says : Table → Placed → Option ℕ → Result (List Value) Misfit → Says
row_says t row print (Ok vs) = Row t vs print
row_says t row print (Err m) = misfit_says row m

abbrev pub fields_at : List ℕ → List (List ℕ) → Placed
fields_at places fields = record { places = places; fields = fields }

-- the values of the columns at these places and the print of those that no transaction changes, or the first column
-- that has no value
unfoldable pub read_row : Table → Format → (places constants : List ℕ) → List ℕ → Says
read_row t format places constants text =
    row_says t (fields_at places (fields_of format text)) (print_of t (fields_at constants (fields_of format text)))
    (values_in t (fields_at places (fields_of format text)))

abbrev pub begun_at : Table → Wanted → Format → Layout → Reading
begun_at t wanted format layout =
    record { table = t; wanted = wanted; format = format; layout = layout; rows = 0; is_ended = false }

-- nothing is read yet
abbrev pub first_reading : Table → Wanted → Format → Reading
first_reading t wanted format = begun_at t wanted format Unknown

-- no rows are read
abbrev pub between : Wanted → Reading
between wanted =
    record { table = Warehouse; wanted = wanted; format = Tabs; layout = Lost; rows = 0; is_ended = true }

abbrev pub row_by : Reading → List ℕ → Layout → Reading × Says
row_by r text (Known places constants) =
    (record r { rows = in_64_bits (r.rows + 1) }, read_row r.table r.format places constants text)
row_by r text layout = (r, Nothing)

-- a row, where the places of the columns are known
unfoldable pub row_step : Reading → List ℕ → Reading × Says
row_step r text = row_by r text r.layout

-- where both stand, or why one does not
abbrev pub known_by : Result (List ℕ) LayoutFault → Result (List ℕ) LayoutFault → Result Layout LayoutFault
known_by (Err e) constants = Err e
known_by (Ok places) (Err e) = Err e
known_by (Ok places) (Ok constants) = Ok (Known places constants)

-- where the columns stand, by the fields of the first line
abbrev pub first_layout : Reading → List (List ℕ) → Result Layout LayoutFault
first_layout r fields =
    known_by (layout_of r.table fields) (wanted_constants r.wanted (constants_in r.table fields))

abbrev pub begin_by : Reading → List ℕ → (heading : Bool) → Result Layout LayoutFault → Reading × Says
begin_by r text heading (Err e) = (record r { layout = Lost }, fault_says (wrong.Layout e) text)
begin_by r text true (Ok layout) = (record r { layout = layout }, Nothing)
begin_by r text false (Ok layout) = row_step (record r { layout = layout }) text

-- the first line: a heading, or a row
unfoldable pub begin_step : Reading → List ℕ → Reading × Says
begin_step r text =
    let fields = fields_of r.format text in
    begin_by r text (is_heading fields) (first_layout r fields)

-- the count of the rows, which ends them
unfoldable pub count_step : Reading → ℕ → List ℕ → Reading × Says
count_step r n text =
    (record r { is_ended = true }, if n == r.rows then Nothing else fault_says (wrong.Miscount n) text)

abbrev pub data_by : Reading → List ℕ → Layout → Option ℕ → Reading × Says
data_by r text Lost count = (r, Nothing)
data_by r text Unknown (Some n) = count_step r n text
data_by r text Unknown None = begin_step r text
data_by r text (Known places constants) (Some n) = count_step r n text
data_by r text (Known places constants) None = row_step r text

-- a line that is neither blank nor the end: a count, the first line, or a row
unfoldable pub data_step : Reading → List ℕ → Reading × Says
data_step r text = data_by r text r.layout (count_of text)

-- the next line: blank, behind the end, the end, or else
unfoldable pub step : Reading → List ℕ → Reading × Says
step r text =
    if length text == 0 then (r, Nothing)
    else if r.is_ended then (r, fault_says wrong.PastEnd text)
    else if is_end text then (record r { is_ended = true }, Nothing)
    else data_step r text

abbrev pub long_by : Layout → Says
long_by Lost = Nothing
long_by Unknown = fault_says wrong.TooLong []
long_by (Known places constants) = fault_says wrong.TooLong []

-- the next line, which is too long
abbrev pub long_says : Reading → Says
long_says r = long_by r.layout
