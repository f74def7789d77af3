-- What the options of a command line come to.
use Rattle.std.specs.Prelude.{if◌then◌else◌}
use Rattle.oe_audit_report.specs.declared.forms.Form.TheVariants as report_form
use Rattle.oe_fields.specs.declared.fields.Format as fields
use Rattle.oe_fields.specs.declared.fields.Format.TheVariants as field
use Rattle.oe_file_audit.specs.declared.audits.Options.{Options}
use Rattle.oe_file_tables.specs.declared.formats.Format as rows
use Rattle.oe_file_tables.specs.declared.formats.Format.TheVariants as row
use Rattle.oe_from.specs.declared.loads.Following.{Following}
use Rattle.oe_numbers.specs.declared.drives.FollowingNumbers.{FollowingNumbers}
use Rattle.oe_numbers.specs.declared.drives.LoadNumbers.{LoadNumbers}
use Rattle.oe_terms.specs.declared.plans.Plan.{Plan}
use Rattle.oe_command_line.specs.declared.options.AuditOptions.{AuditOptions}
use Rattle.oe_command_line.specs.declared.options.LoadOptions.{LoadOptions}
use Rattle.oe_command_line.specs.declared.options.Separator.{Separator}
use Rattle.oe_command_line.specs.declared.options.Separator.TheVariants as separator

-- files whose rows are compared or loaded
abbrev pub row_format : Separator → rows.Format
row_format separator.Tabs = row.Dump
row_format separator.Commas = row.Csv

-- files that are audited
abbrev pub field_format : Separator → fields.Format
field_format separator.Tabs = field.Tabs
field_format separator.Commas = field.Commas

-- an audit
abbrev pub audit_options : AuditOptions → Options
audit_options a = record {
  initial = a.initial;
  first = a.first;
  form = (if a.is_json then report_form.Json else report_form.Text);
}

-- a load on the population of its scale, and on tables that are there
abbrev pub plan_of : LoadNumbers → LoadOptions → Plan
plan_of n o = record { numbers = n; first = o.first; kinds = o.kinds; items = o.items }

abbrev pub following_of : FollowingNumbers → LoadOptions → Following
following_of n o = record { numbers = n; first = o.first; kinds = o.kinds; items = o.items }
