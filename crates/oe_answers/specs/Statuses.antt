-- The exit status of each command, by what it came to.
use Rattle.std.specs.Prelude.{ℕ, Result, Ok, Err}
use Rattle.oe_comparison.specs.Runs as compared
use Rattle.oe_comparison.specs.declared.runs.Verdict as comparison
use Rattle.oe_comparison.specs.declared.runs.ComparisonFault.{ComparisonFault}
use Rattle.oe_comparison.specs.declared.runs.ComparisonFault.TheVariants as compared_fault
use Rattle.oe_file_audit.specs.Audits as audited
use Rattle.oe_file_audit.specs.declared.audits.Verdict as audit
use Rattle.oe_file_audit.specs.declared.audits.AuditFault.{AuditFault}
use Rattle.oe_file_audit.specs.declared.audits.AuditFault.TheVariants as audit_fault
use Rattle.oe_file_audit.specs.declared.reading.Unread.{Unread}
use Rattle.oe_filelines.specs.declared.lines.Stop as source
use Rattle.oe_filelines.specs.declared.lines.Stop.TheVariants as source_stop
use Rattle.oe_from.specs.declared.loads.FollowingFault.{FollowingFault}
use Rattle.oe_from.specs.declared.loads.FollowingFault.TheVariants as following
use Rattle.oe_from.specs.declared.scripts.OpenedFault.{OpenedFault}
use Rattle.oe_from.specs.declared.serials.FromFault.{FromFault}
use Rattle.oe_from.specs.declared.serials.FromFault.TheVariants as from_fault
use Rattle.oe_load.specs.declared.loads.LoadFault.{LoadFault}
use Rattle.oe_file_loading.specs.declared.loading.LoadError.TheVariants as load_error
use Rattle.oe_origin.specs.declared.populations.NoPopulation.{NoPopulation}
use Rattle.oe_origin.specs.declared.populations.NoPopulation.TheVariants as no_population
use Rattle.oe_file_tables.specs.declared.lines.Stop.{Stop}
use Rattle.oe_file_tables.specs.declared.lines.Stop.TheVariants as stop
use Rattle.oe_script.specs.declared.session.ScriptFault.{ScriptFault}
use Rattle.oe_file_serial.specs.Verdicts as decided
use Rattle.oe_file_serial.specs.declared.verdicts.Verdict as serial
use Rattle.oe_file_serial.specs.declared.reports.SerialFault.{SerialFault}
use Rattle.oe_answers.specs.Endings.{fault_status}
use Rattle.oe_answers.specs.declared.endings.Aim.{Aim}
use Rattle.oe_answers.specs.declared.endings.Aim.TheVariants as aim

-- a script: 0 at its end, whatever the answers
abbrev pub script_status : Result (Unit {0}) ScriptFault → ℕ
script_status (Ok x) = 0
script_status (Err fault) = 1

-- a load: 0 where it was written whole
abbrev pub load_status : Result (Unit {0}) LoadFault → ℕ
load_status (Ok x) = 0
load_status (Err fault) = 1

-- nine files that were not read to their ends: a want of memory is a fault, and a file that can't be read is none
abbrev pub stop_status : Aim → Stop → ℕ
stop_status a stop.NoMemory = fault_status a
stop_status a (stop.Read table) = 2

-- files that are no population
abbrev pub no_population_status : Aim → NoPopulation → ℕ
no_population_status a (no_population.Lacks lack) = 2
no_population_status a (no_population.Unloaded (load_error.Unreadable faults)) = 2
no_population_status a (no_population.Unloaded (load_error.Stopped stop)) = stop_status a stop

-- a script that begins with a population
abbrev pub script_from_status : Result (Unit {0}) (FromFault OpenedFault) → ℕ
script_from_status (Ok x) = 0
script_from_status (Err (from_fault.NoPopulation error)) = no_population_status aim.Answers error
script_from_status (Err (from_fault.Fault fault)) = 1

-- a load on a folder's tables: 2 where they lack something of a load
abbrev pub following_status : Result (Unit {0}) (FromFault FollowingFault) → ℕ
following_status (Ok x) = 0
following_status (Err (from_fault.NoPopulation error)) = no_population_status aim.Answers error
following_status (Err (from_fault.Fault (following.NoScale gap))) = 2
following_status (Err (from_fault.Fault (following.Load fault))) = 1

-- a file of replies: its verdict's status, and 3 without memory, extents or output
abbrev pub serial_status : Result serial.Verdict SerialFault → ℕ
serial_status (Ok verdict) = decided.status_of verdict
serial_status (Err fault) = 3

abbrev pub serial_from_status : Result serial.Verdict (FromFault SerialFault) → ℕ
serial_from_status (Ok verdict) = decided.status_of verdict
serial_from_status (Err (from_fault.NoPopulation error)) = no_population_status aim.Judges error
serial_from_status (Err (from_fault.Fault fault)) = 3

-- its tables beside files: the verdict's status
abbrev pub comparison_fault_status : ComparisonFault → ℕ
comparison_fault_status (compared_fault.Short shortage) = 3
comparison_fault_status (compared_fault.Stopped stop) = stop_status aim.Judges stop
comparison_fault_status compared_fault.Write = 3

abbrev pub comparison_status : Result comparison.Verdict ComparisonFault → ℕ
comparison_status (Ok verdict) = compared.status_of verdict
comparison_status (Err fault) = comparison_fault_status fault

abbrev pub comparison_from_status : Result comparison.Verdict (FromFault ComparisonFault) → ℕ
comparison_from_status (Ok verdict) = compared.status_of verdict
comparison_from_status (Err (from_fault.NoPopulation error)) = no_population_status aim.Judges error
comparison_from_status (Err (from_fault.Fault fault)) = comparison_fault_status fault

-- an audit: its verdict's status, and 3 without memory or output
abbrev pub source_status : source.Stop → ℕ
source_status source_stop.NoMemory = 3
source_status (source_stop.Read cause) = 2

abbrev pub unread_status : Unread → ℕ
unread_status unread = source_status unread.stop

abbrev pub audit_status : Result audit.Verdict AuditFault → ℕ
audit_status (Ok verdict) = audited.status_of verdict
audit_status (Err (audit_fault.Unread unread)) = unread_status unread
audit_status (Err (audit_fault.UnreadBefore unread)) = unread_status unread
audit_status (Err audit_fault.NoMemory) = 3
audit_status (Err audit_fault.Write) = 3
