-- What a command tells on standard error of its answer; but for the line that names a fault or a file, which no
-- clause sees.
use Rattle.std.specs.Prelude.{ℕ, List, flat_map, Option, None, Some, Result, Ok, Err, unwrap_or}
use Rattle.oe_comparison.specs.Faults as table_lines
use Rattle.oe_comparison.specs.declared.runs.Verdict as comparison
use Rattle.oe_comparison.specs.declared.runs.Verdict.TheVariants as compared
use Rattle.oe_comparison.specs.declared.runs.ComparisonFault.{ComparisonFault}
use Rattle.oe_fields.specs.declared.fields.Format.{Format}
use Rattle.oe_fields.specs.declared.fields.Format.TheVariants.{Tabs}
use Rattle.oe_file_audit.specs.declared.faults.Side.TheVariants as side
use Rattle.oe_file_audit.specs.Faults as audit_lines
use Rattle.oe_file_audit.specs.declared.audits.Verdict as audit
use Rattle.oe_file_audit.specs.declared.audits.Verdict.TheVariants as audited
use Rattle.oe_file_audit.specs.declared.audits.AuditFault.{AuditFault}
use Rattle.oe_from.specs.Gaps.{gap_line}
use Rattle.oe_from.specs.declared.loads.FollowingFault.{FollowingFault}
use Rattle.oe_from.specs.declared.loads.FollowingFault.TheVariants as following
use Rattle.oe_from.specs.declared.scripts.OpenedFault.{OpenedFault}
use Rattle.oe_from.specs.declared.serials.FromFault.{FromFault}
use Rattle.oe_from.specs.declared.serials.FromFault.TheVariants as from_fault
use Rattle.oe_file_loading.specs.declared.loading.LoadError.TheVariants as load_error
use Rattle.oe_origin.specs.Texts as origin_lines
use Rattle.oe_origin.specs.declared.populations.NoPopulation.{NoPopulation}
use Rattle.oe_origin.specs.declared.populations.NoPopulation.TheVariants as no_population
use Rattle.oe_file_serial.specs.BadTexts.{bad_lines_text}
use Rattle.oe_file_serial.specs.declared.verdicts.Verdict as serial
use Rattle.oe_file_serial.specs.declared.verdicts.Verdict.TheVariants as decided
use Rattle.oe_file_serial.specs.declared.reports.SerialFault.{SerialFault}

abbrev pub verdict_note : serial.Verdict → Option (List ℕ)
verdict_note (decided.Serial n) = None
verdict_note (decided.Differs number theirs last) = None
verdict_note (decided.Unreadable bad) = Some (bad_lines_text bad)

abbrev pub comparison_verdict_note : comparison.Verdict → Option (List ℕ)
comparison_verdict_note (compared.Replies v) = verdict_note v
comparison_verdict_note compared.Same = None
comparison_verdict_note (compared.Differs count) = None
comparison_verdict_note (compared.Unreadable faults) = Some (table_lines.faults_text faults)

-- the fields of a folder's files have a format, which a likely cause speaks of; a dump's have none, and earlier files
-- have tabs where a dump is audited
abbrev pub audit_verdict_note : Option Format → audit.Verdict → Option (List ℕ)
audit_verdict_note format audited.Holds = None
audit_verdict_note format audited.Fails = None
audit_verdict_note format (audited.Unreadable faults) =
    Some (flat_map (audit_lines.source_text side.Now format) faults.items)
audit_verdict_note format (audited.UnreadableBefore faults) =
    Some (flat_map (audit_lines.source_text side.Before (Some (unwrap_or format Tabs))) faults.items)
audit_verdict_note format (audited.Lacking lack) = Some (audit_lines.lack_line lack)

abbrev pub no_population_note : NoPopulation → Option (List ℕ)
no_population_note (no_population.Lacks lack) = Some (origin_lines.lack_line lack)
no_population_note (no_population.Unloaded (load_error.Unreadable faults)) = Some (table_lines.faults_text faults)
no_population_note (no_population.Unloaded (load_error.Stopped stop)) = None

abbrev pub script_from_note : Result (Unit {0}) (FromFault OpenedFault) → Option (List ℕ)
script_from_note (Ok x) = None
script_from_note (Err (from_fault.NoPopulation error)) = no_population_note error
script_from_note (Err (from_fault.Fault fault)) = None

abbrev pub following_note : Result (Unit {0}) (FromFault FollowingFault) → Option (List ℕ)
following_note (Ok x) = None
following_note (Err (from_fault.NoPopulation error)) = no_population_note error
following_note (Err (from_fault.Fault (following.NoScale gap))) = Some (gap_line gap)
following_note (Err (from_fault.Fault (following.Load fault))) = None

abbrev pub serial_note : Result serial.Verdict SerialFault → Option (List ℕ)
serial_note (Ok verdict) = verdict_note verdict
serial_note (Err fault) = None

abbrev pub serial_from_note : Result serial.Verdict (FromFault SerialFault) → Option (List ℕ)
serial_from_note (Ok verdict) = verdict_note verdict
serial_from_note (Err (from_fault.NoPopulation error)) = no_population_note error
serial_from_note (Err (from_fault.Fault fault)) = None

abbrev pub comparison_note : Result comparison.Verdict ComparisonFault → Option (List ℕ)
comparison_note (Ok verdict) = comparison_verdict_note verdict
comparison_note (Err fault) = None

abbrev pub comparison_from_note : Result comparison.Verdict (FromFault ComparisonFault) → Option (List ℕ)
comparison_from_note (Ok verdict) = comparison_verdict_note verdict
comparison_from_note (Err (from_fault.NoPopulation error)) = no_population_note error
comparison_from_note (Err (from_fault.Fault fault)) = None

abbrev pub audit_note : Option Format → Result audit.Verdict AuditFault → Option (List ℕ)
audit_note format (Ok verdict) = audit_verdict_note format verdict
audit_note format (Err fault) = None
