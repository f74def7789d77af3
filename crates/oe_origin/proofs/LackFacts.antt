-- Verdicts as what tables lack.
use Rattle.std.proofs.Common.{sym}
use Rattle.oe_requests.specs.declared.audits.Condition.{Condition}
use Rattle.oe_requests.specs.declared.audits.Verdict.TheVariants as told
use Rattle.oe_rows.specs.declared.keys.Key.{Key}
use Rattle.oe_machine.specs.Verdict.{condition_of}
use Rattle.oe_audit.specs.Verdict.{IsAudited}
use Rattle.oe_model.specs.Rows.{Rows}
use Rattle.oe_model.specs.Verdicts.{IsMet, IsFirstRow}
use Rattle.oe_model.proofs.VerdictFacts.{verdicts_are_exact}
use Rattle.oe_file_tables.specs.declared.formats.Format.{Format}
use Rattle.oe_file_loading.specs.Loading.{Nine}
use Rattle.oe_file_loading.specs.Whole.{AreWhole}
use Rattle.oe_origin.specs.declared.lacks.Lack.{Lack}
use Rattle.oe_origin.specs.declared.lacks.Lack.TheVariants as lack
use Rattle.oe_origin.specs.Lacks.{Lacks}
use Rattle.oe_origin.specs.Populations.{LacksOf}

pub holds_met : (c : Condition) (r : Rows) → IsAudited c r told.Holds → IsMet (condition_of c) r
holds_met c r e = (verdicts_are_exact.holds (condition_of c) r).0 (sym e)

pub fails_first : (c : Condition) (r : Rows) (k : Key) → IsAudited c r (told.Fails k) → IsFirstRow (condition_of c) r k
fails_first c r k e = (verdicts_are_exact.fails (condition_of c) r k).0 (sym e)

-- what tables lack whose rows are exactly those of files
pub lacks_of : (format : Format) (old new : Nine) (r : Rows) (l : Lack) → AreWhole format old new r → Lacks r l
    → LacksOf format old new l
lacks_of format old new r (lack.Row a) whole l = absurd l
lacks_of format old new r (lack.Condition c k) whole l = (r, whole, l)
lacks_of format old new r (lack.Stock k) whole l = (r, whole, l)
