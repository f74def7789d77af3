-- What an audit of rows finds.
use Rattle.oe_requests.specs.declared.audits.Condition.{Condition}
use Rattle.oe_requests.specs.declared.audits.Verdict.{Verdict}
use Rattle.oe_model.specs.Audits as model
use Rattle.std.specs.Prelude.{◌≡◌}
use Rattle.oe_model.specs.Rows.{Rows}
use Rattle.oe_machine.specs.Verdict.{condition_of, verdict_of}
use Rattle.oe_model.specs.Conditions.{Condition_1, Condition_2, Condition_3, Condition_4}

-- the verdict is what the model finds of these rows
abbrev pub IsVerdict : model.Condition → Rows → Verdict → Type 0
IsVerdict c r v = verdict_of v ≡ model.verdict c r

abbrev pub IsAudited : Condition → Rows → Verdict → Type 0
IsAudited c r v = IsVerdict (condition_of c) r v

-- conditions 1 to 4 hold (clauses 3.3.2.1 to 3.3.2.4)
pub record AreMet (r : Rows) : Type 0 where
  pub first : Condition_1 r
  pub second : Condition_2 r
  pub third : Condition_3 r
  pub fourth : Condition_4 r
