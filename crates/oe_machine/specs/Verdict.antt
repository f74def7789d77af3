-- A condition and a verdict of the steps, as the model's.
use Rattle.oe_requests.specs.declared.audits.Condition.{Condition}
use Rattle.oe_requests.specs.declared.audits.Condition.TheVariants as condition
use Rattle.oe_requests.specs.declared.audits.Verdict.{Verdict}
use Rattle.oe_requests.specs.declared.audits.Verdict.TheVariants as told
use Rattle.oe_model.specs.Audits as model

-- the condition that is audited
abbrev pub condition_of : Condition → model.Condition
condition_of condition.First = model.First
condition_of condition.Second = model.Second
condition_of condition.Third = model.Third
condition_of condition.Fourth = model.Fourth
condition_of condition.Fifth = model.Fifth
condition_of condition.Sixth = model.Sixth
condition_of condition.Seventh = model.Seventh
condition_of condition.Eighth = model.Eighth
condition_of condition.Ninth = model.Ninth
condition_of condition.Tenth = model.Tenth
condition_of condition.Twelfth = model.Twelfth

-- what the audit found
abbrev pub verdict_of : Verdict → model.Verdict
verdict_of told.Holds = model.Holds
verdict_of (told.Fails k) = model.Fails k
