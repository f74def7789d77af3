use Rattle.oe_fact_laws.proofs.ConditionTies as rows
use Rattle.oe_fact_laws.proofs.GroupTies as groups
use Rattle.oe_fact_laws.proofs.LineTies as lines
use Rattle.oe_fact_laws.proofs.AccountTies as accounts
use Rattle.oe_fact_laws.proofs.conditions_are_checked.Goals as goal

pub returns : goal.returns
returns c = record {
  condition_1 = rows.condition_1;
  condition_2 = groups.condition_2;
  condition_3 = groups.condition_3;
  condition_4 = rows.condition_4;
  condition_5 = rows.condition_5;
  condition_6 = rows.condition_6;
  condition_7 = lines.condition_7;
  condition_8 = rows.condition_8;
  condition_9 = rows.condition_9;
  condition_10 = accounts.condition_10;
  condition_12 = accounts.condition_12;
}
