-- The numbers of the consistency conditions (clauses 3.3.2.1 to 3.3.2.10 and 3.3.2.12).
use Rattle.std.specs.Prelude.{ℕ}
use Rattle.oe_requests.specs.declared.audits.Condition.{Condition}
use Rattle.oe_requests.specs.declared.audits.Condition.TheVariants as condition

abbrev pub condition_number : Condition → ℕ
condition_number condition.First = 1
condition_number condition.Second = 2
condition_number condition.Third = 3
condition_number condition.Fourth = 4
condition_number condition.Fifth = 5
condition_number condition.Sixth = 6
condition_number condition.Seventh = 7
condition_number condition.Eighth = 8
condition_number condition.Ninth = 9
condition_number condition.Tenth = 10
condition_number condition.Twelfth = 12
