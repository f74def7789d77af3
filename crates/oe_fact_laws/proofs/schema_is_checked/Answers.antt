use Rattle.oe_fact_laws.proofs.ReferenceTies as ties
use Rattle.oe_fact_laws.proofs.schema_is_checked.Goals as goal

pub returns : goal.returns
returns c = record { references = ties.schema; stocked = ties.stocks_checked; keys = ties.keys }
