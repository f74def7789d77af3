use Rattle.oe_model.proofs.RowFacts.{in_layout_key, in_layout_before, at_put_back, in_layout_made, in_layout_redoes}
use Rattle.oe_model.proofs.RowFacts.{undone}
use Rattle.oe_model.proofs.records_undo.Goals as goal

pub returns : goal.returns
returns c = record {
  key = in_layout_key;
  before = in_layout_before;
  at_put_back = at_put_back;
  made = in_layout_made;
  redoes = in_layout_redoes;
  undone = undone;
}
