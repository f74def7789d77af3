use Rattle.std.proofs.Common.{◌≡◌, sym, ap, ◌∙◌, subst, ◌≤◌, length, map}
use Rattle.std.proofs.lemmas.Bool.{ltb-true}
use Rattle.oe_columns.specs.Constants.{constant_names}
use Rattle.oe_file_audit.specs.Faults.{name_or}
use Rattle.oe_file_audit.proofs.FaultFacts.{constant_found, constant_short}
use Rattle.oe_file_audit.proofs.faults.constant_name.Goals as goal

pub returns-in-Some : goal.returns-in-Some
returns-in-Some c =
    let column = c.in-Some.found.now in
    let looked = c.in-Some.ensures.lookup in
    let value : column.name.now ≡ name_or (constant_names c.args.table) c.args.column =
    constant_found c.constant_columns.result.now c.args.column column (ltb-true _ _ (sym looked.0)) looked.1
    ∙ ap (λ cs. name_or (map (λ p. p.0) cs) c.args.column) c.constant_columns.ensures.value in
    record {
      value = value;
      most = subst (λ t. length t ≤ 20) (sym value) (constant_short c.args.table c.args.column);
    }
