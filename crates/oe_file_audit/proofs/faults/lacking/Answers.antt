use Rattle.std.proofs.Common.{◌++◌, sym, ap, ◌∙◌, append_assoc}
use Rattle.std.specs.Prelude.{codes}
use Rattle.oe_facts.specs.Table.{name_of}
use Rattle.oe_file_audit.specs.Faults.{lack_line}
use Rattle.oe_file_audit.proofs.faults.lacking.Goals as goal

pub returns-in-Room : goal.returns-in-Room
returns-in-Room c =
    let out = c.args.out.now.items in
    let says = codes ": more than 4294967295 rows\n" in
    c.text-in-Room-2.ensures.items
    ∙ ap (λ o. o ++ says) (c.text-in-Room.ensures.items
    ∙ ap (λ n. out ++ n) (c.as_bytes-in-Room.ensures.value ∙ c.name-in-Room.ensures))
    ∙ append_assoc out (name_of c.in-Room.table) says ∙ ap (λ l. out ++ lack_line l) (sym c.in-Room.is)

pub returns-in-Initial : goal.returns-in-Initial
returns-in-Initial c =
    c.text-in-Initial.ensures.items ∙ ap (λ l. c.args.out.now.items ++ lack_line l) (sym c.in-Initial.is)
