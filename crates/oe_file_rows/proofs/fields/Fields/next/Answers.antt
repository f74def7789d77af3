use Rattle.std.proofs.Common.{ℕ, ◌+◌, List, ap, ◌∙◌, []}
use Rattle.std.proofs.lemmas.List.{take_rest}
use Rattle.oe_file_rows.specs.Line.{fields_of}
use Rattle.oe_file_rows.proofs.FieldFacts.{alone, parted, taken_value, taken_left, held}
use Rattle.oe_file_rows.proofs.fields.Fields.next.Goals as goal

pub returns-in-Some-clause-value : goal.returns-in-Some-clause-value
returns-in-Some-clause-value c =
    let s = c.in_ok-rest.rest.now in
    let l = held c.args.self.now c.self.inside.column c.self.inside.rest c.in_ok-rest.rest c.self.view_is
    c.in_ok-rest.was in
    taken_value c.args.self.now c.self.inside.column s _ _ l (parted s c.in-Some.end c.in-Some.ensures)

pub returns-in-Some-clause-left : goal.returns-in-Some-clause-left
returns-in-Some-clause-left c =
    let s = c.in_ok-rest.rest.now in
    let l = held c.args.self.now c.self.inside.column c.self.inside.rest c.in_ok-rest.rest c.self.view_is
    c.in_ok-rest.was in
    ap (λ (z : List ℕ). record { column = c.self.inside.column + 1; fields = fields_of z })
    (take_rest s (c.in-Some.end + 1))
    ∙ taken_left c.args.self.now c.self.inside.column s _ _ l (parted s c.in-Some.end c.in-Some.ensures)

pub returns-in-None-clause-value : goal.returns-in-None-clause-value
returns-in-None-clause-value c =
    let s = c.in_ok-rest.rest.now in
    let l = held c.args.self.now c.self.inside.column c.self.inside.rest c.in_ok-rest.rest c.self.view_is
    c.in_ok-rest.was in
    taken_value c.args.self.now c.self.inside.column s s [] l (alone s c.in-None.ensures)

pub returns-in-None-clause-left : goal.returns-in-None-clause-left
returns-in-None-clause-left c =
    let s = c.in_ok-rest.rest.now in
    let l = held c.args.self.now c.self.inside.column c.self.inside.rest c.in_ok-rest.rest c.self.view_is
    c.in_ok-rest.was in
    taken_left c.args.self.now c.self.inside.column s s [] l (alone s c.in-None.ensures)
