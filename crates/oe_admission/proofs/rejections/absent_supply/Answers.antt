use Rattle.std.proofs.Common.{◌≡◌, ℕ, ◌+◌, ◌<◌, List, ◌∷◌, map, length, drop, get_or, sym, ap, ◌∙◌, arith}
use Rattle.std.proofs.lemmas.List.{at_drop_more}
use Rattle.oe_requests.specs.declared.requests.RequestLine.{RequestLine}
use Rattle.oe_model.specs.Rows.{Rows}
use Rattle.oe_model.specs.Requests.{first_absent}
use Rattle.oe_admission.proofs.RejectionFacts.{first_of, first_after}
use Rattle.oe_admission.proofs.rejections.absent_supply.Goals as goal

-- the lines that are left begin with this one
left : (ls : List RequestLine) (i : ℕ) (x : RequestLine) (r : Rows) → i < length ls → x ≡ get_or ls i x
    → first_absent (map (λ l. l.supply) (drop i ls)) r ≡ first_absent (x.supply ∷ map (λ l. l.supply) (drop (i + 1) ls))
    r
left ls i x r h e =
    at_drop_more (λ (xs : List RequestLine). first_absent (map (λ l. l.supply) xs) r) ls i x h
    ∙ ap (λ (l : RequestLine). first_absent (l.supply ∷ map (λ l. l.supply) (drop (i + 1) ls)) r) (sym e)

pub returns-in-Some : goal.returns-in-Some
returns-in-Some c =
    let room : c.loop-line.line-index < length c.args.lines.now = omega arith in
    sym (c.loop-line.invariant
    ∙ (left c.args.lines.now c.loop-line.line-index c.line-item.result _ room c.line-item.is
    ∙ first_of c.line-item.result.supply _ _ c.in-Some.refusal c.in-Some.ensures))

pub loop-line-preserved : goal.loop-line-preserved
loop-line-preserved c =
    let room : c.loop-line.line-index < length c.args.lines.now = omega arith in
    c.loop-line.invariant
    ∙ (left c.args.lines.now c.loop-line.line-index c.line-item.result _ room c.line-item.is
    ∙ first_after c.line-item.result.supply _ _ c.in_default.ensures)
