use Rattle.std.proofs.Common.{◌≡◌, length, map, Some, sym, ap, ◌∙◌, arith}
use Rattle.std.specs.Fmt.{decimal}
use Rattle.std.proofs.lemmas.List.{length-map}
use Rattle.oe_numbers.proofs.NumberFacts.{four}
use Rattle.oe_numbers.proofs.drives.FollowingNumbers.read.Goals as goal

pub returns : goal.returns
returns g c =
    let extents = c.in_ok-extents.ensures.some in
    let terminals = c.in_ok-terminals.ensures.some in
    let requests = c.in_ok-requests.ensures.some in
    let seed = c.in_ok-seed.ensures.some in
    let high = c.get.ensures.high in
    let four_words = c.if-words-ne4.false in
    let long : length (map g.S.AsStr.text c.args.words.now) ≡ 4 = omega
    (arith, length-map c.args.words.now g.S.AsStr.text, four_words) in (
      (extents.0, terminals.0, requests.0, omega (arith, high)),
      four _ _ _ _ _ long extents.1 terminals.1 requests.1
          (seed.1 ∙ ap (λ n. Some (decimal n)) (sym c.get.ensures.value)),
    )
