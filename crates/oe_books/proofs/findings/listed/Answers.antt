use Rattle.std.proofs.Common.{◌≡◌, ◌∙◌, ap, map, subst}
use Rattle.std.specs.Prelude.{IfOk}
use Rattle.oe_tally.specs.Walks.{AreAll}
use Rattle.oe_books.specs.Found.{Lists, finding_of}
use Rattle.oe_books.proofs.FoundFacts.{if_ok}
use Rattle.oe_books.proofs.findings.listed.Goals as goal

pub returns-in-Ok : goal.returns-in-Ok
returns-in-Ok g c cmp same wrong h =
    let numbers = g.K.RowKey.numbers in
    let all = subst (λ r. IfOk r (λ es. AreAll cmp same wrong es.items)) c.in-Ok.is h in
    if_ok (λ found. found.items ≡ map (finding_of numbers) c.deref.result.now)
    (λ found. Lists numbers cmp same wrong found.items) c.shown.result (λ found e. record {
      entries = c.in-Ok.entries.items;
      are_all = all;
      found_are = e ∙ ap (map (finding_of numbers)) c.deref.ensures.value;
    }) c.shown.ensures
