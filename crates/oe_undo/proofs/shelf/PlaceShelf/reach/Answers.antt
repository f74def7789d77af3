use Rattle.std.proofs.Common.{◌≡◌, ◌+◌, ◌-◌, ◌/◌, ◌∙◌, ap, sym, arith, length}
use Rattle.oe_undo.specs.Shelf.{spread}
use Rattle.oe_undo.specs.ShelfPieces.{content_of}
use Rattle.oe_undo.proofs.SpreadFacts.{spread-enough, spread_length}
use Rattle.oe_undo.proofs.ByNumberFacts.{length-by_number, by_number_more}
use Rattle.oe_undo.proofs.ShelfPieceFacts.{fits, spread_content, spread_pieces}
use Rattle.oe_undo.proofs.shelf.PlaceShelf.reach.Goals as goal

pub returns-then-number-self-clause-reached : goal.returns-then-number-self-clause-reached
returns-then-number-self-clause-reached g c =
    let s = c.self.inside in
    let long : length c.args.self.now ≡ s.count = ap length (sym c.self.view_is)
    ∙ length-by_number (content_of s.starts.items s.met.items) s.count in
    sym (spread-enough (c.args.number + 1) c.args.self.now (omega (arith, long, c.if-number-self.true)))

pub reach_pieces-requires-clause-met : goal.reach_pieces-requires-clause-met
reach_pieces-requires-clause-met g c = fits c.self.inside.starts.items c.self.inside.met.items c.self.invariant.0

pub returns-in-Err-clause-short : goal.returns-in-Err-clause-short
returns-in-Err-clause-short g c =
    let s = c.self.inside in
    let long : length c.args.self.now ≡ s.count = ap length (sym c.self.view_is)
    ∙ length-by_number (content_of s.starts.items s.met.items) s.count in
    omega (arith, long, c.if-number-self.false)

pub invariant_of-self-2 : goal.invariant_of-self-2
invariant_of-self-2 g c =
    let s = c.self.inside in
    let n = c.args.number in
    let starts = c.reach_pieces.new.starts.items in
    let met = c.reach_pieces.new.met.items in
    let spreads : starts ≡ spread (n / 256 + 1) s.starts.items = c.in_default.ensures.starts in
    let same = c.reach_pieces.ensures.met in
    let long : length starts ≡ length s.starts.items + (n / 256 + 1 - length s.starts.items) =
    ap length spreads ∙ spread_length (n / 256 + 1) s.starts.items in (
      spread_pieces s.starts.items starts s.met.items met (n / 256 + 1) spreads same c.self.invariant.0,
      (λ m h.
          spread_content s.starts.items starts s.met.items met (n / 256 + 1) spreads same m
          ∙ c.self.invariant.1 m (omega (arith, h, c.if-number-self.false))),
      omega (arith, long),
      c.reach_pieces.ensures.room,
      omega (arith, long, c.self.invariant.4, c.requires),
    )

pub returns-clause-reached : goal.returns-clause-reached
returns-clause-reached g c =
    let s = c.self.inside in
    let n = c.args.number in
    let starts = c.reach_pieces.new.starts.items in
    let met = c.reach_pieces.new.met.items in
    let spreads : starts ≡ spread (n / 256 + 1) s.starts.items = c.in_default.ensures.starts in
    by_number_more (content_of s.starts.items s.met.items) (content_of starts met) s.count (n + 1)
    (omega (arith, c.if-number-self.false))
    (spread_content s.starts.items starts s.met.items met (n / 256 + 1) spreads c.reach_pieces.ensures.met)
    c.self.invariant.1
    ∙ ap (spread (n + 1)) c.self.view_is
