use Rattle.std.proofs.Common.{◌≡◌, ◌<◌, ◌≤◌, ◌∙◌, refl, sym, ap, arith, length, set, Some, None}
use Rattle.std.specs.Prelude.{slice_get}
use Rattle.std.proofs.lemmas.List.{set_past, get_or_read}
use Rattle.std.proofs.lemmas.Option.{slice_get_past}
use Rattle.oe_undo.specs.ShelfPieces.{content_of}
use Rattle.oe_undo.proofs.ByNumberFacts.{length-by_number, by_number_at, by_number_set}
use Rattle.oe_undo.proofs.ShelfPieceFacts.{read_of, written, written_here, written_there}
use Rattle.oe_undo.proofs.shelf.PlaceShelf.place_mut.Goals as goal

pub returns-then-self-number : goal.returns-then-self-number
returns-then-self-number g c =
    let s = c.self.inside in
    let long : length c.args.self.now ≡ s.count = ap length (sym c.self.view_is)
    ∙ length-by_number (content_of s.starts.items s.met.items) s.count in
    let past : length c.args.self.now ≤ c.args.number = omega (arith, long, c.if-self-number.true) in (
      (refl, (λ w. c.self.view_is ∙ sym (set_past c.args.self.now c.args.number w past)), c.self.view_is),
      record { writes_back = tt; place = sym (slice_get_past c.args.self.now c.args.number past) },
    )

pub index_mut-requires : goal.index_mut-requires
index_mut-requires g c =
    let within = c.meet-at.ensures.pieces.within c.args.number c.meet-at.result c.meet-at.ensures.place in
    omega (arith, within, c.meet-at.new.met.ok.0)

pub invariant_of-self-lent : goal.invariant_of-self-lent
invariant_of-self-lent g c =
    let starts = c.meet-at.new.starts.items in
    let met = c.meet-at.new.met.items in
    let pieces = c.meet-at.ensures.pieces in
    let place = c.meet-at.ensures.place in λ w. (
      written starts met c.args.number c.meet-at.result w pieces place,
      (λ m h.
          written_there starts met c.args.number c.meet-at.result w pieces place m
          (λ e. omega (arith, h, e, c.if-self-number.false))
          ∙ c.meet-at.ensures.contents m ∙ c.self.invariant.1 m h),
      omega (arith, c.self.invariant.2, c.meet-at.ensures.length),
      omega (arith, c.self.invariant.3, c.meet-at.ensures.length, c.meet-at.ensures.capacity),
      omega (arith, c.self.invariant.4, c.meet-at.ensures.length),
    )

pub returns : goal.returns
returns g c =
    let s = c.self.inside in
    let n = c.args.number in
    let at = c.meet-at.result in
    let starts = c.meet-at.new.starts.items in
    let met = c.meet-at.new.met.items in
    let pieces = c.meet-at.ensures.pieces in
    let place = c.meet-at.ensures.place in
    let below : n < s.count = omega (arith, c.if-self-number.false) in
    let read = get_or_read met at c.index_mut.result.now (pieces.within n at place) c.index_mut.ensures.value None in (
      (
        refl,
        (λ w.
            by_number_set (content_of s.starts.items s.met.items) (content_of starts (set met at w)) s.count n w below
            (written_here starts met n at w pieces place)
            (λ k other.
            written_there starts met n at w pieces place k other ∙ c.meet-at.ensures.contents k)
            ∙ ap (λ ps. set ps n w) c.self.view_is),
        refl,
      ),
      record {
        writes_back = tt;
        place =
            ap (λ x. Some x) (read ∙ sym (read_of starts met n at place) ∙ c.meet-at.ensures.contents n)
            ∙ sym (by_number_at (content_of s.starts.items s.met.items) s.count n below)
            ∙ ap (λ ps. slice_get ps n) c.self.view_is;
      },
    )
