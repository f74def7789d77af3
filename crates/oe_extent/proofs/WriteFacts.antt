-- What a write leaves, in parts and one after another.
use Rattle.std.proofs.Common.{◌≡◌, ℕ, ◌+◌, ◌-◌, ◌≤◌, List, ◌++◌, length, take, drop, refl, sym, ap, ◌∙◌, arith}
use Rattle.std.proofs.Common.{append_assoc}
use Rattle.std.proofs.lemmas.List.{take-append-drop, take-append-le, take-take, take_at, drop_at, drop-append-le}
use Rattle.std.proofs.lemmas.List.{drop-drop, drop-take, length-append, length-take, length-drop}
use borrow.Rule.Slice.PartMut.{put_mid}
use Rattle.oe_extent.specs.Images.{Writes}

-- a text put at its offset
Writes-put : (old : List ℕ) (start : ℕ) (text tail : List ℕ) → start + length text ≤ length old
    → tail ≡ text ++ drop (length text) (drop start old)
    → Writes old start text (take start old ++ tail) (start + length text)
Writes-put old start text tail room e =
    let behind = drop (length text) (drop start old) in
    let cut : length (take start old) ≡ start = omega (arith, length-take start old) in
    let front : length (take start old ++ text) ≡ start + length text =
    omega (arith, length-append (take start old) text) in
    let shape : take start old ++ tail ≡ (take start old ++ text) ++ behind =
    ap (λ (l : List ℕ). take start old ++ l) e ∙ sym (append_assoc (take start old) text behind) in
    record {
      end_is = refl;
      same_length =
          ap length shape
          ∙ omega (
            arith,
            front,
            length-append (take start old ++ text) behind,
            length-drop (length text)
                (drop start old),
            length-drop start old,
          );
      front = ap (take (start + length text)) shape ∙ take_at (take start old ++ text) behind (start + length text)
          front;
      rest = ap (drop (start + length text)) shape ∙ drop_at (take start old ++ text) behind (start + length text) front
          ∙ drop-drop (length text) start old;
    }

-- k bytes from start were lent, and a text was put at their front
pub Writes-mid : (old : List ℕ) (start k : ℕ) (text ys : List ℕ) (end : ℕ) → start + k ≤ length old → length text ≤ k
    → ys ≡ text ++ drop (length text) (take k (drop start old)) → end ≡ start + length text
    → Writes old start text (put_mid start k old ys) end
Writes-mid old start k text ys end room short e at_end =
    let rest = drop start old in
    let long : length text ≤ length (take k rest) = omega (arith, length-take k rest, length-drop start old) in
    let cut : drop (length text) rest ≡ drop (length text) (take k rest) ++ drop k rest =
    ap (drop (length text)) (sym (take-append-drop k rest)) ∙ drop-append-le (length text) (take k rest) (drop k rest)
    long in
    let tail : ys ++ drop k rest ≡ text ++ drop (length text) rest =
    ap (λ (l : List ℕ). l ++ drop k rest) e ∙ append_assoc text (drop (length text) (take k rest)) (drop k rest)
    ∙ ap (λ (l : List ℕ). text ++ l) (sym cut) in
    rw at_end (Writes-put old start text (ys ++ drop k rest) (omega arith) tail)

-- one text behind another
pub Writes-then : (old mid new : List ℕ) (start middle end : ℕ) (s t : List ℕ) → Writes old start s mid middle
    → Writes mid middle t new end
    → Writes old start (s ++ t) new end
Writes-then old mid new start middle end s t a b = record {
  end_is = omega (arith, a.end_is, b.end_is, length-append s t);
  same_length = b.same_length ∙ a.same_length;
  front = b.front ∙ ap (λ (l : List ℕ). l ++ t) a.front ∙ append_assoc (take start old) s t;
  rest =
      b.rest ∙ ap (λ (n : ℕ). drop n mid) b.end_is ∙ sym (drop-drop (length t) middle mid)
      ∙ ap (drop (length t)) a.rest ∙ drop-drop (length t) middle old ∙ ap (λ (n : ℕ). drop n old) (sym b.end_is);
}

-- a run's first k bytes, and then its bytes from index i on, the first of them where bytes of the run stand already
pub Writes-ends : (old mid new : List ℕ) (start k i middle end : ℕ) (run : List ℕ) → i ≤ k → k ≤ length run
    → start + k ≤ length old
    → Writes old start (take k run) mid middle → Writes mid (start + i) (drop i run) new end
    → Writes old start run new end
Writes-ends old mid new start k i middle end run early within room a b =
    let front = take start old in
    let twice = drop i (take k run) in
    let at : length (front ++ take i run) ≡ start + i =
    omega (arith, length-append front (take i run), length-take start old, length-take i run) in
    let first_end : middle ≡ start + k = omega (arith, a.end_is, length-take k run) in
    let last_end : end ≡ middle + (length run - k) = omega (arith, first_end, b.end_is, length-drop i run) in
    let parts : front ++ take k run ≡ (front ++ take i run) ++ twice =
    ap (λ (l : List ℕ). front ++ l) (sym (take-append-drop i (take k run))
    ∙ ap (λ (l : List ℕ). l ++ twice) (take-take i k run early))
    ∙ sym (append_assoc front (take i run) twice) in
    let before : take (start + i) mid ≡ front ++ take i run =
    sym (take-take (start + i) middle mid (omega (arith, first_end))) ∙ ap (take (start + i)) (a.front ∙ parts)
    ∙ take_at (front ++ take i run) twice (start + i) at in
    record {
      end_is = omega (arith, b.end_is, length-drop i run);
      same_length = b.same_length ∙ a.same_length;
      front =
          b.front ∙ ap (λ (l : List ℕ). l ++ drop i run) before ∙ append_assoc front (take i run) (drop i run)
          ∙ ap (λ (l : List ℕ). front ++ l) (take-append-drop i run);
      rest =
          b.rest ∙ ap (λ (n : ℕ). drop n mid) last_end ∙ sym (drop-drop (length run - k) middle mid)
          ∙ ap (drop (length run - k)) a.rest ∙ drop-drop (length run - k) middle old
          ∙ ap (λ (n : ℕ). drop n old) (sym last_end);
    }

-- one text before another that stands already
pub Writes-before : (old mid new : List ℕ) (start middle end : ℕ) (s t : List ℕ) → end ≤ length old
    → Writes old middle t mid end
    → Writes mid start s new middle → Writes old start (s ++ t) new end
Writes-before old mid new start middle end s t room a b =
    let size = length t in
    let last_end : end ≡ middle + size = omega (arith, a.end_is) in
    let early : start ≤ middle = omega (arith, b.end_is) in
    let cut : length (take middle old) ≡ middle = omega (arith, last_end, length-take middle old) in
    let untouched : take start mid ≡ take start old =
    sym (take-take start end mid (omega arith)) ∙ ap (take start) a.front
    ∙ take-append-le start (take middle old) t (omega arith)
    ∙ take-take start middle old early in
    let behind : take size (drop middle new) ≡ t =
    ap (take size) b.rest ∙ sym (drop-take middle size mid) ∙ ap (λ (n : ℕ). drop middle (take n mid)) (sym last_end)
    ∙ ap (drop middle) a.front ∙ drop_at (take middle old) t middle cut in
    record {
      end_is = omega (arith, a.end_is, b.end_is, length-append s t);
      same_length = b.same_length ∙ a.same_length;
      front =
          ap (λ (n : ℕ). take n new) last_end ∙ sym (take-append-drop middle (take (middle + size) new))
          ∙ (λ k. take-take middle (middle + size) new (omega arith) k ++ drop-take middle size new k)
          ∙ (λ k. b.front k ++ behind k) ∙ ap (λ (l : List ℕ). (l ++ s) ++ t) untouched
          ∙ append_assoc (take start old) s t;
      rest =
          ap (λ (n : ℕ). drop n new) last_end ∙ sym (drop-drop size middle new) ∙ ap (drop size) b.rest
          ∙ drop-drop size middle mid
          ∙ ap (λ (n : ℕ). drop n mid) (sym last_end) ∙ a.rest;
    }
