-- Lines that are appended piece by piece.
use Rattle.std.proofs.Common.{◌≡◌, ℕ, ◌+◌, List, ◌++◌, ap, ◌∙◌, Result, Ok, Err, OnOk, codes}
use Rattle.oe_rows.specs.declared.keys.Key.{Key}
use Rattle.oe_reply_words.proofs.PartFacts.{and_then}
use Rattle.oe_comparison.specs.Texts.{Told, with_piece, with_line, column_front, column_line}

-- the line of a column that differs
pub told_column : {T E : Type 0} (k : Key) (place : ℕ) (theirs ours : List ℕ) (old a b c d new : Told) (r : Result T E)
    → a ≡ with_piece (column_front k place) old → b ≡ with_piece theirs a → c ≡ with_piece (codes ", in this order ") b
    → d ≡ with_piece ours c → OnOk r (new ≡ with_line (codes "\n") d)
    → OnOk r (new ≡ with_line (column_line k (record { place = place; theirs = theirs; ours = ours })) old)
told_column k place theirs ours old a b c d new (Err e) p q s t u = tt
told_column k place theirs ours old a b c d new (Ok x) p q s t u =
    let front = column_front k place in
    let one : a.text ≡ old.text ++ front = ap (λ (z : Told). z.text) p in
    let two = and_then old.text front theirs a.text b.text one (ap (λ (z : Told). z.text) q) in
    let three = and_then old.text (front ++ theirs) (codes ", in this order ") b.text c.text two
    (ap (λ (z : Told). z.text) s) in
    let four = and_then old.text (front ++ theirs ++ codes ", in this order ") ours c.text d.text three
    (ap (λ (z : Told). z.text) t) in
    let five = and_then old.text (front ++ theirs ++ codes ", in this order " ++ ours) (codes "\n") d.text new.text four
    (ap (λ (z : Told). z.text) u) in
    let counts : new.count ≡ old.count + 1 =
    ap (λ (z : Told). z.count) u
    ∙ ap (λ n. n + 1) (ap (λ (z : Told). z.count) t ∙ (ap (λ (z : Told). z.count) s
    ∙ (ap (λ (z : Told). z.count) q ∙ ap (λ (z : Told). z.count) p))) in
    λ i. record { text = five i; count = counts i }
