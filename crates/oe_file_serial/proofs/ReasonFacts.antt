-- The reason of a line, by what is read of it.
use Rattle.std.proofs.Common.{ℕ, List, ◌++◌, sym, subst, inl, inr}
use Rattle.oe_reasons.specs.Reasons.{IsReason, IsTaken}
use Rattle.oe_file_serial.specs.declared.reasons.Behind.{Behind}
use Rattle.oe_file_serial.specs.declared.reasons.Behind.TheVariants as behind
use Rattle.oe_file_serial.specs.declared.reasons.Why.{Why}
use Rattle.oe_file_serial.specs.declared.reasons.Why.TheVariants as why
use Rattle.oe_file_serial.specs.Files.{IsReadAs, IsReadWhy, IsWordsWhy, IsWhy, Parts, front_text, is_open_behind}

pub read_why : (line : List ℕ) (b : Behind) (words : List ℕ) (w : Why) → IsReadAs line b words → IsReadWhy b words w
    → IsWhy line w
read_why line b words (why.Of own x r) as_so (same, is, reason) = (
  subst (λ (z : Behind). IsReadAs line z x.now) (sym same) (subst (IsReadAs line b) (sym is) as_so),
  subst (λ (z : Behind). IsReason (is_open_behind z) (front_text z ++ x.now) r) (sym same)
      (subst (λ (z : List ℕ). IsReason (is_open_behind b) (front_text b ++ z) r) (sym is) reason),
)
read_why line b words (why.NoRequest own x) as_so (same, is, (c, taken)) = (
  subst (λ (z : Behind). IsReadAs line z x.now) (sym same) (subst (IsReadAs line b) (sym is) as_so),
  (
    c,
    subst (λ (z : Behind). IsTaken (is_open_behind z) (front_text z ++ x.now) c) (sym same)
        (subst (λ (z : List ℕ). IsTaken (is_open_behind b) (front_text b ++ z) c) (sym is) taken),
  ),
)
read_why line b words why.Long as_so r = absurd r
read_why line b words why.NoReply as_so r = absurd r
read_why line b words why.NoRing as_so r = absurd r
read_why line b words why.Unended as_so r = absurd r

pub words_why : (line words text : List ℕ) (w : Why) → Parts line words text → IsWordsWhy words w → IsWhy line w
words_why line words text w p (inl r) = read_why line behind.Begin words w (text, p) r
words_why line words text w p (inr (word, rest, parted, inl r)) =
    read_why line behind.Next word w (words, text, rest, p, parted) r
words_why line words text w p (inr (word, rest, parted, inr r)) =
    read_why line behind.ReadNow rest w (words, text, word, p, parted) r
