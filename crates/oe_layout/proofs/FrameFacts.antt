-- A record's bytes are a string of the ring.
use Rattle.std.proofs.Common.{◌≡◌, ℕ, ◌+◌, ◌-◌, ◌<◌, ◌≤◌, List, [], ◌++◌, length, drop, refl, sym, ap, subst, ◌∙◌}
use Rattle.std.proofs.Common.{arith, append_assoc}
use Rattle.std.proofs.lemmas.List.{append-nil, drop_at}
use Rattle.byteorder.specs.Endian.{big_number}
use Rattle.byteorder.specs.Numbers.{big_number-reads_back}
use Rattle.oe_extent.specs.Images.{number, Writes}
use Rattle.oe_extent.proofs.WriteFacts.{Writes-then, Writes-before}
use Rattle.oe_extent.specs.Strings.{last_length, IsFramed}
use Rattle.oe_model.specs.Changes.{Record}
use Rattle.oe_model.specs.Lengths.{record_length}
use Rattle.oe_layout.specs.Links.{link_numbers}
use Rattle.oe_layout.specs.Kinds.{kind_of}
use Rattle.oe_layout.specs.Records.{contents, body_image, record_image}
use Rattle.oe_layout.specs.declared.links.Previous.{Previous}
use Rattle.oe_layout.proofs.LengthFacts.{IsLong, joined_long, number_long, kind_long, link_long}

some_long : (xs : List ℕ) → IsLong xs (length xs)
some_long xs = record { is = refl }

between_long : (n : ℕ) (body : List ℕ) → IsLong (number 2 n ++ (body ++ number 2 n)) (2 + (length body + 2))
between_long n body = joined_long (number_long 2 n) (joined_long (some_long body) (number_long 2 n))

-- what stands between a number of two bytes and the same number, where that is the length of all
framed_is : (n : ℕ) (body : List ℕ) → n < 65_536 → length (number 2 n ++ (body ++ number 2 n)) ≡ n
    → IsFramed (number 2 n ++ (body ++ number 2 n))
unfolding last_length
framed_is n body lt size =
    let whole = number 2 n ++ (body ++ number 2 n) in
    let front = number 2 n ++ body in
    let long = between_long n body in
    let before = joined_long (number_long 2 n) (some_long body) in
    let same : whole ≡ front ++ number 2 n = sym (append_assoc (number 2 n) body (number 2 n)) in
    let at : length whole - 2 ≡ length front = omega (arith, long.is, before.is) in
    let end : drop (length whole - 2) whole ≡ number 2 n =
    ap (λ (k : ℕ). drop k whole) at ∙ ap (drop (length front)) same ∙ drop_at front (number 2 n) (length front) refl in
    record {
      long = omega (arith, long.is);
      first = big_number-reads_back 2 n (body ++ number 2 n) lt ∙ sym size;
      last = ap (λ (l : List ℕ). big_number 2 l) (end ∙ sym (append-nil (number 2 n))) ∙ big_number-reads_back 2 n [] lt
          ∙ sym size;
    }

-- from the length of contents
pub whole_length : (p : Previous) (b : Record) (a : ℕ) → a ≡ length (contents b) → a + 18 ≡ length (record_image p b)
whole_length p b a e =
    let long = joined_long (number_long 2 (record_length b))
    (joined_long (joined_long (kind_long (kind_of b))
    (joined_long (link_long (link_numbers p)) (some_long (contents b)))) (number_long 2 (record_length b))) in
    omega (arith, e, long.is)

pub record_framed : (p : Previous) (b : Record) (a : ℕ) → a ≡ length (contents b) → a + 18 ≡ record_length b → a ≤ 691
    → IsFramed (record_image p b)
record_framed p b a e sum short =
    framed_is (record_length b) (body_image p b) (omega (arith, sum, short)) (sym (whole_length p b a e) ∙ sum)

-- what stands between the lengths was written first, and the offsets told them
pub record_written : (old mid front new : List ℕ) (start middle end behind n : ℕ) (p : Previous) (b : Record)
    → length (record_image p b) ≡ record_length b
    → start + length (record_image p b) ≤ length old → n ≡ end + 2 - start
    → Writes old (start + 2) (body_image p b) mid end
    → Writes mid start (number 2 n) front middle → Writes front end (number 2 n) new behind
    → Writes old start (record_image p b) new behind
record_written old mid front new start middle end behind n p b sum room told body first last =
    let body_is = body_image p b in
    let whole = between_long (record_length b) body_is in
    let two = number_long 2 n in
    let counted : n ≡ record_length b = omega (arith, told, body.end_is, whole.is, sum) in
    let at : middle ≡ start + 2 = omega (arith, first.end_is, two.is) in
    let within : end ≤ length old = omega (arith, body.end_is, whole.is, room) in
    let begun : Writes old start (number 2 n ++ body_is) front end =
    Writes-before old mid front start (start + 2) end (number 2 n) body_is within body
    (subst (λ (m : ℕ). Writes mid start (number 2 n) front m) at first) in
    let all : Writes old start (number 2 n ++ (body_is ++ number 2 n)) new behind =
    subst (λ (l : List ℕ). Writes old start l new behind) (append_assoc (number 2 n) body_is (number 2 n))
    (Writes-then old front new start end behind (number 2 n ++ body_is) (number 2 n) begun last) in
    subst (λ (m : ℕ). Writes old start (number 2 m ++ (body_is ++ number 2 m)) new behind) counted all
