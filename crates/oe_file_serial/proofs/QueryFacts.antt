-- Words ask for a query where a terminal's number and the words of a query stand beside a blank.
use Rattle.std.proofs.Common.{◌≡◌, ℕ, ◌+◌, ◌%◌, ◌<◌, ◌^◌, List, [], ◌∷◌, ◌++◌, codes, refl, sym, ap, subst, ◌∙◌, arith}
use Rattle.std.specs.Prelude.{◌≢◌, decimal, Option, Some, None, MatchOption}
use Rattle.std.specs.Int.{IsInRange}
use Rattle.std.specs.List.{join_with_byte}
use Rattle.std.proofs.lemmas.Fmt.{decimal_by_steps}
use Rattle.std.proofs.lemmas.List.{append_cancel_left}
use Rattle.std.proofs.lemmas.List.Elements.{All-append, All-cons, All-nil}
use Rattle.oe_requests.specs.declared.requests.Query.{Query}
use Rattle.oe_requests.specs.declared.requests.Query.TheVariants as query
use Rattle.oe_lines.specs.Grammar.{Says, IsQuery, query_words}
use Rattle.oe_lines.specs.declared.commands.Command.TheVariants as command
use Rattle.oe_lines.specs.declared.commands.MomentChoice.TheVariants as moment
use Rattle.oe_values.specs.declared.numbers.TheConstants.{TERMINALS}
use Rattle.oe_reply_words.specs.Parts.{IsWithout, IsParted}
use Rattle.oe_file_serial.specs.Files.{AsksFor}
use Rattle.oe_reply_words.proofs.PartFacts.{parted_once}

-- digits have no blank among them
digit_other : (d : ℕ) → 48 + d ≢ 32
digit_other d e = absurd (omega (arith, e))

pub one_digit : (d : ℕ) → IsWithout 32 ((48 + d) ∷ [])
one_digit d = All-cons (λ b. b ≢ 32) (48 + d) [] (digit_other d) (All-nil (λ b. b ≢ 32))

pub decimal_unparted : (n : ℕ) → n < 2 ^ 64 → IsWithout 32 (decimal n)
decimal_unparted n small = decimal_by_steps (λ m ds. IsWithout 32 ds) (λ m h. one_digit m)
    (λ m ds h before. All-append (λ b. b ≢ 32) ds ((48 + m % 10) ∷ []) before (one_digit (m % 10))) n small

terminal_unparted : (t : ℕ) → IsInRange 1 TERMINALS t → IsWithout 32 (decimal t)
terminal_unparted t h = decimal_unparted t (omega (arith, h.1))

joined_is : (t : ℕ) (q : Query)
    → join_with_byte 32 (decimal t ∷ query_words q) ≡ decimal t ++ 32 ∷ join_with_byte 32 (query_words q)
joined_is t (query.Status x) = refl
joined_is t (query.Level x) = refl

next_is : (word : List ℕ) (t : ℕ) → Says (codes "next " ++ word) (command.Next t) → word ≡ decimal t
next_is word t s = append_cancel_left (codes "next ") word (decimal t) s.spelled

read_is : (words : List ℕ) (q : Query) → Says (codes "read now " ++ words) (command.Read moment.Now q)
    → words ≡ join_with_byte 32 (query_words q)
read_is words (query.Status x) s =
    append_cancel_left (codes "read now ") words (join_with_byte 32 (query_words (query.Status x))) s.spelled
read_is words (query.Level x) s =
    append_cancel_left (codes "read now ") words (join_with_byte 32 (query_words (query.Level x))) s.spelled

next_said : (t : ℕ) → IsInRange 1 TERMINALS t → Says (codes "next " ++ decimal t) (command.Next t)
next_said t h = record { form = h; spelled = refl }

read_said : (q : Query) → IsQuery q
    → Says (codes "read now " ++ join_with_byte 32 (query_words q)) (command.Read moment.Now q)
read_said (query.Status x) h = record { form = (tt, h); spelled = refl }
read_said (query.Level x) h = record { form = (tt, h); spelled = refl }

-- BOTH WAYS

asked_for : (words front behind : List ℕ) (t : ℕ) (q : Query) → IsParted 32 words front behind
    → Says (codes "next " ++ front) (command.Next t) → Says (codes "read now " ++ behind) (command.Read moment.Now q)
    → AsksFor words q
asked_for words front behind t q p n r = record {
  terminal = t;
  is_terminal = n.form;
  is_query = r.form.1;
  spelled =
      p.whole ∙ (ap (λ (z : List ℕ). z ++ 32 ∷ behind) (next_is front t n)
      ∙ (ap (λ (z : List ℕ). decimal t ++ 32 ∷ z) (read_is behind q r) ∙ sym (joined_is t q)));
}

pub parted_so : (words : List ℕ) (q : Query) (a : AsksFor words q)
    → IsParted 32 words (decimal a.terminal) (join_with_byte 32 (query_words q))
parted_so words q a = record {
  whole = a.spelled ∙ joined_is a.terminal q;
  first = terminal_unparted a.terminal a.is_terminal;
}

pub terminal_said : (words front behind : List ℕ) (q : Query) → IsParted 32 words front behind → AsksFor words q
    → (t : ℕ) × Says (codes "next " ++ front) (command.Next t)
terminal_said words front behind q p a =
    let same = parted_once 32 words front (decimal a.terminal) behind (join_with_byte 32 (query_words q)) p
    (parted_so words q a) in (
      a.terminal,
      subst (λ (z : List ℕ). Says (codes "next " ++ z) (command.Next a.terminal)) (sym same.0)
          (next_said a.terminal a.is_terminal),
    )

query_said : (words front behind : List ℕ) (q : Query) → IsParted 32 words front behind → AsksFor words q
    → Says (codes "read now " ++ behind) (command.Read moment.Now q)
query_said words front behind q p a =
    let same = parted_once 32 words front (decimal a.terminal) behind (join_with_byte 32 (query_words q)) p
    (parted_so words q a) in
    subst (λ (z : List ℕ). Says (codes "read now " ++ z) (command.Read moment.Now q)) (sym same.1)
    (read_said q a.is_query)

-- what stands behind a terminal's number is a query, or none
pub is_asked : (words front behind : List ℕ) (t : ℕ) → IsParted 32 words front behind
    → Says (codes "next " ++ front) (command.Next t) → (r : Option Query)
    → MatchOption r ((q : Query) → Says (codes "read now " ++ behind) (command.Read moment.Now q) → ⊥)
    (λ q. Says (codes "read now " ++ behind) (command.Read moment.Now q))
    → MatchOption r ((q : Query) → AsksFor words q → ⊥) (AsksFor words)
is_asked words front behind t p n None none = λ q a. none q (query_said words front behind q p a)
is_asked words front behind t p n (Some q) said = asked_for words front behind t q p n said
