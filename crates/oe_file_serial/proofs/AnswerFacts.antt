-- What stands between the front of an answer's line and its end.
use Rattle.std.proofs.Common.{◌≡◌, ℕ, ◌+◌, ◌-◌, List, [], ◌∷◌, ◌++◌, length, take, drop, codes, sym, ap, ◌∙◌, refl}
use Rattle.std.proofs.Common.{arith}
use Rattle.std.proofs.Common.{append_assoc}
use Rattle.std.proofs.lemmas.List.{length-append, take_at}
use Rattle.oe_requests.specs.declared.replies.Reply.{Reply}
use Rattle.oe_requests.specs.declared.refusals.Refusal.{Refusal}
use Rattle.oe_requests.specs.declared.answers.Answer.TheVariants as answer
use Rattle.oe_texts.specs.Answer.{answer_line}
use Rattle.oe_texts.specs.Reply.{reply_text}
use Rattle.oe_texts.specs.Refusal.{error_text}
use Rattle.oe_file_serial.specs.Worlds.{commit_front}

pub framed : (front text line : List ℕ) → line ≡ front ++ text ++ codes "\n"
    → length line ≡ length front + length text + 1
framed front text line is =
    let all = ap length is ∙ length-append (front ++ text) (codes "\n") in
    let parts = length-append front text in
    omega (arith, all, parts)

drop_front : (front rest : List ℕ) → drop (length front) (front ++ rest) ≡ rest
drop_front [] rest = refl
drop_front (b ∷ front) rest = drop_front front rest

pub inner_is : (front text line : List ℕ) → line ≡ front ++ text ++ codes "\n"
    → take (length line - 1 - length front) (drop (length front) line) ≡ text
inner_is front text line is =
    let long = framed front text line is in
    let count : length line - 1 - length front ≡ length text = omega (arith, long) in
    let whole : line ≡ front ++ (text ++ codes "\n") = is ∙ append_assoc front text (codes "\n") in
    ap (λ (n : ℕ). take n (drop (length front) line)) count
    ∙ (ap (λ (z : List ℕ). take (length text) (drop (length front) z)) whole
    ∙ (ap (take (length text)) (drop_front front (text ++ codes "\n")) ∙ take_at text (codes "\n") (length text) refl))

pub reply_framed : (line front before begun : List ℕ) (m : ℕ) (y : Reply) → before ≡ []
    → line ≡ before ++ answer_line (answer.Committed m y) → begun ≡ [] → front ≡ begun ++ commit_front m
    → line ≡ front ++ reply_text y ++ codes "\n"
reply_framed line front before begun m y none is empty made =
    is ∙ ap (λ (z : List ℕ). z ++ answer_line (answer.Committed m y)) none
    ∙ ap (λ (z : List ℕ). z ++ reply_text y ++ codes "\n")
    (sym (made ∙ ap (λ (z : List ℕ). z ++ commit_front m) empty))

pub error_framed : (line before : List ℕ) (e : Refusal) → before ≡ []
    → line ≡ before ++ answer_line (answer.Refused e) → line ≡ [] ++ error_text e ++ codes "\n"
error_framed line before e none is = is ∙ ap (λ (z : List ℕ). z ++ answer_line (answer.Refused e)) none
