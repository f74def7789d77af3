-- Texts behind fronts.
use Rattle.std.proofs.Common.{◌≡◌, ℕ, ◌+◌, ◌-◌, List, [], ◌∷◌, ◌++◌, length, take, drop, codes, sym, ap, ◌∙◌, refl}
use Rattle.std.proofs.Common.{append_assoc, arith}
use Rattle.std.proofs.lemmas.List.{length-append, take_all}
use Rattle.oe_requests.specs.declared.replies.Reply.{Reply}
use Rattle.oe_requests.specs.declared.answers.Answer.TheVariants as answer
use Rattle.oe_texts.specs.Answer.{answer_line}
use Rattle.oe_texts.specs.Reply.{reply_text}
use Rattle.oe_deeds.specs.Files.{commit_front, reply_line}

-- a line is as long as its front and the rest
pub as_long : (front rest line : List ℕ) → line ≡ front ++ rest → length line ≡ length front + length rest
as_long front rest line is = ap length is ∙ length-append front rest

drop_front : (front rest : List ℕ) → drop (length front) (front ++ rest) ≡ rest
drop_front [] rest = refl
drop_front (b ∷ front) rest = drop_front front rest

pub behind_is : (front rest line : List ℕ) → line ≡ front ++ rest
    → take (length line - length front) (drop (length front) line) ≡ rest
behind_is front rest line is =
    let long = as_long front rest line is in
    ap (λ (z : List ℕ). take (length line - length front) (drop (length front) z)) is
    ∙ (ap (take (length line - length front)) (drop_front front rest)
    ∙ take_all (length line - length front) rest (omega (arith, long)))

-- the line of a commit's answer is its front and the reply
pub reply_framed : (line front before begun : List ℕ) (m : ℕ) (y z : Reply) → before ≡ [] → y ≡ z
    → line ≡ before ++ answer_line (answer.Committed m y) → begun ≡ [] → front ≡ begun ++ commit_front m
    → line ≡ front ++ reply_line z
reply_framed line front before begun m y z none same is empty made =
    is ∙ ap (λ (x : List ℕ). x ++ answer_line (answer.Committed m y)) none
    ∙ append_assoc (commit_front m) (reply_text y) (codes "\n")
    ∙ ap (λ (r : Reply). commit_front m ++ reply_line r) same
    ∙ ap (λ (x : List ℕ). x ++ reply_line z) (sym (made ∙ ap (λ (x : List ℕ). x ++ commit_front m) empty))
