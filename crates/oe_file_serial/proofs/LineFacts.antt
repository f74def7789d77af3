-- Lines, and what parts them.
use Rattle.std.proofs.Common.{◌≡◌, ◌≢◌, ℕ, ◌+◌, ◌≤◌, ◌==◌, cond, false, List, [], ◌∷◌, ◌++◌}
use Rattle.std.proofs.Common.{length, take, get_or, codes, sym, ap, ◌∙◌, refl, append_assoc}
use Rattle.std.proofs.Common.{arith}
use Rattle.std.proofs.lemmas.List.{append-nil}
use Rattle.std.proofs.lemmas.List.{append_cancel_left, append_cancel_right, length-append, take_all, take_more}
use Rattle.std.proofs.lemmas.List.Elements.{All-head, All-tail}
use Rattle.std.proofs.lemmas.Bool.{ne_eqb}
use Rattle.oe_reply_words.specs.Parts.{IsWithout, IsParted}
use Rattle.oe_reply_words.proofs.PartFacts.{parted_once}
use Rattle.oe_file_serial.specs.Files.{Parts, lines_from, last_from, lines_of, last_of}

pub parts_once : (line w w' t t' : List ℕ) → Parts line w t → Parts line w' t' → (w ≡ w') × (t ≡ t')
parts_once line w w' t t' h k =
    let e = parted_once 61 line (w ++ codes " ") (w' ++ codes " ") (codes "> " ++ t) (codes "> " ++ t') h k in
    (append_cancel_right w w' (codes " ") e.0, append_cancel_left (codes "> ") t t' e.1)

pub words_short : (line w t : List ℕ) (n : ℕ) → Parts line w t → length line ≤ n
    → (length w ≤ n) × (length t ≤ n)
words_short line w t n h le =
    let whole = ap length h.whole ∙ length-append (w ++ codes " ") (61 ∷ codes "> " ++ t) in
    let front = length-append w (codes " ") in
    let back = length-append (61 ∷ codes "> ") t in
    (omega (arith, whole, front, back, le), omega (arith, whole, front, back, le))

-- LINES

other : (b m : ℕ) → b ≢ m → (b == m) ≡ false
other b m ne = ne_eqb b m ne

pub lines_cut : (held line rest : List ℕ) → IsWithout 10 line
    → lines_from held (line ++ 10 ∷ rest) ≡ (held ++ line) ∷ lines_of rest
lines_cut held [] rest h = ap (λ z. z ∷ lines_of rest) (sym (append-nil held))
lines_cut held (b ∷ line) rest h =
    ap (λ t. cond t (held ∷ lines_of (line ++ 10 ∷ rest)) (lines_from (held ++ b ∷ []) (line ++ 10 ∷ rest)))
    (other b 10 (All-head (λ b. b ≢ 10) b line h))
    ∙ (lines_cut (held ++ b ∷ []) line rest (All-tail (λ b. b ≢ 10) b line h)
    ∙ ap (λ z. z ∷ lines_of rest) (append_assoc held (b ∷ []) line))

pub last_cut : (held line rest : List ℕ) → IsWithout 10 line
    → last_from held (line ++ 10 ∷ rest) ≡ last_of rest
last_cut held [] rest h = refl
last_cut held (b ∷ line) rest h =
    ap (λ t. cond t (last_of (line ++ 10 ∷ rest)) (last_from (held ++ b ∷ []) (line ++ 10 ∷ rest)))
    (other b 10 (All-head (λ b. b ≢ 10) b line h))
    ∙ last_cut (held ++ b ∷ []) line rest (All-tail (λ b. b ≢ 10) b line h)

lines_none : (held text : List ℕ) → IsWithout 10 text → lines_from held text ≡ []
lines_none held [] h = refl
lines_none held (b ∷ text) h =
    ap (λ t. cond t (held ∷ lines_of text) (lines_from (held ++ b ∷ []) text))
    (other b 10 (All-head (λ b. b ≢ 10) b text h))
    ∙ lines_none (held ++ b ∷ []) text (All-tail (λ b. b ≢ 10) b text h)

last_all : (held text : List ℕ) → IsWithout 10 text → last_from held text ≡ held ++ text
last_all held [] h = sym (append-nil held)
last_all held (b ∷ text) h =
    ap (λ t. cond t (last_of text) (last_from (held ++ b ∷ []) text)) (other b 10 (All-head (λ b. b ≢ 10) b text h))
    ∙ (last_all (held ++ b ∷ []) text (All-tail (λ b. b ≢ 10) b text h) ∙ append_assoc held (b ∷ []) text)

-- the first line, and those behind it
pub next_line : (text line rest : List ℕ) → IsParted 10 text line rest
    → (lines_of text ≡ line ∷ lines_of rest) × (last_of text ≡ last_of rest)
next_line text line rest h =
    (ap lines_of h.whole ∙ lines_cut [] line rest h.first, ap last_of h.whole ∙ last_cut [] line rest h.first)

pub no_line : (text : List ℕ) → IsWithout 10 text → (lines_of text ≡ []) × (last_of text ≡ text)
no_line text h = (lines_none [] text h, last_all [] text h)

-- A LAST BLANK

last_is : (front : List ℕ) → get_or (front ++ 32 ∷ []) (length front) 0 ≡ 32
last_is [] = refl
last_is (b ∷ front) = last_is front

pub before_last : (bytes : List ℕ) (n : ℕ) → n + 1 ≡ length bytes → get_or bytes n 0 ≡ 32
    → bytes ≡ take n bytes ++ codes " "
before_last bytes n long is =
    sym (take_all (n + 1) bytes (omega (arith, long)))
    ∙ (take_more bytes n 0 (omega (arith, long)) ∙ ap (λ (b : ℕ). take n bytes ++ b ∷ []) is)
