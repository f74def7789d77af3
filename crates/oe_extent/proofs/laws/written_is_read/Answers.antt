-- What is written is read again.
use Rattle.std.proofs.Common.{◌≡◌, ℕ, ◌^◌, ◌<◌, ◌≤◌, false, List, ◌++◌, length, take, drop, ltb, Some, refl, sym, ap}
use Rattle.std.proofs.Common.{◌∙◌, arith, append_assoc}
use Rattle.std.proofs.lemmas.Bool.{le-ltb}
use Rattle.std.proofs.lemmas.List.{take-append-drop, take_at, drop_at, length-append, length-take}
use Rattle.byteorder.specs.Endian.{big_bytes}
use Rattle.byteorder.specs.Numbers.{big_number-reads_back, length-bytes_high_first}
use Rattle.oe_extent.specs.Images.{Writes, number_at, run_at}
use Rattle.oe_extent.proofs.laws.written_is_read.Goals as goal

text_stands : (old : List ℕ) (start : ℕ) (text new : List ℕ) (end : ℕ) → start ≤ length old
    → Writes old start text new end
    → drop start new ≡ text ++ drop end old
text_stands old start text new end within w =
    let front : length (take start old) ≡ start = omega (arith, length-take start old) in
    let whole : new ≡ take start old ++ (text ++ drop end old) =
    sym (take-append-drop end new) ∙ ap (λ (l : List ℕ). l ++ drop end new) w.front
    ∙ ap (λ (l : List ℕ). (take start old ++ text) ++ l) w.rest ∙ append_assoc (take start old) text (drop end old) in
    ap (drop start) whole ∙ drop_at (take start old) (text ++ drop end old) start front

number_again : (width n : ℕ) (rest : List ℕ) → n < 256 ^ width
    → number_at width (big_bytes width n ++ rest) ≡ Some (n, rest)
number_again width n rest lt =
    let size = length-bytes_high_first width n in
    let long : ltb (length (big_bytes width n ++ rest)) width ≡ false =
    le-ltb _ _ (omega (arith, length-append (big_bytes width n) rest)) in
    rw (long, drop_at (big_bytes width n) rest width size, big_number-reads_back width n rest lt) refl

run_again : (run rest : List ℕ) → run_at (length run) (run ++ rest) ≡ Some (run, rest)
run_again run rest =
    let long : ltb (length (run ++ rest)) (length run) ≡ false = le-ltb _ _ (omega (arith, length-append run rest)) in
    rw (long, take_at run rest (length run) refl, drop_at run rest (length run) refl) refl

pub returns : goal.returns
returns c = record { stands = text_stands; numbers = number_again; runs = run_again }
