-- Lemmas on the bytes of a text, and the zeros behind them.
use Rattle.std.proofs.Common.{◌≡◌, ℕ, zero, suc, ◌+◌, ◌-◌, ◌≤◌, ◌==◌, Bool, true, false, not, cond, List, [], ◌∷◌, ◌++◌}
use Rattle.std.proofs.Common.{◌<◌, length, take, drop, replicate, refl, sym, ap, ◌∙◌, arith, Some, None, ltb-false}
use Rattle.std.proofs.Common.{leb-true, ne_eqb, min}
use Rattle.std.specs.Prelude.{nat_lt, nat_le}
use Rattle.std.specs.List.{All, position}
use Rattle.std.proofs.Math.Nat.{min_comm}
use Rattle.std.proofs.Math.Seq.{take-append-add}
use Rattle.std.proofs.lemmas.List.{drop-replicate, take_at, take_all, take_min, length-take, length-append}
use Rattle.std.proofs.lemmas.Slice.{take-put_mid}
use Rattle.std.proofs.lemmas.List.Sums.{prefix_len-le-length}
use Rattle.std.proofs.lemmas.List.Elements.{All-head, All-tail}
use borrow.Rule.Slice.PartMut.{put_mid}
use Rattle.oe_values.specs.Held.{zeros_from, in_two_bytes, with_zeros}
use Rattle.oe_values.specs.Text.{IsPrintable}

-- no more zeros than bytes
pub zeros_within : (bs : List ℕ) → zeros_from bs ≤ length bs
zeros_within bs = prefix_len-le-length (λ b. not (b == 0)) bs

-- of bytes that are few enough two bytes keep where they begin
pub few_within : (bs : List ℕ) (n : ℕ) → length bs < 65_535 → n ≡ in_two_bytes (zeros_from bs) → n ≡ zeros_from bs
few_within bs n few e = e ∙ ap (λ t. cond t 65_535 (zeros_from bs)) (not_le (nat_le 65_535 (zeros_from bs)) refl)
  where
    not_le : (t : Bool) → nat_le 65_535 (zeros_from bs) ≡ t → nat_le 65_535 (zeros_from bs) ≡ false
    not_le true q = absurd (omega (arith, few, zeros_within bs, leb-true 65_535 (zeros_from bs) q))
    not_le false q = q

-- a text as long as its room is all of it
pub all_held : (bs : List ℕ) (most : ℕ) → length bs ≡ most → length (take (zeros_from bs) bs) ≡ most
    → bs ≡ take (zeros_from bs) bs
all_held bs most long e =
    sym (take_all (zeros_from bs) bs (omega (arith, long, e, length-take (zeros_from bs) bs)))

-- without a zero they begin behind all bytes
pub none_found : (bs : List ℕ) → position (λ b. b == 0) bs ≡ None → length bs ≡ zeros_from bs
none_found bs e = go (nat_lt (zeros_from bs) (length bs)) refl e
  where
    go : (t : Bool) → nat_lt (zeros_from bs) (length bs) ≡ t → cond t (Some (zeros_from bs)) None ≡ None
        → length bs ≡ zeros_from bs
    go true q w = absurd cc
    go false q w = omega (arith, zeros_within bs, ltb-false (zeros_from bs) (length bs) q)

-- behind a text they begin
zeros_behind : (bs : List ℕ) (k : ℕ) → All IsPrintable bs → zeros_from (bs ++ replicate k 0) ≡ length bs
zeros_behind [] zero h = refl
zeros_behind [] (suc k) h = refl
zeros_behind (b ∷ bs) k h =
    let printable = All-head IsPrintable b bs h in
    let rest = zeros_behind bs k (All-tail IsPrintable b bs h) in
    ap (λ t. cond (not t) (1 + zeros_from (bs ++ replicate k 0)) 0) (ne_eqb b 0 (λ e. omega (arith, printable.0, e)))
    ∙ omega (arith, rest)

pub held_end : (most : ℕ) (bs : List ℕ) → All IsPrintable bs
    → zeros_from (bs ++ drop (length bs) (replicate most 0)) ≡ length bs
held_end most bs h =
    ap (λ z. zeros_from (bs ++ z)) (drop-replicate (length bs) most 0) ∙ zeros_behind bs (most - length bs) h

pub held_text : (most : ℕ) (bs : List ℕ) → All IsPrintable bs
    → take (zeros_from (bs ++ drop (length bs) (replicate most 0))) (bs ++ drop (length bs) (replicate most 0)) ≡ bs
held_text most bs h =
    ap (λ n. take n (bs ++ drop (length bs) (replicate most 0))) (held_end most bs h)
    ∙ take_at bs (drop (length bs) (replicate most 0)) (length bs) refl

-- nothing but zeros stands behind it
pub held_zeros : (most : ℕ) (bs : List ℕ) → All IsPrintable bs
    → bs ++ drop (length bs) (replicate most 0) ≡ with_zeros most
    (take (zeros_from (bs ++ drop (length bs) (replicate most 0))) (bs ++ drop (length bs) (replicate most 0)))
held_zeros most bs h =
    ap (λ z. bs ++ z) (drop-replicate (length bs) most 0) ∙ ap (with_zeros most) (sym (held_text most bs h))

-- bytes written over the first ones, and the front of others behind them
pub joined : (whole first rest held part : List ℕ) (k j : ℕ) → length first ≤ length whole
    → k ≡ min (length rest) (length whole - length first) → held ≡ first ++ drop (length first) whole
    → part ≡ take k rest
    → take (length first + k) (put_mid (length first) j held part) ≡ take (length whole) (first ++ rest)
joined whole first rest held part k j fits e h q =
    let n = length first in
    let room = length whole - n in
    let long : length part ≡ k = ap length q ∙ (length-take k rest ∙ omega (arith, e)) in
    let within : n ≤ length held = omega (arith, ap length h, length-append first (drop n whole)) in
    let front : take n held ≡ first = ap (take n) h ∙ take_at first (drop n whole) n refl in
    let back : part ≡ take room rest =
    q ∙ (ap (λ m. take m rest) (e ∙ min_comm (length rest) room) ∙ take_min room rest) in
    take-put_mid n j held part (n + k) (omega (arith, long)) within
    ∙ ((λ i. front i ++ back i)
    ∙ (sym (take-append-add first rest room) ∙ ap (λ m. take m (first ++ rest)) (omega (arith, fits))))
