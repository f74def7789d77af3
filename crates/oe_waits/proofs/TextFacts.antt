-- The texts of terminals, one behind the other, and how they go out.
use Rattle.std.proofs.Common.{◌≡◌, ℕ, zero, suc, ◌≤◌, Bool, true, false, List, [], ◌∷◌, ◌++◌, refl, sym, ap, ◌∙◌, inl}
use Rattle.std.proofs.Common.{inr}
use Rattle.std.proofs.Common.{Option, arith}
use Rattle.std.specs.Prelude.{◌⊎◌, ◌≢◌, ◌+◌, ◌||◌, cond, Result, Ok, Err}
use Rattle.std.proofs.lemmas.Bool.{cases_Bool, cases_eq, or_cases, or_parts}
use Rattle.std.proofs.lemmas.List.{append-nil, append_assoc}
use Rattle.oe_theory.specs.World.{World}
use Rattle.oe_model.specs.System.{system}
use Rattle.oe_io.specs.Ports.{Sink, Sent, Cut, Streams}
use Rattle.oe_io.proofs.Streaming.{sent_then, sent_as, sent_waits, sent_cut, cut_as, cut_more}
use Rattle.oe_waits.specs.Knots.{any_to, count_to}
use Rattle.oe_waits.specs.Waits.{last_terminal, is_least_in_cycle}
use Rattle.oe_waits.specs.Texts.{texts_to, cycle_line, or_no_cycle}

-- the last terminal is number 64
pub last_is : (n : ℕ) → n ≡ 64 → n ≡ last_terminal
unfolding last_terminal
last_is n e = e

pub last_within : (n : ℕ) → n ≤ 64 → n ≤ last_terminal
unfolding last_terminal
last_within n h = h

-- one number more
pub texts_step : (f : ℕ → List ℕ) (n m : ℕ) → m ≡ suc n → texts_to f n ++ f m ≡ texts_to f m
texts_step f n m e = rw e refl

pub texts_on : (old items new : List ℕ) (f : ℕ → List ℕ) (n m : ℕ) → m ≡ suc n → items ≡ old ++ texts_to f n
    → new ≡ items ++ f m → new ≡ old ++ texts_to f m
texts_on old items new f n m one before more =
    more ∙ (ap (λ z. z ++ f m) before ∙ (append_assoc old (texts_to f n) (f m)
    ∙ ap (λ z. old ++ z) (texts_step f n m one)))

pub count_step : (f : ℕ → Bool) (n m k : ℕ) (b : Bool) → m ≡ suc n → b ≡ f m → k ≡ count_to f n
    → cond b (suc k) k ≡ count_to f m
count_step f n m k b e same counted = rw (same, e, counted) refl

pub any_step : (f : ℕ → Bool) (n m : ℕ) (a b : Bool) → m ≡ suc n → a ≡ any_to f n → b ≡ f m → (a || b) ≡ any_to f m
any_step f n m a b e found same = rw (found, same, e) refl

pub one_more : (b : Bool) (k n : ℕ) → k ≤ n → cond b (suc k) k ≤ n + 1
one_more true k n h = omega (arith, h)
one_more false k n h = omega (arith, h)

-- the texts of the first numbers begin those of all
parted : (f : ℕ → List ℕ) (n m : ℕ) → n ≤ m → (rest : List ℕ) × (texts_to f m ≡ texts_to f n ++ rest)
parted f n zero h =
    let same : n ≡ zero = omega (arith, h) in ([], ap (λ z. texts_to f z ++ []) (sym same))
parted f n (suc m) h = go (cases_eq n (suc m)) (λ other. parted f n m (omega (arith, h, other)))
  where
    go : (n ≡ suc m) ⊎ (n ≢ suc m) → (n ≢ suc m → (rest : List ℕ) × (texts_to f m ≡ texts_to f n ++ rest))
        → (rest : List ℕ) × (texts_to f (suc m) ≡ texts_to f n ++ rest)
    go (inl same) k = ([], ap (texts_to f) (sym same) ∙ sym (append-nil (texts_to f n)))
    go (inr other) k =
        let before = k other in (
          before.0 ++ f (suc m),
          ap (λ z. z ++ f (suc m)) before.1 ∙ append_assoc (texts_to f n) before.0 (f (suc m)),
        )

pub texts_parted : (f : ℕ → List ℕ) (n : ℕ) → n ≤ 64
    → (rest : List ℕ) × (texts_to f last_terminal ≡ texts_to f n ++ rest)
texts_parted f n small = parted f n last_terminal (last_within n small)

-- a line goes out behind what went out
pub went_on : (a b c : Option Sink) (h i j k : List ℕ) (f : ℕ → List ℕ) (n m : ℕ) → m ≡ suc n
    → Sent a h b i (texts_to f n) → Sent b i c j [] → k ≡ j ++ f m → Sent a h c k (texts_to f m)
went_on a b c h i j k f n m one s more e =
    sent_as a c h k (texts_to f n ++ f m) (texts_to f m) (texts_step f n m one)
    (sent_then a c c h j k (texts_to f n) (f m)
    (sent_as a c h j (texts_to f n ++ []) (texts_to f n) (append-nil (texts_to f n))
    (sent_then a b c h i j (texts_to f n) [] s more)) (sent_waits c j k (f m) e))

-- where a write fails, a beginning of all lines went out
pub cut_off : (a b c : Option Sink) (h i : List ℕ) (f : ℕ → List ℕ) (n : ℕ) → n ≤ 64 → Sent a h b i (texts_to f n)
    → Cut b i c [] → Cut a h c (texts_to f last_terminal)
cut_off a b c h i f n small s k =
    let p = parted f n last_terminal (last_within n small) in
    cut_as a c h ((texts_to f n ++ []) ++ p.0) (texts_to f last_terminal)
    (ap (λ z. z ++ p.0) (append-nil (texts_to f n)) ∙ sym p.1)
    (cut_more a c h (texts_to f n ++ []) p.0 (sent_cut a b c h i (texts_to f n) [] s k))

-- there is a line of a cycle exactly where one is the least in its cycle
kept_behind : (xs ys : List ℕ) → or_no_cycle xs ≡ xs → or_no_cycle (xs ++ ys) ≡ xs ++ ys
kept_behind [] ys e = let none : ⊥ = cc in absurd none
kept_behind (x ∷ xs) ys e = refl

kept_before : (xs : List ℕ) (y : ℕ) (ys : List ℕ) → or_no_cycle (xs ++ y ∷ ys) ≡ xs ++ y ∷ ys
kept_before [] y ys = refl
kept_before (x ∷ xs) y ys = refl

pub some_cycle : (w : World system) (n : ℕ) → any_to (is_least_in_cycle w) n ≡ true
    → or_no_cycle (texts_to (cycle_line w) n) ≡ texts_to (cycle_line w) n
some_cycle w zero e = let none : ⊥ = cc in absurd none
some_cycle w (suc n) e = go (cases_Bool (is_least_in_cycle w (suc n)))
    (or_cases (any_to (is_least_in_cycle w) n) (is_least_in_cycle w (suc n)) e) (λ h. some_cycle w n h)
  where
    go : (is_least_in_cycle w (suc n) ≡ true) ⊎ (is_least_in_cycle w (suc n) ≡ false)
        → (any_to (is_least_in_cycle w) n ≡ true) ⊎ (is_least_in_cycle w (suc n) ≡ true)
        → (any_to (is_least_in_cycle w) n ≡ true
        → or_no_cycle (texts_to (cycle_line w) n) ≡ texts_to (cycle_line w) n)
        → or_no_cycle (texts_to (cycle_line w) (suc n)) ≡ texts_to (cycle_line w) (suc n)
    go (inl here) k h = rw here (kept_before (texts_to (cycle_line w) n) _ _)
    go (inr not_here) (inl k) h = kept_behind (texts_to (cycle_line w) n) (cycle_line w (suc n)) (h k)
    go (inr not_here) (inr k) h = let none : ⊥ = cc in absurd none

pub no_cycle : (w : World system) (n : ℕ) → any_to (is_least_in_cycle w) n ≡ false → texts_to (cycle_line w) n ≡ []
no_cycle w zero e = refl
no_cycle w (suc n) e =
    let both = or_parts (any_to (is_least_in_cycle w) n) (is_least_in_cycle w (suc n)) e in
    rw (no_cycle w n both.0, both.1) refl

-- what is said where there is no cycle stands behind the lines of cycles, of which there are none
pub or_rest : (text : List ℕ) → (rest : List ℕ) × (text ++ rest ≡ or_no_cycle text)
or_rest [] = (or_no_cycle [], refl)
or_rest (b ∷ bs) = ([], append-nil (b ∷ bs))

-- where no line of a cycle went out, it is said so
pub after_none : {T E : Type 0} (a b c : Option Sink) (h i j text : List ℕ) (r : Result T E) → text ≡ []
    → Sent a h b i text → Streams b i c j (or_no_cycle []) r → Streams a h c j (or_no_cycle text) r
after_none a b c h i j text (Ok x) e s k =
    sent_as a c h j (text ++ or_no_cycle []) (or_no_cycle text) (rw e refl)
    (sent_then a b c h i j text (or_no_cycle []) s k)
after_none a b c h i j text (Err x) e s k =
    cut_as a c h (text ++ or_no_cycle []) (or_no_cycle text) (rw e refl) (sent_cut a b c h i text (or_no_cycle []) s k)

-- three parts that go out one behind the other
pub cut_first : (a b : Option Sink) (h x y z : List ℕ) → Cut a h b x → Cut a h b (x ++ y ++ z)
cut_first a b h x y z k = cut_more a b h (x ++ y) z (cut_more a b h x y k)

pub cut_second : (a b c : Option Sink) (h i x y z : List ℕ) → Sent a h b i x → Cut b i c y → Cut a h c (x ++ y ++ z)
cut_second a b c h i x y z s k = cut_more a c h (x ++ y) z (sent_cut a b c h i x y s k)

pub third : {T E : Type 0} (a b c d : Option Sink) (h i j k x y z : List ℕ) (r : Result T E) → Sent a h b i x
    → Sent b i c j y → Streams c j d k z r → Streams a h d k (x ++ y ++ z) r
third a b c d h i j k x y z (Ok v) s t u = sent_then a c d h j k (x ++ y) z (sent_then a b c h i j x y s t) u
third a b c d h i j k x y z (Err v) s t u = sent_cut a c d h j (x ++ y) z (sent_then a b c h i j x y s t) u
