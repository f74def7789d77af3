-- The options of audits and loads, word by word.
use Rattle.std.proofs.Common.{◌≡◌, ℕ, ◌-◌, ◌<◌, ◌≤◌, false, List, [], ◌∷◌, length, take, drop, map, get_or}
use Rattle.std.proofs.Common.{codes, ◌==◌, slice_index}
use Rattle.std.proofs.Common.{refl, sym, ap, subst, ◌∙◌, inl, inr, arith, Option, None, Some}
use Rattle.std.specs.Prelude.{MatchOption, Bool, true, ◌||◌, if◌then◌else◌}
use Rattle.std.proofs.lemmas.Fmt.{decimal_injective}
use Rattle.std.proofs.lemmas.Bool.{both_ways}
use Rattle.std.proofs.lemmas.List.{take_all}
use Rattle.oe_numbers.proofs.KindFacts.{names_one}
use Rattle.oe_command_line.specs.declared.options.Options.{Options}
use Rattle.oe_command_line.specs.declared.options.Flag.{Flag}
use Rattle.oe_command_line.specs.declared.options.Flag.TheVariants as flag
use Rattle.oe_command_line.specs.declared.options.Mark.{Mark}
use Rattle.oe_command_line.specs.declared.options.Mark.TheVariants as mark
use Rattle.oe_command_line.specs.Words.{Says, Adds, AddsFlag, AddsWord, flag_word, with_flag, mark_word}

-- NAMES OF OPTIONS

-- the names differ in this byte
abbrev flag_at : ℕ → Flag
flag_at n =
    if n == 118 then flag.Csv
    else if n == 111 then flag.Json
    else if n == 97 then flag.Flat
    else if n == 115 then flag.Busy
    else flag.Mix

flag_found : (f : Flag) → flag_at (slice_index (flag_word f) 4) ≡ f
flag_found flag.Csv = refl
flag_found flag.Json = refl
flag_found flag.Flat = refl
flag_found flag.Mix = refl
flag_found flag.Busy = refl

flag_same : (f g : Flag) → flag_word f ≡ flag_word g → f ≡ g
flag_same f g e = sym (flag_found f) ∙ ap (λ (w : List ℕ). flag_at (slice_index w 4)) e ∙ flag_found g

abbrev mark_at : ℕ → Mark
mark_at n = if n == 114 then mark.First else if n == 105 then mark.Initial else mark.Kinds

mark_found : (m : Mark) → mark_at (slice_index (mark_word m) 4) ≡ m
mark_found mark.First = refl
mark_found mark.Initial = refl
mark_found mark.Kinds = refl

mark_same : (m n : Mark) → mark_word m ≡ mark_word n → m ≡ n
mark_same m n e = sym (mark_found m) ∙ ap (λ (w : List ℕ). mark_at (slice_index w 4)) e ∙ mark_found n

-- whether the byte is one of a word alone; `--before` has 102 there
abbrev is_alone : ℕ → Bool
is_alone n = n == 118 || n == 111 || n == 97 || n == 115 || n == 120

flag_alone : (f : Flag) → is_alone (slice_index (flag_word f) 4) ≡ true
flag_alone flag.Csv = refl
flag_alone flag.Json = refl
flag_alone flag.Flat = refl
flag_alone flag.Mix = refl
flag_alone flag.Busy = refl

mark_no_flag : (m : Mark) → is_alone (slice_index (mark_word m) 4) ≡ false
mark_no_flag mark.First = refl
mark_no_flag mark.Initial = refl
mark_no_flag mark.Kinds = refl

not_both : (word : List ℕ) (f : Flag) (m : Mark) → word ≡ flag_word f → word ≡ mark_word m → ⊥
not_both word f m a b =
    both_ways (is_alone (slice_index (mark_word m) 4)) (mark_no_flag m)
    (ap (λ (w : List ℕ). is_alone (slice_index w 4)) (sym b ∙ a) ∙ flag_alone f)

-- ---- words say one set of options

word_one : (m : Mark) (o : Options) (word : List ℕ) (p q : Options) → AddsWord m o word p → AddsWord m o word q → p ≡ q
word_one mark.First o word p q a b =
    let n : a.0 ≡ b.0 = decimal_injective a.0 b.0 (omega (arith, a.1.1)) (omega (arith, b.1.1)) (sym a.2 ∙ b.2) in
    a.4 ∙ ap (λ n. record o { first = Some n }) n ∙ sym b.4
word_one mark.Initial o word p q a b =
    let n : a.0 ≡ b.0 = decimal_injective a.0 b.0 (omega (arith, a.1.1)) (omega (arith, b.1.1)) (sym a.2 ∙ b.2) in
    a.4 ∙ ap (λ n. record o { initial = Some n }) n ∙ sym b.4
word_one mark.Kinds o word p q a b =
    let k : a.0 ≡ b.0 = names_one word a.0 b.0 a.1 b.1 in
    a.3 ∙ ap (λ k. record o { kinds = Some k }) k ∙ sym b.3

adds_one : (o : Options) (name word : List ℕ) (p q : Options) → Adds o name word p → Adds o name word q → p ≡ q
adds_one o name word p q a b =
    let m : b.0 ≡ a.0 = mark_same b.0 a.0 (sym b.1 ∙ a.1) in
    word_one a.0 o word p q a.2 (subst (λ (n : Mark). AddsWord n o word q) m b.2)

flag_one : (o : Options) (word : List ℕ) (p q : Options) → AddsFlag o word p → AddsFlag o word q → p ≡ q
flag_one o word p q a b =
    a.3 ∙ ap (λ (f : Flag). with_flag f o) (flag_same a.0 b.0 (sym a.1 ∙ b.1)) ∙ sym b.3

apart : (o : Options) (name word : List ℕ) (p q : Options) → AddsFlag o name p → Adds o name word q → ⊥
apart o name word p q a b = not_both name a.0 b.0 a.1 b.1

-- a name that is added with its word
pub word_adds : (m n : Mark) (o : Options) (name word : List ℕ) (r : Option Options) → name ≡ mark_word m → m ≡ n
    → MatchOption r ((p : Options) → AddsWord n o word p → ⊥) (AddsWord n o word)
    → MatchOption r ((p : Options) → Adds o name word p → ⊥) (Adds o name word)
word_adds m n o name word None e i h =
    λ p a. h p (subst (λ (k : Mark). AddsWord k o word p) (mark_same a.0 m (sym a.1 ∙ e) ∙ i) a.2)
word_adds m n o name word (Some p) e i h = (m, e, subst (λ (k : Mark). AddsWord k o word p) (sym i) h)

-- no option is `--before`
pub no_before : (o p : Options) (word : List ℕ) (rest : List (List ℕ)) → Says o (codes "--before" ∷ word ∷ rest) p → ⊥
no_before o p word rest (inl (q, a, s)) =
    both_ways (is_alone (slice_index (codes "--before") 4)) refl
    (ap (λ (w : List ℕ). is_alone (slice_index w 4)) a.1 ∙ flag_alone a.0)
no_before o p word rest (inr (q, a, s)) = no_mark a.0 a.1
  where
    no_mark : (m : Mark) → codes "--before" ≡ mark_word m → ⊥
    no_mark mark.First e = cc
    no_mark mark.Initial e = cc
    no_mark mark.Kinds e = cc

pub says_one : (o : Options) (ws : List (List ℕ)) (p q : Options) → Says o ws p → Says o ws q → p ≡ q
says_one o [] p q a b = a ∙ sym b
says_one o (mark ∷ []) p q a b = flag_one o mark p q a b
says_one o (mark ∷ word ∷ rest) p q (inl (x, a, s)) (inl (y, b, t)) = says_one x (word ∷ rest) p q s
    (subst (λ z. Says z (word ∷ rest) q) (flag_one o mark y x b a) t)
says_one o (mark ∷ word ∷ rest) p q (inl (x, a, s)) (inr (y, b, t)) = absurd (apart o mark word x y a b)
says_one o (mark ∷ word ∷ rest) p q (inr (x, a, s)) (inl (y, b, t)) = absurd (apart o mark word y x b a)
says_one o (mark ∷ word ∷ rest) p q (inr (x, a, s)) (inr (y, b, t)) = says_one x rest p q s
    (subst (λ z. Says z rest q) (adds_one o mark word y x b a) t)

-- ---- words behind words

module _ {X : Type 0} (f : X → List ℕ) (o next : Options) where
  flag_behind : (x : X) (r : List X) (answer : Option Options) → AddsFlag o (f x) next
      → MatchOption answer ((p : Options) → Says next (map f r) p → ⊥) (Says next (map f r))
      → MatchOption answer ((p : Options) → Says o (map f (x ∷ r)) p → ⊥) (Says o (map f (x ∷ r)))
  flag_behind x [] None a h = absurd (h next refl)
  flag_behind x [] (Some p) a h = subst (AddsFlag o (f x)) (sym h) a
  flag_behind x (y ∷ r) None a h = λ p s. no p s
    where
      no : (p : Options) → Says o (f x ∷ f y ∷ map f r) p → ⊥
      no p (inl s) = h p (subst (λ q. Says q (f y ∷ map f r) p) (flag_one o (f x) s.0 next s.1 a) s.2)
      no p (inr s) = apart o (f x) (f y) next s.0 a s.1
  flag_behind x (y ∷ r) (Some p) a h = inl (next, a, h)

  pub flag_first : (ws : List X) (b : X) (mark : List ℕ) (answer : Option Options) → 1 ≤ length ws
      → b ≡ get_or ws 0 b → mark ≡ f b → AddsFlag o mark next
      → MatchOption answer ((p : Options) → Says next (map f (take (length ws - 1) (drop 1 ws))) p → ⊥)
      (Says next (map f (take (length ws - 1) (drop 1 ws))))
      → MatchOption answer ((p : Options) → Says o (map f ws) p → ⊥) (Says o (map f ws))
  flag_first [] b mark answer h i e a s = absurd (omega (arith, h))
  flag_first (x ∷ r) b mark answer h i e a s =
      let whole : take (length (x ∷ r) - 1) r ≡ r = take_all (length (x ∷ r) - 1) r (omega arith) in
      flag_behind x r answer (subst (λ m. AddsFlag o m next) (e ∙ ap f i) a)
      (subst (λ (ts : List X). MatchOption answer ((p : Options) → Says next (map f ts) p → ⊥)
      (Says next (map f ts))) whole s)

  -- a single word that is no option
  pub one_word : (ws : List X) (b : X) (mark : List ℕ) → length ws < 2 → 1 ≤ length ws → b ≡ get_or ws 0 b
      → mark ≡ f b → ((p : Options) → AddsFlag o mark p → ⊥) → (p : Options) → Says o (map f ws) p → ⊥
  one_word [] b mark h g i e n p s = omega (arith, g)
  one_word (x ∷ []) b mark h g i e n p s = n p (subst (λ m. AddsFlag o m p) (sym (e ∙ ap f i)) s)
  one_word (x ∷ y ∷ r) b mark h g i e n p s = omega (arith, h)

  -- neither of the first words is an option
  pub no_option : (ws : List X) (b d c : X) (mark again word : List ℕ) → 2 ≤ length ws → b ≡ get_or ws 0 b
      → mark ≡ f b → d ≡ get_or ws 0 d → again ≡ f d → c ≡ get_or ws 1 c → word ≡ f c
      → ((p : Options) → AddsFlag o mark p → ⊥) → ((p : Options) → Adds o again word p → ⊥)
      → (p : Options) → Says o (map f ws) p → ⊥
  no_option [] b d c mark again word h i e j g k l n m p s = omega (arith, h)
  no_option (x ∷ []) b d c mark again word h i e j g k l n m p s = omega (arith, h)
  no_option (x ∷ y ∷ r) b d c mark again word h i e j g k l n m p (inl s) =
      n s.0 (subst (λ z. AddsFlag o z s.0) (sym (e ∙ ap f i)) s.1)
  no_option (x ∷ y ∷ r) b d c mark again word h i e j g k l n m p (inr s) =
      m s.0 (subst (λ z. Adds o z word s.0) (sym (g ∙ ap f j)) (subst (λ z. Adds o (f x) z s.0) (sym (l ∙ ap f k)) s.1))

  word_behind : (x y : X) (r : List X) (answer : Option Options) → Adds o (f x) (f y) next
      → MatchOption answer ((p : Options) → Says next (map f r) p → ⊥) (Says next (map f r))
      → MatchOption answer ((p : Options) → Says o (map f (x ∷ y ∷ r)) p → ⊥) (Says o (map f (x ∷ y ∷ r)))
  word_behind x y r None a h = λ p s. no p s
    where
      no : (p : Options) → Says o (f x ∷ f y ∷ map f r) p → ⊥
      no p (inl s) = apart o (f x) (f y) s.0 next s.1 a
      no p (inr s) = h p (subst (λ q. Says q (map f r) p) (adds_one o (f x) (f y) s.0 next s.1 a) s.2)
  word_behind x y r (Some p) a h = inr (next, a, h)

  pub word_first : (ws : List X) (d c : X) (again word : List ℕ) (answer : Option Options) → 2 ≤ length ws
      → d ≡ get_or ws 0 d → again ≡ f d → c ≡ get_or ws 1 c → word ≡ f c → Adds o again word next
      → MatchOption answer ((p : Options) → Says next (map f (take (length ws - 2) (drop 2 ws))) p → ⊥)
      (Says next (map f (take (length ws - 2) (drop 2 ws))))
      → MatchOption answer ((p : Options) → Says o (map f ws) p → ⊥) (Says o (map f ws))
  word_first [] d c again word answer h j g k l a s = absurd (omega (arith, h))
  word_first (x ∷ []) d c again word answer h j g k l a s = absurd (omega (arith, h))
  word_first (x ∷ y ∷ r) d c again word answer h j g k l a s =
      let whole : take (length (x ∷ y ∷ r) - 2) r ≡ r = take_all (length (x ∷ y ∷ r) - 2) r (omega arith) in
      word_behind x y r answer
      (subst (λ z. Adds o z (f y) next) (g ∙ ap f j) (subst (λ z. Adds o again z next) (l ∙ ap f k) a))
      (subst (λ (ts : List X). MatchOption answer ((p : Options) → Says next (map f ts) p → ⊥)
      (Says next (map f ts))) whole s)
