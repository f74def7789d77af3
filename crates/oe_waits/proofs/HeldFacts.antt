-- The names that a terminal holds, shown one after another from the least on.
use Rattle.std.proofs.Common.{◌≡◌, ℕ, zero, suc, ◌+◌, ◌≤◌, Bool, true, false, cond, List, [], ◌∷◌, ◌++◌, length, take}
use Rattle.std.proofs.Common.{get_or, Option, None, Some, refl, sym, ap, ◌∙◌, subst, inl, inr, arith}
use Rattle.std.specs.Prelude.{◌⊎◌, ◌<◌, ◌&&◌, ◌||◌, not}
use Rattle.std.specs.Option.{MatchOption}
use Rattle.std.specs.List.{filter, flat_map}
use Rattle.std.proofs.lemmas.Bool.{cases_Bool, or_cases, true≢false}
use Rattle.std.proofs.lemmas.List.{append-nil, length-append, take_more, take_all}
use Rattle.std.proofs.lemmas.List.Concat.{flat_map-append}
use Rattle.std.proofs.lemmas.List.Elements.{filter_agree}
use Rattle.oe_rows.specs.declared.locks.Name.{Name}
use Rattle.oe_rows.specs.declared.locks.Name.TheVariants.{Warehouse, District, Customer, Order, Queue, Stock, Names}
use Rattle.oe_locks.specs.Held.{is_name}
use Rattle.oe_locks.specs.Listed.{stands}
use Rattle.oe_locks.proofs.NameFacts.{name_true, name_refl}
use Rattle.oe_theory.specs.World.{World}
use Rattle.oe_model.specs.System.{system}
use Rattle.oe_io.specs.Ports.{Sink, Sent, Cut}
use Rattle.oe_io.proofs.Streaming.{sent_then, sent_as, sent_waits, sent_cut, cut_as, cut_more}
use Rattle.oe_waits.specs.Waits.{last_terminal}
use Rattle.oe_waits.specs.Names.{all_names, holds, held_count, held_names, is_before, is_left, lesser, place, IsLeast}
use Rattle.oe_waits.specs.Names.{IsInRanges}
use Rattle.oe_waits.specs.Texts.{held_line, held_lines, texts_to}
use Rattle.oe_waits.proofs.OrderFacts.{all_sorted, before_itself, before_trans, is_among_all, no_longer, not_back}
use Rattle.oe_waits.proofs.OrderFacts.{not_before, of_filter, sorted_filter, IsSorted, Stands}
use Rattle.oe_waits.proofs.TextFacts.{texts_step, texts_parted}

-- the least name of a list

-- the least name of a list that counts, or that none does
abbrev pub IsBest : (Name → Bool) → List Name → Option Name → Type 0
IsBest f xs None = (q : Name) → stands xs q ≡ true → f q ≡ false
IsBest f xs (Some b) =
    (f b ≡ true) × ((q : Name) → stands xs q ≡ true → f q ≡ true → is_before (place q) (place b) ≡ false)

pub by_rest : (a b : Bool) → b ≡ true → (a || b) ≡ true
by_rest true b e = refl
by_rest false b e = e

-- what lies at a place of a list stands on it
pub stands_at : (xs : List Name) (i : ℕ) (x : Name) → x ≡ get_or xs i x → i < length xs → stands xs x ≡ true
stands_at [] i x is within = absurd (omega (arith, within))
stands_at (y ∷ ys) zero x is within = ap (λ b. b || stands ys x) (ap (is_name x) (sym is) ∙ name_refl x)
stands_at (y ∷ ys) (suc i) x is within =
    by_rest (is_name x y) (stands ys x) (stands_at ys i x is (omega (arith, within)))

pub stands_one_more : (xs : List Name) (x q : Name) → stands (xs ++ x ∷ []) q ≡ true → (stands xs q ≡ true) ⊎ (q ≡ x)
stands_one_more [] x q e = elim (or_cases (is_name q x) false e) [
  | inl h ↦ inr (name_true q x h)
  | inr h ↦ absurd (true≢false (sym h))
]
stands_one_more (y ∷ ys) x q e = go (or_cases (is_name q y) (stands (ys ++ x ∷ []) q) e) (λ h. stands_one_more ys x q h)
  where
    go : (is_name q y ≡ true) ⊎ (stands (ys ++ x ∷ []) q ≡ true)
        → (stands (ys ++ x ∷ []) q ≡ true → (stands ys q ≡ true) ⊎ (q ≡ x))
        → (stands (y ∷ ys) q ≡ true) ⊎ (q ≡ x)
    go (inl h) k = inl (ap (λ b. b || stands ys q) h)
    go (inr h) k = elim (k h) [
      | inl l ↦ inl (by_rest (is_name q y) (stands ys q) l)
      | inr r ↦ inr r
    ]

module _ (f : Name → Bool) (xs : List Name) (x : Name) where
  not_here : (q : Name) → f x ≡ false → q ≡ x → f q ≡ false
  not_here q e same = ap f same ∙ e

  best_next : (best : Option Name) (b : Bool) → f x ≡ b → IsBest f xs best → IsBest f (xs ++ x ∷ []) (lesser best x b)
  best_next None false e h = λ q m. elim (stands_one_more xs x q m) [
    | inl l ↦ h q l
    | inr r ↦ not_here q e r
  ]
  best_next (Some l) false e h = (
    h.0,
    λ q m k. elim (stands_one_more xs x q m) [
      | inl l ↦ h.1 q l k
      | inr r ↦ absurd (true≢false (sym k ∙ not_here q e r))
    ],
  )
  best_next None true e h = (
    e,
    λ q m k. elim (stands_one_more xs x q m) [
      | inl l ↦ absurd (true≢false (sym k ∙ h q l))
      | inr r ↦ ap (λ z. is_before (place z) (place x)) r ∙ before_itself (place x)
    ],
  )
  best_next (Some l) true e h = go (is_before (place x) (place l)) refl
    where
      go : (c : Bool) → is_before (place x) (place l) ≡ c
          → IsBest f (xs ++ x ∷ []) (cond c (Some x) (Some l))
      go true k = (
        e,
        λ q m t. elim (stands_one_more xs x q m) [
          | inl s ↦ not_before (place q) (place l) (place x) (h.1 q s t) (not_back (place x) (place l) k)
          | inr r ↦ ap (λ z. is_before (place z) (place x)) r ∙ before_itself (place x)
        ],
      )
      go false k = (
        h.0,
        λ q m t. elim (stands_one_more xs x q m) [
          | inl s ↦ h.1 q s t
          | inr r ↦ ap (λ z. is_before (place z) (place l)) r ∙ k
        ],
      )

pub best_more : (f : Name → Bool) (xs : List Name) (i : ℕ) (x : Name) (best : Option Name) → x ≡ get_or xs i x
    → i < length xs → IsBest f (take i xs) best → IsBest f (take (i + 1) xs) (lesser best x (f x))
best_more f xs i x best is within h =
    subst (λ ys. IsBest f ys (lesser best x (f x)))
    (ap (λ z. take i xs ++ z ∷ []) is ∙ sym (take_more xs i x within))
    (best_next f (take i xs) x best (f x) refl h)

pub best_all : (f : Name → Bool) (xs : List Name) (n : ℕ) (best : Option Name) → length xs ≤ n
    → IsBest f (take n xs) best → ((q : Name) → stands xs q ≡ false → f q ≡ false)
    → MatchOption best ((q : Name) → f q ≡ false) (IsLeast f)
best_all f xs n None long h none = λ q. by_list q (cases_Bool (stands xs q))
  where
    by_list : (q : Name) → (stands xs q ≡ true) ⊎ (stands xs q ≡ false) → f q ≡ false
    by_list q (inl m) = h q (ap (λ ys. stands ys q) (take_all n xs long) ∙ m)
    by_list q (inr m) = none q m
best_all f xs n (Some b) long h none = (h.0, λ q t. by_list q t (cases_Bool (stands xs q)))
  where
    by_list : (q : Name) → f q ≡ true → (stands xs q ≡ true) ⊎ (stands xs q ≡ false)
        → is_before (place q) (place b) ≡ false
    by_list q t (inl m) = h.1 q (ap (λ ys. stands ys q) (take_all n xs long) ∙ m) t
    by_list q t (inr m) = absurd (true≢false (sym t ∙ none q m))

-- of the names that a terminal holds those behind the place are left
module _ (w : World system) (t : ℕ) (p : List ℕ) (xs : List Name)
    (listed : (q : Name) → stands xs q ≡ holds w t q) where
  pub left_listed : (i : ℕ) (x : Name) → x ≡ get_or xs i x → i < length xs → is_before p (place x) ≡ is_left w t p x
  left_listed i x is within =
      sym (ap (λ b. is_before p (place x) && b) (sym (listed x) ∙ stands_at xs i x is within)
      ∙ and_true (is_before p (place x)))
    where
      and_true : (a : Bool) → (a && true) ≡ a
      and_true true = refl
      and_true false = refl

  -- and no other name
  pub not_left : (q : Name) → stands xs q ≡ false → is_left w t p q ≡ false
  not_left q e = ap (λ b. is_before p (place q) && b) (sym (listed q) ∙ e) ∙ never (is_before p (place q))
    where
      never : (a : Bool) → (a && false) ≡ false
      never true = refl
      never false = refl

-- the names that are shown so far

-- those up to a place
abbrev pub up_to : (Name → Bool) → List ℕ → List Name → List Name
up_to h p xs = filter (λ n. h n && not (is_before p (place n))) xs

kept : (b : Bool) (x : Name) (us vs : List Name) → cond b (x ∷ us) us ++ vs ≡ cond b (x ∷ us ++ vs) (us ++ vs)
kept true x us vs = refl
kept false x us vs = refl

behind_out : (a b : Bool) → b ≡ true → (a && not b) ≡ false
behind_out true true e = refl
behind_out true false e = absurd (true≢false (sym e))
behind_out false b e = refl

before_in : (a b : Bool) → b ≡ false → (a && not b) ≡ a
before_in true true e = absurd (true≢false e)
before_in true false e = refl
before_in false b e = refl

module _ (h : Name → Bool) where
  none_up_to : (p : List ℕ) (xs : List Name) → ((n : Name) → Stands n xs → is_before p (place n) ≡ true)
      → up_to h p xs ≡ []
  none_up_to p [] far = refl
  none_up_to p (x ∷ xs) far =
      ap (λ b. cond b (x ∷ up_to h p xs) (up_to h p xs)) (behind_out (h x) (is_before p (place x)) (far x (inl refl)))
      ∙ none_up_to p xs (λ n m. far n (inr m))

  -- where none that counts is behind the place, all are shown
  pub all_up_to : (p : List ℕ) (xs : List Name) → ((n : Name) → (is_before p (place n) && h n) ≡ false)
      → up_to h p xs ≡ filter h xs
  all_up_to p xs none = filter_agree (λ n. h n && not (is_before p (place n))) h
      (λ n. same (is_before p (place n)) (h n) (none n)) xs
    where
      same : (b a : Bool) → (b && a) ≡ false → (a && not b) ≡ a
      same true true e = absurd (true≢false e)
      same true false e = refl
      same false true e = refl
      same false false e = refl

  -- one name more is shown, the least that is left
  module _ (p : List ℕ) where
    here : (x : Name) (xs : List Name) → IsSorted (x ∷ xs) → h x ≡ true → is_before p (place x) ≡ true
        → up_to h (place x) (x ∷ xs) ≡ up_to h p (x ∷ xs) ++ x ∷ []
    here x xs s counts far =
        let own : (h x && not (is_before (place x) (place x))) ≡ true = before_in (h x) _ (before_itself (place x))
        ∙ counts in
        let before : (h x && not (is_before p (place x))) ≡ false = behind_out (h x) _ far in
        ap (λ b. cond b (x ∷ up_to h (place x) xs) (up_to h (place x) xs)) own
        ∙ (ap (λ ys. x ∷ ys) (none_up_to (place x) xs (λ n m. s.0 n m))
        ∙ sym (ap (λ b. cond b (x ∷ up_to h p xs) (up_to h p xs) ++ x ∷ []) before
        ∙ ap (λ ys. ys ++ x ∷ [])
        (none_up_to p xs (λ n m. before_trans p (place x) (place n) far (s.0 n m)))))

    pub next_up_to : (n : Name) (xs : List Name) → IsSorted xs → Stands n xs
        → IsLeast (λ q. is_before p (place q) && h q) n → up_to h (place n) xs ≡ up_to h p xs ++ n ∷ []
    next_up_to n [] s m least = absurd m
    next_up_to n (x ∷ xs) s (inl same) least =
        let far = parts (is_before p (place n)) (h n) least.0 in
        subst (λ z. up_to h (place z) (x ∷ xs) ≡ up_to h p (x ∷ xs) ++ z ∷ []) (sym same)
        (here x xs s (ap h (sym same) ∙ far.1) (ap (λ z. is_before p (place z)) (sym same) ∙ far.0))
      where
        parts : (a b : Bool) → (a && b) ≡ true → (a ≡ true) × (b ≡ true)
        parts true true e = (refl, refl)
        parts true false e = absurd (true≢false (sym e))
        parts false b e = absurd (true≢false (sym e))
    next_up_to n (x ∷ xs) s (inr m) least =
        ap (λ ys. cond (h x && not (is_before (place n) (place x))) (x ∷ ys) ys) (next_up_to n xs s.1 m least)
        ∙ (ap (λ b. cond b (x ∷ up_to h p xs ++ n ∷ []) (up_to h p xs ++ n ∷ []))
        (before_in (h x) _ (not_back (place x) (place n) (s.0 n m))
        ∙ sym (shown (is_before p (place x)) (h x) refl refl))
        ∙ sym (kept (h x && not (is_before p (place x))) x (up_to h p xs) (n ∷ [])))
      where
        shown : (b a : Bool) → is_before p (place x) ≡ b → h x ≡ a → (a && not b) ≡ a
        shown true true e f =
            let left : (is_before p (place x) && h x) ≡ true = ap (λ c. c && h x) e ∙ f in
            absurd (true≢false (sym (s.0 n m) ∙ least.1 x left))
        shown true false e f = refl
        shown false true e f = refl
        shown false false e f = refl

  -- those that are shown so far are the front of all
  pub rest_of : (p : List ℕ) (xs : List Name) → IsSorted xs → (rest : List Name) × (up_to h p xs ++ rest ≡ filter h xs)
  rest_of p [] s = ([], refl)
  rest_of p (x ∷ xs) s = go (cases_Bool (is_before p (place x))) (rest_of p xs s.1)
    where
      go : (is_before p (place x) ≡ true) ⊎ (is_before p (place x) ≡ false)
          → (rest : List Name) × (up_to h p xs ++ rest ≡ filter h xs)
          → (rest : List Name) × (up_to h p (x ∷ xs) ++ rest ≡ filter h (x ∷ xs))
      go (inl far) k = (
        filter h (x ∷ xs),
        ap (λ ys. ys ++ filter h (x ∷ xs)) (none_up_to p (x ∷ xs) (λ n m. all_far n m)),
      )
        where
          all_far : (n : Name) → Stands n (x ∷ xs) → is_before p (place n) ≡ true
          all_far n (inl e) = ap (λ z. is_before p (place z)) e ∙ far
          all_far n (inr m) = before_trans p (place x) (place n) far (s.0 n m)
      go (inr near) k = (
        k.0,
        kept (h x && not (is_before p (place x))) x (up_to h p xs) k.0
            ∙ (ap (λ ys. cond (h x && not (is_before p (place x))) (x ∷ ys) ys) k.1
            ∙ ap (λ b. cond b (x ∷ filter h xs) (filter h xs)) (before_in (h x) _ near)),
      )

-- a terminal's names up to a place, of all names
abbrev pub shown_names : World system → ℕ → List ℕ → List Name
shown_names w t p = up_to (holds w t) p all_names

abbrev pub shown_lines : World system → ℕ → List ℕ → List ℕ
shown_lines w t p = flat_map (held_line w t) (shown_names w t p)

-- all names are behind the empty place
all_behind : (n : Name) → is_before [] (place n) ≡ true
all_behind (Warehouse k) = refl
all_behind (District k) = refl
all_behind (Customer k) = refl
all_behind (Order k) = refl
all_behind (Queue k) = refl
all_behind (Stock k) = refl
all_behind (Names k last) = refl

pub none_shown : (w : World system) (t : ℕ) → shown_names w t [] ≡ []
none_shown w t = none_up_to (holds w t) [] all_names (λ n m. all_behind n)

pub few_shown : (w : World system) (t : ℕ) (p : List ℕ) → length (shown_names w t p) ≤ length (held_names w t)
few_shown w t p =
    let rest = rest_of (holds w t) p all_names all_sorted in
    let both = sym (length-append (shown_names w t p) rest.0) ∙ ap length rest.1 in
    omega (arith, both)

-- a terminal holds no more names than stand on a list with all that it holds
stands_on : (xs : List Name) (q : Name) → stands xs q ≡ true → Stands q xs
stands_on [] q e = absurd (true≢false (sym e))
stands_on (x ∷ xs) q e = elim (or_cases (is_name q x) (stands xs q) e) [
  | inl h ↦ inl (name_true q x h)
  | inr h ↦ inr (stands_on xs q h)
]

pub few_held : (w : World system) (t : ℕ) (xs : List Name)
    → ((q : Name) → stands xs q ≡ holds w t q) → length (held_names w t) ≤ length xs
few_held w t xs listed = no_longer (held_names w t) xs (sorted_filter (holds w t) all_names all_sorted)
    (λ q m. by_list q (of_filter (holds w t) all_names q m).1 (cases_Bool (stands xs q)))
  where
    by_list : (q : Name) → holds w t q ≡ true → (stands xs q ≡ true) ⊎ (stands xs q ≡ false) → Stands q xs
    by_list q h (inl m) = stands_on xs q m
    by_list q h (inr m) = absurd (true≢false (sym h ∙ (sym (listed q) ∙ m)))

pub one_shown : (w : World system) (t : ℕ) (p : List ℕ) (n : Name) → IsInRanges n → IsLeast (is_left w t p) n
    → shown_names w t (place n) ≡ shown_names w t p ++ n ∷ []
one_shown w t p n range least = next_up_to (holds w t) p n all_names all_sorted (is_among_all n range) least

pub all_shown : (w : World system) (t : ℕ) (p : List ℕ) → ((q : Name) → is_left w t p q ≡ false)
    → shown_names w t p ≡ held_names w t
all_shown w t p none = all_up_to (holds w t) p all_names none

-- a line more
pub line_shown : (w : World system) (t : ℕ) (p : List ℕ) (n : Name) → IsInRanges n → IsLeast (is_left w t p) n
    → shown_lines w t p ++ held_line w t n ≡ shown_lines w t (place n)
line_shown w t p n range least =
    sym (ap (flat_map (held_line w t)) (one_shown w t p n range least)
    ∙ flat_map-append (held_line w t) (shown_names w t p) (n ∷ [])
    ∙ ap (λ z. shown_lines w t p ++ z) (append-nil (held_line w t n)))

pub count_shown : (w : World system) (t : ℕ) (p : List ℕ) (n : Name) (k : ℕ) → IsInRanges n
    → IsLeast (is_left w t p) n → k ≡ length (shown_names w t p)
    → k + 1 ≡ length (shown_names w t (place n))
count_shown w t p n k range least e =
    sym (ap length (one_shown w t p n range least) ∙ length-append (shown_names w t p) (n ∷ [])
    ∙ ap (λ m. m + 1) (sym e))

-- where a write fails, a beginning of all lines went out
pub cut_names : (a b c : Option Sink) (h i : List ℕ) (w : World system) (t : ℕ) (p : List ℕ)
    → Sent a h b i (shown_lines w t p) → Cut b i c [] → Cut a h c (held_lines w t)
cut_names a b c h i w t p s k =
    let rest = rest_of (holds w t) p all_names all_sorted in
    let more = flat_map (held_line w t) rest.0 in
    cut_as a c h ((shown_lines w t p ++ []) ++ more) (held_lines w t)
    (ap (λ z. z ++ more) (append-nil (shown_lines w t p))
    ∙ (sym (flat_map-append (held_line w t) (shown_names w t p) rest.0) ∙ ap (flat_map (held_line w t)) rest.1))
    (cut_more a c h (shown_lines w t p ++ []) more (sent_cut a b c h i (shown_lines w t p) [] s k))

-- a line goes out behind those before
pub line_went : (a b c : Option Sink) (h i j k : List ℕ) (w : World system) (t : ℕ) (p : List ℕ) (n : Name)
    → IsInRanges n → IsLeast (is_left w t p) n → Sent a h b i (shown_lines w t p) → Sent b i c j []
    → k ≡ j ++ held_line w t n → Sent a h c k (shown_lines w t (place n))
line_went a b c h i j k w t p n range least s room e =
    sent_as a c h k (shown_lines w t p ++ held_line w t n) (shown_lines w t (place n))
    (line_shown w t p n range least)
    (sent_then a c c h j k (shown_lines w t p) (held_line w t n)
    (sent_as a c h j (shown_lines w t p ++ []) (shown_lines w t p) (append-nil (shown_lines w t p))
    (sent_then a b c h i j (shown_lines w t p) [] s room)) (sent_waits c j k (held_line w t n) e))

pub lines_cut : (a b c : Option Sink) (h i : List ℕ) (f : ℕ → List ℕ) (n m : ℕ) → m ≡ suc n → m ≤ 64
    → Sent a h b i (texts_to f n) → Cut b i c (f m) → Cut a h c (texts_to f last_terminal)
lines_cut a b c h i f n m one small s k =
    let p = texts_parted f m small in
    cut_as a c h ((texts_to f n ++ f m) ++ p.0) (texts_to f last_terminal)
    (ap (λ z. z ++ p.0) (texts_step f n m one) ∙ sym p.1)
    (cut_more a c h (texts_to f n ++ f m) p.0 (sent_cut a b c h i (texts_to f n) (f m) s k))

pub count_more : (w : World system) (n m k j : ℕ) → m ≡ suc n → k ≡ held_count w n → j ≡ length (held_names w m)
    → k + j ≡ held_count w m
count_more w n m k j one e f =
    ap (λ z. z + j) e ∙ (ap (λ z. held_count w n + z) (f ∙ ap (λ z. length (held_names w z)) one)
    ∙ ap (held_count w) (sym one))
