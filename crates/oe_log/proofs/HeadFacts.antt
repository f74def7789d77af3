-- Terminals and commits keep of themselves what they promise when the state of one terminal is replaced.
use Rattle.std.proofs.Common.{◌≡◌, ◌≢◌, ℕ, zero, suc, ◌==◌, take, ◌+◌, ◌-◌, ◌*◌, ◌<◌, ◌≤◌, refl, sym, ap, ◌∙◌, subst}
use Rattle.std.proofs.Common.{inl, inr, arith, rules, cond, replicate, List, [], ◌∷◌, length, get_or, set, Bool, true}
use Rattle.std.proofs.Common.{false, Option, None, Some, is_some}
use Rattle.std.specs.Option.{IsSome}
use Rattle.std.specs.Prelude.{slice_get}
use Rattle.std.proofs.Math.Nat.{add-suc, add-zero}
use Rattle.std.specs.List.{All, sum_by}
use Rattle.std.proofs.lemmas.Bool.{cases_eq, cases_lt, cond-true, cond-false, eq-eqb, ne_eqb}
use Rattle.std.proofs.lemmas.List.{length-set, length-replicate, get_or-set_same, get_or-set_other, get_or-replicate}
use Rattle.std.proofs.lemmas.List.{get_or_past}
use Rattle.std.proofs.lemmas.Option.{slice_get-get_or, slice_get_past}
use Rattle.std.proofs.lemmas.List.Sums.{sum_by-set, sum_by-le, get_or-le-sum_by, count_by-le-length}
use Rattle.std.proofs.lemmas.List.Folds.{sum_by-replicate}
use Rattle.std.proofs.lemmas.List.Elements.{All-set, All-weaker, All-cons, All-nil, All-replicate, All-take}
use Rattle.oe_log.specs.declared.heads.SegmentOwner.{SegmentOwner}
use Rattle.oe_log.specs.declared.heads.TerminalHead.{TerminalHead}
use Rattle.oe_log.specs.Kept.{Head, idle_head, head_at, idle_heads, heads_of, IsOf, IsCounted, AreNumbered, AreHeads}

-- what holds of each terminal's state still holds when one is replaced by a state of which it holds
at_set : (P : ℕ → TerminalHead → Type 0) (hs : List TerminalHead) (t : ℕ) (h : TerminalHead) → t < length hs → P t h
    → ((u : ℕ) → P u (head_at hs u)) → (u : ℕ) → P u (head_at (set hs t h) u)
at_set P hs t h within new old u =
    elim (cases_eq u t) [
      | inl e ↦ subst (λ v. P v (head_at (set hs t h) v)) (sym e)
          (subst (P t) (sym (get_or-set_same hs t h idle_head within)) new)
      | inr ne ↦ subst (P u) (sym (get_or-set_other hs t u h idle_head ne)) (old u)
    ]

abbrev pub one : Option SegmentOwner → ℕ
one a = cond (is_some a) 1 0

-- a terminal's state x is replaced by h
pub replaced : (hs : List TerminalHead) (cs ds : List Head) (k n o k' n' o' t : ℕ) (x h : TerminalHead)
    → AreHeads hs cs k n o → 1 ≤ t → t ≤ 64 → x ≡ head_at hs t → h.count < 4_294_967_296
    → ((a : SegmentOwner) → h.active ≡ Some a → IsOf t h.count a) → All (IsCounted (set hs t h)) ds
    → AreNumbered (λ u. (head_at (set hs t h) u).count) ds
    → n' + x.count ≡ n + h.count → length ds ≤ n' → o' + one x.active ≡ o + one h.active → length ds + o' ≤ k'
    → AreHeads (set hs t h) ds k' n' o'
replaced hs cs ds k n o k' n' o' t x h K low high is small of counted numbered moved kept opens spare =
    let size : length hs ≡ 65 = K.size in
    let within : t < length hs = omega arith in
    let not_0 : 0 ≢ t = omega arith in
    let counts = sum_by-set (λ (z : TerminalHead). z.count) hs t h idle_head within in
    let openings = sum_by-set (λ (z : TerminalHead). one z.active) hs t h idle_head within in
    let count_is : x.count ≡ (head_at hs t).count = ap (λ z. z.count) is in
    let one_is : one x.active ≡ one (head_at hs t).active = ap (λ z. one z.active) is in
    let sum_is = K.moments in
    let opens_is = K.opens_are in
    record {
      size = length-set hs t h ∙ K.size;
      nobody = ap (λ z. z.active) (get_or-set_other hs t 0 h idle_head not_0) ∙ K.nobody;
      counts = All-set (λ z. z.count < 4_294_967_296) hs t h small K.counts;
      active = at_set (λ u z. (a : SegmentOwner) → z.active ≡ Some a → IsOf u z.count a) hs t h within of K.active;
      commits = counted;
      numbers = numbered;
      moments = omega arith;
      kept = kept;
      opens_are = omega arith;
      spare = spare;
    }

-- the commits are counted still
counted_still : (hs : List TerminalHead) (cs : List Head) (t : ℕ) (x h : TerminalHead) → t < length hs
    → x ≡ head_at hs t → x.count ≤ h.count
    → All (IsCounted hs) cs → All (IsCounted (set hs t h)) cs
counted_still hs cs t x h within is more old =
    let here : (head_at hs t).count ≤ h.count = subst (λ z. z.count ≤ h.count) is more in
    let all : (u : ℕ) → (head_at hs u).count ≤ (head_at (set hs t h) u).count =
    at_set (λ u z. (head_at hs u).count ≤ z.count) hs t h within here (λ u. omega arith) in
    All-weaker (IsCounted hs) (IsCounted (set hs t h))
    (λ c k. let below = all c.terminal in let was = k.number in record { first = k.first; number = omega arith }) cs old

-- and their numbers are the same where a terminal's count stays
numbered_still : (hs : List TerminalHead) (cs : List Head) (t : ℕ) (x h : TerminalHead) → t < length hs
    → x ≡ head_at hs t → h.count ≡ x.count
    → AreNumbered (λ u. (head_at hs u).count) cs → AreNumbered (λ u. (head_at (set hs t h) u).count) cs
numbered_still hs cs t x h within is same old =
    let here : h.count ≡ (head_at hs t).count = same ∙ ap (λ z. z.count) is in
    let all : (u : ℕ) → (head_at (set hs t h) u).count ≡ (head_at hs u).count =
    at_set (λ u z. z.count ≡ (head_at hs u).count) hs t h within here (λ u. refl) in
    λ later c e. old later c e ∙ sym (all c.terminal)

-- a commit's number is the count of its terminal, and those before it are as they were
numbered_more : (f g : ℕ → ℕ) (cs : List Head) (d : Head) (t : ℕ) → d.terminal ≡ t → d.number ≡ g t → g t ≡ suc (f t)
    → ((u : ℕ) → u ≢ t → g u ≡ f u)
    → AreNumbered f cs → AreNumbered g (d ∷ cs)
numbered_more f g cs d t terminal number more others old later c e = go later e
  where
    front : slice_get (d ∷ cs) 0 ≡ Some c → c.number + heads_of c.terminal [] ≡ g c.terminal
    front h = let same : d ≡ c = cc in subst (λ z. z.number + 0 ≡ g z.terminal) same
        (add-zero d.number ∙ (number ∙ ap g (sym terminal)))

    past : (j : ℕ) → slice_get cs j ≡ Some c → c.number + cond (c.terminal == d.terminal)
        (suc (heads_of c.terminal (take j cs))) (heads_of c.terminal (take j cs)) ≡ g c.terminal
    past j h =
        let was : c.number + heads_of c.terminal (take j cs) ≡ f c.terminal = old j c h in
        elim (cases_eq c.terminal t) [
          | inl p ↦
              let here : c.terminal ≡ d.terminal = p ∙ sym terminal in
              ap (λ z. c.number + z)
              (cond-true (c.terminal == d.terminal) (suc (heads_of c.terminal (take j cs)))
              (heads_of c.terminal (take j cs)) (eq-eqb c.terminal d.terminal here))
              ∙ (add-suc c.number (heads_of c.terminal (take j cs))
              ∙ (ap suc was ∙ (ap (λ z. suc (f z)) p ∙ (sym more ∙ ap g (sym p)))))
          | inr ne ↦
              let apart : c.terminal ≢ d.terminal = λ q. ne (q ∙ terminal) in
              ap (λ z. c.number + z)
              (cond-false (c.terminal == d.terminal) (suc (heads_of c.terminal (take j cs)))
              (heads_of c.terminal (take j cs)) (ne_eqb c.terminal d.terminal apart))
              ∙ (was ∙ sym (others c.terminal ne))
        ]

    go : (i : ℕ) → slice_get (d ∷ cs) i ≡ Some c → c.number + heads_of c.terminal (take i (d ∷ cs)) ≡ g c.terminal
    go zero h = front h
    go (suc j) h = past j h

-- all commits together fit a moment
pub moment_fits : (hs : List TerminalHead) (cs : List Head) (k n o : ℕ) → AreHeads hs cs k n o → n ≤ 279_172_874_175
moment_fits hs cs k n o K =
    let size : length hs ≡ 65 = K.size in
    let moments = K.moments in
    let most = sum_by-le (λ (z : TerminalHead). z.count) 4_294_967_295 hs
    (All-weaker (λ (z : TerminalHead). z.count < 4_294_967_296) (λ z. z.count ≤ 4_294_967_295) (λ z h. omega arith)
    hs K.counts) in
    let all : length hs * 4_294_967_295 ≡ 279_172_874_175 = ap (λ z. z * 4_294_967_295) size in
    omega arith

-- where a terminal has a segment open, some are
pub one_of_some : (a : Option SegmentOwner) → IsSome a → one a ≡ 1
one_of_some None h = search (rules, h)
one_of_some (Some o) h = refl

pub some_open : (hs : List TerminalHead) (cs : List Head) (k n o t : ℕ) → AreHeads hs cs k n o → t ≤ 64
    → IsSome (head_at hs t).active → 1 ≤ o
some_open hs cs k n o t K high active =
    let size : length hs ≡ 65 = K.size in
    let within : t < length hs = omega arith in
    let is : one (head_at hs t).active ≡ 1 = one_of_some (head_at hs t).active active in
    let least = get_or-le-sum_by (λ (z : TerminalHead). one z.active) hs t idle_head within in
    let opens = K.opens_are in
    omega arith

-- and where one has none, not all 64 are
none_above : (hs : List TerminalHead) → sum_by (λ (z : TerminalHead). one z.active) hs ≤ length hs
none_above hs = count_by-le-length (λ (z : TerminalHead). is_some z.active) hs

all_but_two : (hs : List TerminalHead) (t : ℕ) → t < length hs → 1 ≤ t → one (get_or hs 0 idle_head).active ≡ 0
    → one (get_or hs t idle_head).active ≡ 0
    → sum_by (λ (z : TerminalHead). one z.active) hs + 2 ≤ length hs
all_but_two hs t within low nobody closed =
    let taken : TerminalHead =
    record { count = 0; active = Some (record { terminal = 0; number = 0 }); deletes = false; len = 0 } in
    let not_0 : 0 ≢ t = omega arith in
    let first = sum_by-set (λ (z : TerminalHead). one z.active) hs 0 taken idle_head (omega arith) in
    let second = sum_by-set (λ (z : TerminalHead). one z.active) (set hs 0 taken) t taken idle_head
    (omega (arith, length-set hs 0 taken)) in
    let still : one (get_or (set hs 0 taken) t idle_head).active ≡ 0 =
    ap (λ z. one z.active) (get_or-set_other hs 0 t taken idle_head (λ e. not_0 (sym e))) ∙ closed in
    let most = none_above (set (set hs 0 taken) t taken) in
    let same : length (set (set hs 0 taken) t taken) ≡ length hs = length-set (set hs 0 taken) t taken
    ∙ length-set hs 0 taken in
    omega arith

pub few_open : (hs : List TerminalHead) (cs : List Head) (k n o t : ℕ) → AreHeads hs cs k n o → 1 ≤ t → t ≤ 64
    → (head_at hs t).active ≡ None → o < 64
few_open hs cs k n o t K low high closed =
    let size : length hs ≡ 65 = K.size in
    let within : t < length hs = omega arith in
    let two = all_but_two hs t within low (ap one K.nobody) (ap one closed) in
    let opens = K.opens_are in
    omega arith

-- ---- what the calls make of them

-- a segment is opened, of the terminal's next number
pub opened : (hs : List TerminalHead) (cs : List Head) (k n o k' o' t : ℕ) (x : TerminalHead) (m : Bool) (j : ℕ)
    (b : SegmentOwner)
    → AreHeads hs cs k n o → 1 ≤ t → t ≤ 64 → x ≡ head_at hs t → (head_at hs t).active ≡ None
    → (head_at hs t).count < 4_294_967_295
    → b.terminal ≡ t → b.number ≡ suc x.count → o' ≡ suc o → length cs + o' ≤ k'
    → AreHeads (set hs t (record { count = x.count; active = Some b; deletes = m; len = j })) cs k' n o'
opened hs cs k n o k' o' t x m j b K low high is closed below terminal number more spare =
    let size : length hs ≡ 65 = K.size in
    let within : t < length hs = omega arith in
    let count_is : x.count ≡ (head_at hs t).count = ap (λ z. z.count) is in
    let h : TerminalHead = record { count = x.count; active = Some b; deletes = m; len = j } in
    let one_is : one x.active ≡ 0 = ap (λ z. one z.active) is ∙ ap one closed in
    let of : IsOf t x.count b = record { terminal = terminal; number = number; below = omega arith } in
    replaced hs cs cs k n o k' n o' t x h K low high is (omega arith)
    (λ y e. let same : b ≡ y = cc in subst (IsOf t x.count) same of)
    (counted_still hs cs t x h within is (omega arith) K.commits) (numbered_still hs cs t x h within is refl K.numbers)
    refl K.kept (omega arith) spare

-- the open transaction of a terminal
pub is_of : (hs : List TerminalHead) (cs : List Head) (k n o t : ℕ) (x : TerminalHead) (a : SegmentOwner)
    → AreHeads hs cs k n o → x ≡ head_at hs t → x.active ≡ Some a → IsOf t x.count a
is_of hs cs k n o t x a K is active =
    subst (λ z. IsOf t z.count a) (sym is) (K.active t a (ap (λ z. z.active) (sym is) ∙ active))

-- it is said of a terminal's segment whether it deletes
pub told : (hs : List TerminalHead) (cs : List Head) (k n o t : ℕ) (x : TerminalHead) (m : Bool) (j : ℕ)
    → AreHeads hs cs k n o → 1 ≤ t → t ≤ 64 → x ≡ head_at hs t
    → AreHeads (set hs t (record { count = x.count; active = x.active; deletes = m; len = j })) cs k n o
told hs cs k n o t x m j K low high is =
    let size : length hs ≡ 65 = K.size in
    let within : t < length hs = omega arith in
    let h : TerminalHead = record { count = x.count; active = x.active; deletes = m; len = j } in
    let small : x.count < 4_294_967_296 = subst (λ z. z.count < 4_294_967_296) (sym is) (K.counts t idle_head within) in
    replaced hs cs cs k n o k n o t x h K low high is small (λ a e. is_of hs cs k n o t x a K is e)
    (counted_still hs cs t x h within is (omega arith) K.commits) (numbered_still hs cs t x h within is refl K.numbers)
    refl K.kept refl K.spare

-- its open segment is gone
pub closed : (hs : List TerminalHead) (cs : List Head) (k n o t : ℕ) (x : TerminalHead) (m : Bool) (j : ℕ)
    → AreHeads hs cs k n o → 1 ≤ t → t ≤ 64 → x ≡ head_at hs t → IsSome (head_at hs t).active
    → AreHeads (set hs t (record { count = x.count; active = None; deletes = m; len = j })) cs k n (o - 1)
closed hs cs k n o t x m j K low high is active =
    let size : length hs ≡ 65 = K.size in
    let within : t < length hs = omega arith in
    let one_is : one x.active ≡ 1 = ap (λ z. one z.active) is ∙ one_of_some (head_at hs t).active active in
    let some : 1 ≤ o = some_open hs cs k n o t K high active in
    let counts : x.count < 4_294_967_296 = subst (λ z. z.count < 4_294_967_296) (sym is)
    (K.counts t idle_head within) in
    let spare = K.spare in
    replaced hs cs cs k n o k n (o - 1) t x (record { count = x.count; active = None; deletes = m; len = j }) K low high
    is counts
    (λ c e. cc) (counted_still hs cs t x (record { count = x.count; active = None; deletes = m; len = j }) within is
    (omega arith) K.commits)
    (numbered_still hs cs t x (record { count = x.count; active = None; deletes = m; len = j }) within is refl
    K.numbers)
    refl K.kept (omega arith) (omega arith)

-- an open segment is made that of a commit
pub sealed : (hs : List TerminalHead) (cs : List Head) (k n o k' n' t : ℕ) (x : TerminalHead) (m : Bool) (j : ℕ)
    (a : SegmentOwner) (d : Head)
    → AreHeads hs cs k n o → 1 ≤ t → t ≤ 64 → x ≡ head_at hs t → x.active ≡ Some a
    → d.terminal ≡ a.terminal → d.number ≡ a.number → k' ≡ k → n' ≡ suc n
    → AreHeads (set hs t (record { count = suc x.count; active = None; deletes = m; len = j })) (d ∷ cs) k' n' (o - 1)
sealed hs cs k n o k' n' t x m j a d K low high is active whose which capacity moment =
    let size : length hs ≡ 65 = K.size in
    let within : t < length hs = omega arith in
    let h : TerminalHead = record { count = suc x.count; active = None; deletes = m; len = j } in
    let of : IsOf t x.count a = is_of hs cs k n o t x a K is active in
    let one_is : one x.active ≡ 1 = ap one active in
    let some : IsSome (head_at hs t).active = subst (λ z. IsSome z.active) is
    (subst IsSome (sym active) (search rules)) in
    let more : 1 ≤ o = some_open hs cs k n o t K high some in
    let below = of.below in
    let number = of.number in
    let spare = K.spare in
    let kept = K.kept in
    let terminal_is : d.terminal ≡ t = whose ∙ of.terminal in
    let now : (head_at (set hs t h) d.terminal).count ≡ suc x.count =
    ap (λ z. (head_at (set hs t h) z).count) terminal_is ∙ ap (λ z. z.count)
    (get_or-set_same hs t h idle_head within) in
    let count_is : x.count ≡ (head_at hs t).count = ap (λ z. z.count) is in
    let count_now : (head_at (set hs t h) t).count ≡ suc x.count = ap (λ z. z.count)
    (get_or-set_same hs t h idle_head within) in
    let new : IsCounted (set hs t h) d = record { first = omega arith; number = omega arith } in
    replaced hs cs (d ∷ cs) k n o k' n' (o - 1) t x h K low high is (omega arith)
    (λ c e. cc)
    (All-cons (IsCounted (set hs t h)) d cs new (counted_still hs cs t x h within is (omega arith) K.commits))
    (numbered_more (λ u. (head_at hs u).count) (λ u. (head_at (set hs t h) u).count) cs d t terminal_is
    (which ∙ (number ∙ sym count_now)) (count_now ∙ ap suc count_is)
    (λ u ne. ap (λ z. z.count) (get_or-set_other hs t u h idle_head ne)) K.numbers)
    (omega arith) (omega arith) (omega arith) (omega arith)

-- the front of a list of commits
pub found_in_front : (cs : List Head) (n j : ℕ) (c : Head) → slice_get (take n cs) j ≡ Some c → slice_get cs j ≡ Some c
found_in_front cs zero j c e = let no : ⊥ = cc in absurd no
found_in_front [] (suc n) j c e = let no : ⊥ = cc in absurd no
found_in_front (d ∷ cs) (suc n) zero c e = e
found_in_front (d ∷ cs) (suc n) (suc j) c e = found_in_front cs n j c e

later_in_front : (cs : List Head) (n j : ℕ) (c : Head) → slice_get (take n cs) j ≡ Some c
    → take j cs ≡ take j (take n cs)
later_in_front cs zero j c e = let no : ⊥ = cc in absurd no
later_in_front [] (suc n) j c e = let no : ⊥ = cc in absurd no
later_in_front (d ∷ cs) (suc n) zero c e = refl
later_in_front (d ∷ cs) (suc n) (suc j) c e = ap (λ z. d ∷ z) (later_in_front cs n j c e)

shorter : (n : ℕ) (cs : List Head) → length (take n cs) ≤ length cs
shorter zero cs = omega arith
shorter (suc n) [] = omega arith
shorter (suc n) (c ∷ cs) = omega (arith, shorter n cs)

-- only the newest commits are still kept
pub cut : (hs : List TerminalHead) (cs : List Head) (k n o k' m : ℕ) → AreHeads hs cs k n o → k' ≡ k
    → AreHeads hs (take m cs) k' n o
cut hs cs k n o k' m K same =
    let kept = K.kept in
    let spare = K.spare in
    let fewer = shorter m cs in
    record {
      size = K.size;
      nobody = K.nobody;
      counts = K.counts;
      active = K.active;
      commits = All-take (IsCounted hs) m cs K.commits;
      numbers = λ later c e.
          subst (λ zs. c.number + heads_of c.terminal zs ≡ (head_at hs c.terminal).count)
          (later_in_front cs m later c e)
          (K.numbers later c (found_in_front cs m later c e));
      moments = K.moments;
      kept = omega arith;
      opens_are = K.opens_are;
      spare = omega arith;
    }

-- the commits before the newest have their numbers without it
numbered_less : (f g : ℕ → ℕ) (d : Head) (ds : List Head) (t : ℕ) → d.terminal ≡ t → f t ≡ suc (g t)
    → ((u : ℕ) → u ≢ t → g u ≡ f u)
    → AreNumbered f (d ∷ ds) → AreNumbered g ds
numbered_less f g d ds t terminal less others old later c e =
    let k : ℕ = heads_of c.terminal (take later ds) in
    let was : c.number + cond (c.terminal == d.terminal) (suc k) k ≡ f c.terminal = old (suc later) c e in
    elim (cases_eq c.terminal t) [
      | inl p ↦
          let here : c.terminal ≡ d.terminal = p ∙ sym terminal in
          let one : cond (c.terminal == d.terminal) (suc k) k ≡ suc k =
          cond-true (c.terminal == d.terminal) (suc k) k (eq-eqb c.terminal d.terminal here) in
          let before : f c.terminal ≡ suc (g c.terminal) = ap f p ∙ (less ∙ ap (λ u. suc (g u)) (sym p)) in
          omega arith
      | inr ne ↦
          let apart : c.terminal ≢ d.terminal = λ q. ne (q ∙ terminal) in
          ap (λ z. c.number + z)
          (sym (cond-false (c.terminal == d.terminal) (suc k) k (ne_eqb c.terminal d.terminal apart)))
          ∙ (was ∙ sym (others c.terminal ne))
    ]

-- each is counted, by its number
counted_by_number : (hs us : List TerminalHead) (cs : List Head) → All (IsCounted hs) cs
    → AreNumbered (λ u. (head_at us u).count) cs → All (IsCounted us) cs
counted_by_number hs us cs old numbers i d within =
    let h = old i d within in
    let number = numbers i (get_or cs i d) (slice_get-get_or cs i d within) in
    record { first = h.first; number = omega arith }

-- the newest commit is its terminal's open segment again, and not counted
pub reopened : (hs : List TerminalHead) (cs : List Head) (k n o k' n' o' t : ℕ) (x : TerminalHead) (m : Bool) (j : ℕ)
    (b : SegmentOwner) (d : Head)
    → AreHeads hs (d ∷ cs) k n o → 1 ≤ t → t ≤ 64 → d.terminal ≡ t → x ≡ head_at hs t → (head_at hs t).active ≡ None
    → b.terminal ≡ d.terminal → b.number ≡ d.number → k' ≡ k → n' ≡ n - 1 → o' ≡ suc o
    → AreHeads (set hs t (record { count = x.count - 1; active = Some b; deletes = m; len = j })) cs k' n' o'
reopened hs cs k n o k' n' o' t x m j b d K low high terminal is closed whose which capacity moment more =
    let size : length hs ≡ 65 = K.size in
    let within : t < length hs = omega arith in
    let h : TerminalHead = record { count = x.count - 1; active = Some b; deletes = m; len = j } in
    let count_is : x.count ≡ (head_at hs t).count = ap (λ z. z.count) is in
    let none : one x.active ≡ 0 = ap (λ z. one z.active) is ∙ ap one closed in
    let first = (K.commits 0 d (omega arith)).first in
    let number : d.number + 0 ≡ (head_at hs d.terminal).count = K.numbers 0 d refl in
    let there : (head_at hs d.terminal).count ≡ (head_at hs t).count = ap (λ u. (head_at hs u).count) terminal in
    let small : x.count < 4_294_967_296 = subst (λ z. z.count < 4_294_967_296) (sym is) (K.counts t idle_head within) in
    let less : (head_at hs t).count ≡ suc (head_at (set hs t h) t).count =
    (let now : (head_at (set hs t h) t).count ≡ x.count - 1 = ap (λ z. z.count)
    (get_or-set_same hs t h idle_head within) in omega arith) in
    let of : IsOf t (x.count - 1) b =
    record {
      terminal = whose ∙ terminal;
      number = omega (arith, which, number, there, count_is, first);
      below = omega arith;
    } in
    let numbered : AreNumbered (λ u. (head_at (set hs t h) u).count) cs =
    numbered_less (λ u. (head_at hs u).count) (λ u. (head_at (set hs t h) u).count) d cs t terminal less
    (λ u ne. ap (λ z. z.count) (get_or-set_other hs t u h idle_head ne)) K.numbers in
    let kept = K.kept in
    let spare = K.spare in
    replaced hs (d ∷ cs) cs k n o k' n' o' t x h K low high is (omega arith)
    (λ a e. let same : b ≡ a = cc in subst (IsOf t (x.count - 1)) same of)
    (counted_by_number hs (set hs t h) cs (λ i c within. K.commits (suc i) c (omega arith)) numbered) numbered
    (omega arith) (omega arith) (omega arith) (omega arith)

-- the count of its terminal is not 0
pub is_counted : (hs : List TerminalHead) (cs : List Head) (k n o t : ℕ) (x : TerminalHead) (d : Head)
    → AreHeads hs (d ∷ cs) k n o → d.terminal ≡ t → x ≡ head_at hs t → 1 ≤ x.count
is_counted hs cs k n o t x d K terminal is =
    let count_is : x.count ≡ (head_at hs t).count = ap (λ z. z.count) is in
    let counted = K.commits 0 d (omega arith) in
    let first = counted.first in
    let number : d.number ≤ (head_at hs d.terminal).count = counted.number in
    let there : (head_at hs d.terminal).count ≡ (head_at hs t).count = ap (λ u. (head_at hs u).count) terminal in
    omega arith

pub idle_at : (n t : ℕ) → head_at (replicate n idle_head) t ≡ idle_head
idle_at n t = elim (cases_lt t n) [
  | inl h ↦ get_or-replicate n t idle_head idle_head h
  | inr h ↦ get_or_past (replicate n idle_head) t idle_head
      (subst (λ z. z ≤ t) (sym (length-replicate n idle_head)) h)
]

-- at the beginning
first_at : (m k : ℕ) → m ≡ 65 → AreHeads (replicate m idle_head) [] k 0 0
first_at m k size =
    let counts = sum_by-replicate (λ (z : TerminalHead). z.count) m idle_head in
    let opens = sum_by-replicate (λ (z : TerminalHead). one z.active) m idle_head in
    record {
      size = length-replicate m idle_head ∙ size;
      nobody = ap (λ z. z.active) (idle_at m 0);
      counts = All-replicate (λ z. z.count < 4_294_967_296) m idle_head (omega arith);
      active = λ t o e. let is : None ≡ Some o = sym (ap (λ z. z.active) (idle_at m t)) ∙ e in cc;
      commits = All-nil (IsCounted (replicate m idle_head));
      numbers = λ later c e. let no : ⊥ = cc in absurd no;
      moments = omega arith;
      kept = omega arith;
      opens_are = omega arith;
      spare = omega arith;
    }

pub first : (k : ℕ) → AreHeads idle_heads [] k 0 0
unfolding idle_heads
first k = first_at 65 k refl

-- ---- commits that are looked up

pub none_past : (cs : List Head) (n i : ℕ) → n ≡ length cs → (i < n → false ≡ true) → None ≡ slice_get cs i
none_past cs n i e h =
    elim (cases_lt i n) [
      | inl less ↦ absurd (let no : false ≡ true = h less in cc)
      | inr past ↦ sym (slice_get_past cs i (subst (λ z. z ≤ i) e past))
    ]

pub last_found : (cs : List Head) (n : ℕ) (r : Option Head) → n ≡ length cs → (IsSome r → 0 < n)
    → ((d : Head) → 0 < n → r ≡ Some (get_or cs (n - 1) d))
    → r ≡ slice_get cs (length cs - 1)
last_found [] n None e some value = refl
last_found [] n (Some x) e some value = absurd (let more : 0 < n = some refl in omega (arith, more, e))
last_found (c ∷ cs) n r e some value =
    value c (omega (arith, e)) ∙ ap (λ k. Some (get_or (c ∷ cs) (k - 1) c)) e
    ∙ sym (slice_get-get_or (c ∷ cs) (length (c ∷ cs) - 1) c (omega arith))
