-- What the end of a program run alone says of each state on its way.
use Rattle.std.proofs.Common.{◌≡◌, refl, sym, ap, subst, List, Option, Some, None}
use Rattle.oe_theory.specs.Machine.{Machine, Ask, Stop, Fail, Go, Ready, Tx}
use Rattle.oe_theory.specs.World.{State, overlay, add}
use Rattle.oe_theory.specs.Laws.{IsAsked, all_held, Alone, at_start, one_more, after, Fit, Ends, stops_here, fails_here}
use Rattle.oe_theory.specs.Laws.{ends_here, goes_here}

module _ (M : Machine) where
  open M use {Map, Change, Name, Request, Position, Reply, Refusal, start, ask, act}

  abbrev asked : Ask Name Refusal → Type 0
  asked a = IsAsked M (all_held M) a

  overlay-add : (c : Option Change) (cs : List Change) (r : Map) → overlay M (add M c cs) r ≡ after M c (overlay M cs r)
  overlay-add None cs r = refl
  overlay-add (Some c) cs r = refl

  not_stopped : (a : Ask Name Refusal) (e : Refusal) → asked a → a ≡ Stop e → ⊥
  not_stopped a e h s = subst (λ (b : Ask Name Refusal). asked b) s h

  module _ (Only : Refusal → Type 0) (Fits : Change → Map → Type 0) where
    next_ends : (x : Tx Request) (p : Position) (r : Map) (c : Option Change) (q : Position)
        (end : Option (Map × Reply))
        → Ends M x Only Fits p r end → asked (ask x p r) → act x p r ≡ Go c q → Ends M x Only Fits q (after M c r) end
    next_ends x _ _ c q _ (stops_here p r e why s) h a = absurd (not_stopped (ask x p r) e h s)
    next_ends x _ _ c q _ (fails_here p r e why g b) h a = let no : ⊥ = cc in absurd no
    next_ends x _ _ c q _ (ends_here p r reply g b) h a = let no : ⊥ = cc in absurd no
    next_ends x _ _ c q _ (goes_here p r d z end g b fit rest) h a =
        let one : d ≡ c = cc in
        let two : z ≡ q = cc in
        subst (λ (v : Option Change). Ends M x Only Fits q (after M v r) end) one
        (subst (λ (v : Position). Ends M x Only Fits v (after M d r) end) two rest)

    reached_ends : (x : Tx Request) (r : Map) (end : Option (Map × Reply)) → Ends M x Only Fits (start x) r end
        → (s : State M) → Alone M x r s → Ends M x Only Fits s.position (overlay M s.changes r) end
    reached_ends x r end h _ at_start = h
    reached_ends x r end h _ (one_more s c p before g a) =
        subst (λ (v : Map). Ends M x Only Fits p v end) (sym (overlay-add c s.changes r))
        (next_ends x s.position (overlay M s.changes r) c p end (reached_ends x r end h s before) g a)

    at_ready : (x : Tx Request) (p : Position) (r : Map) (reply : Reply) (end : Option (Map × Reply))
        → Ends M x Only Fits p r end → asked (ask x p r) → act x p r ≡ Ready reply → end ≡ Some (r, reply)
    at_ready x _ _ reply _ (stops_here p r e why s) h a = absurd (not_stopped (ask x p r) e h s)
    at_ready x _ _ reply _ (fails_here p r e why g b) h a = let no : ⊥ = cc in absurd no
    at_ready x _ _ reply _ (ends_here p r own g b) h a = let one : own ≡ reply = cc in
        ap (λ (v : Reply). Some (r, v)) one
    at_ready x _ _ reply _ (goes_here p r d z end g b fit rest) h a = let no : ⊥ = cc in absurd no

    at_fail : (x : Tx Request) (p : Position) (r : Map) (e : Refusal) (end : Option (Map × Reply))
        → Ends M x Only Fits p r end → asked (ask x p r) → act x p r ≡ Fail e → end ≡ None
    at_fail x _ _ e _ (stops_here p r d why s) h a = refl
    at_fail x _ _ e _ (fails_here p r d why g b) h a = refl
    at_fail x _ _ e _ (ends_here p r own g b) h a = let no : ⊥ = cc in absurd no
    at_fail x _ _ e _ (goes_here p r d z end g b fit rest) h a = let no : ⊥ = cc in absurd no

    at_stop : (x : Tx Request) (p : Position) (r : Map) (e : Refusal) (end : Option (Map × Reply))
        → Ends M x Only Fits p r end → ask x p r ≡ Stop e → end ≡ None
    at_stop x _ _ e _ (stops_here p r d why s) a = refl
    at_stop x _ _ e _ (fails_here p r d why g b) a = absurd (not_stopped (ask x p r) e g a)
    at_stop x _ _ e _ (ends_here p r own g b) a = absurd (not_stopped (ask x p r) e g a)
    at_stop x _ _ e _ (goes_here p r d z end g b fit rest) a = absurd (not_stopped (ask x p r) e g a)

    -- the three laws of programs that are run alone, from where they end
    pub ready_law : (x : Tx Request) (r : Map) (s : State M) (reply : Reply) (end : Option (Map × Reply))
        → Ends M x Only Fits (start x) r end → Alone M x r s
        → asked (ask x s.position (overlay M s.changes r)) → act x s.position (overlay M s.changes r) ≡ Ready reply
        → end ≡ Some (overlay M s.changes r, reply)
    ready_law x r s reply end h a g b = at_ready x s.position (overlay M s.changes r) reply end
        (reached_ends x r end h s a) g b

    pub fail_law : (x : Tx Request) (r : Map) (s : State M) (e : Refusal) (end : Option (Map × Reply))
        → Ends M x Only Fits (start x) r end → Alone M x r s
        → asked (ask x s.position (overlay M s.changes r)) → act x s.position (overlay M s.changes r) ≡ Fail e
        → end ≡ None
    fail_law x r s e end h a g b = at_fail x s.position (overlay M s.changes r) e end (reached_ends x r end h s a) g b

    pub stop_law : (x : Tx Request) (r : Map) (s : State M) (e : Refusal) (end : Option (Map × Reply))
        → Ends M x Only Fits (start x) r end → Alone M x r s
        → ask x s.position (overlay M s.changes r) ≡ Stop e → end ≡ None
    stop_law x r s e end h a b = at_stop x s.position (overlay M s.changes r) e end (reached_ends x r end h s a) b

    fail_cause : (x : Tx Request) (p : Position) (r : Map) (e : Refusal) (end : Option (Map × Reply))
        → Ends M x Only Fits p r end → asked (ask x p r) → act x p r ≡ Fail e → Only e
    fail_cause x _ _ e _ (stops_here p r d why s) h a = absurd (not_stopped (ask x p r) d h s)
    fail_cause x _ _ e _ (fails_here p r d why g b) h a = let one : d ≡ e = cc in subst Only one why
    fail_cause x _ _ e _ (ends_here p r own g b) h a = let no : ⊥ = cc in absurd no
    fail_cause x _ _ e _ (goes_here p r d z end g b fit rest) h a = let no : ⊥ = cc in absurd no

    stop_cause : (x : Tx Request) (p : Position) (r : Map) (e : Refusal) (end : Option (Map × Reply))
        → Ends M x Only Fits p r end → ask x p r ≡ Stop e → Only e
    stop_cause x _ _ e _ (stops_here p r d why s) a = let one : d ≡ e = cc in subst Only one why
    stop_cause x _ _ e _ (fails_here p r d why g b) a = absurd (not_stopped (ask x p r) e g a)
    stop_cause x _ _ e _ (ends_here p r own g b) a = absurd (not_stopped (ask x p r) e g a)
    stop_cause x _ _ e _ (goes_here p r d z end g b fit rest) a = absurd (not_stopped (ask x p r) e g a)

    -- and the causes of its refusals
    pub fail_cause_law : (x : Tx Request) (r : Map) (s : State M) (e : Refusal) (end : Option (Map × Reply))
        → Ends M x Only Fits (start x) r end → Alone M x r s
        → asked (ask x s.position (overlay M s.changes r)) → act x s.position (overlay M s.changes r) ≡ Fail e → Only e
    fail_cause_law x r s e end h a g b = fail_cause x s.position (overlay M s.changes r) e end
        (reached_ends x r end h s a) g b

    pub stop_cause_law : (x : Tx Request) (r : Map) (s : State M) (e : Refusal) (end : Option (Map × Reply))
        → Ends M x Only Fits (start x) r end → Alone M x r s
        → ask x s.position (overlay M s.changes r) ≡ Stop e → Only e
    stop_cause_law x r s e end h a b = stop_cause x s.position (overlay M s.changes r) e end
        (reached_ends x r end h s a) b

    change_fits : (x : Tx Request) (p : Position) (r : Map) (c : Change) (q : Position) (end : Option (Map × Reply))
        → Ends M x Only Fits p r end → asked (ask x p r) → act x p r ≡ Go (Some c) q → Fits c r
    change_fits x _ _ c q _ (stops_here p r d why s) h a = absurd (not_stopped (ask x p r) d h s)
    change_fits x _ _ c q _ (fails_here p r d why g b) h a = let no : ⊥ = cc in absurd no
    change_fits x _ _ c q _ (ends_here p r own g b) h a = let no : ⊥ = cc in absurd no
    change_fits x _ _ c q _ (goes_here p r d z end g b fit rest) h a = let one : d ≡ Some c = cc in
        subst (λ (v : Option Change). Fit M Fits v r) one fit

    -- and each of its changes fits
    pub change_law : (x : Tx Request) (r : Map) (s : State M) (c : Change) (q : Position) (end : Option (Map × Reply))
        → Ends M x Only Fits (start x) r end → Alone M x r s
        → asked (ask x s.position (overlay M s.changes r)) → act x s.position (overlay M s.changes r) ≡ Go (Some c) q
        → Fits c (overlay M s.changes r)
    change_law x r s c q end h a g b = change_fits x s.position (overlay M s.changes r) c q end
        (reached_ends x r end h s a) g b
