-- What steps keep of a world, and that a run of advances ends.
use Rattle.std.proofs.Common.{◌≡◌, ℕ, ◌<◌, ◌==◌, cond, Bool, true, false, Option, None, Some, [], ◌∷◌, refl}
use Rattle.std.proofs.Common.{ap, ◌∙◌, subst, arith}
use Rattle.oe_theory.specs.Machine.{Go}
use Rattle.oe_theory.specs.World.{World, State, Open, set, tx_of, tables}
use Rattle.oe_theory.specs.Theorems.{IsReached}
use Rattle.oe_theory.specs.Next as theory
use Rattle.oe_theory.specs.Next.{Next, open_at_begin, open_after, Advance, More, begins, goes_on, commits, saves}
use Rattle.oe_theory.specs.Next.{goes_back}
use Rattle.oe_theory.specs.Next.{rolls_back, reads, audits, purges, rewinds, stops, fails, is_busy, is_full}
use Rattle.oe_theory.specs.Next.{is_rejected, is_open, number_is_rejected, query_is_rejected, misses, not_open, too_old}
use Rattle.oe_theory.specs.Next.{future, not_quiet, lacks_memory_at_begin, lacks_memory}
use Rattle.oe_theory.specs.Undo.{with_change, tables_with}
use Rattle.oe_theory.proofs.Sets.{set_same}
use Rattle.oe_theory.proofs.Theorems.{run_is_reached, world_has_records, tables_follow}
use Rattle.oe_requests.specs.declared.requests.Request.{Request}
use Rattle.oe_requests.specs.declared.requests.Request.TheVariants as request
use Rattle.oe_model.specs.Rows.{Rows}
use Rattle.oe_model.specs.Changes.{Change}
use Rattle.oe_model.specs.Effects.{Doing}
use Rattle.oe_model.specs.Positions.{Position}
use Rattle.oe_model.specs.System.{system, ask, act, marks, start_of}
use Rattle.oe_model.proofs.SystemLaws.{laws}
use Rattle.oe_admission.specs.Programs.{IsServed, IsServing, AreServing, IsLive}
use Rattle.oe_admission.proofs.RankFacts.{rank, goes}

abbrev pub rank_of : Rows → Option (Open system) → ℕ
rank_of r None = 0
rank_of r (Some o) = rank r o.now.position

abbrev pub left : World system → ℕ → ℕ
left w t = rank_of (tables system w) (w.active t)

-- WHAT IS SERVED STAYS SO

one_of : (b : Bool) (v u : Option (Open system)) → IsServing v → IsServing u → IsServing (cond b v u)
one_of true v u h k = h
one_of false v u h k = k

placed : (t : ℕ) (v : Option (Open system)) (f : ℕ → Option (Open system)) → ((u : ℕ) → IsServing (f u)) → IsServing v
    → (u : ℕ) → IsServing (set t v f u)
placed t v f h k u = one_of (u == t) v (f u) k (h u)

here : (w : World system) → AreServing w → (t : ℕ) (o : Open system) → w.active t ≡ Some o → IsServing (Some o)
here w h t o e = subst IsServing e (h t)

starts : (q : Request) → IsServed (start_of q)
starts (request.Payment q) = tt
starts (request.NewOrder q) = tt
starts (request.Delivery q) = tt
starts (request.Deliveries q) = let less : 0 < 10 = omega arith in less
starts (request.Rename q) = tt

-- a stage that moves the mark puts it where the program stands
marked : (b : Bool) (now mark : State system) → IsServed now.position → IsServed mark.position
    → IsServed (cond b now mark).position
marked true now mark h k = h
marked false now mark h k = k

served_stay : (w : World system) (i : theory.Step system) (a : theory.Answer system) (w' : World system)
    → AreServing w → Next system w i a w' → AreServing w'
served_stay w _ _ _ h (begins t q m) = placed t (Some (open_at_begin system w t q)) w.active h (starts q, starts q)
served_stay w _ _ _ h (goes_on t o c p e g r room) =
    placed t (Some (open_after system w.layout o _ c p (tables system w))) w.active h (
      (goes (tx_of system t o) o.now.position (tables system w) c p (here w h t o e).0 r).0,
      marked
          (marks o.now.position) o.now o.mark (here w h t o e).0 (here w h t o e).1,
    )
served_stay w _ _ _ h (commits t o reply e g r) = placed t None w.active h tt
served_stay w _ _ _ h (saves t o e) = placed t (Some (record o { mark = o.now; mark_lengths = o.lengths })) w.active h
    ((here w h t o e).0, (here w h t o e).0)
served_stay w _ _ _ h (goes_back t o e) = placed t (Some (record o { now = o.mark; lengths = o.mark_lengths }))
    w.active h ((here w h t o e).1, (here w h t o e).1)
served_stay w _ _ _ h (rolls_back t o e) = placed t None w.active h tt
served_stay w _ _ _ h (reads m q f a l u k) = h
served_stay w _ _ _ h (audits m c l u) = h
served_stay w _ _ _ h (purges m l u) = h
served_stay w _ _ _ h (rewinds m q l u) = h
served_stay w _ _ _ h (stops t o e f r) = placed t None w.active h tt
served_stay w _ _ _ h (fails t o e f g r) = placed t None w.active h tt
served_stay w _ _ _ h (is_busy t o n m u e r g) = h
served_stay w _ _ _ h (is_full t o c p e g r f) = h
served_stay w _ _ _ h (is_rejected t q e r) = h
served_stay w _ _ _ h (is_open t q o r e) = h
served_stay w _ _ _ h (number_is_rejected t q e r c k) = h
served_stay w _ _ _ h (query_is_rejected m q e r) = h
served_stay w _ _ _ h (misses m q e r l u k) = h
served_stay w _ _ _ h (not_open s t e f) = h
served_stay w _ _ _ h (too_old s m e p l) = h
served_stay w _ _ _ h (future s m e p l) = h
served_stay w _ _ _ h (not_quiet m n e) = h
served_stay w _ _ _ h (lacks_memory_at_begin t q m) = h
served_stay w _ _ _ h (lacks_memory t o e m) = h

-- WORLDS STAY REACHED

pub next_live : (w : World system) (i : theory.Step system) (a : theory.Answer system) (w' : World system)
    → IsLive (Some w) → Next system w i a w' → IsLive (Some w')
next_live w i a w' l n =
    (run_is_reached system laws w w' (i ∷ []) (a ∷ []) l.0 (w', n, refl), served_stay w i a w' l.1 n)

-- A RUN ENDS

-- the tables after a row that went on
tables_on : (w : World system) (t : ℕ) (o : Open system) (c : Option Change) (p : Position) (v : World system)
    → IsReached system w → w.active t ≡ Some o
    → act (tx_of system t o) o.now.position (tables system w) ≡ Go c p → Next system w (Advance t) More v
    → tables system v ≡ with_change system (Go c p) (tables system w)
tables_on w t o c p v l e r n =
    let (u, k) = world_has_records system laws w l in
    tables_follow system laws w v u (Advance t) More l k n
    ∙ (ap (tables_with system w t) e ∙ ap (λ (d : Doing). with_change system d (tables system w)) r)

falls_by : (w : World system) (i : theory.Step system) (a : theory.Answer system) (w' : World system) (t : ℕ)
    → IsLive (Some w) → Next system w i a w' → i ≡ Advance t → a ≡ More → left w' t < left w t
falls_by w _ _ _ t l (goes_on u o c p e g r room) i a =
    let same : u ≡ t = cc in
    let next : Open system = open_after system w.layout o (ask (tx_of system u o) o.now.position (tables system w)) c p
    (tables system w) in
    let before : Rows = tables system w in
    let after : Rows = with_change system (Go c p) before in
    let less : rank after p < rank before o.now.position =
    (goes (tx_of system u o) o.now.position before c p (here w l.1 u o e).0 r).1 in
    let follows : tables system (theory.put_active system u (Some next) w) ≡ after =
    tables_on w u o c p (theory.put_active system u (Some next) w) l.0 e r (goes_on u o c p e g r room) in
    let now : left (theory.put_active system u (Some next) w) u ≡ rank after p =
    ap (λ (s : Rows). rank_of s (set u (Some next) w.active u)) follows
    ∙ ap (rank_of after) (set_same u (Some next) w.active u refl) in
    let had : left w u ≡ rank before o.now.position = ap (rank_of before) e in
    let own : left (theory.put_active system u (Some next) w) u < left w u = omega (arith, less, now, had) in
    subst (λ (v : ℕ). left (theory.put_active system u (Some next) w) v < left w v) same own
falls_by w _ _ _ t l n i a = cc

pub falls : (w w' : World system) (t : ℕ) → IsLive (Some w) → Next system w (Advance t) More w' → left w' t < left w t
falls w w' t l n = falls_by w _ _ w' t l n refl refl
