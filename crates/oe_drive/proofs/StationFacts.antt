-- One errand more of a plan is carried out.
use Rattle.std.proofs.Common.{◌≡◌, ℕ, suc, ◌+◌, ◌<◌, ◌≤◌, List, [], ◌∷◌, ◌++◌, length, take, get_or}
use Rattle.std.proofs.Common.{refl, sym, ap, subst, ◌∙◌, arith}
use Rattle.std.proofs.lemmas.List.{append_assoc, append-nil, take_all}
use Rattle.std.proofs.Math.Seq.{take-suc}
use Rattle.oe_requests.specs.declared.requests.Errand.{Errand}
use Rattle.oe_history.specs.declared.views.Entry.{Entry}
use Rattle.oe_hall.specs.Desks.{TheDesk, most_begun}
use Rattle.oe_drive.specs.Errands.{HasCalled, IsCarriedOut, AreCarriedOut}
use Rattle.oe_drive.specs.Stations.{TheStation, IsOnPlan, IsWhole}

-- an errand behind the others
one_more : (t : ℕ) (xs : List Errand) (x : Errand) (es more : List Entry) → AreCarriedOut t xs es
    → IsCarriedOut t x more → AreCarriedOut t (xs ++ x ∷ []) (es ++ more)
one_more t [] x es more none is =
    (more, [], ap (λ (e : List Entry). e ++ more) none ∙ sym (append-nil more), is, refl)
one_more t (y ∷ ys) x es more (first, rest, same, here, others) is =
    let all = ap (λ (e : List Entry). e ++ more) same ∙ append_assoc first rest more in
    (first, rest ++ more, all, here, one_more t ys x rest more others is)

-- the next errand of a list
next : (t n m : ℕ) (xs : List Errand) (x : Errand) (old new : List Entry) → n < length xs → x ≡ get_or xs n x
    → m ≡ n + 1 → AreCarriedOut t (take n xs) old → HasCalled old new (IsCarriedOut t x)
    → AreCarriedOut t (take m xs) new
next t n m xs x old new lt at one before (es, is, here) =
    let step : m ≡ suc n = omega (arith, one) in
    let last : take (suc n) xs ≡ take n xs ++ x ∷ [] =
    take-suc xs n x lt ∙ ap (λ (y : Errand). take n xs ++ y ∷ []) (sym at) in
    let all : take m xs ≡ take n xs ++ x ∷ [] = ap (λ (k : ℕ). take k xs) step ∙ last in
    subst (λ (ys : List Errand). AreCarriedOut t ys new) (sym all)
    (subst (λ (e : List Entry). AreCarriedOut t (take n xs ++ x ∷ []) e) (sym is)
    (one_more t (take n xs) x old es before here))

-- a desk that carries out the next errand of its plan
pub stays_on_plan : (d d' : TheDesk) (xs : List Errand) (x : Errand) (n m : ℕ) → n < length xs → x ≡ get_or xs n x
    → m ≡ n + 1 → d'.seat.terminal ≡ d.seat.terminal → d.told.begun ≤ n
    → IsOnPlan (record { desk = d; errands = xs; carried = n })
    → (d.told.begun < most_begun → HasCalled d.calls.mine d'.calls.mine (IsCarriedOut d.seat.terminal x))
    → IsOnPlan (record { desk = d'; errands = xs; carried = m })
stays_on_plan d d' xs x n m lt at one same least on called few =
    subst (λ (t : ℕ). AreCarriedOut t (take m xs) d'.calls.mine) (sym same)
    (next d.seat.terminal n m xs x d.calls.mine d'.calls.mine lt at one (on (omega (arith, few, one)))
    (called (omega (arith, few, one, least))))

-- a desk that has carried out as many errands as its plan has
pub is_whole : (s : TheStation) → s.desk.calls.by ≡ s.desk.seat.terminal → IsOnPlan s → s.carried ≡ length s.errands
    → s.carried ≤ most_begun → IsWhole s
is_whole s by on all few = (
  by,
  subst (λ (xs : List Errand). AreCarriedOut s.desk.seat.terminal xs s.desk.calls.mine)
      (take_all s.carried s.errands (omega (arith, all))) (on few),
)
