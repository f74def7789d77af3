-- What is known of desks is known of their stations, and what is known of stations is known of the plans.
use Rattle.std.proofs.Common.{◌≡◌, ◌⊎◌, ℕ, zero, suc, ◌+◌, List, [], ◌∷◌, ◌++◌, length, map, sym, ap, subst, ◌∙◌, refl}
use Rattle.std.proofs.Common.{inl, inr, Some, slice_get, sum_by, arith}
use Rattle.std.proofs.lemmas.List.{length-map, map-append}
use Rattle.std.proofs.lemmas.List.Sums.{sum_by_push}
use Rattle.oe_requests.specs.declared.requests.Errand.{Errand}
use Rattle.oe_history.specs.Views.{calls_by}
use Rattle.oe_history.specs.Calls.{Knows}
use Rattle.oe_history.specs.declared.views.Entry.{Entry}
use Rattle.oe_hall.specs.Desks.{TheDesk, AreKnown, begun_by, committed_by, rolled_back_by}
use Rattle.oe_drive.specs.declared.posts.Post.{Post}
use Rattle.oe_drive.specs.declared.stations.Plan.{Plan}
use Rattle.oe_drive.specs.Ends.{HaveEnded}
use Rattle.oe_drive.specs.Errands.{AreCarriedOut}
use Rattle.oe_drive.specs.Plans.{errands_in, ArePlansCarriedOut}
use Rattle.oe_drive.specs.Posts.{station_of}
use Rattle.oe_drive.specs.Stations.{TheStation, IsWhole, KeepsPlan, HasCarriedOut, HaveCarriedOut}

-- LISTS WITH ONE MORE

-- what stands at a place stood there, or is the last
get_last : {A : Type 0} (xs : List A) (x y : A) (k : ℕ) → slice_get (xs ++ x ∷ []) k ≡ Some y
    → (slice_get xs k ≡ Some y) ⊎ ((k ≡ length xs) × (x ≡ y))
get_last [] x y zero e = inr (refl, cc)
get_last [] x y (suc k) e = let no : ⊥ = cc in absurd no
get_last (z ∷ zs) x y zero e = inl e
get_last {A} (z ∷ zs) x y (suc k) e = go (get_last zs x y k e)
  where
    go : (slice_get zs k ≡ Some y) ⊎ ((k ≡ length zs) × (x ≡ y)) → (slice_get zs k ≡ Some y)
        ⊎ ((suc k ≡ suc (length zs)) × (x ≡ y))
    go (inl a) = inl a
    go (inr a) = inr (ap suc a.0, a.1)

have_last : (log : List Entry) (ss : List TheStation) (s : TheStation) → HaveCarriedOut log ss → HasCarriedOut log s
    → HaveCarriedOut log (ss ++ s ∷ [])
have_last log [] s all one = (one, tt)
have_last log (r ∷ rs) s all one = (all.0, have_last log rs s all.1 one)

have_front : (log : List Entry) (ss : List TheStation) (s : TheStation) → HaveCarriedOut log (ss ++ s ∷ [])
    → HaveCarriedOut log ss × HasCarriedOut log s
have_front log [] s all = (tt, all.0)
have_front log (r ∷ rs) s all =
    let more = have_front log rs s all.1 in
    ((all.0, more.0), more.1)

known_front : (log : List Entry) (ds : List TheDesk) (d : TheDesk) → AreKnown log (ds ++ d ∷ [])
    → AreKnown log ds × Knows log d.calls
known_front log [] d all = (tt, all.0)
known_front log (e ∷ es) d all =
    let more = known_front log es d all.1 in
    ((all.0, more.0), more.1)

-- one more desk whose transactions have ended
pub ended_last : (ds ds' : List TheDesk) (d : TheDesk) → ds' ≡ ds ++ d ∷ [] → HaveEnded ds
    → d.told.begun ≡ d.told.committed + d.told.rolled_back → HaveEnded ds'
ended_last ds ds' d is all one =
    let begun = ap (sum_by begun_by) is ∙ sum_by_push begun_by ds d in
    let committed = ap (sum_by committed_by) is ∙ sum_by_push committed_by ds d in
    let rolled_back = ap (sum_by rolled_back_by) is ∙ sum_by_push rolled_back_by ds d in
    omega (arith, all, one, begun, committed, rolled_back)

-- ONE STATION

-- a station that comes back has carried out what it was to
same_plan : (log : List Entry) (s r : TheStation) → KeepsPlan s r → HasCarriedOut log r → HasCarriedOut log s
same_plan log s r (errands, terminal) has =
    subst (λ (t : ℕ). AreCarriedOut t s.errands (calls_by t log)) terminal
    (subst (λ (es : List Errand). AreCarriedOut r.desk.seat.terminal es (calls_by r.desk.seat.terminal log)) errands
    has)

-- what its desk has called stands in the history
whole_in : (log : List Entry) (r : TheStation) → IsWhole r → Knows log r.desk.calls → HasCarriedOut log r
whole_in log r (by, carried) (seen, mine) =
    subst (λ (es : List Entry). AreCarriedOut r.desk.seat.terminal r.errands es)
    (sym mine ∙ ap (λ (n : ℕ). calls_by n log) by) carried

-- a plan behind others
carried_last : (log : List Entry) (ps : List Plan) (p : Plan) → ArePlansCarriedOut log (map errands_in ps)
    → AreCarriedOut (suc (length ps)) (errands_in p) (calls_by (suc (length ps)) log)
    → ArePlansCarriedOut log (map errands_in ps ++ errands_in p ∷ [])
carried_last log ps p all one k errands at = go (get_last (map errands_in ps) (errands_in p) errands k at)
  where
    go : (slice_get (map errands_in ps) k ≡ Some errands)
        ⊎ ((k ≡ length (map errands_in ps)) × (errands_in p ≡ errands))
        → AreCarriedOut (suc k) errands (calls_by (suc k) log)
    go (inl a) = all k errands a
    go (inr a) =
        let last : k ≡ length ps = a.0 ∙ length-map ps errands_in in
        subst (λ (n : ℕ). AreCarriedOut (suc n) errands (calls_by (suc n) log)) (sym last)
        (subst (λ (es : List Errand). AreCarriedOut (suc (length ps)) es (calls_by (suc (length ps)) log)) a.1 one)

-- ONE TURN OF A LOOP

-- Each says: what would follow of the lists before the turn follows of the lists behind it.

-- a plan gets a station
pub plan_seated : (log : List Entry) (X : Type 0) (before rest : List Plan) (p : Plan) (ss after : List TheStation)
    (s : TheStation) → before ≡ rest ++ p ∷ [] → after ≡ ss ++ s ∷ [] → s.errands ≡ errands_in p
    → s.desk.seat.terminal ≡ suc (length rest)
    → (HaveCarriedOut log ss → ArePlansCarriedOut log (map errands_in before) → X)
    → HaveCarriedOut log after → ArePlansCarriedOut log (map errands_in rest) → X
plan_seated log X before rest p ss after s popped pushed same number so all others =
    let last = ap (map errands_in) popped ∙ map-append errands_in rest (p ∷ []) in
    let (front, one) = have_front log ss s (subst (HaveCarriedOut log) pushed all) in
    let here : AreCarriedOut (suc (length rest)) (errands_in p) (calls_by (suc (length rest)) log) =
    subst (λ (t : ℕ). AreCarriedOut t (errands_in p) (calls_by t log)) number
    (subst (λ (es : List Errand). AreCarriedOut s.desk.seat.terminal es (calls_by s.desk.seat.terminal log)) same
    one) in
    so front (subst (ArePlansCarriedOut log) (sym last) (carried_last log rest p others here))

-- a station gets a post
pub station_posted : {J : Type 0} (log : List Entry) (X : Type 0) (before rest : List TheStation) (s : TheStation)
    (posts after : List (Post J)) (p : Post J) → before ≡ rest ++ s ∷ [] → after ≡ posts ++ p ∷ []
    → KeepsPlan s (station_of p) → (HaveCarriedOut log (map station_of posts) → HaveCarriedOut log before → X)
    → HaveCarriedOut log (map station_of after) → HaveCarriedOut log rest → X
station_posted log X before rest s posts after p popped pushed keeps so all others =
    let last = ap (map station_of) pushed ∙ map-append station_of posts (p ∷ []) in
    let (front, one) = have_front log (map station_of posts) (station_of p) (subst (HaveCarriedOut log) last all) in
    so front (subst (HaveCarriedOut log) (sym popped)
    (have_last log rest s others (same_plan log s (station_of p) keeps one)))

-- a post gives its desk
pub desk_risen : {J : Type 0} (log : List Entry) (X : Type 0) (before rest : List (Post J)) (p : Post J)
    (desks after : List TheDesk) (r : TheStation) → before ≡ rest ++ p ∷ [] → after ≡ desks ++ r.desk ∷ []
    → KeepsPlan (station_of p) r → IsWhole r
    → (AreKnown log desks → HaveCarriedOut log (map station_of before) → X)
    → AreKnown log after → HaveCarriedOut log (map station_of rest) → X
desk_risen log X before rest p desks after r popped pushed keeps whole so known others =
    let last = ap (map station_of) popped ∙ map-append station_of rest (p ∷ []) in
    let (front, one) = known_front log desks r.desk (subst (AreKnown log) pushed known) in
    so front (subst (HaveCarriedOut log) (sym last)
    (have_last log (map station_of rest) (station_of p) others
    (same_plan log (station_of p) r keeps (whole_in log r whole one))))

pub none_carried : (log : List Entry) → ArePlansCarriedOut log []
none_carried log k errands at = let no : ⊥ = cc in absurd no

pub none_left : {A : Type 0} (xs : List A) → length xs ≡ 0 → xs ≡ []
none_left [] e = refl
none_left (x ∷ xs) e = let no : ⊥ = cc in absurd no
