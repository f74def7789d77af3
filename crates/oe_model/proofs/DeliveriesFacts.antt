-- The program of ten districts, run alone, has the effects of the districts one after another, and keeps what holds
-- between transactions.
use Rattle.std.proofs.Common.{◌≡◌, ℕ, zero, suc, ◌+◌, refl, sym, ap, subst, Bool, true, false, cond, List, [], ◌∷◌}
use Rattle.std.proofs.Common.{◌++◌, Option, Some, arith}
use Rattle.std.specs.Prelude.{◌==◌, length}
use Rattle.std.proofs.lemmas.Bool.{eqb-true, eq-eqb}
use Rattle.oe_theory.specs.Machine.{Tx}
use Rattle.oe_theory.specs.World.{bump}
use Rattle.oe_theory.specs.Laws.{ends_here}
use Rattle.oe_requests.specs.declared.requests.Request.{Request}
use Rattle.oe_requests.specs.declared.requests.DeliveriesRequest.{DeliveriesRequest}
use Rattle.oe_requests.specs.declared.replies.DistrictDelivery.{DistrictDelivery}
use Rattle.oe_requests.specs.declared.replies.Reply.{Reply}
use Rattle.oe_requests.specs.declared.replies.Reply.TheVariants as reply
use Rattle.oe_model.specs.Rows.{Rows}
use Rattle.oe_model.specs.Meets.{Meets}
use Rattle.oe_model.specs.Positions.{DeliveryQueue, InDeliveries, DeliveriesEnd}
use Rattle.oe_model.specs.Effects.{◌>>=◌}
use Rattle.oe_model.specs.Delivery.{district_effect}
use Rattle.oe_model.specs.Deliveries.{districts, in_district, in_turn, deliveries_effect, at_hand, after_done}
use Rattle.oe_model.specs.Deliveries.{among_ten}
use Rattle.oe_model.specs.Requests.{DeliveryMayRefuse}
use Rattle.oe_model.specs.Conditions.{Good, IsStocked}
use Rattle.oe_model.proofs.ChangeFacts.{accepted_meets}
use Rattle.oe_model.proofs.KeptFacts.{accepted_stocked}
use Rattle.oe_model.proofs.EffectFacts.{made_by, there, bind_in}
use Rattle.oe_model.proofs.StepFacts.{EndsSo}
use Rattle.oe_model.proofs.DeliveryFacts.{among_is, district_ends, district_keeps}
use Rattle.oe_model.proofs.DeliveryGood.{district_good, good_bump}

-- n districts from this one on
numbers : ℕ → ℕ → List ℕ
numbers d zero = []
numbers d (suc n) = d ∷ numbers (d + 1) n

all_districts : districts ≡ numbers 1 10
unfolding districts numbers
all_districts = refl

length_one : {A : Type 0} (xs : List A) (x : A) → length (xs ++ x ∷ []) ≡ length xs + 1
length_one [] x = refl
length_one (y ∷ xs) x = let h : length (xs ++ x ∷ []) ≡ length xs + 1 = length_one xs x in omega arith

none_more : {A : Type 0} (xs : List A) → xs ++ [] ≡ xs
none_more [] = refl
none_more (x ∷ xs) = ap (λ ys. x ∷ ys) (none_more xs)

one_more : {A : Type 0} (xs : List A) (x : A) (ys : List A) → (xs ++ x ∷ []) ++ ys ≡ xs ++ (x ∷ ys)
one_more [] x ys = refl
one_more (y ∷ xs) x ys = ap (λ zs. y ∷ zs) (one_more xs x ys)

-- what is told once the districts to come are done too
told : List DistrictDelivery → Rows × List DistrictDelivery → Option (Rows × Reply)
told done e = Some (e.0, reply.Deliveries (done ++ e.1))

one_told : (done : List DistrictDelivery) (d : DistrictDelivery) (e : Rows × List DistrictDelivery)
    → told (done ++ d ∷ []) e ≡ told done (e.0, d ∷ e.1)
unfolding told
one_told done d e = ap (λ (ds : List DistrictDelivery). Some (e.0, reply.Deliveries ds)) (one_more done d e.1)

module _ (x : Tx Request) (q : DeliveriesRequest) where
  -- from where n districts are left
  left_end : (n : ℕ) (done : List DistrictDelivery) (r : Rows) → Meets r → length done + n ≡ 10
      → EndsSo DeliveryMayRefuse x (after_done q done) r (in_turn q (numbers (length done + 1) n) r >>= told done)
  unfolding numbers told
  left_end zero done r m e =
      let last : (length done == 10) ≡ true = eq-eqb (length done) 10 (let z : length done ≡ 10 = omega arith in z) in
      subst (λ (b : Bool). EndsSo DeliveryMayRefuse x (cond b (DeliveriesEnd done) (InDeliveries q done DeliveryQueue))
      r (Some (r, reply.Deliveries (done ++ [])))) (sym last)
      (subst (λ (ds : List DistrictDelivery). EndsSo DeliveryMayRefuse x (DeliveriesEnd done) r
      (Some (r, reply.Deliveries ds))) (sym (none_more done))
      (ends_here (DeliveriesEnd done) r (reply.Deliveries done) tt refl))
  left_end (suc n) done r m e =
      let more : (length done == 10) ≡ false = not_last (length done == 10) refl in
      let ds : List ℕ = numbers ((length done + 1) + 1) n in
      let rest : Rows × DistrictDelivery → Option (Rows × List DistrictDelivery) =
      λ one. in_turn q ds one.0 >>= λ rest. Some (rest.0, one.1 ∷ rest.1) in
      subst (λ (b : Bool). EndsSo DeliveryMayRefuse x (cond b (DeliveriesEnd done) (InDeliveries q done DeliveryQueue))
      r ((district_effect (at_hand q done) r >>= rest) >>= told done)) (sym more)
      (subst (λ (v : Option (Rows × Reply)). EndsSo DeliveryMayRefuse x (InDeliveries q done DeliveryQueue) r v)
      (sym (bind_in (district_effect (at_hand q done) r) rest (told done)))
      (district_ends x (among_ten q done) (at_hand q done) (among_is x q done) r m (λ one. rest one >>= told done)
      (λ after d is.
      subst (λ (v : Option (Rows × Reply)). EndsSo DeliveryMayRefuse x (after_done q (done ++ d ∷ [])) after v)
      (sym (bind_in (in_turn q ds after) (λ rest. Some (rest.0, d ∷ rest.1)) (told done)))
      (subst (λ (g : Rows × List DistrictDelivery → Option (Rows × Reply)). EndsSo DeliveryMayRefuse x
      (after_done q (done ++ d ∷ [])) after (in_turn q ds after >>= g)) (λ i e. one_told done d e i)
      (subst (λ (k : ℕ). EndsSo DeliveryMayRefuse x (after_done q (done ++ d ∷ [])) after
      (in_turn q (numbers (k + 1) n) after >>= told (done ++ d ∷ []))) (length_one done d)
      (left_end n (done ++ d ∷ []) after (district_keeps Meets accepted_meets (at_hand q done) r after d m is m)
      (let k : length (done ++ d ∷ []) ≡ length done + 1 = length_one done d in
      let z : length (done ++ d ∷ []) + n ≡ 10 = omega arith in z)))))))
    where
      not_last : (b : Bool) → (length done == 10) ≡ b → (length done == 10) ≡ false
      not_last true t = let z : length done ≡ 10 = eqb-true (length done) 10 t in
          absurd (let no : ⊥ = omega arith in no)
      not_last false t = t

  pub deliveries_end : (r : Rows) → Meets r → EndsSo DeliveryMayRefuse x (InDeliveries q [] DeliveryQueue) r
      (deliveries_effect q r)
  unfolding told
  deliveries_end r m =
      subst (λ (ds : List ℕ). EndsSo DeliveryMayRefuse x (InDeliveries q [] DeliveryQueue) r
      (in_turn q ds r >>= told [])) (sym all_districts)
      (left_end 10 [] r m refl)

-- districts one after another keep what holds between transactions
in_turn_good : (f : ℕ → ℕ) (q : DeliveriesRequest) (ds : List ℕ) (r after : Rows) (es : List DistrictDelivery)
    → Good f r → in_turn q ds r ≡ Some (after, es) → Good f after
in_turn_good f q [] r after es g e = subst (λ (s : Rows). Good f s) (made_by r after [] es e) g
in_turn_good f q (d ∷ ds) r after es g e =
    there (Good f after) (district_effect (in_district q d) r) _ (after, es) e (λ one one_at e.
    there (Good f after) (in_turn q ds one.0) _ (after, es) e (λ rest rest_at e.
    let meets : Meets one.0 = district_keeps Meets accepted_meets (in_district q d) r one.0 one.1 g.meets one_at
    g.meets in
    let stocked : IsStocked one.0 = district_keeps IsStocked accepted_stocked (in_district q d) r one.0 one.1 g.meets
    one_at g.stocked in
    subst (λ (s : Rows). Good f s) (made_by rest.0 after _ es e)
    (in_turn_good f q ds one.0 rest.0 rest.1 (district_good f (in_district q d) r one.0 one.1 g meets stocked one_at)
    rest_at)))

pub deliveries_good : (f : ℕ → ℕ) (t : ℕ) (q : DeliveriesRequest) (r after : Rows) (y : Reply) → Good f r
    → deliveries_effect q r ≡ Some (after, y) → Good (bump t f) after
deliveries_good f t q r after y g e =
    there (Good (bump t f) after) (in_turn q districts r) _ (after, y) e (λ rest rest_at e.
    subst (λ (s : Rows). Good (bump t f) s) (made_by rest.0 after _ y e)
    (good_bump f t rest.0 (in_turn_good f q districts r rest.0 rest.1 g rest_at)))
