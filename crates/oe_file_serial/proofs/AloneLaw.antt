-- A transaction of which no other is beside it is whole.
use Rattle.std.proofs.Common.{◌≡◌, ℕ, zero, suc, [], ◌∷◌, refl, subst}
use Rattle.oe_theory.specs.World.{World}
use Rattle.oe_theory.specs.Next.{Step, Answer, Next, Begin, Advance, Begun, More}
use Rattle.oe_theory.specs.Theorems.{IsReached}
use Rattle.oe_theory.proofs.Theorems.{run_is_reached}
use Rattle.oe_requests.specs.declared.requests.Request.{Request}
use Rattle.oe_model.specs.System.{system}
use Rattle.oe_model.proofs.SystemLaws.{laws}
use Rattle.oe_file_serial.specs.InOrder.{Between, HasOpen, between}
use Rattle.oe_file_serial.specs.Alone.{AreStages, IsAlone, Alone_is_whole}
use Rattle.oe_file_serial.proofs.AloneFacts.{begun_alone, more_alone, commits_alone, aborts_alone}

leads_on : (w v : World system) (i : Step system) (a : Answer system) → IsReached system w → Next system w i a v
    → IsReached system v
leads_on w v i a r n = run_is_reached system laws w v (i ∷ []) (a ∷ []) r (v, n, refl)

stays_open : (b : Between system) (t : ℕ) (q : Request) (n : ℕ) (w v : World system) → IsReached system w
    → HasOpen system b t q w → AreStages w t n v → IsReached system v × HasOpen system b t q v
stays_open b t q zero w v r h s =
    (subst (IsReached system) s r, subst (λ (z : World system). HasOpen system b t q z) s h)
stays_open b t q (suc n) w v r h (mid, next, rest) =
    stays_open b t q n mid v (leads_on w mid (Advance t) More r next) (more_alone system laws b t q w mid h next) rest

at_last : (w last : World system) (t : ℕ) (q : Request) → IsAlone w t q last
    → IsReached system last × HasOpen system (between system w) t q last
at_last w last t q a =
    stays_open (between system w) t q a.number a.begun last (leads_on w a.begun (Begin t q) Begun a.reached a.begins)
    (begun_alone system laws w a.begun t q a.quiet a.begins) a.stages

pub alone_is_whole : Alone_is_whole
alone_is_whole = record {
  commits = λ w last v t m q y a n. let h = at_last w last t q a in
      commits_alone system laws (between system w) t q last v m y h.0 h.1 n;
  aborts = λ w last v t q e a n. let h = at_last w last t q a in
      aborts_alone system laws (between system w) t q last v e h.0 h.1 n;
}
