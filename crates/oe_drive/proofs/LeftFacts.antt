-- What a drive leaves.
use Rattle.std.proofs.Common.{◌≡◌, List, [], map, subst, ◌∙◌, IfOk}
use Rattle.std.specs.Prelude.{Result, Ok, Err}
use Rattle.oe_theory.specs.World.{World, newest}
use Rattle.oe_theory.specs.Theorems.{world_at_opening}
use Rattle.oe_numbers.specs.declared.drives.DriveNumbers.{DriveNumbers}
use Rattle.oe_requests.specs.declared.requests.Errand.{Errand}
use Rattle.oe_rows.specs.declared.layouts.Layout.{Layout}
use Rattle.oe_rows.specs.declared.layouts.Layout.TheVariants as layout
use Rattle.oe_model.specs.Rows.{Rows}
use Rattle.oe_model.specs.Population.{IsPopulated}
use Rattle.oe_model.specs.System.{system}
use Rattle.oe_history.specs.Views.{calls_by}
use Rattle.oe_hall.specs.Histories.{IsHistory}
use Rattle.oe_hall.specs.Turns.{open_count}
use Rattle.oe_drive.specs.declared.driving.Driven.{Driven}
use Rattle.oe_drive.specs.declared.stations.Plan.{Plan}
use Rattle.oe_drive.specs.Plans.{errands_in, plans_of, ArePlansCarriedOut}
use Rattle.oe_drive.specs.Runs.{IsLeft}

-- what is known of the core, the counts and the history is what a drive leaves
pub left_here : {C E : Type 0} (world : C → World system) (n : DriveNumbers) (r : Result (Driven C) E)
    (ps : List Plan) (base : Rows) (y : Layout)
    → y ≡ layout.ChangedColumns → IsPopulated n.scale base → IfOk r (λ d. open_count (world d.core) ≡ 0)
    → IfOk r (λ d. newest system (world d.core) ≡ d.counted.committed)
    → IfOk r (λ d. (world d.core).layout ≡ y)
    → IfOk r (λ d. IsHistory (world_at_opening system base n.extents y) d.history.log (world d.core))
    → IfOk r (λ d. calls_by 0 d.history.log ≡ [])
    → IfOk r (λ d. ArePlansCarriedOut d.history.log (map errands_in ps)) → map errands_in ps ≡ plans_of n
    → IfOk r (λ d. IsLeft n (world d.core) d.counted.committed)
left_here world n (Ok d) ps base y same populated quiet committed kept run unpurged carried drawn = record {
  driven = (
    base,
    d.history.log,
    populated,
    subst (λ (z : Layout). IsHistory (world_at_opening system base n.extents z) d.history.log
        (world d.core)) same run,
    unpurged,
    subst (λ (es : List (List Errand)). ArePlansCarriedOut d.history.log es) drawn carried,
  );
  quiet = quiet;
  newest = committed;
  layout = kept ∙ same;
}
left_here world n (Err e) ps base y same populated quiet committed kept run unpurged carried drawn = tt
