use Rattle.std.proofs.Common.{◌≡◌, ℕ, List, Result, Ok, Err, None, lit<, sym, subst, inl, inr}
use Rattle.std.specs.Prelude.{IfOk, OnOk}
use Rattle.oe_theory.specs.World.{World}
use Rattle.oe_requests.specs.declared.requests.Request.{Request}
use Rattle.oe_requests.specs.declared.refusals.Refusal.{Refusal}
use Rattle.oe_texts.specs.Refusal.{error_text}
use Rattle.oe_model.specs.System.{system}
use Rattle.oe_file_serial.specs.InOrder.{Between, Commits, Refuses, between}
use Rattle.oe_file_serial.specs.Worlds.{IsFree, IsAnswered, shortage_of}
use Rattle.oe_file_serial.specs.declared.lines.Asked.TheVariants as asked
use Rattle.oe_file_serial.specs.declared.verdicts.Shortage.{Shortage}
use Rattle.oe_file_serial.proofs.alone.transacted.Goals as goal

pub clear-requires : goal.clear-requires
clear-requires g c = lit< tt

pub carried_out-requires : goal.carried_out-requires
carried_out-requires g c = c.requires

pub write_reply-requires-clause-empty : goal.write_reply-requires-clause-empty
write_reply-requires-clause-empty g c = c.clear.ensures

pub write_reply-requires-clause-reply : goal.write_reply-requires-clause-reply
write_reply-requires-clause-reply g c = (c.in-Committed.ensures.0, c.in-Committed.ensures.1)

pub forget-requires : goal.forget-requires
forget-requires g c = c.in-Committed.ensures.3

pub refused-requires : goal.refused-requires
refused-requires g c = c.clear.ensures

pub refused-requires-in-RolledBack : goal.refused-requires-in-RolledBack
refused-requires-in-RolledBack g c = c.clear.ensures

pub unreachable-requires : goal.unreachable-requires
unreachable-requires g c = c.in-More.ensures

pub unreachable-unreachable : goal.unreachable-unreachable
unreachable-unreachable g c = c.in-More.ensures

pub returns-in-Committed : goal.returns-in-Committed
returns-in-Committed g c =
    let e = c.in-Committed.ensures in (
      inl (
        e.0,
        subst (λ (z : Between system). Commits system (between system (g.M.Machine.world c.args.core.now))
            c.args.terminal
            c.args.request.now e.0 z)
            (sym c.forget.ensures.same) e.2,
        c.write_reply.ensures e.0 e.1,
      ),
      c.forget.ensures.free,
    )

-- a refusal that is the transaction's own is its answer
told : (b : Between system) (t : ℕ) (q : Request) (e : Refusal) (text : List ℕ) (w : World system)
    (r : Result (Unit {0}) Shortage) → OnOk r (shortage_of e ≡ None) → OnOk r (text ≡ error_text e)
    → (shortage_of e ≡ None → Refuses system b t q e × (between system w ≡ b) × IsFree w)
    → IfOk r (λ o. IsAnswered b (asked.Transaction t q) text w)
told b t q e text w (Ok x) own is ends = let h = ends own in (inr (e, h.0, is, h.1), h.2)
told b t q e text w (Err y) own is ends = tt

pub returns-in-Kept : goal.returns-in-Kept
returns-in-Kept g c =
    told (between system (g.M.Machine.world c.args.core.now)) c.args.terminal c.args.request.now c.in-Kept.refusal _ _
    c.refused.result c.refused.ensures.own c.refused.ensures.text c.in-Kept.ensures

pub returns-in-RolledBack : goal.returns-in-RolledBack
returns-in-RolledBack g c =
    told (between system (g.M.Machine.world c.args.core.now)) c.args.terminal c.args.request.now
    c.in-RolledBack.refusal _ _
    c.refused-in-RolledBack.result c.refused-in-RolledBack.ensures.own c.refused-in-RolledBack.ensures.text
    c.in-RolledBack.ensures
