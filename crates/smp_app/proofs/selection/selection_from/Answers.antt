use Rattle.std.proofs.Common.{ℕ, ◌-◌, rules, subst}
use Rattle.std.specs.Prelude.{IfErr}
use Rattle.smp_app.specs.{Draws.{OldDiffers, StratumDiffers, WholeDiffers}, Kept.Exact.{IfLine}, Kept.Stages.{draw_view}}
use Rattle.smp_plan.specs.Planned.{plan_view}
use Rattle.smp_app.proofs.Refusals.{in_file, stratum_is, unread}
use Rattle.smp_app.proofs.selection.selection_from.Goals as goal

pub returns-in_err-bytes-in-Log-clause-differs : goal.returns-in_err-bytes-in-Log-clause-differs
returns-in_err-bytes-in-Log-clause-differs g c fs held =
    unread (plan_view c.args.plan.now) (draw_view c.args.from) fs c.as_str-in-Log.result.now c.in_err-bytes-in-Log.field-0.0 _ (search (rules, c.from_residual-in_err-bytes-in-Log.ensures)) (c.in_err-bytes-in-Log.ensures.follows fs (rw c.in-Log.is at held))

pub returns-in_err-bytes-in-OldLog-clause-differs : goal.returns-in_err-bytes-in-OldLog-clause-differs
returns-in_err-bytes-in-OldLog-clause-differs g c fs held =
    unread (plan_view c.args.plan.now) (draw_view c.args.from) fs c.as_str-in-OldLog.result.now c.in_err-bytes-in-OldLog.field-0.0 _ (search (rules, c.from_residual-in_err-bytes-in-OldLog.ensures)) (c.in_err-bytes-in-OldLog.ensures.follows fs (rw c.in-OldLog.is at held))

pub returns-in_err-bytes-in-Section-clause-differs : goal.returns-in_err-bytes-in-Section-clause-differs
returns-in_err-bytes-in-Section-clause-differs g c fs held =
    unread (plan_view c.args.plan.now) (draw_view c.args.from) fs c.as_str-in-Section.result.now c.in_err-bytes-in-Section.field-0.0 _ (search (rules, c.from_residual-in_err-bytes-in-Section.ensures)) (c.in_err-bytes-in-Section.ensures.follows fs (rw c.in-Section.is at held))

pub returns-in_ok-bytes-in-Log-clause-differs : goal.returns-in_ok-bytes-in-Log-clause-differs
returns-in_ok-bytes-in-Log-clause-differs g c fs held =
    rw c.in-Log.is (in_file (WholeDiffers (plan_view c.args.plan.now)) fs _ c.as_str-in-Log.ensures (c.in_ok-bytes-in-Log.ensures.follows fs (rw c.in-Log.is at held)) c.as_slice-in-Log.ensures c.select_by_log.ensures.differs)

pub returns-in_ok-bytes-in-OldLog-clause-differs : goal.returns-in_ok-bytes-in-OldLog-clause-differs
returns-in_ok-bytes-in-OldLog-clause-differs g c fs held =
    rw c.in-OldLog.is (in_file (OldDiffers (plan_view c.args.plan.now)) fs _ c.as_str-in-OldLog.ensures (c.in_ok-bytes-in-OldLog.ensures.follows fs (rw c.in-OldLog.is at held)) c.as_slice-in-OldLog.ensures c.select_by_log-in-OldLog.ensures.differs)

pub returns-in_ok-bytes-in-Section-clause-differs : goal.returns-in_ok-bytes-in-Section-clause-differs
returns-in_ok-bytes-in-Section-clause-differs g c fs held =
    let view = plan_view c.args.plan.now in
    let log = c.as_slice-in-Section.result.now in
    let there = stratum_is view c.in-Section.number c.in_ok-stratum-in-Section.stratum c.in_ok-stratum-in-Section.ensures.follows in
    let differs = subst (λ (h : ℕ). IfErr c.select_by_log-in-Section.result (λ refusal. IfLine refusal (StratumDiffers h view log))) there c.select_by_log-in-Section.ensures.differs in
    rw c.in-Section.is (in_file (StratumDiffers (c.in-Section.number - 1) view) fs _ c.as_str-in-Section.ensures (c.in_ok-bytes-in-Section.ensures.follows fs (rw c.in-Section.is at held)) c.as_slice-in-Section.ensures differs)
