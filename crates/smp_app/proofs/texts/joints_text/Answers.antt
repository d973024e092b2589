use Rattle.std.proofs.{Common.{◌≡◌, length, map, ap, sym, ◌∙◌}, lemmas.List.{length-map}}
use Rattle.smp_frame.specs.declared.frame.Unit as unit
use Rattle.smp_strata.specs.Plans.{Plan}
use Rattle.smp_app.proofs.texts.joints_text.Goals as goal

pub joint_bytes-requires : goal.joint_bytes-requires
joint_bytes-requires c =
    let ids : c.as_slice.result.now ≡ map (λ (u : unit.Unit). u.id) c.args.plan.now.frame = c.as_slice.ensures.value ∙ c.in_ok-ids.ensures ∙ ap (map (λ (u : unit.Unit). u.id)) c.units.ensures in
    record { ids = ap length ids ∙ length-map c.args.plan.now.frame (λ (u : unit.Unit). u.id) ∙ sym (ap (λ (p : Plan). p.rows) c.requires.parts_are) }
