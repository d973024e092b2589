-- A command that lists a plan, and ended well.
use Rattle.std.proofs.Common.{◌≡◌, ℕ, List, [], Some, Ok, refl, sym, ap, subst, ◌∙◌}
use Rattle.std.specs.Prelude.{option_map}
use Rattle.smp_io.specs.{Sink.{with_bytes}, Store.{Files}}
use Rattle.smp_plan.specs.{Plans.{Survey}, Inputs.{DesignSource, FrameSource, plan_stage}}
use Rattle.smp_plan.proofs.Steps.{sees_told}
use Rattle.smp_app.specs.{Commands.{Lists, Job, inputs_of, job_for}, Verdict.{outputs_stage}, Deliveries.{Outputs, with_files}}
use Rattle.smp_app.specs.Answers.{Outside, IsWork, Done}
use Rattle.smp_app.proofs.{Ends.{verdict_of}, PlansRead.{ok_same, some_same}}

-- what it puts, and what becomes of the files
module _ (text : Survey → List ℕ) (design : DesignSource) (frame : FrameSource) (fs : Files) (before now : Outside) (words : List (List ℕ)) where
  abbrev listing : Job
  listing = record { design = design; frame = frame; work = Lists text }

  pub listed : job_for words ≡ Some listing → (plan : Survey) → plan_stage design frame fs ≡ Ok plan → Done words before now → before.files ≡ Some fs → (now.put ≡ with_bytes (text plan) before.put) × (now.files ≡ Some fs)
  listed asked plan planned done told =
      let same : done.job ≡ listing = some_same _ _ (sym done.asked ∙ asked) in
      let work : IsWork words listing fs before now = subst (λ (j : Job). IsWork words j fs before now) same (done.done fs (sees_told (inputs_of done.job) before.files fs told)) in
      let staged : outputs_stage listing fs ≡ Ok (record { files = []; put = text plan }) = rw planned refl in
      let outputs : work.outputs ≡ record { files = []; put = text plan } = ok_same _ _ (sym work.accepted ∙ verdict_of words listing asked fs ∙ staged) in (
        work.put ∙ ap (λ (o : Outputs). with_bytes o.put before.put) outputs,
        work.files ∙ ap (option_map (with_files work.outputs.files)) told ∙ ap (λ (o : Outputs). Some (with_files o.files fs)) outputs,
      )
