-- The paths to leaves.
use Rattle.std.proofs.Common.{◌≡◌, List, [], ◌∷◌, sym, ◌∙◌, subst}
use Rattle.smp_tape.specs.Sources.{Source}
use Rattle.smp_split.specs.{Trees.{Tree, Lawful, picked}, Paths.{Entry, Leads}, Runs.{Outcome, IsLeaf, IsOutcome, run}}
use Rattle.smp_split.proofs.Runs.{run_is}
use Rattle.smp_log.specs.Genuine.{IsFullPath}

-- a run over any source goes along a path to a leaf
pub run_full_path : {State Rest : Type 0} (tree : Tree State) (belongs : State → Type 0) (lawful : Lawful tree belongs) (from leaf : State) (path : List Entry) → belongs from → (source : Source Rest) (rest left : Rest)
    → run source tree from rest ≡ Outcome.leaf leaf path left → IsFullPath tree from path leaf
run_full_path tree belongs lawful from leaf path member source rest left ran =
    let is : IsLeaf source tree from rest leaf path left = subst (IsOutcome source tree from rest) ran (run_is source tree belongs lawful from rest member) in
    record { leads = is.leads; done = is.done }

-- a path leads to one state
pub leads_one : {State : Type 0} (tree : Tree State) (path : List Entry) (from a b : State) → Leads tree from path a → Leads tree from path b → a ≡ b
leads_one tree [] from a b first second = first ∙ sym second
leads_one tree (entry ∷ path) from a b first second = leads_one tree path (picked from (tree.parts from) entry.2) a b first.1 second.1

pub one_end : {State : Type 0} (tree : Tree State) (from a b : State) (p q : List Entry) → IsFullPath tree from p a → IsFullPath tree from q b → p ≡ q → a ≡ b
one_end tree from a b p q first second same = leads_one tree q from a b (subst (λ (path : List Entry). Leads tree from path a) same first.leads) second.leads
