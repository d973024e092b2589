-- A design that is one section of a log, as a stratum is of a draw in strata.
use Rattle.std.proofs.Common.{◌≡◌, ℕ, ◌≤◌, Bool, true, false, List, [], ◌∷◌, arith, ap}
use Rattle.smp_split.specs.Sectioning.{Sectioning, IsSectioned}
use Rattle.smp_split.specs.Trees.{EachPart, Part, Tree}

abbrev pub section_by : Bool → ℕ
section_by true = 1
section_by false = 0

abbrev pub one_section : {State : Type 0} → Tree State → Sectioning State
one_section tree = record { count = 1; of = λ s. section_by (tree.done s) }

module _ {State : Type 0} (tree : Tree State) (belongs : State → Type 0) where
  none_leads_back : (n : ℕ) → n ≡ 0 → (parts : List (Part State)) → EachPart (λ p. n ≤ section_by (tree.done p.state)) parts
  none_leads_back n h [] = tt
  none_leads_back n h (p ∷ ps) = (omega arith, none_leads_back n h ps)

  pub one_sectioned : IsSectioned tree belongs (one_section tree)
  one_sectioned = record {
    going = λ s here going. (let h = ap section_by going in omega arith);
    done = λ s here done. ap section_by done;
    rises = λ s here going. none_leads_back (section_by (tree.done s)) (ap section_by going) (tree.parts s);
  }
