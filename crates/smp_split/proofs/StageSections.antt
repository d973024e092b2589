-- The stages of a selection in sections, the first of which begins with the first stage.
use Rattle.std.proofs.Common.{◌≡◌, ◌≢◌, ℕ, zero, suc, ◌<◌, ◌≤◌, nat_lt, List, [], ◌∷◌, length, arith, ap, inl, inr, ◌⊎◌}
use Rattle.std.proofs.lemmas.Bool.{cases_order, cases_eq, cases_lt, eqb-true, eqb-false, ltb-true, ltb-false}
use Rattle.smp_split.specs.{Sectioning.{IsSectioned}, Trees.{Part, Tree, EachPart}, declared.places.Seat.{Seat}, Laws.Turns.{next_within}}
use Rattle.smp_split.specs.{declared.places.Stage.{Stage}, Stages.{Progress, first_among, staged_tree, IsStaged, IsUnderWay}}
use Rattle.smp_split.specs.{OwnStages.{sections_by, AreSections}, Laws.Firsts.{IsFirst, first_is}}
use Rattle.smp_split.proofs.Stepped.{parts_rise}

-- ---- the section of a stage

module _ (before : ℕ → ℕ) (n at : ℕ) where
  abbrev pub section : ℕ
  section = first_among (λ h. nat_lt at (before (suc h))) n 0

  found : IsFirst (λ h. nat_lt at (before (suc h))) 0 n section
  found = first_is (λ h. nat_lt at (before (suc h))) n 0

  pub section_within : section ≤ n
  section_within = omega (arith, found.within)

  -- a section before it ends before the stage
  pub ends_before : (h : ℕ) → h < section → before (suc h) ≤ at
  ends_before h l = ltb-false at (before (suc h)) (found.passed h (omega arith) l)

  -- and it doesn't
  pub ends_behind : section < n → at < before (suc section)
  ends_behind l = ltb-true at (before (suc section)) (found.here (omega (arith, l)))

  -- it begins with the stage or before
  pub begins_before : before 0 ≡ 0 → (h : ℕ) → section ≡ h → before h ≤ at
  begins_before first zero is = omega (arith, first)
  begins_before first (suc h) is = ends_before h (omega (arith, is))

-- a stage at or after another is in a section at or after the other's
pub section_rises : (before : ℕ → ℕ) (n from to : ℕ) → from ≤ to → section before n from ≤ section before n to
section_rises before n from to l =
    elim (cases_lt (section before n to) (section before n from)) [
      | inl less ↦ absurd (
          let passed : before (suc (section before n to)) ≤ from = ends_before before n from (section before n to) less in
          let here : to < before (suc (section before n to)) = ends_behind before n to (omega (arith, less, section_within before n from)) in
          omega arith)
      | inr most ↦ most
    ]

module _ {Design : Type 0} (stages : List (Stage Design)) (before : ℕ → ℕ) (n : ℕ) (all : AreSections stages before n) where
  pub before_rises : (i j : ℕ) → i ≤ j → j ≤ n → before i ≤ before j
  before_rises i zero l m = let none : i ≡ 0 = omega arith in omega (arith, ap before none)
  before_rises i (suc j) l m =
      elim (cases_eq i (suc j)) [
        | inl same ↦ omega (arith, ap before same)
        | inr differ ↦ omega (arith, before_rises i j (omega (arith, l, differ)) (omega (arith, m)), all.rises j (omega (arith, m)))
      ]

  -- a stage is in a section where there is one, and behind the last stage all are behind
  pub section_here : (at : ℕ) → at < length stages → section before n at < n
  section_here at l =
      elim (cases_lt (section before n at) n) [
        | inl less ↦ less
        | inr most ↦ absurd (
            let is : section before n at ≡ n = omega (arith, most, section_within before n at) in
            omega (arith, l, all.last, begins_before before n at all.first n is))
      ]

  pub section_behind : (at : ℕ) → length stages ≤ at → section before n at ≡ n
  section_behind at l =
      elim (cases_lt (section before n at) n) [
        | inl less ↦ absurd (omega (arith, ends_behind before n at less, before_rises (suc (section before n at)) n (omega (arith, less)) (omega arith), all.last, l))
        | inr most ↦ omega (arith, most, section_within before n at)
      ]

  -- in another section the stage comes before this one or behind it
  pub section_other : (at h : ℕ) → at < length stages → h < n → section before n at ≢ h → (at < before h) ⊎ (before (suc h) ≤ at)
  section_other at h l within other =
      elim (cases_order (section before n at) h) [
        | inl same ↦ absurd (other same)
        | inr (inl less) ↦ inl (omega (arith, ends_behind before n at (section_here at l), before_rises (suc (section before n at)) h (omega (arith, less)) (omega (arith, within))))
        | inr (inr more) ↦ inr (ends_before before n at h more)
      ]

-- ---- the selection goes through its sections

each_rises : {State : Type 0} (before : ℕ → ℕ) (n at : ℕ) (parts : List (Part (Progress State))) → EachPart (λ p. at ≤ p.state.at) parts → EachPart (λ p. section before n at ≤ section before n p.state.at) parts
each_rises before n at [] each = tt
each_rises before n at (p ∷ ps) each = (section_rises before n at p.state.at each.0, each_rises before n at ps each.1)

module _ {Design State : Type 0} (tree_of : Design → Tree State) (belongs : Design → State → Type 0) (stages : List (Stage Design)) (seats : List Seat) where
  pub at_most : (s : Progress State) → IsUnderWay tree_of belongs stages s → s.at ≤ length stages
  at_most s here = omega (arith, here.at, next_within tree_of stages s.states)

  pub staged_sectioned : IsStaged tree_of stages seats → (before : ℕ → ℕ) (n : ℕ) → AreSections stages before n → IsSectioned (staged_tree tree_of stages seats) (IsUnderWay tree_of belongs stages) (sections_by before n)
  staged_sectioned staged before n all = record {
    going = λ s here going. section_here stages before n all s.at (omega (arith, at_most s here, eqb-false s.at (length stages) going));
    done = λ s here done. section_behind stages before n all s.at (omega (arith, eqb-true s.at (length stages) done));
    rises = λ s here going. each_rises before n s.at ((staged_tree tree_of stages seats).parts s) (parts_rise tree_of belongs stages seats staged s here);
  }
