-- The stratum of a stage, found among the numbers of the first stages.
use Rattle.std.proofs.Common.{◌≡◌, ℕ, suc, ◌-◌, ◌<◌, ◌≤◌, true, false, leb, leb-true, nat_lt, List, length, get_or, arith, inl, inr}
use Rattle.std.specs.List.Sorted.{IsNonDecreasingBy, IsPartitionedBy, IsPartitionPoint}
use Rattle.std.proofs.{lemmas.Bool.{cases_lt, leb-false, lt-ltb, le-ltb}, lemmas.List.Sorted.{IsPartitionedBy-leb}}
use Rattle.smp_split.specs.Laws.Firsts.{first_is, first_unique}
use Rattle.smp_split.proofs.StageSections.{before_rises, section}
use Rattle.smp_twostage.specs.{Kept.Stages.{first_numbers}, Laws.Covered.{strata_are_sections}}
use Rattle.smp_twostage.specs.Selections.{Coverage, covered_stages, section_count, stages_before}
use Rattle.smp_twostage.proofs.Inside.{first_at, length_firsts}

module _ (c : Coverage) (firsts : List ℕ) (are : firsts ≡ first_numbers c) (at : ℕ) where
  abbrev number : ℕ → ℕ
  number = stages_before c

  rising : IsNonDecreasingBy (λ x. x) firsts
  rising i j d l m =
      let count = length_firsts c firsts are in
      omega (arith, first_at c firsts are i d (omega (arith, l, m, count)), first_at c firsts are j d (omega (arith, m, count)), before_rises (covered_stages c) number (section_count c) (strata_are_sections c) i j l (omega (arith, m, count)))

  pub parted : IsPartitionedBy (λ first. leb first at) firsts
  parted = IsPartitionedBy-leb (λ x. x) firsts at rising

  -- the section of a number, where the first stage of the next one is behind this stage and its own is not
  pub section_at : (h : ℕ) → h < section_count c → number h ≤ at → at < number (suc h) → h ≡ section number (section_count c) at
  section_at h l from to =
      first_unique (λ k. nat_lt at (number (suc k))) 0 (section_count c) h (section number (section_count c) at)
      (record {
        above = omega arith;
        within = omega (arith, l);
        passed = λ k _ less. le-ltb at (number (suc k)) (omega (arith, from, before_rises (covered_stages c) number (section_count c) (strata_are_sections c) (suc k) h (omega (arith, less)) (omega (arith, l))));
        here = λ _. lt-ltb at (number (suc h)) to;
      })
      (first_is (λ k. nat_lt at (number (suc k))) (section_count c) 0)

  module _ (point : ℕ) (bound : point ≤ length firsts) (is : IsPartitionPoint (λ first. leb first at ≡ true) (λ first. leb first at ≡ false) firsts point) where
    before_point : (h : ℕ) → h < point → number h ≤ at
    before_point h l =
        let count = length_firsts c firsts are in
        omega (arith, leb-true (get_or firsts h 0) at (is.0 h 0 (omega arith) l), first_at c firsts are h 0 (omega (arith, l, bound, count)))

    behind_point : (h : ℕ) → point ≤ h → h ≤ section_count c → at < number h
    behind_point h l m =
        let count = length_firsts c firsts are in
        omega (arith, leb-false (get_or firsts h 0) at (is.1 h 0 l (omega (arith, m, count))), first_at c firsts are h 0 m)

    -- the first stage of all is before each stage
    pub some : 1 ≤ point
    some =
        elim (cases_lt 0 point) [
          | inl less ↦ omega (arith, less)
          | inr most ↦ absurd (omega (arith, behind_point 0 most (omega arith), (strata_are_sections c).first))
        ]

    pub stratum_is : point - 1 ≡ section number (section_count c) at
    stratum_is =
        let count = length_firsts c firsts are in
        first_unique (λ h. nat_lt at (number (suc h))) 0 (section_count c) (point - 1) (section number (section_count c) at)
        (record {
          above = omega arith;
          within = omega (arith, bound, count);
          passed = λ h _ l. le-ltb at (number (suc h)) (before_point (suc h) (omega (arith, l)));
          here = λ l. lt-ltb at (number (suc (point - 1))) (behind_point (suc (point - 1)) (omega arith) (omega (arith, l)));
        })
        (first_is (λ h. nat_lt at (number (suc h))) (section_count c) 0)
