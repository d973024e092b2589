-- The first number that passes a test.
use Rattle.std.proofs.Common.{◌≡◌, ℕ, zero, suc, ◌+◌, ◌<◌, ◌≤◌, Bool, true, false, arith, sym, subst, inl, inr}
use Rattle.std.proofs.lemmas.Bool.{cases_Bool, cases_eq, cases_order}
use Rattle.smp_split.specs.Stages.{first_among}

pub record IsFirst (test : ℕ → Bool) (from n at : ℕ) : Type 0 where
  pub above : from ≤ at
  pub within : at ≤ from + n
  pub passed : (j : ℕ) → from ≤ j → j < at → test j ≡ false
  pub here : at < from + n → test at ≡ true

module _ (test : ℕ → Bool) where
  pub first_is : (n i : ℕ) → IsFirst test i n (first_among test n i)
  first_is zero i = record {
    above = omega arith;
    within = omega arith;
    passed = λ j a b. absurd (omega arith);
    here = λ h. absurd (omega arith);
  }
  first_is (suc n) i =
      elim (cases_Bool (test i)) [
        | inl e ↦ rw e (record { above = omega arith; within = omega arith; passed = λ j a b. absurd (omega arith); here = λ h. e })
        | inr e ↦
            (let rest = first_is n (i + 1) in
            rw e (record {
              above = omega (arith, rest.above);
              within = omega (arith, rest.within);
              passed = λ j a b. elim (cases_eq j i) [
                | inl is ↦ subst (λ (k : ℕ). test k ≡ false) (sym is) e
                | inr ne ↦ rest.passed j (omega arith) b
              ];
              here = λ h. rest.here (omega arith);
            }))
      ]

  pub first_unique : (from n a b : ℕ) → IsFirst test from n a → IsFirst test from n b → a ≡ b
  first_unique from n a b is_a is_b =
      elim (cases_order a b) [
        | inl same ↦ same
        | inr (inl less) ↦ absurd (let on : test a ≡ true = is_a.here (omega (arith, is_b.within)) in
            let off : test a ≡ false = is_b.passed a is_a.above less in cc)
        | inr (inr more) ↦ absurd (let on : test b ≡ true = is_b.here (omega (arith, is_a.within)) in
            let off : test b ≡ false = is_a.passed b is_b.above more in cc)
      ]
