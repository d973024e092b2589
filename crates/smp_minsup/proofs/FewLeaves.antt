-- A state has at most as many leaves as fractional units.
use Rattle.std.proofs.{Common.{◌≢◌, ℕ, zero, suc, ◌-◌, ◌^◌, ◌≤◌, max, length, arith, inl, inr}, lemmas.Bool.{cases_Bool, eqb-false, lt-ltb}}
use Rattle.std.proofs.lemmas.List.Sums.{count_by-le-length}
use Rattle.smp_prob.specs.Shares.{Shares}
use Rattle.smp_split.specs.{Leaves.{leaves, leaves_within}, Methods.{Starts}}
use Rattle.smp_split.proofs.Methods.{starts}
use Rattle.smp_values.specs.Values.{fractional, fractional_count, is_settled}
use Rattle.smp_values.proofs.Sums.{lone_never}
use Rattle.smp_minsup.specs.{Method.{method_of}, Support.{IsSupport, draws_of, lambda, settled, lowered, support_tree}}
use Rattle.smp_minsup.specs.Laws.Splits.{leaf_count, some_between, settled_belongs, settled_done, lowered_belongs, lowered_falls, lambda_positive, lambda_less}

-- no unit alone is fractional
never_one : (units : ℕ) (s : Shares) → IsSupport units s → fractional_count s ≢ 1
never_one units s ok one =
    let found = some_between units s ok (omega (arith, one)) in
    lone_never units (2 ^ 126 - 1) (draws_of s) s ok.values found.0 found.1.1 (omega (arith, one)) ok.whole

pub few_leaves : (units steps : ℕ) (s : Shares) → IsSupport units s → fractional_count s ≤ steps → leaves_within steps (support_tree units) s ≤ max 1 (fractional_count s)
few_leaves units zero s ok within = omega arith
few_leaves units (suc steps) s ok within =
    elim (cases_Bool (is_settled s)) [
      | inl e ↦ rw e (omega arith)
      | inr e ↦
          (let ne : fractional_count s ≢ 0 = eqb-false (fractional_count s) 0 e in
          let going : 1 ≤ fractional_count s = omega (arith, ne) in
          let more : fractional_count s ≢ 1 = never_one units s ok in
          let first = few_leaves units steps (settled s) (settled_belongs units s ok) (omega (arith, settled_done units s ok)) in
          let second = few_leaves units steps (lowered s) (lowered_belongs units s ok going) (omega (arith, within, lowered_falls units s ok going)) in
          let heavy = lt-ltb 0 (lambda s) (omega (arith, lambda_positive units s ok)) in
          let heavy' = lt-ltb 0 (s.den - lambda s) (omega (arith, lambda_less units s ok going)) in
          rw (e, heavy, heavy') (omega (arith, first, second, more, ne, settled_done units s ok, lowered_falls units s ok going)))
    ]

-- ---- a start

pub support_starts : (s : Shares) → IsSupport (length s.numer) s → Starts (method_of s) s
support_starts s ok = starts (method_of s) s ok (λ n adds. leaf_count (length s.numer) n s ok adds)

pub leaves_few : (s : Shares) → IsSupport (length s.numer) s → 1 ≤ length s.numer → leaves (support_tree (length s.numer)) s ≤ length s.numer
leaves_few s ok some =
    let few = few_leaves (length s.numer) (fractional_count s) s ok (omega arith) in
    let within : fractional_count s ≤ length s.numer = count_by-le-length (fractional s.den) s.numer in
    omega (arith, few)
