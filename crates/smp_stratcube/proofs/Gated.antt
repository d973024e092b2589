-- A common multiple that is held to the gate.
use Rattle.std.proofs.Common.{◌≡◌, ℕ, ◌≤◌, ◌<◌, ◌^◌, nat_le, Option, Some, None, List, [], ◌∷◌, arith, inl, inr, refl, subst, ap}
use Rattle.std.specs.Prelude.{IfSome, IfNone, fold}
use Rattle.std.proofs.{lemmas.Bool.{cases_Bool, le-leb, leb-false, lt-leb}, Math.Nat.{le_of_dvd}}
use Rattle.smp_frac.specs.Divisors.{IsCommonMultiple, IsLeastMultiple}
use Rattle.smp_prob.specs.Given.{least_multiple}
use Rattle.smp_prob.proofs.Multiples.{least_multiple_is}
use Rattle.smp_stratcube.specs.Kept.Gates.{gated, held}
use Rattle.smp_moves.proofs.Multiples.{AllSome, from, from_some, from_start, least}

pub gated_is : (r : Option ℕ) (m n : ℕ) → 1 ≤ m → 1 ≤ n → IfSome r (IsLeastMultiple m n) → IfSome r (λ k. k ≤ 2 ^ 80) → IfNone r ((k : ℕ) → IsCommonMultiple m n k → 2 ^ 80 < k) → r ≡ gated (Some m) n
gated_is (Some k) m n pm pn is within passes =
    let e : k ≡ least_multiple m n = least_multiple_is m n k pm pn is in
    let le : least_multiple m n ≤ 2 ^ 80 = subst (λ (x : ℕ). x ≤ 2 ^ 80) e within in
    rw (le-leb (least_multiple m n) (2 ^ 80) le) (ap (λ x. Some x) e)
gated_is None m n pm pn is within passes =
    let past : 2 ^ 80 < least_multiple m n = passes (least_multiple m n) (least m n pm pn).common in
    rw (lt-leb (least_multiple m n) (2 ^ 80) past) refl

-- ---- of many numbers

-- that of a number and others, where all of it is held to the gate
abbrev pub gate_all : Option ℕ → List ℕ → Option ℕ
gate_all = fold gated

pub gate_none : (ns : List ℕ) → gate_all None ns ≡ None
gate_none [] = refl
gate_none (n ∷ ns) = gate_none ns

-- a multiple of a number that passes the gate passes it
pub gate_held : (m : ℕ) (ns : List ℕ) → 1 ≤ m → AllSome ns → gate_all (held m) ns ≡ held (from m ns)
gate_held m [] some all = refl
gate_held m (n ∷ ns) some all =
    elim (cases_Bool (nat_le m (2 ^ 80))) [
      | inl t ↦ rw t (gate_held (least_multiple m n) ns (least m n some all.0).common.positive all.1)
      | inr f ↦
          (let past : 2 ^ 80 < m = leb-false m (2 ^ 80) f in
          let whole : m ≤ from (least_multiple m n) ns = le_of_dvd (from_some m (n ∷ ns) some all) (from_start m (n ∷ ns) some all) in
          rw (f, lt-leb (from (least_multiple m n) ns) (2 ^ 80) (omega (arith, past, whole))) (gate_none ns))
    ]
