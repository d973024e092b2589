-- The least common multiple of some numbers: each of them divides it, and it divides each number that they all divide.
use Rattle.std.proofs.Common.{ℕ, zero, suc, ◌<◌, ◌≤◌, List, [], ◌∷◌, ◌++◌, length, get_or, map, arith, le_of_suc-le-suc}
use Rattle.std.specs.Prelude.{fold}
use Rattle.std.proofs.{lemmas.Nat.Gcd.{dvd_refl, dvd_trans}, Math.Nat.{one-dvd, le_of_dvd}}
use Prim.Native.Nat.{◌∣◌}
use Rattle.smp_frac.specs.{Divisors.{greatest_common_divisor, IsCommonMultiple, IsLeastMultiple}, Laws.Coprime.{IsLeastMultiple-from_gcd}}
use Rattle.smp_frac.specs.Laws.Gcds.{IsGcd-greatest_common_divisor}
use Rattle.smp_prob.specs.Given.{least_multiple}
use Rattle.smp_moves.specs.Steps.{common_multiple}

pub least : (a b : ℕ) → 1 ≤ a → 1 ≤ b → IsLeastMultiple a b (least_multiple a b)
least a b some also = IsLeastMultiple-from_gcd a b (greatest_common_divisor a b) some also (IsGcd-greatest_common_divisor a b)

-- each of some numbers is at least 1
abbrev pub AllSome : List ℕ → Type 0
AllSome [] = Unit {0}
AllSome (n ∷ ns) = (1 ≤ n) × AllSome ns

-- each of them divides m
abbrev pub AllDivide : List ℕ → ℕ → Type 0
AllDivide [] m = Unit {0}
AllDivide (n ∷ ns) m = (n ∣ m) × AllDivide ns m

abbrev pub from : ℕ → List ℕ → ℕ
from m ns = fold least_multiple m ns

pub from_some : (m : ℕ) (ns : List ℕ) → 1 ≤ m → AllSome ns → 1 ≤ from m ns
from_some m [] some all = some
from_some m (n ∷ ns) some all = from_some (least_multiple m n) ns (least m n some all.0).common.positive all.1

pub from_start : (m : ℕ) (ns : List ℕ) → 1 ≤ m → AllSome ns → m ∣ from m ns
from_start m [] some all = dvd_refl m
from_start m (n ∷ ns) some all =
    let is = least m n some all.0 in
    dvd_trans m is.common.first (from_start (least_multiple m n) ns is.common.positive all.1)

pub from_each : (m : ℕ) (ns : List ℕ) → 1 ≤ m → AllSome ns → AllDivide ns (from m ns)
from_each m [] some all = tt
from_each m (n ∷ ns) some all =
    let is = least m n some all.0 in (
      dvd_trans n is.common.second (from_start (least_multiple m n) ns is.common.positive all.1),
      from_each (least_multiple m n) ns is.common.positive all.1,
    )

pub from_least : (m : ℕ) (ns : List ℕ) (k : ℕ) → 1 ≤ m → AllSome ns → 1 ≤ k → m ∣ k → AllDivide ns k
    → from m ns ∣ k
from_least m [] k some all pk d each = d
from_least m (n ∷ ns) k some all pk d each =
    let is = least m n some all.0 in
    let both : IsCommonMultiple m n k = record { positive = pk; first = d; second = each.0 } in
    from_least (least_multiple m n) ns k is.common.positive all.1 pk (is.least k both) each.1

pub multiple_some : (ns : List ℕ) → AllSome ns → 1 ≤ common_multiple ns
multiple_some ns all = from_some 1 ns (omega arith) all

pub multiple_each : (ns : List ℕ) → AllSome ns → AllDivide ns (common_multiple ns)
multiple_each ns all = from_each 1 ns (omega arith) all

pub multiple_least : (ns : List ℕ) (k : ℕ) → AllSome ns → 1 ≤ k → AllDivide ns k → common_multiple ns ∣ k
multiple_least ns k all pk each = from_least 1 ns k (omega arith) all pk (one-dvd k) each

pub multiple_most : (ns : List ℕ) (k : ℕ) → AllSome ns → 1 ≤ k → AllDivide ns k → common_multiple ns ≤ k
multiple_most ns k all pk each = le_of_dvd pk (multiple_least ns k all pk each)

-- ---- lists

pub some_append : (xs ys : List ℕ) → AllSome xs → AllSome ys → AllSome (xs ++ ys)
some_append [] ys a b = b
some_append (x ∷ xs) ys a b = (a.0, some_append xs ys a.1 b)

pub divide_append : (xs ys : List ℕ) (m : ℕ) → AllDivide (xs ++ ys) m → AllDivide xs m × AllDivide ys m
divide_append [] ys m all = (tt, all)
divide_append (x ∷ xs) ys m all = (let r = divide_append xs ys m all.1 in ((all.0, r.0), r.1))

pub some_map : (f : ℕ → ℕ) (ks : List ℕ) → ((k : ℕ) → 1 ≤ f k) → AllSome (map f ks)
some_map f [] h = tt
some_map f (k ∷ ks) h = (h k, some_map f ks h)

pub divide_map : (f : ℕ → ℕ) (ks : List ℕ) (m : ℕ) → AllDivide (map f ks) m → (j : ℕ) → j < length ks
    → f (get_or ks j 0) ∣ m
divide_map f [] m all j l = absurd (omega (arith, l))
divide_map f (k ∷ ks) m all zero l = all.0
divide_map f (k ∷ ks) m all (suc j) l = divide_map f ks m all.1 j (le_of_suc-le-suc l)

pub map_divide : (f : ℕ → ℕ) (ks : List ℕ) (m : ℕ) → ((j : ℕ) → j < length ks → f (get_or ks j 0) ∣ m)
    → AllDivide (map f ks) m
map_divide f [] m h = tt
map_divide f (k ∷ ks) m h = (h 0 (omega arith), map_divide f ks m (λ j l. h (suc j) (omega (arith, l))))
