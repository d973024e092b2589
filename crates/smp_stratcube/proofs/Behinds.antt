-- The least common denominators of units and those behind them.
use Rattle.std.proofs.Common.{◌≡◌, ◌≢◌, ℕ, ◌+◌, ◌^◌, ◌<◌, ◌≤◌, nat_eq, List, [], ◌∷◌, map, length, get_or, arith, refl, sym, ap, ◌∙◌, subst, inl, inr}
use Rattle.std.specs.List.{filter}
use Rattle.std.proofs.{lemmas.Bool.{cases_lt, eq-eqb, eqb-true, ne_eqb}, lemmas.List.{get_or_past}, Math.Nat.{one-dvd}}
use Rattle.std.proofs.lemmas.Nat.Gcd.{dvd_antisymm, dvd_refl, dvd_trans}
use Prim.Native.Nat.{◌∣◌}
use Rattle.smp_prob.specs.Given.{least_multiple}
use Rattle.smp_moves.specs.Steps.{common_multiple}
use Rattle.smp_moves.proofs.Filtered.{filter_none}
use Rattle.smp_stratcube.specs.{declared.units.Member.{Member}, Units.{IsUnits, Units, nobody}, Kept.Fronts.{units_on}}
use Rattle.smp_stratcube.specs.{Kept.Behind.{HaveCommon, IsBehind, dens_behind, units_behind}, Laws.Units.{filter_from, filter_is}}
use Rattle.smp_moves.proofs.Multiples.{AllDivide, AllSome, from, from_each, from_least, from_some, from_start, least, map_divide, multiple_each, multiple_least, multiple_most, multiple_some, some_map}
use Rattle.smp_stratcube.proofs.Ahead.{unit_on, units_here}

-- ---- least common multiples

-- of a number and of some numbers
pub from_multiple : (m : ℕ) (ns : List ℕ) → 1 ≤ m → AllSome ns → from m ns ≡ least_multiple m (common_multiple ns)
from_multiple m ns some all =
    let b : ℕ = common_multiple ns in
    let l = least m b some (multiple_some ns all) in
    let total_some = from_some m ns some all in
    dvd_antisymm
    (from_least m ns (least_multiple m b) some all l.common.positive l.common.first (divide_on ns b (least_multiple m b) (multiple_each ns all) l.common.second))
    (l.least (from m ns) (record { positive = total_some; first = from_start m ns some all; second = multiple_least ns (from m ns) all total_some (from_each m ns some all) }))
  where
    divide_on : (ns : List ℕ) (m n : ℕ) → AllDivide ns m → m ∣ n → AllDivide ns n
    divide_on [] m n all d = tt
    divide_on (x ∷ ns) m n all d = (dvd_trans x all.0 d, divide_on ns m n all.1 d)

one_multiple : (d : ℕ) → 1 ≤ d → common_multiple (d ∷ []) ≡ d
one_multiple d some =
    (let l = least 1 d (omega arith) some in
    dvd_antisymm (l.least d (record { positive = some; first = one-dvd d; second = dvd_refl d })) l.common.second)

more_multiple : (d : ℕ) (ns : List ℕ) → 1 ≤ d → AllSome ns → common_multiple (d ∷ ns) ≡ least_multiple d (common_multiple ns)
more_multiple d ns some all = ap (λ m. from m ns) (one_multiple d some) ∙ from_multiple d ns some all

-- ---- units from a place on

module _ (members : List Member) (have : HaveCommon members) where
  abbrev stratum_at : ℕ → ℕ
  stratum_at k = (get_or members k nobody).stratum

  abbrev den_at : ℕ → ℕ
  den_at k = (get_or members k nobody).share.den

  some_den : (k : ℕ) → 1 ≤ (get_or members k nobody).share.den
  some_den k =
      elim (cases_lt k (length members)) [
        | inl l ↦ have.some_den k l
        | inr past ↦ subst (λ (m : Member). 1 ≤ m.share.den) (sym (get_or_past members k nobody past)) (omega arith)
      ]

  dens_some : (h k : ℕ) → AllSome (dens_behind members h k)
  dens_some h k = some_map den_at (units_behind members h k) some_den

  pub some_behind : (k b : ℕ) → IsBehind members k b → 1 ≤ b
  some_behind k b is = rw is (multiple_some (dens_behind members (stratum_at k) k) (dens_some (stratum_at k) k))

  next_behind : (k : ℕ) → k < length members → dens_behind members (stratum_at k) k ≡ den_at k ∷ dens_behind members (stratum_at k) (k + 1)
  next_behind k l =
      ap (λ ks. map den_at (filter (λ i. nat_eq (stratum_at i) (stratum_at k)) ks)) (units_here k (length members) l)
      ∙ (rw (eq-eqb (stratum_at k) (stratum_at k) refl) refl)

  -- a unit behind which there is none of its stratum
  pub alone_behind : (k : ℕ) → k < length members → (k + 1 < length members → (get_or members (k + 1) nobody).stratum ≢ (get_or members k nobody).stratum) → IsBehind members k (get_or members k nobody).share.den
  alone_behind k l other =
      let us : List ℕ = units_on (k + 1) (length members) in
      let none : dens_behind members (stratum_at k) (k + 1) ≡ [] =
      ap (map den_at) (filter_none (λ i. nat_eq (stratum_at i) (stratum_at k)) us (λ j m.
      (let at = unit_on (k + 1) (length members) j m in
      let a = have.rises k (k + 1) (omega arith) (omega (arith, at.1)) in
      let b = have.rises (k + 1) (get_or us j 0) (omega (arith, at.0)) (omega (arith, at.0, at.1)) in
      let ne = other (omega (arith, at.1)) in
      ne_eqb (stratum_at (get_or us j 0)) (stratum_at k) (omega (arith, a, b, ne))))) in
      sym (ap common_multiple (next_behind k l ∙ ap (λ ns. den_at k ∷ ns) none) ∙ one_multiple (den_at k) (some_den k))

  -- a unit before one of its stratum
  module _ (k b : ℕ) (l : k + 1 < length members) (same : (get_or members (k + 1) nobody).stratum ≡ (get_or members k nobody).stratum) (is : IsBehind members (k + 1) b) where
    abbrev h : ℕ
    h = (get_or members k nobody).stratum

    pub same_behind : IsBehind members k (least_multiple (get_or members k nobody).share.den b)
    same_behind =
        ap (least_multiple (den_at k)) (is ∙ ap (λ g. common_multiple (dens_behind members g (k + 1))) same)
        ∙ sym (ap common_multiple (next_behind k (omega (arith, l))) ∙ more_multiple (den_at k) (dens_behind members h (k + 1)) (some_den k) (dens_some h (k + 1)))

    pub fits_behind : least_multiple (get_or members k nobody).share.den b ≤ 2 ^ 80
    fits_behind =
        let us : List ℕ = units_on k (length members) in
        let most = multiple_most (dens_behind members h k) (have.common h) (dens_some h k) (have.some h)
        (map_divide den_at (units_behind members h k) (have.common h) (λ j m.
        (let from_us = filter_from (λ i. nat_eq (stratum_at i) h) us j m in
        let at = unit_on k (length members) from_us.0 from_us.1 in
        let i : ℕ = get_or (units_behind members h k) j 0 in
        subst (λ (g : ℕ). den_at i ∣ have.common g) (eqb-true (stratum_at i) h (filter_is (λ i. nat_eq (stratum_at i) h) us j m))
        (have.divides i (omega (arith, from_us.2, at.0, at.1)))))) in
        omega (arith, same_behind, most, have.most h)

-- the units have a common denominator in each stratum
pub have_common : (units : Units) → IsUnits units → HaveCommon units.members
have_common units are = record {
  common = λ h. get_or units.firsts h 1;
  some = λ h. (are.firsts h).0;
  most = λ h. (are.firsts h).1;
  some_den = λ k l. omega (arith, are.below_one k l);
  divides = are.divides;
  rises = are.rises;
}

-- what a read past the end would give
abbrev pub unread : Member
unread = record { column = []; stratum = 0; share = record { num = 0; den = 0 } }
