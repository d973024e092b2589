-- The splits of the elimination procedure are lawful.
use Rattle.std.proofs.Common.{◌≡◌, ◌≢◌, ℕ, zero, suc, ◌+◌, ◌*◌, ◌<◌, ◌≤◌, Bool, true, false, cond, not}
use Rattle.std.proofs.Common.{nat_eq, length, length-set, arith, refl, sym, ap, subst, ◌∙◌, inl, inr, true≢false}
use Rattle.std.specs.List.{range_with_len, sum_by}
use Rattle.std.proofs.Math.Nat.{one-le-mul}
use Rattle.std.proofs.lemmas.Bool.{cases_Bool, cases_eq, and_parts, eqb-true, eqb-false, eq-eqb, ne_eqb}
use Rattle.std.proofs.lemmas.List.{get_or-set_same, get_or-set_other}
use Rattle.std.proofs.lemmas.List.Sums.{sum_by-set}
use Rattle.smp_frac.specs.Fractions.{Fraction, Same, whole, times, over, inverse}
use Rattle.smp_frac.proofs.Arithmetic.{same_refl, same_sym, same_trans, times-zero}
use Rattle.smp_split.specs.Trees.{IsPart, Lawful, LawfulEnd, LawfulSplit, weighted}
use Rattle.smp_split.proofs.Units.{each_unit, sum_by-without, weighted-units}
use Rattle.smp_elim.specs.Elimination.{Remaining, size_of, is_left, left_count, fewer, fraction_at, is_certain_at, draws_at, total_at}
use Rattle.smp_elim.specs.Elimination.{factor, bound_of, weight_of, may_go, without, eliminate_parts, value_of, elimination_tree}
use Rattle.smp_elim.specs.Elimination.{IsRemaining}
use Rattle.smp_elim.specs.Laws.Numbers.{fresh_rest}
use Rattle.smp_elim.specs.Laws.Values.{fraction_certain, fraction_open, times_inverse, keeps_value, same_at, fresh_ratio, open_ratio}
use Rattle.smp_elim.specs.Laws.Weights.{stays, fresh, open_, gone, within, stands, part_fewer, draws_fewer, part_now, draws_now, factor_now}
use Rattle.smp_elim.specs.Laws.Weights.{open_keeps, some_weight, weight_at, sizes_enough, sum_weights, bound_is, some_bound, bound_narrow}
use Rattle.smp_prob.proofs.Certain.{part_share, some_draw}

-- ---- when a unit is taken out

-- a unit that may be taken out is left, and isn't certain when one fewer is
pub may_parts : (s : Remaining) (unit : ℕ) → may_go s unit ≡ true → (is_left s unit ≡ true)
    × (is_certain_at s (fewer s) unit ≡ false)
may_parts s unit may =
    let parts = and_parts (is_left s unit) (not (is_certain_at s (fewer s) unit)) may in
    elim (cases_Bool (is_certain_at s (fewer s) unit)) [
      | inl p ↦ (let none = rw p at parts.1 in absurd (true≢false (sym none)))
      | inr p ↦ (parts.0, p)
    ]

module _ (s : Remaining) (unit : ℕ) (in_range : unit < length s.left) (left : is_left s unit ≡ true) where
  pub one_fewer : left_count (without s unit) ≡ fewer s
  one_fewer =
      let changed = sum_by-set (λ (b : Bool). cond b 1 0) s.left unit false false in_range in
      let was : cond (is_left s unit) 1 0 ≡ suc zero = rw left refl in
      omega (arith, changed, was)

-- the value of a unit when one fewer is left, and it is still among these
abbrev later_value : Remaining → ℕ → Fraction
later_value s unit = cond (is_left s unit) (times (fraction_at s s.wanted unit) (inverse (fraction_at s (fewer s) unit))) (whole 0)

value_after : (s : Remaining) (unit k : ℕ) → unit < length s.left → is_left s unit ≡ true
    → value_of (without s unit) k ≡ cond (nat_eq unit k) (whole 0) (later_value s k)
value_after s unit k in_range left =
    elim (cases_eq k unit) [
      | inl e ↦ rw (e, eq-eqb unit unit refl, get_or-set_same s.left unit false false in_range) refl
      | inr other ↦
          (let apart : unit ≢ k = λ same. other (sym same) in
          rw (ne_eqb unit k apart, get_or-set_other s.left unit k false false other, one_fewer s unit in_range left) refl)
    ]

module _ (s : Remaining) (ok : IsRemaining (length s.sizes) s) (going : s.wanted < left_count s) where
  abbrev units : ℕ
  units = length s.sizes

  others : ℕ → ℕ
  others k = sum_by (λ j. cond (nat_eq j k) 0 (weight_at units s ok going j)) (range_with_len 0 units)

  others_rest : (k : ℕ) → k < units → others k + weight_at units s ok going k ≡ bound_of s
  unfolding others
  others_rest k here = sum_by-without (weight_at units s ok going) k units here ∙ sum_weights units s ok going

  at_parts : (k : ℕ) → Same (weighted (λ t. value_of t k) (eliminate_parts s)) (times (whole (others k)) (later_value s k))
  unfolding others
  at_parts k =
      weighted-units (may_go s) (weight_of s) (without s) (λ t. value_of t k) (later_value s k) k units
      (λ unit l may. value_after s unit k (omega (arith, l, ok.count)) (may_parts s unit may).0)

  module _ (k : ℕ) (here : k < units) where
    some_size : 1 ≤ size_of s k
    some_size = ok.sizes.positive k here

    fraction_fewer : is_certain_at s (fewer s) k ≡ false
        → fraction_at s (fewer s) k ≡ over (draws_at s (fewer s) * size_of s k) (total_at s (fewer s))
    fraction_fewer p = fraction_open (fewer s) s.sizes (size_of s k) some_size p

    some_part : is_certain_at s (fewer s) k ≡ false → 1 ≤ draws_at s (fewer s) * size_of s k
    some_part p = one-le-mul (draws_fewer units s ok going k here p) some_size

    -- what the other weights keep
    kept : Same (times (whole (others k)) (later_value s k)) (times (whole (bound_of s)) (value_of s k))
    kept =
        let rest = others_rest k here in
        let wanted : Fraction = fraction_at s s.wanted k in
        let ratio : Fraction → Fraction = λ x. times wanted (inverse x) in
        let size : ℕ = size_of s k in
        let p : ℕ = total_at s (fewer s) in
        let d : ℕ = draws_at s (fewer s) in
        elim (stands units s ok going k here) [
          | gone f c then_ ↦
              (let none : later_value s k ≡ whole 0 = rw f refl in
              let now : value_of s k ≡ whole 0 = rw f refl in
              same_at (others k) (others k) (later_value s k) (whole 0) (bound_of s) (bound_of s) (value_of s k)
              (whole 0) refl none refl now (same_trans (times-zero (whole (others k)))
              (same_sym (times-zero (whole (bound_of s))))))
          | stays f c sure ↦
              (let all : others k ≡ bound_of s = (let sum = rw (f, sure) at rest in omega (arith, sum)) in
              let later : later_value s k ≡ ratio (whole 1) = rw f (ap ratio (fraction_certain (fewer s) s.sizes size sure)) in
              let now : value_of s k ≡ ratio (whole 1) = rw f (ap ratio (fraction_certain (left_count s) s.sizes size c)) in
              same_at (others k) (bound_of s) (later_value s k) (ratio (whole 1)) (bound_of s) (bound_of s)
              (value_of s k) (ratio (whole 1)) all later refl now
              (same_refl (times (whole (bound_of s)) (ratio (whole 1)))))
          | fresh f c then_ ↦
              (let less = part_fewer units s ok going k here then_ in
              let own = fresh_rest (factor s) d p size (omega (arith, less)) in
              let all : others k ≡ factor s * d * size = (let sum = rw (f, c, then_) at rest in omega (arith, sum, own)) in
              let later : later_value s k ≡ ratio (over (d * size) p) = rw f (ap ratio (fraction_fewer then_)) in
              let now : value_of s k ≡ ratio (whole 1) = rw f (ap ratio (fraction_certain (left_count s) s.sizes size c)) in
              same_at (others k) (factor s * d * size) (later_value s k) (ratio (over (d * size) p)) (bound_of s)
              (bound_of s) (value_of s k) (ratio (whole 1)) all later refl now
              (keeps_value (factor s * d * size) (bound_of s) wanted (inverse (whole 1))
              (inverse (over (d * size) p)) (fresh_ratio (factor s) d p size (some_part then_)
              (omega (arith, less)))))
          | open_ f c then_ ↦
              (let less = part_fewer units s ok going k here then_ in
              let part = part_now units s ok going k here c in
              let g : ℕ = draws_at s (left_count s) in
              let r : ℕ = total_at s (left_count s) in
              let q : bound_of s ≡ p * g = ap (λ x. p * x) (factor_now units s ok going k here c) in
              let keeps = open_keeps units s ok going in
              let all : others k ≡ d * r = (let sum = rw (f, c, then_) at rest in omega (arith, sum, keeps, q)) in
              let later : later_value s k ≡ ratio (over (d * size) p) = rw f (ap ratio (fraction_fewer then_)) in
              let now : value_of s k ≡ ratio (over (g * size) r) =
              rw f (ap ratio (fraction_open (left_count s) s.sizes size some_size c)) in
              same_at (others k) (d * r) (later_value s k) (ratio (over (d * size) p)) (bound_of s) (p * g)
              (value_of s k) (ratio (over (g * size) r)) all later q now
              (keeps_value (d * r) (p * g) wanted (inverse (over (g * size) r)) (inverse (over (d * size) p))
              (open_ratio g d p r size (some_part then_) (omega (arith, less))
              (one-le-mul (draws_now units s ok going k here c) some_size) (omega (arith, part)))))
        ]

  -- what is left is a state of the selection
  pub after_belongs : (unit : ℕ) → unit < units → may_go s unit ≡ true → IsRemaining units (without s unit)
  after_belongs unit here may =
      let parts = may_parts s unit may in
      let in_range : unit < length s.left = omega (arith, here, ok.count) in
      let fewer_left = one_fewer s unit in_range parts.0 in
      record {
        sizes = ok.sizes;
        count = length-set s.left unit false ∙ ok.count;
        enough = omega (arith, fewer_left, going);
        certain = λ k l certain.
            (let p : is_certain_at s (fewer s) k ≡ true = rw fewer_left at certain in
            let other : k ≢ unit = λ same. true≢false (sym p ∙ ap (is_certain_at s (fewer s)) same ∙ parts.1) in
            rw (get_or-set_other s.left unit k false false other) (still_left k l p));
      }
    where
      still_left : (k : ℕ) → k < units → is_certain_at s (fewer s) k ≡ true → is_left s k ≡ true
      still_left k l p =
          elim (stands units s ok going k l) [
            | stays f c q ↦ f
            | fresh f c q ↦ f
            | open_ f c q ↦ f
            | gone f c q ↦ absurd (true≢false (sym p ∙ q))
          ]

  split_of : LawfulSplit (elimination_tree units) (IsRemaining units) s
  split_of =
      let is = bound_is units s ok going in
      record {
        some = rw is (some_bound units s ok going);
        narrow = rw is (omega (arith, bound_narrow units s ok going));
        each = each_unit (may_go s) (weight_of s) (without s) (IsPart (elimination_tree units) (IsRemaining units) s) units
            (λ unit here may.
            record {
              heavy = some_weight units s ok going unit here may;
              falls = (let fewer_left = one_fewer s unit (omega (arith, here, ok.count)) (may_parts s unit may).0 in
                  omega (arith, fewer_left, going));
              member = after_belongs unit here may;
            });
        even = λ k here. rw is (same_trans (at_parts k) (kept k here));
      }

-- the ratio of a probability to itself
self_ratio : (units : ℕ) (s : Remaining) → IsRemaining units s → (k : ℕ) → k < units
    → Same (times (fraction_at s s.wanted k) (inverse (fraction_at s s.wanted k))) (whole 1)
self_ratio units s ok k here =
    let size : 1 ≤ size_of s k = ok.sizes.positive k here in
    let enough = sizes_enough units s.sizes s.wanted s.wanted ok.sizes (omega (arith, within units s ok, ok.enough)) in
    elim (cases_Bool (is_certain_at s s.wanted k)) [
      | inl c ↦ self (whole 1) (fraction_certain s.wanted s.sizes (size_of s k) c) (record { cross = refl })
      | inr c ↦
          self _ (fraction_open s.wanted s.sizes (size_of s k) size c)
          (times_inverse _ _ (one-le-mul (some_draw s.wanted s.sizes enough k (ok.sizes.some (omega (arith, here)))
          size c) size) (let part = part_share s.wanted s.sizes enough k size c in omega (arith, part)))
    ]
  where
    self : (x : Fraction) → fraction_at s s.wanted k ≡ x → Same (times x (inverse x)) (whole 1)
        → Same (times (fraction_at s s.wanted k) (inverse (fraction_at s s.wanted k))) (whole 1)
    self x e h = subst (λ (y : Fraction). Same (times y (inverse y)) (whole 1)) (sym e) h

-- a unit that is left when as many are as are wanted has the value 1
ends : (units : ℕ) (s : Remaining) → IsRemaining units s → nat_eq (left_count s) s.wanted ≡ true
    → LawfulEnd (elimination_tree units) s
ends units s ok done k here =
    let all : left_count s ≡ s.wanted = eqb-true (left_count s) s.wanted done in
    elim (cases_Bool (is_left s k)) [
      | inr f ↦ rw f (same_refl (whole 0))
      | inl f ↦
          (let value : value_of s k ≡ times (fraction_at s s.wanted k) (inverse (fraction_at s s.wanted k)) =
          rw f (ap (λ n. times (fraction_at s s.wanted k) (inverse (fraction_at s n k))) all) in
          rw f (subst (λ (x : Fraction). Same x (whole 1)) (sym (rw f at value)) (self_ratio units s ok k here)))
    ]

pub elimination_lawful : (units : ℕ) → Lawful (elimination_tree units) (IsRemaining units)
elimination_lawful units = record {
  split = λ s ok going.
      (let count = ok.sizes.count in
      let own : IsRemaining (length s.sizes) s = subst (λ n. IsRemaining n s) (sym count) ok in
      let ne : left_count s ≢ s.wanted = eqb-false (left_count s) s.wanted going in
      subst (λ n. LawfulSplit (elimination_tree n) (IsRemaining n) s) count (split_of s own (omega (arith, ne, ok.enough))));
  end = ends units;
}
