-- Where a selection starts: all units are left, and each has its probability as its value.
use Rattle.std.proofs.Common.{◌≡◌, ◌≢◌, ℕ, zero, suc, ◌+◌, ◌-◌, ◌*◌, ◌^◌, ◌<◌, ◌≤◌, Bool, true, false, cond, max, nat_eq, List, [], ◌∷◌, length, get_or, replicate, arith, refl, sym, ap, subst, ◌∙◌, inl, inr}
use Rattle.std.specs.List.{count_by, range_with_len, sum, sum_by}
use Rattle.std.proofs.{Math.Nat.{mul-le-mul_right}, lemmas.Bool.{cases_Bool, cases_eq, cases_lt, eqb-true, eqb-false, eq-eqb, ne_eqb}}
use Rattle.std.proofs.lemmas.List.{length-replicate, get_or-replicate, get_or_past}
use Rattle.std.proofs.lemmas.List.Sums.{sum_by-cons, count_by-le-length, get_or-le-sum_by}
use Rattle.smp_frac.specs.Fractions.{Fraction, Same, whole, times, over, inverse}
use Rattle.smp_frac.proofs.{Arithmetic.{cancel, same_refl, same_sym, same_trans, times_same, times-one}, Over.{over_one}}
use Rattle.smp_prob.specs.{declared.requests.Request.{Request}, Requested.{is_certain, certain_units, open_total, positive_units}}
use Rattle.smp_prob.specs.{Requests.{IsRequest}, Inclusions.{free_fraction}, Shares.{draws_of}}
use Rattle.smp_prob.proofs.{Sizes.{sum_by-same}, Certain.{all_certain, none_certain, certain_within, part_share}}
use Rattle.smp_split.specs.{Counts.{AddsUp, LeavesSelect}, Methods.{Starts}, Paths.{Entry, Leads}, Trees.{weight_sum}}
use Rattle.smp_split.proofs.{Counts.{count_by-indices, leaves_select, sum_by-indices}, Methods.{starts}, Sums.{adds_up, numerators_add}}
use Rattle.smp_split.specs.Laws.Steps.{leads_belong}
use Rattle.smp_split.proofs.Units.{each_unit}
use Rattle.smp_values.specs.Starts.{IsRequested}
use Rattle.smp_elim.specs.Elimination.{Remaining, all_left, is_left, left_count, fewer, fraction_at, may_go, weight_of, without, value_of, eliminate_parts, elimination_tree, AreSizes, IsRemaining}
use Rattle.smp_elim.specs.{Method.{BoundsAreBelow, HasFractions, method_of, started}, Laws.Splits.{elimination_lawful}, Kept.Cuts.{IsCutAt}}
use Rattle.smp_elim.specs.{Laws.Sums.{sum_by-most, sum_by-plus, sum_by-times}, Laws.Values.{fraction_certain, fraction_open}}
use Rattle.smp_elim.specs.{Laws.Weights.{sizes_enough, open_within, bound_is, bound_narrow}, declared.cuts.Cut.{Cut}}
use Rattle.smp_elim.specs.{Kept.Weights.{IsReady, fresh_amount}, Kept.States.{IsKept, IsStart}}
use Rattle.smp_elim.proofs.Finding.{fresh_within}

count_all : (n : ℕ) → count_by (λ (b : Bool). b) (replicate n true) ≡ n
count_all zero = refl
count_all (suc n) = omega (arith, sum_by-cons (λ (b : Bool). cond b 1 0) true (replicate n true), count_all n)

sum_ones : (n i : ℕ) → sum_by (λ (k : ℕ). 1) (range_with_len i n) ≡ n
sum_ones zero i = refl
sum_ones (suc n) i = omega (arith, sum_by-cons (λ (k : ℕ). 1) i (range_with_len (i + 1) n), sum_ones n (i + 1))

module _ (sizes : List ℕ) (positive : (k : ℕ) → k < length sizes → 1 ≤ get_or sizes k 0) where
  abbrev ks : List ℕ
  ks = range_with_len 0 (length sizes)

  abbrev one_certain : ℕ → ℕ → ℕ
  one_certain n k = cond (is_certain n sizes (get_or sizes k 0)) 1 0

  abbrev open_size : ℕ → ℕ → ℕ
  open_size n k = cond (is_certain n sizes (get_or sizes k 0)) 0 (get_or sizes k 0)

  sum_certain : (n : ℕ) → sum_by (one_certain n) ks ≡ certain_units n sizes
  sum_certain n = count_by-indices (is_certain n sizes) sizes 0 (length sizes) refl

  sum_open : (n : ℕ) → sum_by (open_size n) ks ≡ open_total n sizes
  sum_open n = sum_by-indices (λ z. cond (is_certain n sizes z) 0 z) sizes 0 (length sizes) refl

  -- each unit is certain or has a size that is open
  pub all_within : (n : ℕ) → length sizes ≤ certain_units n sizes + open_total n sizes
  all_within n =
      let each : (k : ℕ) → k < 0 + length sizes → 1 ≤ one_certain n k + open_size n k = (λ k l. elim (cases_Bool (is_certain n sizes (get_or sizes k 0))) [
        | inl c ↦ rw c (omega arith)
        | inr c ↦ rw c (omega (arith, positive k (omega arith)))
      ]) in
      omega (arith, sum_by-most (λ (k : ℕ). 1) (λ k. one_certain n k + open_size n k) (length sizes) 0 each, sum_ones (length sizes) 0, sum_by-plus (one_certain n) (open_size n) ks, sum_certain n, sum_open n)

  -- with as many draws as units all are certain
  pub all_cut : (certain_units (length sizes) sizes ≡ length sizes) × (open_total (length sizes) sizes ≡ 0)
  all_cut =
      let each : (k : ℕ) → k < 0 + length sizes → open_size (length sizes) k ≤ 0 * one_certain (length sizes) k = (λ k l. rw (all_certain sizes (get_or sizes k 0) (positive k (omega arith))) (omega arith)) in
      let none : open_total (length sizes) sizes ≡ 0 = omega (arith, sum_by-most (open_size (length sizes)) (λ k. 0 * one_certain (length sizes) k) (length sizes) 0 each, sum_by-times 0 (one_certain (length sizes)) ks, sum_open (length sizes)) in
      (omega (arith, none, all_within (length sizes), count_by-le-length (is_certain (length sizes) sizes) sizes), none)

-- a state of a design, over all draws from which on each unit is selected with its probability
pub record HasBegun (design state : Remaining) : Type 0 where
  pub starts : Starts (method_of design) state
  pub values : HasFractions design state
  pub count : LeavesSelect (method_of design).tree design.wanted state
  pub bounds : BoundsAreBelow (2 ^ 67) (method_of design).tree state

module _ (sizes : List ℕ) (wanted : ℕ) (are : AreSizes (length sizes) sizes wanted) (within : wanted ≤ length sizes) where
  abbrev start : Remaining
  start = all_left sizes wanted

  pub all_count : left_count start ≡ length sizes
  all_count = count_all (length sizes)

  pub start_belongs : IsRemaining (length sizes) start
  start_belongs = record {
    sizes = are;
    count = length-replicate (length sizes) true;
    enough = omega (arith, all_count, within);
    certain = λ unit here _. get_or-replicate (length sizes) unit true false here;
  }

  -- the value of a unit is its probability
  pub start_value : (unit : ℕ) → unit < length sizes → Same (value_of start unit) (fraction_at start wanted unit)
  start_value unit here =
      let left : is_left start unit ≡ true = get_or-replicate (length sizes) unit true false here in
      let all : is_certain (length sizes) sizes (get_or sizes unit 0) ≡ true = all_certain sizes (get_or sizes unit 0) (are.positive unit here) in
      let one : fraction_at start (left_count start) unit ≡ whole 1 = ap (λ n. fraction_at start n unit) all_count ∙ fraction_certain (length sizes) sizes (get_or sizes unit 0) all in
      let value : value_of start unit ≡ times (fraction_at start wanted unit) (inverse (whole 1)) = rw left (ap (λ x. times (fraction_at start wanted unit) (inverse x)) one) in
      subst (λ (x : Fraction). Same x (fraction_at start wanted unit)) (sym value)
      (same_trans (times_same (same_refl (fraction_at start wanted unit)) (record { cross = refl })) (times-one (fraction_at start wanted unit)))

  -- each leaf has as many units left as are wanted
  start_leaves : LeavesSelect (elimination_tree (length sizes)) wanted start
  start_leaves =
      leaves_select (elimination_tree (length sizes)) (IsRemaining (length sizes)) (elimination_lawful (length sizes)) wanted (λ s. s.wanted ≡ wanted) (record {
        kept = λ s ok going same. each_unit (may_go s) (weight_of s) (without s) (λ p. p.state.wanted ≡ wanted) (length s.sizes) (λ unit here may. same);
        leaf = λ s ok done same. count_by-indices (λ (b : Bool). b) s.left false (length sizes) ok.count ∙ eqb-true (left_count s) s.wanted done ∙ same;
      }) start start_belongs refl

  -- the bound of each step below the start
  start_bounds : (path : List Entry) (to : Remaining) → Leads (elimination_tree (length sizes)) start path to → nat_eq (left_count to) to.wanted ≡ false → weight_sum (eliminate_parts to) < 2 ^ 67
  start_bounds path to leads going =
      let ok = leads_belong (elimination_tree (length sizes)) (IsRemaining (length sizes)) (elimination_lawful (length sizes)) path start to leads start_belongs in
      let ne : left_count to ≢ to.wanted = eqb-false (left_count to) to.wanted going in
      let on : to.wanted < left_count to = omega (arith, ne, ok.enough) in
      omega (arith, bound_is (length sizes) to ok on, bound_narrow (length sizes) to ok on)

  -- ---- the values add up to the number of units wanted

  abbrev rest : ℕ
  rest = open_total wanted sizes

  abbrev draws : ℕ
  draws = wanted - certain_units wanted sizes

  numerator : ℕ → ℕ
  numerator k = max 1 rest * one_certain sizes are.positive wanted k + draws * open_size sizes are.positive wanted k

  enough : wanted ≤ positive_units sizes
  enough = sizes_enough (length sizes) sizes wanted wanted are within

  value_over : (k : ℕ) → k < length sizes → Same (value_of start k) (over (numerator k) (max 1 rest))
  unfolding numerator
  value_over k here =
      elim (cases_Bool (is_certain wanted sizes (get_or sizes k 0))) [
        | inl c ↦
            (let is : numerator k ≡ max 1 rest = rw c (omega arith) in
            let one : fraction_at start wanted k ≡ whole 1 = fraction_certain wanted sizes (get_or sizes k 0) c in
            same_trans (start_value k here) (subst (λ (x : Fraction). Same x (over (numerator k) (max 1 rest))) (sym one)
            (subst (λ (n : ℕ). Same (whole 1) (over n (max 1 rest))) (sym is) (same_sym (over_one (max 1 rest) (omega arith))))))
        | inr c ↦
            (let is : numerator k ≡ draws * get_or sizes k 0 = rw c (omega arith) in
            let part : fraction_at start wanted k ≡ over (draws * get_or sizes k 0) rest = fraction_open wanted sizes (get_or sizes k 0) (are.positive k here) c in
            let less = part_share wanted sizes enough k (are.positive k here) c in
            let same : max 1 rest ≡ rest = omega (arith, less) in
            same_trans (start_value k here) (subst (λ (x : Fraction). Same x (over (numerator k) (max 1 rest))) (sym part)
            (subst (λ (n : ℕ). Same (over (draws * get_or sizes k 0) rest) (over n (max 1 rest))) (sym is) (subst (λ (d : ℕ). Same (over (draws * get_or sizes k 0) rest) (over (draws * get_or sizes k 0) d)) (sym same) (same_refl (over (draws * get_or sizes k 0) rest))))))
      ]

  total : sum_by numerator (ks sizes are.positive) ≡ wanted * max 1 rest
  unfolding numerator
  total =
      let d : ℕ = max 1 rest in
      let sum = sum_by-plus (λ k. d * one_certain sizes are.positive wanted k) (λ k. draws * open_size sizes are.positive wanted k) (ks sizes are.positive) in
      let first = sum_by-times d (one_certain sizes are.positive wanted) (ks sizes are.positive) in
      let second = sum_by-times draws (open_size sizes are.positive wanted) (ks sizes are.positive) in
      let by_certain : wanted ≡ certain_units wanted sizes + draws = omega (arith, certain_within wanted sizes enough) in
      let same : draws * rest ≡ draws * d = elim (cases_eq rest 0) [
        | inl none ↦ (let no_draw : draws ≡ 0 = omega (arith, none, all_within sizes are.positive wanted, within) in rw no_draw (omega arith))
        | inr some ↦ (let is : rest ≡ d = omega (arith, some) in ap (λ x. draws * x) is)
      ] in
      omega (arith, sum, first, second, ap (λ x. d * x) (sum_certain sizes are.positive wanted), ap (λ x. draws * x) (sum_open sizes are.positive wanted), same, ap (λ x. x * d) by_certain)

  pub start_adds_up : AddsUp (elimination_tree (length sizes)) wanted start
  start_adds_up = adds_up (elimination_tree (length sizes)) start numerator (max 1 rest) (omega arith) value_over wanted total

  start_starts : Starts (method_of start) start
  start_starts =
      starts (method_of start) start start_belongs
      (λ n adds.
      (let other = numerators_add (elimination_tree (length sizes)) start numerator (max 1 rest) (omega arith) value_over n adds in
      let same : wanted ≡ n = cancel wanted n (max 1 rest) (omega arith) (sym total ∙ other) in
      subst (λ m. LeavesSelect (elimination_tree (length sizes)) m start) same start_leaves))

  pub begun_at : HasBegun start start
  begun_at = record { starts = start_starts; values = λ unit here. start_value unit here; count = start_leaves; bounds = start_bounds }

-- ---- what is kept at the start

module _ (sizes order : List ℕ) (wanted : ℕ) (is : IsStart sizes order wanted) where
  pub start_narrow : wanted < length sizes → sum_by (fresh_amount sizes (length sizes)) (range_with_len 0 (length sizes)) < 2 ^ 63
  start_narrow less =
      let all = all_count sizes wanted is.sizes_are is.enough in
      let going : wanted < left_count (all_left sizes wanted) = omega (arith, all, less) in
      let most = fresh_within (all_left sizes wanted) (start_belongs sizes wanted is.sizes_are is.enough) going in
      omega (arith, most, ap (λ (n : ℕ). sum_by (fresh_amount sizes n) (range_with_len 0 (length sizes))) all, open_within (fewer (all_left sizes wanted)) sizes, is.sizes_are.narrow)

  pub start_cut : (units : ℕ) → units ≡ length sizes → IsCutAt units sizes (record { count = units; rest = 0 })
  start_cut units e =
      let all = all_cut sizes is.sizes_are.positive in
      subst (λ (n : ℕ). IsCutAt n sizes (record { count = n; rest = 0 })) (sym e) (record { count_is = sym all.0; rest_is = sym all.1 })

  pub start_kept : (next : Cut) (common fresh : List ℕ) → common ≡ replicate (length sizes) 0 → length fresh ≡ length sizes → (wanted < length sizes → IsReady sizes (length sizes) (record { count = length sizes; rest = 0 }) next fresh) → IsKept sizes order wanted (replicate (length sizes) true) (length sizes) (record { count = length sizes; rest = 0 }) next common fresh
  start_kept next common fresh common_are long ready = record {
    state = start_belongs sizes wanted is.sizes_are is.enough;
    falling = is.falling;
    count_is = sym (all_count sizes wanted is.sizes_are is.enough);
    now_cut = start_cut (length sizes) refl;
    common_length = ap length common_are ∙ length-replicate {A = ℕ} (length sizes) 0;
    fresh_length = long;
    common_is = λ unit here. rw (common_are, get_or-replicate {A = ℕ} (length sizes) unit 0 0 here, get_or-replicate (length sizes) unit true false here, all_certain sizes (get_or sizes unit 0) (is.sizes_are.positive unit here)) refl;
    ready = ready;
  }

-- numbers of which n times each is below all of them together are more than n
fewer_than : (n bound : ℕ) (zs : List ℕ) → ((k : ℕ) → k < length zs → n * get_or zs k 0 ≤ bound) → n * sum zs ≤ length zs * bound
fewer_than n bound [] h = omega arith
fewer_than n bound (z ∷ zs) h = omega (arith, sum_by-cons (λ (x : ℕ). x) z zs, ap (λ (x : ℕ). n * x) (sum_by-cons (λ (x : ℕ). x) z zs), h 0 (omega arith), fewer_than n bound zs (λ k l. h (suc k) (omega arith)))

-- ---- the design of a request

module _ (request : Request) (is : IsRequest request) (whole_sum : sum request.shape ≡ request.total) where
  abbrev shape : List ℕ
  shape = request.shape

  some_draws : 1 ≤ length request.free → draws_of request ≡ request.r
  some_draws some = rw (ne_eqb (length request.free) 0 (omega (arith, some))) refl

  pub are_sizes : (wanted : ℕ) → draws_of request ≤ wanted → AreSizes (length shape) shape wanted
  are_sizes wanted h = record {
    count = refl;
    few = omega (arith, is.paired, is.few);
    positive = is.positive;
    narrow = omega (arith, whole_sum, is.narrow);
    some = λ some. (let free : 1 ≤ length request.free = omega (arith, some, is.paired) in omega (arith, h, some_draws free, is.drawn free));
  }

  -- r of the units are fewer than all
  module _ (some : 1 ≤ length request.free) where
    below_one : (k : ℕ) → request.r * get_or shape k 0 < sum shape
    below_one k =
        elim (cases_lt k (length shape)) [
          | inl here ↦ omega (arith, is.below_one k here, whole_sum)
          | inr past ↦
              (let none : request.r * get_or shape k 0 ≡ request.r * 0 = ap (λ (z : ℕ). request.r * z) (get_or_past shape k 0 past) in
              omega (arith, none, is.below_one 0 (omega (arith, some, is.paired)), whole_sum))
        ]

    pub draws_within : request.r ≤ length shape
    draws_within =
        elim (cases_lt (length shape) request.r) [
          | inr within ↦ within
          | inl more ↦
              (let most = fewer_than request.r (sum shape - 1) shape (λ k here. (let less = below_one k in omega arith)) in
              let all : length shape * sum shape ≤ request.r * sum shape = mul-le-mul_right (sum shape) (omega arith) in
              let some_sum : 1 ≤ sum shape = (let less = below_one 0 in omega arith) in
              let one_more : sum shape ≡ sum shape - 1 + 1 = omega (arith, some_sum) in
              let parts : length shape * sum shape ≡ length shape * (sum shape - 1 + 1) = ap (λ (x : ℕ). length shape * x) one_more in
              absurd (omega (arith, most, all, parts, some, is.paired)))
        ]

    enough_draws : request.r ≤ positive_units shape
    enough_draws = sizes_enough (length shape) shape (draws_of request) request.r (are_sizes (draws_of request) (omega arith)) draws_within

    no_certain : certain_units request.r shape ≡ 0
    no_certain = none_certain request.r shape enough_draws below_one

    not_certain : (k : ℕ) → k < length shape → is_certain request.r shape (get_or shape k 0) ≡ false
    not_certain k here =
        elim (cases_Bool (is_certain request.r shape (get_or shape k 0))) [
          | inr e ↦ e
          | inl e ↦
              (let one : cond (is_certain request.r shape (get_or shape k 0)) 1 0 ≡ suc zero = rw e refl in
              absurd (omega (arith, one, no_certain, get_or-le-sum_by (λ z. cond (is_certain request.r shape z) 1 0) shape k 0 here)))
        ]

    all_open : open_total request.r shape ≡ sum shape
    all_open =
        sum_by-same (λ z. cond (is_certain request.r shape z) 0 z) (λ z. z) shape
        (λ k. elim (cases_lt k (length shape)) [
          | inl here ↦ rw (not_certain k here) refl
          | inr past ↦ rw (get_or_past shape k 0 past) refl
        ])

    pub free_value : (k : ℕ) → k < length shape → fraction_at (started request) (draws_of request) k ≡ free_fraction request k
    free_value k here =
        let size = is.positive k here in
        let draws : request.r - certain_units request.r shape ≡ request.r = omega (arith, no_certain) in
        let turned : (request.r - certain_units request.r shape) * get_or shape k 0 ≡ get_or shape k 0 * request.r = ap (λ (n : ℕ). n * get_or shape k 0) draws ∙ omega arith in
        ap (λ (n : ℕ). fraction_at (started request) n k) (some_draws some)
        ∙ fraction_open request.r shape (get_or shape k 0) size (not_certain k here)
        ∙ ap (λ (n : ℕ). over n (open_total request.r shape)) turned
        ∙ ap (λ (d : ℕ). over (get_or shape k 0 * request.r) d) (all_open ∙ whole_sum)

  pub drawn_within : draws_of request ≤ length shape
  drawn_within =
      elim (cases_eq (length request.free) 0) [
        | inl none ↦ (let no_draw : draws_of request ≡ 0 = rw (eq-eqb (length request.free) 0 none) refl in omega (arith, no_draw))
        | inr free ↦ (let some : 1 ≤ length request.free = omega (arith, free) in omega (arith, some_draws some, draws_within some))
      ]

  pub starts_requested : draws_of request ≤ length shape → IsRequested (method_of (started request)).tree request (started request)
  starts_requested within = record {
    units = is.paired;
    values = λ unit here.
        (let inside : unit < length shape = omega (arith, here, is.paired) in
        subst (λ (x : Fraction). Same (value_of (started request) unit) x) (free_value (omega (arith, here)) unit inside)
        (start_value shape (draws_of request) (are_sizes (draws_of request) (omega arith)) within unit inside));
    whole = λ some _.
        subst (λ (n : ℕ). AddsUp (elimination_tree (length shape)) n (started request)) (some_draws some)
        (start_adds_up shape (draws_of request) (are_sizes (draws_of request) (omega arith)) within);
  }
