-- What each unit of a stratum adds to its sums: what the free units add to those of the cube, and a fixed part of the certain ones.
use Rattle.std.proofs.Common.{◌≡◌, ◌≢◌, ℕ, zero, suc, ◌*◌, ◌<◌, ◌≤◌, mul-pos, Bool, true, false, cond, ℤ, pos, List, [], length, arith, refl, sym, ap, ◌∙◌, subst}
use Rattle.std.specs.Prelude.{slice_index}
use Rattle.std.proofs.lemmas.List.{get_or-map}
use Rattle.smp_frac.specs.{Fractions.{Fraction, Same, whole, integer, plus, times, inverse}, Bounds.{absolute}}
use Rattle.smp_frac.proofs.Arithmetic.{same_refl, same_sym, same_trans, times_same, times-one, times-zero, zero-plus, plus-zero, zero-plus-zero, inverse_same}
use Rattle.smp_twostage.proofs.Absolute.{absolute_same}
use Rattle.smp_kernel.specs.Vectors.{entry}
use Rattle.smp_prob.specs.{declared.inclusions.Inclusion.{Inclusion}, declared.inclusions.Inclusion.TheVariants.{Certain, Free, Never}}
use Rattle.smp_prob.specs.{Shares.{shares_of}, Inclusions.{inclusion, is_taken, fraction_at, free_fraction, asked_fraction}}
use Rattle.smp_values.specs.Values.{value_at}
use Rattle.smp_split.specs.{Rows.{row_value}, Laws.Rows.{free_within}}
use Rattle.smp_flight.specs.{States.{column}, Totals.{expanded, addend}}
use Rattle.smp_flight.proofs.{CubeStarts.{starts_requested}, Making.{column_at}}
use Rattle.smp_twostage.specs.Strata.{StratumUnits, AreStratumUnits, values_of, value_in, free_values, free_units}
use Rattle.smp_twostage.specs.Totals.{can_be_selected, counted, is_undecided, known_value}
use Rattle.smp_split.proofs.RowSums.{free_is, at_free}

pub cond_same : (b : Bool) {a c : Fraction} → Same a c → Same (cond b a (whole 0)) (cond b c (whole 0))
cond_same true h = h
cond_same false h = same_refl (whole 0)

module _ (s : StratumUnits) where
  -- what a certain unit adds, whatever is drawn
  abbrev pub fixed_at : ℕ → ℕ → Inclusion → Fraction
  fixed_at row k Certain = counted s row k
  fixed_at row k (Free u) = whole 0
  fixed_at row k Never = whole 0

  -- what a unit that stands so adds to what is known
  abbrev pub known_at : ℕ → ℕ → Inclusion → Fraction
  known_at zero k stand = fraction_at s.request stand
  known_at (suc j) k stand = integer (cond (can_be_selected stand) (value_in s j k) (pos 0))

module _ (s : StratumUnits) (ok : AreStratumUnits s) where
  abbrev free_at : ℕ → ℕ
  free_at u = slice_index s.request.free u

  -- ---- a free unit

  pub free_value : (u j : ℕ) → u < length s.request.free → entry (column (free_units s) u) (suc j) ≡ value_in s j (free_at u)
  free_value u j l =
      ap (λ (c : List ℤ). entry c (suc j)) (column_at s.request (free_values s) u (omega (arith, l, ok.request.paired)))
      ∙ ap (λ (x : List ℤ). entry x j) (get_or-map (values_of s) s.request.free u 0 [] l)

  pub free_asked : (u : ℕ) → u < length s.request.free → Same (value_at (shares_of s.request) u) (free_fraction s.request u)
  free_asked u l = (starts_requested s.request (free_values s) ok.request).values u l

  asked_at : (k : ℕ) (stand : Inclusion) → inclusion s.request k ≡ stand → asked_fraction s.request k ≡ fraction_at s.request stand
  asked_at k stand is = ap (fraction_at s.request) is

  pub some_asked : (u : ℕ) → u < length s.request.free → (free_fraction s.request u).num ≢ pos 0
  some_asked u l none =
      let shape : 1 ≤ slice_index s.request.shape u = ok.request.positive u (omega (arith, l, ok.request.paired)) in
      let drawn : 1 ≤ s.request.r = ok.request.drawn (omega (arith, l)) in
      let both : 1 ≤ slice_index s.request.shape u * s.request.r = mul-pos shape drawn in
      let is : slice_index s.request.shape u * s.request.r ≡ 0 = cc in
      omega (arith, both, is)

  -- the value of a unit that can be selected
  known_there : (j k : ℕ) (stand : Inclusion) → inclusion s.request k ≡ stand → can_be_selected stand ≡ true → known_value s j k ≡ value_in s j k
  known_there j k stand is can =
      ap (λ (at : Inclusion). cond (can_be_selected at) (value_in s j k) (pos 0)) is ∙ ap (λ (b : Bool). cond b (value_in s j k) (pos 0)) can

  pub counted_is : (row k u : ℕ) → inclusion s.request k ≡ Free u → Same (counted s row k) (expanded (free_units s) row u)
  counted_is zero k u is = same_refl (whole 1)
  counted_is (suc j) k u is =
      let l = free_within s.request k u is in
      let value : known_value s j k ≡ entry (column (free_units s) u) (suc j) = known_there j k (Free u) is refl ∙ ap (value_in s j) (sym (free_is s.request k u is)) ∙ sym (free_value u j l) in
      let weight : Same (inverse (asked_fraction s.request k)) (inverse (value_at (shares_of s.request) u)) =
      subst (λ (a : Fraction). Same (inverse a) (inverse (value_at (shares_of s.request) u))) (sym (asked_at k (Free u) is))
      (inverse_same (free_fraction s.request u) (value_at (shares_of s.request) u) (some_asked u l) (same_sym (free_asked u l))) in
      subst (λ (z : ℤ). Same (counted s (suc j) k) (times (integer z) (inverse (value_at (shares_of s.request) u)))) value
      (times_same (same_refl (integer (known_value s j k))) weight)

  -- ---- what any unit adds

  pub total_term : (value : ℕ → Fraction) (row k : ℕ) (stand : Inclusion) → inclusion s.request k ≡ stand →
      Same (times (counted s row k) (row_value value stand)) (plus (at_free (λ u. times (expanded (free_units s) row u) (value u)) stand) (fixed_at s row k stand))
  total_term value row k Certain is = same_trans (times-one (counted s row k)) (same_sym (zero-plus (counted s row k)))
  total_term value row k Never is = same_trans (times-zero (counted s row k)) (same_sym zero-plus-zero)
  total_term value row k (Free u) is =
      same_trans (times_same (counted_is row k u is) (same_refl (value u))) (same_sym (plus-zero (times (expanded (free_units s) row u) (value u))))

  pub estimate_term : (selected : ℕ → Bool) (row k : ℕ) (stand : Inclusion) → inclusion s.request k ≡ stand →
      Same (cond (is_taken selected stand) (counted s row k) (whole 0)) (plus (at_free (λ u. cond (selected u) (expanded (free_units s) row u) (whole 0)) stand) (fixed_at s row k stand))
  estimate_term selected row k Certain is = same_sym (zero-plus (counted s row k))
  estimate_term selected row k Never is = same_sym zero-plus-zero
  estimate_term selected row k (Free u) is =
      same_trans (cond_same (selected u) (counted_is row k u is)) (same_sym (plus-zero (cond (selected u) (expanded (free_units s) row u) (whole 0))))

  pub known_term : (row k : ℕ) (stand : Inclusion) → inclusion s.request k ≡ stand → Same (known_at s row k stand) (plus (at_free (addend (free_units s) row) stand) (fixed_at s row k stand))
  known_term zero k Certain is = same_sym (zero-plus (whole 1))
  known_term zero k Never is = same_sym zero-plus-zero
  known_term zero k (Free u) is =
      same_trans (same_sym (free_asked u (free_within s.request k u is))) (same_sym (plus-zero (value_at (shares_of s.request) u)))
  known_term (suc j) k Never is = same_sym zero-plus-zero
  known_term (suc j) k Certain is =
      let one : Same (inverse (asked_fraction s.request k)) (whole 1) = subst (λ (a : Fraction). Same (inverse a) (whole 1)) (sym (asked_at k Certain is)) (record { cross = refl }) in
      let here : Same (counted s (suc j) k) (integer (value_in s j k)) =
      subst (λ (z : ℤ). Same (counted s (suc j) k) (integer z)) (known_there j k Certain is refl)
      (same_trans (times_same (same_refl (integer (known_value s j k))) one) (times-one (integer (known_value s j k)))) in
      same_trans (same_sym here) (same_sym (zero-plus (counted s (suc j) k)))
  known_term (suc j) k (Free u) is =
      let value : entry (column (free_units s) u) (suc j) ≡ value_in s j k = free_value u j (free_within s.request k u is) ∙ ap (value_in s j) (free_is s.request k u is) in
      subst (λ (z : ℤ). Same (integer z) (plus (integer (entry (column (free_units s) u) (suc j))) (whole 0))) value
      (same_sym (plus-zero (integer (entry (column (free_units s) u) (suc j)))))

  pub error_term : (open_ : ℕ → Bool) (row k : ℕ) (stand : Inclusion) → inclusion s.request k ≡ stand →
      Same (cond (is_undecided open_ stand) (absolute (counted s row k)) (whole 0)) (plus (at_free (λ u. cond (open_ u) (absolute (expanded (free_units s) row u)) (whole 0)) stand) (whole 0))
  error_term open_ row k Certain is = same_sym zero-plus-zero
  error_term open_ row k Never is = same_sym zero-plus-zero
  error_term open_ row k (Free u) is =
      same_trans (cond_same (open_ u) (absolute_same (counted s row k) (expanded (free_units s) row u) (counted_is row k u is)))
      (same_sym (plus-zero (cond (open_ u) (absolute (expanded (free_units s) row u)) (whole 0))))
