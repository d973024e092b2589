-- What each free unit counts for among those of all strata is what it counts for in its stratum: in the row of its stratum as in the first
-- row there, in that of a variable as in the row of the column, and in the rows of other strata 0.
use Rattle.std.proofs.Common.{◌≡◌, ◌≢◌, ℕ, suc, ◌+◌, ◌-◌, ◌*◌, ◌<◌, ◌≤◌, true, false, cond, ℤ, pos, List, [], ◌++◌, All, length, get_or, arith, refl, sym, ap, ◌∙◌, subst, inl, inr}
use Rattle.std.specs.Prelude.{nat_eq, nat_lt, replicate}
use Rattle.std.proofs.lemmas.Bool.{cases_Bool, cases_lt, eq-eqb, lt-ltb, le-ltb, ltb-true, ltb-false, ne_eqb}
use Rattle.std.proofs.lemmas.List.{get_or-append_right, get_or-replicate, get_or_append_left, get_or_past}
use Rattle.smp_frac.specs.Fractions.{Fraction, Same, integer, inverse, sum_below, times, whole}
use Rattle.smp_frac.proofs.Arithmetic.{inverse_same, one-times, same_refl, same_sym, same_trans, sum-zero, sum_same, times_same, zero-times}
use Rattle.smp_kernel.specs.Vectors.{entry}
use Rattle.smp_prob.specs.{Inclusions.{free_fraction}, Shares.{shares_of}}
use Rattle.smp_moves.specs.Moves.{fraction_of}
use Rattle.smp_values.specs.Values.{value_at}
use Rattle.smp_flight.specs.States as flights
use Rattle.smp_flight.specs.Totals as free
use Rattle.smp_flight.proofs.Making.{column_at}
use Rattle.smp_stratcube.specs.{declared.units.Member.{Member}, Units.{column_of, member_of, members_from, nobody}}
use Rattle.smp_stratcube.specs.Laws.Taken.{lowest_same}
use Rattle.smp_stratcube.proofs.Stored.{in_rest, length-column}
use Rattle.smp_twostage.specs.Strata.{StratumUnits, AreStratumUnits, column_count, free_units, free_values}
use Rattle.smp_twostage.specs.Totals.{layers_of, over_frame, variable_of}
use Rattle.smp_twostage.proofs.{Balances.{same_length}, BalanceTerms.{free_asked, some_asked}}
use Rattle.smp_twostage.proofs.FrameSums.{ArePaired, layer_in, members_sum, size_sums, sums, variable_sums}

-- in so many strata
pub record IsIn (count : ℕ) (s : StratumUnits) : Type 0 where
  pub ok : AreStratumUnits s
  pub few : count + column_count s ≤ 16

-- what a unit counts for, and what it adds to what is known
abbrev pub counts_for : ℕ → ℕ → Member → Fraction
counts_for strata row m =
    cond (nat_lt row strata) (whole (cond (nat_eq m.stratum row) 1 0)) (times (integer (entry m.column row)) (inverse (fraction_of m.share)))

abbrev pub adds : ℕ → ℕ → Member → Fraction
adds strata row m =
    cond (nat_lt row strata) (times (whole (cond (nat_eq m.stratum row) 1 0)) (fraction_of m.share)) (integer (entry m.column row))

-- what it counts for, by what it does in its stratum
pub record Counts (count : ℕ) (counts : ℕ → Member → Fraction) (own : StratumUnits → ℕ → ℕ → Fraction) : Type 0 where
  pub here : (h : ℕ) → h < count → (s : StratumUnits) → IsIn count s → (u : ℕ) → u < length s.request.shape
      → Same (counts h (member_of count h (layer_in s) u)) (own s 0 u)
  pub other : (row h : ℕ) → row < count → h ≢ row → (s : StratumUnits) (u : ℕ) → Same (counts row (member_of count h (layer_in s) u)) (whole 0)
  pub behind : (j h : ℕ) (s : StratumUnits) → IsIn count s → (u : ℕ) → u < length s.request.shape
      → Same (counts (count + j) (member_of count h (layer_in s) u)) (own s (suc j) u)

module _ (count : ℕ) where
  module _ (h : ℕ) (s : StratumUnits) (is : IsIn count s) (u : ℕ) (l : u < length s.request.shape) where
    free_there : u < length s.request.free
    free_there = (let paired = is.ok.request.paired in omega (arith, l, paired))

    abbrev values : List ℤ
    values = get_or (free_values s) u []

    few : count + length (get_or (free_values s) u []) ≤ 16
    few = (let le = is.few in omega (arith, le, same_length s is.ok u free_there))

    -- a balancing value in its row, 0 past the last
    at_rest : (j : ℕ) → j < 16 → entry (values ++ replicate 16 (pos 0)) j ≡ entry values j
    at_rest j b =
        elim (cases_lt j (length values)) [
          | inl within ↦ get_or_append_left values (replicate 16 (pos 0)) (pos 0) j within
          | inr past ↦
              get_or-append_right values (replicate 16 (pos 0)) (length values) j (pos 0) refl past
              ∙ get_or-replicate 16 (j - length values) (pos 0) (pos 0) (omega (arith, b))
              ∙ sym (get_or_past values j (pos 0) past)
        ]

    in_row : (j : ℕ) → entry (column_of count h (get_or s.request.shape u 0) values) (count + j) ≡ entry values j
    in_row j =
        elim (cases_lt (count + j) 16) [
          | inl b ↦ in_rest count h (get_or s.request.shape u 0) values (count + j) j b refl ∙ at_rest j (omega (arith, b))
          | inr past ↦
              get_or_past (column_of count h (get_or s.request.shape u 0) values) (count + j) (pos 0) (omega (arith, past, length-column count h (get_or s.request.shape u 0) values))
              ∙ sym (get_or_past values j (pos 0) (omega (arith, past, few)))
        ]

    entry_is : (j : ℕ) → entry (member_of count h (layer_in s) u).column (count + j) ≡ entry (flights.column (free_units s) u) (suc j)
    entry_is j =
        in_row j
        ∙ sym (ap (λ (c : List ℤ). entry c (suc j)) (column_at s.request (free_values s) u l))

    share_is : Same (fraction_of (member_of count h (layer_in s) u).share) (value_at (shares_of s.request) u)
    share_is =
        let below = is.ok.request.below_one u l in
        same_trans (lowest_same (get_or s.request.shape u 0 * s.request.r) s.request.total (omega (arith, below))) (same_sym (free_asked s is.ok u free_there))

    weight_is : Same (inverse (fraction_of (member_of count h (layer_in s) u).share)) (free.weight (free_units s) u)
    weight_is =
        let below = is.ok.request.below_one u l in
        let asked : Same (free_fraction s.request u) (fraction_of (member_of count h (layer_in s) u).share) =
        same_sym (lowest_same (get_or s.request.shape u 0 * s.request.r) s.request.total (omega (arith, below))) in
        same_trans (same_sym (inverse_same (free_fraction s.request u) (fraction_of (member_of count h (layer_in s) u).share) (some_asked s is.ok u free_there) asked))
        (inverse_same (free_fraction s.request u) (value_at (shares_of s.request) u) (some_asked s is.ok u free_there) (same_sym (free_asked s is.ok u free_there)))

  in_front : (row : ℕ) → row < count → nat_lt row count ≡ true
  in_front row l = lt-ltb row count l

  in_variable : (j : ℕ) → nat_lt (count + j) count ≡ false
  in_variable j = le-ltb (count + j) count (omega arith)

  pub counted : Counts count (counts_for count) (λ s. free.expanded (free_units s))
  counted = record {
    here = λ h lh s is u l. rw (in_front h lh, eq-eqb h h refl) (same_refl (whole 1));
    other = λ row h lr ne s u. rw (in_front row lr, ne_eqb h row ne) (same_refl (whole 0));
    behind = λ j h s is u l. rw (in_variable j, entry_is h s is u l j)
        (times_same (same_refl (integer (entry (flights.column (free_units s) u) (suc j)))) (weight_is h s is u l));
  }

  pub added : Counts count (adds count) (λ s. free.addend (free_units s))
  added = record {
    here = λ h lh s is u l. rw (in_front h lh, eq-eqb h h refl)
        (same_trans (one-times (fraction_of (member_of count h (layer_in s) u).share)) (share_is h s is u l));
    other = λ row h lr ne s u. rw (in_front row lr, ne_eqb h row ne) (zero-times (fraction_of (member_of count h (layer_in s) u).share));
    behind = λ j h s is u l. rw (in_variable j, entry_is h s is u l j) (same_refl (integer (entry (flights.column (free_units s) u) (suc j))));
  }

-- ---- sums over all units, of a term for what a unit counts for and its number

module _ (term : Fraction → ℕ → Fraction) (alike : (a b : Fraction) (i : ℕ) → Same a b → Same (term a i) (term b i)) (none : (i : ℕ) → Same (term (whole 0) i) (whole 0))
    (count : ℕ) (counts : ℕ → Member → Fraction) (own : StratumUnits → ℕ → ℕ → Fraction) (so : Counts count counts own) where
  -- of the free units of a stratum
  abbrev pub part_of : ℕ → ℕ → StratumUnits → Fraction
  part_of before row s = sum_below (length s.request.shape) (λ u. term (own s row u) (before + u))

  abbrev own_part : ℕ → ℕ → ℕ → StratumUnits → Fraction
  own_part row h before s = sum_below (length s.request.shape) (λ u. term (counts row (member_of count h (layer_in s) u)) (before + u))

  no_part : (row : ℕ) → row < count → (h before : ℕ) (s : StratumUnits) → h ≢ row → IsIn count s → Same (own_part row h before s) (whole 0)
  no_part row lr h before s ne is =
      sum-zero (length s.request.shape) (λ u. term (counts row (member_of count h (layer_in s) u)) (before + u))
      (λ u l. same_trans (alike (counts row (member_of count h (layer_in s) u)) (whole 0) (before + u) (so.other row h lr ne s u)) (none (before + u)))

  size_part : (row : ℕ) → row < count → (before : ℕ) (s : StratumUnits) → IsIn count s → Same (own_part row row before s) (part_of before 0 s)
  size_part row lr before s is =
      sum_same (length s.request.shape) (λ u. term (counts row (member_of count row (layer_in s) u)) (before + u)) (λ u. term (own s 0 u) (before + u))
      (λ u l. alike (counts row (member_of count row (layer_in s) u)) (own s 0 u) (before + u) (so.here row lr s is u l))

  variable_part : (j h before : ℕ) (s : StratumUnits) → IsIn count s → Same (own_part (count + j) h before s) (part_of before (suc j) s)
  variable_part j h before s is =
      sum_same (length s.request.shape) (λ u. term (counts (count + j) (member_of count h (layer_in s) u)) (before + u)) (λ u. term (own s (suc j) u) (before + u))
      (λ u l. alike (counts (count + j) (member_of count h (layer_in s) u)) (own s (suc j) u) (before + u) (so.behind j h s is u l))

  module _ (frame : List StratumUnits) (paired : ArePaired frame) (are : All (IsIn count) frame) (all : count ≡ length frame) where
    abbrev members : List Member
    members = members_from count 0 (layers_of frame)

    by_strata : (row : ℕ) → Same (sum_below (length members) (λ i. term (counts row (get_or members i nobody)) i)) (sums (own_part row) 0 0 frame)
    by_strata row =
        same_trans
        (sum_same (length members) (λ i. term (counts row (get_or members i nobody)) i) (λ i. term (counts row (get_or members i nobody)) (0 + i))
        (λ i l. (let e : i ≡ 0 + i = omega arith in subst (λ (k : ℕ). Same (term (counts row (get_or members i nobody)) i) (term (counts row (get_or members i nobody)) k)) e (same_refl (term (counts row (get_or members i nobody)) i)))))
        (members_sum count 0 0 frame paired (λ m i. term (counts row m) i))

    pub over_units : (row : ℕ) → Same (sum_below (length members) (λ i. term (counts row (get_or members i nobody)) i)) (over_frame part_of frame row)
    over_units row =
        elim (cases_Bool (nat_lt row (length frame))) [
          | inl e ↦
              (let l : row < count = omega (arith, all, ltb-true row (length frame) e) in
              rw e (same_trans (by_strata row) (size_sums (IsIn count) part_of (own_part row) row (no_part row l) (size_part row l) 0 row 0 (omega arith) frame are)))
          | inr e ↦
              (let past : length frame ≤ row = ltb-false row (length frame) e in
              let at : row ≡ count + (row - length frame) = omega (arith, all, past) in
              rw e (same_trans (by_strata row)
              (subst (λ (i : ℕ). Same (sums (own_part i) 0 0 frame) (variable_of part_of 0 (row - length frame) frame)) (sym at)
              (variable_sums (IsIn count) part_of (own_part (count + (row - length frame))) (row - length frame) (variable_part (row - length frame)) 0 0 frame are))))
        ]
