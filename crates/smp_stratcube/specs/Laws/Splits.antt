-- The splits of the cube over all strata are lawful.
use Rattle.std.proofs.Common.{◌≡◌, ◌≢◌, ℕ, ◌%◌, ◌≤◌, ◌^◌, true, false, List, [], length, arith, refl, subst}
use Rattle.std.proofs.Common.{inl, inr}
use Rattle.std.proofs.lemmas.Bool.{cases_Bool, cases_eq, eqb-false, eqb-true, false_from_ne_true}
use Rattle.std.proofs.lemmas.Nat.Gcd.{dvd_of_mod-eq-zero, dvd_refl, dvd_trans, mod-eq-zero_of_dvd}
use Rattle.std.specs.Prelude.{slice_index_or}
use Prim.Native.Nat.{◌∣◌}
use Rattle.smp_split.specs.Trees.{LawfulParts, LawfulSplit, LawfulEnd, Lawful}
use Rattle.smp_values.proofs.Fractional.{not_fractional, over_settled}
use Rattle.smp_moves.specs.Moves.{Next, move, independent, wide}
use Rattle.smp_moves.specs.Cubes.{flying, landed, pairing, values_in}
use Rattle.smp_moves.specs.Kept.Computed.{dropped}
use Rattle.smp_stratcube.specs.declared.values.Value.{Value}
use Rattle.smp_stratcube.specs.Units.{Units, stratum}
use Rattle.smp_stratcube.specs.Values.{AreValues, common_of, fractional_count, fractional_units, is_fractional, is_settled, stratum_common}
use Rattle.smp_stratcube.specs.Values.{value}
use Rattle.smp_stratcube.specs.States.{Balancing, Flight, IsBalancing, IsFlying, IsPairing}
use Rattle.smp_stratcube.specs.Kept.Computed.{next, moved_values}
use Rattle.smp_stratcube.specs.Pairs.{step_units}
use Rattle.smp_stratcube.specs.Kept.Trees.{flight_parts, strat_tree, tree_by}
use Rattle.smp_stratcube.specs.Cube as cube
use Rattle.smp_stratcube.specs.Steps.{of_steps}
use Rattle.smp_stratcube.specs.Laws.Units.{common_divides, common_some, fractional_in, fresh_divides, order_count, order_place}
use Rattle.smp_stratcube.specs.Laws.Units.{stratum_most}
use Rattle.smp_stratcube.specs.Laws.Moves.{move_split}
use Rattle.smp_stratcube.specs.Laws.Pairs.{step_is, step_split}
use Rattle.smp_moves.proofs.Computed.{few_by}
use Rattle.smp_moves.proofs.Flights.{lone_split}
use Rattle.smp_stratcube.specs.Moves.{Stepping, setting_of}

-- ---- where no direction is left

pub few_fractional : (units : Units) (f : Flight) → next units f ≡ independent → fractional_count f.values ≤ f.rows
few_fractional units f is =
    omega (arith, few_by (setting_of units) (moved_values units) f (fractional_units f.values) is, order_count f.values)

module _ (units : Units) (f : Flight) (ok : IsFlying units f) where
  -- so where units are fractional, some row is in force
  pub some_row : next units f ≡ independent → is_settled f.values ≡ false → 1 ≤ f.rows
  some_row is going =
      let some : fractional_count f.values ≢ 0 = eqb-false (fractional_count f.values) 0 going in
      omega (arith, few_fractional units f is, some)

  -- ---- over to pivotal steps

  -- The common denominator of a stratum divides that of the state, or no move has changed a unit of the stratum. So one of the two is a
  -- number that the denominators of its fractional values divide.
  narrow_at : (h : ℕ) → stratum_common units f.values h ≤ 2 ^ 80
  narrow_at h =
      let vs : List Value = f.values in
      let first_h : ℕ = slice_index_or units.firsts h 1 in
      let state : ℕ = common_of units f.values [] in
      let most = stratum_most units ok.are (length units.members) vs ok.values h in
      let touched = common_divides units ok.are (length units.members) vs ok.values [] in
      let fresh : (k : ℕ) → is_fractional vs k ≡ true → stratum units k ≡ h → (value vs k).touched ≡ false
      → (value vs k).at.den ∣ first_h =
      λ k opened here n. subst (λ (x : ℕ). (value vs k).at.den ∣ slice_index_or units.firsts x 1) here
      (fresh_divides units f ok k (fractional_in vs k opened) n) in
      let within : (m : ℕ) → 1 ≤ m → first_h ∣ m
      → ((k : ℕ) → is_fractional vs k ≡ true → stratum units k ≡ h → (value vs k).touched ≡ true
      → (value vs k).at.den ∣ m)
      → stratum_common units vs h ≤ m =
      λ m some d moved. most m some (λ k opened here. elim (cases_Bool (value vs k).touched) [
        | inl t ↦ moved k opened here t
        | inr n ↦ dvd_trans (value vs k).at.den (fresh k opened here n) d
      ]) in
      elim (cases_eq (state % first_h) 0) [
        | inl e ↦ (let fits = within state (common_some units ok.are (length units.members) vs ok.values [])
            (dvd_of_mod-eq-zero first_h e)
            (λ k opened here t. (touched k opened t).1) in omega (arith, ok.narrow, fits))
        | inr ne ↦ (let fits = within first_h (ok.are.firsts h).0 (dvd_refl first_h)
            (λ k opened here t. absurd (ne (mod-eq-zero_of_dvd first_h
            (subst (λ (x : ℕ). slice_index_or units.firsts x 1 ∣ state) here (touched k opened t).0)))) in
            omega (arith, (ok.are.firsts h).1, fits))
      ]

  pub wide_pairing : IsPairing units f.values
  wide_pairing = record { are = ok.are; values = ok.values; fresh = ok.fresh; narrow = narrow_at }

  pub dropped_flight : IsFlying units (dropped f)
  dropped_flight = record {
    are = ok.are;
    fixed_is = ok.fixed_is;
    values = ok.values;
    fresh = ok.fresh;
    narrow = ok.narrow;
    rows_in = omega (arith, ok.rows_in);
  }

  pub split_by : (left : ℕ) → is_settled f.values ≡ false → (a : Next) → next units f ≡ a
      → LawfulParts (strat_tree units) (IsBalancing units) (flying f left) (flight_parts units f left a)
  split_by left going (move m) is = move_split units f ok left m is
  split_by left going independent is =
      let some = some_row is going in
      lone_split (strat_tree units) (IsBalancing units) (flying f left)
      (flying (dropped f) (landed (fractional_count f.values) left)) (λ k. refl)
      (omega (arith, some)) dropped_flight
  split_by left going wide is = lone_split (strat_tree units) (IsBalancing units) (flying f left)
      (pairing f.values (landed (fractional_count f.values) left)) (λ k. refl) (omega arith) wide_pairing

-- ---- all states

strat_split : (units : Units) (s : Balancing) → IsBalancing units s → is_settled (values_in s) ≡ false
    → LawfulSplit (strat_tree units) (IsBalancing units) s
strat_split units (flying f left) ok going = split_by units f ok left going (next units f) refl
strat_split units (pairing values left) ok going = step_split units values ok left (step_units units values) (step_is units values going)

pub values_ok : (units : Units) (s : Balancing) → IsBalancing units s → AreValues (length units.members) (values_in s)
values_ok units (flying f left) ok = ok.values
values_ok units (pairing values left) ok = ok.values

-- in a settled state no unit is fractional
pub none_open : (values : List Value) → is_settled values ≡ true → (k : ℕ) → is_fractional values k ≡ false
none_open values done k =
    false_from_ne_true (is_fractional values k) (λ t.
    (let at = order_place values k t in omega (arith, at.1, order_count values, eqb-true (fractional_count values) 0 done)))

strat_end : (units : Units) (s : Balancing) → IsBalancing units s → is_settled (values_in s) ≡ true → LawfulEnd (strat_tree units) s
strat_end units s ok done k l =
    let v : Value = value (values_in s) k in
    let is = (values_ok units s ok).each k in
    over_settled v.at.den v.at.num is.positive (not_fractional v.at.den v.at.num is.most (none_open (values_in s) done k))

pub strat_lawful : (units : Units) → Lawful (strat_tree units) (IsBalancing units)
strat_lawful units = record { split = strat_split units; end = strat_end units }

-- and so are those of the cube, whose steps are these
pub tree_lawful : (units : Units) → Lawful (cube.strat_tree units) (IsBalancing units)
tree_lawful units = of_steps (λ (steps : Stepping). Lawful (tree_by steps units) (IsBalancing units)) (strat_lawful units)
