-- The worked draw, by computing.
use Rattle.std.proofs.Common.{zero, suc, [], ◌∷◌, refl, arith}
use Rattle.std.specs.Fmt.{digits}
use Rattle.smp_frac.specs.Divisors.{greatest_common_divisor}
use Rattle.smp_split.specs.{Paths.{Leads}, Trees.{LawfulEnd}}
use Rattle.smp_pivotal.specs.Four.{AreFourFractions, AreFourValues, IsFourTree, first_two, leaf, path, start, state, tree}

leaf_ends : LawfulEnd tree leaf
leaf_ends zero l = record { cross = refl }
leaf_ends (suc zero) l = record { cross = refl }
leaf_ends (suc (suc zero)) l = record { cross = refl }
leaf_ends (suc (suc (suc zero))) l = record { cross = refl }
leaf_ends (suc (suc (suc (suc n)))) l = absurd (omega (arith, l))

by_two : Leads tree start first_two (state (1 ∷ 0 ∷ 5 ∷ 4 ∷ []))
by_two = (record { going = refl; kind = refl; bound = refl; value = omega arith }, (record { going = refl; kind = refl; bound = refl; value = omega arith }, refl))

by_path : Leads tree start path leaf
by_path = (record { going = refl; kind = refl; bound = refl; value = omega arith }, (record { going = refl; kind = refl; bound = refl; value = omega arith }, (record { going = refl; kind = refl; bound = refl; value = omega arith }, refl)))

pub is_four_tree : IsFourTree
is_four_tree = record {
  steps = (refl, refl, refl, refl, refl, refl, refl);
  first_part = refl;
  bound = (refl, refl);
  next = (refl, refl, refl);
  weighted_sum = (record { cross = refl }, record { cross = refl });
  draw_sum = (record { cross = refl }, record { cross = refl });
  mean = (record { cross = refl }, record { cross = refl });
  probability = (record { cross = refl }, record { cross = refl });
  others = (record { cross = refl }, record { cross = refl }, record { cross = refl });
  entry = refl;
  leads = by_path;
  reached = (record { path = first_two; leads = by_two }, by_two);
  values = refl;
  even = (record { cross = refl }, record { cross = refl }, record { cross = refl });
  end = (refl, leaf_ends);
  selected = refl;
}

pub are_four_values : AreFourValues
unfolding greatest_common_divisor
are_four_values = record {
  larger_is = refl;
  rest_is = (refl, refl);
  certain_is = (refl, refl, omega arith);
  certain_units_is = refl;
  open_total_is = refl;
  requested_is = (refl, refl, record { cross = refl });
  common_divisor_is = (refl, refl, refl);
  common_denominator_is = refl;
  numerators_is = refl;
  shares_is = refl;
  shares_of_is = refl;
  started_is = refl;
  value_at_is = refl;
  fractional_units_is = refl;
  fractional_count_is = refl;
  pair_weights_is = (refl, refl);
  pair_bound_is = (refl, refl);
  taken_is = (refl, refl);
  left_is = (refl, refl);
  pair_first_is = refl;
  pair_second_is = refl;
  pair_parts_is = refl;
}

pub are_four_fractions : AreFourFractions
unfolding greatest_common_divisor digits
are_four_fractions = record {
  three_fifths = (refl, refl);
  same = record { cross = refl };
  over_ten = (refl, refl);
  plus_is = (refl, refl);
  times_is = (refl, refl);
  divided_is = (refl, refl);
  inverse_is = (refl, refl);
  around = (record { above = record { cross = omega arith }; below = record { cross = omega arith } }, record { above = record { cross = omega arith }; below = record { cross = omega arith } });
  divisor = refl;
  lowest = refl;
  text = refl;
}
