-- The direction of a circuit that was found goes through values over a common denominator. So the step of a state has the properties of
-- a step, and the ends of its move are states of the flight.
use Rattle.std.proofs.Common.{◌≡◌, ℕ, ◌<◌, ◌≤◌, ◌^◌, Bool, true, false, ℤ, List, [], take, length, get_or, arith}
use Rattle.std.proofs.Common.{inl, inr, refl, sym, ap, ◌∙◌, subst}
use Rattle.std.proofs.lemmas.Bool.{true≢false}
use Rattle.std.proofs.lemmas.List.Elements.{All-from_get_or}
use Prim.Native.Nat.{◌∣◌}
use Rattle.smp_kernel.specs.Searches.{found}
use Rattle.smp_kernel.proofs.Primitive.{not_primitive}
use Rattle.smp_kernel.proofs.Ring.{zero_or}
use Rattle.smp_prob.specs.Shares.{Shares}
use Rattle.smp_values.specs.Values as shares
use Rattle.smp_moves.specs.declared.lines.Ratio.{Ratio}
use Rattle.smp_moves.specs.Ends.{extent, reach}
use Rattle.smp_moves.specs.Moves.{Line, Move, IsLine, chosen_extent, chosen_line, entry_of, turned}
use Rattle.smp_moves.specs.Steps.{Finds, FitsAtEnds, FitsOnLine, IsDirection, IsNext}
use Rattle.smp_moves.specs.Kept.Computed.{IsKnown, direction, next_along}
use Rattle.smp_moves.specs.Kept.Ends.{IsOver}
use Rattle.smp_moves.proofs.Computed.{Owes, at_ends, is_direction as its_direction, next_is as next_is_by, on_line, stepping_by}
use Rattle.smp_moves.proofs.Entries.{front_apart, turned_line}
use Rattle.smp_moves.proofs.Products.{HaveSome}
use Rattle.smp_stratcube.specs.declared.values.Value.{Value}
use Rattle.smp_stratcube.specs.Units.{Units, share}
use Rattle.smp_stratcube.specs.Values.{common_of, fractional_count, fractional_units, is_fractional, over_common, value}
use Rattle.smp_stratcube.specs.States.{Flight, IsFlying}
use Rattle.smp_stratcube.specs.Kept.Computed.{flight_of, moved_values, next, values_along}
use Rattle.smp_stratcube.specs.Moves.{IsMovedTo, Stepping, setting_of}
use Rattle.smp_stratcube.specs.Laws.Taken.{is_over, over_fractional}
use Rattle.smp_stratcube.specs.Laws.Units.{common_some, fractional_in, fresh_divides, front_going, line_divides, order_apart, order_going}
use Rattle.smp_stratcube.specs.Laws.Ends.{after_falls, after_fractional, after_moved}

-- what holds of an end of a line through these units
pub record IsEnd (units : Units) (f : Flight) (prefix : List ℕ) (line : Line) (r : Ratio) (end : List Value) : Type 0 where
  pub through : line.units ≡ prefix
  pub moved : IsMovedTo f.values line r end
  pub fewer : (k : ℕ) → is_fractional end k ≡ true → is_fractional f.values k ≡ true
  pub falls : fractional_count end < fractional_count f.values
  pub flight : IsFlying units (flight_of f.fixed end f.rows)

module _ (units : Units) (f : Flight) (ok : IsFlying units f) where
  pub some_shares : HaveSome (share units) (fractional_units f.values)
  some_shares j l =
      let k : ℕ = get_or (fractional_units f.values) j 0 in
      let inside : k < length units.members = omega (arith, fractional_in f.values k (order_going f.values j l), ok.values.count) in
      record { num = ok.are.drawn k inside; den = omega (arith, ok.are.below_one k inside) }

  module _ (w : List ℤ) (finds : Finds (setting_of units) f (fractional_units f.values) (found w)) where
    abbrev prefix : List ℕ
    prefix = take (length w) (fractional_units f.values)

    abbrev line : Line
    line = direction (share units) (fractional_units f.values) w

    abbrev den : ℕ
    den = common_of units f.values prefix

    abbrev s : Shares
    s = over_common den f.values

    -- ---- the direction
    prefix_open : (j : ℕ) → j < length prefix → get_or prefix j 0 < length f.values
    prefix_open j l = fractional_in f.values (get_or prefix j 0) (front_going f.values (length w) j l)

    pub prefix_in : (j : ℕ) → j < length prefix → get_or prefix j 0 < length units.members
    prefix_in j l = omega (arith, prefix_open j l, ok.values.count)

    pub is_direction : IsDirection (share units) (fractional_units f.values) w line
    is_direction = its_direction (setting_of units) f (fractional_units f.values) w finds some_shares

    pub den_some : 1 ≤ den
    den_some = common_some units ok.are (length units.members) f.values ok.values prefix

    pub den_divides : (j : ℕ) → j < length prefix → (value f.values (get_or prefix j 0)).at.den ∣ den
    den_divides j l =
        line_divides units ok.are (length units.members) f.values ok.values prefix j l (front_going f.values (length w) j l)
        (fresh_divides units f ok (get_or prefix j 0) (prefix_open j l))

    going : (j : ℕ) → j < length prefix → shares.is_fractional s (get_or prefix j 0) ≡ true
    going j l =
        over_fractional (length units.members) f.values ok.values den den_some (get_or prefix j 0) (den_divides j l)
        ∙ front_going f.values (length w) j l

    pub line_ok : IsLine s line
    line_ok = record {
      lengths = is_direction.lengths;
      order = record {
        going = All-from_get_or (λ k. shares.is_fractional s k ≡ true) prefix 0 going;
        distinct = front_apart (length w) (fractional_units f.values) (order_apart f.values);
      };
      some = λ z. not_primitive line.entries z is_direction.entries.primitive;
    }

    -- ---- where it fits
    module _ (narrow : FitsOnLine (setting_of units) f.values w line) where
      pub over : IsOver 1 s
      over = is_over (length units.members) f.values ok.values den den_some narrow.denominator

      -- an end of a line through these units
      module _ (l : Line) (l_ok : IsLine s l) (through : l.units ≡ prefix) where
        abbrev end : List Value
        end = values_along f.values l den (reach s l)

        divides : (j : ℕ) → j < length l.units → (value f.values (get_or l.units j 0)).at.den ∣ den
        divides = subst (λ (us : List ℕ). (j : ℕ) → j < length us → (value f.values (get_or us j 0)).at.den ∣ den)
            (sym through) den_divides

        moved_to : IsMovedTo f.values l (extent s l) end
        moved_to = after_moved (length units.members) f.values ok.values den den_some narrow.denominator l l_ok divides

        is_end : common_of units end [] ≤ 2 ^ 80 → IsEnd units f prefix l (extent s l) end
        is_end room = record {
          through = through;
          moved = moved_to;
          fewer = after_fractional (length units.members) f.values ok.values den den_some narrow.denominator l l_ok divides;
          falls = after_falls (length units.members) f.values ok.values den den_some narrow.denominator l l_ok divides;
          flight = record {
            are = ok.are;
            fixed_is = ok.fixed_is;
            values = record { count = moved_to.are.count ∙ ok.values.count; each = moved_to.are.each };
            fresh = λ k inside fresh. elim (zero_or (entry_of l k)) [
              | inl none ↦
                  (let same = moved_to.kept k none in
                  ap (λ (v : Value). v.at) same ∙ ok.fresh k inside (ap (λ (v : Value). v.touched) (sym same) ∙ fresh))
              | inr ne ↦ absurd (true≢false (sym (moved_to.moved k (omega (arith, inside, ok.values.count)) ne) ∙ fresh))
            ];
            narrow = room;
            rows_in = ok.rows_in;
          };
        }

  -- ---- so there are steps

  pub owes : Owes (setting_of units) (moved_values units) f (fractional_units f.values)
  owes = record {
    some = some_shares;
    goes = λ w finds narrow. record { first = 1; over = over w finds narrow; ok = line_ok w finds };
    up = λ w finds narrow. moved_to w finds narrow (line w finds) (line_ok w finds) refl;
    down = λ w finds narrow. moved_to w finds narrow (turned (line w finds))
        (turned_line (s w finds) (line w finds) (line_ok w finds)) refl;
  }

  pub next_is : IsNext (setting_of units) f (fractional_units f.values) (next units f)
  next_is = next_is_by (setting_of units) (moved_values units) f (fractional_units f.values) owes

  -- ---- the ends of a move

  module _ (m : Move) (k : IsKnown (setting_of units) (moved_values units) f (fractional_units f.values) m) where
    pub fit : FitsOnLine (setting_of units) f.values k.circuit (line k.circuit k.finds)
    fit = on_line (setting_of units) (moved_values units) f (fractional_units f.values) owes k.circuit k.finds k.fits

    there : FitsAtEnds (setting_of units) (moved_values units f.values (line k.circuit k.finds))
        (moved_values units f.values (turned (line k.circuit k.finds)))
    there = at_ends (setting_of units) (moved_values units) f (fractional_units f.values) owes k.circuit k.finds k.fits

    -- one of them
    abbrev IsOneEnd : Move → Bool → Type 0
    IsOneEnd x plus = IsEnd units f (prefix k.circuit k.finds) (chosen_line x plus) (chosen_extent x plus)
        (moved_values units f.values (chosen_line x plus))

    ends : (plus : Bool) → IsOneEnd (next_along (setting_of units) f.values (line k.circuit k.finds)) plus
    ends true = is_end k.circuit k.finds fit (line k.circuit k.finds) (line_ok k.circuit k.finds) refl there.plus
    ends false = is_end k.circuit k.finds fit (turned (line k.circuit k.finds))
        (turned_line (s k.circuit k.finds) (line k.circuit k.finds) (line_ok k.circuit k.finds)) refl there.minus

    pub end_is : (plus : Bool) → IsOneEnd m plus
    end_is plus = subst (λ (x : Move). IsOneEnd x plus) (sym k.same) (ends plus)

abbrev pub each_step : Stepping
each_step =
    stepping_by setting_of (λ units f order. IsFlying units f × (order ≡ fractional_units f.values)) moved_values
    (λ units f order allowed. subst (Owes (setting_of units) (moved_values units) f) (sym allowed.1) (owes units f allowed.0))
