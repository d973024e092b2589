-- Where the probabilities of a stratum add up to a whole number, each leaf selects that many of its units, after pivotal steps too.
use Rattle.std.proofs.Common.{◌≡◌, ◌≢◌, ℕ, suc, ◌<◌, Bool, true, false, Option, Some, None, List, [], ◌∷◌, take, length, get_or, arith, refl, sym, ap, ◌∙◌, subst, inl, inr, ◌⊎◌}
use Rattle.std.proofs.lemmas.Bool.{cases_eq, false_from_ne_true, ne_eqb, true≢false}
use Rattle.smp_frac.specs.Fractions.{Same, plus, whole}
use Rattle.smp_prob.specs.Shares.{Shares}
use Rattle.smp_frac.proofs.Arithmetic.{same_refl, same_trans}
use Rattle.smp_split.specs.{Trees.{EachPart}, Parts.{moved}}
use Rattle.smp_split.specs.Paths.{AtEachLeaf}
use Rattle.smp_split.proofs.Paths.{at_each_leaf_kept}
use Rattle.smp_moves.specs.{Moves.{Move, Next, fraction_of, independent, move, wide}, Owed.{HasKept, weighed_total}}
use Rattle.smp_moves.specs.{Cubes.{flying, pairing, values_in, flight_kind}, Kept.Computed.{dropped}}
use Rattle.smp_stratcube.specs.{declared.values.Value.{Value}, Units.{IsUnits, Units, stratum}, Kept.Computed.{chosen, next}}
use Rattle.smp_stratcube.specs.{Values.{fractional_units, is_fractional, taken_over, value, value_at}, Pairs.{first_pair}}
use Rattle.smp_stratcube.specs.{States.{Balancing, Flight, IsBalancing, IsFlying, IsPairing, started}}
use Rattle.smp_stratcube.specs.{Kept.Pairs.{is_one_of, parts_of, units_by}, Laws.Splits.{none_open, strat_lawful, values_ok}}
use Rattle.smp_stratcube.specs.{Kept.Trees.{flight_parts, strat_parts, strat_tree, tree_by, weighed_of}, Laws.Taken.{taken_kept}}
use Rattle.smp_stratcube.specs.Laws.Pairs.{IsMeeting, IsStep, each_paired, meeting_sums, pair_found, step_at}
use Rattle.smp_stratcube.specs.{Laws.Units.{fractional_in, order_going}, Counts.{HasCounts, selected_in}, Moves.{Stepping}, Steps.{of_steps}}
use Rattle.smp_stratcube.proofs.{Alone.{alone_in}, Balances.{drop_at, end_kept, knows, started_flying, strat_start}, Totals.{end_total}}
use Rattle.smp_stratcube.proofs.FirstPairs.{alone}
use Rattle.smp_stratcube.proofs.StratumSums.{NoneOpen, alone_never, counted, kept_sum, paired_sum, stratum_sum, total_is}

-- the values of the stratum add up to n, and as long as one of them isn't settled in the flight, its row is in force
abbrev IsWholeIn : Units → ℕ → ℕ → Balancing → Type 0
IsWholeIn units h n (flying f left) = Same (stratum_sum units h f.values) (whole n) × ((h < f.rows) ⊎ NoneOpen units h f.values)
IsWholeIn units h n (pairing values left) = Same (stratum_sum units h values) (whole n)

whole_of : (units : Units) (h n : ℕ) (s : Balancing) → IsWholeIn units h n s → Same (stratum_sum units h (values_in s)) (whole n)
whole_of units h n (flying f left) keeps = keeps.0
whole_of units h n (pairing values left) keeps = keeps

module _ (units : Units) (h n : ℕ) (inside : h < length units.firsts) where
  -- ---- the flight

  module _ (f : Flight) (ok : IsFlying units f) (left : ℕ) (keeps : IsWholeIn units h n (flying f left)) where
    end_keeps : (m : Move) → next units f ≡ move m → (plus_way : Bool) → IsWholeIn units h n (flying (chosen units f m plus_way) left)
    end_keeps m is plus_way =
        let to : Balancing = flying (chosen units f m plus_way) left in
        elim keeps.1 [
          | inl row ↦
              (let total : Same (weighed_total (weighed_of units) to h) (weighed_total (weighed_of units) (flying f left) h) = end_total units f ok m (knows units f ok left m is) plus_way h row in
              let same : Same (stratum_sum units h (values_in to)) (stratum_sum units h f.values) = rw (total_is units h to inside, total_is units h (flying f left) inside) at total in
              (same_trans same keeps.0, inl row))
          | inr none ↦
              (let kept : (k : ℕ) → is_fractional f.values k ≡ false → HasKept (weighed_of units) (flying f left) to k = end_kept units f ok left m is plus_way in (
                same_trans (kept_sum units h f.values (values_in to) (λ k l e. (kept k (false_from_ne_true (is_fractional f.values k) (λ t. none k t e))).same)) keeps.0,
                inr (λ k opened e. true≢false (sym opened ∙ (kept k (false_from_ne_true (is_fractional f.values k) (λ t. none k t e))).still)),
              ))
        ]

    dropped_keeps : next units f ≡ independent → IsWholeIn units h n (flying (dropped f) left)
    dropped_keeps is = (
      keeps.0,
      elim keeps.1 [
        | inr none ↦ inr none
        | inl row ↦ elim (cases_eq (suc h) f.rows) [
          | inr more ↦ inl (omega (arith, row, more))
          | inl last ↦
              inr (λ k opened e. alone_never units h f.values n k ok.values opened e
              (λ j opened_j ej. alone_in units ok.are f.rows (omega (arith, last, inside)) f.values ok.values.count (drop_at units (flying f left) (ap flight_kind is)).0 j k opened_j opened (ej ∙ sym e))
              keeps.0)
        ]
      ],
    )

    flight_keeps : (a : Next) → next units f ≡ a → EachPart (λ p. IsWholeIn units h n p.state) (flight_parts units f left a)
    flight_keeps (move m) is = (end_keeps m is true, (end_keeps m is false, tt))
    flight_keeps independent is = (dropped_keeps is, tt)
    flight_keeps wide is = (keeps.0, tt)

  -- ---- the pivotal steps

  module _ (values : List Value) (ok : IsPairing units values) (left : ℕ) (keeps : Same (stratum_sum units h values) (whole n)) where
    same_at : (after : List Value) (k : ℕ) → value after k ≡ value values k → Same (value_at after k) (value_at values k)
    same_at after k e = subst (λ (v : Value). Same (fraction_of v.at) (value_at values k)) (sym e) (same_refl (value_at values k))

    -- a step of another stratum
    away_keeps : (ks : List ℕ) → IsStep units values ks → stratum units (get_or ks 0 0) ≢ h → EachPart (λ p. IsWholeIn units h n p.state) (moved (λ v. pairing v left) (parts_of units values ks))
    away_keeps ks step ne =
        let out : (k : ℕ) → stratum units k ≡ h → is_one_of ks k ≡ false = λ k e. false_from_ne_true (is_one_of ks k) (λ t. ne (sym (step_at units values ks step k t).1 ∙ e)) in
        each_paired units values ks left (IsWholeIn units h n)
        (λ t. same_trans (kept_sum units h values (taken_over (is_one_of ks) values t) (λ k l e. same_at _ k (taken_kept (is_one_of ks) values t k (out k e)))) keeps)

    module _ (i j : ℕ) (m : IsMeeting units values i j) (e : stratum units i ≡ h) where
      pair_keeps : (t : Shares) → Same (plus (value_at (taken_over (is_one_of (i ∷ j ∷ [])) values t) i) (value_at (taken_over (is_one_of (i ∷ j ∷ [])) values t) j)) (plus (value_at values i) (value_at values j)) →
          IsWholeIn units h n (pairing (taken_over (is_one_of (i ∷ j ∷ [])) values t) left)
      pair_keeps t sum =
          same_trans
          (paired_sum units h values (taken_over (is_one_of (i ∷ j ∷ [])) values t) i j (omega (arith, fractional_in values i m.first, ok.values.count)) (omega (arith, fractional_in values j m.second, ok.values.count)) m.apart e (sym m.stratum_is ∙ e)
          (λ k ni nj. same_at _ k (taken_kept (is_one_of (i ∷ j ∷ [])) values t k (rw (ne_eqb i k ni, ne_eqb j k nj) refl))) sum)
          keeps

      meeting_keeps : EachPart (λ p. IsWholeIn units h n p.state) (moved (λ v. pairing v left) (parts_of units values (i ∷ j ∷ [])))
      meeting_keeps = (let sums = meeting_sums units values ok left i j m in (pair_keeps _ sums.0, (pair_keeps _ sums.1.0, tt)))

    -- a unit that is settled by itself is of another stratum
    lone_keeps : (order : List ℕ) → fractional_units values ≡ order → first_pair units (fractional_units values) ≡ None → EachPart (λ p. IsWholeIn units h n p.state) (moved (λ v. pairing v left) (parts_of units values (take 1 order)))
    lone_keeps [] e none = tt
    lone_keeps (i ∷ order) e none =
        let going : is_fractional values i ≡ true = subst (λ (us : List ℕ). is_fractional values (get_or us 0 0) ≡ true) e (order_going values 0 (omega (arith, ap (λ us. length us) e))) in
        away_keeps (i ∷ []) going (λ same. alone_never units h values n i ok.values going same (λ k opened ek. alone units values ok none k i opened going (ek ∙ sym same)) keeps)

    paired_keeps : (p : Option (ℕ × ℕ)) → first_pair units (fractional_units values) ≡ p → EachPart (λ q. IsWholeIn units h n q.state) (moved (λ v. pairing v left) (parts_of units values (units_by p (fractional_units values))))
    paired_keeps (Some pair) e =
        let m = pair_found units values pair e in
        elim (cases_eq (stratum units pair.0) h) [ inl here ↦ meeting_keeps pair.0 pair.1 m here | inr ne ↦ away_keeps (pair.0 ∷ pair.1 ∷ []) m ne ]
    paired_keeps None e = lone_keeps (fractional_units values) refl e

  step_keeps : (s : Balancing) → IsBalancing units s → IsWholeIn units h n s → EachPart (λ p. IsWholeIn units h n p.state) (strat_parts units s)
  step_keeps (flying f left) ok keeps = flight_keeps f ok left keeps (next units f) refl
  step_keeps (pairing values left) ok keeps = paired_keeps values ok left keeps (first_pair units (fractional_units values)) refl

pub has_counts : (units : Units) → IsUnits units → HasCounts units (started units)
has_counts units are h n inside adds =
    of_steps (λ (steps : Stepping). AtEachLeaf (tree_by steps units) (started units) (λ path leaf. selected_in units h leaf ≡ n)) (λ path leaf leads done.
    (let start : Same (stratum_sum units h (values_in (started units))) (whole n) =
    same_trans (rw (total_is units h (started units) inside) at ((strat_start units are).totals h (omega (arith, inside, are.strata)))) adds in
    let kept = at_each_leaf_kept (strat_tree units) (IsBalancing units) (strat_lawful units) (IsWholeIn units h n) (λ s ok going keeps. step_keeps units h n inside s ok keeps) (started units) (started_flying units are) (start, inl (omega (arith, inside, are.strata))) path leaf leads done in
    counted units h leaf n (values_ok units leaf kept.1) (none_open (values_in leaf) done) (whole_of units h n leaf kept.0)))
