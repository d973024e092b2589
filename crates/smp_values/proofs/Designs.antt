-- Designs whose states are values: what they are at the end, and what an exchange of two units leaves.
use Rattle.std.proofs.Common.{◌≡◌, ℕ, ◌<◌, true, false, cond, nat_eq, List, length, get_or, arith, refl, sym, ap, ◌∙◌}
use Rattle.std.specs.List.{count_by, sum, swap}
use Rattle.std.proofs.{lemmas.Bool.{eqb-true}, lemmas.List.Edits.{length-swap}}
use Rattle.std.proofs.lemmas.List.Sorted.{IsPermutation-swap, sum_by-IsPermutation}
use Rattle.smp_frac.specs.{Bounds.{IsAround}, Fractions.{over}}
use Rattle.smp_frac.proofs.Arithmetic.{same_refl}
use Rattle.smp_prob.specs.Shares.{Shares}
use Rattle.smp_split.specs.{Counts.{AddsUp, LeavesSelect, LeavesSelectAround}, Trees.{Part, Lawful, LawfulEnd, LawfulSplit, EachPart}}
use Rattle.smp_split.specs.{Orders.{Ordered, IsInOrder, IsExchange, exchange, ordered_tree}, declared.kind.Kind.{Kind}}
use Rattle.smp_split.proofs.Counts.{KeepsCount, leaves_select, leaves_around, keeps_count, count_by-indices}
use Rattle.smp_split.proofs.{Orders.{get_or-swap, get_or-swap_exchange, ordered_lawful}, Sums.{list_adds, ordered_sum}}
use Rattle.smp_values.specs.Values.{AddTo, IsValues, exchanged_values, fractional, fractional_count, is_settled, values_tree}
use Rattle.smp_values.proofs.{Fractional.{IsSettled, not_fractional, over_settled, settled_count}, Near.{IsNear, near_count, near_same}}
use Rattle.smp_values.proofs.Units.{none_fractional}

module _ (units most : ℕ) (s : Shares) (ok : IsValues units most s) where
  -- ---- exchanges

  module _ (i j : ℕ) (i_less : i < units) (j_less : j < units) where
    i_in : i < length s.numer
    i_in = omega (arith, ok.count)

    j_in : j < length s.numer
    j_in = omega (arith, ok.count)

    pub exchanged_within : IsValues units most (exchanged_values i j s)
    exchanged_within = record {
      count = length-swap s.numer i j ∙ ok.count;
      positive = ok.positive;
      narrow = ok.narrow;
      each = λ k. rw (get_or-swap s.numer i j k 0 i_in j_in) (ok.each (exchange i j k));
    }

    exchanged_count : fractional_count (exchanged_values i j s) ≡ fractional_count s
    exchanged_count = sum_by-IsPermutation (λ a. cond (fractional s.den a) 1 0) s.numer (swap s.numer i j) (IsPermutation-swap s.numer (swap s.numer i j) i j i_in j_in refl)

    exchanged_sum : sum (exchanged_values i j s).numer ≡ sum s.numer
    exchanged_sum = sum_by-IsPermutation (λ a. a) s.numer (swap s.numer i j) (IsPermutation-swap s.numer (swap s.numer i j) i j i_in j_in refl)

    exchanged_near : (total den : ℕ) → IsNear total den s → IsNear total den (exchanged_values i j s)
    exchanged_near total den near = record {
      den_is = near.den_is;
      going = λ going. exchanged_sum ∙ near.going (ap (λ n. nat_eq n 0) (sym exchanged_count) ∙ going);
      above = omega (arith, exchanged_sum, near.above);
      below = omega (arith, exchanged_sum, near.below);
    }

  -- ---- the end

  module _ (done : is_settled s ≡ true) where
    none : fractional_count s ≡ 0
    none = eqb-true (fractional_count s) 0 done

    pub each_settled : (k : ℕ) → IsSettled s.den (get_or s.numer k 0)
    each_settled k = not_fractional s.den (get_or s.numer k 0) (ok.each k) (none_fractional s none k)

    pub ones_count : (n : ℕ) → AddTo n s → count_by (λ a. nat_eq a s.den) s.numer ≡ n
    ones_count n adds = settled_count s.den n s.numer ok.positive (λ k _. each_settled k) adds

-- ---- a design whose splits are lawful, and keep a whole sum of the values, or one that is near

module _ (units most : ℕ) (kind : Shares → Kind) (parts : Shares → List (Part Shares)) (rank : ℕ → ℕ) where
  module _ (belongs : Shares → Type 0) (within : (s : Shares) → belongs s → IsValues units most s) where
    pub values_end : (s : Shares) → belongs s → is_settled s ≡ true → LawfulEnd (values_tree units kind parts rank) s
    values_end s here done k h =
        let ok = within s here in
        over_settled s.den (get_or s.numer k 0) ok.positive (each_settled units most s ok done k)

    pub values_lawful : ((s : Shares) → belongs s → is_settled s ≡ false → LawfulSplit (values_tree units kind parts rank) belongs s) → Lawful (values_tree units kind parts rank) belongs
    values_lawful split = record { split = split; end = values_end }

    pub values_keep : (n : ℕ) → ((s : Shares) → belongs s → is_settled s ≡ false → AddTo n s → EachPart (λ p. AddTo n p.state) (parts s)) → KeepsCount (values_tree units kind parts rank) belongs (λ count. count ≡ n) (AddTo n)
    values_keep n keeps = record {
      kept = keeps;
      leaf = λ s here done adds.
          let ok = within s here in
          count_by-indices (λ a. nat_eq a s.den) s.numer 0 units ok.count ∙ ones_count units most s ok done n adds;
    }

    pub values_near : (total den : ℕ) → ((s : Shares) → belongs s → is_settled s ≡ false → IsNear total den s → EachPart (λ p. IsNear total den p.state) (parts s))
        → KeepsCount (values_tree units kind parts rank) belongs (λ count. IsAround count (over total den)) (IsNear total den)
    values_near total den keeps = record {
      kept = keeps;
      leaf = λ s here done near.
          let ok = within s here in
          rw (count_by-indices (λ a. nat_eq a s.den) s.numer 0 units ok.count) (near_count total den s ok.positive (λ k _. each_settled units most s ok done k) near);
    }

    pub values_count : (lawful : Lawful (values_tree units kind parts rank) belongs) (n : ℕ) → ((s : Shares) → belongs s → is_settled s ≡ false → AddTo n s → EachPart (λ p. AddTo n p.state) (parts s))
        → (s : Shares) → belongs s → AddsUp (values_tree units kind parts rank) n s → LeavesSelect (values_tree units kind parts rank) n s
    values_count lawful n keeps s here adds =
        let ok = within s here in
        leaves_select (values_tree units kind parts rank) belongs lawful n (AddTo n) (values_keep n keeps) s here
        (list_adds (values_tree units kind parts rank) s s.numer s.den ok.positive ok.count (λ k h. same_refl (over (get_or s.numer k 0) s.den)) n adds)

  -- ---- the same in an order that may be drawn

  pub values_exchange : IsExchange (values_tree units kind parts rank) (IsValues units most) exchanged_values
  values_exchange = record {
    member = λ i j s hi hj ok. exchanged_within units most s ok i j hi hj;
    rank = λ i j s hi hj ok. ap rank (exchanged_count units most s ok i j hi hj);
    value = λ i j s hi hj ok place. ap (λ n. over n s.den) (get_or-swap_exchange s.numer i j place 0 (omega (arith, ok.count)) (omega (arith, ok.count)));
  }

  module _ (split : (s : Shares) → IsValues units most s → is_settled s ≡ false → LawfulSplit (values_tree units kind parts rank) (IsValues units most) s) where
    abbrev pub in_order_lawful : Lawful (ordered_tree (values_tree units kind parts rank) exchanged_values) (IsInOrder units (IsValues units most))
    in_order_lawful =
        ordered_lawful (values_tree units kind parts rank) (IsValues units most) exchanged_values (values_lawful (IsValues units most) (λ s ok. ok) split) values_exchange

    -- each leaf selects one of the two whole numbers around the sum
    pub in_order_around : ((total den : ℕ) (s : Shares) → IsValues units most s → is_settled s ≡ false → IsNear total den s → EachPart (λ p. IsNear total den p.state) (parts s))
        → (s : Ordered Shares) → IsInOrder units (IsValues units most) s → LeavesSelectAround (ordered_tree (values_tree units kind parts rank) exchanged_values) s
    in_order_around keeps s here =
        let total : ℕ = sum s.state.numer in
        let den : ℕ = s.state.den in
        leaves_around (ordered_tree (values_tree units kind parts rank) exchanged_values) (IsInOrder units (IsValues units most)) in_order_lawful (over total den) (λ t. IsNear total den t.state)
        (keeps_count (values_tree units kind parts rank) (IsValues units most) exchanged_values (λ count. IsAround count (over total den)) (IsNear total den) (values_near (IsValues units most) (λ s ok. ok) total den (keeps total den))
        (λ i j t hi hj ok. exchanged_near units most t ok i j hi hj total den))
        s here (near_same total den s.state here.state.positive refl refl)
        (ordered_sum (values_tree units kind parts rank) exchanged_values s here.order s.state.numer s.state.den here.state.positive here.state.count (λ k. same_refl (over (get_or s.state.numer k 0) s.state.den)))
