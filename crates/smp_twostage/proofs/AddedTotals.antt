-- What is balanced stays so where each total, what is known of it, and what is estimated have the same added to them: the part of units
-- that are certain. Rows may be more than those that are balanced, where nothing is left to be drawn in these.
use Rattle.std.proofs.{Common.{◌≡◌, ℕ, ◌<◌, ◌≤◌, true, List, arith, inl, inr}, lemmas.Bool.{cases_lt}}
use Rattle.smp_frac.specs.{Fractions.{AtMost, Fraction, Same, plus, whole}, Bounds.{DifferByAtMost}}
use Rattle.smp_frac.proofs.Arithmetic.{plus-zero, plus_assoc, plus_left_comm, plus_same, same_refl, same_sym, same_trans}
use Rattle.smp_frac.proofs.Bounds.{differ_by_same, differ_same, most_of_same, plus_most, same_most}
use Rattle.smp_split.specs.{Paths.{Entry, Leads}, Trees.{picked}}
use Rattle.smp_moves.specs.Balances.{Balance, IsBalanced, IsBeforeLanding, LandsAt}
use Rattle.smp_moves.proofs.Owed.{lands_or_not}

-- the same added to both leaves them as far apart
differ_plus : (e a b c : Fraction) → DifferByAtMost e a b → DifferByAtMost e (plus a c) (plus b c)
differ_plus e a b c d = record { above = shifted a b d.above; below = shifted b a d.below }
  where
    swapped : (b : Fraction) → Same (plus (plus b c) e) (plus (plus b e) c)
    swapped b = same_trans (plus_assoc b c e) (same_trans (plus_left_comm b c e) (same_trans (plus_left_comm c b e) (same_trans (plus_same (same_refl b) (commuted c e)) (same_sym (plus_assoc b e c)))))
      where
        commuted : (c e : Fraction) → Same (plus c e) (plus e c)
        commuted c e = same_trans (plus_same (same_refl c) (same_sym (plus-zero e))) (same_trans (plus_left_comm c e (whole 0)) (plus_same (same_refl e) (plus-zero c)))

    shifted : (a b : Fraction) → AtMost a (plus b e) → AtMost (plus a c) (plus (plus b c) e)
    shifted a b h = same_most (same_refl (plus a c)) (swapped b) (plus_most a (plus b e) c c h (most_of_same c c (same_refl c)))

-- and the bound may be written otherwise
differ_bound : {e f a b : Fraction} → Same e f → DifferByAtMost e a b → DifferByAtMost f a b
differ_bound {e} {f} {a} {b} h d = record {
  above = same_most (same_refl a) (plus_same (same_refl b) (same_sym h)) d.above;
  below = same_most (same_refl b) (plus_same (same_refl a) (same_sym h)) d.below;
}

module _ {State : Type 0} (b : Balance State) (totals : State → ℕ → Fraction) (knowns : ℕ → Fraction) (estimates bounds : State → ℕ → Fraction) (fixed : ℕ → Fraction) (all : ℕ)
    (total_is : (t : State) (row : ℕ) → Same (totals t row) (plus (b.total t row) (fixed row)))
    (known_is : (row : ℕ) → Same (knowns row) (plus (b.known row) (fixed row)))
    (estimate_is : (t : State) (row : ℕ) → Same (estimates t row) (plus (b.estimate t row) (fixed row)))
    (bound_is : (t : State) (row : ℕ) → Same (b.bound t row) (bounds t row))
    (fewer : b.all_rows ≤ all) (still : (t : State) (row : ℕ) → b.all_rows ≤ row → row < all → Same (b.total t row) (b.known row))
    (drawn : (t : State) (row : ℕ) → b.all_rows ≤ row → row < all → Same (b.estimate t row) (b.known row))
    (none : (t : State) (row : ℕ) → b.all_rows ≤ row → row < all → Same (whole 0) (b.bound t row)) where
  abbrev pub added : Balance State
  added = record b { total = totals; known = knowns; estimate = estimates; bound = bounds; all_rows = all }

  with_fixed : {x y : Fraction} (row : ℕ) → Same x y → Same (plus x (fixed row)) (plus y (fixed row))
  with_fixed row h = plus_same h (same_refl (fixed row))

  module _ (from : State) (of_free : IsBalanced b from) where
    of_landing : (before : List Entry) (t : State) → LandsAt added from before t → LandsAt b from before t
    of_landing before t lands = record { leads = lands.leads; flight = lands.flight; going = lands.going; begins = lands.begins }

    own_total : (path : List Entry) (t : State) → Leads b.tree from path t → IsBeforeLanding path → (row : ℕ) → row < all → Same (b.total t row) (b.known row)
    own_total path t leads before row l =
        elim (cases_lt row b.all_rows) [
          | inl within ↦ of_free.totals path t leads before row within
          | inr past ↦ still t row past l
        ]

    own_exact : (path : List Entry) (leaf : State) → Leads b.tree from path leaf → IsBeforeLanding path → b.tree.done leaf ≡ true → (row : ℕ) → row < all → Same (b.estimate leaf row) (b.known row)
    own_exact path leaf leads before done row l =
        elim (cases_lt row b.all_rows) [
          | inl within ↦ of_free.exact path leaf leads before done row within
          | inr past ↦ drawn leaf row past l
        ]

    own_error : (before after : List Entry) (t leaf : State) → LandsAt b from before t → Leads b.tree t after leaf → b.tree.done leaf ≡ true → (row : ℕ) → row < all → DifferByAtMost (b.bound t row) (b.estimate leaf row) (b.known row)
    own_error before after t leaf lands leads done row l =
        elim (cases_lt row b.all_rows) [
          | inl within ↦ of_free.error before after t leaf lands leads done row within
          | inr past ↦ differ_bound (none t row past l) (differ_same (b.estimate leaf row) (b.known row) (drawn leaf row past l))
        ]

    pub is_added : IsBalanced added from
    is_added = record {
      flights = λ path t entry leads step k row l.
          same_trans (total_is (picked t (b.tree.parts t) entry.2) row)
          (same_trans (with_fixed row (of_free.flights path t entry leads step k row l)) (same_sym (total_is t row)));
      totals = λ path t leads before row l.
          same_trans (total_is t row) (same_trans (with_fixed row (own_total path t leads before row l)) (same_sym (known_is row)));
      exact = λ path leaf leads before done row l.
          same_trans (estimate_is leaf row) (same_trans (with_fixed row (own_exact path leaf leads before done row l)) (same_sym (known_is row)));
      lands = λ path to leads. lands_or_not added path from to leads;
      landing = λ before t lands. of_free.landing before t (of_landing before t lands);
      drops = of_free.drops;
      few = λ before t lands drops. (let few = of_free.few before t (of_landing before t lands) drops in (few.0, omega (arith, few.1, fewer)));
      error = λ before after t leaf lands leads done row l.
          differ_bound (bound_is t row)
          (differ_by_same (estimate_is leaf row) (known_is row)
          (differ_plus (b.bound t row) (b.estimate leaf row) (b.known row) (fixed row) (own_error before after t leaf (of_landing before t lands) leads done row l)));
      none_left = of_free.none_left;
      left = λ before after entry t to lands leads. of_free.left before after entry t to (of_landing before t lands) leads;
      never_wide = of_free.never_wide;
      few_left = λ n path t leads. (let few = of_free.few_left n path t leads in omega (arith, few, fewer));
    }
