-- The sum of the values of a stratum.
use Rattle.std.proofs.Common.{◌≡◌, ◌≢◌, ℕ, zero, suc, ◌+◌, ◌*◌, ◌<◌, ◌≤◌, nat_eq, ◌&&◌, Bool, true, false, cond, List, length, arith, refl, sym, ap, ◌∙◌, subst, inl, inr}
use Rattle.std.specs.Int.RustNames.{unsigned_abs}
use Rattle.std.proofs.{Math.Nat.{mul-le-mul_right}, lemmas.Bool.{cases_eq, cases_lt, eq-eqb, false_from_ne_true, lt-ltb, ne_eqb}}
use Rattle.smp_frac.specs.Fractions.{Fraction, Same, positive_one, whole, over, plus, times, sum_below}
use Rattle.smp_frac.proofs.Arithmetic.{same_refl, same_sym, same_trans, plus_same, plus_assoc, plus_cancel, plus_left_comm, plus-zero, zero-plus, times_same, one-times, zero-times, sum_same}
use Rattle.smp_frac.proofs.Over.{cross_from_over, over_from_cross, over_plus}
use Rattle.smp_split.specs.Laws.Parts.{plus-whole}
use Rattle.smp_split.proofs.NumberSums.{sums, sum_by-range}
use Rattle.smp_values.proofs.Fractional.{fractional_is, not_fractional, over_settled}
use Rattle.smp_moves.specs.{Owed.{weighed_total}, Cubes.{values_in}}
use Rattle.smp_stratcube.specs.{declared.values.Value.{Value}, Units.{Units, stratum}, States.{Balancing}, Counts.{selected_in}}
use Rattle.smp_stratcube.specs.{Values.{AreValues, is_fractional, is_one, value, value_at}, Kept.Trees.{weighed_of}}
use Rattle.smp_stratcube.specs.Laws.Units.{fractional_in}

-- ---- sums

comm : (a b : Fraction) → Same (plus a b) (plus b a)
comm a b =
    same_trans (plus_same (same_refl a) (same_sym (plus-zero b))) (same_trans (plus_left_comm a b (whole 0)) (plus_same (same_refl b) (plus-zero a)))

-- two sums that differ at one place
sum_but : (n i : ℕ) (f g : ℕ → Fraction) → i < n → ((k : ℕ) → k < n → i ≢ k → Same (f k) (g k)) → Same (plus (g i) (sum_below n f)) (plus (f i) (sum_below n g))
sum_but zero i f g l others = absurd (omega (arith, l))
sum_but (suc n) i f g l others =
    elim (cases_eq n i) [
      | inl e ↦ subst (λ (k : ℕ). Same (plus (g k) (sum_below (suc n) f)) (plus (f k) (sum_below (suc n) g))) e
          (same_trans (plus_left_comm (g n) (sum_below n f) (f n))
          (same_trans (plus_same (sum_same n f g (λ k m. others k (omega (arith, m)) (omega (arith, m, e)))) (comm (g n) (f n))) (plus_left_comm (sum_below n g) (f n) (g n))))
      | inr ne ↦
          same_trans (same_sym (plus_assoc (g i) (sum_below n f) (f n)))
          (same_trans (plus_same (sum_but n i f g (omega (arith, l, ne)) (λ k m. others k (omega (arith, m)))) (others n (omega arith) (λ e. ne (sym e)))) (plus_assoc (f i) (sum_below n g) (g n)))
    ]

-- two sums that differ at two places, of which the terms there have the same sum
pub sum_pair : (n i j : ℕ) (f g : ℕ → Fraction) → i < n → j < n → i ≢ j → ((k : ℕ) → k < n → i ≢ k → j ≢ k → Same (f k) (g k)) → Same (plus (f i) (f j)) (plus (g i) (g j)) → Same (sum_below n f) (sum_below n g)
sum_pair n i j f g li lj apart others both =
    let h : ℕ → Fraction = λ k. cond (nat_eq i k) (g k) (f k) in
    let h_i : h i ≡ g i = rw (eq-eqb i i refl) refl in
    let h_j : h j ≡ f j = rw (ne_eqb i j apart) refl in
    let at_i : Same (plus (g i) (sum_below n f)) (plus (f i) (sum_below n h)) =
    subst (λ (x : Fraction). Same (plus x (sum_below n f)) (plus (f i) (sum_below n h))) h_i (sum_but n i f h li (λ k l ne. rw (ne_eqb i k ne) (same_refl (f k)))) in
    let at_j : Same (plus (g j) (sum_below n h)) (plus (f j) (sum_below n g)) =
    subst (λ (x : Fraction). Same (plus (g j) (sum_below n h)) (plus x (sum_below n g))) h_j (sum_but n j h g lj (λ k l ne. others_at k l ne)) in
    plus_cancel (plus (f i) (f j)) (sum_below n f) (sum_below n g)
    (same_trans (plus_same both (same_refl (sum_below n f)))
    (same_trans (plus_assoc (g i) (g j) (sum_below n f)) (same_trans (plus_left_comm (g i) (g j) (sum_below n f))
    (same_trans (plus_same (same_refl (g j)) at_i) (same_trans (plus_left_comm (g j) (f i) (sum_below n h))
    (same_trans (plus_same (same_refl (f i)) at_j) (same_sym (plus_assoc (f i) (f j) (sum_below n g)))))))))
  where
    others_at : (k : ℕ) → k < n → j ≢ k → Same (cond (nat_eq i k) (g k) (f k)) (g k)
    others_at k l nj = elim (cases_eq i k) [ inl e ↦ rw (eq-eqb i k e) (same_refl (g k)) | inr ni ↦ rw (ne_eqb i k ni) (others k l ni nj) ]

-- a sum of whole numbers
pub whole_sum : (n : ℕ) (g : ℕ → ℕ) → Same (sum_below n (λ k. whole (g k))) (whole (sums n g))
whole_sum zero g = same_refl (whole 0)
whole_sum (suc n) g = same_trans (plus_same (whole_sum n g) (same_refl (whole (g n)))) (plus-whole (sums n g) (g n))

pub whole_same : (a b : ℕ) → Same (whole a) (whole b) → a ≡ b
whole_same a b h = (let c : a * 1 ≡ b * 1 = ap unsigned_abs h.cross in omega (arith, c))

-- a number strictly between 0 and 1, and a whole number, have no whole sum
never_whole : (a d c n : ℕ) → 0 < a → a < d → Same (plus (over a d) (whole c)) (whole n) → ⊥
never_whole a d c n some below h =
    let as_over : Same (whole c) (over (c * d) d) = over_from_cross c (c * d) d 1 positive_one (omega (arith, below)) (omega arith) in
    let sum : Same (plus (over a d) (whole c)) (over (1 * a + c * d) d) =
    same_trans (plus_same (same_sym (one-times (over a d))) as_over) (over_plus 1 a (c * d) d) in
    let cross : n * d ≡ (1 * a + c * d) * 1 = cross_from_over n (1 * a + c * d) d 1 positive_one (omega (arith, below)) (same_trans (same_sym h) sum) in
    elim (cases_lt c n) [
      | inl l ↦ (let m : (c + 1) * d ≤ n * d = mul-le-mul_right d (let k : c + 1 ≤ n = omega (arith, l) in k) in omega (arith, m, cross, below))
      | inr l ↦ (let m : n * d ≤ c * d = mul-le-mul_right d l in omega (arith, m, cross, some))
    ]

-- ---- of a stratum

abbrev pub stratum_sum : Units → ℕ → List Value → Fraction
stratum_sum units h values = sum_below (length units.members) (λ k. times (whole (cond (nat_eq (stratum units k) h) 1 0)) (value_at values k))

-- no unit of the stratum is fractional
abbrev pub NoneOpen : Units → ℕ → List Value → Type 0
NoneOpen units h values = (k : ℕ) → is_fractional values k ≡ true → stratum units k ≢ h

module _ (units : Units) (h : ℕ) where
  term_in : (k : ℕ) (a : Fraction) → stratum units k ≡ h → Same (times (whole (cond (nat_eq (stratum units k) h) 1 0)) a) a
  term_in k a e = subst (λ (b : Bool). Same (times (whole (cond b 1 0)) a) a) (sym (eq-eqb (stratum units k) h e)) (one-times a)

  term_out : (k : ℕ) (a : Fraction) → stratum units k ≢ h → Same (times (whole (cond (nat_eq (stratum units k) h) 1 0)) a) (whole 0)
  term_out k a ne = subst (λ (b : Bool). Same (times (whole (cond b 1 0)) a) (whole 0)) (sym (ne_eqb (stratum units k) h ne)) (zero-times a)

  -- where the units of the stratum keep their values
  pub kept_sum : (values after : List Value) → ((k : ℕ) → k < length units.members → stratum units k ≡ h → Same (value_at after k) (value_at values k)) → Same (stratum_sum units h after) (stratum_sum units h values)
  kept_sum values after kept =
      sum_same (length units.members) (λ k. times (whole (cond (nat_eq (stratum units k) h) 1 0)) (value_at after k)) (λ k. times (whole (cond (nat_eq (stratum units k) h) 1 0)) (value_at values k))
      (λ k l. elim (cases_eq (stratum units k) h) [
        | inl e ↦ times_same (same_refl (whole (cond (nat_eq (stratum units k) h) 1 0))) (kept k l e)
        | inr ne ↦ same_trans (term_out k (value_at after k) ne) (same_sym (term_out k (value_at values k) ne))
      ])

  -- two of its units whose values have the same sum as before, where all others keep theirs
  pub paired_sum : (values after : List Value) (i j : ℕ) → i < length units.members → j < length units.members → i ≢ j → stratum units i ≡ h → stratum units j ≡ h
      → ((k : ℕ) → i ≢ k → j ≢ k → Same (value_at after k) (value_at values k))
      → Same (plus (value_at after i) (value_at after j)) (plus (value_at values i) (value_at values j))
      → Same (stratum_sum units h after) (stratum_sum units h values)
  paired_sum values after i j li lj apart ei ej others both =
      sum_pair (length units.members) i j (λ k. times (whole (cond (nat_eq (stratum units k) h) 1 0)) (value_at after k)) (λ k. times (whole (cond (nat_eq (stratum units k) h) 1 0)) (value_at values k))
      li lj apart (λ k l ni nj. times_same (same_refl (whole (cond (nat_eq (stratum units k) h) 1 0))) (others k ni nj))
      (same_trans (plus_same (term_in i (value_at after i) ei) (term_in j (value_at after j) ej))
      (same_trans both (same_sym (plus_same (term_in i (value_at values i) ei) (term_in j (value_at values j) ej)))))

  -- the sum is the total of the stratum's row
  pub total_is : (s : Balancing) → h < length units.firsts → weighed_total (weighed_of units) s h ≡ stratum_sum units h (values_in s)
  total_is s l = rw (lt-ltb h (length units.firsts) l) refl

  -- a unit that isn't fractional
  settled_term : (values : List Value) (n k : ℕ) → AreValues n values → (stratum units k ≡ h → is_fractional values k ≡ false) →
      Same (times (whole (cond (nat_eq (stratum units k) h) 1 0)) (value_at values k)) (whole (cond (nat_eq (stratum units k) h && is_one values k) 1 0))
  settled_term values n k are still =
      let IsTerm : Bool → Type 0 = λ b. Same (times (whole (cond b 1 0)) (value_at values k)) (whole (cond (b && is_one values k) 1 0)) in
      elim (cases_eq (stratum units k) h) [
        | inl e ↦ subst IsTerm (sym (eq-eqb (stratum units k) h e)) (same_trans (one-times (value_at values k)) (over_settled (value values k).at.den (value values k).at.num (are.each k).positive (not_fractional (value values k).at.den (value values k).at.num (are.each k).most (still e))))
        | inr ne ↦ subst IsTerm (sym (ne_eqb (stratum units k) h ne)) (zero-times (value_at values k))
      ]

  abbrev term : List Value → ℕ → Fraction
  term values k = times (whole (cond (nat_eq (stratum units k) h) 1 0)) (value_at values k)

  -- what all units but one count for
  abbrev others : List Value → ℕ → ℕ → ℕ
  others values i k = cond (nat_eq i k) 0 (cond (nat_eq (stratum units k) h && is_one values k) 1 0)

  -- one unit of it that alone is fractional has no whole sum
  pub alone_never : (values : List Value) (n i : ℕ) → AreValues (length units.members) values → is_fractional values i ≡ true → stratum units i ≡ h →
      ((k : ℕ) → is_fractional values k ≡ true → stratum units k ≡ h → k ≡ i) → Same (stratum_sum units h values) (whole n) → ⊥
  alone_never values n i are open_i same alone adds =
      let v : Value = value values i in
      let inside : i < length units.members = omega (arith, fractional_in values i open_i, are.count) in
      let between = fractional_is v.at.den v.at.num open_i in
      let none_here : Same (plus (whole (others values i i)) (stratum_sum units h values)) (stratum_sum units h values) = rw (eq-eqb i i refl) (zero-plus (stratum_sum units h values)) in
      never_whole v.at.num v.at.den (sums (length units.members) (others values i)) n between.0 between.1
      (same_trans (plus_same (same_sym (term_in i (value_at values i) same)) (same_sym (whole_sum (length units.members) (others values i))))
      (same_trans (same_sym (sum_but (length units.members) i (term values) (λ k. whole (others values i k)) inside others_are))
      (same_trans none_here adds)))
    where
      others_are : (k : ℕ) → k < length units.members → i ≢ k → Same (term values k) (whole (others values i k))
      others_are k l ne =
          rw (ne_eqb i k ne)
          (settled_term values (length units.members) k are (λ e. false_from_ne_true (is_fractional values k) (λ t. ne (sym (alone k t e)))))

  -- where no unit is fractional, the sum counts the selected ones
  pub counted : (s : Balancing) (n : ℕ) → AreValues (length units.members) (values_in s) → ((k : ℕ) → is_fractional (values_in s) k ≡ false) → Same (stratum_sum units h (values_in s)) (whole n) → selected_in units h s ≡ n
  counted s n are still adds =
      let all : Same (stratum_sum units h (values_in s)) (whole (sums (length units.members) (λ k. cond (nat_eq (stratum units k) h && is_one (values_in s) k) 1 0))) =
      same_trans (sum_same (length units.members) (λ k. times (whole (cond (nat_eq (stratum units k) h) 1 0)) (value_at (values_in s) k)) (λ k. whole (cond (nat_eq (stratum units k) h && is_one (values_in s) k) 1 0)) (λ k l. settled_term (values_in s) (length units.members) k are (λ e. still k)))
      (whole_sum (length units.members) (λ k. cond (nat_eq (stratum units k) h && is_one (values_in s) k) 1 0)) in
      sum_by-range (length units.members) (λ k. cond (nat_eq (stratum units k) h && is_one (values_in s) k) 1 0)
      ∙ whole_same (sums (length units.members) (λ k. cond (nat_eq (stratum units k) h && is_one (values_in s) k) 1 0)) n (same_trans (same_sym all) adds)
