-- A pivotal step of two units, wherever they stand, and that of one unit alone: their parts are lawful.
use Rattle.std.proofs.Common.{◌≡◌, ◌≢◌, ℕ, ◌+◌, ◌-◌, ◌*◌, ◌^◌, ◌<◌, ◌≤◌, true, false, min, length, get_or, set, arith, refl, ap, ◌∙◌, inl, inr, ◌⊎◌, length-set}
use Rattle.std.specs.List.{sum}
use Rattle.std.proofs.{lemmas.Bool.{cases_eq}, lemmas.List.{get_or-set_same, get_or-set_other}}
use Rattle.smp_prob.specs.Shares.{Shares}
use Rattle.smp_split.specs.Trees.{EachPart, IsPart, LawfulParts}
use Rattle.smp_split.proofs.Over.{even_over}
use Rattle.smp_values.specs.{declared.pairs.TwoWeights.{TwoWeights}, Pairs.{pair_weights}, Steps.{pair_parts, lone_parts, steps_tree}}
use Rattle.smp_values.specs.Values.{IsValues, AddTo, fractional, is_fractional, with_one, with_pair}
use Rattle.smp_values.proofs.{Fractional.{fractional_is, fractional_den}, Near.{IsNear, near_same}, PairNumbers.{IsPair, is_pair}}
use Rattle.smp_values.proofs.Changes.{one_within, one_falls, two_at_i, two_at_j, two_elsewhere, two_within, two_fall, two_total}

module _ (units : ℕ) (s : Shares) (ok : IsValues units (2 ^ 80) s) where
  -- ---- one unit alone

  module _ (i : ℕ) (i_in : i < length s.numer) (i_open : is_fractional s i ≡ true) where
    lone_part : (weight x : ℕ) → 1 ≤ weight → x ≤ s.den → fractional s.den x ≡ false → IsPart (steps_tree units) (IsValues units (2 ^ 80)) s (record { weight = weight; state = with_one s i x })
    lone_part weight x heavy within settles = record {
      heavy = heavy;
      falls = one_falls s.numer i x i_in s.den i_open settles;
      member = record {
        count = simp length-set ok.count;
        positive = ok.positive;
        narrow = ok.narrow;
        each = λ k. one_within s.numer i x i_in s.den k within ok.each;
      };
    }

    lone_keeps : (a : ℕ) → get_or s.numer i 0 ≡ a → a ≤ s.den → (k : ℕ) → a * get_or (set s.numer i s.den) k 0 + ((s.den - a) * get_or (set s.numer i 0) k 0 + 0) ≡ (a + ((s.den - a) + 0)) * get_or s.numer k 0
    lone_keeps a ea le k =
        let total : a + (s.den - a) ≡ s.den = omega arith in
        elim (cases_eq k i) [
          | inl e ↦ rw (e, get_or-set_same s.numer i s.den 0 i_in, get_or-set_same s.numer i 0 0 i_in, ea) (omega (arith, ap (λ x. x * a) total))
          | inr ni ↦ rw (get_or-set_other s.numer i k s.den 0 ni, get_or-set_other s.numer i k 0 0 ni) (omega arith)
        ]

    pub lone_lawful : LawfulParts (steps_tree units) (IsValues units (2 ^ 80)) s (lone_parts s i)
    lone_lawful =
        let fa = fractional_is s.den (get_or s.numer i 0) i_open in
        let some : 0 < get_or s.numer i 0 = fa.0 in
        let less : get_or s.numer i 0 < s.den = fa.1 in
        let narrow : s.den ≤ 2 ^ 80 = ok.narrow in
        record {
          some = omega arith;
          narrow = omega arith;
          each = (lone_part _ _ some (omega arith) (fractional_den s.den), (lone_part _ _ (omega arith) (omega arith) refl, tt));
          even = λ k _.
              let num : Shares → ℕ = λ t. get_or t.numer k 0 in
              let den_of : Shares → ℕ = λ t. t.den in
              even_over num den_of s.den (get_or s.numer k 0) (lone_parts s i) (refl, (refl, tt)) (lone_keeps (get_or s.numer i 0) refl (ok.each i) k);
        }

  -- ---- two units

  module _ (i j : ℕ) (ne : i ≢ j) (i_in : i < length s.numer) (j_in : j < length s.numer) (i_open : is_fractional s i ≡ true) (j_open : is_fractional s j ≡ true) where
    pair_part : (weight : ℕ) (new : ℕ × ℕ) → 1 ≤ weight → (new.0 ≤ s.den) × (new.1 ≤ s.den) → (fractional s.den new.0 ≡ false) ⊎ (fractional s.den new.1 ≡ false) → IsPart (steps_tree units) (IsValues units (2 ^ 80)) s (record { weight = weight; state = with_pair s i j new })
    pair_part weight new heavy within settles = record {
      heavy = heavy;
      falls = two_fall s.numer i j new.0 new.1 ne i_in j_in s.den i_open j_open settles;
      member = record {
        count = simp length-set ok.count;
        positive = ok.positive;
        narrow = ok.narrow;
        each = λ k. two_within s.numer i j new.0 new.1 ne i_in j_in s.den k within.0 within.1 ok.each;
      };
    }

    pair_keeps : (a b : ℕ) (w : TwoWeights) (f g : ℕ × ℕ) → get_or s.numer i 0 ≡ a → get_or s.numer j 0 ≡ b → IsPair a b s.den w f g → (k : ℕ) → w.first * get_or (set (set s.numer i f.0) j f.1) k 0 + (w.second * get_or (set (set s.numer i g.0) j g.1) k 0 + 0) ≡ (w.first + (w.second + 0)) * get_or s.numer k 0
    pair_keeps a b w f g ea eb pair k =
        elim (cases_eq k j) [
          | inl e ↦ rw (e, two_at_j s.numer i j f.0 f.1 ne i_in j_in, two_at_j s.numer i j g.0 g.1 ne i_in j_in, eb) (omega (arith, pair.keeps_b))
          | inr not_j ↦ elim (cases_eq k i) [
            | inl e ↦ rw (e, two_at_i s.numer i j f.0 f.1 ne i_in j_in, two_at_i s.numer i j g.0 g.1 ne i_in j_in, ea) (omega (arith, pair.keeps_a))
            | inr not_i ↦ rw (two_elsewhere s.numer i j f.0 f.1 ne i_in j_in k not_i not_j, two_elsewhere s.numer i j g.0 g.1 ne i_in j_in k not_i not_j) (omega arith)
          ]
        ]

    pub pair_lawful : LawfulParts (steps_tree units) (IsValues units (2 ^ 80)) s (pair_parts s i j)
    pair_lawful =
        let a : ℕ = get_or s.numer i 0 in
        let b : ℕ = get_or s.numer j 0 in
        let fa = fractional_is s.den (get_or s.numer i 0) i_open in
        let fb = fractional_is s.den (get_or s.numer j 0) j_open in
        let pair = is_pair (get_or s.numer i 0) (get_or s.numer j 0) s.den fa.0 fa.1 fb.0 fb.1 in
        let narrow : s.den ≤ 2 ^ 80 = ok.narrow in
        let first : 1 ≤ (pair_weights a b s.den).first = pair.heavy.0 in
        let total : (pair_weights a b s.den).first + (pair_weights a b s.den).second ≤ 2 * s.den = pair.total in
        record {
          some = omega arith;
          narrow = omega arith;
          each = (pair_part _ _ pair.heavy.0 pair.first_within pair.first_falls, (pair_part _ _ pair.heavy.1 pair.second_within pair.second_falls, tt));
          even = λ k _.
              let num : Shares → ℕ = λ t. get_or t.numer k 0 in
              let den_of : Shares → ℕ = λ t. t.den in
              even_over num den_of s.den (get_or s.numer k 0) (pair_parts s i j) (refl, (refl, tt)) (pair_keeps (get_or s.numer i 0) (get_or s.numer j 0) _ _ _ refl refl pair k);
        }

    -- it keeps the sum of the numerators
    pair_sums : EachPart (λ p. sum p.state.numer ≡ sum s.numer) (pair_parts s i j)
    pair_sums =
        let a : ℕ = get_or s.numer i 0 in
        let b : ℕ = get_or s.numer j 0 in
        let more : ℕ = min (a + b) s.den in
        let less : ℕ = a + b - s.den in (
          two_total s.numer i j more less ne i_in j_in (omega arith),
          (two_total s.numer i j less more ne i_in j_in (omega arith), tt),
        )

    pub pair_total : (n : ℕ) → AddTo n s → EachPart (λ p. AddTo n p.state) (pair_parts s i j)
    pair_total n adds = (pair_sums.0 ∙ adds, (pair_sums.1.0 ∙ adds, tt))

    pub pair_near : (total den : ℕ) → s.den ≡ den → sum s.numer ≡ total → EachPart (λ p. IsNear total den p.state) (pair_parts s i j)
    pair_near total den is same = (
      near_same total den _ ok.positive is (pair_sums.0 ∙ same),
      (near_same total den _ ok.positive is (pair_sums.1.0 ∙ same), tt),
    )
