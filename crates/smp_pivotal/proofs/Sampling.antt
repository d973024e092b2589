-- One pass over the numerators that takes a systematic sample.
use Rattle.std.proofs.Common.{◌≡◌, ◌≢◌, ℕ, ◌+◌, ◌-◌, ◌<◌, ◌≤◌, Bool, true, false, cond, nat_lt, List, length, get_or, arith, refl, sym, ap, ◌∙◌, inl, inr, length-set}
use Rattle.std.proofs.{lemmas.Bool.{cases_eq, lt-ltb, le-ltb}, lemmas.List.{get_or-set_same, get_or-set_other}}
use Rattle.std.proofs.lemmas.List.FromFn.{fill_by_all}
use Rattle.smp_prob.specs.Shares.{Shares}
use Rattle.smp_values.specs.Values.{with_one}
use Rattle.smp_pivotal.specs.{Systematic.{cumulated, takes, sampled}, Laws.Points.{IsGap, meets_is, next_gap}}
use Rattle.smp_pivotal.specs.Laws.SystematicSplits.{cumulated_next}

-- the values after a draw, as far as the pass has come, and how far the next point lies from there
pub record IsSampling (s : Shares) (draw : ℕ) (now : Shares) (gap place : ℕ) : Type 0 where
  pub count : length now.numer ≡ length s.numer
  pub den : now.den ≡ s.den
  pub done : (k : ℕ) → k < place → get_or now.numer k 0 ≡ cond (takes s draw k) s.den 0
  pub rest : (k : ℕ) → place ≤ k → get_or now.numer k 0 ≡ get_or s.numer k 0
  pub steps : ℕ
  pub at : IsGap s.den (cumulated s.numer place) draw gap steps

module _ (s : Shares) (draw : ℕ) (each : (k : ℕ) → get_or s.numer k 0 ≤ s.den) where
  pub sampling_first : draw < s.den → IsSampling s draw s draw 0
  sampling_first h = record {
    count = refl;
    den = refl;
    done = λ k l. absurd (omega arith);
    rest = λ k l. refl;
    steps = 0;
    at = record { at = omega arith; short = h };
  }

  module _ (now : Shares) (gap place : ℕ) (is : IsSampling s draw now gap place) (here : place < length s.numer) where
    -- the test of the code is whether the draw takes the place
    takes_is : takes s draw place ≡ nat_lt gap (get_or s.numer place 0)
    takes_is = meets_is s.den (cumulated s.numer place) draw gap is.steps is.at (get_or s.numer place 0) (cumulated s.numer (place + 1)) (cumulated_next s.numer place here)

    after : (value gap' : ℕ) (b : Bool) → nat_lt gap (get_or s.numer place 0) ≡ b → cond b s.den 0 ≡ value → cond b (gap + (s.den - get_or s.numer place 0)) (gap - get_or s.numer place 0) ≡ gap' → IsSampling s draw (with_one now place value) gap' (place + 1)
    after value gap' b test value_is gap_is =
        let inside : place < length now.numer = omega (arith, is.count) in
        let took : takes s draw place ≡ b = takes_is ∙ test in
        let next : IsGap s.den (cumulated s.numer place + get_or s.numer place 0) draw (cond b (gap + (s.den - get_or s.numer place 0)) (gap - get_or s.numer place 0)) (cond b 1 0 + is.steps) =
        rw (← test) (next_gap s.den (cumulated s.numer place) draw gap is.steps is.at (get_or s.numer place 0) (each place)) in
        record {
          count = length-set now.numer place value ∙ is.count;
          den = is.den;
          done = λ k l. elim (cases_eq k place) [
            | inl e ↦ rw (e, get_or-set_same now.numer place value 0 inside, took) (sym value_is)
            | inr other ↦ get_or-set_other now.numer place k value 0 other ∙ is.done k (omega arith)
          ];
          rest = λ k l. (let other : k ≢ place = omega arith in get_or-set_other now.numer place k value 0 other ∙ is.rest k (omega arith));
          steps = cond b 1 0 + is.steps;
          at = rw (cumulated_next s.numer place here, ← gap_is) next;
        }

    module _ (size : ℕ) (size_is : size ≡ get_or now.numer place 0) where
      asked : size ≡ get_or s.numer place 0
      asked = size_is ∙ is.rest place (omega arith)

      pub sampling_taken : gap < size → IsSampling s draw (with_one now place s.den) (gap + (s.den - size)) (place + 1)
      sampling_taken h =
          let within : gap < get_or s.numer place 0 = omega (arith, asked) in
          after s.den (gap + (s.den - size)) true (lt-ltb gap (get_or s.numer place 0) within) refl (sym (ap (λ n. gap + (s.den - n)) asked))

      pub sampling_left : size ≤ gap → IsSampling s draw (with_one now place 0) (gap - size) (place + 1)
      sampling_left h =
          let past : get_or s.numer place 0 ≤ gap = omega (arith, asked) in
          after 0 (gap - size) false (le-ltb gap (get_or s.numer place 0) past) refl (sym (ap (λ n. gap - n) asked))

  pub sampling_last : (now : Shares) (gap place : ℕ) → IsSampling s draw now gap place → length s.numer ≤ place → now ≡ sampled s draw
  sampling_last now gap place is end =
      let shares : List ℕ → ℕ → Shares = λ numer den. record { numer = numer; den = den } in
      let numer : now.numer ≡ (sampled s draw).numer = fill_by_all (λ k. cond (takes s draw k) s.den 0) now.numer (length s.numer) 0 is.count (λ k l. is.done k (omega arith)) in
      ap (λ numer. shares numer now.den) numer ∙ ap (shares (sampled s draw).numer) is.den
