-- A sum over the units that are drawn together is one of sums over the units of each stratum, added up as the totals of all strata are.
use Rattle.std.proofs.Common.{◌≡◌, ◌≢◌, ℕ, zero, suc, ◌+◌, ◌-◌, ◌<◌, Bool, true, false, List, [], ◌∷◌, All, length, get_or, arith, sym, subst, inl, inr}
use Rattle.std.specs.Prelude.{nat_lt, if◌then◌else◌}
use Rattle.std.proofs.{lemmas.Bool.{cases_Bool}, lemmas.List.Elements.{All-head, All-tail}}
use Rattle.smp_frac.specs.Fractions.{Fraction, Same, plus, sum_below, whole}
use Rattle.smp_frac.proofs.Arithmetic.{plus-zero, plus_same, plus_swap, same_refl, same_sym, same_trans, sum_same, zero-plus, zero-plus-zero}
use Rattle.smp_stratcube.specs.{declared.units.Member.{Member}, Layers.{Layer}, Kept.Layers.{layer_of}}
use Rattle.smp_stratcube.specs.Units.{member_of, members_from, nobody}
use Rattle.smp_twostage.specs.{Strata.{StratumUnits, free_values}, Totals.{layers_of, over_frame, size_of, variable_of}}
use Rattle.smp_twostage.proofs.LayerRuns.{halves, later_unit, own_unit}

abbrev pub layer_in : StratumUnits → Layer
layer_in s = layer_of s.request (free_values s)

-- what a stratum has of a sum, by its number and how many free units come before it, and the sum over some strata
abbrev pub sums : (ℕ → ℕ → StratumUnits → Fraction) → ℕ → ℕ → List StratumUnits → Fraction
sums part h before [] = whole 0
sums part h before (s ∷ frame) = plus (part h before s) (sums part (suc h) (before + length s.request.free) frame)

abbrev pub ArePaired : List StratumUnits → Type 0
ArePaired frame = All (λ s. length s.request.shape ≡ length s.request.free) frame

-- a sum over the units of some strata
pub members_sum : (count h before : ℕ) (frame : List StratumUnits) → ArePaired frame → (f : Member → ℕ → Fraction)
    → Same (sum_below (length (members_from count h (layers_of frame))) (λ i. f (get_or (members_from count h (layers_of frame)) i nobody) (before + i)))
    (sums (λ g b s. sum_below (length s.request.shape) (λ u. f (member_of count g (layer_in s) u) (b + u))) h before frame)
members_sum count h before [] paired f = same_refl (whole 0)
members_sum count h before (s ∷ frame) paired f =
    let layers : List Layer = layers_of frame in
    let all : List Member = members_from count h (layer_in s ∷ layers) in
    let others : List Member = members_from count (suc h) layers in
    let n : ℕ = length s.request.shape in
    let own_paired : length s.request.shape ≡ length s.request.free = All-head (λ (t : StratumUnits). length t.request.shape ≡ length t.request.free) s frame paired in
    let here : Same (sum_below n (λ i. f (get_or all i nobody) (before + i))) (sum_below n (λ u. f (member_of count h (layer_in s) u) (before + u))) =
    sum_same n (λ i. f (get_or all i nobody) (before + i)) (λ u. f (member_of count h (layer_in s) u) (before + u))
    (λ i l. subst (λ (m : Member). Same (f (get_or all i nobody) (before + i)) (f m (before + i))) (own_unit count h (layer_in s) layers i l) (same_refl (f (get_or all i nobody) (before + i)))) in
    let there : Same (sum_below (length others) (λ k. f (get_or all (n + k) nobody) (before + (n + k)))) (sum_below (length others) (λ k. f (get_or others k nobody) (before + length s.request.free + k))) =
    sum_same (length others) (λ k. f (get_or all (n + k) nobody) (before + (n + k))) (λ k. f (get_or others k nobody) (before + length s.request.free + k))
    (λ k l. (let at : before + (n + k) ≡ before + length s.request.free + k = omega (arith, own_paired) in
    subst (λ (i : ℕ). Same (f (get_or all (n + k) nobody) (before + (n + k))) (f (get_or others k nobody) i)) at
    (subst (λ (m : Member). Same (f (get_or all (n + k) nobody) (before + (n + k))) (f m (before + (n + k)))) (later_unit count h (layer_in s) layers k) (same_refl (f (get_or all (n + k) nobody) (before + (n + k))))))) in
    same_trans (halves count h (layer_in s) layers (λ i. f (get_or all i nobody) (before + i)))
    (plus_same here
    (same_trans there
    (members_sum count (suc h) (before + length s.request.free) frame (All-tail (λ (t : StratumUnits). length t.request.shape ≡ length t.request.free) s frame paired) f)))

-- ---- a row over all strata

by_test : (b : Bool) {w x y z : Fraction} → Same w x → Same y z → Same (if b then w else y) (if b then x else z)
by_test true h k = h
by_test false h k = k

module _ (Is : StratumUnits → Type 0) where
  -- where each stratum has the same of it
  module _ (f g : ℕ → ℕ → StratumUnits → Fraction) (each : (before row : ℕ) (s : StratumUnits) → Is s → Same (f before row s) (g before row s)) where
    size_same : (before h : ℕ) (frame : List StratumUnits) → All Is frame → Same (size_of f before h frame) (size_of g before h frame)
    size_same before h [] are = same_refl (whole 0)
    size_same before zero (s ∷ frame) are = each before 0 s (All-head Is s frame are)
    size_same before (suc h) (s ∷ frame) are = size_same (before + length s.request.free) h frame (All-tail Is s frame are)

    variable_same : (before column : ℕ) (frame : List StratumUnits) → All Is frame → Same (variable_of f before column frame) (variable_of g before column frame)
    variable_same before column [] are = same_refl (whole 0)
    variable_same before column (s ∷ frame) are =
        plus_same (each before (suc column) s (All-head Is s frame are)) (variable_same (before + length s.request.free) column frame (All-tail Is s frame are))

    pub over_same : (frame : List StratumUnits) → All Is frame → (row : ℕ) → Same (over_frame f frame row) (over_frame g frame row)
    over_same frame are row = by_test (nat_lt row (length frame)) (size_same 0 row frame are) (variable_same 0 (row - length frame) frame are)

  -- where the sum has so much of it in each stratum
  module _ (part : ℕ → ℕ → StratumUnits → Fraction) (own : ℕ → ℕ → StratumUnits → Fraction) where
    pub variable_sums : (column : ℕ) → ((h before : ℕ) (s : StratumUnits) → Is s → Same (own h before s) (part before (suc column) s))
        → (h before : ℕ) (frame : List StratumUnits) → All Is frame → Same (sums own h before frame) (variable_of part before column frame)
    variable_sums column each h before [] are = same_refl (whole 0)
    variable_sums column each h before (s ∷ frame) are =
        plus_same (each h before s (All-head Is s frame are)) (variable_sums column each (suc h) (before + length s.request.free) frame (All-tail Is s frame are))

    no_sums : (row : ℕ) → ((h before : ℕ) (s : StratumUnits) → h ≢ row → Is s → Same (own h before s) (whole 0))
        → (h before : ℕ) → row < h → (frame : List StratumUnits) → All Is frame → Same (sums own h before frame) (whole 0)
    no_sums row none h before past [] are = same_refl (whole 0)
    no_sums row none h before past (s ∷ frame) are =
        same_trans (plus_same (none h before s (λ e. absurd (omega (arith, e, past))) (All-head Is s frame are))
        (no_sums row none (suc h) (before + length s.request.free) (omega (arith, past)) frame (All-tail Is s frame are))) zero-plus-zero

    pub size_sums : (row : ℕ) → ((h before : ℕ) (s : StratumUnits) → h ≢ row → Is s → Same (own h before s) (whole 0))
        → ((before : ℕ) (s : StratumUnits) → Is s → Same (own row before s) (part before 0 s))
        → (h left before : ℕ) → h + left ≡ row → (frame : List StratumUnits) → All Is frame → Same (sums own h before frame) (size_of part before left frame)
    size_sums row none here h left before at [] are = same_refl (whole 0)
    size_sums row none here h zero before at (s ∷ frame) are =
        let e : h ≡ row = omega (arith, at) in
        same_trans (plus_same (subst (λ (g : ℕ). Same (own g before s) (part before 0 s)) (sym e) (here before s (All-head Is s frame are)))
        (no_sums row none (suc h) (before + length s.request.free) (omega (arith, e)) frame (All-tail Is s frame are))) (plus-zero (part before 0 s))
    size_sums row none here h (suc left) before at (s ∷ frame) are =
        same_trans (plus_same (none h before s (λ e. absurd (omega (arith, e, at))) (All-head Is s frame are))
        (size_sums row none here (suc h) left (before + length s.request.free) (omega (arith, at)) frame (All-tail Is s frame are)))
        (zero-plus (size_of part (before + length s.request.free) left frame))

-- the sum of two
module _ (f g : ℕ → ℕ → StratumUnits → Fraction) where
  abbrev pub both : ℕ → ℕ → StratumUnits → Fraction
  both before row s = plus (f before row s) (g before row s)

  size_plus : (before h : ℕ) (frame : List StratumUnits) → Same (size_of both before h frame) (plus (size_of f before h frame) (size_of g before h frame))
  size_plus before h [] = same_sym zero-plus-zero
  size_plus before zero (s ∷ frame) = same_refl (both before 0 s)
  size_plus before (suc h) (s ∷ frame) = size_plus (before + length s.request.free) h frame

  variable_plus : (before column : ℕ) (frame : List StratumUnits)
      → Same (variable_of both before column frame) (plus (variable_of f before column frame) (variable_of g before column frame))
  variable_plus before column [] = same_sym zero-plus-zero
  variable_plus before column (s ∷ frame) =
      let next : ℕ = before + length s.request.free in
      same_trans (plus_same (same_refl (both before (suc column) s)) (variable_plus next column frame))
      (plus_swap (f before (suc column) s) (g before (suc column) s) (variable_of f next column frame) (variable_of g next column frame))

  pub over_plus : (frame : List StratumUnits) (row : ℕ) → Same (over_frame both frame row) (plus (over_frame f frame row) (over_frame g frame row))
  over_plus frame row =
      elim (cases_Bool (nat_lt row (length frame))) [
        | inl e ↦ rw e (size_plus 0 row frame)
        | inr e ↦ rw e (variable_plus 0 (row - length frame) frame)
      ]
