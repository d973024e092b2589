-- A sum over the units of one stratum, among those of all that are drawn together: they stand one after another.
use Rattle.std.proofs.Common.{◌≡◌, ◌≢◌, ℕ, zero, suc, ◌+◌, ◌-◌, ◌<◌, ◌≤◌, Bool, List, [], ◌∷◌, length, get_or, arith, sym, ap, subst, ◌∙◌, le_of_suc-le-suc, length-append}
use Rattle.std.specs.Prelude.{cond, nat_eq}
use Rattle.std.proofs.{lemmas.Bool.{eq-eqb, ne_eqb}, lemmas.List.{get_or-append_right, get_or_append_left}}
use Rattle.smp_frac.specs.Fractions.{Fraction, Same, plus, sum_below, times, whole}
use Rattle.smp_frac.proofs.Arithmetic.{one-times, plus-zero, plus_assoc, plus_same, same_refl, same_sym, same_trans, sum-zero, sum_same, zero-plus, zero-times}
use Rattle.smp_stratcube.specs.{declared.units.Member.{Member}, Layers.{Layer, no_layer}, Requests.{offset}}
use Rattle.smp_stratcube.specs.Units.{member_of, members_from, nobody}
use Rattle.smp_stratcube.proofs.Layered.{length-own, own, own_at, unit_is, unit_of}

sum_split : (n m : ℕ) (f : ℕ → Fraction) → Same (sum_below (n + m) f) (plus (sum_below n f) (sum_below m (λ k. f (n + k))))
sum_split n zero f =
    let e : n ≡ n + 0 = omega arith in
    subst (λ i. Same (sum_below i f) (plus (sum_below n f) (whole 0))) e (same_sym (plus-zero (sum_below n f)))
sum_split n (suc m) f =
    let e : suc (n + m) ≡ n + suc m = omega arith in
    subst (λ i. Same (sum_below i f) (plus (sum_below n f) (sum_below (suc m) (λ k. f (n + k))))) e
    (same_trans (plus_same (sum_split n m f) (same_refl (f (n + m)))) (plus_assoc (sum_below n f) (sum_below m (λ k. f (n + k))) (f (n + m))))

-- what a unit adds to the sum over the units of stratum g
abbrev pub term_of : List Member → ℕ → (ℕ → Fraction) → ℕ → Fraction
term_of members g f i = times (whole (cond (nat_eq (get_or members i nobody).stratum g) 1 0)) (f i)

module _ (members : List Member) (g : ℕ) (f : ℕ → Fraction) (i : ℕ) where
  counts_one : (get_or members i nobody).stratum ≡ g → Same (term_of members g f i) (f i)
  counts_one e = subst (λ (b : Bool). Same (times (whole (cond b 1 0)) (f i)) (f i)) (sym (eq-eqb (get_or members i nobody).stratum g e)) (one-times (f i))

  counts_none : (get_or members i nobody).stratum ≢ g → Same (term_of members g f i) (whole 0)
  counts_none ne = subst (λ (b : Bool). Same (times (whole (cond b 1 0)) (f i)) (whole 0)) (sym (ne_eqb (get_or members i nobody).stratum g ne)) (zero-times (f i))

module _ (count : ℕ) where
  module _ (h0 : ℕ) (layer : Layer) (layers : List Layer) where
    abbrev size : ℕ
    size = length layer.request.shape

    abbrev rest : List Member
    rest = members_from count (suc h0) layers

    pub all_units : length (members_from count h0 (layer ∷ layers)) ≡ length layer.request.shape + length (members_from count (suc h0) layers)
    all_units = omega (arith, length-append (own count h0 layer) rest, length-own count h0 layer)

    pub own_unit : (i : ℕ) → i < length layer.request.shape → get_or (members_from count h0 (layer ∷ layers)) i nobody ≡ member_of count h0 layer i
    own_unit i l = get_or_append_left (own count h0 layer) rest nobody i (omega (arith, l, length-own count h0 layer)) ∙ own_at count h0 layer i l

    own_stratum : (i : ℕ) → i < length layer.request.shape → (get_or (members_from count h0 (layer ∷ layers)) i nobody).stratum ≡ h0
    own_stratum i l = ap (λ (m : Member). m.stratum) (own_unit i l)

    pub later_unit : (k : ℕ) → get_or (members_from count h0 (layer ∷ layers)) (length layer.request.shape + k) nobody ≡ get_or rest k nobody
    later_unit k =
        let back : length layer.request.shape + k - length layer.request.shape ≡ k = omega arith in
        get_or-append_right (own count h0 layer) rest (length layer.request.shape) (length layer.request.shape + k) nobody (length-own count h0 layer) (omega arith)
        ∙ ap (λ i. get_or rest i nobody) back

    later_stratum : (k : ℕ) → k < length (members_from count (suc h0) layers) → suc h0 ≤ (get_or rest k nobody).stratum
    later_stratum k l =
        let r = unit_of count (suc h0) layers k l in
        let is : (get_or rest k nobody).stratum ≡ suc h0 + r.h = ap (λ (m : Member). m.stratum) (unit_is count (suc h0) layers k r) in
        omega (arith, is)

    pub halves : (f : ℕ → Fraction) → Same (sum_below (length (members_from count h0 (layer ∷ layers))) f) (plus (sum_below size f) (sum_below (length rest) (λ k. f (size + k))))
    halves f =
        subst (λ n. Same (sum_below n f) (plus (sum_below size f) (sum_below (length rest) (λ k. f (size + k))))) (sym all_units) (sum_split size (length rest) f)

  pub run : (h0 : ℕ) (layers : List Layer) (h : ℕ) (f : ℕ → Fraction) → h < length layers
      → Same (sum_below (length (members_from count h0 layers)) (term_of (members_from count h0 layers) (h0 + h) f))
      (sum_below (length (get_or layers h no_layer).request.shape) (λ j. f (offset layers h + j)))
  run h0 [] h f l = absurd (omega (arith, l))
  run h0 (layer ∷ layers) zero f l =
      let all : List Member = members_from count h0 (layer ∷ layers) in
      let n : ℕ = length layer.request.shape in
      let here : Same (sum_below n (term_of all (h0 + 0) f)) (sum_below n (λ j. f (0 + j))) =
      sum_same n (term_of all (h0 + 0) f) (λ j. f (0 + j))
      (λ i b. (let e : i ≡ 0 + i = omega arith in
      subst (λ k. Same (term_of all (h0 + 0) f i) (f k)) e (counts_one all (h0 + 0) f i (own_stratum h0 layer layers i b ∙ omega arith)))) in
      let none : Same (sum_below (length (rest h0 layer layers)) (λ k. term_of all (h0 + 0) f (n + k))) (whole 0) =
      sum-zero (length (rest h0 layer layers)) (λ k. term_of all (h0 + 0) f (n + k))
      (λ k b. counts_none all (h0 + 0) f (n + k)
      (λ e. (let s : (get_or all (n + k) nobody).stratum ≡ (get_or (rest h0 layer layers) k nobody).stratum = ap (λ (m : Member). m.stratum) (later_unit h0 layer layers k) in
      let past = later_stratum h0 layer layers k b in
      absurd (omega (arith, e, s, past))))) in
      same_trans (halves h0 layer layers (term_of all (h0 + 0) f))
      (same_trans (plus_same here none) (plus-zero (sum_below n (λ j. f (0 + j)))))
  run h0 (layer ∷ layers) (suc h) f l =
      let all : List Member = members_from count h0 (layer ∷ layers) in
      let n : ℕ = length layer.request.shape in
      let others : List Member = rest h0 layer layers in
      let none : Same (sum_below n (term_of all (h0 + suc h) f)) (whole 0) =
      sum-zero n (term_of all (h0 + suc h) f)
      (λ i b. counts_none all (h0 + suc h) f i (λ e. absurd (omega (arith, e, own_stratum h0 layer layers i b)))) in
      let next : h0 + suc h ≡ suc h0 + h = omega arith in
      let there : Same (sum_below (length others) (λ k. term_of all (h0 + suc h) f (n + k))) (sum_below (length others) (term_of others (suc h0 + h) (λ i. f (n + i)))) =
      sum_same (length others) (λ k. term_of all (h0 + suc h) f (n + k)) (term_of others (suc h0 + h) (λ i. f (n + i)))
      (λ k b. subst (λ (m : Member). Same (times (whole (cond (nat_eq m.stratum (h0 + suc h)) 1 0)) (f (n + k))) (term_of others (suc h0 + h) (λ i. f (n + i)) k)) (sym (later_unit h0 layer layers k))
      (subst (λ g. Same (times (whole (cond (nat_eq (get_or others k nobody).stratum g) 1 0)) (f (n + k))) (term_of others (suc h0 + h) (λ i. f (n + i)) k)) (sym next)
      (same_refl (term_of others (suc h0 + h) (λ i. f (n + i)) k)))) in
      let own_run : Same (sum_below (length (get_or layers h no_layer).request.shape) (λ j. f (n + (offset layers h + j)))) (sum_below (length (get_or layers h no_layer).request.shape) (λ j. f (n + offset layers h + j))) =
      sum_same (length (get_or layers h no_layer).request.shape) (λ j. f (n + (offset layers h + j))) (λ j. f (n + offset layers h + j))
      (λ j b. (let e : n + (offset layers h + j) ≡ n + offset layers h + j = omega arith in
      subst (λ i. Same (f (n + (offset layers h + j))) (f i)) e (same_refl (f (n + (offset layers h + j)))))) in
      same_trans (halves h0 layer layers (term_of all (h0 + suc h) f))
      (same_trans (plus_same none (same_trans there (same_trans (run (suc h0) layers h (λ i. f (n + i)) (le_of_suc-le-suc l)) own_run)))
      (zero-plus (sum_below (length (get_or layers h no_layer).request.shape) (λ j. f (n + offset layers h + j)))))
