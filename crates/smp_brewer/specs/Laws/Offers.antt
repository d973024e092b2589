-- The offers of the open units, one after the other.
use Rattle.std.proofs.Common.{◌≡◌, ◌≢◌, ℕ, suc, ◌+◌, ◌<◌, ◌≤◌, cond, not, nat_eq, List, [], ◌∷◌, length}
use Rattle.std.proofs.Common.{map, get_or, arith, refl, ap, ◌∙◌, inl, inr}
use Rattle.std.specs.List.{sum, filter, range_with_len}
use Rattle.std.proofs.lemmas.Bool.{cases_Bool, eqb-true, eqb-false}
use Rattle.smp_split.specs.Trees.{Part, EachPart, weight_sum}
use Rattle.smp_brewer.specs.declared.offers.Offers.{Offers}
use Rattle.smp_brewer.specs.Brewer.{Brewing, offered, total, size_of, is_taken, offer_parts}
use Rattle.smp_brewer.specs.Laws.Sums.{sum-cons}

module _ (o : Offers) where
  -- the offers from a unit on, of sizes
  abbrev pub offers_from : ℕ → List ℕ → List (Part Brewing)
  offers_from unit [] = []
  offers_from unit (z ∷ zs) = cond (nat_eq z 0) (offers_from (unit + 1) zs)
      (record { weight = z; state = offered o unit } ∷ offers_from (unit + 1) zs)

  -- these are the sizes of the units from one on
  abbrev pub SizesFrom : ℕ → List ℕ → Type 0
  SizesFrom unit zs = (n : ℕ) → get_or zs n 0 ≡ size_of o (unit + n)

  pub first_size : (unit z : ℕ) (zs : List ℕ) → SizesFrom unit (z ∷ zs) → z ≡ size_of o unit
  first_size unit z zs same = let here : unit + 0 ≡ unit = omega arith in same 0 ∙ ap (size_of o) here

  pub other_sizes : (unit z : ℕ) (zs : List ℕ) → SizesFrom unit (z ∷ zs) → SizesFrom (unit + 1) zs
  other_sizes unit z zs same n = let next : unit + suc n ≡ unit + 1 + n = omega arith in same (suc n) ∙ ap (size_of o) next

  pub all_sizes : SizesFrom 0 o.sizes
  all_sizes n = let sum : n ≡ 0 + n = omega arith in ap (size_of o) sum

  from_are : (unit : ℕ) (zs : List ℕ) → SizesFrom unit zs
      → map (λ k. record { weight = size_of o k; state = offered o k })
      (filter (λ k. not (is_taken o k)) (range_with_len unit (length zs))) ≡ offers_from unit zs
  from_are unit [] same = refl
  from_are unit (z ∷ zs) same =
      let rest = from_are (unit + 1) zs (other_sizes unit z zs same) in
      elim (cases_Bool (nat_eq z 0)) [
        | inl e ↦ rw (← first_size unit z zs same, e) rest
        | inr e ↦ rw (← first_size unit z zs same, e, ← first_size unit z zs same)
            (ap (λ ps. record { weight = z; state = offered o unit } ∷ ps) rest)
      ]

  pub offers_are : offer_parts o ≡ offers_from 0 o.sizes
  offers_are = from_are 0 o.sizes all_sizes

  from_sum : (unit : ℕ) (zs : List ℕ) → weight_sum (offers_from unit zs) ≡ sum zs
  from_sum unit [] = refl
  from_sum unit (z ∷ zs) =
      elim (cases_Bool (nat_eq z 0)) [
        | inl e ↦ rw e (omega (arith, eqb-true z 0 e, from_sum (unit + 1) zs, sum-cons z zs))
        | inr e ↦ rw e (omega (arith, from_sum (unit + 1) zs, sum-cons z zs))
      ]

  pub weight_sum-offers : weight_sum (offer_parts o) ≡ total o
  weight_sum-offers = rw offers_are (from_sum 0 o.sizes)

  -- what holds of each open unit's offer
  module _ (P : Part Brewing → Type 0) (holds : (unit : ℕ) → unit < length o.sizes → 1 ≤ size_of o unit
      → P (record { weight = size_of o unit; state = offered o unit })) where
    each_from : (unit : ℕ) (zs : List ℕ) → SizesFrom unit zs → unit + length zs ≡ length o.sizes
        → EachPart P (offers_from unit zs)
    each_from unit [] same end = tt
    each_from unit (z ∷ zs) same end =
        let rest = each_from (unit + 1) zs (other_sizes unit z zs same) (omega (arith, end)) in
        elim (cases_Bool (nat_eq z 0)) [
          | inl e ↦ rw e rest
          | inr e ↦
              (let ne : z ≢ 0 = eqb-false z 0 e in
              let z_is : z ≡ size_of o unit = first_size unit z zs same in
              rw e (rw z_is (holds unit (omega (arith, end)) (omega arith)), rest))
        ]

    pub each_offer : EachPart P (offer_parts o)
    each_offer = rw offers_are (each_from 0 o.sizes all_sizes (omega arith))
