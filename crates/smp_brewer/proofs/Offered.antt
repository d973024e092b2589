-- The bound of a draw that makes an offer, and the unit that it offers.
use Rattle.std.proofs.Common.{◌≡◌, ℕ, suc, ◌+◌, ◌-◌, ◌<◌, ◌≤◌, false, nat_eq, nat_lt, List, [], ◌∷◌, arith, sym, ap, ◌∙◌, inl, inr}
use Rattle.std.specs.List.{sum}
use Rattle.std.proofs.lemmas.Bool.{cases_Bool, eqb-true, ltb-false, le-ltb}
use Rattle.smp_split.specs.Trees.{weight_sum, picked}
use Rattle.smp_brewer.specs.{declared.offers.Offers.{Offers}, Kept.Sizes.{passing}, Laws.Sums.{sum-cons}}
use Rattle.smp_brewer.specs.Brewer.{Brewing, offering, offered, total, offer_parts, is_spent, brewing_tree}
use Rattle.smp_brewer.specs.Laws.Offers.{offers_from, offers_are, weight_sum-offers}

picked-offers : (default : Brewing) (o : Offers) (unit : ℕ) (zs : List ℕ) (draw : ℕ) → draw < sum zs → picked default (offers_from o unit zs) draw ≡ offered o (unit + passing zs draw)
picked-offers default o unit [] draw h = absurd (omega (arith, h))
picked-offers default o unit (z ∷ zs) draw h =
    let all : sum (z ∷ zs) ≡ z + sum zs = sum-cons z zs in
    elim (cases_Bool (nat_eq z 0)) [
      | inl e ↦
          (let none : z ≡ 0 = eqb-true z 0 e in
          let same : draw - 0 ≡ draw = omega arith in
          let next : unit + 1 + passing zs draw ≡ unit + suc (passing zs draw) = omega arith in
          rw e (rw none (rw (le-ltb draw 0 (omega arith)) (rw same (picked-offers default o (unit + 1) zs draw (omega (arith, h, none, all)) ∙ ap (λ x. offered o x) next)))))
      | inr e ↦ rw e (elim (cases_Bool (nat_lt draw z)) [
        | inl f ↦ (let here : unit ≡ unit + 0 = omega arith in rw f (ap (λ x. offered o x) here))
        | inr f ↦
            (let l : z ≤ draw = ltb-false draw z f in
            let next : unit + 1 + passing zs (draw - z) ≡ unit + suc (passing zs (draw - z)) = omega arith in
            rw f (picked-offers default o (unit + 1) zs (draw - z) (omega (arith, h, l, all)) ∙ ap (λ x. offered o x) next))
      ])
    ]

module _ (o : Offers) where
  -- a draw offers the first unit at which the cumulated sizes pass it
  pub picked_offer : (default : Brewing) (draw : ℕ) → draw < weight_sum (offer_parts o) → offered o (passing o.sizes draw) ≡ picked default (offer_parts o) draw
  picked_offer default draw within =
      let here : 0 + passing o.sizes draw ≡ passing o.sizes draw = omega arith in
      sym (rw (offers_are o) (picked-offers default o 0 o.sizes draw (omega (arith, within, weight_sum-offers o)) ∙ ap (λ x. offered o x) here))

  pub offer_bound : (units : ℕ) → is_spent units o ≡ false → weight_sum ((brewing_tree units).parts (offering o)) ≡ total o
  offer_bound units left = rw left (weight_sum-offers o)
