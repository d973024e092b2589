-- The offers of a request are in range.
use Rattle.std.proofs.{Common.{◌≡◌, ℕ, ◌*◌, ◌<◌, ◌≤◌, length, arith, refl, ap, inl, inr}, lemmas.Bool.{cases_eq, cases_lt, eq-eqb, ne_eqb}}
use Rattle.std.specs.List.{sum}
use Rattle.std.proofs.lemmas.List.{get_or_past}
use Rattle.smp_prob.specs.{declared.requests.Request.{Request}, Requests.{IsRequest}, Shares.{draws_of}}
use Rattle.smp_brewer.specs.{declared.offers.Offers.{Offers}, Brewer.{IsBrewing, size_of, total}, Method.{started}}

module _ (request : Request) (is : IsRequest request) (whole : sum request.shape ≡ request.total) where
  abbrev asked : Offers
  asked = record { sizes = request.shape; draws = draws_of request; refused = 0 }

  -- where a unit is to be drawn, one is free
  some_free : 1 ≤ draws_of request → 1 ≤ length request.free
  some_free some = elim (cases_eq (length request.free) 0) [
    | inl none ↦ (let no_draw : draws_of request ≡ 0 = rw (eq-eqb (length request.free) 0 none) refl in absurd (omega (arith, some, no_draw)))
    | inr free ↦ omega (arith, free)
  ]

  light : 1 ≤ draws_of request → (unit : ℕ) → draws_of request * size_of asked unit < total asked
  light some unit =
      let free = some_free some in
      let draws : draws_of request ≡ request.r = rw (ne_eqb (length request.free) 0 (omega (arith, free))) refl in
      let scaled : draws_of request * size_of asked unit ≡ request.r * size_of asked unit = ap (λ (n : ℕ). n * size_of asked unit) draws in
      elim (cases_lt unit (length request.shape)) [
        | inl here ↦ omega (arith, is.below_one unit here, whole, scaled)
        | inr past ↦
            (let none : request.r * size_of asked unit ≡ request.r * 0 = ap (λ (z : ℕ). request.r * z) (get_or_past request.shape unit 0 past) in
            omega (arith, none, scaled, is.below_one 0 (omega (arith, free, is.paired)), whole))
      ]

  pub first_offers : IsBrewing (length request.shape) (started request)
  first_offers = record { count = refl; light = light; narrow = omega (arith, is.narrow, whole); again = omega arith }
