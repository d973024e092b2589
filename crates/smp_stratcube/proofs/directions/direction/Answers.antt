use Rattle.std.proofs.Common.{arith, ◌≡◌, ◌≤◌, ◌^◌, take, refl, sym, ◌∙◌, subst}
use Rattle.smp_kernel.specs.Vectors.{IsZero}
use Rattle.smp_moves.specs.Steps.{scale_of, scaled}
use Rattle.smp_moves.proofs.Computed.{line_found}
use Rattle.smp_stratcube.specs.Units.{share}
use Rattle.smp_stratcube.proofs.{Directed.{held_none, held_some, products_are}, directions.direction.Goals.{After-products-products}}
use Rattle.smp_stratcube.proofs.directions.direction.Goals as goal

-- the row of the products, in the places of the circuit
row : (c : After-products-products) →
    (take c.args.factors.now.number c.products-products.result
    ≡ scaled (share c.args.units.now) (scale_of (share c.args.units.now) (take c.args.factors.now.number c.args.front.now.units) (take c.args.factors.now.number c.args.factors.now.w)) (take c.args.factors.now.number c.args.front.now.units) (take c.args.factors.now.number c.args.factors.now.w))
    × (scale_of (share c.args.units.now) (take c.args.factors.now.number c.args.front.now.units) (take c.args.factors.now.number c.args.factors.now.w) ≤ 2 ^ 80)
row c =
    let n = c.args.factors.now.number in
    let long : n ≤ 17 = omega (arith, c.requires.inside.short, c.requires.fewer) in
    let fits = held_some (scale_of (share c.args.units.now) (take n c.args.front.now.units) (take n c.args.factors.now.w)) c.in-Some.scale (sym c.in-Some.is ∙ c.parts_of-scale.ensures.scale) in (
      subst (λ m. take n c.products-products.result ≡ scaled (share c.args.units.now) m (take n c.args.front.now.units) (take n c.args.factors.now.w)) fits.0
          (products_are c.args.units.now c.in-Some.scale c.args.front.now.units c.args.factors.now.w c.products-products.result c.parts_of-scale.result.0 n (omega (arith, long)) (omega (arith, long)) (omega (arith, long)) c.parts_of-scale.ensures.are c.products-products.ensures.are),
      fits.1,
    )

pub returns-in-None : goal.returns-in-None
returns-in-None c =
    let n = c.args.factors.now.number in
    let past = held_none (scale_of (share c.args.units.now) (take n c.args.front.now.units) (take n c.args.factors.now.w)) (sym c.in-None.is ∙ c.parts_of-scale.ensures.scale) in
    rw past refl

pub line_through-requires-clause-some : goal.line_through-requires-clause-some
line_through-requires-clause-some c zero =
    c.requires.some (subst IsZero (row (goal.at.line_through-requires-clause-some c).After-products-products).0 zero)

pub returns-in-Some : goal.returns-in-Some
returns-in-Some c =
    let n = c.args.factors.now.number in
    let is = row (goal.at.returns-in-Some c).After-products-products in
    line_found (share c.args.units.now) (take n c.args.front.now.units) (take n c.args.factors.now.w) (take n c.products-products.result) is.0 is.1 c.line_through.result c.line_through.ensures
