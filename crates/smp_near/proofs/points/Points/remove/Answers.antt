use Rattle.std.proofs.Common.{◌≡◌, ◌<◌, ◌∙◌, ℕ, ℤ, Bool, List, true, false, length, get_or, set, sym, ap, subst, arith, rules}
use Rattle.std.proofs.lemmas.List.{get_or_read}
use Rattle.smp_near.specs.{Nearest.{LivingPoints, is_living}, Kept.Trees.{lives_at, points_of}}
use Rattle.smp_near.proofs.Places.{unit_in, place_in, place_alive, place_alone, left_living}
use Rattle.smp_near.proofs.points.Points.remove.Goals as goal

pub take_out-requires : goal.take_out-requires
take_out-requires g c =
    let living : is_living (points_of c.self.inside.tree) c.args.i ≡ true = subst (λ (p : LivingPoints). is_living p c.args.i ≡ true) (sym c.self.view_is) c.requires in
    let unit = unit_in g.row.K c.self.inside.tree c.self.inside.places.items c.self.invariant c.args.i living in
    let within : c.args.i < length c.self.inside.places.items = omega arith in
    let at : c.index.result.now ≡ get_or c.self.inside.places.items c.args.i 0 = get_or_read c.self.inside.places.items c.args.i c.index.result.now within c.index.ensures 0 in
    let inside : c.index.result.now < length c.self.inside.tree.coords.items = rw at (place_in g.row.K c.self.inside.tree c.self.inside.places.items c.self.invariant c.args.i living) in
    let alive : lives_at c.self.inside.tree.living.items c.self.inside.tree.order.items c.index.result.now ≡ true = rw at (place_alive g.row.K c.self.inside.tree c.self.inside.places.items c.self.invariant c.args.i living) in
    let alone : (k : ℕ) → k < length c.self.inside.tree.order.items → get_or c.self.inside.tree.order.items k 0 ≡ get_or c.self.inside.tree.order.items c.index.result.now 0 → k ≡ c.index.result.now = rw at (place_alone g.row.K c.self.inside.tree c.self.inside.places.items c.self.invariant c.args.i living) in
    search (rules, inside, alive, alone)

pub returns : goal.returns
returns g c =
    let living : is_living (points_of c.self.inside.tree) c.args.i ≡ true = subst (λ (p : LivingPoints). is_living p c.args.i ≡ true) (sym c.self.view_is) c.requires in
    let unit = unit_in g.row.K c.self.inside.tree c.self.inside.places.items c.self.invariant c.args.i living in
    let within : c.args.i < length c.self.inside.places.items = omega arith in
    let at : c.index.result.now ≡ get_or c.self.inside.places.items c.args.i 0 = get_or_read c.self.inside.places.items c.args.i c.index.result.now within c.index.ensures 0 in
    let left : c.take_out.new.tree.living.items ≡ set c.self.inside.tree.living.items c.args.i false =
    c.take_out.ensures.living ∙ ap (λ (place : ℕ). set c.self.inside.tree.living.items (get_or c.self.inside.tree.order.items place 0) false) at ∙ left_living g.row.K c.self.inside.tree c.self.inside.places.items c.self.invariant c.args.i living in
    let coords : c.take_out.new.tree.coords.items ≡ c.args.self.now.coords = c.take_out.ensures.coords ∙ ap (λ (p : LivingPoints). p.coords) c.self.view_is in
    let flags : c.take_out.new.tree.living.items ≡ set c.args.self.now.living c.args.i false = left ∙ ap (λ (p : LivingPoints). set p.living c.args.i false) c.self.view_is in
    let made : List (List ℤ) → List Bool → LivingPoints = λ xs ys. record { coords = xs; living = ys } in
    ap (λ (xs : List (List ℤ)). made xs c.take_out.new.tree.living.items) coords ∙ ap (λ (ys : List Bool). made c.args.self.now.coords ys) flags
