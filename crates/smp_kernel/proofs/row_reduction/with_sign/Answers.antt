use Rattle.std.proofs.Common.{SFits, ◌≡◌, ◌≤◌, ◌<◌, ◌<ℤ◌, ◌^◌, ◌-ℤ◌, arith, rules, get_or, pos, neg_ℤ, ℤ, ℕ, length-set}
use Rattle.std.proofs.{lemmas.Int.{to_z-of_z, ints}, lemmas.List.Elements.{All-from_get_or}}
use Rattle.std.specs.Int.RustNames.{unsigned_abs}
use mir.Syntax.{w64, w128}
use Rattle.smp_kernel.proofs.{Lists.{each_more}, Primitive.{abs_positive}, Signs.{other_sign, same_sign, turned_past}}
use Rattle.smp_kernel.proofs.row_reduction.with_sign.Goals as goal

pub returns-then-factor-gt0-clause-is : goal.returns-then-factor-gt0-clause-is
returns-then-factor-gt0-clause-is g c =
    let f : SFits w128 c.args.factor = c.ranges.factor in
    let above = simp to_z-of_z at c.if-factor-gt0.true in
    let positive : pos 0 <ℤ c.args.factor = omega (arith, ints, above) in
    same_sign c.args.factor c.args.row.now c.requires.primitive positive

pub loop-j-preserved : goal.loop-j-preserved
loop-j-preserved g c =
    let fa : SFits w64 (get_or c.args.row.now c.loop-j.j (pos 0)) = search rules in
    let small : unsigned_abs (get_or c.args.row.now c.loop-j.j (pos 0)) ≤ 2 ^ 44 = search rules in
    let fn : SFits w64 (pos 0 -ℤ get_or c.args.row.now c.loop-j.j (pos 0)) = omega (arith, ints, small) in
    let is : pos 0 -ℤ get_or c.args.row.now c.loop-j.j (pos 0) ≡ neg_ℤ (get_or c.args.row.now c.loop-j.j (pos 0)) = omega (arith, ints) in
    let within : unsigned_abs (pos 0 -ℤ get_or c.args.row.now c.loop-j.j (pos 0)) ≤ 2 ^ 44 = omega (arith, ints, small) in
    simp to_z-of_z (record {
      size = omega (arith, length-set {A = ℤ});
      each = each_more (λ (i : ℕ) (x : ℤ). x ≡ neg_ℤ (get_or c.args.row.now i (pos 0))) c.loop-j.turned (pos 0) c.loop-j.j (pos 0 -ℤ get_or c.args.row.now c.loop-j.j (pos 0)) (omega arith) c.loop-j.invariant.each is;
      bounded = each_more (λ (i : ℕ) (x : ℤ). unsigned_abs x ≤ 2 ^ 44) c.loop-j.turned (pos 0) c.loop-j.j (pos 0 -ℤ get_or c.args.row.now c.loop-j.j (pos 0)) (omega arith) c.loop-j.invariant.bounded within;
    })

pub returns-clause-is : goal.returns-clause-is
returns-clause-is g c =
    let f : SFits w128 c.args.factor = c.ranges.factor in
    let some = abs_positive c.args.factor c.requires.factor in
    let below = simp to_z-of_z at c.if-factor-gt0.false in
    let negative : c.args.factor <ℤ pos 0 = omega (arith, ints, some, below) in
    other_sign c.args.factor c.args.row.now c.requires.primitive c.loop-j.turned negative
    (turned_past g.row.Q c.args.row.now c.loop-j.turned c.told-row c.loop-j.invariant.size (λ i l. c.loop-j.invariant.each i (omega arith)))

pub returns-clause-within : goal.returns-clause-within
returns-clause-within g c = All-from_get_or (λ x. unsigned_abs x ≤ 2 ^ 44) c.loop-j.turned (pos 0) (λ i l. c.loop-j.invariant.bounded i (omega arith))
