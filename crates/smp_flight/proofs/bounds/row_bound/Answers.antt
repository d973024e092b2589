use Rattle.std.proofs.Common.{SFits, to_z-of_z, rules, ◌≡◌, ◌<◌, w32, ℤ, max, fold, pos, length, get_or, get_or-take, arith, ap, sym, ◌∙◌, inl, inr}
use Rattle.std.specs.Int.RustNames.{unsigned_abs}
use Rattle.std.proofs.{lemmas.Bool.{cases_eq}, lemmas.Int.{ints}, lemmas.List.{take_all}, lemmas.List.Sums.{fold_more}}
use Rattle.smp_kernel.specs.Vectors.{entry}
use Rattle.smp_prob.specs.Shares.{Shares}
use Rattle.smp_flight.specs.{Kept.Narrow.{row_numbers}, States.{column, row_count}}
use Rattle.smp_flight.proofs.RowBounds.{none_below, number_at, row_long}
use Rattle.smp_flight.proofs.bounds.row_bound.Goals as goal

pub loop-unit-preserved : goal.loop-unit-preserved
loop-unit-preserved c =
    let units = c.args.shape.now in
    let number : ℤ = get_or c.column.result c.args.row (pos 0) in
    let fits : SFits w32 (get_or c.column.result c.args.row (pos 0)) = search rules in
    let sign = rw (to_z-of_z fits) at c.if-number-lt0.false in
    let size : c.unsigned_abs.result ≡ unsigned_abs (get_or c.column.result c.args.row (pos 0)) = rw (to_z-of_z fits) at c.unsigned_abs.ensures.value in
    let here : entry (column c.args.shape.now c.loop-unit.unit) c.args.row ≡ get_or c.column.result c.args.row (pos 0) =
    ap (λ xs. entry xs c.args.row) (sym c.column.ensures.is) ∙ get_or-take (row_count c.args.shape.now) c.column.result c.args.row (pos 0) c.requires.row in
    let same : length c.requested.result.now.numer ≡ length c.args.shape.now.requested.numer = ap (λ (s : Shares). length s.numer) c.requested.ensures in
    let within : c.loop-unit.unit < length c.args.shape.now.sizes = omega (arith, c.loop-unit-test.true, c.len-unit-end.ensures, same, c.requires.are.requested.count) in
    let at = number_at units c.requires.are c.args.row c.loop-unit.unit within in
    let more = fold_more max 1 (row_numbers units c.args.row) c.loop-unit.unit 0 (omega (arith, within, row_long units c.requires.are c.args.row)) in
    record {
      small = omega (arith, c.max-most.type_inv);
      most = omega (arith, c.max-most.ensures, size, c.loop-unit.invariant.most, more, at, ap unsigned_abs here);
      signs = λ k l. elim (cases_eq k c.loop-unit.unit) [
        | inl e ↦ rw (e, here) (omega (arith, ints, sign))
        | inr ne ↦ c.loop-unit.invariant.signs k (omega (arith, l, ne))
      ];
    }

pub returns-clause-some : goal.returns-clause-some
returns-clause-some c =
    let units = c.args.shape.now in
    let same : length c.requested.result.now.numer ≡ length c.args.shape.now.requested.numer = ap (λ (s : Shares). length s.numer) c.requested.ensures in
    let done : c.loop-unit.unit ≡ length c.args.shape.now.sizes = omega (arith, c.loop-unit-test.false, c.len-unit-end.ensures, same, c.requires.are.requested.count) in
    record {
      is = c.loop-unit.invariant.most ∙ ap (fold max 1) (take_all c.loop-unit.unit (row_numbers units c.args.row) (omega (arith, done, row_long units c.requires.are c.args.row)));
      signs = λ k l. c.loop-unit.invariant.signs k (omega (arith, l, done));
      small = c.loop-unit.invariant.small;
    }

pub returns-then-number-lt0-clause-none : goal.returns-then-number-lt0-clause-none
returns-then-number-lt0-clause-none c =
    let same : length c.requested.result.now.numer ≡ length c.args.shape.now.requested.numer = ap (λ (s : Shares). length s.numer) c.requested.ensures in
    let fits : SFits w32 (get_or c.column.result c.args.row (pos 0)) = search rules in
    let sign = rw (to_z-of_z fits) at c.if-number-lt0.true in
    let here : entry (column c.args.shape.now c.loop-unit.unit) c.args.row ≡ get_or c.column.result c.args.row (pos 0) =
    ap (λ xs. entry xs c.args.row) (sym c.column.ensures.is) ∙ get_or-take (row_count c.args.shape.now) c.column.result c.args.row (pos 0) c.requires.row in
    λ n.
    (let h = none_below c.args.shape.now c.requires.are n c.loop-unit.unit c.args.row (omega (arith, c.loop-unit-test.true, c.len-unit-end.ensures, same, c.requires.are.requested.count)) _ here in
    omega (arith, ints, h, sign))
