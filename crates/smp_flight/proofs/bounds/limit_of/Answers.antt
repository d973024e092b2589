use Rattle.std.proofs.Common.{◌≡◌, ℕ, ◌+◌, ◌*◌, ◌<◌, ◌≤◌, ◌≤ℤ◌, suc, pos, arith, ap, ap₂, sym, ◌∙◌, subst, inl, inr}
use Rattle.std.proofs.lemmas.Bool.{cases_eq}
use Rattle.smp_kernel.specs.{Minors.{minor_limit}, Vectors.{entry}}
use Rattle.smp_flight.specs.{Kept.Narrow.{row_most}, States.{column}}
use Rattle.smp_flight.proofs.RowBounds.{limit_within, next_limit}
use Rattle.smp_flight.proofs.bounds.limit_of.Goals.{then-row-lt2, else-row-lt2}
use Rattle.smp_flight.proofs.bounds.limit_of.Goals as goal

pub loop-row-preserved : goal.loop-row-preserved
loop-row-preserved c =
    let units = c.args.shape.now in
    let i = c.loop-row.invariant.so_far in
    let most = c.in_ok-most.ensures.some in
    let few : c.loop-row.row < 2 → c.if-row-lt2.places ≡ 1 = λ l. elim c.if-row-lt2.branch [ then-row-lt2 w ↦ w.places-is | else-row-lt2 w ↦ absurd (omega (arith, l, w.if-row-lt2.false)) ] in
    let many : 2 ≤ c.loop-row.row → c.if-row-lt2.places ≡ c.loop-row.row + 1 = λ l. elim c.if-row-lt2.branch [ then-row-lt2 w ↦ absurd (omega (arith, l, w.if-row-lt2.true)) | else-row-lt2 w ↦ w.places-is ] in
    let plus : suc c.loop-row.row ≡ c.loop-row.row + 1 = omega arith in
    record {
      so_far = record {
        is = ap₂ (λ x y. x * y * c.if-row-lt2.places) i.is most.is ∙ sym (next_limit (row_most units) c.loop-row.row c.if-row-lt2.places few many) ∙ ap (minor_limit (row_most units)) plus;
        signs = λ r l k m. elim (cases_eq r c.loop-row.row) [
          | inl e ↦ subst (λ (x : ℕ). pos 0 ≤ℤ entry (column c.args.shape.now k) x) (sym e) (most.signs k m)
          | inr ne ↦ i.signs r (omega (arith, l, ne)) k m
        ];
        small = omega arith;
      };
    }

pub returns-then-limit-gt-MOST_ENTRY-clause-none : goal.returns-then-limit-gt-MOST_ENTRY-clause-none
returns-then-limit-gt-MOST_ENTRY-clause-none c = λ n.
    (let units = c.args.shape.now in
    let few : c.loop-row.row < 2 → c.if-row-lt2.places ≡ 1 = λ l. elim c.if-row-lt2.branch [ then-row-lt2 w ↦ w.places-is | else-row-lt2 w ↦ absurd (omega (arith, l, w.if-row-lt2.false)) ] in
    let many : 2 ≤ c.loop-row.row → c.if-row-lt2.places ≡ c.loop-row.row + 1 = λ l. elim c.if-row-lt2.branch [ then-row-lt2 w ↦ absurd (omega (arith, l, w.if-row-lt2.true)) | else-row-lt2 w ↦ w.places-is ] in
    let is = ap₂ (λ x y. x * y * c.if-row-lt2.places) c.loop-row.invariant.so_far.is c.in_ok-most.ensures.some.is ∙ sym (next_limit (row_most units) c.loop-row.row c.if-row-lt2.places few many) in
    let within = limit_within units c.requires.are n (suc c.loop-row.row) (omega (arith, c.loop-row-test.true, c.requires.rows)) in
    omega (arith, is, within, c.if-limit-gt-MOST_ENTRY.true))
