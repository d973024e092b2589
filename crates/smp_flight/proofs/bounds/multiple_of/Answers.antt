use Rattle.std.proofs.Common.{SFits, to_z-of_z, rules, w32, ◌≡◌, ◌<◌, ℕ, length, arith, ap, sym, ◌∙◌, subst, inl, inr}
use Rattle.std.proofs.{lemmas.Bool.{cases_eq}, lemmas.Nat.Gcd.{dvd_refl, dvd_trans}}
use Prim.Native.Nat.{◌∣◌}
use Rattle.smp_prob.specs.Shares.{Shares}
use Rattle.smp_flight.specs.States.{size}
use Rattle.smp_flight.proofs.RowBounds.{common_fits}
use Rattle.smp_flight.proofs.bounds.multiple_of.Goals as goal

pub loop-unit-init : goal.loop-unit-init
loop-unit-init c =
    let same : c.denominator-multiple.result ≡ c.args.shape.now.requested.den = c.denominator-multiple.ensures ∙ ap (λ (s : Shares). s.den) c.requested.ensures in
    let P : ℕ → Type 0 = λ x. c.args.shape.now.requested.den ∣ x in
    let some = c.requires.requested.positive in
    record {
      so_far = record {
        common = record { some = omega (arith, some, same); of_denominator = subst P (sym same) (dvd_refl c.args.shape.now.requested.den); of_sizes = λ k l. absurd (omega (arith, l)) };
        divides = λ other common. (let Q : ℕ → Type 0 = λ x. x ∣ other in subst Q (sym same) common.of_denominator);
      };
      small = omega (arith, same, c.requires.requested.narrow);
    }

pub loop-unit-preserved : goal.loop-unit-preserved
loop-unit-preserved c =
    let s = c.loop-unit.invariant.so_far in
    let least = c.in_ok-multiple.ensures.least in
    let l = least.common in
    let fits : SFits w32 c.size.result = search rules in
    let here : size c.args.shape.now c.loop-unit.unit ∣ c.in_ok-multiple.multiple = rw (to_z-of_z fits, c.size.ensures) at l.second in
    record {
      so_far = record {
        common = record {
          some = l.positive;
          of_denominator = dvd_trans c.args.shape.now.requested.den s.common.of_denominator l.first;
          of_sizes = λ k m. elim (cases_eq k c.loop-unit.unit) [
            | inl e ↦ subst (λ (x : ℕ). size c.args.shape.now x ∣ c.in_ok-multiple.multiple) (sym e) here
            | inr ne ↦ dvd_trans (size c.args.shape.now k) (s.common.of_sizes k (omega (arith, m, ne))) l.first
          ];
        };
        divides = λ other common. least.least other (record {
          positive = common.some;
          first = s.divides other (record { some = common.some; of_denominator = common.of_denominator; of_sizes = λ k m. common.of_sizes k (omega (arith, m)) });
          second = rw (to_z-of_z fits, c.size.ensures) (common.of_sizes c.loop-unit.unit (omega arith));
        });
      };
      small = c.in_ok-multiple.ensures.within;
    }

pub returns-in_err-multiple-clause-none : goal.returns-in_err-multiple-clause-none
returns-in_err-multiple-clause-none c =
    let same : length c.requested-2.result.now.numer ≡ length c.args.shape.now.requested.numer = ap (λ (s : Shares). length s.numer) c.requested-2.ensures in
    let here : c.loop-unit.unit < length c.args.shape.now.sizes = omega (arith, c.loop-unit-test.true, c.len-unit-end.ensures, same, c.requires.requested.count) in
    let fits : SFits w32 c.size.result = search rules in
    let s = c.loop-unit.invariant.so_far in
    rw c.from_residual.ensures (λ n.
    (let past = c.in_err-multiple.ensures.passes n.multiple (record {
      positive = n.some;
      first = s.divides n.multiple (record { some = n.some; of_denominator = n.of_denominator; of_sizes = λ k l. n.of_sizes k (omega (arith, l, here)) });
      second = rw (to_z-of_z fits, c.size.ensures) (n.of_sizes c.loop-unit.unit here);
    }) in
    omega (arith, past, common_fits c.args.shape.now c.requires n)))
