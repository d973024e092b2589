use Rattle.std.proofs.Common.{SFits, rules, arith, ◌≡◌, ◌+◌, ◌<◌, to_z, ℕ, ℤ, pos, take, length, sym, ◌∙◌, inl, inr, length-set, length-take, get_or-take, set, subst}
use mir.Syntax.{w32}
use Rattle.std.proofs.{lemmas.Bool.{cases_lt}, lemmas.Int.{to_z-of_z, to_z_pos}, lemmas.List.{get_or-set_other, get_or-set_same}}
use Rattle.smp_kernel.specs.Vectors.{entry}
use Rattle.smp_stratcube.proofs.Stored.{column_is, is_first}
use Rattle.smp_stratcube.proofs.making.column_of.Goals as goal

pub loop-place-init : goal.loop-place-init
loop-place-init c =
    let e : to_z w32 c.args.size ≡ pos c.args.size = to_z_pos w32 c.args.size c.requires.size in
    let first = is_first c.args.strata c.args.stratum c.args.size c.requires.stratum (omega (arith, c.requires.rows)) in
    rw e (record {
      long = first.long;
      front = first.front;
      rest = λ j l. absurd (omega (arith, l));
      past = λ k l. first.past k (omega (arith, l));
    })

pub loop-place-preserved : goal.loop-place-preserved
loop-place-preserved c =
    let i = c.loop-place.invariant in
    let j = c.loop-place.place in
    let column = c.loop-place.column in
    let strata = c.args.strata in
    let x = entry c.args.values.now c.loop-place.place in
    let narrow : SFits w32 (entry c.args.values.now c.loop-place.place) = search rules in
    let inside : strata + j < length column = omega (arith, i.long, c.requires.rows, c.loop-place-test.true) in
    simp to_z-of_z (record {
      long = omega (arith, length-set {A = ℤ}, i.long);
      front = λ k l. get_or-set_other column (strata + j) k x (pos 0) (omega (arith, l)) ∙ i.front k l;
      rest = λ k l. elim (cases_lt k j) [
        | inl b ↦ get_or-set_other column (strata + j) (strata + k) x (pos 0) (omega (arith, b)) ∙ i.rest k b
        | inr le ↦
            (let e : j ≡ k = omega (arith, l, le) in
            subst (λ (n : ℕ). entry (set column (strata + j) x) (strata + n) ≡ entry c.args.values.now n) e (get_or-set_same column (strata + j) x (pos 0) inside))
      ];
      past = λ k l. get_or-set_other column (strata + j) k x (pos 0) (omega (arith, l)) ∙ i.past k (omega (arith, l));
    })

pub returns : goal.returns
returns c =
    let i = c.loop-place.invariant in
    let n = c.args.number in
    let values = c.args.values.now in
    let long : length (take c.args.number c.args.values.now) ≡ c.args.number = omega (arith, length-take n values, c.told-values, c.requires.rows, c.requires.stratum) in
    column_is c.args.strata c.args.stratum c.args.size (take n values) c.loop-place.column (omega (arith, long, c.requires.rows)) i.long i.front
    (λ j l. i.rest j (omega (arith, l, long, c.loop-place-test.false)) ∙ sym (get_or-take n values j (pos 0) (omega (arith, l, long))))
    (λ k l. i.past k (omega (arith, l, long, c.loop-place.auto.place-end)))
