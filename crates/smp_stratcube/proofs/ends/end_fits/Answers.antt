use Rattle.std.proofs.Common.{SFits, rules, ◌≡◌, ◌*◌, ◌/◌, ◌≤◌, ℕ, ℤ, Option, Some, length, mul-pos, arith, get_or, sym, ap, ap₂, ◌∙◌, subst}
use Rattle.std.proofs.{lemmas.Int.{to_z-of_z}, lemmas.List.Sums.{fold_more}, lemmas.Nat.Gcd.{dvd_refl}, Math.Nat.{pos_of_dvd_of_pos}}
use mir.Syntax.{w64}
use Rattle.smp_frac.specs.Laws.Coprime.{part_positive}
use Rattle.smp_moves.specs.{Answers.{line_of}, Moves.{entry_of}, Kept.Ends.{CanMove}}
use Rattle.smp_stratcube.specs.{declared.values.Value.{Value}, Units.{first}, Values.{value}, Kept.Moves.{joined}, Kept.Computed.{moved_value}}
use Rattle.smp_stratcube.specs.Kept.Gates.{with_unit}
use Rattle.smp_stratcube.proofs.{Ending.{can_move}, Sharing.{joined_start}}
use Rattle.smp_stratcube.proofs.ends.end_fits.Goals as goal

pub loop-place-init : goal.loop-place-init
loop-place-init c =
    let full : ℕ = c.args.den * c.args.reach.size in
    record { all = joined_start full (mul-pos c.requires.along.some c.requires.size.0); some = omega arith; shared = dvd_refl full }

pub with_end-gathered-requires-clause-can : goal.with_end-gathered-requires-clause-can
with_end-gathered-requires-clause-can c =
    let unit = get_or c.args.front.now.units c.loop-place.place 0 in
    let narrow : SFits w64 c.entry-entry.result = search rules in
    let can = can_move (length c.args.units.now.members) c.args.values.now c.args.line.now c.args.den c.args.reach c.requires.along unit in
    let there = subst (λ (v : Value). CanMove (v.at.num * (c.args.den / v.at.den)) c.args.reach (entry_of (line_of c.args.line.now) unit)) (sym c.at.ensures) can in
    let here = subst (λ (z : ℤ). CanMove (c.at.result.at.num * (c.args.den / c.at.result.at.den)) c.args.reach z) (sym c.entry-entry.ensures) there in
    simp to_z-of_z here

pub loop-place-preserved : goal.loop-place-preserved
loop-place-preserved c =
    let us = c.args.front.now.units in
    let units = c.args.units.now in
    let full : ℕ = c.args.den * c.args.reach.size in
    let at : ℕ → Value = λ k. moved_value (value c.args.values.now k) c.args.den c.args.reach (entry_of (line_of c.args.line.now) k) in
    let unit = get_or us c.loop-place.place 0 in
    let narrow : SFits w64 c.entry-entry.result = search rules in
    let with : joined full c.with_end-gathered.result ≡ with_unit (first units unit) (moved_value (value c.args.values.now unit) c.args.den c.args.reach (entry_of (line_of c.args.line.now) unit)) (joined full c.loop-place.gathered) =
    (simp to_z-of_z at c.with_end-gathered.ensures.is) ∙ ap₂ (λ (v : Value) (z : ℤ). with_unit (first units unit) (moved_value v c.args.den c.args.reach z) (joined full c.loop-place.gathered)) c.at.ensures c.entry-entry.ensures in
    record {
      all = with ∙ ap (λ (m : Option ℕ). with_unit (first units unit) (at unit) m) c.loop-place.invariant.all
          ∙ sym (fold_more (λ (m : Option ℕ) k. with_unit (first units k) (at k) m) (Some 1) us c.loop-place.place 0 (omega (arith, c.requires.inside.short)));
      some = c.with_end-gathered.ensures.some;
      shared = c.with_end-gathered.ensures.shared;
    }

pub within_gate-requires-clause-other : goal.within_gate-requires-clause-other
within_gate-requires-clause-other c =
    let full : ℕ = c.args.den * c.args.reach.size in
    subst (λ (q : ℕ). 1 ≤ q) (sym c.quotient.ensures) (part_positive full c.loop-place.gathered.shared (mul-pos c.requires.along.some c.requires.size.0) c.loop-place.invariant.shared)

pub quotient-requires : goal.quotient-requires
quotient-requires c =
    pos_of_dvd_of_pos c.loop-place.invariant.shared (mul-pos c.requires.along.some c.requires.size.0)
