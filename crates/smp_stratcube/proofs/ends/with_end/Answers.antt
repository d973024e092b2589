use Rattle.std.proofs.{Common.{SFits, rules, ◌≡◌, ℕ, ◌*◌, ◌/◌, Option, false, nat_lt, arith, pos, mul-pos, refl, sym, ap, ◌∙◌}, lemmas.Bool.{and_right, le-ltb}, lemmas.Int.{to_z-of_z}, lemmas.Nat.Gcd.{dvd_trans}}
use mir.Syntax.{w64}
use mir.Val.{of_z, to_z}
use Rattle.smp_frac.specs.{Divisors.{greatest_common_divisor}, Laws.Coprime.{part_positive}}
use Rattle.smp_values.specs.Values.{fractional}
use Rattle.smp_values.proofs.Fractional.{is_fractional-between}
use Rattle.smp_moves.specs.Ends.{advanced}
use Rattle.smp_stratcube.specs.{declared.values.Value.{Value}, Units.{first, stratum}, Kept.Gates.{gated, with_unit}, Kept.Moves.{joined}}
use Rattle.smp_stratcube.specs.{Kept.Computed.{moved_value}, Kept.Pairs.{as_value}}
use Rattle.smp_stratcube.proofs.Sharing.{joined_off, joined_on, joined_out, moved_over}
use Rattle.smp_stratcube.proofs.ends.with_end.Goals as goal
use Rattle.smp_stratcube.proofs.ends.with_end.Goals.{After-advanced-number, then-number-eq0-via-then-number-eq0, then-number-eq0-via-else-number-eq0+then-full-number}

pub returns-then-entry-eq0-clause-is : goal.returns-then-entry-eq0-clause-is
returns-then-entry-eq0-clause-is c =
    let f : ℕ = first c.args.units.now c.args.unit in
    let d : ℕ = c.args.den * c.args.reach.size in
    let q : ℕ = d / c.args.gathered.shared in
    let narrow : SFits w64 c.args.entry = search rules in
    let none : c.args.entry ≡ pos 0 = sym (to_z-of_z w64 c.args.entry narrow) ∙ ap (to_z w64) c.if-entry-eq0.true in
    ap (λ m. gated m q) c.with_value.ensures.is
    ∙ joined_off f q c.args.value c.args.gathered.common c.requires.some (c.requires.are.firsts (stratum c.args.units.now c.args.unit)).0 c.requires.value.positive (part_positive d c.args.gathered.shared (mul-pos c.requires.den.0 c.requires.size) c.requires.shared)
    ∙ ap (λ (v : Value). with_unit f v (gated c.args.gathered.common q)) (let still : c.args.value ≡ moved_value c.args.value c.args.den c.args.reach c.args.entry = rw none refl in still)

-- a unit that the line moves, by its value there
with_there : (c : After-advanced-number) → with_unit (first c.args.units.now c.args.unit) (as_value c.advanced-number.result (c.args.den * c.args.reach.size)) (joined (c.args.den * c.args.reach.size) c.args.gathered)
    ≡ with_unit (first c.args.units.now c.args.unit) (moved_value c.args.value c.args.den c.args.reach c.args.entry) (joined (c.args.den * c.args.reach.size) c.args.gathered)
with_there c =
    let narrow : SFits w64 c.args.entry = search rules in
    let number : c.advanced-number.result ≡ advanced (c.args.value.at.num * (c.args.den / c.args.value.at.den)) c.args.reach c.args.entry = (simp to_z-of_z at c.advanced-number.ensures) ∙ ap (λ x. advanced x c.args.reach c.args.entry) c.over.ensures.is in
    ap (λ (v : Value). with_unit (first c.args.units.now c.args.unit) v (joined (c.args.den * c.args.reach.size) c.args.gathered))
    (sym (moved_over c.args.value c.args.den c.args.reach c.args.entry c.advanced-number.result (λ e. c.if-entry-eq0.false (ap (of_z w64) e)) number))

pub returns-then-number-eq0-clause-is : goal.returns-then-number-eq0-clause-is
returns-then-number-eq0-clause-is c =
    let full : ℕ = c.args.den * c.args.reach.size in
    let n : ℕ = c.advanced-number.result in
    let out : fractional (c.args.den * c.args.reach.size) c.advanced-number.result ≡ false = elim c.then-number-eq0.branch [
      | then-number-eq0-via-then-number-eq0 w ↦ rw w.if-number-eq0.true refl
      | then-number-eq0-via-else-number-eq0+then-full-number w ↦ and_right (nat_lt 0 n) (nat_lt n full) (le-ltb n full w.if-full-number.true)
    ] in
    joined_out (first c.args.units.now c.args.unit) n full c.args.gathered.shared c.args.gathered.common (mul-pos c.requires.den.0 c.requires.size) c.requires.shared out
    ∙ with_there (goal.at.returns-then-number-eq0-clause-is c).After-advanced-number

pub returns-clause-is : goal.returns-clause-is
returns-clause-is c =
    let full : ℕ = c.args.den * c.args.reach.size in
    let n : ℕ = c.advanced-number.result in
    let g : ℕ = c.args.gathered.shared in
    ap (λ k. gated c.within_gate.result (full / k)) c.gcd.ensures.greatest
    ∙ ap (λ (m : Option ℕ). gated m (full / greatest_common_divisor n g)) (c.within_gate.ensures.is ∙ ap (gated c.args.gathered.common) c.first.ensures.is)
    ∙ joined_on (first c.args.units.now c.args.unit) n full g c.args.gathered.common (mul-pos c.requires.den.0 c.requires.size) c.requires.shared c.requires.some (c.requires.are.firsts (stratum c.args.units.now c.args.unit)).0
    (is_fractional-between full n (omega (arith, c.if-number-eq0.false)) (omega (arith, c.if-full-number.false)))
    ∙ with_there (goal.at.returns-clause-is c).After-advanced-number

pub returns-clause-shared : goal.returns-clause-shared
returns-clause-shared c = dvd_trans c.gcd.result c.gcd.ensures.divides.1 c.requires.shared
