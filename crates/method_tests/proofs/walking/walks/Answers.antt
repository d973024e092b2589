use Rattle.std.proofs.{Common.{◌≡◌, false, [], Some, Err, ap, refl}, lemmas.Slice.Eq.{slice_eq-Decides}, lemmas.Bool.{both_ways}}
use Rattle.std.proofs.lemmas.Bool.Decides.{Decides-eqb}
use Rattle.std.specs.Bool.{Decides}
use Rattle.smp_split.specs.{Counts.{selected_units}, Paths.{values_of}, Runs.{Arrived, Refused, position}}
use Rattle.smp_tape.specs.{Tapes.{tape_of_values}, TapeSources.{tape_source}}
use Rattle.method_tests.proofs.Tapes.{arrived_leaf, entry_decides, leaf_at, never_stopped, walk_is, walk_told}
use Rattle.method_tests.proofs.walking.walks.Goals.{then-told, else-told}
use Rattle.method_tests.proofs.walking.walks.Goals as goal

pub selected_units-requires-clause-done : goal.selected_units-requires-clause-done
selected_units-requires-clause-done g c =
    let s = g.S.Splitting in
    let tree = (s.method c.args.design.now).tree in
    let arrived : Arrived tape_source tree (position c.args.state.now (tape_of_values [] (values_of c.args.path.now)) (Some [])) (position c.walk.new.state c.walk.new.draws (Some c.walk.new.trace)) =
    rw (← c.in_ok-tape.ensures, ← c.new-lines.ensures) c.in-Ok.ensures.arrived in
    let ran = arrived_leaf tree (s.method c.args.design.now).belongs (g.S.Splitting.method c.args.design.now).lawful c.args.state.now c.args.path.now c.requires c.walk.new.state c.walk.new.trace c.walk.new.draws arrived in
    (leaf_at tree (s.method c.args.design.now).belongs (g.S.Splitting.method c.args.design.now).lawful c.args.state.now c.args.path.now c.requires c.walk.new.state c.walk.new.trace c.walk.new.draws ran).done

pub returns-in-Ok-clause-walks : goal.returns-in-Ok-clause-walks
returns-in-Ok-clause-walks g c =
    let s = g.S.Splitting in
    let tree = (s.method c.args.design.now).tree in
    let arrived : Arrived tape_source tree (position c.args.state.now (tape_of_values [] (values_of c.args.path.now)) (Some [])) (position c.walk.new.state c.walk.new.draws (Some c.walk.new.trace)) =
    rw (← c.in_ok-tape.ensures, ← c.new-lines.ensures) c.in-Ok.ensures.arrived in
    let ran = arrived_leaf tree (s.method c.args.design.now).belongs (g.S.Splitting.method c.args.design.now).lawful c.args.state.now c.args.path.now c.requires c.walk.new.state c.walk.new.trace c.walk.new.draws arrived in
    let told : Decides c.eq-told.result (c.walk.new.trace ≡ c.args.path.now) =
    rw (← c.as_slice.ensures) (slice_eq-Decides entry_decides c.as_slice.result.now c.args.path.now c.eq-told.result c.eq-told.ensures) in
    let walked = walk_told tree (s.method c.args.design.now).belongs (g.S.Splitting.method c.args.design.now).lawful c.args.state.now c.args.path.now c.requires c.walk.new.state c.walk.new.trace c.walk.new.draws c.args.units.now ran in
    let is = walk_is tree (s.method c.args.design.now).belongs (g.S.Splitting.method c.args.design.now).lawful c.args.state.now c.args.path.now c.requires c.walk.new.state c.walk.new.trace c.walk.new.draws c.args.units.now ran in
    elim c.if-told.branch [
      | then-told w ↦
          (let chosen : Decides w.eq.result (selected_units tree c.walk.new.state ≡ c.args.units.now) =
          rw (← c.in_ok-selected-in-Ok.ensures, ← w.as_slice-then-told.ensures.value) (slice_eq-Decides Decides-eqb w.as_slice-then-told.result.now c.args.units.now w.eq.result w.eq.ensures) in
          rw w.result-is (λ e. is (told.0 w.if-told.true) (chosen.0 e), λ walk. chosen.1 (walked walk).1))
      | else-told w ↦ rw w.result-is (λ e. absurd (both_ways c.eq-told.result w.if-told.false e), λ walk. absurd (both_ways c.eq-told.result w.if-told.false (told.1 (walked walk).0)))
    ]

pub returns-in-Err-Draw-clause-walks : goal.returns-in-Err-Draw-clause-walks
returns-in-Err-Draw-clause-walks g c =
    let s = g.S.Splitting in
    let tree = (s.method c.args.design.now).tree in
    let refused : Refused tape_source tree c.in-Err-Draw.field-0-0 (position c.args.state.now (tape_of_values [] (values_of c.args.path.now)) (Some [])) (position c.walk.new.state c.walk.new.draws (Some c.walk.new.trace)) =
    rw (← c.in_ok-tape.ensures, ← c.new-lines.ensures) (c.in-Err-Draw.ensures.refused c.in-Err-Draw.field-0-0 (ap Err c.in-Err-Draw.field-0-is)) in
    (λ e. absurd (both_ways false refl e), λ is. absurd (never_stopped tree (s.method c.args.design.now).belongs (g.S.Splitting.method c.args.design.now).lawful c.args.state.now c.args.path.now c.requires c.walk.new.state refused.path c.in-Err-Draw.field-0-0 c.walk.new.draws c.args.units.now refused.ran is))
