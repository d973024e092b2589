-- The splits of the cube are lawful, and its steps are those of flight and landing.
use Rattle.std.proofs.Common.{◌≡◌, false, refl}
use Rattle.smp_split.specs.Trees.{Lawful, LawfulParts}
use Rattle.smp_split.specs.Laws.Parts.{moved-same}
use Rattle.smp_values.specs.Values.{fractional_units, is_settled}
use Rattle.smp_moves.specs.Cubes.{flying, pairing, values_in}
use Rattle.smp_flight.specs.States.{Units}
use Rattle.smp_flight.specs.Steps.{next}
use Rattle.smp_flight.specs.Selections.{Balancing, GoesOn, IsBalancing, IsSelection, flies}
use Rattle.smp_flight.specs.Laws.ByOrder.{end_lawful, parts_lawful}
use Rattle.smp_flight.specs.Laws.WholeOrders.{frame_whole}
use Rattle.smp_flight.specs.Cube.{cube_of, cube_parts, cube_tree}

module _ (units : Units) where
  cube_split : (s : Balancing) → IsBalancing units s → is_settled (values_in s) ≡ false
      → LawfulParts (cube_tree units) (IsBalancing units) s (cube_parts units s)
  cube_split (flying f left) ok going =
      parts_lawful units (next units) (flying f left) (fractional_units f.values) ok (frame_whole f.values) going
  cube_split (pairing s left) ok going =
      parts_lawful units (next units) (pairing s left) (fractional_units s) ok (frame_whole s) going

  pub cube_lawful : Lawful (cube_tree units) (IsBalancing units)
  cube_lawful = record {
    split = cube_split;
    end = λ s ok done. end_lawful units (next units) s ok done;
  }

  cube_goes_on : (s : Balancing) → IsBalancing units s → GoesOn (cube_of units) s
  cube_goes_on (flying f left) ok = flies (frame_whole f.values) refl (moved-same (cube_parts units (flying f left)))
  cube_goes_on (pairing s left) ok = flies (frame_whole s) refl (moved-same (cube_parts units (pairing s left)))

  pub is_cube : IsSelection (cube_of units) (IsBalancing units)
  is_cube = record {
    lawful = cube_lawful;
    units = refl;
    done = λ s. refl;
    value = λ s. refl;
    selected = λ s. refl;
    member = λ s ok. ok;
    step = cube_goes_on;
  }
