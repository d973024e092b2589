-- The worked draw, by computing.
use Rattle.std.proofs.Common.{refl, arith}
use Rattle.std.specs.Fmt.{digits}
use Rattle.smp_frac.specs.Divisors.{greatest_common_divisor}
use Rattle.smp_design.specs.Words.{row}
use Rattle.smp_frame.proofs.Four.{frame_is}
use Rattle.smp_tape.proofs.Four.{tape_is}
use Rattle.smp_weights.proofs.Four.{file_of_both, row_of_c}
use Rattle.smp_strata.specs.Misfits.{misfit_of}
use Rattle.smp_app.specs.Four.{IsFourDrawn}

pub is_four_drawn : IsFourDrawn
unfolding greatest_common_divisor digits row misfit_of
is_four_drawn = record {
  frame = frame_is;
  served = refl;
  tape = tape_is;
  start = refl;
  leads = (record { going = refl; kind = refl; bound = refl; value = omega arith }, (record { going = refl; kind = refl; bound = refl; value = omega arith }, (record { going = refl; kind = refl; bound = refl; value = omega arith }, refl)));
  done = refl;
  allocated = refl;
  size = refl;
  stratum = refl;
  number = refl;
  clusters = refl;
  size_of_c = refl;
  sizes = refl;
  by = record { cross = refl };
  in_stratum = record { cross = refl };
  in_psu = refl;
  asked = record { cross = refl };
  id = refl;
  are_asked = refl;
  probability = (record { cross = refl }, record { cross = refl }, record { cross = refl });
  counts = record { cross = refl };
  firsts = refl;
  rows = refl;
  weighted_c = (refl, record { cross = refl });
  row = row_of_c;
  file = file_of_both;
  sample = file_of_both;
  long = refl;
  report = refl;
}
