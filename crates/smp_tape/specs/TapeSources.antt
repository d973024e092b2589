-- A tape is a source of draws.
use Rattle.smp_tape.specs.Laws.Tapes.{below_from, idle_from}
use Rattle.smp_tape.specs.Sources.{Source}
use Rattle.smp_tape.specs.Tapes.{Values, tape_next}

abbrev pub tape_source : Source Values
tape_source = record {
  next = tape_next;
  below = λ tape bound value p h. below_from tape.taken tape.left bound value p h;
  idle = λ tape. idle_from tape.taken tape.left;
}
