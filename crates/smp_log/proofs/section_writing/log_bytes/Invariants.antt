use Rattle.std.proofs.Common.{◌-◌, drop, length, map}
use Rattle.smp_log.specs.SectionLogs.{section_line}
use Rattle.smp_log.proofs.SectionWrites.{WritesOpening, WritesInside}
use Rattle.smp_log.proofs.section_writing.log_bytes.Given as goal

abbrev pub invariant-loop-section : goal.invariant-loop-section
invariant-loop-section l =
    WritesOpening l.head l.sections l.lines l.section l.taken l.next (map section_line (drop l.next l.steps)) l.text

abbrev pub invariant-loop-next : goal.invariant-loop-next
invariant-loop-next l =
    WritesInside l.head l.sections l.lines l.section l.taken l.next l.own (map section_line (drop l.next l.steps)) l.text

abbrev pub decreases-loop-next : goal.decreases-loop-next
decreases-loop-next l = length l.steps - l.next
