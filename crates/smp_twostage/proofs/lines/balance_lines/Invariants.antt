use Rattle.std.proofs.Common.{◌≡◌, ◌++◌}
use Rattle.std.specs.{Prelude.{string_bytes}, List.{flat_map}}
use Rattle.smp_twostage.specs.{Kept.Stages.{section_lines}, Lines.{told_sections}, Selections.{all_of, covers, section_count}}
use Rattle.smp_twostage.proofs.Numbers.{lines_from}
use Rattle.smp_twostage.proofs.lines.balance_lines.Given as goal

-- the text so far, and the lines of the other sections that are told
abbrev pub invariant-loop-section : goal.invariant-loop-section
invariant-loop-section l =
    string_bytes l.text ++ lines_from (section_lines l.whole l.state.states) (covers l.whole) (section_count (all_of l.whole.plan)) l.section
    ≡ flat_map (section_lines l.whole l.state.states) (told_sections l.whole)
