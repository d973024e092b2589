use Rattle.std.proofs.Common.{◌≡◌, ◌++◌, drop}
use Rattle.std.specs.{Prelude.{string_bytes}, List.{flat_map, range_with_len}}
use Rattle.smp_twostage.specs.DrawnLines.{balance_line, drawn_lines, drawn_view}
use Rattle.smp_twostage.proofs.drawn.drawn_lines.Given as goal

-- the lines so far, and those of the other columns
abbrev pub invariant-loop-column : goal.invariant-loop-column
invariant-loop-column l =
    string_bytes l.text ++ flat_map (balance_line (drawn_view l.drawn)) (drop l.column (range_with_len 0 l.drawn.columns))
    ≡ drawn_lines (drawn_view l.drawn)
