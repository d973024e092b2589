use Rattle.std.proofs.Common.{◌≡◌, ◌++◌, ◌*◌, ◌+◌, ◌-◌}
use Rattle.std.specs.{Prelude.{string_bytes}, List.{flat_map, range_with_len}}
use Rattle.smp_cases.specs.Demo.{demo_frame_text, demo_row, state_after}
use Rattle.smp_cases.proofs.demo.demo_frame.Given as goal

-- the rows before i took three calls each; the text so far, and the rows from i on
abbrev pub invariant-loop-i : goal.invariant-loop-i
invariant-loop-i l =
    (l.generator.state ≡ state_after l.seed (3 * (l.i - 1)))
    × (string_bytes l.text ++ flat_map (demo_row l.seed) (range_with_len l.i (l.n + 1 - l.i)) ≡ demo_frame_text l.n l.seed)
