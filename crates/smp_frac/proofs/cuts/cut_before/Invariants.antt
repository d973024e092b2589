use Rattle.std.proofs.Common.{◌≡◌, ◌++◌, take, drop, option_map}
use Rattle.smp_frac.specs.Cuts.{cut_at}
use Rattle.smp_frac.proofs.cuts.cut_before.Given as goal

abbrev pub invariant-loop-i : goal.invariant-loop-i
invariant-loop-i l = option_map (λ p. (take l.i l.text ++ p.0, p.1)) (cut_at l.separator (drop l.i l.text)) ≡ cut_at l.separator l.text
