use Rattle.std.proofs.Common.{◌≡◌, ◌+◌, ◌++◌, drop, map}
use Rattle.smp_twostage.proofs.made.push_behind.Given as goal

-- the numbers so far, and those that are left
abbrev pub invariant-loop-number : goal.invariant-loop-number
invariant-loop-number l =
    l.numbers.items ++ map (λ number. l.before + number) (drop l.number-index l.more) ≡ l.fn.numbers.items ++ map (λ number. l.before + number) l.more
