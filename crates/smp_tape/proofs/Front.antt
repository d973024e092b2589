-- Values that were read, and then those of the lines behind them.
use Rattle.std.proofs.Common.{ℕ, List, ◌++◌, Result, Ok, Err}
use Rattle.smp_tape.specs.declared.fault.TapeFault.{TapeFault}

abbrev pub with_front : List ℕ → Result (List ℕ) TapeFault → Result (List ℕ) TapeFault
with_front front (Ok values) = Ok (front ++ values)
with_front front (Err fault) = Err fault
