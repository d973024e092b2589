use Rattle.std.proofs.Common.{sym, ◌∙◌}
use Rattle.smp_frac.proofs.Digits.{IsUtf8-from_decimal}
use Rattle.smp_frac.proofs.decimals.number.Goals as goal

pub unreachable-requires : goal.unreachable-requires
unreachable-requires c = c.in-Err.ensures.cases.0 (IsUtf8-from_decimal c.args.text.now (sym c.is_decimal.ensures ∙ c.if-not-is_decimal.false))
