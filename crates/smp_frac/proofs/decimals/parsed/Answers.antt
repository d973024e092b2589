use Rattle.smp_frac.proofs.Digits.{too_large}
use Rattle.smp_frac.proofs.decimals.parsed.Goals as goal

pub returns-in-Err : goal.returns-in-Err
returns-in-Err c = too_large c.args.text.now c.in-Err.field-0 c.in-Err.ensures.value.0 c.requires
