use Rattle.std.proofs.Common.{Err, ap, refl, arith, rules}
use Rattle.smp_io.proofs.Asked.{only_one}
use Rattle.smp_plan.proofs.plan.read_input.Goals as goal

pub returns-in-Err-Failed : goal.returns-in-Err-Failed
returns-in-Err-Failed g c =
    let read = c.in-Err-Failed.ensures in
    record {
      follows = λ fs told. tt;
      kinds = tt;
      cause = record {
        name = c.args.name.now;
        is_input = (0, omega arith, refl);
        rose = read.cause (ap Err c.in-Err-Failed.field-0-is);
        first = λ fs told. search rules;
      };
      same = read.same;
      reads = read.reads;
      writes = read.writes;
      shortages = read.shortages;
      asked = only_one c.args.name.now _ _ read.asked;
    }
