use Rattle.std.proofs.{Common.{◌≡◌, ◌<◌, length, slice_index, arith, sym}, lemmas.List.FromFn.{length-range_with_len}}
use Rattle.std.specs.List.{range_with_len}
use Rattle.narrow_cases.proofs.answers.is_request.Goals as goal

pub returns : goal.returns
returns c is =
    let count : length (range_with_len 0 (length c.args.sizes.now)) ≡ length c.args.sizes.now = length-range_with_len 0 (length c.args.sizes.now) in
    let each = c.are_below.ensures is in
    record {
      few = omega (arith, count, c.if-sizes.false);
      paired = sym count;
      positive = λ i l. (each i l).0;
      small = λ i l. (each i l).1;
      narrow = omega (arith, c.if-denominator.false);
      drawn = λ _. omega arith;
      below_one = λ i l. (let below : slice_index c.args.sizes.now i < c.args.denominator = (each i l).2 in omega (arith, below));
    }
