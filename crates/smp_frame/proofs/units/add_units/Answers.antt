use Rattle.std.proofs.Common.{◌≡◌, ◌+◌, [], ◌∷◌, ◌++◌, true, nat_le, ◌∙◌, ap, rules, map, string_bytes}
use Rattle.smp_frac.specs.Limits.{most_rows}
use Rattle.smp_frame.specs.{Frames.{units_from}, Kept.Readers.{rows_left}, Records.{field}, Kept.Ids.{named, with_id}}
use Rattle.csv.specs.Records.{fields_of}
use Rattle.smp_frame.proofs.{Front.{with_front}, Named.{named_more, paired_more}, NextUnit.{next_unit}}
use Rattle.smp_frame.proofs.units.add_units.Goals as goal

pub loop-number-preserved : goal.loop-number-preserved
loop-number-preserved c =
    let within : nat_le c.loop-number.number most_rows ≡ true = search rules in
    let units = c.loop-number.units.items in
    let ids = map string_bytes c.loop-number.seen.keys in
    let id = field (fields_of c.next_record.new.row) c.args.layout.now.id.place in
    let unit = c.in_ok-unit.unit in
    let left = units_from c.args.layout.now (c.loop-number.number + 1) (ids ++ id ∷ []) (rows_left c.next_record.new.reader) in
    record {
      reading = c.in_ok-next_record.ensures.reading c.if-not-branch.false;
      paired = rw (c.in_ok-push.ensures.items, c.in_ok-unit.ensures.seen) (paired_more units ids unit id c.loop-number.invariant.paired);
      units = rw (c.in_ok-push.ensures.items, c.in_ok-unit.ensures.seen)
          (ap (λ front. with_front front left) (named_more units ids unit id c.loop-number.invariant.paired)
          ∙ next_unit c.args.layout.now (named units ids) c.loop-number.number ids _ _ _ c.in_ok-next_record.field-0 (with_id id unit) within c.if-not-branch.false c.in_ok-next_record.ensures.takes c.in_ok-unit.ensures.reads
          ∙ c.loop-number.invariant.units);
    }
