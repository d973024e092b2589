use Rattle.std.proofs.{Common.{arith, refl, ◌∙◌, ap, length, get_or}, lemmas.List.{length_push}}
use Rattle.std.proofs.lemmas.List.FromFn.{length-map-range_with_len}
use Rattle.smp_strata.specs.Kept.Groups.{places_below}
use Rattle.smp_strata.proofs.Grouped.{put, put_among, group_at}
use Rattle.smp_strata.proofs.groups.groups_of.Goals as goal

pub loop-place-preserved : goal.loop-place-preserved
loop-place-preserved c =
    let within = c.requires c.loop-place.place 0 c.loop-place-test.true in
    let number = get_or c.args.numbers.now c.loop-place.place 0 in
    record {
      groups = rw c.in_ok-add.ensures.groups (put c.args.numbers.now c.loop-place.place c.args.count number c.loop-place.groups.items refl within c.loop-place.invariant.groups);
      among = rw c.in_ok-push.ensures.items
          (put_among c.args.numbers.now c.loop-place.place number c.loop-place.among.items c.in_ok-add.field-0 refl c.loop-place.invariant.among c.loop-place.invariant.paired
          (c.in_ok-add.ensures.among ∙ ap length (group_at c.args.numbers.now c.loop-place.place c.args.count number c.loop-place.groups.items within c.loop-place.invariant.groups)));
      paired = rw (c.in_ok-push.ensures.items, length_push) (omega (arith, c.loop-place.invariant.paired));
    }

pub add-requires : goal.add-requires
add-requires c =
    omega (arith, c.requires c.loop-place.place 0 c.loop-place-test.true, ap length c.loop-place.invariant.groups, length-map-range_with_len (places_below c.args.numbers.now c.loop-place.place) 0 c.args.count)
