use Rattle.std.proofs.{Common.{◌≡◌, ◌+◌, ◌<◌, ◌≤◌, [], ◌∷◌, ◌∙◌, sym, length, map, Global, string_bytes, arith}, lemmas.List.{length-set}}
use Rattle.smp_frame.proofs.Named.{named_all, named_next}
use Rattle.smp_frame.proofs.units.name_units.Goals as goal

pub index_mut-requires : goal.index_mut-requires
index_mut-requires c =
    let paired : c.loop-id.place + length (map string_bytes (c.in-Some.id ∷ c.next.new.self)) ≡ length c.loop-id.units.items = rw c.in-Some.ensures.steps at c.loop-id.invariant.paired in
    omega (arith, paired)

pub loop-id-preserved : goal.loop-id-preserved
loop-id-preserved c =
    let paired : c.loop-id.place + length (map string_bytes (c.in-Some.id ∷ c.next.new.self)) ≡ length c.loop-id.units.items = rw c.in-Some.ensures.steps at c.loop-id.invariant.paired in
    let within : c.loop-id.place < length c.loop-id.units.items = omega (arith, paired) in
    record {
      paired = rw (length-set c.loop-id.units.items c.loop-id.place _) (omega (arith, paired));
      units = rw c.from_string.ensures
          (named_next c.loop-id.place c.loop-id.units.items c.index_mut.result.now (string_bytes c.in-Some.id) (map string_bytes c.next.new.self) within c.index_mut.ensures.value
          ∙ rw c.in-Some.ensures.steps at c.loop-id.invariant.units);
    }

pub returns : goal.returns
returns c =
    let paired : c.loop-id.place + length (map (string_bytes {Z = Global}) []) ≡ length c.loop-id.units.items = rw c.in-None.ensures.steps.0 at c.loop-id.invariant.paired in
    let all : length c.loop-id.units.items ≤ c.loop-id.place = omega (arith, paired) in
    sym (named_all c.loop-id.place c.loop-id.units.items all) ∙ rw c.in-None.ensures.steps.0 at c.loop-id.invariant.units
