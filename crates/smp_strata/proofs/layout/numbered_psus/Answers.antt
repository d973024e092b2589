use Rattle.std.proofs.{Common.{length, map}, lemmas.List.{length-map}}
use Rattle.smp_frame.specs.declared.frame.Unit as unit
use Rattle.smp_strata.proofs.RowNumbers.{numbers_by_places}
use Rattle.smp_strata.proofs.layout.numbered_psus.Goals as goal

pub returns-clause-numbers : goal.returns-clause-numbers
returns-clause-numbers c =
    rw (c.in_ok-numbered.ensures.numbers, c.deref.ensures.value)
    (numbers_by_places c.in_ok-texts.texts.items (map (λ u. u.psu) c.args.units.now) (length c.args.units.now) c.in_ok-texts.ensures
    (length-map c.args.units.now (λ (u : unit.Unit). u.psu)))
