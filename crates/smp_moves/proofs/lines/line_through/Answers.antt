use Rattle.std.proofs.{Common.{◌≡◌, ◌≤◌, ◌^◌, true, ℕ, List, ℤ, take, arith, ap₂, subst}, lemmas.Bool.{false_from_ne_true}}
use Rattle.std.proofs.lemmas.List.Elements.{All-take}
use Rattle.std.specs.Int.RustNames.{unsigned_abs}
use Rattle.smp_kernel.specs.Reduced.{primitive_part}
use Rattle.smp_moves.specs.{Ends.{entries_fit}, Kept.Computed.{line_in}}
use Rattle.smp_moves.proofs.{FirstPlaces.{front_is, front_long, past_reduced, zero_front}, Sizes.{entry_small}, Weights.{within_from, within_to}}
use Rattle.smp_moves.proofs.lines.line_through.Goals as goal

pub reduced-requires : goal.reduced-requires
reduced-requires c =
    (omega arith, (omega arith, (c.requires.within, λ zero. c.requires.some (zero_front c.args.numbers.now c.args.number zero))))

pub returns-in-None : goal.returns-in-None
returns-in-None c =
    let row = c.args.numbers.now in
    let line = line_in (take c.args.number c.args.units.now) (take c.args.number row) in
    false_from_ne_true (entries_fit line) (λ h. front_long row c.args.number c.requires.past c.requires.some c.in-None.ensures (within_from (2 ^ 44) line.entries h))

pub returns-in-Some : goal.returns-in-Some
returns-in-Some c =
    let n = c.args.number in
    let row = c.args.numbers.now in
    let e = c.in-Some.entries in
    let r = c.in-Some.ensures.0 in
    let front : take n e ≡ primitive_part (take n row) = front_is row n c.requires.past e (omega arith) (omega arith) c.requires.some r in
    record {
      is = ap₂ (λ (us : List ℕ) (es : List ℤ). record { units = us; entries = es }) c.first_units.ensures.is front;
      fits = subst (λ (es : List ℤ). entries_fit (record { units = take n c.args.units.now; entries = es }) ≡ true) front
          (within_to (2 ^ 44) (take n e) (All-take (λ x. unsigned_abs x ≤ 2 ^ 44) n e c.in-Some.ensures.1));
      padded = record { short = c.requires.short; places = omega arith; no_unit = c.first_units.ensures.past; no_entry = past_reduced row n c.requires.past e r };
      small = entry_small (2 ^ 44) e c.in-Some.ensures.1;
    }
