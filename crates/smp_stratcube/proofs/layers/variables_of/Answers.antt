use Rattle.std.proofs.{Common.{◌≡◌, ◌<◌, nat_eq, true, false, [], length, arith, sym, ap, ◌∙◌}, lemmas.Bool.{eqb-false, eqb-true}}
use Rattle.std.proofs.lemmas.List.{get_or_past, get_or_read}
use Rattle.smp_stratcube.proofs.layers.variables_of.Goals as goal

pub returns-then-is_empty : goal.returns-then-is_empty
returns-then-is_empty c =
    let t : nat_eq (length c.args.xs.now) 0 ≡ true = sym c.is_empty.ensures ∙ c.if-is_empty.true in
    sym (ap length (get_or_past c.args.xs.now 0 [] (omega (arith, eqb-true (length c.args.xs.now) 0 t))))

pub returns-else-is_empty : goal.returns-else-is_empty
returns-else-is_empty c =
    let t : nat_eq (length c.args.xs.now) 0 ≡ false = sym c.is_empty.ensures ∙ c.if-is_empty.false in
    let some : 0 < length c.args.xs.now = omega (arith, eqb-false (length c.args.xs.now) 0 t) in
    ap length (c.as_slice.ensures ∙ get_or_read c.args.xs.now 0 c.index-xs-0.result some c.index-xs-0.is [])
