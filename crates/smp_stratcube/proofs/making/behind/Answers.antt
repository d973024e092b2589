use Rattle.std.proofs.{Common.{◌≡◌, ◌+◌, ◌<◌, ◌≤◌, ◌^◌, ℕ, List, length, get_or, arith, sym, ap, ◌∙◌, subst}, lemmas.List.{get_or_default}}
use Rattle.smp_prob.specs.Given.{least_multiple}
use Rattle.smp_stratcube.specs.{declared.units.Member.{Member}, Units.{nobody}}
use Rattle.smp_stratcube.proofs.Behinds.{alone_behind, fits_behind, same_behind, some_behind, unread}
use Rattle.smp_stratcube.proofs.making.behind.Goals as goal
use Rattle.smp_stratcube.proofs.making.behind.Goals.{else-unit-members-via-then-unit-members+else-members-unit, else-unit-members-via-else-unit-members}

-- a unit that was read
read : (members : List Member) (k : ℕ) → k < length members → get_or members k unread ≡ get_or members k nobody
read members k l = get_or_default members k unread nobody l

-- of one stratum, by what was read
alike : (members : List Member) (k : ℕ) → k + 1 < length members → (get_or members (k + 1) unread).stratum ≡ (get_or members k unread).stratum → (get_or members (k + 1) nobody).stratum ≡ (get_or members k nobody).stratum
alike members k l e = ap (λ (m : Member). m.stratum) (sym (read members (k + 1) l)) ∙ e ∙ ap (λ (m : Member). m.stratum) (read members k (omega (arith, l)))

pub least_multiple-requires-clause-b : goal.least_multiple-requires-clause-b
least_multiple-requires-clause-b c =
    some_behind c.args.members.now c.requires.have (c.args.unit + 1) c.args.next (c.requires.next c.if-unit-members.true)

pub least_multiple-requires-clause-within : goal.least_multiple-requires-clause-within
least_multiple-requires-clause-within c =
    subst (λ (m : Member). least_multiple m.share.den c.args.next ≤ 2 ^ 80) (sym (read c.args.members.now c.args.unit c.requires.unit))
    (fits_behind c.args.members.now c.requires.have c.args.unit c.args.next c.if-unit-members.true (alike c.args.members.now c.args.unit c.if-unit-members.true c.if-members-unit.true) (c.requires.next c.if-unit-members.true))

pub returns-then-members-unit : goal.returns-then-members-unit
returns-then-members-unit c =
    c.least_multiple.ensures ∙ ap (λ (m : Member). least_multiple m.share.den c.args.next) (read c.args.members.now c.args.unit c.requires.unit)
    ∙ same_behind c.args.members.now c.requires.have c.args.unit c.args.next c.if-unit-members.true (alike c.args.members.now c.args.unit c.if-unit-members.true c.if-members-unit.true) (c.requires.next c.if-unit-members.true)

pub returns-else-unit-members : goal.returns-else-unit-members
returns-else-unit-members c =
    ap (λ (m : Member). m.share.den) (read c.args.members.now c.args.unit c.requires.unit)
    ∙ alone_behind c.args.members.now c.requires.have c.args.unit c.requires.unit
    (λ l e. elim c.else-unit-members.branch [
      | else-unit-members-via-then-unit-members+else-members-unit w ↦
          w.if-members-unit.false (ap (λ (m : Member). m.stratum) (read c.args.members.now (c.args.unit + 1) l) ∙ e ∙ ap (λ (m : Member). m.stratum) (sym (read c.args.members.now c.args.unit c.requires.unit)))
      | else-unit-members-via-else-unit-members w ↦ absurd (omega (arith, l, w.if-unit-members.false))
    ])
