use Rattle.std.proofs.{Common.{◌≡◌, ◌-◌, ◌<◌, true, false, length, get_or, arith, rules, ap, sym, ◌∙◌}, lemmas.Grind.{get_or_default_zero}}
use Rattle.std.proofs.lemmas.List.{get_or_default}
use Rattle.std.specs.Vec.{vec_len}
use Rattle.smp_minsup.specs.Kept.Ranked.{RankedUnits, is_in}
use Rattle.smp_minsup.proofs.Ranking.{unit_in, at_large, at_small}
use Rattle.smp_minsup.proofs.ranked.Ranked.numer.Goals as goal

pub index-requires : goal.index-requires
index-requires c =
    let len : length c.self.inside.large.items ≡ vec_len c.self.inside.large = search rules in
    omega (arith, unit_in c.self.inside.raw.items c.self.inside.large.items c.self.inside.offset c.args.self.now c.self.view_is c.args.unit c.requires, c.self.invariant.paired, len)

pub index-requires-then-index : goal.index-requires-then-index
index-requires-then-index c =
    let len : length c.self.inside.raw.items ≡ vec_len c.self.inside.raw = search rules in
    omega (arith, unit_in c.self.inside.raw.items c.self.inside.large.items c.self.inside.offset c.args.self.now c.self.view_is c.args.unit c.requires, len)

pub overflow_sub-result : goal.overflow_sub-result
overflow_sub-result c =
    let inside : c.args.unit < length c.self.inside.raw.items = unit_in c.self.inside.raw.items c.self.inside.large.items c.self.inside.offset c.args.self.now c.self.view_is c.args.unit c.requires in
    let flag : is_in c.self.inside.large.items c.args.unit ≡ true = get_or_default c.self.inside.large.items c.args.unit false c.index.result.now (omega (arith, inside, c.self.invariant.paired)) ∙ sym c.index.ensures ∙ c.if-index.true in
    let read = c.index-then-index.ensures ∙ get_or_default_zero c.self.inside.raw.items c.args.unit c.index-then-index.result.now inside in
    omega (arith, read, c.self.invariant.above c.args.unit inside flag)

pub index-requires-else-index : goal.index-requires-else-index
index-requires-else-index c =
    let len : length c.self.inside.raw.items ≡ vec_len c.self.inside.raw = search rules in
    omega (arith, unit_in c.self.inside.raw.items c.self.inside.large.items c.self.inside.offset c.args.self.now c.self.view_is c.args.unit c.requires, len)

pub returns-then-index : goal.returns-then-index
returns-then-index c =
    let inside : c.args.unit < length c.self.inside.raw.items = unit_in c.self.inside.raw.items c.self.inside.large.items c.self.inside.offset c.args.self.now c.self.view_is c.args.unit c.requires in
    let flag : is_in c.self.inside.large.items c.args.unit ≡ true = get_or_default c.self.inside.large.items c.args.unit false c.index.result.now (omega (arith, inside, c.self.invariant.paired)) ∙ sym c.index.ensures ∙ c.if-index.true in
    let read = c.index-then-index.ensures ∙ get_or_default_zero c.self.inside.raw.items c.args.unit c.index-then-index.result.now inside in
    ap (λ a. a - c.self.inside.offset) read ∙ sym (at_large c.self.inside.raw.items c.self.inside.large.items c.self.inside.offset c.args.unit inside flag) ∙ ap (λ (v : RankedUnits). get_or v.numer c.args.unit 0) c.self.view_is

pub returns-else-index : goal.returns-else-index
returns-else-index c =
    let inside : c.args.unit < length c.self.inside.raw.items = unit_in c.self.inside.raw.items c.self.inside.large.items c.self.inside.offset c.args.self.now c.self.view_is c.args.unit c.requires in
    let flag : is_in c.self.inside.large.items c.args.unit ≡ false = get_or_default c.self.inside.large.items c.args.unit false c.index.result.now (omega (arith, inside, c.self.invariant.paired)) ∙ sym c.index.ensures ∙ c.if-index.false in
    c.index-else-index.ensures ∙ get_or_default_zero c.self.inside.raw.items c.args.unit c.index-else-index.result.now inside
    ∙ sym (at_small c.self.inside.raw.items c.self.inside.large.items c.self.inside.offset c.args.unit inside flag) ∙ ap (λ (v : RankedUnits). get_or v.numer c.args.unit 0) c.self.view_is
