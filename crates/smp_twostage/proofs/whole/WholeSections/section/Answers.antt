use Rattle.std.proofs.{Common.{◌≡◌, ◌+◌, ◌<◌, suc, leb, arith, rules, ap, ◌∙◌}, lemmas.List.Sorted.{IsPartitionPoint-from_clause}}
use Rattle.smp_split.proofs.StageSections.{section}
use Rattle.smp_twostage.specs.{Kept.Stages.{first_numbers}, Selections.{section_count, stages_before}}
use Rattle.smp_twostage.proofs.{Found.{parted, section_at, some, stratum_is}, Inside.{first_at, length_firsts}}
use Rattle.smp_twostage.proofs.whole.WholeSections.section.Goals as goal

pub overflow_sub-result : goal.overflow_sub-result
overflow_sub-result c =
    let view = ap first_numbers c.self.view_is in
    let are : c.as_slice-firsts.result.now ≡ first_numbers c.args.self.now = cc in
    let point = IsPartitionPoint-from_clause (λ first. leb first c.at-at.result) _ _ c.partition_point.ensures.partitioned (parted c.args.self.now c.as_slice-firsts.result.now are c.at-at.result) (λ a r q k. search rules) in
    some c.args.self.now c.as_slice-firsts.result.now are c.at-at.result c.partition_point.result c.partition_point.ensures.bound point

pub returns : goal.returns
returns c =
    let view = ap first_numbers c.self.view_is in
    let are : c.as_slice-firsts.result.now ≡ first_numbers c.args.self.now = cc in
    let point = IsPartitionPoint-from_clause (λ first. leb first c.at-at.result) _ _ c.partition_point.ensures.partitioned (parted c.args.self.now c.as_slice-firsts.result.now are c.at-at.result) (λ a r q k. search rules) in
    stratum_is c.args.self.now c.as_slice-firsts.result.now are c.at-at.result c.partition_point.result c.partition_point.ensures.bound point
    ∙ ap (section (stages_before c.args.self.now) (section_count c.args.self.now)) c.at-at.ensures

pub returns-then-at-firsts-2 : goal.returns-then-at-firsts-2
returns-then-at-firsts-2 c =
    let own = c.args.self.now in
    let view = ap first_numbers c.self.view_is in
    let are : c.as_slice-firsts.result.now ≡ first_numbers c.args.self.now = cc in
    let at = c.at-at.result in
    let firsts = c.as_slice-firsts.result.now in
    let within : at < section_count own = omega (arith, c.if-at-firsts.true, length_firsts own firsts are) in
    let plus : at + 1 ≡ suc at = omega arith in
    section_at own firsts are at at within (omega (arith, c.if-firsts-at.true, first_at own firsts are at 0 (omega (arith, within))))
    (omega (arith, c.if-at-firsts-2.true, first_at own firsts are (at + 1) 0 (omega (arith, within)), ap (stages_before own) plus))
    ∙ ap (section (stages_before own) (section_count own)) c.at-at.ensures
