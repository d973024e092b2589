use Rattle.std.proofs.{Common.{arith, append-nil, [], ◌≡◌, ◌++◌, option_map, ap, sym, ◌∙◌, string_bytes, Some}, lemmas.Grind.{common_steps}}
use Rattle.toml.specs.View.{view, members_view}
use Rattle.toml.proofs.Views.{Entry}
use Rattle.smp_design.specs.Values.{number, quotas_of}
use Rattle.smp_design.proofs.QuotasOf.{quotas_of-more, quotas_ascend}
use Rattle.smp_design.proofs.values.quotas_of.Goals as goal

pub loop-stratum-preserved : goal.loop-stratum-preserved
loop-stratum-preserved c =
    let e : Entry = (c.in-Some.stratum.now, c.in-Some.value.now) in
    let before = ap (λ es. option_map (λ more. c.loop-stratum.quotas.items ++ more) (quotas_of (members_view es))) (sym c.in-Some.ensures.steps) ∙ c.loop-stratum.invariant in
    let good : number (view e.1) ≡ Some c.in-Some-number.n = sym c.in-Some-number.ensures in
    rw (c.in_ok-push-in-Some-number.ensures.items, c.in_ok-from_str-in-Some-number.ensures, c.as_str.ensures.value) (quotas_of-more c.loop-stratum.quotas.items (string_bytes e.0) c.in-Some-number.n (view e.1) (members_view c.next.new.self) _ good before)

pub returns-clause-ascending : goal.returns-clause-ascending
returns-clause-ascending c =
    let none : c.loop-stratum.stratum-iterator ≡ [] = grind (arith, common_steps) in
    let all = sym (rw none at c.loop-stratum.invariant) ∙ ap Some (append-nil c.loop-stratum.quotas.items) in
    rw c.from_vec.ensures (quotas_ascend c.args.table.now.entries c.loop-stratum.quotas.items c.iter-stratum-items.ensures.ordered all)
