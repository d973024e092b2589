use Rattle.std.proofs.Common.{◌≡◌, ℕ, List, Global, Vec, length, rules, sym, ap, ◌∙◌, None, Some, Err, arith, refl}
use Rattle.std.specs.{Prelude.{Bool}, Vec.{vec_len}}
use Rattle.smp_design.specs.{Words.{draws_together, row}, declared.design.Design.{Design}}
use Rattle.smp_frame.specs.declared.frame.Unit as unit
use Rattle.smp_design.proofs.Rows.{few_columns}
use Rattle.smp_strata.specs.{declared.begun.Begun.{Begun}, Misfits.{misfit_by, psu_too_large, row_limit, row_limit_by}}
use Rattle.smp_strata.specs.Clusters.{stratum_names}
use Rattle.smp_strata.proofs.{Laid.{all_rows}, Members.{names_few}}
use Rattle.smp_strata.proofs.MisfitOrder.{by_parts, kind_1, kind_2, kind_3, last_kind, or_first, or_then, passed}
use Rattle.smp_strata.proofs.building.planned_strata.Goals as goal

limit_at : (design : Design) (units : List unit.Unit) {together : Bool} {strata variables : ℕ} → together ≡ draws_together design.procedure.method → strata ≡ length (stratum_names units) → variables ≡ length design.columns.balance
    → row_limit_by together strata variables ≡ row_limit design units
limit_at design units a b d = rw (a, b, d) refl

pub returns-in_err-no_unit_in_two-clause-misfit : goal.returns-in_err-no_unit_in_two-clause-misfit
returns-in_err-no_unit_in_two-clause-misfit c =
    let same : c.from_residual.result ≡ Err c.in_err-no_unit_in_two.field-0.0 = search rules in
    rw same (passed (Unit {0}) (Vec Begun Global) c.in_err-no_unit_in_two.field-0.0 _ _ c.in_err-no_unit_in_two.ensures (kind_1 c.args.design.now c.args.units.now))

pub returns-in_err-none_too_large-clause-misfit : goal.returns-in_err-none_too_large-clause-misfit
returns-in_err-none_too_large-clause-misfit c =
    let said = rw (c.requires.layout.rows, c.as_slice-columns.ensures) at c.in_err-none_too_large.ensures in
    let same : c.from_residual-in_err-none_too_large.result ≡ Err c.in_err-none_too_large.field-0.0 = search rules in
    rw same (passed (Unit {0}) (Vec Begun Global) c.in_err-none_too_large.field-0.0 _ _ said (kind_2 c.args.design.now c.args.units.now c.in_ok-no_unit_in_two.ensures))

pub begun_strata-requires-clause-small : goal.begun_strata-requires-clause-small
begun_strata-requires-clause-small c =
    rw (c.requires.layout.rows, c.as_slice-columns.ensures) at c.in_ok-none_too_large.ensures

pub returns-in_err-begun-clause-misfit : goal.returns-in_err-begun-clause-misfit
returns-in_err-begun-clause-misfit c =
    let small : psu_too_large c.args.design.now c.args.units.now ≡ None = rw (c.requires.layout.rows, c.as_slice-columns.ensures) at c.in_ok-none_too_large.ensures in
    let same : c.from_residual-in_err-begun.result ≡ Err c.in_err-begun.field-0.0 = search rules in
    rw same (passed (Vec Begun Global) (Vec Begun Global) c.in_err-begun.field-0.0 _ _ c.in_err-begun.ensures.misfit
    (λ m is. kind_3 c.args.design.now c.args.units.now c.in_ok-no_unit_in_two.ensures small m (by_parts c.args.design.now c.args.units.now c.requires.layout.design ∙ or_first _ _ m is)))

pub put_units-requires-clause-small : goal.put_units-requires-clause-small
put_units-requires-clause-small c =
    rw (c.requires.layout.rows, c.as_slice-columns.ensures) at c.in_ok-none_too_large.ensures

pub returns-in_err-put_units-clause-misfit : goal.returns-in_err-put_units-clause-misfit
returns-in_err-put_units-clause-misfit c =
    let small : psu_too_large c.args.design.now c.args.units.now ≡ None = rw (c.requires.layout.rows, c.as_slice-columns.ensures) at c.in_ok-none_too_large.ensures in
    let same : c.from_residual-in_err-put_units.result ≡ Err c.in_err-put_units.field-0.0 = search rules in
    rw same (passed (Unit {0}) (Vec Begun Global) c.in_err-put_units.field-0.0 _ _ c.in_err-put_units.ensures.misfit
    (λ m is. kind_3 c.args.design.now c.args.units.now c.in_ok-no_unit_in_two.ensures small m
    (by_parts c.args.design.now c.args.units.now c.requires.layout.design ∙ or_then _ _ (Some m) c.in_ok-begun.ensures.misfit is)))

pub rows_fit-requires-clause-strata : goal.rows_fit-requires-clause-strata
rows_fit-requires-clause-strata c =
    let len : length c.args.strata.now.names.items ≡ vec_len c.args.strata.now.names = search rules in
    omega (arith, c.len.ensures, len, ap (λ (ns : List (List ℕ)). length ns) c.requires.layout.names, names_few c.args.design.now c.args.units.now (all_rows c.requires.layout), c.requires.layout.frame.few)

pub rows_fit-requires-clause-variables : goal.rows_fit-requires-clause-variables
rows_fit-requires-clause-variables c =
    omega (arith, ap (λ (ns : List (List ℕ)). length ns) c.as_slice-columns.ensures, c.requires.layout.design.balance, few_columns (row c.args.design.now.procedure.method).needs c.args.design.now.procedure.balance c.args.design.now.procedure.near c.requires.layout.design.procedure.columns)

pub returns-in_err-rows_fit-clause-misfit : goal.returns-in_err-rows_fit-clause-misfit
returns-in_err-rows_fit-clause-misfit c =
    let small : psu_too_large c.args.design.now c.args.units.now ≡ None = rw (c.requires.layout.rows, c.as_slice-columns.ensures) at c.in_ok-none_too_large.ensures in
    let len : length c.args.strata.now.names.items ≡ vec_len c.args.strata.now.names = search rules in
    let is : row_limit_by c.draws_together.result c.len.result (length c.as_slice-columns.result.now) ≡ row_limit c.args.design.now c.args.units.now =
    limit_at c.args.design.now c.args.units.now c.draws_together.ensures (c.len.ensures ∙ sym len ∙ ap (λ (ns : List (List ℕ)). length ns) c.requires.layout.names) (ap (λ (ns : List (List ℕ)). length ns) c.as_slice-columns.ensures) in
    let parts : misfit_by c.args.design.now.columns.prob c.args.design.now c.args.units.now ≡ None =
    by_parts c.args.design.now c.args.units.now c.requires.layout.design ∙ or_then _ _ None c.in_ok-begun.ensures.misfit c.in_ok-put_units.ensures.misfit in
    let same : c.from_residual-in_err-rows_fit.result ≡ Err c.in_err-rows_fit.field-0.0 = search rules in
    rw same (passed (Unit {0}) (Vec Begun Global) c.in_err-rows_fit.field-0.0 _ _ c.in_err-rows_fit.ensures
    (λ m found. last_kind c.args.design.now c.args.units.now c.in_ok-no_unit_in_two.ensures small parts (Some m) (sym is ∙ found)))

pub returns-clause-misfit : goal.returns-clause-misfit
returns-clause-misfit c =
    let small : psu_too_large c.args.design.now c.args.units.now ≡ None = rw (c.requires.layout.rows, c.as_slice-columns.ensures) at c.in_ok-none_too_large.ensures in
    let len : length c.args.strata.now.names.items ≡ vec_len c.args.strata.now.names = search rules in
    let is : row_limit_by c.draws_together.result c.len.result (length c.as_slice-columns.result.now) ≡ row_limit c.args.design.now c.args.units.now =
    limit_at c.args.design.now c.args.units.now c.draws_together.ensures (c.len.ensures ∙ sym len ∙ ap (λ (ns : List (List ℕ)). length ns) c.requires.layout.names) (ap (λ (ns : List (List ℕ)). length ns) c.as_slice-columns.ensures) in
    let parts : misfit_by c.args.design.now.columns.prob c.args.design.now c.args.units.now ≡ None =
    by_parts c.args.design.now c.args.units.now c.requires.layout.design ∙ or_then _ _ None c.in_ok-begun.ensures.misfit c.in_ok-put_units.ensures.misfit in
    last_kind c.args.design.now c.args.units.now c.in_ok-no_unit_in_two.ensures small parts None (sym is ∙ c.in_ok-rows_fit.ensures)
