use Rattle.smp_frac.proofs.Arithmetic.{same_trans}
use Rattle.smp_split.specs.{Laws.Means.{probability_is_value}, Laws.Rows.{rows_method}}
use Rattle.smp_split.proofs.{RowsAround.{rows_around}, RowsAsked.{value_is_asked, rows_select}}
use Rattle.smp_split.proofs.rows.Rows.select_as_asked.Goals as goal

pub returns-clause-probability : goal.returns-clause-probability
returns-clause-probability g c row here =
    let design = c.args.self.now in
    let method = rows_method design.rows design.request.now (g.D.Splitting.method design.design) in
    same_trans (probability_is_value method.tree method.belongs method.lawful c.args.state.now c.requires.belongs row here) (value_is_asked design.rows design.request.now (g.D.Splitting.method design.design).tree c.args.state.now c.requires.serves row)

pub returns-clause-count : goal.returns-clause-count
returns-clause-count g c n adds fills =
    let design = c.args.self.now in
    rows_select design.rows design.request.now (g.D.Splitting.method design.design).tree c.args.state.now c.requires.serves (g.D.Splitting.method design.design).belongs n c.requires.belongs.paired adds fills

pub returns-clause-around : goal.returns-clause-around
returns-clause-around g c apart inside around =
    let design = c.args.self.now in
    rows_around design.rows design.request.now (λ u l. inside u 0 l) apart (g.D.Splitting.method design.design).tree c.requires.belongs.paired (g.D.Splitting.method design.design).belongs c.args.state.now around
