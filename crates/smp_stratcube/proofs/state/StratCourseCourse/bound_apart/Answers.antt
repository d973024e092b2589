use Rattle.std.proofs.Common.{List, ap, ◌∙◌, sym}
use Rattle.smp_split.specs.Trees.{weight_sum}
use Rattle.smp_stratcube.specs.{declared.values.Value.{Value}, Pairs.{paired_parts}, Kept.Trees.{strat_parts}}
use Rattle.smp_stratcube.proofs.Keeping.{pair_sum, settling}
use Rattle.smp_stratcube.proofs.state.StratCourseCourse.bound_apart.Goals as goal

pub returns : goal.returns
returns c =
    c.bound.ensures ∙ ap (λ (vs : List Value). weight_sum (paired_parts c.args.units.now vs)) c.as_slice.ensures.value ∙ sym (pair_sum c.args.units.now c.args.self.now.values.items c.args.self.now.left)
    ∙ ap (λ s. weight_sum (strat_parts c.args.units.now s)) (settling c.args.self.now.phase _ c.args.self.now.values.items c.args.self.now.left c.requires.finds.pairing)
