use Rattle.std.proofs.Common.{◌<◌, List, arith, length, ap, ◌∙◌, sym, subst}
use Rattle.smp_split.specs.Trees.{picked}
use Rattle.smp_moves.specs.Cubes.{pairing}
use Rattle.smp_stratcube.specs.{declared.values.Value.{Value}, Kept.Fronts.{IsAhead, IsFront}, Kept.Trees.{strat_parts}}
use Rattle.smp_stratcube.proofs.Keeping.{pair_ahead, pair_behind, pair_sum, picks_pair, settling}
use Rattle.smp_stratcube.proofs.state.StratCourseCourse.go_apart.Goals as goal

pub front_of-self-requires : goal.front_of-self-requires
front_of-self-requires c =
    subst (λ (vs : List Value). IsAhead vs c.args.self.now.front) (sym (c.as_slice.ensures.value ∙ c.advance.ensures)) (pair_ahead c.args.units.now c.args.self.now.values.items c.requires.finds.state c.args.self.now.front c.requires.finds.first (omega (arith, c.requires.finds.first.short)) (rw c.requires.finds.pairing at c.requires.going) c.args.draw (subst (λ n. c.args.draw < n) (pair_sum c.args.units.now c.args.self.now.values.items c.args.self.now.left) (rw c.requires.finds.pairing at c.requires.within)))

pub returns-clause-kept : goal.returns-clause-kept
returns-clause-kept c = record {
  few = omega (arith, ap length c.advance.ensures, (pair_behind c.args.units.now c.args.self.now.values.items c.requires.finds.state c.args.self.now.front c.requires.finds.first (omega (arith, c.requires.finds.first.short)) (rw c.requires.finds.pairing at c.requires.going) c.args.draw (subst (λ n. c.args.draw < n) (pair_sum c.args.units.now c.args.self.now.values.items c.args.self.now.left) (rw c.requires.finds.pairing at c.requires.within))).0, c.requires.finds.few);
  first = subst (λ (vs : List Value). IsFront vs c.front_of-self.result) c.as_slice.ensures.value c.front_of-self.ensures;
  step = rw c.requires.finds.pairing tt;
}

pub returns-clause-is : goal.returns-clause-is
returns-clause-is c =
    sym (settling c.args.self.now.phase _ c.advance.new.values.items c.args.self.now.left c.requires.finds.pairing) ∙ ap (λ (vs : List Value). pairing vs c.args.self.now.left) c.advance.ensures
    ∙ sym (picks_pair c.args.units.now c.args.self.now.values.items c.args.self.now.left c.args.draw)
    ∙ ap (λ s. picked s (strat_parts c.args.units.now s) c.args.draw) (settling c.args.self.now.phase _ c.args.self.now.values.items c.args.self.now.left c.requires.finds.pairing)
