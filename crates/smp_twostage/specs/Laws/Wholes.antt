-- The splits of a selection are lawful, and it goes through its strata.
use Rattle.std.proofs.Common.{List, [], ◌∷◌}
use Rattle.smp_split.specs.Methods.{Method}
use Rattle.smp_split.specs.Sectioning.{IsSectioned}
use Rattle.smp_split.specs.Trees.{Part, EachPart, IsPart, Lawful}
use Rattle.smp_methods.specs.declared.any.AnyState.{AnyState}
use Rattle.smp_methods.specs.Methods.{method_of}
use Rattle.smp_split.specs.Laws.Rows.{rows_lawful}
use Rattle.smp_split.specs.Stages.{Progress, IsUnderWay}
use Rattle.smp_split.specs.Laws.Staged.{staged_lawful}
use Rattle.smp_split.proofs.StageSections.{staged_sectioned}
use Rattle.smp_strata.specs.Plans.{Plan}
use Rattle.smp_twostage.specs.Plans.{CanBeDrawn}
use Rattle.smp_twostage.specs.Selections.{BelongsToCovered, BelongsToWhole, Coverage, Selecting, all_of, belongs_to, covered_seats}
use Rattle.smp_twostage.specs.Selections.{covered_stages, covered_tree, section_count, stages_before, strata_sections, tree_of}
use Rattle.smp_twostage.specs.Selections.{whole_tree}
use Rattle.smp_twostage.specs.Laws.Covered.{covered_staged, strata_are_sections}

pub stage_lawful : (s : Selecting) → Lawful (tree_of s) (belongs_to s)
stage_lawful s = rows_lawful s.units s.request (method_of s.design).tree (method_of s.design).belongs (method_of s.design).lawful

module _ (c : Coverage) (drawable : CanBeDrawn c.plan) (state : Progress AnyState) where
  each_belongs : (parts : List (Part (Progress AnyState)))
      → EachPart (IsPart (covered_tree c) (IsUnderWay tree_of belongs_to (covered_stages c)) state) parts
      → EachPart (IsPart (covered_tree c) (BelongsToCovered c) state) parts
  each_belongs [] each = tt
  each_belongs (p ∷ ps) each = (
    record {
      heavy = each.0.heavy;
      falls = each.0.falls;
      member = record { drawable = drawable; member = each.0.member };
    },
    each_belongs ps each.1,
  )

staged_law : (c : Coverage) → CanBeDrawn c.plan → Lawful (covered_tree c) (IsUnderWay tree_of belongs_to (covered_stages c))
staged_law c drawable = staged_lawful tree_of belongs_to stage_lawful (covered_stages c) (covered_seats c) (covered_staged c drawable)

pub covered_lawful : (c : Coverage) → Lawful (covered_tree c) (BelongsToCovered c)
covered_lawful c = record {
  split = λ s here going.
      (let parts = (staged_law c here.drawable).split s here.member going in
      record {
        some = parts.some;
        narrow = parts.narrow;
        each = each_belongs c here.drawable s ((covered_tree c).parts s) parts.each;
        even = parts.even;
      });
  end = λ s here done. (staged_law c here.drawable).end s here.member done;
}

-- the method that draws what is covered
abbrev pub covered_method : (c : Coverage) → Method (Progress AnyState)
covered_method c = record { tree = covered_tree c; belongs = BelongsToCovered c; lawful = covered_lawful c }

pub whole_lawful : (plan : Plan) → Lawful (whole_tree plan) (BelongsToWhole plan)
whole_lawful plan = covered_lawful (all_of plan)

-- ---- it goes through its strata, one after the other

pub strata_sectioned : (c : Coverage) → IsSectioned (covered_tree c) (BelongsToCovered c) (strata_sections c)
strata_sectioned c = record {
  going = λ s here going. (staged_sectioned tree_of belongs_to (covered_stages c) (covered_seats c)
      (covered_staged c here.drawable) (stages_before c) (section_count c)
      (strata_are_sections c)).going s here.member going;
  done = λ s here done. (staged_sectioned tree_of belongs_to (covered_stages c) (covered_seats c)
      (covered_staged c here.drawable) (stages_before c) (section_count c)
      (strata_are_sections c)).done s here.member done;
  rises = λ s here going. (staged_sectioned tree_of belongs_to (covered_stages c) (covered_seats c)
      (covered_staged c here.drawable) (stages_before c) (section_count c)
      (strata_are_sections c)).rises s here.member going;
}
