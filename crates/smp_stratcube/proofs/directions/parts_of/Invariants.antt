use Rattle.std.proofs.Common.{◌≡◌, ℕ, Option, Some, fold, take, length}
use Rattle.smp_moves.specs.declared.lines.Ratio.{Ratio}
use Rattle.smp_stratcube.specs.Kept.{Gates.{IsSome, gated}, Lines.{AreParts}}
use Rattle.smp_stratcube.proofs.directions.parts_of.Given as goal

-- the products so far, and their least common denominator
abbrev pub invariant-loop-place : goal.invariant-loop-place
invariant-loop-place l = record {
  long : length l.parts ≡ 17;
  are : AreParts l.units l.front.units l.factors.w l.place l.parts;
  scale : l.scale ≡ fold (λ (m : Option ℕ) (r : Ratio). gated m r.den) (Some 1) (take l.place l.parts);
  some : IsSome l.scale;
}
