-- Rows written one after another.
use Rattle.std.proofs.Common.{◌≡◌, ℕ, List, ◌++◌, Option, Some, None, append_assoc, ap, ◌∙◌}
use Rattle.std.specs.Prelude.{option_map}
use Rattle.smp_weights.specs.Rows.{AddsRow}

-- a row that was to come is now written
pub row_added : (old new : Option (List ℕ)) (text rest whole : List ℕ) → AddsRow old new text → option_map (λ before. before ++ (text ++ rest)) old ≡ Some whole → option_map (λ before. before ++ rest) new ≡ Some whole
row_added None new text rest whole adds h = absurd (let there = adds.there in cc)
row_added (Some before) new text rest whole adds h = rw adds.added (ap Some (append_assoc before text rest) ∙ h)
