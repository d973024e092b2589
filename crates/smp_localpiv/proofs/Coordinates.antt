-- Coordinates that are written one after another.
use Rattle.std.proofs.{Common.{◌≡◌, ℕ, ◌<◌, ℤ, pos, List, length, get_or, arith, sym, ◌∙◌}, lemmas.List.{ext_get_or}}
use Rattle.std.specs.Prelude.{slice_index_or}
use Rattle.std.proofs.lemmas.List.FromFn.{length-map-range_with_len, get_or-map-range_with_len}
use Rattle.smp_localpiv.specs.Coordinates.{point_of}

pub point_is : (count : ℕ) (point values : List ℤ) → length point ≡ count → ((k : ℕ) → k < count → get_or point k (pos 0) ≡ get_or values k (pos 0)) → point ≡ point_of count values
point_is count point values size each =
    ext_get_or (pos 0) point (point_of count values) (size ∙ sym (length-map-range_with_len (λ k. slice_index_or values k (pos 0)) 0 count))
    (λ k l. let here : k < count = omega (arith, size, l) in each k here ∙ sym (get_or-map-range_with_len (λ j. slice_index_or values j (pos 0)) 0 count k k (pos 0) here (omega arith)))
