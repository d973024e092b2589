-- The frame of the worked draw, by computing: what its bytes say.
use Rattle.std.specs.{Prelude.{◌≡◌, [], ◌∷◌, codes, Ok}, Str.{chars, is_utf8}}
use Rattle.std.proofs.Common.{refl}
use Rattle.csv.specs.{Machine.{next_record}, Reading.{records_from}}
use Rattle.smp_frac.specs.Divisors.{greatest_common_divisor}
use Rattle.smp_frame.specs.{Fields.{size_of}, Layouts.{layout_of}, Sized.{sized_columns, sized_unit}}
use Rattle.smp_frame.specs.Frames as frames

pub frame_is : frames.frame_of sized_columns (codes "id,size\na,1\nb,2\nc,3\nd,4\n")
    ≡ Ok (sized_unit (codes "a") 1 ∷ sized_unit (codes "b") 2 ∷ sized_unit (codes "c") 3 ∷ sized_unit (codes "d") 4 ∷ [])
unfolding frames.frame_of frames.unit_of greatest_common_divisor records_from next_record is_utf8 chars layout_of size_of lib.Utf8.encode
frame_is = refl
