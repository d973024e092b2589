-- The sample of the worked draw, by computing: c with the probability 6/10 and d with 8/10.
use Rattle.std.specs.{Prelude.{◌≡◌, [], ◌∷◌, codes}, Fmt.{digits}}
use Rattle.std.proofs.Common.{refl}
use Rattle.csv.specs.Writing.{fields_text, is_blank}
use Rattle.smp_frac.specs.{Fractions.{over}, Divisors.{greatest_common_divisor}}
use Rattle.smp_weights.specs.Sample.{sample_file, sample_row}

pub row_of_c : sample_row (codes "c") (over 6 10) ≡ codes "c,5/3\n"
unfolding greatest_common_divisor digits fields_text is_blank
row_of_c = refl

pub file_of_both : sample_file ((codes "c", over 6 10) ∷ (codes "d", over 8 10) ∷ []) ≡ codes "id,weight\nc,5/3\nd,5/4\n"
unfolding greatest_common_divisor digits fields_text is_blank
file_of_both = refl
