-- The answer of a search. There is one, and only one: that is a law of the kernel.
use Rattle.std.specs.Prelude.{ℕ, List, ℤ}
use Rattle.smp_kernel.specs.RowReduction.{cut}
use Rattle.smp_kernel.specs.Searches.{Search, IsSearch}
use Rattle.smp_kernel.proofs.SearchLaw.{answer_of}

-- what a search answers that goes through these columns, cut to q rows
pub search : ℕ → List (List ℤ) → Search
search q columns = (answer_of q columns).0

-- it has the properties of a search, and no other answer has
pub search_is : (q : ℕ) (columns : List (List ℤ)) → IsSearch q (cut q columns) (search q columns)
unfolding search
search_is q columns = (answer_of q columns).1
