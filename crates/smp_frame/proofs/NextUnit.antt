-- A unit more in front of the others.
use Rattle.std.proofs.Common.{◌≡◌, ℕ, ◌+◌, Bool, true, false, List, [], ◌∷◌, ◌++◌, Result, Ok, Err, nat_le, refl, sym, ap, ◌∙◌, append_assoc}
use Rattle.smp_frac.specs.{Limits.{most_rows}, Faults.{◌>>=◌, guard}}
use Rattle.smp_frame.specs.{Frames.{unit_of, units_from}, Kept.Readers.{Takes}, declared.layout.Layout.{Layout}}
use Rattle.smp_frame.specs.declared.frame.Unit as unit
use Rattle.smp_frame.specs.{declared.fault.FrameFault.{FrameFault}, declared.fault.FrameFault.TheVariants.{TooManyRows}}
use Rattle.smp_frame.proofs.Front.{with_front}

longer : (front : List unit.Unit) (first : unit.Unit) (units : Result (List unit.Unit) FrameFault) → with_front (front ++ first ∷ []) units ≡ with_front front (units >>= λ rest. Ok (first ∷ rest))
longer front first (Ok units) = ap Ok (append_assoc front (first ∷ []) units)
longer front first (Err fault) = refl

-- the next row is within the limit and has a unit
pub next_unit : (layout : Layout) (front : List unit.Unit) (number : ℕ) (ids row : List (List ℕ)) (old new : List (List (List ℕ))) (found : Bool) (first : unit.Unit)
    → nat_le number most_rows ≡ true → found ≡ true → Takes found row old new → unit_of layout number ids row ≡ Ok first
    → with_front (front ++ first ∷ []) (units_from layout (number + 1) (ids ++ first.id ∷ []) new) ≡ with_front front (units_from layout number ids old)
next_unit layout front number ids row old new false first within is taken reads = absurd (cc is)
next_unit layout front number ids row old new true first within is taken reads =
    let further = units_from layout (number + 1) (ids ++ first.id ∷ []) new in
    longer front first further
    ∙ ap (with_front front) (ap (λ r. r >>= λ (u : unit.Unit). units_from layout (number + 1) (ids ++ u.id ∷ []) new >>= λ rest. Ok (u ∷ rest)) (sym reads)
    ∙ ap (λ b. guard b TooManyRows >>= λ _. unit_of layout number ids row >>= λ (u : unit.Unit). units_from layout (number + 1) (ids ++ u.id ∷ []) new >>= λ rest. Ok (u ∷ rest)) (sym within)
    ∙ ap (units_from layout number ids) (sym taken))
