-- A selection starts from any fractional values, and in particular from those of a request.
use Rattle.std.proofs.Common.{◌≡◌, ℕ, ◌≤◌, Bool, true, List, [], ◌∷◌, length, map, replicate, get_or, suc, ◌<◌, arith, refl, ap, ◌∙◌}
use Rattle.std.specs.Prelude.{ℤ}
use Rattle.smp_frac.proofs.Arithmetic.{same_refl}
use Rattle.smp_near.specs.Nearest.{all_living}
use Rattle.smp_prob.specs.{declared.requests.Request.{Request}, Requests.{IsRequest}, Shares.{Shares, numerators, shares_of}}
use Rattle.smp_prob.proofs.Fractions.{length-numerators}
use Rattle.smp_split.specs.{Counts.{LeavesSelectAround}, Methods.{Starts}}
use Rattle.smp_split.proofs.Methods.{starts_around}
use Rattle.smp_values.specs.{Starts.{IsRequested}, Values.{fractional, value_at}}
use Rattle.smp_values.proofs.Requests.{few_shares, requested_values, shares_fractional, shares_in_range}
use Rattle.smp_localpiv.specs.{Local.{IsLocal, local_tree, located_values}, Method.{method_of, started}, Kept.States.{IsOpen, IsWeighed}}
use Rattle.smp_localpiv.proofs.{Counts.{leaf_around}, Weights.{all_ones}}

-- the points of values that are all fractional are all living
all_alive : (den : ℕ) (xs : List ℕ) → ((k : ℕ) → k < length xs → fractional den (get_or xs k 0) ≡ true) → replicate (length xs) true ≡ map (fractional den) xs
all_alive den [] all = refl
all_alive den (x ∷ xs) all = rw (all 0 (omega arith)) (ap (λ (rest : List Bool). true ∷ rest) (all_alive den xs (λ k h. all (suc k) (omega arith))))

-- the state that the code starts with
pub first_weighed : (dimensions : ℕ) (coords : List (List ℤ)) (s : Shares) → IsOpen dimensions coords s → IsWeighed (all_living coords).living s (replicate {A = ℕ} (length s.numer) 1)
first_weighed dimensions coords s is = record {
  alive = ap (λ units. replicate units true) is.placed ∙ all_alive s.den s.numer is.open_at;
  weights_are = all_ones s.den s.numer is.open_at;
}

module _ (dimensions : ℕ) (coords : List (List ℤ)) (s : Shares) (is : IsOpen dimensions coords s) where
  first_local : IsLocal (length s.numer) (located_values coords s)
  first_local = record { values = is.values; few = is.narrow; placed = is.placed; meets = tt }

  pub local_around : LeavesSelectAround (method_of (located_values coords s)).tree (located_values coords s)
  local_around = leaf_around (length s.numer) (located_values coords s) first_local

  pub local_starts : Starts (method_of (located_values coords s)) (located_values coords s)
  local_starts = starts_around (method_of (located_values coords s)) (located_values coords s) first_local local_around

-- ---- the values of a request

module _ (request : Request) (is : IsRequest request) (coords : List (List ℤ)) where
  pub starts_open : (dimensions : ℕ) → (1 ≤ dimensions) × (dimensions ≤ 4) → length coords ≡ length request.free → IsOpen dimensions coords (shares_of request)
  starts_open dimensions few placed = record {
    few = few;
    values = shares_in_range request is;
    narrow = few_shares request is;
    placed = omega (arith, length-numerators request is);
    open_at = shares_fractional request is;
  }

  pub starts_requested : IsRequested (local_tree (length (numerators request))) request (started request coords)
  starts_requested = requested_values request is (local_tree (length (numerators request))) (started request coords) refl (λ k h. same_refl (value_at (shares_of request) k))
