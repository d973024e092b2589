-- A selection starts from the offers of a request, and from any that are in range.
use Rattle.std.proofs.Common.{◌≡◌, ℕ, zero, suc, ◌*◌, ◌<◌, ◌≤◌, false, cond, List, [], ◌∷◌, length, get_or, arith, refl}
use Rattle.std.specs.List.{sum, count_by}
use Rattle.std.proofs.{lemmas.Bool.{ne_eqb}, lemmas.List.Sums.{sum_by-cons}}
use Rattle.smp_frac.proofs.Arithmetic.{same_refl}
use Rattle.smp_prob.specs.{declared.requests.Request.{Request}, Requests.{IsRequest}, Inclusions.{free_fraction}, Shares.{draws_of}}
use Rattle.smp_split.specs.Methods.{Starts}
use Rattle.smp_split.proofs.Methods.{starts}
use Rattle.smp_values.specs.Starts.{IsRequested}
use Rattle.smp_brewer.specs.{Sizes.{marks_taken}, declared.offers.Offers.{Offers}, Brewer.{offering, brewing_tree, IsOffers}}
use Rattle.smp_brewer.specs.{Laws.Answers.{some_left}, Method.{method_of}}
use Rattle.smp_brewer.proofs.{Drawn.{offering_adds_up, offering_adds}, Counts.{leaf_count}}

none_taken : (zs : List ℕ) → ((k : ℕ) → k < length zs → 1 ≤ get_or zs k 0) → count_by marks_taken zs ≡ 0
none_taken [] h = refl
none_taken (z ∷ zs) h =
    let first : 1 ≤ z = h 0 (omega arith) in
    let none : cond (marks_taken z) 1 0 ≡ zero = rw (ne_eqb z 0 (omega (arith, first))) refl in
    omega (arith, sum_by-cons (λ y. cond (marks_taken y) 1 0) z zs, none, none_taken zs (λ k l. h (suc k) (omega arith)))

-- the offers of a request give each unit the value that is requested of it
module _ (request : Request) (is : IsRequest request) (whole : sum request.shape ≡ request.total) where
  abbrev asked : Offers
  asked = record { sizes = request.shape; draws = draws_of request; refused = 0 }

  draws_are : 1 ≤ length request.free → draws_of request ≡ request.r
  draws_are some = rw (ne_eqb (length request.free) 0 (omega (arith, some))) refl

  pub starts_requested : IsRequested (brewing_tree (length request.shape)) request (offering asked)
  starts_requested = record {
    units = is.paired;
    values = λ unit here.
        (let open_size : marks_taken (get_or request.shape unit 0) ≡ false = ne_eqb (get_or request.shape unit 0) 0 (omega (arith, is.positive unit (omega (arith, here, is.paired)))) in
        rw (open_size, whole, draws_are (omega (arith, here))) (same_refl (free_fraction request unit)));
    whole = λ some _.
        (let first : 0 < length request.shape = omega (arith, some, is.paired) in
        let below : get_or request.shape 0 0 * request.r < request.total = is.below_one 0 first in
        let none : count_by marks_taken request.shape ≡ 0 = none_taken request.shape is.positive in
        offering_adds_up (length request.shape) asked refl (λ _. omega (arith, whole, below)) request.r (omega (arith, none, draws_are some)));
  }

pub brewing_starts : (o : Offers) → IsOffers (length o.sizes) o → Starts (method_of (offering o)) (offering o)
brewing_starts o ok =
    starts (method_of (offering o)) (offering o) ok
    (λ n adds. leaf_count (length o.sizes) n o ok (offering_adds (length o.sizes) o refl (λ going. some_left (length o.sizes) o ok going) n adds))
