-- How the request for given probabilities is found: by their numerators over one denominator.
use Rattle.std.specs.Prelude.{ℕ, Bool, not, nat_lt, ◌&&◌, List, filter}
use Rattle.smp_prob.specs.declared.requests.Request.{Request}
use Rattle.smp_prob.specs.Given.{draws, out_of}
use Rattle.smp_prob.specs.Requested.{places}
use Rattle.smp_prob.specs.Shapes.{shape_of}

-- a numerator from the denominator on, and one between 0 and the denominator
abbrev pub full : ℕ → ℕ → Bool
full den z = not (nat_lt z den)

abbrev pub between : ℕ → ℕ → Bool
between den z = nat_lt 0 z && nat_lt z den

-- the request for the numerators of all units
abbrev pub over_of : ℕ → List ℕ → Request
over_of den numerators = record {
  certain = places (full den) 0 numerators;
  free = places (between den) 0 numerators;
  shape = shape_of (filter (between den) numerators);
  r = draws den (filter (between den) numerators);
  total = out_of den (filter (between den) numerators);
}
