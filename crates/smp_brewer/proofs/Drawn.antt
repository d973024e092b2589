-- Between two offers the values add up to the units that are taken and those still to be drawn.
use Rattle.std.proofs.Common.{◌≡◌, ℕ, zero, suc, ◌+◌, ◌*◌, ◌<◌, ◌≤◌, max, pos, ◌*ℤ◌, cond, List, [], ◌∷◌, length, map, get_or, arith, refl, sym, ap, ◌∙◌, inl, inr}
use Rattle.std.specs.List.{sum, count_by}
use Rattle.std.proofs.{lemmas.Bool.{cases_Bool, cases_eq, eqb-true}, lemmas.List.{get_or-map, length-map}, lemmas.List.Sums.{sum_by-cons}}
use Rattle.smp_frac.specs.Fractions.{Same, over}
use Rattle.smp_frac.proofs.{Arithmetic.{cancel, same_sym}, Over.{over_one}}
use Rattle.smp_split.specs.Counts.{AddsUp}
use Rattle.smp_split.proofs.Sums.{list_adds_up, list_adds}
use Rattle.smp_brewer.specs.{Sizes.{marks_taken}, declared.offers.Offers.{Offers}, Kept.Sizes.{share_of}, Laws.Sums.{sum-cons}}
use Rattle.smp_brewer.specs.Brewer.{offering, total, size_of, offering_value, brewing_tree}

-- the units that are taken and those still to be drawn are n
abbrev pub DrawsInAll : ℕ → Offers → Type 0
DrawsInAll n o = count_by marks_taken o.sizes + o.draws ≡ n

-- a share is the whole for each unit that is taken, and its size times the draws for each other one
pub shares_sum : (all draws : ℕ) (zs : List ℕ) → sum (map (share_of all draws) zs) ≡ count_by marks_taken zs * all + sum zs * draws
shares_sum all draws [] = omega arith
shares_sum all draws (z ∷ zs) =
    let first : sum (map (share_of all draws) (z ∷ zs)) ≡ share_of all draws z + sum (map (share_of all draws) zs) = sum-cons (share_of all draws z) (map (share_of all draws) zs) in
    let count : count_by marks_taken (z ∷ zs) ≡ cond (marks_taken z) 1 0 + count_by marks_taken zs = sum_by-cons (λ y. cond (marks_taken y) 1 0) z zs in
    elim (cases_Bool (marks_taken z)) [
      | inl e ↦
          (let share : share_of all draws z ≡ all = rw e refl in
          let one : cond (marks_taken z) 1 0 ≡ suc zero = rw e refl in
          (let same : sum (z ∷ zs) ≡ sum zs = omega (arith, sum-cons z zs, eqb-true z 0 e) in omega (arith, first, ap (λ x. x * all) count, ap (λ x. x * all) one, share, ap (λ x. x * draws) same, shares_sum all draws zs)))
      | inr e ↦
          (let share : share_of all draws z ≡ z * draws = rw e refl in
          let none : cond (marks_taken z) 1 0 ≡ zero = rw e refl in
          omega (arith, first, ap (λ x. x * all) count, ap (λ x. x * all) none, share, ap (λ x. x * draws) (sum-cons z zs), shares_sum all draws zs))
    ]

-- numerators over the total, or over 1 where it is 0
abbrev all_of : Offers → ℕ
all_of o = max 1 (total o)

over_all : (a t : ℕ) → Same (over a t) (over a (max 1 t))
over_all a t = let same : max 1 (max 1 t) ≡ max 1 t = omega arith in record { cross = ap (λ d. pos a *ℤ pos d) same }

all_drawn : (t draws : ℕ) → (1 ≤ draws → 1 ≤ t) → t * draws ≡ max 1 t * draws
all_drawn t draws some =
    elim (cases_eq draws 0) [
      | inl e ↦ rw e (omega arith)
      | inr ne ↦ (let one : 1 ≤ t = some (omega (arith, ne)) in let same : t ≡ max 1 t = omega arith in ap (λ x. x * draws) same)
    ]

module _ (units : ℕ) (o : Offers) (count : length o.sizes ≡ units) (some : 1 ≤ o.draws → 1 ≤ total o) where
  offering_sum : sum (map (share_of (all_of o) o.draws) o.sizes) ≡ (count_by marks_taken o.sizes + o.draws) * all_of o
  offering_sum = omega (arith, shares_sum (all_of o) o.draws o.sizes, all_drawn (total o) o.draws some)

  offering_values : (k : ℕ) → k < units → Same (offering_value o k) (over (get_or (map (share_of (all_of o) o.draws) o.sizes) k 0) (all_of o))
  offering_values k h =
      rw (get_or-map (share_of (all_of o) o.draws) o.sizes k 0 0 (omega (arith, h, count))) (elim (cases_Bool (marks_taken (size_of o k))) [
        | inl e ↦ rw e (same_sym (over_one (all_of o) (omega arith)))
        | inr e ↦ rw e (over_all (size_of o k * o.draws) (total o))
      ])

  pub offering_adds_up : (n : ℕ) → DrawsInAll n o → AddsUp (brewing_tree units) n (offering o)
  offering_adds_up n draws =
      list_adds_up (brewing_tree units) (offering o) (map (share_of (all_of o) o.draws) o.sizes) (all_of o) (omega arith) (length-map o.sizes (share_of (all_of o) o.draws) ∙ count) offering_values n
      (offering_sum ∙ ap (λ m. m * all_of o) draws)

  pub offering_adds : (n : ℕ) → AddsUp (brewing_tree units) n (offering o) → DrawsInAll n o
  offering_adds n adds =
      cancel (count_by marks_taken o.sizes + o.draws) n (all_of o) (omega arith)
      (sym offering_sum ∙ list_adds (brewing_tree units) (offering o) (map (share_of (all_of o) o.draws) o.sizes) (all_of o) (omega arith) (length-map o.sizes (share_of (all_of o) o.draws) ∙ count) offering_values n adds)
