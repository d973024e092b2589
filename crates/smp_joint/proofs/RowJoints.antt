-- The joint probability of two rows, by what is written down for each of them.
use Rattle.std.proofs.Common.{◌≡◌, ◌≢◌, ℕ, ◌+◌, ◌*◌, ◌/◌, ◌<◌, false, nat_eq, List, [], ◌∷◌, ◌++◌, length, get_or, Some, arith, sym, ap, subst, ◌∙◌, inl, inr, length-append}
use Rattle.std.specs.{Prelude.{option_map}, List.{slice_get}}
use Rattle.std.proofs.{Math.Seq.{get_or-append_seam}, lemmas.Bool.{cases_eq, eq-eqb, ne_eqb}, lemmas.List.{get_or_append_left, length-map}}
use Rattle.std.proofs.lemmas.Option.{get_or_from_slice_get, same_Some, slice_get-map, slice_get_within}
use Rattle.smp_frac.specs.{Fractions.{Fraction, Same, over, times}, declared.fractions.Frac.{Frac}, Exact.{fraction}}
use Rattle.smp_frac.proofs.Arithmetic.{same_trans, times_same}
use Rattle.smp_prob.specs.{declared.inclusions.Inclusion.TheVariants.{Free}, Inclusions.{asked_fraction, fraction_at, inclusion}}
use Rattle.smp_prob.specs.{Requests.{IsRequest}, Shares.{Shares, common_divisor, shares_of}}
use Rattle.smp_split.specs.Laws.Rows.{free_within}
use Rattle.smp_strata.specs.{Plans.{Plan}, Seats.{first_fraction}, declared.strata.Seat.{Seat}, declared.strata.Stratum.{Stratum}}
use Rattle.smp_twostage.specs.Selections.{place_of}
use Rattle.smp_joint.specs.{Both.{both_of}, JointRows.{joint_at_seats}, Joints.{joint_at}, Kept.{arcs_of}, Rows.{AreRows, StandsAt}}
use Rattle.smp_joint.specs.declared.row.Row.{Row}

-- what is written down for a row
pub stands : (strata : List Stratum) (seat : Seat) (row : Row) (s : Stratum) → slice_get strata seat.stratum ≡ Some s → IsRequest s.request
    → row.stratum ≡ seat.stratum → row.inclusion ≡ inclusion s.request seat.unit → Same (fraction row.asked) (asked_fraction s.request seat.unit) → StandsAt strata seat row
stands strata seat row s there sound number standing asked = record {
  stratum = s;
  there = there;
  number = number;
  inclusion = standing;
  asked = subst (λ i. Same (fraction row.asked) (fraction_at s.request i)) (sym standing) asked;
  free = λ place is. (let within : place < length s.request.free = free_within s.request seat.unit place (sym standing ∙ is) in
      omega (arith, within, sound.paired, length-map s.request.shape (λ shape. shape * (s.request.r / common_divisor s.request))));
}

-- one of the rows of a plan
pub row_stands : (plan : Plan) (rows : List Row) (k : ℕ) (row : Row) → AreRows plan rows → k < plan.rows → row ≡ get_or rows k row → StandsAt plan.strata (place_of plan.strata k) row
row_stands plan rows k row all within read = subst (StandsAt plan.strata (place_of plan.strata k)) (sym read) (all.each k row within)

-- one row more
pub one_more : (strata : List Stratum) (rows more : List Row) (n : ℕ) (row : Row) → length rows ≡ n → ((k : ℕ) (d : Row) → k < n → StandsAt strata (place_of strata k) (get_or rows k d))
    → StandsAt strata (place_of strata n) row → more ≡ rows ++ row ∷ []
    → (length more ≡ n + 1) × ((k : ℕ) (d : Row) → k < n + 1 → StandsAt strata (place_of strata k) (get_or more k d))
one_more strata rows more n row count before stands more_is =
    let size : length more ≡ length rows + 1 = ap length more_is ∙ length-append rows (row ∷ []) in (
      omega (arith, size, count),
      λ k d within. elim (cases_eq k n) [
        | inl last ↦
            (let read : get_or more k d ≡ row = ap (λ xs. get_or xs k d) more_is ∙ ap (λ i. get_or (rows ++ row ∷ []) i d) (last ∙ sym count) ∙ get_or-append_seam rows row [] d in
            subst (λ i. StandsAt strata (place_of strata i) (get_or more k d)) (sym last) (subst (StandsAt strata (place_of strata n)) (sym read) stands))
        | inr other ↦
            (let less : k < n = omega (arith, within, other) in
            let inside : k < length rows = omega (arith, less, count) in
            let read : get_or more k d ≡ get_or rows k d = ap (λ xs. get_or xs k d) more_is ∙ get_or_append_left rows (row ∷ []) d k inside in
            subst (StandsAt strata (place_of strata k)) (sym read) (before k d less))
      ],
    )

-- each stratum has its arcs
pub arcs_within : (strata : List Stratum) (arcs : List Shares) (h : ℕ) (s : Stratum) → arcs ≡ arcs_of strata → slice_get strata h ≡ Some s → h < length arcs
arcs_within strata arcs h s are there = omega (arith, ap length are, length-map strata (λ (t : Stratum). shares_of t.request), slice_get_within strata h s there)

-- the arcs of a stratum
pub arcs_at : (strata : List Stratum) (all : List Shares) (h : ℕ) (s : Stratum) (arcs : Shares) → all ≡ arcs_of strata → slice_get strata h ≡ Some s → arcs ≡ get_or all h arcs → arcs ≡ shares_of s.request
arcs_at strata all h s arcs are there read =
    read ∙ ap (λ xs. get_or xs h arcs) are ∙ get_or_from_slice_get (arcs_of strata) h (shares_of s.request) arcs (slice_get-map (λ (t : Stratum). shares_of t.request) strata h ∙ ap (option_map (λ (t : Stratum). shares_of t.request)) there)

-- the probability of a row's first stage unit
first_is : (strata : List Stratum) (seat : Seat) (row : Row) (is : StandsAt strata seat row) → Same (fraction row.asked) (first_fraction strata seat.stratum seat.unit)
first_is strata seat row is = rw is.there (subst (λ i. Same (fraction row.asked) (fraction_at is.stratum.request i)) is.inclusion is.asked)

module _ (strata : List Stratum) (a b : Seat) (p q : Row) (one : StandsAt strata a p) (other : StandsAt strata b q) where
  -- rows of two strata
  pub apart : p.stratum ≢ q.stratum → (f : Frac) → Same (fraction f) (times (fraction p.asked) (fraction q.asked)) → Same (fraction f) (joint_at_seats strata a b)
  apart differ f same =
      let two : nat_eq a.stratum b.stratum ≡ false = ne_eqb a.stratum b.stratum (λ e. differ (one.number ∙ e ∙ sym other.number)) in
      rw two (same_trans same (times_same (first_is strata a p one) (first_is strata b q other)))

  module _ (same : p.stratum ≡ q.stratum) where
    seats_same : a.stratum ≡ b.stratum
    seats_same = sym one.number ∙ same ∙ other.number

    strata_same : other.stratum ≡ one.stratum
    strata_same = same_Some other.stratum one.stratum (sym other.there ∙ ap (slice_get strata) (sym seats_same) ∙ one.there)

    -- rows of one stratum
    pub together : (f : Fraction) → Same f (joint_at one.stratum.request p.inclusion q.inclusion) → Same f (joint_at_seats strata a b)
    together f joint =
        let second : q.inclusion ≡ inclusion one.stratum.request b.unit = other.inclusion ∙ ap (λ (s : Stratum). inclusion s.request b.unit) strata_same in
        rw (eq-eqb a.stratum b.stratum seats_same, one.there)
        (subst (λ j. Same f (joint_at one.stratum.request (inclusion one.stratum.request a.unit) j)) second (subst (λ i. Same f (joint_at one.stratum.request i q.inclusion)) one.inclusion joint))

    -- the probability of the second one, by the stratum of the first
    pub own : Same (fraction q.asked) (fraction_at one.stratum.request q.inclusion)
    own = subst (λ (s : Stratum). Same (fraction q.asked) (fraction_at s.request q.inclusion)) strata_same other.asked

    -- two free units
    pub frees : (i j : ℕ) (arcs : Shares) (both den : ℕ) (f : Fraction) → p.inclusion ≡ Free i → q.inclusion ≡ Free j → arcs ≡ shares_of one.stratum.request → both ≡ both_of arcs i j → den ≡ arcs.den → Same f (over both den) → Same f (joint_at_seats strata a b)
    frees i j arcs both den f first second are both_is den_is value =
        let counted : both ≡ both_of (shares_of one.stratum.request) i j = both_is ∙ ap (λ s. both_of s i j) are in
        let circle : den ≡ (shares_of one.stratum.request).den = den_is ∙ ap (λ (s : Shares). s.den) are in
        together f (rw (first, second) (subst (λ n. Same f (over n (shares_of one.stratum.request).den)) counted (subst (λ d. Same f (over both d)) circle value)))

    -- each has an arc
    pub arc_first : (i : ℕ) (arcs : Shares) → p.inclusion ≡ Free i → arcs ≡ shares_of one.stratum.request → i < length arcs.numer
    arc_first i arcs is are = subst (λ (s : Shares). i < length s.numer) (sym are) (one.free i is)

    pub arc_second : (j : ℕ) (arcs : Shares) → q.inclusion ≡ Free j → arcs ≡ shares_of one.stratum.request → j < length arcs.numer
    arc_second j arcs is are = subst (λ (s : Shares). j < length s.numer) (sym (are ∙ ap (λ (s : Stratum). shares_of s.request) (sym strata_same))) (other.free j is)
