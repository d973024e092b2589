-- What a layout says of its strata, as the functions that go by it read them.
use Rattle.std.proofs.{Common.{◌≡◌, ℕ, ◌<◌, ◌≤◌, List, [], length, get_or, rules, arith, ◌∙◌, ap}, lemmas.List.{get_or_default}}
use Rattle.std.specs.{Prelude.{All, map}, Vec.{vec_len}}
use Rattle.smp_frac.specs.Limits.{most_rows}
use Rattle.smp_frame.specs.declared.frame.Unit as unit
use Rattle.smp_design.specs.declared.design.Design.{Design}
use Rattle.smp_strata.specs.{Clusters.{clusters, stratum_name, stratum_names}, Rows.{size_of}, Kept.Groups.{places_of}}
use Rattle.smp_strata.specs.{Plans.{cluster_counts, first_probs, first_sizes, sample_size, sample_sizes}, declared.layout.Strata.{Strata}}
use Rattle.smp_strata.specs.Kept.Layouts.{AreGroups, AreRows, IsLaidOut, prob_of}
use Rattle.smp_strata.proofs.Members.{few_members, group_of, homes, length_samples, lengths_are, places_within, probs_are, sizes_are}
use Rattle.smp_strata.proofs.Totals.{how_many}

module _ {design : Design} {units : List unit.Unit} {clustered : List (List ℕ)} {strata : Strata}
    (layout : IsLaidOut design units clustered strata) where
  pub all_rows : All (AreRows (length units)) (clusters design.second units)
  all_rows = rw layout.rows at layout.all_rows

  pub groups : AreGroups (homes design units all_rows) (length (stratum_names units)) strata.members.items strata.places.items
  groups = rw (layout.strata_homes, layout.rows, layout.names) at layout.groups

  -- how many first stage units each stratum has
  pub counts : map length strata.members.items ≡ cluster_counts design units
  counts = lengths_are design units all_rows strata.members.items strata.places.items groups

  module _ (k : ℕ) (number : k < length strata.names.items) where
    pub here : k < length (stratum_names units)
    here = rw layout.names at number

    pub within : k < length strata.members.items
    within = omega (arith, how_many _ _ _ _ layout.groups, number)

    pub in_members : k < vec_len strata.members
    in_members = omega (arith, long, within)
      where
        long : length strata.members.items ≡ vec_len strata.members
        long = search rules

    -- the numbers of a stratum's first stage units
    pub members : (read : List ℕ) → read ≡ get_or strata.members.items k read → read ≡ places_of (homes design units all_rows) k
    members read is =
        is ∙ get_or_default strata.members.items k read [] within
        ∙ group_of design units all_rows k here strata.members.items strata.places.items groups

    -- their sizes, and their probabilities
    pub sizes : (read : List ℕ) → read ≡ get_or strata.members.items k read
        → map (λ i. get_or (map (size_of units) clustered) i 0) read ≡ first_sizes design units k
    sizes read is =
        rw (layout.rows, members read is) (sizes_are design units all_rows k here)

    pub probs : (read : List ℕ) → read ≡ get_or strata.members.items k read
        → map (prob_of units clustered) read ≡ first_probs design units k
    probs read is = rw (layout.rows, members read is) (probs_are design units all_rows k here)

    -- how many of them are drawn
    pub sampled : (samples : List ℕ) → samples ≡ sample_sizes design units → k < length samples
    sampled samples are = omega (arith, here, length_samples design units all_rows, ap length are)

    pub sample : (samples : List ℕ) → samples ≡ sample_sizes design units → (n : ℕ) → n ≡ get_or samples k n
        → n ≡ sample_size design units k
    sample samples are n is =
        is ∙ get_or_default samples k n 0 (sampled samples are) ∙ ap (λ xs. get_or xs k 0) are

  -- the loops over strata come to those that are there
  pub there : (k end : ℕ) → k < end → end ≡ vec_len strata.names → k < length strata.names.items
  there k end before is = omega (arith, long, before, is)
    where
      long : length strata.names.items ≡ vec_len strata.names
      long = search rules

  -- the numbers of a stratum's first stage units are numbers of first stage units, and not too many
  pub members_within : (k : ℕ) → k < length strata.names.items → (read : List ℕ) → read ≡ get_or strata.members.items k read → All (λ i. i < length clustered) read
  members_within k number read is = rw (members k number read is, layout.rows) (places_within design units all_rows k)

  pub members_few : (k : ℕ) → k < length strata.names.items → (read : List ℕ) → read ≡ get_or strata.members.items k read → length read ≤ most_rows
  members_few k number read is =
      rw (is ∙ get_or_default strata.members.items k read [] (within k number))
      (few_members design units all_rows strata.members.items strata.places.items groups layout.frame.few k [] (within k number))

  -- the name of a stratum
  pub name : (k : ℕ) → k < length strata.names.items → (read : List ℕ) → read ≡ get_or strata.names.items k read → read ≡ stratum_name units k
  name k number read is = is ∙ get_or_default strata.names.items k read [] number ∙ ap (λ ns. get_or ns k []) layout.names

  -- where a loop over strata ends, all have been looked at
  pub all_looked_at : (k end : ℕ) → k ≤ end → end ≤ k → end ≡ vec_len strata.names → k ≡ length (stratum_names units)
  all_looked_at k end most past is = omega (arith, long, most, past, is, ap length layout.names)
    where
      long : length strata.names.items ≡ vec_len strata.names
      long = search rules
