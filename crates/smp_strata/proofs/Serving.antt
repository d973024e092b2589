-- The strata of a plan, as their first stage units are put in.
use Rattle.std.proofs.Common.{◌≡◌, ℕ, ◌+◌, ◌<◌, ◌≤◌, ◌^◌, Bool, List, [], ◌∷◌, length, map, get_or, set, Option, None, Some, arith, refl, sym, ap, ◌∙◌}
use Rattle.std.specs.{Prelude.{All}, Str.{bytes_eq}}
use Rattle.std.proofs.{lemmas.List.{get_or-map, length-map, map-append}, lemmas.List.Elements.{All-filter, All-map}}
use Rattle.std.proofs.{lemmas.List.FromFn.{get_or-map-range_with_len}, lemmas.List.Sums.{length-filter, count_by-le-length}}
use Rattle.smp_frac.specs.Limits.{most_rows}
use Rattle.smp_design.specs.declared.design.Design.{Design}
use Rattle.smp_design.specs.declared.design.Second as second
use Rattle.smp_frame.specs.declared.frame.Unit as unit
use Rattle.smp_frame.specs.Bounds.{IsFrame}
use Rattle.smp_strata.specs.{Bounds.{IsFirst}, Clusters.{clusters, clusters_in, strata_numbers, stratum_names, stratum_name, first_row}}
use Rattle.smp_strata.specs.{Draws.{SecondDraws}, Misfits.{first_found, second_too_many}, Rows.{second_size_at, stratum_at}}
use Rattle.smp_strata.specs.{Plans.{first_of, request_by, second_sizes, stratum_of}, Kept.Groups.{places_below, places_of}}
use Rattle.smp_strata.specs.declared.strata.FirstUnit as first
use Rattle.smp_strata.specs.declared.strata.Stratum as stratum
use Rattle.smp_strata.specs.Kept.Built.{IsBuilt, IsBuiltFirst, IsFirstRequest, second_method, second_short, so_far, with_unit}
use Rattle.smp_strata.specs.Kept.Layouts.{AreRows}
use Rattle.smp_strata.proofs.{Expected.{given_size}, Founds.{each_none}, Grouped.{other_group, put_by, same_group}, Ranges.{map_range_ext}}
use Rattle.smp_strata.proofs.{Members.{count_all, homes, members_are}, Totals.{map_twice}}

pub second_small : (units : List unit.Unit) (rows : List ℕ) → IsFrame units → All (λ row. row < length units) rows
    → (i : ℕ) → i < length (second_sizes units rows) → get_or (second_sizes units rows) i 0 < 2 ^ 31
second_small units rows frame within i l =
    let here : i < length rows = omega (arith, l, length-map rows (second_size_at units)) in
    rw (get_or-map (second_size_at units) rows i 0 0 here) (frame.second_small (get_or rows i 0) (within i 0 here))

-- the first psu with too few rows, where there is a second stage
pub seconds_are : (second : Option second.Second) (units : List unit.Unit) → first_found (second_short second units) (clusters second units) ≡ second_too_many second units
seconds_are None units = each_none (second_short None units) (clusters None units) (λ k d l. refl)
seconds_are (Some s) units = refl

module _ (design : Design) (units : List unit.Unit) (rows : All (AreRows (length units)) (clusters design.second units)) where
  abbrev all : List (List ℕ)
  all = clusters design.second units

  -- a stratum with first stage units, by their numbers
  abbrev with_firsts : ℕ → List ℕ → stratum.Stratum
  with_firsts k numbers = record {
    name = stratum_name units k;
    units = map (λ i. first_of design units (get_or all i [])) numbers;
    request = request_by design.columns.prob design units k;
  }

  -- the next first stage unit is put into its stratum
  pub put_next : (i number : ℕ) (f : first.FirstUnit) (strata : List stratum.Stratum) (d : stratum.Stratum) → number ≡ get_or (homes design units rows) i 0 → number < length (stratum_names units)
      → f ≡ first_of design units (get_or all i []) → strata ≡ map (so_far design units (homes design units rows) i) (strata_numbers units)
      → set strata number (with_unit (get_or strata number d) f) ≡ map (so_far design units (homes design units rows) (i + 1)) (strata_numbers units)
  put_next i number f strata d is within f_is are =
      let hs : List ℕ = homes design units rows in
      let old : get_or strata number d ≡ so_far design units hs i number =
      ap (λ ss. get_or ss number d) are ∙ get_or-map-range_with_len (so_far design units hs i) 0 (length (stratum_names units)) number number d within (omega arith) in
      put_by (so_far design units hs i) (so_far design units hs (i + 1)) (length (stratum_names units)) number d _ strata within are
      (rw (old, f_is) (ap (λ fs. record { name = stratum_name units number; units = fs; request = request_by design.columns.prob design units number })
      (sym (map-append (λ j. first_of design units (get_or all j [])) (places_below hs i number) (i ∷ [])))
      ∙ ap (with_firsts number) (sym (same_group hs i number (sym is)))))
      (λ k other. ap (with_firsts k) (sym (other_group hs i k (λ e. other (sym e ∙ sym is)))))

  -- when all are put in, these are the strata
  pub all_put : (strata : List stratum.Stratum) (n : ℕ) → n ≡ length (homes design units rows) → strata ≡ map (so_far design units (homes design units rows) n) (strata_numbers units)
      → strata ≡ map (stratum_of design units) (strata_numbers units)
  all_put strata n is are =
      are ∙ map_range_ext (so_far design units (homes design units rows) n) (stratum_of design units) 0 (length (stratum_names units))
      (λ k l u. rw is (ap (λ fs. record { name = stratum_name units k; units = fs; request = request_by design.columns.prob design units k })
      (sym (map_twice (first_of design units) (λ i. get_or all i []) (places_of (homes design units rows) k))
      ∙ ap (map (first_of design units)) (members_are design units rows k (omega (arith, u))))))

  -- what is known of a stratum
  pub built : length units ≤ most_rows → All (IsBuiltFirst design units) all → (k : ℕ) → IsFirstRequest design units k (request_by design.columns.prob design units k)
      → IsBuilt design units k
  built few firsts k asked =
      let p : List ℕ → Bool = λ g. bytes_eq (stratum_at units (first_row g)) (stratum_name units k) in
      let cs : List (List ℕ) = clusters_in design units k in
      let own : All (IsBuiltFirst design units) cs = All-filter p (IsBuiltFirst design units) all firsts in
      let long : length (map (first_of design units) cs) ≡ length cs = length-map cs (first_of design units) in
      record {
        stratum = record {
          some = omega (arith, asked.some, long);
          few = omega (arith, few, long, length-filter p all, count_by-le-length p all, count_all design.second units);
          over = rw long asked.over;
          firsts = All-map (IsFirst (second_method design)) (first_of design units) cs (λ j d l. (own j d l).first);
        };
        request = asked;
        draws = record {
          firsts = λ n number. rw long (asked.draws n number);
          rows = All-map (λ (f : first.FirstUnit). SecondDraws design.second (length f.rows) f.second) (first_of design units) cs (λ j d l. (own j d l).draws);
          expected = rw long (given_size design units k (request_by design.columns.prob design units k) design.columns.prob refl asked.asks);
        };
        firsts = own;
      }
