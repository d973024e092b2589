-- The quotas of a table's entries, one after the other.
use Rattle.std.proofs.Common.{◌≡◌, ℕ, List, [], ◌∷◌, ◌++◌, Option, Some, None, option_map, map, IfSome, Ok, refl, sym, ap, ◌∙◌, append_assoc}
use Rattle.std.specs.{Prelude.{unwrap_or}, List.Sorted.{IsStrictlySortedBy}, Map.{keys_of}, String.{string_cmp}}
use Rattle.toml.specs.{Data.{Data, Members, no_members, member}, View.{members_view}}
use Rattle.toml.proofs.Views.{Entry}
use Rattle.smp_design.specs.{Bounds.{Ascend}, Faults.{good}, Values.{number, quotas_of}}
use Rattle.smp_design.specs.Keys as keys
use Rattle.smp_design.proofs.{FirstKeys.{keys_ascend}, Went.{goes_on, mapped}}
use Rattle.smp_design.specs.declared.design.Quota as quota

moved : (done : List quota.Quota) (q : quota.Quota) (rest : Option (List quota.Quota)) → option_map (λ more. (done ++ q ∷ []) ++ more) rest ≡ option_map (λ more. done ++ more) (option_map (λ more. q ∷ more) rest)
moved done q None = refl
moved done q (Some more) = ap Some (append_assoc done (q ∷ []) more)

-- a good entry goes behind the quotas so far
pub quotas_of-more : (done : List quota.Quota) (name : List ℕ) (n : ℕ) (value : Data) (rest : Members) (all : Option (List quota.Quota)) → number value ≡ Some n
    → option_map (λ more. done ++ more) (quotas_of (member name value rest)) ≡ all
    → option_map (λ more. (done ++ record { stratum = name; n = n } ∷ []) ++ more) (quotas_of rest) ≡ all
quotas_of-more done name n value rest all good h = moved done (record { stratum = name; n = n }) (quotas_of rest) ∙ (rw good at h)

-- the quotas' strata are the table's keys
strata_are_keys : (t : Members) (qs : List quota.Quota) → quotas_of t ≡ Some qs → map (λ q. q.stratum) qs ≡ keys.keys_of t
strata_are_keys no_members qs h = let is : [] ≡ qs = (let same : ◌≡◌ {A = Option (List quota.Quota)} (Some []) (Some qs) = h in cc) in ap (λ ys. map (λ q. q.stratum) ys) (sym is)
strata_are_keys (member stratum value rest) qs h =
    let first = goes_on (λ n. option_map (λ more. record { stratum = stratum; n = n } ∷ more) (quotas_of rest)) (number value) qs h in
    let more = mapped (λ (more : List quota.Quota). record { stratum = stratum; n = first.value } ∷ more) (quotas_of rest) qs first.gives in
    let is : record { stratum = stratum; n = first.value } ∷ more.value ≡ qs = (let same : ◌≡◌ {A = Option (List quota.Quota)} (Some (record { stratum = stratum; n = first.value } ∷ more.value)) (Some qs) = more.gives in cc) in
    ap (λ (ys : List quota.Quota). map (λ q. q.stratum) ys) (sym is) ∙ ap (λ names. stratum ∷ names) (strata_are_keys rest more.value more.is)

-- so they ascend
pub quotas_ascend : (es : List Entry) (qs : List quota.Quota) → IsStrictlySortedBy string_cmp (keys_of es) → quotas_of (members_view es) ≡ Some qs → Ascend qs
quotas_ascend es qs ordered h = rw (strata_are_keys (members_view es) qs h) (keys_ascend es ordered)

-- quotas of a good value, if there are any, and none where there aren't
pub good-ascend : (key : List ℕ) (o : Option (Option (List quota.Quota))) (qs : Option (List quota.Quota)) → IfSome o (λ quotas. IfSome quotas Ascend) → good key o ≡ Ok qs → Ascend (unwrap_or qs [])
unfolding IsStrictlySortedBy
good-ascend key None qs h is = absurd (cc)
good-ascend key (Some None) qs h is = let same : ◌≡◌ {A = Option (List quota.Quota)} None qs = cc in rw (← same) tt
good-ascend key (Some (Some xs)) qs h is = let same : Some xs ≡ qs = cc in rw (← same) h
