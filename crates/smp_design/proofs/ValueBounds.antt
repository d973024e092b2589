-- What is true of the values that keys have.
use Rattle.std.proofs.Common.{◌≡◌, ℕ, ℤ, pos, negsuc, ◌≤◌, true, ◌&&◌, nat_le, List, [], ◌∷◌, length, Option, Some, None, option_map, IfSome, sym, ap, subst}
use Rattle.std.specs.Prelude.{All, if◌then◌else◌, option_and_then, is_some}
use Rattle.std.proofs.{lemmas.Bool.{and_parts, leb-true}, lemmas.List.Elements.{All-nil, All-cons}}
use Rattle.smp_frac.specs.Limits.{most_rows}
use Rattle.toml.specs.Data.{Data, Members, no_members, member, as_integer, as_array, as_table}
use Rattle.smp_design.specs.declared.design.Quota as quota
use Rattle.smp_design.specs.{declared.method.Method.{Method}, Bounds.{InRange}, Procedures.{From1To}, Words.{in_second}}
use Rattle.smp_design.specs.Values.{last_version, from_1_to, integer_to, version, number, method, second_method, names, strings, quotas_of, quotas, optional}
use Rattle.smp_design.proofs.Went.{goes_on, mapped, passes}

from_1_to-range : (most : ℕ) (z : ℤ) (n : ℕ) → from_1_to most z ≡ Some n → From1To most n
from_1_to-range most (pos m) n h =
    let test = passes (nat_le 1 m && nat_le m most) (Some m) n h in
    let parts = and_parts (nat_le 1 m) (nat_le m most) test.holds in
    let is : m ≡ n = (let same : ◌≡◌ {A = Option ℕ} (Some m) (Some n) = test.gives in cc) in
    subst (λ (k : ℕ). From1To most k) is (leb-true 1 m parts.0, leb-true m most parts.1)
from_1_to-range most (negsuc m) n h = absurd (cc)

integer-range : (most : ℕ) (value : Data) (n : ℕ) → integer_to most value ≡ Some n → From1To most n
integer-range most value n h =
    let step = goes_on (from_1_to most) (as_integer value) n h in
    from_1_to-range most step.value n step.gives

pub version-range : (value : Data) (n : ℕ) → version value ≡ Some n → From1To last_version n
version-range value n h = integer-range last_version value n h

pub number-range : (value : Data) (n : ℕ) → number value ≡ Some n → InRange n
number-range value n h = integer-range most_rows value n h

quotas_of-range : (t : Members) (qs : List quota.Quota) → quotas_of t ≡ Some qs → All (λ q. InRange q.n) qs
quotas_of-range no_members qs h =
    let is : [] ≡ qs = (let same : ◌≡◌ {A = Option (List quota.Quota)} (Some []) (Some qs) = h in cc) in
    subst (λ (ys : List quota.Quota). All (λ q. InRange q.n) ys) is (All-nil (λ (q : quota.Quota). InRange q.n))
quotas_of-range (member stratum value rest) qs h =
    let first = goes_on (λ n. option_map (λ more. record { stratum = stratum; n = n } ∷ more) (quotas_of rest)) (number value) qs h in
    let more = mapped (λ (more : List quota.Quota). record { stratum = stratum; n = first.value } ∷ more) (quotas_of rest) qs first.gives in
    let is : record { stratum = stratum; n = first.value } ∷ more.value ≡ qs = (let same : ◌≡◌ {A = Option (List quota.Quota)} (Some (record { stratum = stratum; n = first.value } ∷ more.value)) (Some qs) = more.gives in cc) in
    subst (λ (ys : List quota.Quota). All (λ q. InRange q.n) ys) is
    (All-cons (λ (q : quota.Quota). InRange q.n) (record { stratum = stratum; n = first.value }) more.value (number-range value first.value first.is) (quotas_of-range rest more.value more.is))

pub quotas-range : (value : Data) (qs : List quota.Quota) → quotas value ≡ Some qs → All (λ q. InRange q.n) qs
quotas-range value qs h =
    let step = goes_on quotas_of (as_table value) qs h in
    quotas_of-range step.value qs step.gives

-- 1 to `most` names
abbrev pub Few : ℕ → List (List ℕ) → Type 0
Few most xs = (1 ≤ length xs) × (length xs ≤ most)

pub names-few : (most : ℕ) (value : Data) (xs : List (List ℕ)) → names most value ≡ Some xs → Few most xs
names-few most value xs h =
    let step = goes_on (λ (them : List (List ℕ)). if nat_le 1 (length them) && nat_le (length them) most then Some them else None) (option_and_then strings (as_array value)) xs h in
    let test = passes (nat_le 1 (length step.value) && nat_le (length step.value) most) (Some step.value) xs step.gives in
    let parts = and_parts (nat_le 1 (length step.value)) (nat_le (length step.value) most) test.holds in
    let is : step.value ≡ xs = (let same : ◌≡◌ {A = Option (List (List ℕ))} (Some step.value) (Some xs) = test.gives in cc) in
    subst (λ (ys : List (List ℕ)). Few most ys) is (leb-true 1 (length step.value) parts.0, leb-true (length step.value) most parts.1)

pub second_method-is : (version : ℕ) (value : Data) (m : Method) → second_method version value ≡ Some m → in_second m ≡ true
second_method-is version value m h =
    let step = goes_on (λ (k : Method). if in_second k then Some k else None) (method version value) m h in
    let test = passes (in_second step.value) (Some step.value) m step.gives in
    let is : step.value ≡ m = (let same : ◌≡◌ {A = Option Method} (Some step.value) (Some m) = test.gives in cc) in
    subst (λ (k : Method). in_second k ≡ true) is test.holds

-- an optional value: what holds of every good one, and whether it is there
pub optional-holds : {A : Type 0} (P : A → Type 0) (read : Data → Option A) → ((value : Data) (x : A) → read value ≡ Some x → P x) → (o : Option Data) (x : Option A) → optional read o ≡ Some x → IfSome x P
optional-holds P read holds None None h = tt
optional-holds P read holds None (Some x) h = absurd (let same : ◌≡◌ {A = Option (Option _)} (Some None) (Some (Some x)) = h in cc)
optional-holds P read holds (Some value) None h = tt
optional-holds {A} P read holds (Some value) (Some x) h =
    let step = mapped (λ (y : A). Some y) (read value) (Some x) h in
    let is : step.value ≡ x = (let same : ◌≡◌ {A = Option (Option A)} (Some (Some step.value)) (Some (Some x)) = step.gives in cc) in
    subst P is (holds value step.value step.is)

pub optional-there : {A : Type 0} (read : Data → Option A) (o : Option Data) (x : Option A) → optional read o ≡ Some x → is_some x ≡ is_some o
optional-there {A} read None x h = let is : ◌≡◌ {A = Option A} None x = (let same : ◌≡◌ {A = Option (Option A)} (Some None) (Some x) = h in cc) in ap is_some (sym is)
optional-there {A} read (Some value) x h =
    let step = mapped (λ (y : A). Some y) (read value) x h in
    let is : Some step.value ≡ x = (let same : ◌≡◌ {A = Option (Option A)} (Some (Some step.value)) (Some x) = step.gives in cc) in
    ap is_some (sym is)
