-- What is true of each part of a design that was read.
use Rattle.std.proofs.Common.{◌≡◌, ℕ, true, false, not, ◌&&◌, List, [], Option, Some, None, IfSome, Result, Ok, codes, refl, ap, ◌∙◌, arith}
use Rattle.std.specs.{Option.{option_map_or}, Prelude.{All, IfNone, option_and_then, is_some, unwrap_or}}
use Rattle.toml.specs.Data.{Data, Members, get_member, as_str, as_table}
use Rattle.smp_prob.specs.declared.orders.Order.TheVariants as the_order
use Rattle.smp_design.specs.declared.design.Quota as quota
use Rattle.smp_design.specs.{declared.method.Method.{Method}, declared.method.Needs.TheVariants.{Nothing}, Bounds.{InRange}}
use Rattle.smp_design.specs.{declared.reading.UnitColumns.{UnitColumns}, declared.reading.SampleSize.{SampleSize}}
use Rattle.smp_design.specs.{declared.reading.SecondStage.{SecondStage}, declared.reading.ValueColumns.{ValueColumns}}
use Rattle.smp_design.specs.Designs.{unit_columns, sample_size, value_columns, second_stage_of, second_stage}
use Rattle.smp_design.specs.Keys.{has, lacks, needs, missing_key, rival_keys, clash}
use Rattle.smp_design.specs.Values.{number, method, second_method, order, names, quotas, optional}
use Rattle.smp_design.specs.Words.{row, in_second, is_balance, is_near, takes_second}
use Rattle.smp_design.proofs.Went.{as_read, read, neither, first_fails, goes_on}
use Rattle.smp_design.proofs.ValueBounds.{Few, number-range, quotas-range, names-few, second_method-is, optional-holds, optional-there}

-- no needed key is missing
pub record NoneMissing (version : ℕ) (t : Members) : Type 0 where
  pub sized : (lacks (codes "n") t && lacks (codes "sizes") t && lacks (codes "prob") t) ≡ false
  pub balance : (is_balance (needs version t) && lacks (codes "balance") t) ≡ false
  pub near : (is_near (needs version t) && lacks (codes "near") t) ≡ false

pub none_missing : (version : ℕ) (t : Members) → missing_key version t ≡ None → NoneMissing version t
unfolding missing_key
none_missing version t h =
    let a = first_fails (lacks (codes "method") t) (codes "method") _ h in
    let b = first_fails (lacks (codes "id") t) (codes "id") _ a.others in
    let c = first_fails (lacks (codes "n") t && lacks (codes "sizes") t && lacks (codes "prob") t) (codes "n") _ b.others in
    let d = first_fails (is_balance (needs version t) && lacks (codes "balance") t) (codes "balance") _ c.others in
    let e = first_fails (is_near (needs version t) && lacks (codes "near") t) (codes "near") _ d.others in
    record { sized = c.fails; balance = d.fails; near = e.fails }

-- no two rival keys are both there
pub record NoRivals (t : Members) : Type 0 where
  pub one_size : (has (codes "n") t && has (codes "sizes") t) ≡ false
  pub no_number : (has (codes "n") t && has (codes "prob") t) ≡ false
  pub no_quotas : (has (codes "sizes") t && has (codes "prob") t) ≡ false
  pub no_size : (has (codes "size") t && has (codes "prob") t) ≡ false
  pub one_stage : (has (codes "prob") t && has (codes "second") t) ≡ false

no_rivals : (t : Members) → rival_keys t ≡ None → NoRivals t
unfolding rival_keys
no_rivals t h =
    let a = first_fails (has (codes "n") t && has (codes "sizes") t) (codes "n", codes "sizes") _ h in
    let b = first_fails (has (codes "n") t && has (codes "prob") t) (codes "n", codes "prob") _ a.others in
    let c = first_fails (has (codes "sizes") t && has (codes "prob") t) (codes "sizes", codes "prob") _ b.others in
    let d = first_fails (has (codes "size") t && has (codes "prob") t) (codes "size", codes "prob") _ c.others in
    let e = first_fails (has (codes "prob") t && has (codes "second") t) (codes "prob", codes "second") _ d.others in
    record { one_size = a.fails; no_number = b.fails; no_quotas = c.fails; no_size = d.fails; one_stage = e.fails }

-- no two keys clash
pub record NoClash (t : Members) (m : Method) : Type 0 where
  pub rivals : NoRivals t
  pub strata : (has (codes "sizes") t && lacks (codes "stratum") t) ≡ false
  pub order : (has (codes "order") t && not (row m).takes_order) ≡ false
  pub balance : (has (codes "balance") t && not (is_balance (row m).needs)) ≡ false
  pub near : (has (codes "near") t && not (is_near (row m).needs)) ≡ false
  pub second : (has (codes "second") t && not (takes_second (row m))) ≡ false

pub no_clash : (t : Members) (m : Method) → clash t m ≡ None → NoClash t m
unfolding clash
no_clash t m h =
    let both = neither (rival_keys t) _ h in
    let a = first_fails (has (codes "sizes") t && lacks (codes "stratum") t) (codes "sizes", codes "stratum") _ both.second in
    let b = first_fails (has (codes "order") t && not (row m).takes_order) (codes "order", codes "method") _ a.others in
    let c = first_fails (has (codes "balance") t && not (is_balance (row m).needs)) (codes "balance", codes "method") _ b.others in
    let d = first_fails (has (codes "near") t && not (is_near (row m).needs)) (codes "near", codes "method") _ c.others in
    let e = first_fails (has (codes "second") t && not (takes_second (row m))) (codes "second", codes "method") _ d.others in
    record { rivals = no_rivals t both.first; strata = a.fails; order = b.fails; balance = c.fails; near = d.fails; second = e.fails }

-- the columns of the units
pub record UnitFacts (t : Members) (u : UnitColumns) : Type 0 where
  pub stratum_there : is_some u.stratum ≡ has (codes "stratum") t
  pub size_there : is_some u.size ≡ has (codes "size") t

pub unit_facts : (t : Members) (u : UnitColumns) → unit_columns t ≡ Ok u → UnitFacts t u
unfolding unit_columns
unit_facts t u h =
    let id = read (codes "id") (option_and_then as_str (get_member (codes "id") t)) _ u h in
    let stratum = read (codes "stratum") (optional as_str (get_member (codes "stratum") t)) _ u id.gives in
    let size = read (codes "size") (optional as_str (get_member (codes "size") t)) _ u stratum.gives in
    as_read (UnitFacts t) size.gives record {
      stratum_there = optional-there as_str (get_member (codes "stratum") t) stratum.value stratum.is;
      size_there = optional-there as_str (get_member (codes "size") t) size.value size.is;
    }

-- the numbers of units, the probabilities and the order
pub record SampleFacts (t : Members) (s : SampleSize) : Type 0 where
  pub size : IfSome s.n InRange
  pub quotas : All (λ q. InRange q.n) s.sizes
  pub n_there : is_some s.n ≡ has (codes "n") t
  pub no_sizes : has (codes "sizes") t ≡ false → s.sizes ≡ []
  pub prob_there : is_some s.prob ≡ has (codes "prob") t
  pub no_order : has (codes "order") t ≡ false → s.order ≡ the_order.Frame

nothing_there : {A : Type 0} (o : Option A) (default : A) → is_some o ≡ false → unwrap_or o default ≡ default
nothing_there None default h = refl
nothing_there (Some x) default h = absurd (cc)

all_or_none : {A : Type 0} (P : List A → Type 0) → P [] → (o : Option (List A)) → IfSome o P → P (unwrap_or o [])
all_or_none P none None h = none
all_or_none P none (Some xs) h = h

pub sample_facts : (t : Members) (s : SampleSize) → sample_size t ≡ Ok s → SampleFacts t s
unfolding sample_size
sample_facts t s h =
    let n = read (codes "n") (optional number (get_member (codes "n") t)) _ s h in
    let sizes = read (codes "sizes") (optional quotas (get_member (codes "sizes") t)) _ s n.gives in
    let prob = read (codes "prob") (optional as_str (get_member (codes "prob") t)) _ s sizes.gives in
    let o = read (codes "order") (optional order (get_member (codes "order") t)) _ s prob.gives in
    as_read (SampleFacts t) o.gives record {
      size = optional-holds InRange number number-range (get_member (codes "n") t) n.value n.is;
      quotas = all_or_none (λ (qs : List quota.Quota). All (λ q. InRange q.n) qs) (λ k d within. absurd (omega arith)) sizes.value (optional-holds (λ (qs : List quota.Quota). All (λ q. InRange q.n) qs) quotas quotas-range (get_member (codes "sizes") t) sizes.value sizes.is);
      n_there = optional-there number (get_member (codes "n") t) n.value n.is;
      no_sizes = λ none. nothing_there sizes.value [] (optional-there quotas (get_member (codes "sizes") t) sizes.value sizes.is ∙ none);
      prob_there = optional-there as_str (get_member (codes "prob") t) prob.value prob.is;
      no_order = λ none. nothing_there o.value the_order.Frame (optional-there order (get_member (codes "order") t) o.value o.is ∙ none);
    }

-- the columns of `balance` and of `near`
pub record ValueFacts (t : Members) (columns : ValueColumns) : Type 0 where
  pub balance : Option (List (List ℕ))
  pub near : Option (List (List ℕ))
  pub balance_few : IfSome balance (Few 15)
  pub near_few : IfSome near (Few 4)
  pub balance_there : is_some balance ≡ has (codes "balance") t
  pub near_there : is_some near ≡ has (codes "near") t
  pub is : record { balance = unwrap_or balance []; near = unwrap_or near [] } ≡ columns

pub value_facts : (t : Members) (columns : ValueColumns) → value_columns t ≡ Ok columns → ValueFacts t columns
unfolding value_columns
value_facts t columns h =
    let balance = read (codes "balance") (optional (names 15) (get_member (codes "balance") t)) _ columns h in
    let near = read (codes "near") (optional (names 4) (get_member (codes "near") t)) _ columns balance.gives in
    record {
      balance = balance.value;
      near = near.value;
      balance_few = optional-holds (Few 15) (names 15) (names-few 15) (get_member (codes "balance") t) balance.value balance.is;
      near_few = optional-holds (Few 4) (names 4) (names-few 4) (get_member (codes "near") t) near.value near.is;
      balance_there = optional-there (names 15) (get_member (codes "balance") t) balance.value balance.is;
      near_there = optional-there (names 4) (get_member (codes "near") t) near.value near.is;
      is = let same : ◌≡◌ {A = Result ValueColumns _} (Ok (record { balance = unwrap_or balance.value []; near = unwrap_or near.value [] })) (Ok columns) = near.gives in cc;
    }

-- the second stage
pub record SecondFacts (o : Option Data) (s : SecondStage) : Type 0 where
  pub size : IfSome s.second (λ x. InRange x.n)
  pub method : IfSome s.second (λ x. in_second x.method ≡ true)
  pub psu : is_some s.psu ≡ is_some s.second
  pub sizes : IfNone s.second (s.size ≡ None)
  pub there : is_some s.second ≡ is_some o

second_facts_of : (version : ℕ) (t : Members) (value : Data) (s : SecondStage) → second_stage_of version t ≡ Ok s → SecondFacts (Some value) s
unfolding second_stage_of
second_facts_of version t value s h =
    let psu = read (codes "second.psu") (option_and_then as_str (get_member (codes "psu") t)) _ s h in
    let m = read (codes "second.method") (option_and_then (second_method version) (get_member (codes "method") t)) _ s psu.gives in
    let n = read (codes "second.n") (option_and_then number (get_member (codes "n") t)) _ s m.gives in
    let size = read (codes "second.size") (optional as_str (get_member (codes "size") t)) _ s n.gives in
    let m_is = goes_on (second_method version) (get_member (codes "method") t) m.value m.is in
    let n_is = goes_on number (get_member (codes "n") t) n.value n.is in
    as_read (SecondFacts (Some value)) size.gives record {
      size = number-range n_is.value n.value n_is.gives;
      method = second_method-is version m_is.value m.value m_is.gives;
      psu = refl;
      sizes = tt;
      there = refl;
    }

pub second_facts : (version : ℕ) (o : Option Data) (s : SecondStage) → second_stage version o ≡ Ok s → SecondFacts o s
second_facts version None s h =
    as_read (SecondFacts None) h record { size = tt; method = tt; psu = refl; sizes = refl; there = refl }
second_facts version (Some value) s h =
    let table = read (codes "second") (as_table value) (second_stage_of version) s h in
    second_facts_of version table.value value s table.gives

-- what the method of a design needs is in the method's row
pub needs-is : (version : ℕ) (t : Members) (m : Method) → option_and_then (method version) (get_member (codes "method") t) ≡ Some m → needs version t ≡ (row m).needs
needs-is version t m h = ap (λ o. option_map_or (λ m. (row m).needs) o Nothing) h
