-- Every design that was read keeps the ranges, and its parts go together.
use Rattle.std.proofs.Common.{◌≡◌, ℕ, Bool, true, false, not, ◌&&◌, List, [], length, Option, Some, None, IfSome, IfOk, Result, Ok, Err, codes, refl, sym, ap, ◌∙◌, subst, inl, inr}
use Rattle.std.specs.Prelude.{IfNone, OnSome, option_and_then, is_some, unwrap_or}
use Rattle.std.proofs.lemmas.Bool.{cases_Bool}
use Rattle.toml.specs.Data.{Members, get_member}
use Rattle.smp_prob.specs.declared.orders.Order.{Order}
use Rattle.smp_prob.specs.declared.orders.Order.TheVariants as the_order
use Rattle.smp_design.specs.{declared.design.Design.{Design}, declared.method.Method.{Method}, declared.method.Needs.{Needs}}
use Rattle.smp_design.specs.{declared.method.Needs.TheVariants.{Nothing, Balance, Near, Both}, declared.fault.DesignFault.{DesignFault}}
use Rattle.smp_design.specs.declared.fault.DesignFault.TheVariants.{Version, UnknownKey, MissingKey, Clash}
use Rattle.smp_design.specs.{declared.reading.UnitColumns.{UnitColumns}, declared.reading.SampleSize.{SampleSize}}
use Rattle.smp_design.specs.{declared.reading.SecondStage.{SecondStage}, declared.reading.ValueColumns.{ValueColumns}}
use Rattle.smp_design.specs.{Bounds.{IsDesign, HasOnlyProbabilities, Ascend}, Procedures.{AreNeeded, From1To}}
use Rattle.smp_design.specs.Designs.{document, unit_columns, sample_size, value_columns, second_stage, values, design_of}
use Rattle.smp_design.specs.Keys
use Rattle.smp_design.specs.{Keys.{has, version_of, unknown_key, missing_key}, Faults.{is_memory, good, none_found}}
use Rattle.smp_frac.specs.{Faults.{or_fault}, Memory.{Reads}}
use Rattle.smp_design.specs.{Values.{last_version, version, method}, Words.{row, is_balance, is_near, takes_second}}
use Rattle.smp_design.proofs.{Went.{went, is_there, is_good, found_none, goes_on}, ValueBounds.{Few, version-range}, KnownKeys.{prob_in_2}}
use Rattle.smp_design.proofs.Stages.{NoneMissing, none_missing, NoClash, no_clash, UnitFacts, unit_facts, SampleFacts, sample_facts, ValueFacts, value_facts, SecondFacts, second_facts, needs-is}

-- the columns of a method with these needs are those that it needs
fits : (needs : Needs) (b n : Option (List (List ℕ))) → IfSome b (Few 15) → IfSome n (Few 4) → (is_some b && not (is_balance needs)) ≡ false → (is_some n && not (is_near needs)) ≡ false
    → (is_balance needs ≡ true → is_some b ≡ true) → (is_near needs ≡ true → is_some n ≡ true) → AreNeeded needs (length (unwrap_or b [])) (length (unwrap_or n []))
fits Nothing None None few few' h k balance near = (refl, refl)
fits Nothing (Some xs) n few few' h k balance near = absurd (cc)
fits Nothing None (Some xs) few few' h k balance near = absurd (cc)
fits Balance (Some xs) None few few' h k balance near = (few, refl)
fits Balance (Some xs) (Some ys) few few' h k balance near = absurd (cc)
fits Balance None n few few' h k balance near = absurd (let there = balance refl in cc)
fits Near (Some xs) n few few' h k balance near = absurd (cc)
fits Near None (Some xs) few few' h k balance near = (refl, few')
fits Near None None few few' h k balance near = absurd (let there = near refl in cc)
fits Both (Some xs) (Some ys) few few' h k balance near = (few, few')
fits Both (Some xs) None few few' h k balance near = absurd (let there = near refl in cc)
fits Both None n few few' h k balance near = absurd (let there = balance refl in cc)

-- one of two tests holds, where not both fail
both : (a b : Bool) → (a && not b) ≡ false → a ≡ true → b ≡ true
both true true h k = refl
both true false h k = absurd (cc)
both false b h k = absurd (cc)

one_of : (a b c : Bool) → (not a && not b && not c) ≡ false → a ≡ false → c ≡ false → b ≡ true
one_of true b c h k l = absurd (cc)
one_of false true c h k l = refl
one_of false false true h k l = absurd (cc)
one_of false false false h k l = absurd (cc)

not_both : (a b : Bool) → (a && b) ≡ false → a ≡ true → b ≡ false
not_both true b h k = h
not_both false b h k = absurd (cc)

none_of : (a b : Bool) → not (not a && not b) ≡ false → (a ≡ false) × (b ≡ false)
none_of false false h = (refl, refl)
none_of true b h = absurd (cc)
none_of false true h = absurd (cc)

not_first : (a b : Bool) → (a && b) ≡ false → b ≡ true → a ≡ false
not_first true b h k = absurd (cc)
not_first false b h k = refl

on_some : {A : Type 0} (o : Option A) (P : Type 0) → (is_some o ≡ true → P) → OnSome o P
on_some None P h = tt
on_some (Some x) P h = h refl

if_none : {A : Type 0} (o : Option A) (P : Type 0) → (is_some o ≡ false → P) → IfNone o P
if_none None P h = h refl
if_none (Some x) P h = tt

is_none : {A : Type 0} (o : Option A) → is_some o ≡ false → o ≡ None
is_none None h = refl
is_none (Some x) h = absurd (cc)

not_random : (o : Order) → o ≡ the_order.Frame → o ≡ the_order.Random → ⊥
not_random o h k = absurd (cc)

-- the design of its parts
abbrev parts : ℕ → Method → UnitColumns → SampleSize → ValueColumns → SecondStage → Design
parts version m unit sample columns second = record {
  version = version;
  procedure = record { method = m; order = sample.order; balance = length columns.balance; near = length columns.near };
  columns = record { id = unit.id; stratum = unit.stratum; psu = second.psu; size = unit.size; second_size = second.size; prob = sample.prob; balance = columns.balance; near = columns.near };
  n = sample.n;
  sizes = sample.sizes;
  second = second.second;
}

-- what is known of the version and of the keys of a design
record IsVersionOf (version : ℕ) (t : Members) : Type 0 where
  within : From1To last_version version
  known : unknown_key version t ≡ None

-- the keys beside that of the probabilities
only_probabilities : (version : ℕ) (t : Members) (m : Method) (unit : UnitColumns) (sample : SampleSize) (columns : ValueColumns) (second : SecondStage) → IsVersionOf version t → UnitFacts t unit → SampleFacts t sample
    → SecondFacts (get_member (codes "second") t) second → NoClash t m → has (codes "prob") t ≡ true → HasOnlyProbabilities (parts version m unit sample columns second)
only_probabilities version t m unit sample columns second is u s w clash there = record {
  version = prob_in_2 version t is.within is.known there;
  no_number = is_none sample.n (s.n_there ∙ not_first (has (codes "n") t) (has (codes "prob") t) clash.rivals.no_number there);
  no_quotas = s.no_sizes (not_first (has (codes "sizes") t) (has (codes "prob") t) clash.rivals.no_quotas there);
  no_size = is_none unit.size (u.size_there ∙ not_first (has (codes "size") t) (has (codes "prob") t) clash.rivals.no_size there);
  one_stage = is_none second.second (w.there ∙ not_both (has (codes "prob") t) (has (codes "second") t) clash.rivals.one_stage there);
}

parts_are_design : (version : ℕ) (t : Members) (m : Method) (unit : UnitColumns) (sample : SampleSize) (columns : ValueColumns) (second : SecondStage) → IsVersionOf version t → NoneMissing version t
    → option_and_then (method version) (get_member (codes "method") t) ≡ Some m → UnitFacts t unit → SampleFacts t sample → ValueFacts t columns → SecondFacts (get_member (codes "second") t) second
    → NoClash t m → Ascend sample.sizes → IsDesign (parts version m unit sample columns second)
parts_are_design version t m unit sample columns second is missing method_is u s v w clash ascend =
    let needs_is = needs-is version t m method_is in
    let f = subst (λ (xs : ValueColumns). AreNeeded (row m).needs (length xs.balance) (length xs.near)) v.is (fits (row m).needs v.balance v.near v.balance_few v.near_few
    (ap (λ b. b && not (is_balance (row m).needs)) v.balance_there ∙ clash.balance)
    (ap (λ b. b && not (is_near (row m).needs)) v.near_there ∙ clash.near)
    (λ balance. v.balance_there ∙ both _ (has (codes "balance") t) missing.balance (ap is_balance needs_is ∙ balance))
    (λ near. v.near_there ∙ both _ (has (codes "near") t) missing.near (ap is_near needs_is ∙ near))) in
    let takes_one : is_some second.second ≡ true → (is_near (row m).needs ≡ false) × ((row m).together ≡ false) =
    λ there. none_of (is_near (row m).needs) (row m).together (not_both (has (codes "second") t) (not (takes_second (row m))) clash.second (sym w.there ∙ there)) in
    record {
      version = is.within;
      size = s.size;
      quotas = s.quotas;
      ascending = ascend;
      one_size = on_some sample.n _ (λ there. s.no_sizes (not_both (has (codes "n") t) (has (codes "sizes") t) clash.rivals.one_size (sym s.n_there ∙ there)));
      prob = on_some sample.prob _ (λ there. only_probabilities version t m unit sample columns second is u s w clash (sym s.prob_there ∙ there));
      strata = if_none sample.n _ (λ no_n. if_none sample.prob _ (λ no_prob.
          u.stratum_there ∙ both (has (codes "sizes") t) (has (codes "stratum") t) clash.strata (one_of (has (codes "n") t) (has (codes "sizes") t) (has (codes "prob") t) missing.sized (sym s.n_there ∙ no_n) (sym s.prob_there ∙ no_prob))));
      procedure = record {
        order = λ random. elim (cases_Bool (has (codes "order") t)) [
          | inl there ↦ both (has (codes "order") t) (row m).takes_order clash.order there
          | inr none ↦ absurd (not_random sample.order (s.no_order none) random)
        ];
        columns = f;
      };
      balance = refl;
      near = refl;
      second_size = w.size;
      second_method = w.method;
      second_first = on_some second.second _ (λ there. (takes_one there).0);
      second_apart = on_some second.second _ (λ there. (takes_one there).1);
      psu = w.psu;
      second_sizes = w.sizes;
    }

values_are_design : (version : ℕ) (t : Members) (d : Design) → IsVersionOf version t → NoneMissing version t → values version t ≡ Ok d → NoClash t d.procedure.method → Ascend d.sizes → IsDesign d
unfolding values
values_are_design version t d is_version missing h clash ascend =
    let m = went (good (codes "method") (option_and_then (method version) (get_member (codes "method") t))) _ d h in
    let unit = went (unit_columns t) _ d m.gives in
    let sample = went (sample_size t) _ d unit.gives in
    let columns = went (value_columns t) _ d sample.gives in
    let second = went (second_stage version (get_member (codes "second") t)) _ d columns.gives in
    let s = sample_facts t sample.value sample.is in
    let v = value_facts t columns.value columns.is in
    let w = second_facts version (get_member (codes "second") t) second.value second.is in
    let is : parts version m.value unit.value sample.value columns.value second.value ≡ d = (let same : ◌≡◌ {A = Result Design _} (Ok (parts version m.value unit.value sample.value columns.value second.value)) (Ok d) = second.gives in cc) in
    subst (λ (e : Design). NoClash t e.procedure.method → Ascend e.sizes → IsDesign e) is
    (parts_are_design version t m.value unit.value sample.value columns.value second.value is_version missing (is_good (codes "method") (option_and_then (method version) (get_member (codes "method") t)) m.value m.is) (unit_facts t unit.value unit.is) s v w) clash ascend

pub is_design : (bytes : List ℕ) (d : Design) → design_of bytes ≡ Ok d → Ascend d.sizes → IsDesign d
unfolding design_of
is_design bytes d h ascend =
    let t = went (document bytes) _ d h in
    let v = went (or_fault Version (version_of t.value)) _ d t.gives in
    let unknown = went (none_found UnknownKey (unknown_key v.value t.value)) _ d v.gives in
    let missing = went (none_found MissingKey (missing_key v.value t.value)) _ d unknown.gives in
    let design = went (values v.value t.value) _ d missing.gives in
    let clash = went (none_found (λ keys. Clash keys.0 keys.1) (Keys.clash t.value design.value.procedure.method)) _ d design.gives in
    let is : design.value ≡ d = (let same : ◌≡◌ {A = Result Design _} (Ok design.value) (Ok d) = clash.gives in cc) in
    let number = goes_on version (get_member (codes "version") t.value) v.value (is_there Version (version_of t.value) v.value v.is) in
    let is_version : IsVersionOf v.value t.value = record { within = version-range number.value v.value number.gives; known = found_none UnknownKey (unknown_key v.value t.value) unknown.value unknown.is } in
    subst (λ (e : Design). Ascend e.sizes → IsDesign e) is
    (values_are_design v.value t.value design.value is_version (none_missing v.value t.value (found_none MissingKey (missing_key v.value t.value) missing.value missing.is)) design.is (no_clash t.value design.value.procedure.method (found_none (λ keys. Clash keys.0 keys.1) (Keys.clash t.value design.value.procedure.method) clash.value clash.is))) ascend

-- what was read is a design
pub read_is_design : (bytes : List ℕ) (result : Result Design DesignFault) → Reads is_memory result (design_of bytes) → IfOk result (λ d. Ascend d.sizes) → IfOk result IsDesign
read_is_design bytes (Ok d) h ascend = is_design bytes d h ascend
read_is_design bytes (Err fault) h ascend = tt
