-- One stage of the work on the inputs after another.
use Rattle.std.proofs.Common.{◌≡◌, ◌≤◌, ℕ, List, [], ◌∷◌, ◌++◌, Option, Some, Result, Ok, Err, refl, ap, ◌∙◌, arith, true, IfErr}
use Rattle.smp_io.specs.{Counts.{Rose}, Store.{Files}}
use Rattle.smp_io.proofs.Asked.{only_both, only_first}
use Rattle.smp_words.specs.Words.{all_distinct}
use Rattle.smp_status.specs.{declared.status.Status.{Status}, Reports.{IsOfInputs}}
use Rattle.smp_frac.specs.Faults.{◌>>=◌}
use Rattle.smp_plan.specs.{Stops.{Stop, without}, Reads.{Told, Sees, Follows, IsErrorOf, IsCaused, ReadCause, Reads}}
use Rattle.smp_status.specs.Codes.{Class, IsDone, IsUsage, IsRefusal, IsReadFault, IsWriteFault, IsNoMemory, class_of}
use Rattle.smp_plan.proofs.Names.{contains_left, contains_right, Apart, apart}

pub rose_since : (first before now : ℕ) → first ≤ before → Rose before now → Rose first now
rose_since first before now le rose = omega arith

-- ---- a stage reads its inputs and no other file

pub bind_same : {A B E : Type 0} (first : Result A E) (f g : A → Result B E) → ((x : A) → f x ≡ g x) → first >>= f ≡ first >>= g
bind_same (Ok x) f g h = h x
bind_same (Err e) f g h = refl

abbrev pub Ignores : {A : Type 0} → (Files → Result A Stop) → List (List ℕ) → Type 0
Ignores stage inputs = (name : List ℕ) → Apart name inputs → (fs : Files) → stage (without name fs) ≡ stage fs

-- ---- the files that inputs are read from

pub sees_told : (names : List (List ℕ)) (told : Option Files) (fs : Files) → told ≡ Some fs → Sees names told fs
sees_told [] told fs is = tt
sees_told (name ∷ names) told fs is = is

pub sees_first : (xs ys : List (List ℕ)) (told : Option Files) (fs : Files) → Sees (xs ++ ys) told fs → Sees xs told fs
sees_first [] ys told fs sees = tt
sees_first (x ∷ xs) ys told fs sees = sees

pub sees_second : (xs ys : List (List ℕ)) (told now : Option Files) (fs : Files) → now ≡ told → Sees (xs ++ ys) told fs → Sees ys now fs
sees_second [] [] told now fs same sees = tt
sees_second [] (y ∷ ys) told now fs same sees = same ∙ sees
sees_second (x ∷ xs) [] told now fs same sees = tt
sees_second (x ∷ xs) (y ∷ ys) told now fs same sees = same ∙ sees

-- ---- a stage that goes on, and one that stops

caused : {P Q : Type 0} (class : Class) → (P → Q) → IsCaused class P → IsCaused class Q
caused IsReadFault f p = f p
caused IsDone f p = tt
caused IsUsage f p = tt
caused IsRefusal f p = tt
caused IsWriteFault f p = tt
caused IsNoMemory f p = tt

if_caused : {A : Type 0} {P Q : Type 0} (answer : Result A Status) → (P → Q) → IfErr answer (λ error. IsCaused (class_of error) P) → IfErr answer (λ error. IsCaused (class_of error) Q)
if_caused (Ok x) f p = tt
if_caused (Err error) f p = caused (class_of error) f p

error_of : {A B : Type 0} (class : Class) (error : Status) (stage : Result A Stop) (next : A → Result B Stop) → IsErrorOf class error stage → IsErrorOf class error (stage >>= next)
error_of IsReadFault error stage next h = tt
error_of IsNoMemory error stage next h = tt
error_of IsDone error stage next h = ap (λ s. s >>= next) h
error_of IsUsage error stage next h = ap (λ s. s >>= next) h
error_of IsRefusal error stage next h = ap (λ s. s >>= next) h
error_of IsWriteFault error stage next h = ap (λ s. s >>= next) h

-- what was read for one stage is what was read for another, whose answer follows from it
pub read_for :
    {A B : Type 0} {inputs : List (List ℕ)} {stage : Files → Result A Stop} {other : Files → Result B Stop} {first : Result A Status} {answer : Result B Status} {before now : Told}
    → Reads inputs stage first before now → ((fs : Files) → Sees inputs before.files fs → Follows answer (other fs)) → IfErr answer (λ error. IsOfInputs (class_of error) error)
    → IfErr answer (λ error. IsCaused (class_of error) (ReadCause inputs other before now)) → Reads inputs other answer before now
read_for read follows kinds cause = record {
  follows = follows;
  kinds = kinds;
  cause = cause;
  same = read.same;
  reads = read.reads;
  writes = read.writes;
  shortages = read.shortages;
  asked = read.asked;
}

module _ {A B : Type 0} (inputs others : List (List ℕ)) (stage : Files → Result A Stop) (next : A → Files → Result B Stop) (before mid : Told) where
  abbrev pub and_next : Files → Result B Stop
  and_next fs = stage fs >>= λ y. next y fs

  pub stops : (error : Status) → Reads inputs stage (Err error) before mid → Reads (inputs ++ others) and_next (Err error) before mid
  stops error reads = record {
    follows = λ fs sees. error_of (class_of error) error (stage fs) (λ y. next y fs) (reads.follows fs (sees_first inputs others before.files fs sees));
    kinds = reads.kinds;
    cause = caused (class_of error) (λ cause. record {
      name = cause.name;
      is_input = contains_left inputs others cause.name cause.is_input;
      rose = cause.rose;
      first = λ fs told. rw (cause.first fs told) refl;
    }) reads.cause;
    same = reads.same;
    reads = reads.reads;
    writes = reads.writes;
    shortages = reads.shortages;
    asked = only_first inputs others before.asked mid.asked reads.asked;
  }

  pub goes_on : (now : Told) (x : A) (answer : Result B Status) → Reads inputs stage (Ok x) before mid → Reads others (next x) answer mid now → all_distinct (inputs ++ others) ≡ true → Ignores stage inputs
      → Reads (inputs ++ others) and_next answer before now
  goes_on now x answer first second distinct ignores = record {
    follows = λ fs sees. rw (first.follows fs (sees_first inputs others before.files fs sees)) (second.follows fs (sees_second inputs others before.files mid.files fs first.same sees));
    kinds = second.kinds;
    cause = if_caused answer (λ (cause : ReadCause others (next x) mid now). record {
      name = cause.name;
      is_input = contains_right inputs others cause.name cause.is_input;
      rose = rose_since _ _ _ (first.reads cause.name) cause.rose;
      first = λ fs told. rw (ignores cause.name (apart inputs others distinct cause.name cause.is_input) fs, first.follows fs (sees_told inputs before.files fs told)) (cause.first fs (first.same ∙ told));
    }) second.cause;
    same = second.same ∙ first.same;
    reads = λ name. omega (arith, first.reads name, second.reads name);
    writes = λ name. omega (arith, first.writes name, second.writes name);
    shortages = λ name. omega (arith, first.shortages name, second.shortages name);
    asked = only_both inputs others before.asked mid.asked now.asked first.asked second.asked;
  }
