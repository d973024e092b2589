-- Readings that had no fault, and tests of which none held.
use Rattle.std.proofs.Common.{◌≡◌, ℕ, Bool, true, false, cond, List, Option, Some, None, option_map, Result, Ok, Err, refl, subst}
use Rattle.std.specs.Prelude.{option_and_then}
use Rattle.smp_design.specs.{Keys.{or_else}, Faults.{none_found, good}, declared.fault.DesignFault.{DesignFault}}
use Rattle.smp_frac.specs.Faults.{◌>>=◌, or_fault}
use Rattle.smp_design.specs.declared.fault.DesignFault.TheVariants.{BadValue}

-- a reading that went on to an answer had a value
pub record Went {A B : Type 0} (read : Result A DesignFault) (next : A → Result B DesignFault) (y : B) : Type 0 where
  pub value : A
  pub is : read ≡ Ok value
  pub gives : next value ≡ Ok y

pub went : {A B : Type 0} (read : Result A DesignFault) (next : A → Result B DesignFault) (y : B) → (read >>= next) ≡ Ok y → Went read next y
went (Ok x) next y h = record { value = x; is = refl; gives = h }
went (Err fault) next y h = absurd (cc)

pub is_there : {A : Type 0} (fault : DesignFault) (o : Option A) (x : A) → or_fault fault o ≡ Ok x → o ≡ Some x
is_there fault None x h = absurd (cc)
is_there fault (Some y) x h = cc

pub is_good : {A : Type 0} (key : List ℕ) (o : Option A) (x : A) → good key o ≡ Ok x → o ≡ Some x
is_good key o x h = is_there (BadValue key) o x h

-- the value of a key, which a reading went on from
pub record Read {A B : Type 0} (o : Option A) (next : A → Result B DesignFault) (y : B) : Type 0 where
  pub value : A
  pub is : o ≡ Some value
  pub gives : next value ≡ Ok y

pub read : {A B : Type 0} (key : List ℕ) (o : Option A) (next : A → Result B DesignFault) (y : B) → (good key o >>= next) ≡ Ok y → Read o next y
read key o next y h = (let w = went (good key o) next y h in record { value = w.value; is = is_good key o w.value w.is; gives = w.gives })

-- what holds of the parts that were read holds of what was made of them
pub as_read : {B : Type 0} (P : B → Type 0) {made y : B} → ◌≡◌ {A = Result B DesignFault} (Ok made) (Ok y) → P made → P y
as_read P {made} {y} e holds = (let same : made ≡ y = cc in subst P same holds)

pub found_none : {A : Type 0} (fault : A → DesignFault) (o : Option A) (u : Unit {0}) → none_found fault o ≡ Ok u → o ≡ None
found_none fault None u h = refl
found_none fault (Some x) u h = absurd (cc)

-- neither of two was there
pub record Neither {A : Type 0} (o other : Option A) : Type 0 where
  pub first : o ≡ None
  pub second : other ≡ None

pub neither : {A : Type 0} (o other : Option A) → or_else o other ≡ None → Neither o other
neither None other h = record { first = refl; second = h }
neither (Some x) other h = absurd (cc)

-- a first test that didn't hold, and the others
pub record FirstFails {A : Type 0} (test : Bool) (rest : Option A) : Type 0 where
  pub fails : test ≡ false
  pub others : rest ≡ None

pub first_fails : {A : Type 0} (test : Bool) (x : A) (rest : Option A) → cond test (Some x) rest ≡ None → FirstFails test rest
first_fails true x rest h = absurd (cc)
first_fails false x rest h = record { fails = refl; others = h }

-- a step that gave something had something to go on
pub record GoesOn {A B : Type 0} (f : A → Option B) (o : Option A) (y : B) : Type 0 where
  pub value : A
  pub is : o ≡ Some value
  pub gives : f value ≡ Some y

pub goes_on : {A B : Type 0} (f : A → Option B) (o : Option A) (y : B) → option_and_then f o ≡ Some y → GoesOn f o y
goes_on f None y h = absurd (cc)
goes_on f (Some x) y h = record { value = x; is = refl; gives = h }

pub mapped : {A B : Type 0} (f : A → B) (o : Option A) (y : B) → option_map f o ≡ Some y → GoesOn (λ x. Some (f x)) o y
mapped f None y h = absurd (cc)
mapped f (Some x) y h = record { value = x; is = refl; gives = h }

-- a test that let something through held
pub record Passes {A : Type 0} (test : Bool) (gives_ : Option A) (y : A) : Type 0 where
  pub holds : test ≡ true
  pub gives : gives_ ≡ Some y

pub passes : {A : Type 0} (test : Bool) (gives_ : Option A) (y : A) → cond test gives_ None ≡ Some y → Passes test gives_ y
passes true gives_ y h = record { holds = refl; gives = h }
passes false gives_ y h = absurd (cc)
