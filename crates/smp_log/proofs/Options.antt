-- What an option that was made from another says of it.
use Rattle.std.proofs.Common.{◌≡◌, Bool, true, false, cond, Option, Some, None, option_map, refl}
use Rattle.std.specs.Prelude.{option_and_then}

pub record GoesOn {A B : Type 0} (f : A → Option B) (o : Option A) (y : B) : Type 0 where
  pub value : A
  pub is : o ≡ Some value
  pub gives : f value ≡ Some y

pub goes_on : {A B : Type 0} (f : A → Option B) (o : Option A) (y : B) → option_and_then f o ≡ Some y → GoesOn f o y
goes_on {A} {B} f None y h = absurd (let none : ◌≡◌ {A = Option B} None (Some y) = h in cc)
goes_on f (Some x) y h = record { value = x; is = refl; gives = h }

pub cond_some : {A : Type 0} (b : Bool) (o : Option A) (w : A) → cond b o None ≡ Some w → (b ≡ true) × (o ≡ Some w)
cond_some true o w h = (refl, h)
cond_some {A} false o w h = absurd (let none : ◌≡◌ {A = Option A} None (Some w) = h in cc)

pub some_cond : {A : Type 0} (b : Bool) (x w : A) → cond b (Some x) None ≡ Some w → (b ≡ true) × (x ≡ w)
some_cond {A} true x w h = (refl, (let e : ◌≡◌ {A = Option A} (Some x) (Some w) = h in cc))
some_cond {A} false x w h = absurd (let none : ◌≡◌ {A = Option A} None (Some w) = h in cc)

-- what a mapped option comes from
pub record Mapped {A B : Type 0} (f : A → B) (o : Option A) (y : B) : Type 0 where
  pub value : A
  pub is : o ≡ Some value
  pub gives : f value ≡ y

pub mapped : {A B : Type 0} (f : A → B) (o : Option A) (y : B) → option_map f o ≡ Some y → Mapped f o y
mapped {A} {B} f None y h = absurd (let none : ◌≡◌ {A = Option B} None (Some y) = h in cc)
mapped {A} {B} f (Some x) y h = record { value = x; is = refl; gives = (let e : ◌≡◌ {A = Option B} (Some (f x)) (Some y) = h in cc) }
