-- What the columns of a method's row say.
use Rattle.std.proofs.Common.{◌≡◌, ◌⊎◌, ℕ, ◌+◌, ◌≤◌, true, false, refl, ap, inl, inr, arith}
use Rattle.std.specs.Prelude.{not}
use Rattle.smp_design.specs.{declared.method.Method.{Method}, declared.method.Needs.{Needs}}
use Rattle.smp_design.specs.declared.method.Method.TheVariants.{Cube, LocalCube, StratifiedCube, Systematic}
use Rattle.smp_design.specs.declared.method.Needs.TheVariants.{Nothing, Balance, Near, Both}
use Rattle.smp_design.specs.Procedures.{AreNeeded, From1To, IsProcedure, without_values}
use Rattle.smp_design.specs.Words.{row, balances, draws_together, in_second, is_balance, is_near, is_nothing, most_balance, most_near, needs_columns}

-- ---- the columns of a procedure

-- a method that balances has balancing columns, and few
pub balance_columns : (needs : Needs) (balance near : ℕ) → is_balance needs ≡ true → AreNeeded needs balance near → From1To most_balance balance
balance_columns Nothing balance near h are = absurd (cc)
balance_columns Balance balance near h are = are.0
balance_columns Near balance near h are = absurd (cc)
balance_columns Both balance near h are = are.0

-- a method among neighbours has columns of coordinates, and few
pub near_columns : (needs : Needs) (balance near : ℕ) → is_near needs ≡ true → AreNeeded needs balance near → From1To most_near near
near_columns Nothing balance near h are = absurd (cc)
near_columns Balance balance near h are = absurd (cc)
near_columns Near balance near h are = are.1
near_columns Both balance near h are = are.1

-- in all they are few
pub few_columns : (needs : Needs) (balance near : ℕ) → AreNeeded needs balance near → balance + near ≤ most_balance + most_near
few_columns Nothing balance near are = omega (arith, are.0, are.1)
few_columns Balance balance near are = omega (arith, are.0.1, are.1)
few_columns Near balance near are = omega (arith, are.0, are.1.1)
few_columns Both balance near are = omega (arith, are.0.1, are.1.1)

none_needed : (needs : Needs) → is_nothing needs ≡ true → AreNeeded needs 0 0
none_needed Nothing nothing = (refl, refl)
none_needed other nothing = absurd (cc)

-- a method that needs no columns, over units without values
pub bare : (method : Method) → in_second method ≡ true → IsProcedure (without_values method)
bare method nothing = record { order = λ random. absurd (cc); columns = none_needed (row method).needs nothing }

pub bare_unless_needed : (method : Method) → needs_columns method ≡ false → IsProcedure (without_values method)
bare_unless_needed method needed = bare method (nothing_is (row method).needs needed)
  where
    nothing_is : (needs : Needs) → not (is_nothing needs) ≡ false → is_nothing needs ≡ true
    nothing_is Nothing e = refl
    nothing_is other e = absurd (cc)

-- the methods that balance the strata one by one
pub is_cube : (method : Method) → balances method ≡ true → draws_together method ≡ false → (method ≡ Cube) ⊎ (method ≡ LocalCube)
unfolding row
is_cube Cube balance apart = inl refl
is_cube LocalCube balance apart = inr refl
is_cube other balance apart = absurd (cc)

-- the method that draws all strata together
pub is_together : (method : Method) → draws_together method ≡ true → method ≡ StratifiedCube
unfolding row
is_together StratifiedCube together = refl
is_together other together = absurd (cc)

-- it balances
pub together_balances : (method : Method) → draws_together method ≡ true → balances method ≡ true
unfolding row
together_balances StratifiedCube together = refl
together_balances other together = absurd (cc)

-- it isn't one of a second stage, whose units have no values
pub second_apart : (method : Method) → in_second method ≡ true → draws_together method ≡ false
unfolding row
second_apart StratifiedCube second = absurd (cc)
second_apart other second = refl

-- systematic selection draws each stratum by itself
pub systematic_apart : (method : Method) → method ≡ Systematic → draws_together method ≡ false
unfolding row
systematic_apart method is = ap draws_together is
