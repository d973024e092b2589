-- How the units of a stage are drawn.
use Rattle.std.specs.Prelude.{◌≡◌, ℕ, ◌≤◌, IsTrue}
use Rattle.smp_prob.specs.declared.orders.Order.TheVariants as the_order
use Rattle.smp_design.specs.declared.method.Method.{Method}
use Rattle.smp_design.specs.declared.method.Needs.{Needs}
use Rattle.smp_design.specs.declared.method.Needs.TheVariants.{Nothing, Balance, Near, Both}
use Rattle.smp_design.specs.declared.procedure.Procedure.{Procedure}
use Rattle.smp_design.specs.Words.{row, most_balance, most_near}

-- a whole number from 1 to `most`
abbrev pub From1To : ℕ → ℕ → Type 0
From1To most n = (1 ≤ n) × (n ≤ most)

-- so many columns of `balance`, and so many of `near`, are those that a method needs
abbrev pub AreNeeded : Needs → ℕ → ℕ → Type 0
AreNeeded Nothing balance near = (balance ≡ 0) × (near ≡ 0)
AreNeeded Balance balance near = From1To most_balance balance × (near ≡ 0)
AreNeeded Near balance near = (balance ≡ 0) × From1To most_near near
AreNeeded Both balance near = From1To most_balance balance × From1To most_near near

-- a method with the columns of values that it needs, and in another order than that of the frame only where it takes one
pub record IsProcedure (p : Procedure) : Type 0 where
  pub order : p.order ≡ the_order.Random → IsTrue (row p.method).takes_order
  pub columns : AreNeeded (row p.method).needs p.balance p.near

-- a method over units without values, in the order of the frame
abbrev pub without_values : Method → Procedure
without_values method =
    record { method = method; order = the_order.Frame; balance = 0; near = 0 }
