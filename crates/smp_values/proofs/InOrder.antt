-- A selection in an order starts from any values in range.
use Rattle.std.proofs.Common.{◌^◌, ◌<◌, length}
use Rattle.smp_prob.specs.{declared.orders.Order.{Order}, Shares.{Shares}}
use Rattle.smp_split.specs.{Counts.{LeavesSelectAround}, Methods.{Starts}}
use Rattle.smp_split.proofs.Methods.{starts_around}
use Rattle.smp_values.specs.{InOrder.{StepRule, LawfulRule, placed_method}, Starts.{ordered_values}, Values.{IsValues}}
use Rattle.smp_values.proofs.Requests.{starts_in_order}

module _ (rule : StepRule) (law : LawfulRule rule) (order : Order) (s : Shares) (few : length s.numer < 2 ^ 64) (ok : IsValues (length s.numer) rule.most s) where
  pub placed_around : LeavesSelectAround (placed_method rule law.lawful (ordered_values order s)).tree (ordered_values order s)
  placed_around = law.around (length s.numer) (ordered_values order s) (starts_in_order order rule.most s few ok)

  pub placed_starts : Starts (placed_method rule law.lawful (ordered_values order s)) (ordered_values order s)
  placed_starts = starts_around (placed_method rule law.lawful (ordered_values order s)) (ordered_values order s) (starts_in_order order rule.most s few ok) placed_around
