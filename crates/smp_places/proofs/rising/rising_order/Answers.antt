use Rattle.std.proofs.{Common.{◌≡◌, ℕ, ◌++◌, List, length, take, drop, sym, subst, arith}, lemmas.List.{take_at}}
use Rattle.std.specs.{List.{range_with_len}, List.Sorted.{IsPermutation}}
use Rattle.smp_places.specs.Orders.{InRisingOrder}
use Rattle.smp_places.proofs.rising.rising_order.Goals as goal

pub returns : goal.returns
returns c =
    let order : List ℕ = c.rank.new.order in
    let long : length order ≡ c.in_ok-order.order.len = omega arith in
    let is : take c.in_ok-order.order.len (order ++ drop (length order) c.in_ok-order.order.items) ≡ order = take_at order (drop (length order) c.in_ok-order.order.items) c.in_ok-order.order.len long in
    let permuted : IsPermutation (range_with_len 0 (length c.args.amounts.now)) order = subst (λ (xs : List ℕ). IsPermutation xs order) c.in_ok-order.ensures (subst (λ (xs : List ℕ). IsPermutation xs order) c.as_mut_slice.ensures.value c.rank.ensures.permuted) in
    subst (λ (xs : List ℕ). InRisingOrder c.args.amounts.now xs) (sym is) (record { permuted = permuted; rises = c.rank.ensures.rises })
