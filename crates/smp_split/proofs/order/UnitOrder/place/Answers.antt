use Rattle.std.proofs.{Common.{◌≡◌, ◌+◌, ◌<◌, length, arith, sym, ◌∙◌}, lemmas.List.FromFn.{length-range_with_len, get_or-range_with_len}}
use Rattle.std.specs.List.{range_with_len}
use Rattle.smp_split.proofs.order.UnitOrder.place.Goals as goal

pub returns-then-self : goal.returns-then-self
returns-then-self c =
    let unit = c.args.unit in
    let count = c.self.inside.count in
    let asked : unit < length (range_with_len 0 count) = rw (c.if-self.true) at (rw (← c.self.view_is) at c.requires) in
    let within : unit < count = omega (arith, asked, length-range_with_len 0 count) in
    let none : 0 + unit ≡ unit = omega arith in
    rw (← c.self.view_is, c.if-self.true) (sym (get_or-range_with_len 0 count unit 0 within ∙ none))
