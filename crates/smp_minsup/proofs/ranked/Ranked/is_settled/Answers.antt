use Rattle.std.proofs.{Common.{◌≡◌, nat_eq, ◌&&◌, true, false, length, ap, sym, ◌∙◌}, lemmas.Bool.{eq-eqb, ne_eqb}}
use Rattle.smp_minsup.specs.Kept.Ranked.{largest_small, least_large}
use Rattle.smp_minsup.proofs.States.{done_is}
use Rattle.smp_minsup.proofs.ranked.Ranked.is_settled.Goals as goal

pub returns-then-largest_small_numer-eq0 : goal.returns-then-largest_small_numer-eq0
returns-then-largest_small_numer-eq0 c =
    let first : nat_eq (largest_small c.args.self.now) 0 ≡ true = eq-eqb (largest_small c.args.self.now) 0 (sym c.largest_small_numer.ensures ∙ c.if-largest_small_numer-eq0.true) in
    let both = done_is c.args.den c.args.self.now c.requires.cut (length c.args.self.now.numer) c.requires.state in
    let second : nat_eq (least_large c.args.den c.args.self.now) c.args.den ≡ (nat_eq (largest_small c.args.self.now) 0 && nat_eq (least_large c.args.den c.args.self.now) c.args.den) = ap (λ b. b && nat_eq (least_large c.args.den c.args.self.now) c.args.den) (sym first) in
    ap (λ a. nat_eq a c.args.den) c.least_large_numer.ensures ∙ second ∙ both

pub returns-else-largest_small_numer-eq0 : goal.returns-else-largest_small_numer-eq0
returns-else-largest_small_numer-eq0 c =
    let first : nat_eq (largest_small c.args.self.now) 0 ≡ false = ne_eqb (largest_small c.args.self.now) 0 (λ e. c.if-largest_small_numer-eq0.false (c.largest_small_numer.ensures ∙ e)) in
    let both = done_is c.args.den c.args.self.now c.requires.cut (length c.args.self.now.numer) c.requires.state in
    let second : false ≡ (nat_eq (largest_small c.args.self.now) 0 && nat_eq (least_large c.args.den c.args.self.now) c.args.den) = ap (λ b. b && nat_eq (least_large c.args.den c.args.self.now) c.args.den) (sym first) in
    ap (λ a. nat_eq a 0) c.largest_small_numer.ensures ∙ first ∙ second ∙ both
