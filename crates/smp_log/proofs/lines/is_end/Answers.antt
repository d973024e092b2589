use Rattle.std.proofs.Common.{◌≡◌, ℕ, ◌<◌, ◌^◌, Bool, true, false, Option, Some, None, sym, ap, arith, codes, eqb, subst}
use Rattle.std.proofs.lemmas.Bool.{eqb-true, eq-eqb}
use Rattle.std.specs.{Bool.{Decides}, Option.{option_eq}}
use Rattle.smp_log.specs.Reading.{behind, written}
use Rattle.smp_log.proofs.{Texts.{behind-is}, StepLines.{end_line-count}}
use Rattle.smp_log.proofs.lines.is_end.Goals as goal

same_option : (o : Option ℕ) (n : ℕ) → Decides (option_eq eqb o (Some n)) (o ≡ Some n)
same_option None n = (λ e. absurd (let no : ◌≡◌ {A = Bool} false true = e in cc), λ e. absurd (let no : ◌≡◌ {A = Option ℕ} None (Some n) = e in cc))
same_option (Some m) n = (λ e. ap Some (eqb-true m n e), λ e. (let is : ◌≡◌ {A = Option ℕ} (Some m) (Some n) = e in let same : m ≡ n = cc in eq-eqb m n same))

pub returns-in-Some : goal.returns-in-Some
returns-in-Some c =
    let front : behind (codes "end ") c.args.line.now ≡ Some c.in-Some.count.now = sym c.in-Some.ensures in
    let is = behind-is (codes "end ") c.args.line.now c.in-Some.count.now front in
    let small : c.args.steps < 2 ^ 128 = omega arith in
    let decides : Decides c.eq.result (written c.in-Some.count.now ≡ Some c.args.steps) =
    subst (λ o. Decides c.eq.result (o ≡ Some c.args.steps)) c.written.ensures (subst (λ b. Decides b (c.written.result ≡ Some c.args.steps)) (sym c.eq.ensures) (same_option c.written.result c.args.steps)) in
    end_line-count c.args.steps c.args.line.now c.in-Some.count.now c.eq.result small is decides
