use Rattle.std.proofs.Common.{◌≡◌, Bool, true, false, List, ℕ, Option, Some, None, option_map, refl, sym, ap, ◌∙◌, Bor}
use Rattle.std.specs.Prelude.{is_some}
use Rattle.smp_frac.proofs.Shorter.{shorter}
use Rattle.smp_log.specs.LoneSections.{opens}
use Rattle.smp_log.proofs.OpeningLines.{none_skipped, one_more, skips_to, skips_all}
use Rattle.smp_log.proofs.lone_section.opening.Goals as goal

some_map : {A B : Type 0} (f : A → B) (o : Option A) → is_some (option_map f o) ≡ is_some o
some_map f None = refl
some_map f (Some x) = refl

-- what the code tests is whether the line opens the section
tested : (o : Option (Bor (List ℕ))) (wanted : Option (List ℕ)) (test : Bool) → option_map (λ rest. rest.now) o ≡ wanted → test ≡ is_some o → is_some wanted ≡ test
tested o wanted test is test_is = ap is_some (sym is) ∙ some_map (λ rest. rest.now) o ∙ sym test_is

pub loop-first-init : goal.loop-first-init
loop-first-init c = none_skipped c.args.number c.args.text.now c.args.at

pub loop-first-smaller : goal.loop-first-smaller
loop-first-smaller c = shorter 10 c.loop-first.rest.now c.in-Some.first.now c.in-Some.after.now (sym c.in-Some.ensures)

pub loop-first-preserved : goal.loop-first-preserved
loop-first-preserved c =
    let shut : opens c.args.number c.in-Some.first.now ≡ false = tested c.behind_opening.result _ c.is_some.result c.behind_opening.ensures c.is_some.ensures ∙ c.if-is_some.false in
    one_more c.args.number c.args.text.now c.loop-first.rest.now c.args.at c.loop-first.line c.loop-first.invariant c.in-Some.first.now c.in-Some.after.now (sym c.in-Some.ensures) shut

pub returns-then-is_some-clause-found : goal.returns-then-is_some-clause-found
returns-then-is_some-clause-found c =
    let it : opens c.args.number c.in-Some.first.now ≡ true = tested c.behind_opening.result _ c.is_some.result c.behind_opening.ensures c.is_some.ensures ∙ c.if-is_some.true in
    skips_to c.args.number c.args.text.now c.loop-first.rest.now c.args.at c.loop-first.line c.loop-first.invariant c.in-Some.first.now c.in-Some.after.now (sym c.in-Some.ensures) it

pub returns-clause-none : goal.returns-clause-none
returns-clause-none c = skips_all c.args.number c.args.text.now c.loop-first.rest.now c.args.at c.loop-first.line c.loop-first.invariant (sym c.in_default.ensures)
