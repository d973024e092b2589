use Rattle.std.proofs.Common.{◌≡◌, ◌≢◌, ℕ, ◌+◌, ◌<◌, ◌≤◌, ◌++◌, Bool, true, false, cond, ltb, List, [], ◌∷◌, drop, length, get_or, map, rules, refl, sym, ap, subst, arith}
use mir.Val.{bool_byte}
use Rattle.std.proofs.lemmas.List.{drop_all, drop_more}
use Rattle.smp_split.specs.{declared.kind.Kind.{Kind}, declared.kind.Kind.TheVariants.{Order}, Paths.{Entry}}
use Rattle.smp_log.specs.{Logs.{step_text, end_text}, SectionLogs.{RiseFrom, done_text, section_line, stratum_text}}
use Rattle.smp_log.proofs.SectionWrites.{WritesOpening, enters, first, leaves, steps_on, whole_log}
use Rattle.smp_log.proofs.section_writing.log_bytes.Goals as goal
use Rattle.smp_log.proofs.section_writing.log_bytes.Goals.{then-loop-next-test+else-steps-next, else-loop-next-test}

bool_cond : (b : Bool) → bool_byte b ≡ cond b 1 0
bool_cond true = refl
bool_cond false = refl

-- the lines as they are kept
abbrev Kept : Type 0
Kept = List (ℕ × Kind × ℕ × ℕ)

-- the next line, and those behind it
next_line : (lines : Kept) (next : ℕ) → next < length lines → map section_line (drop next lines) ≡ section_line (get_or lines next (0, Order, 0, 0)) ∷ map section_line (drop (next + 1) lines)
next_line lines next less = ap (map section_line) (drop_more lines next (0, Order, 0, 0) less)

-- where the next line isn't of the section none of those that are left is
later : (count h : ℕ) (step : ℕ × Entry) (left : List (ℕ × Entry)) → RiseFrom count h (step ∷ left) → step.0 ≢ h → RiseFrom count (h + 1) (step ∷ left)
later count h step left rise away =
    let low : h ≤ step.0 = rise.0 in
    let above : h + 1 ≤ step.0 = omega arith in
    (above, rise.1, rise.2)

pub loop-section-init : goal.loop-section-init
loop-section-init c =
    subst (λ left. WritesOpening c.args.head.now c.args.sections c.args.lines.now 0 0 0 left c.push_all.new.self) (sym c.as_slice-steps.ensures)
    (first c.args.head.now c.args.sections c.args.lines.now c.requires c.push_all.new.self (search rules))

pub loop-next-init : goal.loop-next-init
loop-next-init c =
    let more : c.push_stratum.new.text ≡ c.loop-section.text ++ stratum_text (c.loop-section.section + 1) c.loop-section.taken = c.in_ok-push_stratum.ensures in
    enters c.args.head.now c.args.sections c.args.lines.now c.loop-section.section c.loop-section.taken c.loop-section.next _ c.loop-section.text c.push_stratum.new.text c.loop-section.invariant c.loop-section-test.true more

pub loop-next-preserved : goal.loop-next-preserved
loop-next-preserved c =
    let lines = c.as_slice-steps.result.now in
    let line = get_or lines c.loop-next.next (0, Order, 0, 0) in
    let entry : Entry = (line.1, line.2, line.3) in
    let more : c.push_step.new.text ≡ c.loop-next.text ++ step_text entry = c.in_ok-push_step.ensures in
    rw (bool_cond (ltb 1 line.2))
    (steps_on c.args.head.now c.args.sections c.args.lines.now c.loop-section.section c.loop-next.taken c.loop-next.next c.loop-next.own (map section_line (drop c.loop-next.next lines)) c.loop-next.text c.loop-next.invariant line.0 entry (map section_line (drop (c.loop-next.next + 1) lines)) c.push_step.new.text (next_line lines c.loop-next.next c.loop-next-test.true) c.if-steps-next.true more)

pub loop-section-preserved : goal.loop-section-preserved
loop-section-preserved c =
    let lines = c.as_slice-steps.result.now in
    let left = map section_line (drop c.loop-next.next lines) in
    let more : c.push_done.new.text ≡ c.loop-next.text ++ done_text (c.loop-section.section + 1) c.loop-next.own = c.in_ok-push_done.ensures in
    let none : RiseFrom c.args.sections (c.loop-section.section + 1) left =
    elim c.loop-next-test.branch [
      | then-loop-next-test+else-steps-next w ↦
          (let cells = next_line lines c.loop-next.next w.loop-next-test.true in
          subst (RiseFrom c.args.sections (c.loop-section.section + 1)) (sym cells) (later c.args.sections c.loop-section.section (section_line (get_or lines c.loop-next.next (0, Order, 0, 0))) (map section_line (drop (c.loop-next.next + 1) lines)) (subst (RiseFrom c.args.sections c.loop-section.section) cells c.loop-next.invariant.rise) w.if-steps-next.false))
      | else-loop-next-test w ↦
          (let all : drop c.loop-next.next lines ≡ [] = drop_all c.loop-next.next lines w.loop-next-test.false in
          subst (λ (ls : Kept). RiseFrom c.args.sections (c.loop-section.section + 1) (map section_line ls)) (sym all) tt)
    ] in
    leaves c.args.head.now c.args.sections c.args.lines.now c.loop-section.section c.loop-next.taken c.loop-next.next c.loop-next.own left c.loop-next.text c.loop-next.invariant c.push_done.new.text none more

pub returns : goal.returns
returns c =
    let more : c.push_end.new.text ≡ c.loop-section.text ++ end_text c.loop-section.next = c.in_ok-push_end.ensures in
    whole_log c.args.head.now c.args.sections c.args.lines.now c.loop-section.section c.loop-section.taken c.loop-section.next _ c.loop-section.text c.push_end.new.text c.loop-section.invariant c.loop-section-test.false more
