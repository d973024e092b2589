use Rattle.std.proofs.{Common.{◌≡◌, ℕ, ◌<◌, Result, refl, subst, arith}, lemmas.Bool.{lt-ltb}}
use Rattle.smp_tape.specs.{declared.draws.DrawFault.{DrawFault}, Sieves.{first_below, sieve_draw, sieve_next}, Laws.Sieves.{draw_idle}}
use Rattle.smp_tape.specs.Streams.{Stream, ahead, behind}
use Rattle.smp_tape.proofs.Fairness.{fair}
use Rattle.smp_tape.proofs.sieve.SieveDraws.below.Goals as goal

draw_more : (words : ℕ → ℕ) (bound : ℕ) → 1 < bound → sieve_draw words bound ≡ first_below 256 words 0 bound
unfolding sieve_draw
draw_more words bound h = rw (lt-ltb 1 bound h) refl

pub returns-then-bound-eq1-clause-drawn : goal.returns-then-bound-eq1-clause-drawn
returns-then-bound-eq1-clause-drawn g c = rw c.if-bound-eq1.true (draw_idle g.W.Words.stream c.args.self.now)

drawn_is : {Words : Type 0} (stream : Stream Words) (words left : Words) (bound : ℕ) (answer : Result ℕ DrawFault) → 1 < bound → answer ≡ (first_below 256 (ahead stream words) 0 bound).0 → left ≡ behind stream (first_below 256 (ahead stream words) 0 bound).1 words
    → sieve_next stream words bound ≡ record { answer = answer; rest = left }
drawn_is stream words left bound answer some exact rest =
    let more = draw_more (ahead stream words) bound some in
    rw (more, exact, rest) refl

pub returns-clause-drawn : goal.returns-clause-drawn
returns-clause-drawn g c =
    let stream = g.W.Words.stream in
    let drawn = drawn_is stream c.self.inside.words c.first_below.new.words c.args.bound c.first_below.result (omega arith) c.first_below.ensures.exact c.first_below.ensures.rest in
    subst (λ words. sieve_next stream words c.args.bound ≡ record { answer = c.first_below.result; rest = c.first_below.new.words }) c.self.view_is drawn

pub returns-clause-fair : goal.returns-clause-fair
returns-clause-fair g c some = fair c.args.bound some c.requires.narrow
