-- What a sieve answers is below the bound, and a bound of 1 takes no word.
use Rattle.std.proofs.Common.{◌≡◌, ℕ, zero, suc, ◌+◌, ◌<◌, ◌≤◌, nat_lt, Result, Ok, Err, refl, arith, inl, inr}
use Rattle.std.proofs.lemmas.Bool.{cases_Bool, ltb-true}
use Rattle.smp_tape.specs.declared.draws.DrawFault.{DrawFault}
use Rattle.smp_tape.specs.declared.draws.DrawFault.TheVariants.{Rejected}
use Rattle.smp_tape.specs.Streams.{Stream}
use Rattle.smp_tape.specs.Sieves.{candidate, first_below, sieve_draw, sieve_next, words_of}

-- the first candidate below a bound is below it
first-below : (n : ℕ) (words : ℕ → ℕ) (place bound value : ℕ) → (first_below n words place bound).0 ≡ Ok value
    → value < bound
unfolding first_below
first-below zero words place bound value h =
    absurd (let f : ◌≡◌ {A = Result ℕ DrawFault} (Err (Rejected bound)) (Ok value) = h in cc)
first-below (suc n) words place bound value h =
    elim (cases_Bool (nat_lt (candidate words place bound) bound)) [
      | inl e ↦
          (let f : ◌≡◌ {A = Result ℕ DrawFault} (Ok (candidate words place bound)) (Ok value) = rw e at h in
          let same : candidate words place bound ≡ value = cc in
          let less : candidate words place bound < bound = ltb-true (candidate words place bound) bound e in
          omega (arith, same, less))
      | inr e ↦ first-below n words (place + words_of bound) bound value (rw e at h)
    ]

pub draw_below : (words : ℕ → ℕ) (bound value : ℕ) → 1 ≤ bound → (sieve_draw words bound).0 ≡ Ok value → value < bound
unfolding sieve_draw
draw_below words bound value some h =
    elim (cases_Bool (nat_lt 1 bound)) [
      | inl e ↦ first-below 256 words 0 bound value (rw e at h)
      | inr e ↦ (let f : ◌≡◌ {A = Result ℕ DrawFault} (Ok 0) (Ok value) = rw e at h in let v : 0 ≡ value = cc in omega arith)
    ]

pub draw_idle : {Words : Type 0} (stream : Stream Words) (words : Words)
    → sieve_next stream words 1 ≡ record { answer = Ok 0; rest = words }
unfolding sieve_draw
draw_idle stream words = refl
