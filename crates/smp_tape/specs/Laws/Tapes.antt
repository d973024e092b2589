-- What a tape answers is below the bound, and a bound of 1 takes no value.
use Rattle.std.proofs.Common.{◌≡◌, ℕ, ◌+◌, ◌<◌, ◌≤◌, nat_lt, List, [], ◌∷◌, length, Result, Ok, Err, arith, inl}
use Rattle.std.proofs.Common.{inr, refl}
use Rattle.std.proofs.lemmas.Bool.{cases_Bool, ltb-true}
use Rattle.smp_tape.specs.declared.draws.DrawFault.{DrawFault}
use Rattle.smp_tape.specs.declared.draws.DrawFault.TheVariants.{Short, TooBig}
use Rattle.smp_tape.specs.Tapes.{drawn_from}

pub below_from : (taken left : List ℕ) (bound value : ℕ) → 1 ≤ bound
    → (drawn_from taken left bound).answer ≡ Ok value → value < bound
below_from taken [] bound value p h =
    elim (cases_Bool (nat_lt 1 bound)) [
      | inl e ↦ absurd (let f : ◌≡◌ {A = Result ℕ DrawFault} (Err Short) (Ok value) = rw e at h in cc)
      | inr e ↦ (let f : ◌≡◌ {A = Result ℕ DrawFault} (Ok 0) (Ok value) = rw e at h in let v : 0 ≡ value = cc in omega arith)
    ]
below_from taken (u ∷ left) bound value p h =
    elim (cases_Bool (nat_lt 1 bound)) [
      | inl e ↦ elim (cases_Bool (nat_lt u bound)) [
        | inl l ↦
            (let f : ◌≡◌ {A = Result ℕ DrawFault} (Ok u) (Ok value) = rw (e, l) at h in
            let v : u ≡ value = cc in
            let less : u < bound = ltb-true u bound l in omega arith)
        | inr l ↦ absurd (let f : ◌≡◌ {A = Result ℕ DrawFault} (Err (TooBig (length taken + 1) u)) (Ok value) =
            rw (e, l) at h in cc)
      ]
      | inr e ↦ (let f : ◌≡◌ {A = Result ℕ DrawFault} (Ok 0) (Ok value) = rw e at h in let v : 0 ≡ value = cc in omega arith)
    ]

pub idle_from : (taken left : List ℕ) → drawn_from taken left 1
    ≡ record { answer = Ok 0; rest = record { taken = taken; left = left } }
idle_from taken [] = refl
idle_from taken (u ∷ left) = refl
