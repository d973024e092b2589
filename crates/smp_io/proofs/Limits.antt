-- Bytes of a reader that were asked for up to one past a limit.
use Rattle.std.proofs.Common.{◌≡◌, ◌+◌, ◌≤◌, ◌<◌, ℕ, List, take, length, Option, Some, None, option_map, arith, ap, ◌∙◌, inl, inr}
use Rattle.std.specs.Prelude.{IfSome, SomeIff, nat_lt}
use Rattle.std.proofs.{lemmas.Bool.{cases_Bool, ltb-true, ltb-false}, lemmas.List.{length-take-le, take_all}}

module _ (limit asked : ℕ) (bytes : List ℕ) (one_more : asked ≡ limit + 1) where
  -- Where no more came than the limit, these are all that there were.
  pub all_within : (told : Option (List ℕ)) → length bytes ≤ limit → IfSome (option_map (take asked) told) (λ front. bytes ≡ front)
      → IfSome told (λ left. SomeIff (Some bytes) (length left ≤ limit) left)
  all_within None within front = tt
  all_within (Some left) within front =
      elim (cases_Bool (nat_lt limit (length left))) [
        | inl e ↦
            (let more : limit < length left = ltb-true limit (length left) e in
            let all : length (take asked left) ≡ asked = length-take-le asked left (omega (arith, one_more, more)) in
            absurd (omega (arith, one_more, within, all, ap length front)))
        | inr e ↦ (let few : length left ≤ limit = ltb-false limit (length left) e in (few, front ∙ take_all asked left (omega (arith, one_more, few))))
      ]

  -- Where more came, there were more.
  pub more_left : (told : Option (List ℕ)) → limit < length bytes → IfSome (option_map (take asked) told) (λ front. bytes ≡ front)
      → IfSome told (λ left. SomeIff None (length left ≤ limit) left)
  more_left None more front = tt
  more_left (Some left) more front = λ few.
      let all : take asked left ≡ left = take_all asked left (omega (arith, one_more, few)) in
      absurd (omega (arith, more, few, ap length (front ∙ all)))
