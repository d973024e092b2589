-- The keys of a design that has no unknown key.
use Rattle.std.proofs.Common.{◌≡◌, ℕ, zero, suc, arith, Bool, true, false, cond, not, nat_cmp, Ordering, Less, Equal, Greater, List, ◌∷◌, filter, Option, Some, None, codes, refl, sym, ap, ◌∙◌}
use Rattle.std.specs.{Prelude.{is_some}, Ordering.{match_ordering, is_eq}, Cmp.Lexicographic.{slice_cmp}}
use Rattle.std.proofs.{lemmas.Map.Text.{is_eq-slice_cmp}, lemmas.Slice.Eq.{bytes_eq-Decides}}
use Rattle.toml.specs.Data.{Data, Members, no_members, member, get_member}
use Rattle.smp_design.specs.{Procedures.{From1To}, Values.{last_version}}
use Rattle.smp_design.specs.Keys.{first_key, is_among, keys_of, first_unknown, has, known_keys, unknown_key}
use Rattle.smp_design.proofs.Went.{neither}

-- where no key fails a test, the key of each member passes it
module _ (p : List ℕ → Bool) (key : List ℕ) where
  rest_passes : (b : Bool) (name : List ℕ) (names : List (List ℕ)) → first_key (cond b (name ∷ filter p names) (filter p names)) ≡ None → b ≡ false
  rest_passes true name names h = absurd (cc)
  rest_passes false name names h = refl

  here_or_later : (o : Ordering) (name : List ℕ) (value : Data) (rest : Option Data) → (o ≡ Equal → key ≡ name) → p name ≡ false → (is_some rest ≡ true → p key ≡ false)
      → is_some (match_ordering o rest (Some value) rest) ≡ true → p key ≡ false
  here_or_later Less name value rest same fails later h = later h
  here_or_later Equal name value rest same fails later h = ap p (same refl) ∙ fails
  here_or_later Greater name value rest same fails later h = later h

  each_passes : (t : Members) → first_key (filter p (keys_of t)) ≡ None → has key t ≡ true → p key ≡ false
  each_passes no_members none h = absurd (cc)
  each_passes (member name value rest) none h =
      let fails = rest_passes (p name) name (keys_of rest) none in
      here_or_later (slice_cmp nat_cmp key name) name value (get_member key rest) (λ e. (bytes_eq-Decides key name).0 (sym (is_eq-slice_cmp key name) ∙ ap is_eq e)) fails (each_passes rest (rw fails at none)) h

is_not : (b : Bool) → not b ≡ false → b ≡ true
is_not true h = refl
is_not false h = absurd (cc)

-- each key of a design is known in its version
key_known : (version : ℕ) (t : Members) (key : List ℕ) → unknown_key version t ≡ None → has key t ≡ true → is_among (known_keys version) key ≡ true
unfolding unknown_key
key_known version t key none h =
    is_not (is_among (known_keys version) key) (each_passes (λ k. not (is_among (known_keys version) k)) key t (neither (first_unknown (known_keys version) t) _ none).first h)

-- so a column of probabilities stands in version 2 alone
pub prob_in_2 : (version : ℕ) (t : Members) → From1To last_version version → unknown_key version t ≡ None → has (codes "prob") t ≡ true → version ≡ 2
prob_in_2 zero t within none h = absurd (omega (arith, within))
prob_in_2 (suc zero) t within none h = absurd (let known = key_known 1 t (codes "prob") none h in cc)
prob_in_2 (suc (suc zero)) t within none h = refl
prob_in_2 (suc (suc (suc n))) t within none h = absurd (omega (arith, within))
