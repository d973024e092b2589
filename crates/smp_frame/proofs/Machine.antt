-- A record takes at least a byte, and a reader stands between two records after it.
use Rattle.std.proofs.Common.{◌≡◌, ℕ, ◌≤◌, ◌<◌, Bool, true, false, List, [], ◌∷◌, ◌++◌, Some, None, length, refl, subst, arith, if◌then◌else◌, ◌==◌}
use Rattle.csv.specs.Machine.{Read, next_record, step, in_field, start_field, start_record, after_end, ends_at_end, is_end, fields_after, field_after, carriage_return}
use Rattle.csv.specs.{declared.parser.Config.{Config}, declared.parser.Action.{Action}, declared.parser.State.{State}}
use Rattle.csv.specs.declared.parser.Action.TheVariants as act
use Rattle.csv.specs.declared.parser.State.TheVariants as st
use Rattle.csv.specs.declared.parser.Terminator.{Terminator}
use Rattle.csv.specs.declared.parser.Terminator.TheVariants as term

-- after the end of a record a machine stands at the start of one
record Rests (x : State × Action) : Type 0 where
  at_start : is_end x.1 ≡ true → ends_at_end x.0 ≡ false

rests_either : (b : Bool) (x y : State × Action) → Rests x → Rests y → Rests (if b then x else y)
rests_either true x y h k = h
rests_either false x y h k = k

at_end : (t : Terminator) (c : ℕ) → ends_at_end (after_end t c) ≡ false
at_end term.CRLF c = elim (c == carriage_return) as (λ b. ends_at_end (if b then st.AfterCr else st.StartRecord) ≡ false) [ true ↦ refl | false ↦ refl ]
at_end (term.Any t) c = refl

goes_on : (s : State) (a : Action) → is_end a ≡ false → Rests (s, a)
goes_on s a h = record { at_start = λ e. absurd (cc (h, e)) }

rests_in_field : (cfg : Config) (c : ℕ) → Rests (in_field cfg c)
rests_in_field cfg c = rests_either _ _ _ (goes_on st.StartField act.EndField refl) (rests_either _ _ _ (record { at_start = λ e. at_end cfg.terminator c }) (goes_on st.InField act.Copy refl))

rests_start_field : (cfg : Config) (c : ℕ) → Rests (start_field cfg c)
rests_start_field cfg c = rests_either _ _ _ (goes_on st.InQuoted act.Skip refl) (rests_in_field cfg c)

rests_start_record : (cfg : Config) (c : ℕ) → Rests (start_record cfg c)
rests_start_record cfg c = rests_either _ _ _ (goes_on st.StartRecord act.Skip refl) (rests_either _ _ _ (goes_on st.InComment act.Skip refl) (rests_start_field cfg c))

rests : (cfg : Config) (s : State) (c : ℕ) → Rests (step cfg s c)
rests cfg st.StartRecord c = rests_start_record cfg c
rests cfg st.StartField c = rests_start_field cfg c
rests cfg st.InField c = rests_in_field cfg c
rests cfg st.InQuoted c = rests_either _ _ _ (goes_on st.AfterQuote act.Skip refl) (rests_either _ _ _ (goes_on st.InEscape act.Skip refl) (goes_on st.InQuoted act.Copy refl))
rests cfg st.InEscape c = goes_on st.InQuoted act.Copy refl
rests cfg st.AfterQuote c = rests_either _ _ _ (goes_on st.InQuoted act.Copy refl) (rests_in_field cfg c)
rests cfg st.InComment c = rests_either _ _ _ (goes_on st.StartRecord act.Skip refl) (goes_on st.InComment act.Skip refl)
rests cfg st.AfterCr c = rests_either _ _ _ (goes_on st.StartRecord act.Skip refl) (rests_start_record cfg c)

-- a record takes a byte, or the text had ended
abbrev Takes : List ℕ → Read → Type 0
Takes xs r = (ends_at_end r.1 ≡ false) × (length r.2 ≤ length xs)

some_same : (a b : Read) → Some a ≡ Some b → a ≡ b
some_same a b e = cc

at_text_end : (b : Bool) (f : List (List ℕ)) (p : List ℕ) (r : Read) → (if b then Some (f ++ (p ∷ []), st.StartRecord, []) else None) ≡ Some r → Takes [] r
at_text_end true f p r e =
    let same : (f ++ (p ∷ []), st.StartRecord, []) ≡ r = some_same _ _ e in
    subst (λ (q : Read). Takes [] q) same (refl, omega arith)
at_text_end false f p r e = absurd (cc e)

at_rest : (b : Bool) (q r : Read) → b ≡ false → (if b then Some q else None) ≡ Some r → ⊥
at_rest true q r h e = cc h
at_rest false q r h e = cc e

-- the read, by the way a test went
by_end : (cfg : Config) (s : State) (f : List (List ℕ)) (p : List ℕ) (c : ℕ) (xs : List ℕ) (r : Read)
    → ((r1 : Read) → next_record cfg (step cfg s c).0 (fields_after (step cfg s c).1 f p) (field_after (step cfg s c).1 c p) xs ≡ Some r1 → Takes xs r1)
    → (b : Bool) → is_end (step cfg s c).1 ≡ b
    → (if b then Some (fields_after (step cfg s c).1 f p, (step cfg s c).0, xs)
    else next_record cfg (step cfg s c).0 (fields_after (step cfg s c).1 f p) (field_after (step cfg s c).1 c p) xs) ≡ Some r
    → Takes xs r
by_end cfg s f p c xs r more true is e =
    let same : (fields_after (step cfg s c).1 f p, (step cfg s c).0, xs) ≡ r = some_same _ _ e in
    subst (λ (q : Read). Takes xs q) same ((rests cfg s c).at_start is, omega arith)
by_end cfg s f p c xs r more false is e = more r e

takes : (cfg : Config) (s : State) (f : List (List ℕ)) (p xs : List ℕ) (r : Read) → next_record cfg s f p xs ≡ Some r → Takes xs r
unfolding next_record
takes cfg s f p [] r e = at_text_end (ends_at_end s) f p r e
takes cfg s f p (c ∷ xs) r e =
    let t = by_end cfg s f p c xs r (λ r1 e1. takes cfg (step cfg s c).0 _ _ xs r1 e1) (is_end (step cfg s c).1) refl e in
    (t.0, omega arith)

-- from a state of rest a record takes a byte
pub takes_some : (cfg : Config) (s : State) (xs : List ℕ) (r : Read) → ends_at_end s ≡ false → next_record cfg s [] [] xs ≡ Some r → (ends_at_end r.1 ≡ false) × (length r.2 < length xs)
unfolding next_record
takes_some cfg s [] r rest e = absurd (at_rest _ _ _ rest e)
takes_some cfg s (c ∷ xs) r rest e =
    let t = by_end cfg s [] [] c xs r (λ r1 e1. takes cfg (step cfg s c).0 _ _ xs r1 e1) (is_end (step cfg s c).1) refl e in
    (t.0, omega arith)
