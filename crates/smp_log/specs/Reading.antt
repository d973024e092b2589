-- How a log is read, a line at a time beside one state.
use Rattle.std.specs.Prelude.{ℕ, suc, ◌+◌, ◌^◌, nat_lt, ◌==◌, ◌&&◌, Bool, true, false, if◌then◌else◌, List, []}
use Rattle.std.specs.Prelude.{◌∷◌, ◌++◌, length, slice_index, Option, Some, None, option_map, option_and_then, codes}
use Rattle.std.specs.Str.{bytes_eq}
use Rattle.smp_frac.specs.Cuts.{cut_at}
use Rattle.smp_frac.specs.Decimals.{number_below}
use Rattle.smp_split.specs.declared.kind.Kind.{Kind}
use Rattle.smp_split.specs.Kinds.{kind_word}
use Rattle.smp_split.specs.Trees.{Tree, weight_sum, picked}
use Rattle.std.specs.Fmt.{decimal}
use Rattle.smp_split.specs.Paths.{Entry}

-- the line of a step, and the last line behind so many steps, without their line feeds
abbrev pub step_line : Entry → List ℕ
step_line line = kind_word line.0 ++ 32 ∷ (decimal line.1 ++ 32 ∷ decimal line.2)

-- the last line of a log of so many steps, without its line feed
abbrev pub end_line : ℕ → List ℕ
end_line steps = codes "end " ++ decimal steps

-- what stands behind a front
abbrev pub behind : List ℕ → List ℕ → Option (List ℕ)
behind [] text = Some text
behind (b ∷ front) [] = None
behind (b ∷ front) (c ∷ text) = if b == c then behind front text else None

-- the number below 2^128 that a text is the decimal form of, without leading zeros
unfoldable pub written : List ℕ → Option ℕ
written text =
    if slice_index text 0 == 48 && nat_lt 1 (length text) then None else number_below (2 ^ 128) text

-- a number below a bound
abbrev pub below : ℕ → ℕ → Option ℕ
below bound value = if nat_lt value bound then Some value else None

-- behind the word and a blank: the bound, a blank, and a value below the bound
abbrev pub value_of : ℕ → List ℕ × List ℕ → Option ℕ
value_of bound numbers =
    option_and_then
    (λ b. if b == bound then option_and_then (below bound) (written numbers.1) else None)
    (written numbers.0)

-- the two numbers behind a blank, with a blank in between
abbrev pub numbers_of : List ℕ → Option (List ℕ × List ℕ)
numbers_of text = option_and_then (cut_at 32) (behind (32 ∷ []) text)

-- the value of a line, where it is the line of a step of this kind with this bound
unfoldable pub step_value : Kind → ℕ → List ℕ → Option ℕ
step_value kind bound line =
    option_and_then (λ rest. option_and_then (value_of bound) (numbers_of rest))
    (behind (kind_word kind) line)

-- what stands behind a first line, where it is this one
abbrev pub after_line : List ℕ → List ℕ → Option (List ℕ)
after_line wanted text =
    option_and_then (λ p. if bytes_eq p.0 wanted then Some p.1 else None) (cut_at 10 text)

-- the value of a first line that is the line of a step of this kind with this bound, and what stands behind it
abbrev pub step_first : Kind → ℕ → List ℕ → Option (ℕ × List ℕ)
step_first kind bound text =
    option_and_then (λ p. option_map (λ value. (value, p.1)) (step_value kind bound p.0))
    (cut_at 10 text)

-- A reader of lines: the place that a line leads to from a place, where the line may stand there, and the places at which the lines may
-- end.
pub record Script (Place : Type 0) : Type 0 where
  pub follow : Place → List ℕ → Option Place
  pub over : Place → Bool

-- how many lines a script follows, and the place that it comes to
abbrev pub follows : {Place : Type 0} → Script Place → Place → List (List ℕ) → ℕ × Place
follows script place [] = (0, place)
follows script place (line ∷ lines) = elim (script.follow place line) [
  | None ↦ (0, place)
  | Some next ↦ (let rest = follows script next lines in (suc rest.0, rest.1))
]

-- where the reading of a log is: before a line of the head and others; after so many steps, at a state; or behind the last line
pub data LogPlace (State : Type 0) : Type 0 where
  heading : List ℕ → List (List ℕ) → LogPlace State
  stepping : ℕ → State → LogPlace State
  closed : State → LogPlace State

-- before the lines of a head and the steps from a state
abbrev pub before : {State : Type 0} → State → List (List ℕ) → LogPlace State
before from [] = stepping 0 from
before from (line ∷ lines) = heading line lines

-- the place behind a line, after so many steps at a state: in a done state this is the last line, `last` of the number of steps
abbrev pub next_step : {State : Type 0} → Tree State → (ℕ → List ℕ) → ℕ → State → List ℕ
    → Option (LogPlace State)
next_step tree last steps s line =
    if tree.done s then (if bytes_eq line (last steps) then Some (closed s) else None)
    else option_map (λ value. stepping (steps + 1) (picked s (tree.parts s) value))
    (step_value (tree.kind s) (weight_sum (tree.parts s)) line)

-- the place behind a line, from any place
abbrev pub next_place : {State : Type 0} → Tree State → (ℕ → List ℕ) → State → LogPlace State
    → List ℕ → Option (LogPlace State)
next_place tree last from (heading wanted lines) line =
    if bytes_eq line wanted then Some (before from lines) else None
next_place tree last from (stepping steps s) line = next_step tree last steps s line
next_place tree last from (closed s) line = None

-- whether the last line was read
abbrev pub is_closed : {State : Type 0} → LogPlace State → Bool
is_closed (heading wanted lines) = false
is_closed (stepping steps s) = false
is_closed (closed s) = true

-- the reader of a log of version 1 of a tree from a state
abbrev pub log_script : {State : Type 0} → Tree State → (ℕ → List ℕ) → State
    → Script (LogPlace State)
log_script tree last from = record { follow = next_place tree last from; over = is_closed }
