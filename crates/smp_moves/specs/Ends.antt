-- How far a line can be followed, the values at its end, and the weights of both ends, as functions of the values.
use Rattle.std.specs.Prelude.{ℕ, suc, ◌+◌, ◌-◌, ◌*◌, ◌/◌, nat_le, nat_lt, Bool, if◌then◌else◌, List}
use Rattle.std.specs.Prelude.{[], ◌∷◌, ℤ, pos, negsuc, fold, length, map, slice_index}
use Rattle.std.specs.List.{range_with_len, list_all}
use Rattle.std.specs.Int.RustNames.{unsigned_abs}
use Rattle.smp_frac.specs.Limits.{most_entry}
use Rattle.smp_frac.specs.Divisors.{greatest_common_divisor}
use Rattle.smp_prob.specs.Shares.{Shares}
use Rattle.smp_moves.specs.declared.lines.Ratio.{Ratio}
use Rattle.smp_moves.specs.declared.reaches.Reach.{Reach}
use Rattle.smp_moves.specs.Moves.{Line, Move, entry_of, turned}

-- ---- how far a line can be followed

-- what is left of the value a / d in the direction of an entry, as a numerator
abbrev pub room : ℕ → ℕ → ℤ → ℕ
room d a (pos n) = d - a
room d a (negsuc n) = a

-- what is left of a unit's value in the direction of an entry, and the size of the entry
abbrev pub reach_at : Shares → ℕ → ℤ → Reach
reach_at s unit e = record { left = room s.den (slice_index s.numer unit) e; size = unsigned_abs e }

-- of two units, the one that meets its end first; where the size is 0 none is met
abbrev pub nearer : Reach → Reach → Reach
nearer a b = if nat_lt (b.left * a.size) (a.left * b.size) then b else a

-- the nearest of some units, and of the one that was so far
abbrev pub reach_from : Shares → Reach → List ℕ → List ℤ → Reach
reach_from s so_far [] entries = so_far
reach_from s so_far (u ∷ units) [] = so_far
reach_from s so_far (u ∷ units) (e ∷ entries) = reach_from s (nearer so_far (reach_at s u e)) units entries

-- that of the unit of a line that meets its end first
abbrev pub reach : Shares → Line → Reach
reach s line = reach_from s (record { left = 1; size = 0 }) line.units line.entries

-- a / b in lowest terms
abbrev pub lowest : ℕ → ℕ → Ratio
lowest a b = record { num = a / greatest_common_divisor a b; den = b / greatest_common_divisor a b }

-- how far the line is followed
abbrev pub extent : Shares → Line → Ratio
extent s line = lowest (reach s line).left (s.den * (reach s line).size)

-- ---- the values at the end of a line

-- a value over d, after a move that uses up the room of a reach, as a numerator over d times the size of the reach
abbrev pub advanced : ℕ → Reach → ℤ → ℕ
advanced a r (pos n) = a * r.size + r.left * n
advanced a r (negsuc n) = a * r.size - r.left * suc n

-- the same of all units
abbrev pub advanced_numbers : List ℕ → Line → Reach → List ℕ
advanced_numbers numer line r = map (λ k. advanced (slice_index numer k) r (entry_of line k)) (range_with_len 0 (length numer))

-- what all these numerators have in common with a multiple of the requested denominator
abbrev pub common_factor : ℕ → List ℕ → ℕ
common_factor times numbers = fold greatest_common_divisor times numbers

-- the values at the end of a line, where the requested denominator is this
abbrev pub end_of : ℕ → Shares → Line → Shares
end_of requested_den s line =
    let r = reach s line in
    let full = s.den * r.size in
    let numbers = advanced_numbers s.numer line r in
    let common = common_factor (full / requested_den) numbers in
    record { numer = map (λ n. n / common) numbers; den = full / common }

-- ---- the move

-- the weights of both ends, as a fraction in lowest terms
abbrev pub weights : Reach → Reach → Ratio
weights up down = lowest (down.left * up.size) (up.left * down.size)

-- the move along a line: its weights, how far it is followed both ways, and the line
abbrev pub move_along : Shares → Line → Move
move_along s line =
    let w = weights (reach s line) (reach s (turned line)) in
    record { plus_weight = w.num; minus_weight = w.den; up = extent s line; down = extent s (turned line); direction = line }

-- whether each entry of a line fits its gate
abbrev pub entries_fit : Line → Bool
entries_fit line = list_all (λ e. nat_le (unsigned_abs e) most_entry) line.entries
