-- The rows of the demonstration's frame, one after another.
use Rattle.std.proofs.Common.{◌≡◌, ℕ, suc, ◌+◌, ◌-◌, ◌*◌, ◌<◌, ◌≤◌, List, ◌++◌, arith, sym, ap, ◌∙◌, append_assoc}
use Rattle.std.specs.List.{flat_map, range_with_len}
use Rattle.smp_cases.specs.Demo.{demo_row, row_text, state_after}

-- what is left from row i on
abbrev pub rows_from : ℕ → ℕ → ℕ → List ℕ
rows_from seed i count = flat_map (demo_row seed) (range_with_len i count)

-- the state behind a row
pub state_behind : (seed i state next : ℕ) → 1 ≤ i → state ≡ state_after seed (3 * (i - 1)) → next ≡ state_after state 3 → next ≡ state_after seed (3 * (i + 1 - 1))
state_behind seed i state next some is then =
    let calls : 3 * (i + 1 - 1) ≡ suc (suc (suc (3 * (i - 1)))) = omega (arith, some) in
    then ∙ ap (λ s. state_after s 3) is ∙ ap (state_after seed) (sym calls)

-- the text with a row
pub text_behind : (seed n i state : ℕ) (before after whole : List ℕ) → i < n + 1 → state ≡ state_after seed (3 * (i - 1)) → before ++ rows_from seed i (n + 1 - i) ≡ whole → after ≡ before ++ row_text state i
    → after ++ rows_from seed (i + 1) (n + 1 - (i + 1)) ≡ whole
text_behind seed n i state before after whole within is all then =
    let count : n + 1 - i ≡ suc (n + 1 - (i + 1)) = omega (arith, within) in
    ap (λ t. t ++ rows_from seed (i + 1) (n + 1 - (i + 1))) (then ∙ ap (λ s. before ++ row_text s i) is)
    ∙ append_assoc before (demo_row seed i) (rows_from seed (i + 1) (n + 1 - (i + 1)))
    ∙ ap (λ k. before ++ rows_from seed i k) (sym count) ∙ all
