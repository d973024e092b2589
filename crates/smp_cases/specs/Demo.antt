-- The input of the demonstration: a frame of farms with numbers from a linear congruential generator, a design for it, and the key
-- of its draw.
use Rattle.std.specs.Prelude.{ℕ, ◌+◌, ◌-◌, ◌*◌, ◌/◌, ◌%◌, ◌^◌, zero, suc, List, ◌++◌, codes}
use Rattle.std.specs.List.{flat_map, range_with_len}
use Rattle.std.specs.Fmt.{decimal}
use Rattle.std.specs.Int.{to_le_bytes, w64}

-- ---- the generator (Knuth 1997)

-- what a call makes of the state
abbrev pub next_state : ℕ → ℕ
next_state state = (state * 6364136223846793005 + 1442695040888963407) % 2 ^ 64

-- the state after so many calls from this one on
abbrev pub state_after : ℕ → ℕ → ℕ
state_after state zero = state
state_after state (suc calls) = next_state (state_after state calls)

-- the number that a call from this state on gives, where calls are counted from 1: the upper 31 bits of the state that it makes
abbrev pub number : ℕ → ℕ → ℕ
number state call = state_after state call / 2 ^ 33

-- ---- the frame

-- row i, where the generator is in this state before it; a farm is in one of the regions r0, r1 and r2
abbrev pub row_text : ℕ → ℕ → List ℕ
row_text state i =
    let area = 1 + number state 1 % 10000 in
    let herd = number state 2 % 501 in
    let workers = 1 + number state 3 % 20 in
    codes "u" ++ (decimal i ++ (codes ",r" ++ (decimal (i % 3) ++ (codes "," ++ (decimal area
    ++ (codes "," ++ (decimal herd ++ (codes "," ++ (decimal workers ++ codes "\n")))))))))

-- the same in the frame of a seed: each row before it took three calls
abbrev pub demo_row : ℕ → ℕ → List ℕ
demo_row seed i = row_text (state_after seed (3 * (i - 1))) i

-- the header, and then the rows 1 to n
abbrev pub demo_frame_text : ℕ → ℕ → List ℕ
demo_frame_text n seed =
    codes "id,region,area,herd,workers\n" ++ flat_map (demo_row seed) (range_with_len 1 n)

-- ---- the design

-- a fifth of the farms, balanced on their numbers in each region
abbrev pub demo_design_text : ℕ → List ℕ
demo_design_text n =
    codes "version = 1\nmethod = \"cube\"\nid = \"id\"\nstratum = \"region\"\n"
    ++ (codes "balance = [\"area\", \"herd\", \"workers\"]\nn = " ++ (decimal (n / 5) ++ codes "\n"))

-- ---- the draw

-- the key of a seed: its 8 bytes, the lowest first, four times over
abbrev pub demo_key : ℕ → List ℕ
demo_key seed = let bytes = to_le_bytes w64 seed in bytes ++ (bytes ++ (bytes ++ bytes))
