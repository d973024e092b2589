-- The limits of numbers and of lists, each with its reason: `most` may be reached, a `limit` may not.
use Rattle.std.specs.Prelude.{ℕ, ◌^◌}

-- the most rows of a frame, and so the most units of a request and the most strata: their sizes add up to less than 2^49
abbrev pub most_rows : ℕ
most_rows = 200000

-- each number of a frame is below this, and each shape of a request: 32 bits hold it with its sign
abbrev pub number_limit : ℕ
number_limit = 2 ^ 31

-- the most of an entry of a reduced row and of a circuit: the sum of two products of such entries is far below 2^126
abbrev pub most_entry : ℕ
most_entry = 2 ^ 44

-- the most of a denominator of a step's values: times an entry of at most 2^44 it is below 2^126 still
abbrev pub most_denominator : ℕ
most_denominator = 2 ^ 80

-- each number that is drawn, compared or written is below this: 128 bits hold the sum of two of them with its sign
abbrev pub wide_limit : ℕ
wide_limit = 2 ^ 126
