-- Answers that say nothing where memory ran out.
use Rattle.std.specs.Prelude.{◌≡◌, Bool, true, Result, Ok, Err, ⊤}

-- what is said, unless memory ran out
abbrev pub UnlessMemory : Bool → Type 0 → Type 0
UnlessMemory true said = ⊤
UnlessMemory _ said = said

-- The answer, in this view, is what is owed, or its fault, unless memory ran out. The test tells which fault that is.
abbrev pub Gives : {A B E : Type 0} → (E → Bool) → (A → B) → Result A E → Result B E → Type 0
Gives is_memory view (Ok read) owed = owed ≡ Ok (view read)
Gives is_memory view (Err fault) owed = UnlessMemory (is_memory fault) (owed ≡ Err fault)

-- the same of an answer that is seen as it is
abbrev pub Reads : {A E : Type 0} → (E → Bool) → Result A E → Result A E → Type 0
Reads is_memory answer owed = Gives is_memory (λ read. read) answer owed
