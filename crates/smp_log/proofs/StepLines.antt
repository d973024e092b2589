-- Which lines are read as a step, and with which value.
use Rattle.std.proofs.Common.{◌≡◌, ℕ, ◌^◌, ◌<◌, ◌==◌, Bool, true, cond, nat_lt, List, [], ◌∷◌, ◌++◌, Option, Some, None, refl, sym, ap, ◌∙◌, arith, inl, codes}
use Rattle.std.specs.{Prelude.{option_and_then}, Bool.{Decides}, Str.{bytes_eq}, Fmt.{decimal}}
use Rattle.std.proofs.{lemmas.Bool.{eqb-true, eq-eqb, ltb-true, lt-ltb}, lemmas.Bool.Decides.{same_from_decides}}
use Rattle.std.proofs.{lemmas.Slice.Eq.{bytes_eq-Decides}, lemmas.List.{append_cancel_left}}
use Rattle.smp_frac.specs.Cuts.{cut_at}
use Rattle.smp_split.specs.{declared.kind.Kind.{Kind}, declared.kind.Kind.TheVariants.{Order}, Kinds.{kind_word}, Paths.{Entry}}
use Rattle.smp_log.specs.{Reading.{step_line, end_line, behind, written, below, value_of, numbers_of, step_value}, Lines.{Lacks}}
use Rattle.smp_log.proofs.{Options.{cond_some, goes_on}, Texts.{cons-Lacks, Lacks-append, cut_behind, cut_parts, behind-append, behind-is}}
use Rattle.smp_log.proofs.Numbers.{decimal_lacks, written-decimal, written-is}

-- ---- a line that is read is the line of the step

-- a text that is read as a number is that number in decimal
decimal_of : (text : List ℕ) (read wanted : ℕ) → written text ≡ Some read → read ≡ wanted → text ≡ decimal wanted
decimal_of text read wanted is same = (written-is text read is).0 ∙ ap decimal same

-- a word, a blank, a text, a blank and another text
joined : (word rest numbers left right first second line : List ℕ) → line ≡ word ++ rest → rest ≡ 32 ∷ numbers → numbers ≡ left ++ 32 ∷ right → left ≡ first → right ≡ second → line ≡ word ++ 32 ∷ (first ++ 32 ∷ second)
joined word rest numbers left right first second line text blank cut one two =
    text ∙ ap (λ t. word ++ t) (blank ∙ ap (λ t. 32 ∷ t) (cut ∙ ap (λ t. t ++ 32 ∷ right) one ∙ ap (λ t. first ++ 32 ∷ t) two))

pub step_value-is : (kind : Kind) (bound value : ℕ) (line : List ℕ) → step_value kind bound line ≡ Some value → (line ≡ step_line (kind, bound, value)) × (value < bound)
unfolding step_value
step_value-is kind bound value line h =
    let word = goes_on (λ rest. option_and_then (value_of bound) (numbers_of rest)) (behind (kind_word kind) line) value h in
    let both = goes_on (value_of bound) (numbers_of word.value) value word.gives in
    let blank = goes_on (cut_at 32) (behind (32 ∷ []) word.value) both.value both.is in
    let numbers = both in
    let first = goes_on (λ b. cond (b == bound) (option_and_then (below bound) (written numbers.value.1)) None) (written numbers.value.0) value numbers.gives in
    let same = cond_some (first.value == bound) (option_and_then (below bound) (written numbers.value.1)) value first.gives in
    let second = goes_on (below bound) (written numbers.value.1) value same.1 in
    let small = cond_some (nat_lt second.value bound) (Some second.value) value second.gives in
    let is_value : second.value ≡ value = (let e : ◌≡◌ {A = Option ℕ} (Some second.value) (Some value) = small.1 in cc) in
    let is_bound : first.value ≡ bound = eqb-true first.value bound same.0 in
    let parts = cut_parts 32 blank.value both.value blank.gives in
    let text : line ≡ kind_word kind ++ word.value = behind-is (kind_word kind) line word.value word.is in
    let blank_text : word.value ≡ 32 ∷ blank.value = behind-is (32 ∷ []) word.value blank.value blank.is in
    let bound_text : numbers.value.0 ≡ decimal bound = decimal_of numbers.value.0 first.value bound first.is is_bound in
    let value_text : numbers.value.1 ≡ decimal value = decimal_of numbers.value.1 second.value value second.is is_value in
    let less : second.value < bound = ltb-true second.value bound small.0 in
    (joined (kind_word kind) word.value blank.value both.value.0 both.value.1 (decimal bound) (decimal value) line text blank_text parts.0 bound_text value_text, omega (arith, less, is_value))

-- ---- the line of a step is read with its value

pub step_value-line : (kind : Kind) (bound value : ℕ) → value < bound → bound < 2 ^ 126 → step_value kind bound (step_line (kind, bound, value)) ≡ Some value
unfolding step_value
step_value-line kind bound value small narrow =
    let rest : List ℕ = decimal bound ++ 32 ∷ decimal value in
    let front : behind (kind_word kind) (step_line (kind, bound, value)) ≡ Some (32 ∷ rest) = behind-append (kind_word kind) (32 ∷ rest) in
    let blank : behind (32 ∷ []) (32 ∷ rest) ≡ Some rest = behind-append (32 ∷ []) rest in
    let cut : cut_at 32 rest ≡ Some (decimal bound, decimal value) = cut_behind 32 (decimal bound) (decimal value) (decimal_lacks 32 bound (inl (omega arith))) in
    let first : written (decimal bound) ≡ Some bound = written-decimal bound (omega arith) in
    let second : written (decimal value) ≡ Some value = written-decimal value (omega arith) in
    let same : (bound == bound) ≡ true = eq-eqb bound bound refl in
    let less : nat_lt value bound ≡ true = lt-ltb value bound small in
    ap (option_and_then (λ r. option_and_then (value_of bound) (numbers_of r))) front
    ∙ ap (λ r. option_and_then (value_of bound) (option_and_then (cut_at 32) r)) blank
    ∙ ap (option_and_then (value_of bound)) cut
    ∙ ap (option_and_then (λ b. cond (b == bound) (option_and_then (below bound) (written (decimal value))) None)) first
    ∙ ap (λ (b : Bool). cond b (option_and_then (below bound) (written (decimal value))) None) same
    ∙ ap (option_and_then (below bound)) second
    ∙ ap (λ (b : Bool). cond b (Some value) None) less

-- ---- such lines have no line feed inside

word_lacks : (kind : Kind) → Lacks 10 (kind_word kind)
word_lacks Order = refl
word_lacks _ = refl

pub step_line_lacks : (line : Entry) → Lacks 10 (step_line line)
step_line_lacks line =
    let second : Lacks 10 (32 ∷ decimal line.2) = cons-Lacks 10 32 (decimal line.2) refl (decimal_lacks 10 line.2 (inl (omega arith))) in
    let first : Lacks 10 (decimal line.1 ++ 32 ∷ decimal line.2) = Lacks-append 10 (decimal line.1) (32 ∷ decimal line.2) (decimal_lacks 10 line.1 (inl (omega arith))) second in
    Lacks-append 10 (kind_word line.0) (32 ∷ (decimal line.1 ++ 32 ∷ decimal line.2)) (word_lacks line.0) (cons-Lacks 10 32 (decimal line.1 ++ 32 ∷ decimal line.2) refl first)

pub end_line_lacks : (steps : ℕ) → Lacks 10 (end_line steps)
end_line_lacks steps = Lacks-append 10 (codes "end ") (decimal steps) refl (decimal_lacks 10 steps (inl (omega arith)))

-- ---- the last line

pub end_line-count : (steps : ℕ) (line count : List ℕ) (test : Bool) → steps < 2 ^ 128 → line ≡ codes "end " ++ count → Decides test (written count ≡ Some steps) → test ≡ bytes_eq line (end_line steps)
end_line-count steps line count test small is decides =
    same_from_decides test (bytes_eq line (end_line steps)) decides (
      λ e. (let same : codes "end " ++ count ≡ codes "end " ++ decimal steps = sym is ∙ (bytes_eq-Decides line (end_line steps)).0 e in
          ap written (append_cancel_left (codes "end ") count (decimal steps) same) ∙ written-decimal steps small),
      λ w. (bytes_eq-Decides line (end_line steps)).1 (is ∙ ap (λ t. codes "end " ++ t) (written-is count steps w).0),
    )
