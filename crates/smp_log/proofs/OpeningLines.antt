-- Which lines open a section.
use Rattle.std.proofs.Common.{◌≡◌, ℕ, ◌+◌, ◌^◌, ◌<◌, ◌≤◌, Bool, true, false, List, [], ◌∷◌, ◌++◌, length, Option, Some, None, refl, sym, ap, ◌∙◌, subst, arith, append_assoc, length-append, inl, codes, eqb}
use Rattle.std.specs.{Option.{option_eq}, Fmt.{decimal}}
use Rattle.std.proofs.{lemmas.List.{append_cancel_left, append-nil}, lemmas.Option.{some_pair_parts}}
use Rattle.smp_frac.specs.Cuts.{cut_at}
use Rattle.smp_log.specs.{Lines.{whole_lines, lines_text, AreLines}, Reading.{behind, written}}
use Rattle.smp_log.specs.LoneSections.{opening_words, opens, NoneOpens, IsOpened}
use Rattle.smp_log.proofs.Texts.{cut_behind, cut_parts, behind-append, behind-is, AreLines-append, lines_text-append, whole_lines-text, whole_lines-none}
use Rattle.smp_log.proofs.{Numbers.{decimal_lacks, written-decimal, written-is}, NumberedLines.{same_option}}

abbrev front : List ℕ
front = codes "stratum "

-- there is nothing behind some words where no text is
none_behind : (words line : List ℕ) → ((rest : List ℕ) → line ≡ words ++ rest → ⊥) → None ≡ behind words line
none_behind words line never = by_option (behind words line) (λ rest is. never rest (behind-is words line rest is))
  where
    by_option : (o : Option (List ℕ)) → ((rest : List ℕ) → o ≡ Some rest → ⊥) → None ≡ o
    by_option None h = refl
    by_option (Some rest) h = absurd (h rest refl)

regroup : (number : ℕ) (rest : List ℕ) → opening_words number ++ rest ≡ front ++ (decimal number ++ 32 ∷ rest)
regroup number rest = append_assoc front (decimal number ++ 32 ∷ []) rest ∙ ap (λ t. front ++ t) (append_assoc (decimal number) (32 ∷ []) rest)

module _ (number : ℕ) (line : List ℕ) where
  pub other_word : behind (codes "stratum ") line ≡ None → None ≡ behind (opening_words number) line
  other_word none = none_behind (opening_words number) line (λ rest is.
      (let some : ◌≡◌ {A = Option (List ℕ)} None (Some (decimal number ++ 32 ∷ rest)) = sym none ∙ ap (behind front) (is ∙ regroup number rest) ∙ behind-append front (decimal number ++ 32 ∷ rest) in cc))

  module _ (numbers : List ℕ) (word : behind (codes "stratum ") line ≡ Some numbers) where
    same_numbers : (rest : List ℕ) → line ≡ opening_words number ++ rest → numbers ≡ decimal number ++ 32 ∷ rest
    same_numbers rest is = append_cancel_left front numbers (decimal number ++ 32 ∷ rest) (sym (behind-is front line numbers word) ∙ is ∙ regroup number rest)

    cut_of : (rest : List ℕ) → line ≡ opening_words number ++ rest → cut_at 32 numbers ≡ Some (decimal number, rest)
    cut_of rest is = ap (cut_at 32) (same_numbers rest is) ∙ cut_behind 32 (decimal number) rest (decimal_lacks 32 number (inl (omega arith)))

    pub no_blank : cut_at 32 numbers ≡ None → None ≡ behind (opening_words number) line
    no_blank none = none_behind (opening_words number) line (λ rest is. (let some : ◌≡◌ {A = Option (List ℕ × List ℕ)} None (Some (decimal number, rest)) = sym none ∙ cut_of rest is in cc))

    module _ (first rest : List ℕ) (cut : cut_at 32 numbers ≡ Some (first, rest)) (test : Bool) (test_is : test ≡ option_eq eqb (written first) (Some number)) where
      pub the_number : test ≡ true → Some rest ≡ behind (opening_words number) line
      the_number h =
          let read : written first ≡ Some number = (same_option (written first) number).0 (sym test_is ∙ h) in
          let digits : first ≡ decimal number = (written-is first number read).0 in
          let text : numbers ≡ first ++ 32 ∷ rest = (cut_parts 32 numbers (first, rest) cut).0 in
          let whole : line ≡ opening_words number ++ rest = behind-is front line numbers word ∙ ap (λ t. front ++ t) (text ∙ ap (λ f. f ++ 32 ∷ rest) digits) ∙ sym (regroup number rest) in
          sym (ap (behind (opening_words number)) whole ∙ behind-append (opening_words number) rest)

      pub other_number : number < 2 ^ 128 → test ≡ false → None ≡ behind (opening_words number) line
      other_number small h = none_behind (opening_words number) line (λ behind_it is.
          (let parts = some_pair_parts first (decimal number) rest behind_it (sym cut ∙ cut_of behind_it is) in
          let read : written first ≡ Some number = ap written parts.0 ∙ written-decimal number small in
          let yes_ : test ≡ true = test_is ∙ (same_option (written first) number).1 read in
          let no_ : false ≡ true = sym h ∙ yes_ in
          cc))

-- ---- lines that are skipped

pub NoneOpens-append : (number : ℕ) (ls ms : List (List ℕ)) → NoneOpens number ls → NoneOpens number ms → NoneOpens number (ls ++ ms)
NoneOpens-append number [] ms h k = k
NoneOpens-append number (l ∷ ls) ms h k = (h.0, NoneOpens-append number ls ms h.1 k)

pub lines_long : (ls : List (List ℕ)) → length ls ≤ length (lines_text ls)
lines_long [] = omega arith
lines_long (l ∷ ls) = (let rest : length ls ≤ length (lines_text ls) = lines_long ls in let size = length-append l (10 ∷ lines_text ls) in omega (arith, size))

-- so many lines were skipped
pub record Skipped (number : ℕ) (text rest : List ℕ) (at there : ℕ) : Type 0 where
  pub lines : List (List ℕ)
  pub text_is : text ≡ lines_text lines ++ rest
  pub are : AreLines lines
  pub none : NoneOpens number lines
  pub counted : there ≡ at + length lines
  pub room : length lines + length rest ≤ length text

pub none_skipped : (number : ℕ) (text : List ℕ) (at : ℕ) → Skipped number text text at at
none_skipped number text at = record { lines = []; text_is = refl; are = tt; none = tt; counted = omega arith; room = omega arith }

module _ (number : ℕ) (text rest : List ℕ) (at there : ℕ) (s : Skipped number text rest at there) where
  pub one_more : (line after : List ℕ) → cut_at 10 rest ≡ Some (line, after) → opens number line ≡ false → Skipped number text after at (there + 1)
  one_more line after cut not =
      let parts = cut_parts 10 rest (line, after) cut in
      let count = length-append s.lines (line ∷ []) in
      let size : length rest ≡ length line + (length after + 1) = ap length parts.0 ∙ length-append line (10 ∷ after) ∙ omega arith in
      record {
        lines = s.lines ++ line ∷ [];
        text_is = s.text_is ∙ ap (λ t. lines_text s.lines ++ t) parts.0
            ∙ sym (ap (λ t. t ++ after) (lines_text-append s.lines (line ∷ [])) ∙ append_assoc (lines_text s.lines) (line ++ 10 ∷ []) after ∙ ap (λ t. lines_text s.lines ++ t) (append_assoc line (10 ∷ []) after));
        are = AreLines-append s.lines (line ∷ []) s.are (parts.1, tt);
        none = NoneOpens-append number s.lines (line ∷ []) s.none (not, tt);
        counted = omega (arith, s.counted, count);
        room = omega (arith, s.room, count, size);
      }

  pub skips_to : (line after : List ℕ) → cut_at 10 rest ≡ Some (line, after) → opens number line ≡ true → IsOpened number text at rest there
  skips_to line after cut it =
      let parts = cut_parts 10 rest (line, after) cut in
      record { before = s.lines; log_is = s.text_is; are = s.are; none = s.none; first = line; rest = after; text_is = parts.0; first_lacks = parts.1; opening = it; counted = s.counted }

  pub skips_all : cut_at 10 rest ≡ None → NoneOpens number (whole_lines text) × (there ≡ at + length (whole_lines text))
  skips_all none =
      let lines : whole_lines text ≡ s.lines = ap whole_lines s.text_is ∙ whole_lines-text s.lines rest s.are ∙ ap (λ ls. s.lines ++ ls) (whole_lines-none rest none) ∙ append-nil s.lines in
      (subst (NoneOpens number) (sym lines) s.none, s.counted ∙ ap (λ ls. at + length ls) (sym lines))
