-- A text that agrees with a front so far.
use Rattle.std.proofs.Common.{◌≡◌, ℕ, ◌+◌, ◌≤◌, List, [], ◌∷◌, ◌++◌, length, Some, None, sym, ap, ◌∙◌, arith, append_assoc, length-append}
use Rattle.smp_frac.specs.Cuts.{cut_at}
use Rattle.smp_log.specs.{Lines.{whole_lines, lines_text, AreLines}, Fronts.{HasOtherLine, IsCompleteLines, StopsAt}}
use Rattle.smp_log.proofs.Texts.{cut_parts, lines_text-append, AreLines-append, whole_lines-text, whole_lines-cons, whole_lines-none}
use Rattle.std.proofs.lemmas.List.{append-nil}

pub record Agrees (front text wanted rest : List ℕ) (number : ℕ) : Type 0 where
  pub same : List (List ℕ)
  pub front_is : front ≡ lines_text same ++ wanted
  pub text_is : text ≡ lines_text same ++ rest
  pub are : AreLines same
  pub counted : number ≡ length same + 1
  pub room : length same + length wanted ≤ length front

one_more : (lines : List (List ℕ)) (line rest whole : List ℕ) → whole ≡ line ++ 10 ∷ rest → lines_text lines ++ whole ≡ lines_text (lines ++ line ∷ []) ++ rest
one_more lines line rest whole is =
    ap (λ t. lines_text lines ++ t) is
    ∙ sym (ap (λ t. t ++ rest) (lines_text-append lines (line ∷ [])) ∙ append_assoc (lines_text lines) (line ++ 10 ∷ []) rest ∙ ap (λ t. lines_text lines ++ t) (append_assoc line (10 ∷ []) rest))

pub agrees_more : (front text wanted rest line wanted_line after wanted_after : List ℕ) (number : ℕ) → Agrees front text wanted rest number → cut_at 10 wanted ≡ Some (wanted_line, wanted_after) → cut_at 10 rest ≡ Some (line, after) → line ≡ wanted_line → Agrees front text wanted_after after (number + 1)
agrees_more front text wanted rest line wanted_line after wanted_after number a cut_wanted cut_rest is =
    let w = cut_parts 10 wanted (wanted_line, wanted_after) cut_wanted in
    let r = cut_parts 10 rest (line, after) cut_rest in
    let count : length (a.same ++ line ∷ []) ≡ length a.same + 1 = length-append a.same (line ∷ []) in
    let size : length wanted ≡ length wanted_line + (length wanted_after + 1) = ap length w.0 ∙ length-append wanted_line (10 ∷ wanted_after) ∙ omega arith in
    record {
      same = a.same ++ line ∷ [];
      front_is = a.front_is ∙ one_more a.same line wanted_after wanted (w.0 ∙ ap (λ l. l ++ 10 ∷ wanted_after) (sym is));
      text_is = a.text_is ∙ one_more a.same line after rest r.0;
      are = AreLines-append a.same (line ∷ []) a.are (r.1, tt);
      counted = omega (arith, a.counted, count);
      room = omega (arith, a.room, count, size);
    }

pub agrees_all : (front text wanted rest : List ℕ) (number : ℕ) → IsCompleteLines front → Agrees front text wanted rest number → cut_at 10 wanted ≡ None → text ≡ front ++ rest
agrees_all front text wanted rest number whole a none =
    let lines : whole_lines front ≡ a.same = ap whole_lines a.front_is ∙ whole_lines-text a.same wanted a.are ∙ ap (λ ls. a.same ++ ls) (whole_lines-none wanted none) ∙ append-nil a.same in
    let front_text : front ≡ lines_text a.same = whole ∙ ap lines_text lines in
    a.text_is ∙ ap (λ t. t ++ rest) (sym front_text)

pub agrees_none : (front text wanted rest wanted_line wanted_after : List ℕ) (number : ℕ) → Agrees front text wanted rest number → cut_at 10 wanted ≡ Some (wanted_line, wanted_after)
    → HasOtherLine wanted_line rest → StopsAt front text number
agrees_none front text wanted rest wanted_line wanted_after number a cut_wanted other =
    let w = cut_parts 10 wanted (wanted_line, wanted_after) cut_wanted in
    record {
      same = a.same;
      wanted = wanted_line;
      others = whole_lines wanted_after;
      front_is = ap whole_lines a.front_is ∙ whole_lines-text a.same wanted a.are ∙ ap (λ ls. a.same ++ ls) (ap whole_lines w.0 ∙ whole_lines-cons wanted_line wanted_after w.1);
      rest = rest;
      text_is = a.text_is;
      are = a.are;
      other = other;
      counted = a.counted;
    }
