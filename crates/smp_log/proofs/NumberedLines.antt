-- Lines of a word and two numbers.
use Rattle.std.proofs.Common.{◌≡◌, ℕ, ◌^◌, ◌<◌, Bool, true, false, List, ◌∷◌, ◌++◌, Option, Some, None, sym, ap, ◌∙◌, subst, arith, inl, eqb}
use Rattle.std.proofs.{lemmas.Bool.{false_from_ne_true, eqb-true, eq-eqb}, lemmas.Bool.Decides.{same_from_decides}}
use Rattle.std.proofs.{lemmas.List.{append_cancel_left}, lemmas.Option.{some_pair_parts}, lemmas.Slice.Eq.{bytes_eq-Decides}}
use Rattle.std.specs.{Bool.{Decides}, Option.{option_eq}, Str.{bytes_eq}, Fmt.{decimal}}
use Rattle.smp_frac.specs.Cuts.{cut_at}
use Rattle.smp_log.specs.Reading.{behind, written}
use Rattle.smp_log.proofs.{Texts.{cut_behind, cut_parts, behind-append, behind-is}, Numbers.{decimal_lacks, written-decimal, written-is}}

pub same_option : (o : Option ℕ) (n : ℕ) → Decides (option_eq eqb o (Some n)) (o ≡ Some n)
same_option None n = (λ e. absurd (let no : ◌≡◌ {A = Bool} false true = e in cc), λ e. absurd (let no : ◌≡◌ {A = Option ℕ} None (Some n) = e in cc))
same_option (Some m) n = (λ e. ap Some (eqb-true m n e), λ e. (let is : ◌≡◌ {A = Option ℕ} (Some m) (Some n) = e in let same : m ≡ n = cc in eq-eqb m n same))

abbrev numbers : ℕ → ℕ → List ℕ
numbers first second = decimal first ++ 32 ∷ decimal second

pub other_word : (word line rest : List ℕ) → behind word line ≡ None → bytes_eq line (word ++ rest) ≡ false
other_word word line rest none = false_from_ne_true (bytes_eq line (word ++ rest)) (λ e.
    (let is : line ≡ word ++ rest = (bytes_eq-Decides line (word ++ rest)).0 e in
    let some : ◌≡◌ {A = Option (List ℕ)} None (Some rest) = sym none ∙ ap (behind word) is ∙ behind-append word rest in
    cc))

pub no_blank : (word line text : List ℕ) (first second : ℕ) → behind word line ≡ Some text → cut_at 32 text ≡ None → bytes_eq line (word ++ (decimal first ++ 32 ∷ decimal second)) ≡ false
no_blank word line text first second is none = false_from_ne_true _ (λ e.
    (let whole : line ≡ word ++ numbers first second = (bytes_eq-Decides line (word ++ numbers first second)).0 e in
    let same : text ≡ numbers first second = append_cancel_left word text (numbers first second) (sym (behind-is word line text is) ∙ whole) in
    let some : ◌≡◌ {A = Option (List ℕ × List ℕ)} None (Some (decimal first, decimal second)) = sym none ∙ ap (cut_at 32) same ∙ cut_behind 32 (decimal first) (decimal second) (decimal_lacks 32 first (inl (omega arith))) in
    cc))

module _ (word line text a b : List ℕ) (first second : ℕ) (word_is : behind word line ≡ Some text) (cut : cut_at 32 text ≡ Some (a, b)) (small : first < 2 ^ 128) (small' : second < 2 ^ 128) where
  whole : line ≡ word ++ (a ++ 32 ∷ b)
  whole = behind-is word line text word_is ∙ ap (λ t. word ++ t) (cut_parts 32 text (a, b) cut).0

  parts : line ≡ word ++ numbers first second → (a ≡ decimal first) × (b ≡ decimal second)
  parts is =
      let same : a ++ 32 ∷ b ≡ numbers first second = append_cancel_left word (a ++ 32 ∷ b) (numbers first second) (sym whole ∙ is) in
      let one : cut_at 32 (numbers first second) ≡ Some (a, b) = ap (cut_at 32) (sym same) ∙ cut_behind 32 a b (cut_parts 32 text (a, b) cut).1 in
      let two : cut_at 32 (numbers first second) ≡ Some (decimal first, decimal second) = cut_behind 32 (decimal first) (decimal second) (decimal_lacks 32 first (inl (omega arith))) in
      some_pair_parts a (decimal first) b (decimal second) (sym one ∙ two)

  pub other_first : (t : Bool) → t ≡ option_eq eqb (written a) (Some first) → t ≡ false → bytes_eq line (word ++ (decimal first ++ 32 ∷ decimal second)) ≡ false
  other_first t is e = false_from_ne_true _ (λ h.
      (let p = parts ((bytes_eq-Decides line (word ++ numbers first second)).0 h) in
      let read : written a ≡ Some first = ap written p.0 ∙ written-decimal first small in
      let yes_ : t ≡ true = is ∙ (same_option (written a) first).1 read in
      let no_ : false ≡ true = sym e ∙ yes_ in
      cc))

  pub same_first : (t u : Bool) → t ≡ option_eq eqb (written a) (Some first) → t ≡ true → u ≡ option_eq eqb (written b) (Some second) → u ≡ bytes_eq line (word ++ (decimal first ++ 32 ∷ decimal second))
  same_first t u is e is' =
      let read : written a ≡ Some first = (same_option (written a) first).0 (sym is ∙ e) in
      let decides : Decides u (written b ≡ Some second) = subst (λ c. Decides c (written b ≡ Some second)) (sym is') (same_option (written b) second) in
      same_from_decides u (bytes_eq line (word ++ numbers first second)) decides (
        λ h. ap written (parts ((bytes_eq-Decides line (word ++ numbers first second)).0 h)).1 ∙ written-decimal second small',
        λ w. (bytes_eq-Decides line (word ++ numbers first second)).1 (whole ∙ (λ i. word ++ (((written-is a first read).0) i ++ 32 ∷ ((written-is b second w).0) i))),
      )
