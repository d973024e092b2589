-- A script that can go on from each place that it comes to follows exactly the lines that begin what it accepts.
use Rattle.std.proofs.Common.{◌≡◌, ℕ, zero, suc, ◌≤◌, true, List, [], ◌∷◌, ◌++◌, length, take, Option, Some, None, refl, sym, ap, ◌∙◌, subst, arith, inl, inr, ◌⊎◌}
use Rattle.smp_log.specs.Reading.{Script, follows}

-- the lines lead from a place to one at which they may end
abbrev pub Accepts : {Place : Type 0} → Script Place → Place → List (List ℕ) → Place → Type 0
Accepts script place [] to = (to ≡ place) × (script.over place ≡ true)
Accepts {Place} script place (line ∷ lines) to = (next : Place) × (script.follow place line ≡ Some next) × Accepts script next lines to

-- some lines lead on to an end
pub record Ends {Place : Type 0} (script : Script Place) (place : Place) : Type 0 where
  pub lines : List (List ℕ)
  pub to : Place
  pub accepted : Accepts script place lines to

-- the lines and others behind them lead to an end
pub record Begins {Place : Type 0} (script : Script Place) (place : Place) (front : List (List ℕ)) : Type 0 where
  pub more : List (List ℕ)
  pub to : Place
  pub accepted : Accepts script place (front ++ more) to

module _ {Place : Type 0} (script : Script Place) where
  pub follows-some : (place next : Place) (line : List ℕ) (lines : List (List ℕ)) → script.follow place line ≡ Some next → follows script place (line ∷ lines) ≡ (suc (follows script next lines).0, (follows script next lines).1)
  follows-some place next line lines h = rw (follows, h) refl

  pub follows-none : (place : Place) (line : List ℕ) (lines : List (List ℕ)) → script.follow place line ≡ None → follows script place (line ∷ lines) ≡ (0, place)
  follows-none place line lines h = rw (follows, h) refl

  cases_follow : (o : Option Place) → (o ≡ None) ⊎ ((next : Place) × (o ≡ Some next))
  cases_follow None = inl refl
  cases_follow (Some next) = inr (next, refl)

  pub follows-le : (place : Place) (lines : List (List ℕ)) → (follows script place lines).0 ≤ length lines
  follows-le place [] = omega arith
  follows-le place (line ∷ lines) = elim (cases_follow (script.follow place line)) [
    | inl h ↦ rw (follows-none place line lines h) (omega arith)
    | inr w ↦ rw (follows-some place w.0 line lines w.1) (let le : (follows script w.0 lines).0 ≤ length lines = follows-le w.0 lines in omega arith)
  ]

  -- what is accepted is followed to its end
  pub accepted_follows : (place to : Place) (lines : List (List ℕ)) → Accepts script place lines to → (follows script place lines ≡ (length lines, to)) × (script.over to ≡ true)
  accepted_follows place to [] h = (ap (λ p. (0, p)) (sym h.0), subst (λ p. script.over p ≡ true) (sym h.0) h.1)
  accepted_follows place to (line ∷ lines) h =
      let rest = accepted_follows h.0 to lines h.2 in
      (follows-some place h.0 line lines h.1 ∙ ap (λ r. (suc r.0, r.1)) rest.0, rest.1)

  -- and what is followed to an end is accepted
  pub follows_accepted : (place : Place) (lines : List (List ℕ)) → (follows script place lines).0 ≡ length lines → script.over (follows script place lines).1 ≡ true → Accepts script place lines (follows script place lines).1
  follows_accepted place [] all over = (refl, over)
  follows_accepted place (line ∷ lines) all over = elim (cases_follow (script.follow place line)) [
    | inl h ↦ (let none : 0 ≡ suc (length lines) = rw (follows-none place line lines h) at all in absurd (omega arith))
    | inr w ↦
        (let is = follows-some place w.0 line lines w.1 in
        let all_more : suc (follows script w.0 lines).0 ≡ suc (length lines) = rw is at all in
        let over_more : script.over (follows script w.0 lines).1 ≡ true = rw is at over in
        rw is (w.0, w.1, follows_accepted w.0 lines (omega arith) over_more))
  ]

  -- as many lines as begin something accepted are followed
  pub most : (n : ℕ) (place to : Place) (lines others : List (List ℕ)) → Accepts script place others to → n ≤ length lines → n ≤ length others → take n lines ≡ take n others → n ≤ (follows script place lines).0
  most zero place to lines others h le le' same = omega arith
  most (suc n) place to [] others h le le' same = absurd (omega arith)
  most (suc n) place to (line ∷ lines) [] h le le' same = absurd (omega arith)
  most (suc n) place to (line ∷ lines) (other ∷ others) h le le' same =
      let cells : ◌≡◌ {A = List (List ℕ)} (line ∷ take n lines) (other ∷ take n others) = same in
      let head : line ≡ other = cc in
      let tail : take n lines ≡ take n others = cc in
      let here : script.follow place line ≡ Some h.0 = ap (script.follow place) head ∙ h.1 in
      let rest : n ≤ (follows script h.0 lines).0 = most n h.0 to lines others h.2 (omega arith) (omega arith) tail in
      rw (follows-some place h.0 line lines here) (omega arith)

  module _ (Good : Place → Type 0) (keeps : (place next : Place) (line : List ℕ) → Good place → script.follow place line ≡ Some next → Good next) (ends : (place : Place) → Good place → Ends script place) where
    -- the lines that are followed begin something accepted
    pub begins : (place : Place) (lines : List (List ℕ)) → Good place → Begins script place (take (follows script place lines).0 lines)
    begins place [] good = let end = ends place good in record { more = end.lines; to = end.to; accepted = end.accepted }
    begins place (line ∷ lines) good = elim (cases_follow (script.follow place line)) [
      | inl h ↦ rw (follows-none place line lines h) (let end = ends place good in record { more = end.lines; to = end.to; accepted = end.accepted })
      | inr w ↦
          (let rest = begins w.0 lines (keeps place w.0 line good w.1) in
          rw (follows-some place w.0 line lines w.1) (record { more = rest.more; to = rest.to; accepted = (w.0, w.1, rest.accepted) }))
    ]
