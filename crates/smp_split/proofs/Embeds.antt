-- A variant of an enum of designs is a lens that closes.
use Rattle.std.proofs.Common.{◌≡◌, ℕ, true, false, List, Option, Some, None, refl, sym, subst}
use Rattle.smp_frac.specs.{Bounds.{IsAround}, Fractions.{Same, whole}}
use Rattle.smp_split.specs.{Counts.{AddsUp, LeavesSelect, LeavesSelectAround, selected_count}, Embeds.{embedded, BelongsInside}}
use Rattle.smp_split.specs.{Lenses.{as_unit, Lens, Closes}, Means.{value_sum}, Parts.{moved}, Laws.Lenses.{leaves_through, parts_through}}
use Rattle.smp_split.specs.Trees.{Part, Tree, Lawful, LawfulParts, LawfulSplit, LawfulEnd}
use Rattle.smp_frac.proofs.{Around.{around_same}, Arithmetic.{same_refl}}

module _ {Inner Outer : Type 0} (into : Inner → Outer) (out : Outer → Option Inner) (inner : Tree Inner) (back : (i : Inner) → out (into i) ≡ Some i) (belongs : Inner → Type 0) where
  pub embedded_lens : Lens inner belongs (embedded into out inner) into as_unit
  embedded_lens = record {
    within = λ k h. h;
    going = λ i e. rw (back i) e;
    kind = λ i e. rw (back i) refl;
    parts = λ i e. rw (back i) refl;
    falls = λ i j less. rw (back i, back j) less;
    value = λ i here k h. rw (back i) (same_refl (inner.value i k));
  }

  pub embedded_closes : Closes inner (embedded into out inner) into as_unit
  embedded_closes = record { done = λ i e. rw (back i) e; selected = λ i e k h. rw (back i) refl }

  -- the states that are such are a lawful design's
  module _ (lawful : Lawful inner belongs) where
    split_at : (s : Outer) (o : Option Inner) → out s ≡ o → BelongsInside into out inner belongs s → (embedded into out inner).done s ≡ false → LawfulSplit (embedded into out inner) (BelongsInside into out inner belongs) s
    split_at s None e here going = absurd (rw e at here)
    split_at s (Some i) e here going =
        let member : belongs i = rw e at here in
        let split = lawful.split i member (rw e at going) in
        let Q : List (Part Outer) → Type 0 = λ ps. LawfulParts (embedded into out inner) (BelongsInside into out inner belongs) s ps in
        let parts : (embedded into out inner).parts s ≡ moved into (inner.parts i) = rw e refl in
        subst Q (sym parts)
        (parts_through inner belongs (embedded into out inner) (BelongsInside into out inner belongs) into as_unit i s
        (record {
          within = λ k h. h;
          part = λ p is. record { heavy = is.heavy; falls = rw (back p.state, e) is.falls; member = rw (back p.state) is.member };
          value = λ k h. rw e (same_refl (inner.value i k));
          values = λ j here k h. rw (back j) (same_refl (inner.value j k));
        })
        (inner.parts i) split)

    end_at : (s : Outer) (o : Option Inner) → out s ≡ o → BelongsInside into out inner belongs s → (embedded into out inner).done s ≡ true → LawfulEnd (embedded into out inner) s
    end_at s None e here done = absurd (rw e at here)
    end_at s (Some i) e here done = λ k h. rw e (lawful.end i (rw e at here) (rw e at done) k h)

    pub embedded_lawful : Lawful (embedded into out inner) (BelongsInside into out inner belongs)
    embedded_lawful = record { split = λ s here going. split_at s (out s) refl here going; end = λ s here done. end_at s (out s) refl here done }

  pub embedded_count : (n : ℕ) (i : Inner) → LeavesSelect inner n i → LeavesSelect (embedded into out inner) n (into i)
  embedded_count n i count =
      leaves_through inner belongs (embedded into out inner) into as_unit embedded_lens embedded_closes (λ leaf. selected_count inner leaf ≡ n) (λ leaf. selected_count (embedded into out inner) leaf ≡ n)
      (λ leaf e is. rw (back leaf) is) i count

  same_total : (i : Inner) → Same (value_sum (embedded into out inner) (λ _. whole 1) (into i)) (value_sum inner (λ _. whole 1) i)
  same_total i = rw (back i) (same_refl (value_sum inner (λ _. whole 1) i))

  pub embedded_around : (i : Inner) → LeavesSelectAround inner i → LeavesSelectAround (embedded into out inner) (into i)
  embedded_around i around =
      leaves_through inner belongs (embedded into out inner) into as_unit embedded_lens embedded_closes (λ leaf. IsAround (selected_count inner leaf) (value_sum inner (λ _. whole 1) i))
      (λ leaf. IsAround (selected_count (embedded into out inner) leaf) (value_sum (embedded into out inner) (λ _. whole 1) (into i)))
      (λ leaf e is. around_same (selected_count (embedded into out inner) (into leaf)) (same_total i) (rw (back leaf) is)) i around

  pub embedded_adds_up : (n : ℕ) (i : Inner) → AddsUp inner n i → AddsUp (embedded into out inner) n (into i)
  embedded_adds_up n i adds = rw (back i) adds

  pub adds_up_inside : (n : ℕ) (i : Inner) → AddsUp (embedded into out inner) n (into i) → AddsUp inner n i
  adds_up_inside n i adds = rw (back i) at adds
