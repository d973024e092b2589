-- The entry of a stratum among quotas in byte order of their names.
use Rattle.std.proofs.Common.{◌≡◌, ℕ, zero, suc, ◌<◌, ◌≤◌, false, List, [], ◌∷◌, length, map, get_or, inl, inr, arith, refl, sym, ap, ◌∙◌}
use Rattle.std.specs.{List.{AllByRecursion}, List.Sorted.{IsStrictlySortedBy, IsNonDecreasingBy}, declared.cmp.Ordering.{Ordering}}
use Rattle.std.specs.{Ordering.{nat_cmp, is_eq, ordering_index, ordering_reverse}, declared.cmp.Ordering.TheVariants.{Less, Equal, Greater}}
use Rattle.std.specs.{Cmp.Lexicographic.{slice_cmp}, Str.{bytes_eq}}
use Rattle.std.proofs.{lemmas.Bool.{cases_lt}, lemmas.Cmp.{nat_list_cmp_total}, lemmas.Map.Text.{is_eq-slice_cmp}}
use Rattle.smp_design.specs.Bounds.{Ascend}
use Rattle.smp_design.specs.declared.design.Quota as quota
use Rattle.smp_strata.specs.Plans.{quota_of}

abbrev text_cmp : List ℕ → List ℕ → Ordering
text_cmp = slice_cmp nat_cmp

abbrev pub order : List ℕ → quota.Quota → Ordering
order name q = text_cmp q.stratum name

tests_as : (a b : List ℕ) (r : Ordering) → text_cmp a b ≡ r → bytes_eq a b ≡ is_eq r
tests_as a b r e = sym (is_eq-slice_cmp a b) ∙ ap is_eq e

-- a name that comes before another one compares at most as that one does
rises_two : (a b name : List ℕ) → text_cmp a b ≡ Less → ordering_index (text_cmp a name) ≤ ordering_index (text_cmp b name)
rises_two a b name less =
    elim (text_cmp b name) as (λ r. text_cmp b name ≡ r → ordering_index (text_cmp a name) ≤ ordering_index r) [
      | Less ↦ (λ e. rw (nat_list_cmp_total.trans a b name less e) (omega arith))
      | Equal ↦ (λ e. rw (nat_list_cmp_total.antisymm a name ∙ ap ordering_reverse (sym (nat_list_cmp_total.congr b name a e)) ∙ sym (nat_list_cmp_total.antisymm a b) ∙ less) (omega arith))
      | Greater ↦ (λ e. at_most (text_cmp a name))
    ] refl
  where
    at_most : (r : Ordering) → ordering_index r ≤ ordering_index Greater
    at_most Less = omega arith
    at_most Equal = omega arith
    at_most Greater = omega arith

at_later : (q : quota.Quota) (qs : List quota.Quota) → AllByRecursion (λ y. text_cmp q.stratum y ≡ Less) (map (λ (x : quota.Quota). x.stratum) qs)
    → (k : ℕ) (d : quota.Quota) → k < length qs → text_cmp q.stratum (get_or qs k d).stratum ≡ Less
at_later q [] all k d l = absurd (omega (arith, l))
at_later q (x ∷ qs) all zero d l = all.0
at_later q (x ∷ qs) all (suc k) d l = at_later q qs all.1 k d (omega (arith, l))

pub rises : (name : List ℕ) (qs : List quota.Quota) → Ascend qs → IsNonDecreasingBy (λ y. ordering_index (order name y)) qs
unfolding IsStrictlySortedBy
rises name [] asc i j d l u = absurd (omega (arith, u))
rises name (q ∷ qs) asc zero zero d l u = omega arith
rises name (q ∷ qs) asc zero (suc j) d l u = rises_two q.stratum (get_or qs j d).stratum name (at_later q qs asc.0 j d (omega (arith, u)))
rises name (q ∷ qs) asc (suc i) zero d l u = absurd (omega (arith, l))
rises name (q ∷ qs) asc (suc i) (suc j) d l u = rises name qs asc.1 i j d (omega (arith, l)) (omega (arith, u))

-- an earlier entry has another name
earlier_differs : (a b name : List ℕ) → text_cmp a b ≡ Less → text_cmp b name ≡ Equal → bytes_eq a name ≡ false
earlier_differs a b name less same =
    tests_as a name Less (nat_list_cmp_total.antisymm a name ∙ ap ordering_reverse (sym (nat_list_cmp_total.congr b name a same)) ∙ sym (nat_list_cmp_total.antisymm a b) ∙ less)

pub found : (name : List ℕ) (qs : List quota.Quota) → Ascend qs → (k : ℕ) (d : quota.Quota) → k < length qs → order name (get_or qs k d) ≡ Equal → (get_or qs k d).n ≡ quota_of qs name
unfolding IsStrictlySortedBy
found name [] asc k d l e = absurd (omega (arith, l))
found name (q ∷ qs) asc zero d l e = rw (tests_as q.stratum name Equal e) refl
found name (q ∷ qs) asc (suc k) d l e =
    rw (earlier_differs q.stratum (get_or qs k d).stratum name (at_later q qs asc.0 k d (omega (arith, l))) e) (found name qs asc.1 k d (omega (arith, l)) e)

pub absent : (name : List ℕ) (qs : List quota.Quota) → ((k : ℕ) (d : quota.Quota) → k < length qs → bytes_eq (get_or qs k d).stratum name ≡ false) → 0 ≡ quota_of qs name
absent name [] h = refl
absent name (q ∷ qs) h = rw (h 0 q (omega arith)) (absent name qs (λ k d l. h (suc k) d (omega (arith, l))))

pub not_at : (name : List ℕ) (qs : List quota.Quota) (i : ℕ) → ((k : ℕ) (d : quota.Quota) → 0 ≤ k → k < i → order name (get_or qs k d) ≡ Less)
    → ((k : ℕ) (d : quota.Quota) → i ≤ k → k < length qs → order name (get_or qs k d) ≡ Greater) → 0 ≡ quota_of qs name
not_at name qs i low high = absent name qs (λ k d l. elim (cases_lt k i) [
  | inl m ↦ tests_as _ name Less (low k d (omega arith) m)
  | inr m ↦ tests_as _ name Greater (high k d m l)
])
