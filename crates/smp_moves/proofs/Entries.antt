-- Lines over fractional units, and the entries on them.
use Rattle.std.proofs.Common.{◌≡◌, ◌≢◌, ℕ, zero, suc, ◌+◌, ◌<◌, ◌≤◌, true, List, [], ◌∷◌, ℤ, pos, negsuc, neg_ℤ, map, take, length, get_or, arith, refl, sym, ◌∙◌, inl, inr, ◌⊎◌, le_of_suc-le-suc, suc-le-suc, length-take, get_or-take}
use Rattle.std.proofs.{lemmas.Bool.{cases_eq, eq-eqb, ne_eqb}, lemmas.Int.{ints}, lemmas.List.{length-map}}
use Rattle.std.proofs.{lemmas.List.Elements.{All-get_or, All-take, filter_passes}, lemmas.List.Kept.{AllPairs-filter}}
use Rattle.std.proofs.lemmas.List.FromFn.{length-range_with_len, get_or-range_with_len}
use Rattle.std.specs.List.{AllPairs, Contains, range_with_len}
use Rattle.smp_kernel.specs.Vectors.{entry, IsZero}
use Rattle.smp_kernel.proofs.{Ring.{zero_or}, Lists.{entry-map, contains_at}}
use Rattle.smp_values.specs.Values.{is_fractional, fractional_units}
use Rattle.smp_values.proofs.{Fractional.{fractional_is}, Units.{fractional_within}}
use Rattle.smp_prob.specs.Shares.{Shares}
use Rattle.smp_moves.specs.{Moves.{Line, IsOrder, IsLine, entry_at, entry_of, turned}, Ends.{room}}

-- ---- fractional units, each of them once

-- the first of some units
pub front_apart : (n : ℕ) (us : List ℕ) → AllPairs (λ k l. k ≢ l) us → AllPairs (λ k l. k ≢ l) (take n us)
front_apart n us apart i j d l m =
    let b : (j < n) × (j < length us) = (omega (arith, m, length-take n us), omega (arith, m, length-take n us)) in
    rw (get_or-take n us i d (omega (arith, l, b.0)), get_or-take n us j d b.0) (apart i j d l b.1)

module _ (s : Shares) (order : List ℕ) (ok : IsOrder s order) where
  pub order_going : (j : ℕ) → j < length order → is_fractional s (get_or order j 0) ≡ true
  order_going j l = All-get_or (λ k. is_fractional s k ≡ true) order j 0 l ok.going

  pub order_within : (j : ℕ) → j < length order → get_or order j 0 < length s.numer
  order_within j l = fractional_within s (get_or order j 0) (order_going j l)

  -- the first of them
  pub order_front : (n : ℕ) → IsOrder s (take n order)
  order_front n = record {
    going = All-take (λ k. is_fractional s k ≡ true) n order ok.going;
    distinct = front_apart n order ok.distinct;
  }

pub numbers_apart : (n : ℕ) → AllPairs (λ k l. k ≢ l) (range_with_len 0 n)
numbers_apart n i j d l m =
    let b : j < n = omega (arith, m, length-range_with_len 0 n) in
    rw (get_or-range_with_len 0 n i d (omega (arith, l, b)), get_or-range_with_len 0 n j d b) (λ e. (let same : 0 + i ≡ 0 + j = e in omega (arith, l, same)))

-- all fractional units in the order of the frame
pub frame_order : (s : Shares) → IsOrder s (fractional_units s)
frame_order s = record {
  going = filter_passes (is_fractional s) (range_with_len 0 (length s.numer));
  distinct = AllPairs-filter (λ k l. k ≢ l) (is_fractional s) (range_with_len 0 (length s.numer)) (numbers_apart (length s.numer));
}

-- ---- the entry of a unit

pub entry_at_place : (us : List ℕ) (es : List ℤ) (j : ℕ) → j < length us → length es ≡ length us → AllPairs (λ k l. k ≢ l) us → entry_at us es (get_or us j 0) ≡ entry es j
entry_at_place [] es j l e d = absurd (omega arith)
entry_at_place (u ∷ us) [] j l e d = absurd (omega arith)
entry_at_place (u ∷ us) (x ∷ es) zero l e d = rw (eq-eqb u u refl) refl
entry_at_place (u ∷ us) (x ∷ es) (suc j) l e d =
    let ne : u ≢ get_or us j 0 = d zero (suc j) 0 (omega arith) l in
    rw (ne_eqb u (get_or us j 0) ne) (entry_at_place us es j (le_of_suc-le-suc l) (omega arith) (λ a b c p q. d (suc a) (suc b) c (suc-le-suc p) (suc-le-suc q)))

pub entry_at_none : (us : List ℕ) (es : List ℤ) (k : ℕ) → (Contains us k → ⊥) → entry_at us es k ≡ pos 0
entry_at_none [] es k out = refl
entry_at_none (u ∷ us) [] k out = refl
entry_at_none (u ∷ us) (x ∷ es) k out =
    elim (cases_eq u k) [
      | inl e ↦ absurd (out (contains_at (u ∷ us) 0 k (omega arith) e))
      | inr ne ↦ rw (ne_eqb u k ne) (entry_at_none us es k (λ c. out (suc c.0, suc-le-suc c.1, c.2)))
    ]

-- a number is in a list at some place, or not at all
pub place_or : (xs : List ℕ) (k : ℕ) → ((j : ℕ) × (j < length xs) × (get_or xs j 0 ≡ k)) ⊎ (Contains xs k → ⊥)
place_or [] k = inr (λ h. absurd (let b : h.0 < 0 = h.1 in omega arith))
place_or (x ∷ xs) k =
    elim (cases_eq x k) [
      | inl e ↦ inl (0, omega arith, e)
      | inr ne ↦ elim (place_or xs k) [
        | inl h ↦ inl (suc h.0, suc-le-suc h.1, h.2)
        | inr out ↦ inr (λ h. not_first x xs k ne out h.0 h.1 h.2)
      ]
    ]
  where
    not_first : (x : ℕ) (xs : List ℕ) (k : ℕ) → x ≢ k → (Contains xs k → ⊥) → (i : ℕ) → i < suc (length xs) → get_or (x ∷ xs) i k ≡ k → ⊥
    not_first x xs k ne out zero l e = ne e
    not_first x xs k ne out (suc i) l e = out (i, le_of_suc-le-suc l, e)

-- ---- entries that aren't all 0

pub some_entry : (es : List ℤ) → (IsZero es → ⊥) → (j : ℕ) × (j < length es) × (entry es j ≢ pos 0)
some_entry [] out = absurd (out (λ i. refl))
some_entry (x ∷ es) out =
    elim (zero_or x) [
      | inr ne ↦ (0, omega arith, ne)
      | inl z ↦ (let r = some_entry es (λ h. out (λ i. first_zero x es z h i)) in (suc r.0, suc-le-suc r.1, r.2))
    ]
  where
    first_zero : (x : ℤ) (es : List ℤ) → x ≡ pos 0 → IsZero es → (i : ℕ) → entry (x ∷ es) i ≡ pos 0
    first_zero x es z h zero = z
    first_zero x es z h (suc i) = h i

pub entry_turned : (es : List ℤ) (j : ℕ) → entry (map neg_ℤ es) j ≡ neg_ℤ (entry es j)
entry_turned es j = entry-map neg_ℤ (pos 0) refl es j

module _ (s : Shares) (line : Line) (ok : IsLine s line) where
  pub turned_line : IsLine s (turned line)
  turned_line = record {
    lengths = length-map line.entries neg_ℤ ∙ ok.lengths;
    order = ok.order;
    some = λ z. ok.some (λ i. (let e : neg_ℤ (entry line.entries i) ≡ pos 0 = sym (entry_turned line.entries i) ∙ z i in omega (arith, ints)));
  }

  -- the entry of the unit at a place, and of a unit that isn't there
  pub on_line : (j : ℕ) → j < length line.units → entry_of line (get_or line.units j 0) ≡ entry line.entries j
  on_line j l = entry_at_place line.units line.entries j l ok.lengths ok.order.distinct

  pub off_line : (k : ℕ) → (Contains line.units k → ⊥) → entry_of line k ≡ pos 0
  off_line k out = entry_at_none line.units line.entries k out

  pub room_some : (j : ℕ) → j < length line.units → 1 ≤ room s.den (get_or s.numer (get_or line.units j 0) 0) (entry line.entries j)
  room_some j l = at (entry line.entries j) (fractional_is s.den (get_or s.numer (get_or line.units j 0) 0) (order_going s line.units ok.order j l))
    where
      at : (e : ℤ) → (0 < get_or s.numer (get_or line.units j 0) 0) × (get_or s.numer (get_or line.units j 0) 0 < s.den) → 1 ≤ room s.den (get_or s.numer (get_or line.units j 0) 0) e
      at (pos n) h = omega (arith, h.0, h.1)
      at (negsuc n) h = h.0
