-- Where the units of all strata stand: a unit stands as in the request of its own stratum, and its free units behind those of the strata
-- before it.
use Rattle.std.proofs.Common.{◌≡◌, ℕ, zero, suc, ◌+◌, ◌-◌, ◌<◌, ◌≤◌, Bool, false, List, [], ◌∷◌, ◌++◌, length, map, Option, Some, None, All, drop, get_or, arith, refl, sym, ap, ap₂, subst, true≢false, ◌∙◌, inl, inr, length-append}
use Rattle.std.specs.{Prelude.{if◌then◌else◌, cond, is_some, nat_eq, nat_lt, option_map, position}, List.{position_or_len, slice_get}}
use Rattle.std.proofs.{lemmas.Bool.{cases_Bool, cases_lt, eq-eqb, eqb-true, le-ltb, lt-ltb}, lemmas.Option.{same_Some}}
use Rattle.std.proofs.lemmas.List.{get_or-append_right, get_or-map, get_or_append_left, length-map}
use Rattle.std.proofs.lemmas.List.Elements.{All-append, All-get_or, All-head, All-map, All-nil, All-tail, All-weaker}
use Rattle.smp_prob.specs.{declared.inclusions.Inclusion.{Inclusion}, declared.inclusions.Inclusion.TheVariants.{Certain, Free, Never}}
use Rattle.smp_prob.specs.{Inclusions.{IsRising, Rises, free_or_never, inclusion}, declared.requests.Request.{Request}}
use Rattle.smp_strata.specs.{Bounds.{IsOver}, declared.strata.Stratum.{Stratum}}
use Rattle.smp_twostage.specs.Selections.{numbers_from, request_over, units_before}

-- ---- places in a list

-- a search goes on behind an element that fails
pos_cons : (p : ℕ → Bool) (x : ℕ) (xs : List ℕ) → position p (x ∷ xs) ≡ cond (p x) (Some 0) (option_map suc (position p xs))
pos_cons p x xs =
    elim (cases_Bool (p x)) [
      | inl holds ↦ rw (holds, lt-ltb 0 (suc (length xs)) (omega arith)) refl
      | inr fails ↦ rw fails (behind (1 + position_or_len p xs) (position_or_len p xs) (length xs) (omega arith))
    ]
  where
    behind : (a k n : ℕ) → a ≡ suc k → cond (nat_lt a (suc n)) (Some a) None ≡ option_map suc (cond (nat_lt k n) (Some k) None)
    behind a k n e =
        ap (λ m. cond (nat_lt m (suc n)) (Some m) None) e
        ∙ elim (cases_lt k n) [
          | inl l ↦ rw (lt-ltb k n l, lt-ltb (suc k) (suc n) (omega (arith, l))) refl
          | inr le ↦ rw (le-ltb k n le, le-ltb (suc k) (suc n) (omega (arith, le))) refl
        ]

-- no number of these is n
abbrev Misses : ℕ → List ℕ → Type 0
Misses n xs = All (λ x. nat_eq n x ≡ false) xs

apart : (n x : ℕ) → n < x → nat_eq n x ≡ false
apart n x l =
    elim (cases_Bool (nat_eq n x)) [
      | inl same ↦ absurd (omega (arith, l, eqb-true n x same))
      | inr other ↦ other
    ]

missed : (n : ℕ) (xs : List ℕ) → Misses n xs → position (nat_eq n) xs ≡ None
missed n [] none = refl
missed n (x ∷ xs) none =
    let here : nat_eq n x ≡ false = none 0 x (omega arith) in
    pos_cons (nat_eq n) x xs ∙ rw (here, missed n xs (λ i d l. none (suc i) d (omega (arith, l)))) refl

moved_same : (b k x : ℕ) → nat_eq (b + k) (b + x) ≡ nat_eq k x
moved_same b k x =
    elim (cases_Bool (nat_eq k x)) [
      | inl same ↦ (let is : k ≡ x = eqb-true k x same in eq-eqb (b + k) (b + x) (ap (λ n. b + n) is) ∙ sym same)
      | inr other ↦
          elim (cases_Bool (nat_eq (b + k) (b + x))) [
            | inl same ↦
                (let is : b + k ≡ b + x = eqb-true (b + k) (b + x) same in
                absurd (true≢false (sym (eq-eqb k x (omega (arith, is))) ∙ other)))
            | inr differ ↦ differ ∙ sym other
          ]
    ]

-- the numbers of the first list decide where none of the second is it
pos_left : (b k : ℕ) (xs ys : List ℕ) → Misses (b + k) ys → position (nat_eq (b + k)) (map (λ u. b + u) xs ++ ys) ≡ position (nat_eq k) xs
pos_left b k [] ys none = missed (b + k) ys none
pos_left b k (x ∷ xs) ys none =
    pos_cons (nat_eq (b + k)) (b + x) (map (λ u. b + u) xs ++ ys)
    ∙ ap₂ (λ (t : Bool) (o : Option ℕ). cond t (Some 0) (option_map suc o)) (moved_same b k x) (pos_left b k xs ys none)
    ∙ sym (pos_cons (nat_eq k) x xs)

-- or are passed over where none of them is it
passes_none : (o : Option ℕ) → o ≡ option_map (λ j. 0 + j) o
passes_none None = refl
passes_none (Some j) = ap Some (omega arith)

passes_more : (n : ℕ) (o : Option ℕ) → option_map suc (option_map (λ j. n + j) o) ≡ option_map (λ j. suc n + j) o
passes_more n None = refl
passes_more n (Some j) = ap Some (omega arith)

pos_right : (m : ℕ) (xs ys : List ℕ) → Misses m xs → position (nat_eq m) (xs ++ ys) ≡ option_map (λ j. length xs + j) (position (nat_eq m) ys)
pos_right m [] ys none = passes_none (position (nat_eq m) ys)
pos_right m (x ∷ xs) ys none =
    let here : nat_eq m x ≡ false = All-head (λ y. nat_eq m y ≡ false) x xs none in
    pos_cons (nat_eq m) x (xs ++ ys)
    ∙ ap₂ (λ (t : Bool) (o : Option ℕ). cond t (Some 0) (option_map suc o)) here
    (pos_right m xs ys (All-tail (λ y. nat_eq m y ≡ false) x xs none))
    ∙ passes_more (length xs) (position (nat_eq m) ys)

-- ---- the units of strata

-- where a unit stands among all, by where it stands in its stratum
abbrev pub stands_behind : ℕ → Inclusion → Inclusion
stands_behind before Certain = Certain
stands_behind before (Free unit) = Free (before + unit)
stands_behind before Never = Never

-- how many free units the first h strata have
abbrev pub free_before : List Stratum → ℕ → ℕ
free_before [] h = 0
free_before (s ∷ strata) zero = 0
free_before (s ∷ strata) (suc h) = length s.request.free + free_before strata h

abbrev AreOver : List Stratum → Type 0
AreOver strata = All (λ (s : Stratum). IsOver (length s.units) s.request) strata

-- the numbers from one on are later than those before
misses_moved : (m b : ℕ) (xs : List ℕ) → m < b → Misses m (map (λ u. b + u) xs)
misses_moved m b xs l = All-map (λ y. nat_eq m y ≡ false) (λ u. b + u) xs (λ i d k. apart m (b + get_or xs i d) (omega (arith, l)))

misses_from : (counted : Request → List ℕ) (m b : ℕ) (strata : List Stratum) → m < b → Misses m (numbers_from counted b strata)
misses_from counted m b [] l = All-nil (λ y. nat_eq m y ≡ false)
misses_from counted m b (s ∷ strata) l =
    All-append (λ y. nat_eq m y ≡ false) (map (λ u. b + u) (counted s.request)) (numbers_from counted (b + length s.units) strata) (misses_moved m b (counted s.request) l)
    (misses_from counted m (b + length s.units) strata (omega (arith, l)))

-- and those of a stratum earlier than the numbers past it
misses_own : (m b n : ℕ) (xs : List ℕ) → b + n ≤ m → All (λ u. u < n) xs → Misses m (map (λ u. b + u) xs)
misses_own m b n xs l within =
    All-map (λ y. nat_eq m y ≡ false) (λ u. b + u) xs
    (λ i d k. later m (b + get_or xs i d) (let below = within i d k in omega (arith, l, below)))
  where
    later : (m x : ℕ) → x < m → nat_eq m x ≡ false
    later m x l = elim (cases_Bool (nat_eq m x)) [
      | inl same ↦ absurd (omega (arith, l, eqb-true m x same))
      | inr other ↦ other
    ]

-- what two searches say of a unit
abbrev stands : Option ℕ → Option ℕ → Inclusion
stands certain free = if is_some certain then Certain else free_or_never free

stands_moved : (before : ℕ) (certain free : Option ℕ) (n : ℕ) → stands (option_map (λ j. n + j) certain) (option_map (λ j. before + j) free) ≡ stands_behind before (stands certain free)
stands_moved before (Some c) free n = refl
stands_moved before None (Some j) n = refl
stands_moved before None None n = refl

stands_own : (i : Inclusion) → i ≡ stands_behind 0 i
stands_own Certain = refl
stands_own (Free unit) = ap Free (omega arith)
stands_own Never = refl

stands_more : (a b : ℕ) (i : Inclusion) → stands_behind a (stands_behind b i) ≡ stands_behind (a + b) i
stands_more a b Certain = refl
stands_more a b (Free unit) = ap Free (omega arith)
stands_more a b Never = refl

stands_from : (b : ℕ) (strata : List Stratum) → AreOver strata → (h k : ℕ) (s : Stratum) → slice_get strata h ≡ Some s → k < length s.units
    → stands (position (nat_eq (b + (units_before strata h + k))) (numbers_from (λ (r : Request). r.certain) b strata)) (position (nat_eq (b + (units_before strata h + k))) (numbers_from (λ (r : Request). r.free) b strata))
    ≡ stands_behind (free_before strata h) (inclusion s.request k)
stands_from b [] over h k s is l = absurd (cc)
stands_from b (t ∷ strata) over zero k s is l =
    let same : t ≡ s = same_Some t s is in
    let m : b + (0 + k) ≡ b + k = omega arith in
    let here : k < length t.units = subst (λ (u : Stratum). k < length u.units) (sym same) l in
    let past : b + k < b + length t.units = omega (arith, here) in
    ap (λ n. stands (position (nat_eq n) (numbers_from (λ (r : Request). r.certain) b (t ∷ strata))) (position (nat_eq n) (numbers_from (λ (r : Request). r.free) b (t ∷ strata)))) m
    ∙ ap₂ stands (pos_left b k t.request.certain (numbers_from (λ (r : Request). r.certain) (b + length t.units) strata) (misses_from (λ (r : Request). r.certain) (b + k) (b + length t.units) strata past))
    (pos_left b k t.request.free (numbers_from (λ (r : Request). r.free) (b + length t.units) strata) (misses_from (λ (r : Request). r.free) (b + k) (b + length t.units) strata past))
    ∙ stands_own (inclusion t.request k)
    ∙ ap (λ (u : Stratum). stands_behind 0 (inclusion u.request k)) same
stands_from b (t ∷ strata) over (suc h) k s is l =
    let o : IsOver (length t.units) t.request = All-head (λ (u : Stratum). IsOver (length u.units) u.request) t strata over in
    let rest : AreOver strata = All-tail (λ (u : Stratum). IsOver (length u.units) u.request) t strata over in
    let n : ℕ = b + length t.units + (units_before strata h + k) in
    let m : b + (length t.units + units_before strata h + k) ≡ n = omega arith in
    let certain_own : List ℕ = map (λ u. b + u) t.request.certain in
    let free_own : List ℕ = map (λ u. b + u) t.request.free in
    let count : length free_own ≡ length t.request.free = length-map t.request.free (λ u. b + u) in
    ap (λ i. stands (position (nat_eq i) (numbers_from (λ (r : Request). r.certain) b (t ∷ strata))) (position (nat_eq i) (numbers_from (λ (r : Request). r.free) b (t ∷ strata)))) m
    ∙ ap₂ stands (pos_right n certain_own (numbers_from (λ (r : Request). r.certain) (b + length t.units) strata) (misses_own n b (length t.units) t.request.certain (omega arith) o.certain))
    (pos_right n free_own (numbers_from (λ (r : Request). r.free) (b + length t.units) strata) (misses_own n b (length t.units) t.request.free (omega arith) o.free))
    ∙ stands_moved (length free_own) (position (nat_eq n) (numbers_from (λ (r : Request). r.certain) (b + length t.units) strata)) (position (nat_eq n) (numbers_from (λ (r : Request). r.free) (b + length t.units) strata)) (length certain_own)
    ∙ ap (stands_behind (length free_own)) (stands_from (b + length t.units) strata rest h k s is l)
    ∙ stands_more (length free_own) (free_before strata h) (inclusion s.request k)
    ∙ ap (λ i. stands_behind (i + free_before strata h) (inclusion s.request k)) count

-- a unit of a stratum stands among all as in its stratum
pub stands_over : (strata : List Stratum) → AreOver strata → (h k : ℕ) (s : Stratum) → slice_get strata h ≡ Some s → k < length s.units
    → inclusion (request_over strata) (units_before strata h + k) ≡ stands_behind (free_before strata h) (inclusion s.request k)
stands_over strata over h k s is l =
    let m : units_before strata h + k ≡ 0 + (units_before strata h + k) = omega arith in
    ap (inclusion (request_over strata)) m ∙ stands_from 0 strata over h k s is l

-- ---- the lists rise

-- a list that rises, behind so many numbers, and one that begins past it
rises_on : (b n : ℕ) (xs ys : List ℕ) → Rises xs → All (λ u. u < n) xs → Rises ys → All (λ u. b + n ≤ u) ys → Rises (map (λ u. b + u) xs ++ ys)
rises_on b n xs ys rising within behind past i j l m =
    let own : List ℕ = map (λ u. b + u) xs in
    let count : length own ≡ length xs = length-map xs (λ u. b + u) in
    let all : length (own ++ ys) ≡ length own + length ys = length-append own ys in
    elim (cases_lt j (length xs)) [
      | inl near ↦
          (let first : get_or (own ++ ys) i 0 ≡ b + get_or xs i 0 =
          get_or_append_left own ys 0 i (omega (arith, l, near, count)) ∙ get_or-map (λ u. b + u) xs i 0 0 (omega (arith, l, near)) in
          let later : get_or (own ++ ys) j 0 ≡ b + get_or xs j 0 =
          get_or_append_left own ys 0 j (omega (arith, near, count)) ∙ get_or-map (λ u. b + u) xs j 0 0 near in
          omega (arith, first, later, rising i j l near))
      | inr far ↦
          (let later : get_or (own ++ ys) j 0 ≡ get_or ys (j - length xs) 0 = get_or-append_right own ys (length xs) j 0 count far in
          let there : j - length xs < length ys = omega (arith, m, all, count, far) in
          elim (cases_lt i (length xs)) [
            | inl near ↦
                (let first : get_or (own ++ ys) i 0 ≡ b + get_or xs i 0 =
                get_or_append_left own ys 0 i (omega (arith, near, count)) ∙ get_or-map (λ u. b + u) xs i 0 0 near in
                let below : get_or xs i 0 < n = All-get_or (λ u. u < n) xs i 0 near within in
                let above : b + n ≤ get_or ys (j - length xs) 0 = All-get_or (λ u. b + n ≤ u) ys (j - length xs) 0 there past in
                omega (arith, first, later, below, above))
            | inr both ↦
                (let first : get_or (own ++ ys) i 0 ≡ get_or ys (i - length xs) 0 = get_or-append_right own ys (length xs) i 0 count both in
                omega (arith, first, later, behind (i - length xs) (j - length xs) (omega (arith, l, both, far)) there))
          ])
    ]

past_from : (counted : Request → List ℕ) (b : ℕ) (strata : List Stratum) → All (λ u. b ≤ u) (numbers_from counted b strata)
past_from counted b [] = All-nil (λ u. b ≤ u)
past_from counted b (s ∷ strata) =
    All-append (λ u. b ≤ u) (map (λ u. b + u) (counted s.request)) (numbers_from counted (b + length s.units) strata)
    (All-map (λ u. b ≤ u) (λ u. b + u) (counted s.request) (λ k d l. omega arith))
    (All-weaker (λ u. b + length s.units ≤ u) (λ u. b ≤ u) (λ u le. omega (arith, le)) (numbers_from counted (b + length s.units) strata) (past_from counted (b + length s.units) strata))

-- where those of each request rise, and are units of its stratum
numbers_rise : (counted : Request → List ℕ) → ((n : ℕ) (r : Request) → IsOver n r → Rises (counted r) × All (λ u. u < n) (counted r)) → (b : ℕ) (strata : List Stratum) → AreOver strata → Rises (numbers_from counted b strata)
numbers_rise counted own b [] over = λ i j l m. absurd (omega (arith, m))
numbers_rise counted own b (s ∷ strata) over =
    let here = own (length s.units) s.request (All-head (λ (u : Stratum). IsOver (length u.units) u.request) s strata over) in
    rises_on b (length s.units) (counted s.request) (numbers_from counted (b + length s.units) strata) here.0 here.1
    (numbers_rise counted own (b + length s.units) strata (All-tail (λ (u : Stratum). IsOver (length u.units) u.request) s strata over)) (past_from counted (b + length s.units) strata)

pub over_rises : (strata : List Stratum) → AreOver strata → IsRising (request_over strata)
over_rises strata over = record {
  certain = numbers_rise (λ (r : Request). r.certain) (λ n r is. (is.rising.certain, is.certain)) 0 strata over;
  free = numbers_rise (λ (r : Request). r.free) (λ n r is. (is.rising.free, is.free)) 0 strata over;
}

-- ---- one stratum more

pub none_before : (strata : List Stratum) → units_before strata 0 ≡ 0
none_before [] = refl
none_before (s ∷ strata) = refl

pub one_before : (strata : List Stratum) (h : ℕ) (s : Stratum) → slice_get strata h ≡ Some s → units_before strata (suc h) ≡ units_before strata h + length s.units
one_before [] h s is = absurd (cc)
one_before (t ∷ strata) zero s is =
    let same : t ≡ s = same_Some t s is in
    omega (arith, none_before strata, ap (λ (u : Stratum). length u.units) same)
one_before (t ∷ strata) (suc h) s is = omega (arith, one_before strata h s is)

-- and of the numbers of the others the next stratum's come first
pub numbers_next : (counted : Request → List ℕ) (b : ℕ) (strata : List Stratum) (h : ℕ) (s : Stratum) → slice_get strata h ≡ Some s
    → numbers_from counted b (drop h strata) ≡ map (λ u. b + u) (counted s.request) ++ numbers_from counted (b + length s.units) (drop (suc h) strata)
numbers_next counted b [] h s is = absurd (cc)
numbers_next counted b (t ∷ strata) zero s is =
    let same : t ≡ s = same_Some t s is in
    ap (λ (u : Stratum). map (λ n. b + n) (counted u.request) ++ numbers_from counted (b + length u.units) strata) same
numbers_next counted b (t ∷ strata) (suc h) s is = numbers_next counted b strata h s is
