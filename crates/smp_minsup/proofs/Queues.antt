-- A queue has one entry for each unit of a group, and none besides.
use Rattle.std.proofs.Common.{◌≡◌, ◌≢◌, ℕ, zero, suc, ◌+◌, ◌<◌, ◌≤◌, Bool, true, false, cond, nat_eq, List, [], ◌∷◌, length, get_or, Result, Ok, Err, arith, rules, sym, ap, ◌∙◌, subst, inl, inr}
use Rattle.std.specs.{Result.{IsOk, OnOk}, List.{All, AllByRecursion, count_by}, List.Sorted.{IsPermutation}}
use Rattle.std.proofs.{lemmas.Bool.{cases_Bool, cases_eq, eqb-true, eq-eqb, ne_eqb}, lemmas.List.Sums.{sum_by-cons, count_by-le-length}}
use Rattle.std.proofs.lemmas.List.Sorted.{All-permutation, length_permutation, sum_by_popped, sum_by_pushed}
use Rattle.smp_split.proofs.NumberSums.{weight_true, weight_false}
use Rattle.smp_minsup.specs.Kept.Ranked.{IsQueue}

-- what is said of an Ok
pub on_ok : {T E : Type 0} (P : Type 0) (r : Result T E) → IsOk r → OnOk r P → P
on_ok P (Ok x) ok h = h
on_ok P (Err e) ok h = absurd (search (rules, ok))

pub count-cons : {X : Type 0} (p : X → Bool) (x : X) (xs : List X) → count_by p (x ∷ xs) ≡ cond (p x) 1 0 + count_by p xs
count-cons p x xs = sum_by-cons (λ y. cond (p y) 1 0) x xs

pub none_passes : {X : Type 0} (p : X → Bool) (xs : List X) → count_by p xs ≡ 0 → All (λ x. p x ≡ false) xs
none_passes p [] h k d l = absurd (omega (arith, l))
none_passes p (x ∷ xs) h zero d l =
    elim (cases_Bool (p x)) [ inr e ↦ e | inl e ↦ absurd (omega (arith, count-cons p x xs, weight_true e, h)) ]
none_passes p (x ∷ xs) h (suc k) d l = none_passes p xs (omega (arith, count-cons p x xs, h)) k d (omega (arith, l))

module _ {Entry : Type 0} (unit : Entry → ℕ) where
  abbrev held : List Entry → ℕ → ℕ
  held queue k = count_by (λ e. nat_eq (unit e) k) queue

  front_counts : (queue : List Entry) (e : Entry) → 1 ≤ length queue → e ≡ get_or queue 0 e → 1 ≤ held queue (unit e)
  front_counts [] e h is = absurd (omega (arith, h))
  front_counts (x ∷ queue) e h is =
      let same : unit x ≡ unit e = ap unit (sym is) in
      omega (arith, count-cons (λ y. nat_eq (unit y) (unit e)) x queue, weight_true (eq-eqb (unit x) (unit e) same))

  passes : (entry : ℕ → Entry) (Q : Entry → Type 0) (k : ℕ) (queue : List Entry) → AllByRecursion Q queue → All (λ e. e ≡ entry (unit e)) queue → 1 ≤ held queue k → Q (entry k)
  passes entry Q k [] each entries h = absurd (omega (arith, h))
  passes entry Q k (x ∷ queue) each entries h =
      elim (cases_Bool (nat_eq (unit x) k)) [
        | inl e ↦ subst Q (entries 0 x (omega arith) ∙ ap entry (eqb-true (unit x) k e)) each.0
        | inr e ↦ passes entry Q k queue each.1 (λ j d l. entries (suc j) d (omega (arith, l))) (omega (arith, h, count-cons (λ y. nat_eq (unit y) k) x queue, weight_false e))
      ]

module _ {Entry : Type 0} {unit : Entry → ℕ} {entry : ℕ → Entry} {group : ℕ → Bool} {units : ℕ} {queue : List Entry} (is : IsQueue unit entry group units queue) where
  in_group : (k : ℕ) → k < units → 1 ≤ held unit queue k → group k ≡ true
  in_group k l h = elim (cases_Bool (group k)) [ inl e ↦ e | inr e ↦ absurd (omega (arith, is.once k l, weight_false e, h)) ]

  -- what the first entry is
  pub front_known : (e : Entry) → 1 ≤ length queue → e ≡ get_or queue 0 e → unit e < units
  front_known e h at = subst (λ (x : Entry). unit x < units) (sym at) (is.known 0 e (omega (arith, h)))

  pub front_entry : (e : Entry) → 1 ≤ length queue → e ≡ get_or queue 0 e → e ≡ entry (unit e)
  front_entry e h at = subst (λ (x : Entry). x ≡ entry (unit x)) (sym at) (is.entries 0 e (omega (arith, h)))

  pub front_group : (e : Entry) → 1 ≤ length queue → e ≡ get_or queue 0 e → group (unit e) ≡ true
  front_group e h at = in_group (unit e) (front_known e h at) (front_counts unit queue e h at)

  -- what holds of each entry holds of that of each unit of the group
  pub holds_of : (Q : Entry → Type 0) → AllByRecursion Q queue → (k : ℕ) → k < units → group k ≡ true → Q (entry k)
  holds_of Q each k l h = passes unit entry Q k queue each is.entries (omega (arith, is.once k l, weight_true h))

  pub has_some : (k : ℕ) → k < units → group k ≡ true → 1 ≤ length queue
  has_some k l h = omega (arith, is.once k l, weight_true h, count_by-le-length (λ e. nat_eq (unit e) k) queue)

  module _ (entry' : ℕ → Entry) (group' : ℕ → Bool) (k : ℕ) (same_entry : (j : ℕ) → j ≢ k → entry' j ≡ entry j) (same_group : (j : ℕ) → j ≢ k → group' j ≡ group j) where
    -- entries of other units stay what they are
    kept_entries : (rest : List Entry) → All (λ e. e ≡ entry (unit e)) rest → held unit rest k ≡ 0 → All (λ e. e ≡ entry' (unit e)) rest
    kept_entries rest entries none j d l =
        let other : unit (get_or rest j d) ≢ k = λ e. (let not_k : nat_eq (unit (get_or rest j d)) k ≡ false = none_passes (λ x. nat_eq (unit x) k) rest none j d l in let is_k : nat_eq (unit (get_or rest j d)) k ≡ true = eq-eqb (unit (get_or rest j d)) k e in cc) in
        entries j d l ∙ sym (same_entry (unit (get_or rest j d)) other)

    -- the entry of unit k is taken out
    pub popped : (e : Entry) (rest : List Entry) → 1 ≤ length queue → e ≡ get_or queue 0 e → unit e ≡ k → group' k ≡ false → IsPermutation queue (e ∷ rest) → IsQueue unit entry' group' units rest
    popped e rest h at e_is gone moved =
        let counts : (j : ℕ) → held unit rest j + cond (nat_eq (unit e) j) 1 0 ≡ held unit queue j = λ j. sum_by_popped (λ x. cond (nat_eq (unit x) j) 1 0) e queue rest moved in
        let known : unit e < units = front_known e h at in
        let was : group k ≡ true = subst (λ j. group j ≡ true) e_is (front_group e h at) in
        let none : held unit rest k ≡ 0 = omega (arith, counts k, weight_true (eq-eqb (unit e) k e_is), is.once k (omega (arith, known, e_is)), weight_true was) in
        record {
          entries = kept_entries rest (λ j d l. All-permutation (λ x. x ≡ entry (unit x)) queue (e ∷ rest) moved is.entries (suc j) d (omega (arith, l))) none;
          known = λ j d l. All-permutation (λ x. unit x < units) queue (e ∷ rest) moved is.known (suc j) d (omega (arith, l));
          once = λ j l. elim (cases_eq j k) [
            | inl same ↦ rw (same, gone) none
            | inr ne ↦
                (let other : unit e ≢ j = λ f. ne (sym f ∙ e_is) in
                rw (same_group j ne) (omega (arith, counts j, weight_false (ne_eqb (unit e) j other), is.once j l)))
          ];
        }

    -- an entry of unit k is put in
    pub pushed : (rest : List Entry) → k < units → group k ≡ false → group' k ≡ true → unit (entry' k) ≡ k → IsPermutation (entry' k ∷ queue) rest → IsQueue unit entry' group' units rest
    pushed rest l was now unit_is moved =
        let counts : (j : ℕ) → held unit rest j ≡ cond (nat_eq (unit (entry' k)) j) 1 0 + held unit queue j = λ j. sum_by_pushed (λ x. cond (nat_eq (unit x) j) 1 0) (entry' k) queue rest moved in
        let none : held unit queue k ≡ 0 = omega (arith, is.once k l, weight_false was) in
        let old : All (λ e. e ≡ entry' (unit e)) queue = kept_entries queue is.entries none in
        record {
          entries = All-permutation (λ e. e ≡ entry' (unit e)) (entry' k ∷ queue) rest moved (all_of (λ e. e ≡ entry' (unit e)) (entry' k) queue (ap entry' (sym unit_is)) old);
          known = All-permutation (λ e. unit e < units) (entry' k ∷ queue) rest moved (all_of (λ e. unit e < units) (entry' k) queue (omega (arith, unit_is, l)) is.known);
          once = λ j m. elim (cases_eq j k) [
            | inl same ↦ rw (same, now) (omega (arith, counts k, weight_true (eq-eqb (unit (entry' k)) k unit_is), none))
            | inr ne ↦
                (let other : unit (entry' k) ≢ j = λ f. ne (sym f ∙ unit_is) in
                rw (same_group j ne) (omega (arith, counts j, weight_false (ne_eqb (unit (entry' k)) j other), is.once j m)))
          ];
        }
      where
        all_of : (P : Entry → Type 0) (x : Entry) (xs : List Entry) → P x → All P xs → All P (x ∷ xs)
        all_of P x xs one all zero d l = one
        all_of P x xs one all (suc j) d l = all j d (omega (arith, l))

-- a queue from which an entry was taken had one
pub some_taken : {X : Type 0} (queue rest : List X) (e : X) → IsPermutation queue (e ∷ rest) → 1 ≤ length queue
some_taken queue rest e taken =
    let less : suc (length rest) ≡ length queue = length_permutation queue (e ∷ rest) taken in
    omega (arith, less)
