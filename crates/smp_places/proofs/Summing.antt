-- The sums of the amounts before each place, at the roots of a tree.
use Rattle.std.proofs.Common.{◌≡◌, ◌≢◌, ℕ, zero, suc, ◌+◌, ◌-◌, ◌*◌, ◌<◌, ◌≤◌, List, [], ◌∷◌, length, get_or, set, refl, ap, inl, inr, ◌⊎◌, arith}
use Rattle.std.proofs.{Math.Nat.{mul-le-mul_left}, lemmas.List.{get_or-set_same, get_or-set_other}, lemmas.List.Sums.{sum_by-cons}}
use Rattle.std.specs.List.{sum}
use Rattle.smp_places.specs.{Kept.{IsSummed}, Amounts.{sum_before, weighted_before}, Trees.{EachRoot, middle}}
use Rattle.smp_places.proofs.Roots.{each_root_as, from_parts, root_of_tree}

pub before_none : (amounts : List ℕ) → sum_before amounts 0 ≡ 0
before_none [] = refl
before_none (amount ∷ rest) = refl

pub before_more : (amounts : List ℕ) (place : ℕ) → sum_before amounts (place + 1) ≡ sum_before amounts place + get_or amounts place 0
before_more [] place = omega arith
before_more (amount ∷ []) zero = omega arith
before_more (amount ∷ next ∷ rest) zero = omega arith
before_more (amount ∷ rest) (suc place) =
    let more : suc place + 1 ≡ suc (place + 1) = omega arith in
    rw more (omega (arith, before_more rest place))

pub before_all : (amounts : List ℕ) (place : ℕ) → length amounts ≤ place → sum_before amounts place ≡ sum amounts
before_all [] place h = refl
before_all (amount ∷ rest) zero h = absurd (omega arith)
before_all (amount ∷ rest) (suc place) h = omega (arith, sum_by-cons (λ a. a) amount rest, before_all rest place (omega arith))

pub before_rises : (amounts : List ℕ) (low high : ℕ) → low ≤ high → sum_before amounts low ≤ sum_before amounts high
before_rises [] low high h = omega arith
before_rises (amount ∷ rest) zero high h = omega arith
before_rises (amount ∷ rest) (suc low) zero h = absurd (omega arith)
before_rises (amount ∷ rest) (suc low) (suc high) h = omega (arith, before_rises rest low high (omega arith))

pub before_within : (amounts : List ℕ) (place : ℕ) → sum_before amounts place ≤ sum amounts
before_within [] place = omega arith
before_within (amount ∷ rest) zero = omega arith
before_within (amount ∷ rest) (suc place) = omega (arith, sum_by-cons (λ a. a) amount rest, before_within rest place)

-- ---- two amounts at each place

pub weighted_none : (by : ℕ) (amounts : List ℕ) (times : ℕ) (others : List ℕ) → weighted_before by amounts times others 0 ≡ 0
weighted_none by amounts times others = omega (arith, ap (λ n. by * n) (before_none amounts), ap (λ n. times * n) (before_none others))

pub weighted_more : (by : ℕ) (amounts : List ℕ) (times : ℕ) (others : List ℕ) (place : ℕ) → weighted_before by amounts times others (place + 1) ≡ weighted_before by amounts times others place + (by * get_or amounts place 0 + times * get_or others place 0)
weighted_more by amounts times others place = omega (arith, ap (λ n. by * n) (before_more amounts place), ap (λ n. times * n) (before_more others place))

pub weighted_all : (by : ℕ) (amounts : List ℕ) (times : ℕ) (others : List ℕ) (place : ℕ) → length amounts ≤ place → length others ≤ place → weighted_before by amounts times others place ≡ by * sum amounts + times * sum others
weighted_all by amounts times others place h k = rw (before_all amounts place h, before_all others place k) refl

pub weighted_rises : (by : ℕ) (amounts : List ℕ) (times : ℕ) (others : List ℕ) (low high : ℕ) → low ≤ high → weighted_before by amounts times others low ≤ weighted_before by amounts times others high
weighted_rises by amounts times others low high h =
    omega (arith, mul-le-mul_left by (before_rises amounts low high h), mul-le-mul_left times (before_rises others low high h))

pub weighted_within : (by : ℕ) (amounts : List ℕ) (times : ℕ) (others : List ℕ) (place : ℕ) → weighted_before by amounts times others place ≤ by * sum amounts + times * sum others
weighted_within by amounts times others place =
    omega (arith, mul-le-mul_left by (before_within amounts place), mul-le-mul_left times (before_within others place))

-- what the sums at a root tell
pub weighted_half : (by : ℕ) (amounts : List ℕ) (times : ℕ) (others sums more : List ℕ) (low root high : ℕ) → IsSummed amounts sums low root high → IsSummed others more low root high → by * get_or sums root 0 + times * get_or more root 0 + weighted_before by amounts times others low ≡ weighted_before by amounts times others root
weighted_half by amounts times others sums more low root high is also = omega (arith, ap (λ n. by * n) is, ap (λ n. times * n) also)

-- what a turn of a search has at the root of the tree that is left
pub record IsAtRoot (by : ℕ) (amounts : List ℕ) (times : ℕ) (others sums more : List ℕ) (low root : ℕ) : Type 0 where
  pub half : by * get_or sums root 0 + times * get_or more root 0 + weighted_before by amounts times others low ≡ weighted_before by amounts times others root
  pub own : weighted_before by amounts times others (root + 1) ≡ weighted_before by amounts times others root + (by * get_or amounts root 0 + times * get_or others root 0)
  pub within : weighted_before by amounts times others (root + 1) ≤ by * sum amounts + times * sum others

pub is_at_root : (by : ℕ) (amounts : List ℕ) (times : ℕ) (others sums more : List ℕ) (low root high : ℕ) → root ≡ middle low high → low < high → EachRoot (IsSummed amounts sums) low high → EachRoot (IsSummed others more) low high → IsAtRoot by amounts times others sums more low root
is_at_root by amounts times others sums more low root high is here summed also = record {
  half = weighted_half by amounts times others sums more low root high (root_of_tree (IsSummed amounts sums) low root high is here summed) (root_of_tree (IsSummed others more) low root high is here also);
  own = weighted_more by amounts times others root;
  within = weighted_within by amounts times others (root + 1);
}

-- ---- when an amount is set

set_before : (amounts : List ℕ) (place amount other : ℕ) → other ≤ place → sum_before (set amounts place amount) other ≡ sum_before amounts other
set_before [] place amount other h = refl
set_before (first ∷ rest) zero amount zero h = refl
set_before (first ∷ rest) zero amount (suc other) h = absurd (omega arith)
set_before (first ∷ rest) (suc place) amount zero h = refl
set_before (first ∷ rest) (suc place) amount (suc other) h = omega (arith, set_before rest place amount other (omega arith))

set_behind : (amounts : List ℕ) (place amount other : ℕ) → place < other → place < length amounts → sum_before (set amounts place amount) other + get_or amounts place 0 ≡ sum_before amounts other + amount
set_behind [] place amount other h k = absurd (omega arith)
set_behind (first ∷ rest) place amount zero h k = absurd (omega arith)
set_behind (first ∷ rest) zero amount (suc other) h k = omega arith
set_behind (first ∷ rest) (suc place) amount (suc other) h k = omega (arith, set_behind rest place amount other (omega arith) (omega arith))

-- ---- the sums of a tree

module _ (amounts : List ℕ) where
  pub summed_kept : (sums others : List ℕ) (low high : ℕ) → ((k : ℕ) → low ≤ k → k < high → get_or others k 0 ≡ get_or sums k 0) → EachRoot (IsSummed amounts sums) low high → EachRoot (IsSummed amounts others) low high
  summed_kept sums others low high same is =
      each_root_as (IsSummed amounts sums) (IsSummed amounts others) low high
      (λ l m h p q r s summed. (let here = same m (omega arith) (omega arith) in rw here summed)) is

  module _ (sums others : List ℕ) (low root high : ℕ) (is_root : root ≡ middle low high) (here : low < high) (first_kept : (k : ℕ) → low ≤ k → k < root → get_or others k 0 ≡ get_or sums k 0) (second_kept : (k : ℕ) → root < k → k < high → get_or others k 0 ≡ get_or sums k 0) (at_root : get_or others root 0 + sum_before amounts low ≡ sum_before amounts root) where
    pub summed_all : EachRoot (IsSummed amounts sums) low root → EachRoot (IsSummed amounts sums) (root + 1) high → EachRoot (IsSummed amounts others) low high
    summed_all first second =
        from_parts (IsSummed amounts others) low high here (record {
          root = rw (← is_root) at_root;
          first = rw (← is_root) (summed_kept sums others low root first_kept first);
          second = rw (← is_root) (summed_kept sums others (root + 1) high (λ k p q. second_kept k (omega arith) q) second);
        })

  -- the sum at the root is set anew
  pub summed_set : (sums : List ℕ) (number low root high : ℕ) → root ≡ middle low high → low < high → root < length sums → number + sum_before amounts low ≡ sum_before amounts root → EachRoot (IsSummed amounts sums) low root → EachRoot (IsSummed amounts sums) (root + 1) high → EachRoot (IsSummed amounts (set sums root number)) low high
  summed_set sums number low root high is_root here inside sum first second =
      let now : get_or (set sums root number) root 0 ≡ number = get_or-set_same sums root number 0 inside in
      summed_all sums (set sums root number) low root high is_root here
      (λ k p q. (let other : k ≢ root = omega arith in get_or-set_other sums root k number 0 other))
      (λ k p q. (let other : k ≢ root = omega arith in get_or-set_other sums root k number 0 other))
      (omega arith) first second

  module _ (place amount : ℕ) (within : place < length amounts) where
    -- a tree that the place does not belong to
    pub summed_apart : (sums : List ℕ) (low high : ℕ) → (high ≤ place) ⊎ (place < low) → EachRoot (IsSummed amounts sums) low high → EachRoot (IsSummed (set amounts place amount) sums) low high
    summed_apart sums low high apart is =
        each_root_as (IsSummed amounts sums) (IsSummed (set amounts place amount) sums) low high
        (λ l m h p q r s summed.
        elim apart [
          | inl behind ↦ (let at_low = set_before amounts place amount l (omega arith) in let at_root = set_before amounts place amount m (omega arith) in omega (arith, summed, at_low, at_root))
          | inr before ↦ (let at_low = set_behind amounts place amount l (omega arith) within in let at_root = set_behind amounts place amount m (omega arith) within in omega (arith, summed, at_low, at_root))
        ]) is

    -- the sum at the root, where the place is in the first half
    pub some_summed : (sums : List ℕ) (low root high : ℕ) → low ≤ place → place < root → IsSummed amounts sums low root high → (get_or amounts place 0 ≤ get_or sums root 0) × (get_or sums root 0 ≤ sum amounts)
    some_summed sums low root high p q summed =
        let at_low = set_before amounts place 0 low p in
        let at_root = set_behind amounts place 0 root q within in
        let rises = before_rises (set amounts place 0) low root (omega arith) in
        (omega (arith, summed, at_low, at_root, rises), omega (arith, summed, before_within amounts root))

module _ (amounts : List ℕ) (place amount : ℕ) (within : place < length amounts) where
  pub changed_first : (sums once : List ℕ) (low root high : ℕ) → root ≡ middle low high → low ≤ place → place < root → root < high → root < length once → EachRoot (IsSummed amounts sums) low high → get_or once root 0 ≡ get_or sums root 0 → EachRoot (IsSummed (set amounts place amount) once) low root → EachRoot (IsSummed (set amounts place amount) once) (root + 1) high → EachRoot (IsSummed (set amounts place amount) (set once root (get_or once root 0 - get_or amounts place 0 + amount))) low high
  changed_first sums once low root high is_root p q r inside summed same first second =
      let was = root_of_tree (IsSummed amounts sums) low root high is_root (omega arith) summed in
      let at_low = set_before amounts place amount low p in
      let at_root = set_behind amounts place amount root q within in
      let some = (some_summed amounts place amount within sums low root high p q was).0 in
      summed_set (set amounts place amount) once (get_or once root 0 - get_or amounts place 0 + amount) low root high is_root (omega arith) inside (omega (arith, was, same, at_low, at_root, some)) first second

  pub changed_second : (sums once : List ℕ) (low root high : ℕ) → root ≡ middle low high → low ≤ root → root ≤ place → place < high → EachRoot (IsSummed amounts sums) low high → get_or once root 0 ≡ get_or sums root 0 → EachRoot (IsSummed (set amounts place amount) once) low root → EachRoot (IsSummed (set amounts place amount) once) (root + 1) high → EachRoot (IsSummed (set amounts place amount) once) low high
  changed_second sums once low root high is_root p q r summed same first second =
      let was = root_of_tree (IsSummed amounts sums) low root high is_root (omega arith) summed in
      let at_low = set_before amounts place amount low (omega arith) in
      let at_root = set_before amounts place amount root q in
      summed_all (set amounts place amount) once once low root high is_root (omega arith) (λ k s t. refl) (λ k s t. refl) (omega (arith, was, same, at_low, at_root)) first second
