-- Facts of the roots of a tree.
use Rattle.std.proofs.Common.{◌≡◌, ℕ, zero, suc, ◌+◌, ◌-◌, ◌<◌, ◌≤◌, arith}
use Rattle.smp_places.specs.Trees.{middle, each_root, EachRoot}

middle_from : (low high : ℕ) → low ≤ middle low high
middle_from low high = omega arith

middle_before : (low high : ℕ) → low < high → middle low high < high
middle_before low high h = omega arith

module _ (fact : ℕ → ℕ → ℕ → Type 0) where
  -- the room does not matter, as long as there is enough
  each_root_room : (r s low high : ℕ) → high - low ≤ r → high - low ≤ s → each_root fact r low high → each_root fact s low high
  unfolding each_root
  each_root_room r zero low high p q is = tt
  each_root_room zero (suc s) low high p q is = λ here. absurd (omega arith)
  each_root_room (suc r) (suc s) low high p q is =
      λ here.
      (let all = is here in
      let from : low ≤ middle low high = middle_from low high in
      let before : middle low high < high = middle_before low high here in (
        all.0,
        each_root_room r s low (middle low high) (omega arith) (omega arith) all.1,
        each_root_room r s (middle low high + 1) high (omega arith) (omega arith) all.2,
      ))

  pub no_root : (low high : ℕ) → high ≤ low → EachRoot fact low high
  no_root low high h = record { roots = each_root_room zero (high - low) low high (omega arith) (omega arith) (unfold each_root in tt) }

  pub record Parts (low high : ℕ) : Type 0 where
    pub root : fact low (middle low high) high
    pub first : EachRoot fact low (middle low high)
    pub second : EachRoot fact (middle low high + 1) high

  opened : (low high room : ℕ) → low < high → suc room ≡ high - low → each_root fact (suc room) low high → Parts low high
  unfolding each_root
  opened low high room here is all =
      let from : low ≤ middle low high = middle_from low high in
      let before : middle low high < high = middle_before low high here in
      let parts = all here in
      record {
        root = parts.0;
        first = record { roots = each_root_room room (middle low high - low) low (middle low high) (omega arith) (omega arith) parts.1 };
        second = record { roots = each_root_room room (high - (middle low high + 1)) (middle low high + 1) high (omega arith) (omega arith) parts.2 };
      }

  pub parts : (low high : ℕ) → low < high → EachRoot fact low high → Parts low high
  parts low high here is =
      let room : suc (high - low - 1) ≡ high - low = omega arith in
      opened low high (high - low - 1) here room (each_root_room (high - low) (suc (high - low - 1)) low high (omega arith) (omega arith) is.roots)

  closed : (low high room : ℕ) → low < high → suc room ≡ high - low → Parts low high → each_root fact (suc room) low high
  unfolding each_root
  closed low high room here is parts =
      λ _.
      (let from : low ≤ middle low high = middle_from low high in
      let before : middle low high < high = middle_before low high here in (
        parts.root,
        each_root_room (middle low high - low) room low (middle low high) (omega arith) (omega arith) parts.first.roots,
        each_root_room (high - (middle low high + 1)) room (middle low high + 1) high (omega arith) (omega arith) parts.second.roots,
      ))

  pub from_parts : (low high : ℕ) → low < high → Parts low high → EachRoot fact low high
  from_parts low high here parts =
      let room : suc (high - low - 1) ≡ high - low = omega arith in
      record { roots = each_root_room (suc (high - low - 1)) (high - low) low high (omega arith) (omega arith) (closed low high (high - low - 1) here room parts) }

-- a fact that follows from another one, at each root of a tree
module _ (fact other : ℕ → ℕ → ℕ → Type 0) (from to : ℕ) (follows : (low root high : ℕ) → from ≤ low → low ≤ root → root < high → high ≤ to → fact low root high → other low root high) where
  each_root_other : (room low high : ℕ) → from ≤ low → high ≤ to → each_root fact room low high → each_root other room low high
  unfolding each_root
  each_root_other zero low high p q is = tt
  each_root_other (suc room) low high p q is =
      λ here.
      (let all = is here in
      let after : low ≤ middle low high = middle_from low high in
      let before : middle low high < high = middle_before low high here in (
        follows low (middle low high) high p after before q all.0,
        each_root_other room low (middle low high) p (omega arith) all.1,
        each_root_other room (middle low high + 1) high (omega arith) q all.2,
      ))

  pub each_root_as : EachRoot fact from to → EachRoot other from to
  each_root_as is = record { roots = each_root_other (to - from) from to (omega arith) (omega arith) is.roots }

-- the halves of a tree, by the place of its root
module _ (fact : ℕ → ℕ → ℕ → Type 0) (low root high : ℕ) (is_root : root ≡ middle low high) (here : low < high) (is : EachRoot fact low high) where
  pub root_of_tree : fact low root high
  root_of_tree = rw is_root (parts fact low high here is).root

  pub first_half : EachRoot fact low root
  first_half = rw is_root (parts fact low high here is).first

  pub second_half : EachRoot fact (root + 1) high
  second_half = rw is_root (parts fact low high here is).second
