-- A walk over a tape of the values of a path takes that path exactly where it leads to a leaf.
use Rattle.std.proofs.Common.{rules, ◌≡◌, ◌&&◌, ◌==◌, ℕ, List, [], Option, Some, sym, ap, subst, ◌∙◌, refl}
use denote.Enum.Bare.{sameb, same_true, true_same}
use Rattle.std.specs.Bool.{Decides}
use Rattle.std.proofs.lemmas.Bool.Decides.{Decides-and, Decides-eqb}
use Rattle.smp_split.specs.{declared.kind.Kind.{Kind}, contracts.kind.Kind.{the_type}, Counts.{selected_units}, Paths.{Entry, values_of}}
use Rattle.smp_tape.specs.{declared.draws.DrawFault.{DrawFault}, Tapes.{Values, tape_of_values}, TapeSources.{tape_source}}
use Rattle.smp_split.specs.{Runs.{Arrived, IsLeaf, IsOutcome, Outcome, leaf, position, run, stopped}, Trees.{Lawful, Tree}}
use Rattle.smp_split.proofs.{Runs.{run_is}, Tapes.{full_runs}}
use Rattle.method_tests.specs.Walks.{IsWalk}

-- ---- entries

-- the code's test of two kinds, and of two entries
kind_decides : (a b : Kind) → Decides (sameb the_type a b) (a ≡ b)
kind_decides a b = (λ e. same_true the_type (search rules) a b e, λ e. true_same the_type a b e)

entry_is : (j k : Kind) (l m n o : ℕ) → j ≡ k → l ≡ m → n ≡ o → ◌≡◌ {A = Entry} (j, l, n) (k, m, o)
entry_is j k l m n o e f g = rw (e, f, g) refl

pub entry_decides : (a b : Entry) → Decides ((sameb the_type a.0 b.0 && a.1 == b.1) && a.2 == b.2) (a ≡ b)
entry_decides a b =
    let parts = Decides-and (sameb the_type a.0 b.0 && a.1 == b.1) (a.2 == b.2) (Decides-and (sameb the_type a.0 b.0) (a.1 == b.1) (kind_decides a.0 b.0) (Decides-eqb a.1 b.1)) (Decides-eqb a.2 b.2) in
    (λ e. (let same = parts.0 e in entry_is a.0 b.0 a.1 b.1 a.2 b.2 same.0.0 same.0.1 same.1), λ e. parts.1 ((ap (λ (x : Entry). x.0) e, ap (λ (x : Entry). x.1) e), ap (λ (x : Entry). x.2) e))

-- ---- walks

module _ {State : Type 0} (tree : Tree State) (belongs : State → Type 0) (lawful : Lawful tree belongs) (s : State) (path : List Entry) (member : belongs s) where
  abbrev tape : Values
  tape = tape_of_values [] (values_of path)

  -- where the walk arrived, it took the entries that it told
  pub arrived_leaf : (to : State) (told : List Entry) (left : Values) → Arrived tape_source tree (position s tape (Some [])) (position to left (Some told)) → run tape_source tree s tape ≡ leaf to told left
  arrived_leaf to told left is =
      let same : told ≡ is.path = (let f : ◌≡◌ {A = Option (List Entry)} (Some told) (Some is.path) = is.told in cc) in
      is.ran ∙ ap (λ (entries : List Entry). leaf to entries left) (sym same)

  pub leaf_at : (to : State) (told : List Entry) (left : Values) → run tape_source tree s tape ≡ leaf to told left → IsLeaf tape_source tree s tape to told left
  leaf_at to told left ran = subst (IsOutcome tape_source tree s tape) ran (run_is tape_source tree belongs lawful s tape member)

  pub walk_is : (to : State) (told : List Entry) (left : Values) (units : List ℕ) → run tape_source tree s tape ≡ leaf to told left → told ≡ path → selected_units tree to ≡ units → IsWalk tree s path units
  walk_is to told left units ran same selected =
      let is = leaf_at to path left (ran ∙ ap (λ (entries : List Entry). leaf to entries left) same) in
      record { leaf = to; leads = is.leads; done = is.done; selected = selected }

  -- a walk to a leaf is the one that the tape gives
  walk_runs : (units : List ℕ) (is : IsWalk tree s path units) → run tape_source tree s tape ≡ leaf is.leaf path (tape_of_values (values_of path) [])
  walk_runs units is = full_runs tree belongs lawful s is.leaf path [] (values_of path) member (record { leads = is.leads; done = is.done; all = refl })

  pub walk_told : (to : State) (told : List Entry) (left : Values) (units : List ℕ) → run tape_source tree s tape ≡ leaf to told left → IsWalk tree s path units → (told ≡ path) × (selected_units tree to ≡ units)
  walk_told to told left units ran is =
      let same : ◌≡◌ {A = Outcome State Values} (leaf to told left) (leaf is.leaf path (tape_of_values (values_of path) [])) = sym ran ∙ walk_runs units is in
      let end : to ≡ is.leaf = cc in
      (cc, ap (selected_units tree) end ∙ is.selected)

  pub never_stopped : (to : State) (told : List Entry) (fault : DrawFault) (left : Values) (units : List ℕ) → run tape_source tree s tape ≡ stopped to told fault left → IsWalk tree s path units → ⊥
  never_stopped to told fault left units ran is =
      let same : ◌≡◌ {A = Outcome State Values} (stopped to told fault left) (leaf is.leaf path (tape_of_values (values_of path) [])) = sym ran ∙ walk_runs units is in
      cc
