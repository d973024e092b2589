-- The joint probability of two units of a stratum, of which the free ones are drawn by a design put among others.
use Rattle.std.proofs.Common.{◌≡◌, ℕ, ◌<◌, Bool, true, false, ◌&&◌, length, Option, Some, refl}
use Rattle.smp_frac.specs.Fractions.{Fraction, Same, whole}
use Rattle.smp_frac.proofs.Arithmetic.{same_refl, same_trans}
use Rattle.smp_prob.specs.{declared.requests.Request.{Request}, declared.inclusions.Inclusion.{Inclusion}}
use Rattle.smp_prob.specs.declared.inclusions.Inclusion.TheVariants.{Certain, Free, Never}
use Rattle.smp_prob.specs.Inclusions.{IsRising, inclusion, is_taken, free_fraction}
use Rattle.smp_split.specs.{Embeds.{embedded, BelongsInside}, Lenses.{as_unit}, Means.{mean_of, joint_probability}, Trees.{Tree, Lawful}}
use Rattle.smp_split.proofs.{Embeds.{embedded_closes, embedded_lawful, embedded_lens}, MeanOf.{mean_of_same}}
use Rattle.smp_split.specs.{Laws.Rows.{free_within, row_view, rows_close, rows_lawful, rows_lens}, Rows.{BelongsToRows, rows_tree}}
use Rattle.smp_joint.specs.Joints.{joint_at}
use Rattle.smp_joint.proofs.KeptMeans.{constant_mean, mean_closed, one_mean, one_where}

-- ---- a variant of an enum of designs selects two units together as the design itself

module _ {Inner Outer : Type 0} (into : Inner → Outer) (out : Outer → Option Inner) (inner : Tree Inner) (back : (i : Inner) → out (into i) ≡ Some i) (belongs : Inner → Type 0) (lawful : Lawful inner belongs) (j k : ℕ) where
  abbrev outer : Tree Outer
  outer = embedded into out inner

  abbrev outside : Outer → Type 0
  outside = BelongsInside into out inner belongs

  law : Lawful outer outside
  law = embedded_lawful into out inner back belongs lawful

  abbrev together : Outer → Fraction
  together t = one_where (outer.selected t j && outer.selected t k)

  pub joint_embedded : (i : Inner) → belongs i → Same (joint_probability outer (into i) j k) (joint_probability inner i j k)
  joint_embedded i b =
      same_trans (mean_closed inner belongs lawful outer outside law into as_unit (embedded_lens into out inner back belongs) (embedded_closes into out inner back belongs) (λ t m. rw (back t) m) together i b)
      (mean_of_same inner belongs lawful (λ t. together (into t)) (λ t. one_where (inner.selected t j && inner.selected t k))
      (λ t m done. rw (back t) (same_refl (one_where (inner.selected t j && inner.selected t k)))) i b)

-- ---- the certain units, the free ones and those that are never selected

module _ {State : Type 0} (request : Request) (tree : Tree State) (belongs : State → Type 0) (lawful : Lawful tree belongs) (paired : length request.free ≡ tree.units) (s : State) (here : belongs s)
    (values : (u : ℕ) → u < length request.free → Same (tree.value s u) (free_fraction request u))
    (joints : (u v : ℕ) → u < length request.free → v < length request.free → Same (joint_probability tree s u v) (joint_at request (Free u) (Free v))) where
  abbrev Inside : Inclusion → Type 0
  Inside stands = (u : ℕ) → stands ≡ Free u → u < length request.free

  abbrev both : Inclusion → Inclusion → State → Fraction
  both x y leaf = one_where (is_taken (tree.selected leaf) x && is_taken (tree.selected leaf) y)

  alone : (u : ℕ) → u < length request.free → Same (mean_of tree (λ leaf. one_where (tree.selected leaf u)) s) (free_fraction request u)
  alone u h = same_trans (one_mean tree belongs lawful u (rw (← paired) h) s here) (values u h)

  -- a factor that is always there, or never
  with_true : (b : Bool) → Same (one_where (b && true)) (one_where b)
  with_true true = same_refl (whole 1)
  with_true false = same_refl (whole 0)

  with_false : (b : Bool) → Same (one_where (b && false)) (whole 0)
  with_false true = same_refl (whole 0)
  with_false false = same_refl (whole 0)

  by_standings : (x y : Inclusion) → Inside x → Inside y → Same (mean_of tree (both x y) s) (joint_at request x y)
  by_standings Certain Certain hx hy = constant_mean tree belongs lawful (whole 1) s here
  by_standings Certain (Free v) hx hy = alone v (hy v refl)
  by_standings Certain Never hx hy = constant_mean tree belongs lawful (whole 0) s here
  by_standings (Free u) Certain hx hy =
      same_trans (mean_of_same tree belongs lawful (both (Free u) Certain) (λ leaf. one_where (tree.selected leaf u)) (λ t _ _. with_true (tree.selected t u)) s here) (alone u (hx u refl))
  by_standings (Free u) (Free v) hx hy = joints u v (hx u refl) (hy v refl)
  by_standings (Free u) Never hx hy =
      same_trans (mean_of_same tree belongs lawful (both (Free u) Never) (λ _. whole 0) (λ t _ _. with_false (tree.selected t u)) s here) (constant_mean tree belongs lawful (whole 0) s here)
  by_standings Never Certain hx hy = constant_mean tree belongs lawful (whole 0) s here
  by_standings Never (Free v) hx hy = constant_mean tree belongs lawful (whole 0) s here
  by_standings Never Never hx hy = constant_mean tree belongs lawful (whole 0) s here

  pub joint_rows : (rows : ℕ) → IsRising request → (j k : ℕ) → Same (joint_probability (rows_tree rows request tree) s j k) (joint_at request (inclusion request j) (inclusion request k))
  joint_rows rows rising j k =
      same_trans
      (mean_closed tree belongs lawful (rows_tree rows request tree) (BelongsToRows request tree belongs) (rows_lawful rows request tree belongs lawful) (λ t. t) (λ row. row_view (inclusion request row)) (rows_lens rows request tree belongs paired) (rows_close rows request tree belongs)
      (λ t m. record { member = m; ordered = rising; paired = paired }) (both (inclusion request j) (inclusion request k)) s here)
      (by_standings (inclusion request j) (inclusion request k) (free_within request j) (free_within request k))
