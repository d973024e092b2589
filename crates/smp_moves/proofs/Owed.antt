-- A method that owes what a balanced selection owes is balanced.
use Rattle.std.proofs.Common.{◌≡◌, ◌≢◌, ℕ, ◌<◌, ◌≤◌, true, false, cond, List, [], ◌∷◌, arith, refl, sym, ap, ◌∙◌, subst, inl, inr, ◌⊎◌}
use Rattle.std.proofs.lemmas.Bool.{cases_Bool}
use Rattle.smp_frac.specs.{Fractions.{Fraction, Same, whole, times}, Bounds.{absolute, DifferByAtMost}}
use Rattle.smp_frac.proofs.Arithmetic.{same_refl, same_sym, same_trans, times_same}
use Rattle.smp_frac.proofs.Bounds.{term_above, differ_same, differ_by_same, differ_sum}
use Rattle.smp_split.specs.{Trees.{EachPart, picked}, Paths.{Entry, IsStep, Leads}, declared.kind.Kind.{Kind}}
use Rattle.smp_split.specs.declared.kind.Kind.TheVariants as kind
use Rattle.smp_split.specs.Laws.Means.{selected_sum_is_value_sum}
use Rattle.smp_split.specs.Laws.Steps.{picked_is_part, picked_belongs, leads_keep, leads_belong, value_within}
use Rattle.smp_moves.specs.Balances.{Balance, Begins, IsBalanced, IsBeforeLanding, Lands, LandsAt}
use Rattle.smp_moves.specs.Owed.{Weighed, HasKept, HasStayed, IsStart, NeverWide, Owes, balance_of, is_open, weighed_bound, weighed_estimate, weighed_total}

-- ---- each path lands, or stays before the landing

landing_kind : (k : Kind) → Begins k ⊎ ((k ≢ kind.Drop) × (k ≢ kind.Wide))
landing_kind kind.Order = inr ((λ e. cc), (λ e. cc))
landing_kind kind.Pivot = inr ((λ e. cc), (λ e. cc))
landing_kind kind.Lone = inr ((λ e. cc), (λ e. cc))
landing_kind kind.System = inr ((λ e. cc), (λ e. cc))
landing_kind kind.Support = inr ((λ e. cc), (λ e. cc))
landing_kind kind.Offer = inr ((λ e. cc), (λ e. cc))
landing_kind kind.Take = inr ((λ e. cc), (λ e. cc))
landing_kind kind.Spent = inr ((λ e. cc), (λ e. cc))
landing_kind kind.Eliminate = inr ((λ e. cc), (λ e. cc))
landing_kind kind.Choose = inr ((λ e. cc), (λ e. cc))
landing_kind kind.Flight = inr ((λ e. cc), (λ e. cc))
landing_kind kind.Drop = inl (inl refl)
landing_kind kind.Wide = inl (inr refl)

pub lands_or_not : {State : Type 0} (b : Balance State) (path : List Entry) (from to : State) → Leads b.tree from path to → IsBeforeLanding path ⊎ Lands b from path to
lands_or_not b [] from to leads = inl tt
lands_or_not b (entry ∷ path) from to leads =
    elim (landing_kind entry.0) [
      | inl k ↦ inr (record {
        before = [];
        entry = entry;
        after = path;
        at = from;
        lands = record { leads = refl; flight = tt; going = leads.0.going; begins = elim k [ inl d ↦ inl (sym leads.0.kind ∙ d) | inr w ↦ inr (sym leads.0.kind ∙ w) ] };
        goes_on = leads;
        is = refl;
      })
      | inr k ↦ elim (lands_or_not b path (picked from (b.tree.parts from) entry.2) to leads.1) [
        | inl before ↦ inl (k.0, k.1, before)
        | inr r ↦ inr (record {
          before = entry ∷ r.before;
          entry = r.entry;
          after = r.after;
          at = r.at;
          lands = record { leads = (leads.0, r.lands.leads); flight = (k.0, k.1, r.lands.flight); going = r.lands.going; begins = r.lands.begins };
          goes_on = r.goes_on;
          is = ap (λ p. entry ∷ p) r.is;
        })
      ]
    ]

module _ {State : Type 0} (b : Weighed State) (belongs flying : State → Type 0) (owes : Owes b belongs flying) where
  -- ---- before the landing

  abbrev IsUnlanded : State → Type 0
  IsUnlanded = IsStart b belongs flying

  unlanded_step : (s : State) (entry : Entry) → IsUnlanded s → IsStep b.tree s entry → entry.0 ≢ kind.Drop → entry.0 ≢ kind.Wide → IsUnlanded (picked s (b.tree.parts s) entry.2)
  unlanded_step s entry u step not_drop not_wide =
      let within = value_within b.tree belongs owes.lawful s entry step in
      let next : State = picked s (b.tree.parts s) entry.2 in
      let begins_not : Begins (b.tree.kind s) → ⊥ = λ e. elim e [ inl d ↦ not_drop (step.kind ∙ d) | inr w ↦ not_wide (step.kind ∙ w) ] in
      let stayed : HasStayed b flying s next = picked_is_part (λ p. HasStayed b flying s p.state) (λ t. HasStayed b flying s t) (λ p h. h) s (b.tree.parts s) entry.2 (owes.stays s u.member step.going u.flies begins_not) within in
      record {
        member = picked_belongs b.tree belongs owes.lawful s next entry.2 u.member step.going within refl;
        flies = stayed.flies;
        rows = stayed.rows ∙ u.rows;
        left = stayed.left ∙ u.left;
        totals = λ row l. same_trans (stayed.totals row (omega (arith, l, u.rows))) (u.totals row l);
      }

  unlanded_path : (path : List Entry) (from to : State) → Leads b.tree from path to → IsBeforeLanding path → IsUnlanded from → IsUnlanded to
  unlanded_path [] from to leads before u = subst IsUnlanded (sym leads) u
  unlanded_path (entry ∷ path) from to leads before u =
      unlanded_path path (picked from (b.tree.parts from) entry.2) to leads.1 before.2 (unlanded_step from entry u leads.0 before.0 before.1)

  -- ---- a leaf below a state

  module _ (s leaf : State) (path : List Entry) (member : belongs s) (leads : Leads b.tree s path leaf) where
    leaf_member : belongs leaf
    leaf_member = leads_belong b.tree belongs owes.lawful path s leaf leads member

    settled_path : (k : ℕ) → is_open b s k ≡ false → HasKept b s leaf k
    settled_path k still =
        leads_keep b.tree belongs owes.lawful (λ t. HasKept b s t k)
        (λ t m going h. kept_on t h (b.tree.parts t) (owes.settled t m going k h.still))
        path s leaf leads member (record { still = still; same = same_refl (b.tree.value s k) })
      where
        kept_on : (t : State) → HasKept b s t k → (ps : List _) → EachPart (λ p. HasKept b t p.state k) ps → EachPart (λ p. HasKept b s p.state k) ps
        kept_on t h [] each = tt
        kept_on t h (p ∷ ps) each = (record { still = each.0.still; same = same_trans each.0.same h.same }, kept_on t h ps each.1)

    unit_error : (c : Fraction) (k : ℕ) → k < b.tree.units → DifferByAtMost (cond (is_open b s k) (absolute c) (whole 0)) (times c (b.tree.value leaf k)) (times c (b.tree.value s k))
    unit_error c k l =
        let here = owes.within s member k in
        let there = owes.within leaf leaf_member k in
        elim (cases_Bool (is_open b s k)) [
          | inr e ↦ rw e (differ_same (times c (b.tree.value leaf k)) (times c (b.tree.value s k)) (times_same (same_refl c) (settled_path k e).same))
          | inl e ↦ rw e (differ_by_same (times_same (same_refl c) (owes.value leaf leaf_member k l)) (times_same (same_refl c) (owes.value s member k l))
              (record {
                above = term_above c (b.numer s k) (b.denom s k) (b.numer leaf k) (b.denom leaf k) here.1 there.1 here.0 there.0;
                below = term_above c (b.numer leaf k) (b.denom leaf k) (b.numer s k) (b.denom s k) there.1 here.1 there.0 here.0;
              }))
        ]

    total_error : (row : ℕ) → DifferByAtMost (weighed_bound b s row) (weighed_total b leaf row) (weighed_total b s row)
    total_error row =
        differ_sum b.tree.units (λ k. times (b.expanded row k) (b.tree.value leaf k)) (λ k. times (b.expanded row k) (b.tree.value s k))
        (λ k. cond (is_open b s k) (absolute (b.expanded row k)) (whole 0))
        (λ k l. unit_error (b.expanded row k) k l)

    estimate_is : b.tree.done leaf ≡ true → (row : ℕ) → Same (weighed_estimate b leaf row) (weighed_total b leaf row)
    estimate_is done row = selected_sum_is_value_sum b.tree (b.expanded row) leaf (owes.lawful.end leaf leaf_member done)

  -- ---- of every path

  module _ (from : State) (start : IsStart b belongs flying from) where
    at_landing : (before : List Entry) (s : State) → LandsAt (balance_of b) from before s → IsUnlanded s
    at_landing before s lands = unlanded_path before from s lands.leads lands.flight start

    flight_keeps : (path : List Entry) (s : State) (entry : Entry) → Leads b.tree from path s → IsStep b.tree s entry → entry.0 ≡ kind.Flight → (row : ℕ) → row < b.rows s → Same (weighed_total b (picked s (b.tree.parts s) entry.2) row) (weighed_total b s row)
    flight_keeps path s entry leads step is row l =
        let member = leads_belong b.tree belongs owes.lawful path from s leads start.member in
        let within = value_within b.tree belongs owes.lawful s entry step in
        let flight : b.tree.kind s ≡ kind.Flight = sym step.kind ∙ is in
        let begins_not : Begins (b.tree.kind s) → ⊥ = λ e. elim e [ inl d ↦ absurd (let z : kind.Flight ≡ kind.Drop = sym flight ∙ d in cc) | inr w ↦ absurd (let z : kind.Flight ≡ kind.Wide = sym flight ∙ w in cc) ] in
        let stayed : HasStayed b flying s (picked s (b.tree.parts s) entry.2) = picked_is_part (λ p. HasStayed b flying s p.state) (λ t. HasStayed b flying s t) (λ p h. h) s (b.tree.parts s) entry.2
        (owes.stays s member step.going (owes.flies s member step.going flight) begins_not) within in
        stayed.totals row l

    left_counted : (before after : List Entry) (entry : Entry) (s to : State) → LandsAt (balance_of b) from before s → Leads b.tree s (entry ∷ after) to → b.left to ≡ b.undecided s
    left_counted before after entry s to lands leads =
        let u = at_landing before s lands in
        let within = value_within b.tree belongs owes.lawful s entry leads.0 in
        let next : State = picked s (b.tree.parts s) entry.2 in
        let first : b.left next ≡ b.undecided s = picked_is_part (λ p. b.left p.state ≡ b.undecided s) (λ t. b.left t ≡ b.undecided s) (λ p h. h) s (b.tree.parts s) entry.2 (owes.lands s u.member lands.going u.flies u.left lands.begins) within in
        leads_keep b.tree belongs owes.lawful (λ t. b.left t ≡ b.undecided s) (λ t m going e. owes.later (b.undecided s) (owes.some s u.member lands.going) t m going e)
        after next to leads.1 (picked_belongs b.tree belongs owes.lawful s next entry.2 u.member lands.going within refl) first

    -- a landing that begins with a dropped row leaves no more units than there are rows
    left_few : NeverWide b from → b.narrow → (path : List Entry) (to : State) → Leads b.tree from path to → b.left to ≤ b.all_rows
    left_few never narrow path to leads =
        elim (lands_or_not (balance_of b) path from to leads) [
          | inl before ↦ (let none = (unlanded_path path from to leads before start).left in omega (arith, none))
          | inr r ↦
              (let u = at_landing r.before r.at r.lands in
              let count = left_counted r.before r.after r.entry r.at to r.lands r.goes_on in
              elim r.lands.begins [
                | inl drops ↦ (let few = owes.few r.at u.member drops in omega (arith, count, few, u.rows))
                | inr wides ↦ absurd (never narrow r.before r.at r.lands.leads r.lands.going wides)
              ])
        ]

    pub is_balanced : NeverWide b from → IsBalanced (balance_of b) from
    is_balanced never = record {
      flights = flight_keeps;
      totals = λ path s leads before row l. (unlanded_path path from s leads before start).totals row l;
      exact = λ path leaf leads before done row l.
          same_trans (estimate_is from leaf path start.member leads done row) ((unlanded_path path from leaf leads before start).totals row l);
      lands = λ path to leads. lands_or_not (balance_of b) path from to leads;
      landing = λ before s lands. owes.stuck s (at_landing before s lands).member lands.begins;
      drops = λ path s leads going drops. owes.drops s (leads_belong b.tree belongs owes.lawful path from s leads start.member) drops;
      few = λ before s lands drops.
          (let u = at_landing before s lands in
          (owes.few s u.member drops, omega (arith, u.rows)));
      error = λ before after s leaf lands leads done row l.
          (let u = at_landing before s lands in
          differ_by_same (estimate_is s leaf after u.member leads done row) (same_sym (u.totals row l)) (total_error s leaf after u.member leads row));
      none_left = λ path s leads before. (unlanded_path path from s leads before start).left;
      left = left_counted;
      never_wide = never;
      few_left = left_few never;
    }
