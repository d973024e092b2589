-- The laws of a lens: its outer splits are lawful where the inner ones are, and its paths are inner ones.
use Rattle.std.proofs.Common.{◌≡◌, ℕ, ◌<◌, Bool, true, false, cond, List, [], ◌∷◌, ◌++◌, refl, sym, ap, subst}
use Rattle.std.proofs.Common.{◌∙◌, inl, inr, ◌⊎◌}
use Rattle.std.proofs.lemmas.Bool.{cases_Bool}
use Rattle.smp_frac.specs.Fractions.{Fraction, Same, whole, times}
use Rattle.smp_split.specs.Parts.{moved}
use Rattle.smp_split.specs.Trees.{Part, Tree, EachPart, IsPart, LawfulParts, LawfulSplit, LawfulEnd, Lawful, weight_sum, picked, weighted}
use Rattle.smp_split.specs.Paths.{Entry, IsStep, Leads}
use Rattle.smp_split.specs.Lenses.{OuterUnit, fixed, as_unit, as_share, seen, Within, Lens, Shows, Closes, Inside}
use Rattle.smp_frac.proofs.Arithmetic.{same_refl, same_sym, same_trans, plus_same, times_same, times-plus, times_left_comm, times-zero}
use Rattle.smp_split.specs.Laws.Means.{weighted_same}
use Rattle.smp_split.specs.Laws.Parts.{weighted-same, weight_sum-moved, weighted-moved, picked-moved, each_moved}

module _ {Inner : Type 0} (inner : Tree Inner) (belongs : Inner → Type 0) where
  -- a fixed fraction comes out of a weighted sum
  weighted-times : (a : Fraction) (f : Inner → Fraction) (ps : List (Part Inner))
      → Same (weighted (λ i. times a (f i)) ps) (times a (weighted f ps))
  weighted-times a f [] = same_sym (times-zero a)
  weighted-times a f (p ∷ ps) =
      same_trans (plus_same (times_left_comm (whole p.weight) a (f p.state)) (weighted-times a f ps))
      (same_sym (times-plus a (times (whole p.weight) (f p.state)) (weighted f ps)))

  all_parts : (P : Part Inner → Type 0) → ((p : Part Inner) → P p) → (ps : List (Part Inner)) → EachPart P ps
  all_parts P h [] = tt
  all_parts P h (p ∷ ps) = (h p, all_parts P h ps)

  -- inner parts keep what an outer unit is seen to have
  seen_even : (i : Inner) (parts : List (Part Inner)) → LawfulParts inner belongs i parts → (view : OuterUnit)
      → Within inner.units view → Same (weighted (λ j. seen view (inner.value j)) parts)
      (times (whole (weight_sum parts)) (seen view (inner.value i)))
  seen_even i parts split (fixed c) within = weighted-same (λ j. c) c parts (all_parts (λ p. c ≡ c) (λ p. refl) parts)
  seen_even i parts split (as_unit k) within = split.even k within
  seen_even i parts split (as_share a k) within =
      same_trans (weighted-times a (λ j. inner.value j k) parts)
      (same_trans (times_same (same_refl a) (split.even k within)) (times_left_comm a (whole (weight_sum parts)) (inner.value i k)))

-- Inner parts that are lawful, put in place, are lawful parts of an outer state, where each of them falls and belongs, and where the outer
-- units have the values that their views give them, in the state as in the parts.
module _ {Inner Outer : Type 0} (inner : Tree Inner) (belongs : Inner → Type 0) (outer : Tree Outer)
    (outside : Outer → Type 0) (put : Inner → Outer) (view : ℕ → OuterUnit) (i : Inner) (s : Outer) where
  pub record Through : Type 0 where
    pub within : (k : ℕ) → k < outer.units → Within inner.units (view k)
    pub part : (p : Part Inner) → IsPart inner belongs i p → IsPart outer outside s (record { weight = p.weight; state = put p.state })
    pub value : (k : ℕ) → k < outer.units → Same (outer.value s k) (seen (view k) (inner.value i))
    pub values : (j : Inner) → belongs j → (k : ℕ) → k < outer.units
        → Same (outer.value (put j) k) (seen (view k) (inner.value j))

  even_of : Through → (parts : List (Part Inner)) → LawfulParts inner belongs i parts → (k : ℕ) → k < outer.units
      → Same (weighted (λ t. outer.value t k) (moved put parts))
      (times (whole (weight_sum parts)) (outer.value s k))
  even_of through parts split k h =
      rw (weighted-moved put (λ t. outer.value t k) parts)
      (same_trans (weighted_same (IsPart inner belongs i) (λ j. outer.value (put j) k)
      (λ j. seen (view k) (inner.value j)) (λ p is. through.values p.state is.member k h) parts split.each)
      (same_trans (seen_even inner belongs i parts split (view k) (through.within k h))
      (times_same (same_refl (whole (weight_sum parts))) (same_sym (through.value k h)))))

  pub parts_through : Through → (parts : List (Part Inner)) → LawfulParts inner belongs i parts
      → LawfulParts outer outside s (moved put parts)
  parts_through through parts split = record {
    some = rw (weight_sum-moved put parts) split.some;
    narrow = rw (weight_sum-moved put parts) split.narrow;
    each = each_moved put (IsPart inner belongs i) (IsPart outer outside s) through.part parts split.each;
    even = λ k h. (let W : ℕ → Type 0 = λ n. Same (weighted (λ t. outer.value t k) (moved put parts))
        (times (whole n) (outer.value s k)) in
        subst W (sym (weight_sum-moved put parts)) (even_of through parts split k h));
  }

module _ {Inner Outer : Type 0} (inner : Tree Inner) (belongs : Inner → Type 0) (outer : Tree Outer)
    (put : Inner → Outer) (view : ℕ → OuterUnit) (lens : Lens inner belongs outer put view) where
  module _ (outside : Outer → Type 0) (member : (i : Inner) → belongs i → outside (put i)) where
    part_through : (i : Inner) (p : Part Inner) → IsPart inner belongs i p
        → IsPart outer outside (put i) (record { weight = p.weight; state = put p.state })
    part_through i p is = record { heavy = is.heavy; falls = lens.falls i p.state is.falls; member = member p.state is.member }

    -- the outer split is lawful
    pub split_through : (i : Inner) → belongs i → inner.done i ≡ false → LawfulSplit inner belongs i
        → LawfulSplit outer outside (put i)
    split_through i here going split =
        let Q : List (Part Outer) → Type 0 = λ ps. LawfulParts outer outside (put i) ps in
        subst Q (sym (lens.parts i going))
        (parts_through inner belongs outer outside put view i (put i)
        (record { within = lens.within; part = part_through i; value = lens.value i here; values = lens.value })
        (inner.parts i) split)

  -- ---- where the outer design is done with the inner one

  shows : (v : OuterUnit) (value : ℕ → Fraction) (selected : ℕ → Bool) (b : Bool)
      → ((k : ℕ) → k < inner.units → Same (value k) (whole (cond (selected k) 1 0))) → Within inner.units v
      → Shows v selected b → Same (seen v value) (whole (cond b 1 0))
  shows (fixed c) value selected b end within show = show
  shows (as_unit k) value selected b end within show = rw show (end k within)
  shows (as_share a k) value selected b end within show = same_trans (times_same (same_refl a) (end k within)) show

  pub end_through : Closes inner outer put view → (i : Inner) → belongs i → inner.done i ≡ true → LawfulEnd inner i
      → LawfulEnd outer (put i)
  end_through closes i here done end k h =
      same_trans (lens.value i here k h) (shows (view k) (inner.value i) (inner.selected i)
      (outer.selected (put i) k) end (lens.within k h) (closes.selected i done k h))

  -- a lens that closes makes a lawful design of a lawful one
  pub lawful_through : Closes inner outer put view → Lawful inner belongs → Lawful outer (Inside put belongs)
  lawful_through closes lawful = record {
    split = λ s here. (let P : Outer → Type 0 = λ t. outer.done t ≡ false → LawfulSplit outer (Inside put belongs) t in
        subst P (sym here.is) (λ going. elim (cases_Bool (inner.done here.inside)) [
          | inl e ↦ absurd (let done : outer.done (put here.inside) ≡ true = closes.done here.inside e in cc)
          | inr e ↦ split_through (Inside put belongs) (λ i m. record { inside = i; is = refl; member = m })
              here.inside here.member e (lawful.split here.inside here.member e)
        ]));
    end = λ s here. (let P : Outer → Type 0 = λ t. outer.done t ≡ true → LawfulEnd outer t in
        subst P (sym here.is) (λ done. elim (cases_Bool (inner.done here.inside)) [
          | inl e ↦ end_through closes here.inside here.member e (lawful.end here.inside here.member e)
          | inr e ↦ absurd (let going : outer.done (put here.inside) ≡ false = lens.going here.inside e in cc)
        ]));
  }

  -- ---- paths

  step_out : (i : Inner) (entry : Entry) → IsStep inner i entry → IsStep outer (put i) entry
  step_out i entry step = record {
    going = lens.going i step.going;
    kind = step.kind ∙ sym (lens.kind i step.going);
    bound = step.bound ∙ sym (rw (lens.parts i step.going) (weight_sum-moved put (inner.parts i)));
    value = step.value;
  }

  step_in : (i : Inner) (entry : Entry) → inner.done i ≡ false → IsStep outer (put i) entry → IsStep inner i entry
  step_in i entry going step = record {
    going = going;
    kind = step.kind ∙ lens.kind i going;
    bound = step.bound ∙ rw (lens.parts i going) (weight_sum-moved put (inner.parts i));
    value = step.value;
  }

  pub next_through : (i : Inner) (draw : ℕ) → inner.done i ≡ false
      → picked (put i) (outer.parts (put i)) draw ≡ put (picked i (inner.parts i) draw)
  next_through i draw going = rw (lens.parts i going) (picked-moved put i (inner.parts i) draw)

  -- an inner path is an outer one
  pub leads_through : (path : List Entry) (from to : Inner) → Leads inner from path to → Leads outer (put from) path (put to)
  leads_through [] from to leads = ap put leads
  leads_through (entry ∷ path) from to leads = (
    step_out from entry leads.0,
    (let Q : Outer → Type 0 = λ s. Leads outer s path (put to) in
        subst Q (sym (next_through from entry.2 leads.0.going))
        (leads_through path (picked from (inner.parts from) entry.2) to leads.1)),
  )

  -- a path from a state put in place: an inner path, and what comes after it, which is nothing unless the inner design is done
  pub record Came (path : List Entry) (from : Inner) (to : Outer) : Type 0 where
    pub front : List Entry
    pub back : List Entry
    pub inside : Inner
    pub joined : path ≡ front ++ back
    pub leads : Leads inner from front inside
    pub after : Leads outer (put inside) back to
    pub done : (back ≡ []) ⊎ (inner.done inside ≡ true)

  pub came : (path : List Entry) (from : Inner) (to : Outer) → Leads outer (put from) path to → Came path from to
  came [] from to leads = record { front = []; back = []; inside = from; joined = refl; leads = refl; after = leads; done = inl refl }
  came (entry ∷ path) from to leads =
      elim (cases_Bool (inner.done from)) [
        | inl e ↦ record { front = []; back = entry ∷ path; inside = from; joined = refl; leads = refl; after = leads; done = inr e }
        | inr e ↦
            (let Q : Outer → Type 0 = λ s. Leads outer s path to in
            let rest = came path (picked from (inner.parts from) entry.2) to (subst Q (next_through from entry.2 e) leads.1) in
            record {
              front = entry ∷ rest.front;
              back = rest.back;
              inside = rest.inside;
              joined = ap (λ p. entry ∷ p) rest.joined;
              leads = (step_in from entry e leads.0, rest.leads);
              after = rest.after;
              done = rest.done;
            })
      ]

  -- where the outer design is done with the inner one, the whole path is an inner one
  pub record CameWhole (path : List Entry) (from : Inner) (to : Outer) : Type 0 where
    pub inside : Inner
    pub is : to ≡ put inside
    pub leads : Leads inner from path inside

  pub came_whole : Closes inner outer put view → (path : List Entry) (from : Inner) (to : Outer)
      → Leads outer (put from) path to → CameWhole path from to
  came_whole closes [] from to leads = record { inside = from; is = leads; leads = refl }
  came_whole closes (entry ∷ path) from to leads =
      elim (cases_Bool (inner.done from)) [
        | inl e ↦ absurd (let done : outer.done (put from) ≡ true = closes.done from e in
            let going : outer.done (put from) ≡ false = leads.0.going in cc)
        | inr e ↦
            (let Q : Outer → Type 0 = λ s. Leads outer s path to in
            let rest = came_whole closes path (picked from (inner.parts from) entry.2) to (subst Q (next_through from entry.2 e) leads.1) in
            record { inside = rest.inside; is = rest.is; leads = (step_in from entry e leads.0, rest.leads) })
      ]

  -- what holds of each inner leaf holds of each outer one
  pub leaves_through : Closes inner outer put view → (P : Inner → Type 0) (Q : Outer → Type 0)
      → ((i : Inner) → inner.done i ≡ true → P i → Q (put i)) → (from : Inner)
      → ((path : List Entry) (leaf : Inner) → Leads inner from path leaf → inner.done leaf ≡ true → P leaf)
      → (path : List Entry) (leaf : Outer) → Leads outer (put from) path leaf → outer.done leaf ≡ true → Q leaf
  leaves_through closes P Q h from each path leaf leads done =
      let here = came_whole closes path from leaf leads in
      elim (cases_Bool (inner.done here.inside)) [
        | inl e ↦ subst Q (sym here.is) (h here.inside e (each path here.inside here.leads e))
        | inr e ↦ absurd (let going : outer.done (put here.inside) ≡ false = lens.going here.inside e in
            let ends : outer.done (put here.inside) ≡ true = subst (λ s. outer.done s ≡ true) here.is done in cc)
      ]
