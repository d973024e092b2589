-- One more stage, with its state, and one more row.
use Rattle.std.proofs.Common.{◌≡◌, ℕ, zero, suc, ◌<◌, List, [], ◌∷◌, ◌++◌, length, Option, Some, None, arith, refl, sym, ap, subst, ◌∙◌, inl, inr, ◌⊎◌, length-append}
use Rattle.std.specs.List.{slice_get}
use Rattle.std.proofs.lemmas.Option.{same_Some, slice_get_within}
use Rattle.smp_split.specs.{Trees.{Tree}, declared.places.Place.{Place}, declared.places.Seat.{Seat}, declared.places.Stage.{Stage}}
use Rattle.smp_split.specs.{declared.places.Seat.TheVariants.{First, Second}, Laws.Staged.{some_stage}}
use Rattle.smp_split.specs.Stages.{units_of, within_of, IsFirstUnit, IsUnitWithin, IsStaged, EachBelongs}

module _ {X : Type 0} where
  -- what was there stays, and what is new is the last
  pub slice_get_kept : (xs : List X) (y : X) (i : ℕ) (x : X) → slice_get xs i ≡ Some x → slice_get (xs ++ y ∷ []) i ≡ Some x
  slice_get_kept [] y i x is = absurd (cc)
  slice_get_kept (z ∷ zs) y zero x is = is
  slice_get_kept (z ∷ zs) y (suc i) x is = slice_get_kept zs y i x is

  pub old_or_new : (xs : List X) (y : X) (i : ℕ) (x : X) → slice_get (xs ++ y ∷ []) i ≡ Some x → (slice_get xs i ≡ Some x) ⊎ ((i ≡ length xs) × (y ≡ x))
  old_or_new [] y zero x is = inr (refl, same_Some y x is)
  old_or_new [] y (suc i) x is = absurd (cc)
  old_or_new (z ∷ zs) y zero x is = inl is
  old_or_new (z ∷ zs) y (suc i) x is =
      elim (old_or_new zs y i x is) [ inl old ↦ inl old | inr new ↦ inr (omega arith, new.1) ]

-- what holds of each stage and its state holds so with one more of both
module _ {Design State : Type 0} (P : Design → State → Type 0) where
  abbrev EachOf : List (Stage Design) → List State → Type 0
  EachOf stages states = (i : ℕ) (stage : Stage Design) (state : State) → slice_get stages i ≡ Some stage → slice_get states i ≡ Some state → P stage.design state

  pub each_more : (stages : List (Stage Design)) (states : List State) (stage : Stage Design) (state : State) → length states ≡ length stages → EachOf stages states → P stage.design state → EachOf (stages ++ stage ∷ []) (states ++ state ∷ [])
  each_more stages states stage state paired each holds i other stands at_stage at_state =
      elim (old_or_new stages stage i other at_stage) [
        | inl old ↦ elim (old_or_new states state i stands at_state) [
          | inl old_state ↦ each i other stands old old_state
          | inr new_state ↦ absurd (omega (arith, new_state.0, paired, slice_get_within stages i other old))
        ]
        | inr new ↦ elim (old_or_new states state i stands at_state) [
          | inl old_state ↦ absurd (omega (arith, new.0, paired, slice_get_within states i stands old_state))
          | inr new_state ↦ (let Q : Stage Design → Type 0 = λ s. P s.design stands in subst Q new.1 (subst (P stage.design) new_state.1 holds))
        ]
      ]

module _ {Design State : Type 0} (tree_of : Design → Tree State) where
  -- a stage that selects within a unit is there
  some_within_of : (at : Option (Stage Design)) (place : Place) → within_of at ≡ Some place → (stage : Stage Design) × (at ≡ Some stage)
  some_within_of (Some stage) place is = (stage, refl)
  some_within_of None place is = absurd (cc)

  pub none_staged : IsStaged tree_of [] []
  none_staged = record { within = λ i place is. absurd (cc); first = λ row place is. absurd (cc); second = λ row first second is. absurd (cc) }

  module _ (belongs : Design → State → Type 0) (stages : List (Stage Design)) (stage : Stage Design) where
    kept_unit : (place : Place) → place.unit < units_of tree_of (slice_get stages place.stage) → slice_get (stages ++ stage ∷ []) place.stage ≡ slice_get stages place.stage
    kept_unit place unit =
        let some = some_stage tree_of belongs (slice_get stages place.stage) place.unit unit in
        slice_get_kept stages stage place.stage some.0 some.1 ∙ sym some.1

    kept_first : (place : Place) → IsFirstUnit tree_of stages place → IsFirstUnit tree_of (stages ++ stage ∷ []) place
    kept_first place is = record {
      unit = rw (kept_unit place is.unit) is.unit;
      first = rw (kept_unit place is.unit) is.first;
    }

    pub one_more_stage : (seats : List Seat) → IsStaged tree_of stages seats → ((place : Place) → stage.within ≡ Some place → IsFirstUnit tree_of stages place) → IsStaged tree_of (stages ++ stage ∷ []) seats
    one_more_stage seats staged is = record {
      within = λ i place inside.
          (let some = some_within_of (slice_get (stages ++ stage ∷ []) i) place inside in
          elim (old_or_new stages stage i some.0 some.1) [
            | inl old ↦
                (let after = staged.within i place (ap within_of (old ∙ sym some.1) ∙ inside) in
                record { earlier = after.earlier; unit = kept_first place after.unit })
            | inr new ↦
                (let first : IsFirstUnit tree_of stages place = is place (ap (λ s. s.within) new.1 ∙ sym (ap within_of some.1) ∙ inside) in
                let there = some_stage tree_of belongs (slice_get stages place.stage) place.unit first.unit in
                record { earlier = omega (arith, new.0, slice_get_within stages place.stage there.0 there.1); unit = kept_first place first })
          ]);
      first = λ row place at. kept_first place (staged.first row place at);
      second = λ row first second at.
          (let within = staged.second row first second at in
          record { unit = rw (kept_unit second within.unit) within.unit; within = rw (kept_unit second within.unit) within.within });
    }

    pub one_more_state : (states : List State) (state : State) → EachBelongs tree_of belongs stages states → belongs stage.design state → EachBelongs tree_of belongs (stages ++ stage ∷ []) (states ++ state ∷ [])
    one_more_state states state each member = record {
      paired = omega (arith, each.paired, length-append states (state ∷ []), length-append stages (stage ∷ []));
      each = each_more belongs stages states stage state each.paired each.each member;
    }

  pub none_belongs : (belongs : Design → State → Type 0) → EachBelongs tree_of belongs [] []
  none_belongs belongs = record { paired = refl; each = λ i stage state is _. absurd (cc) }

  pub one_more_row : (stages : List (Stage Design)) (seats : List Seat) (seat : Seat) → IsStaged tree_of stages seats → ((place : Place) → seat ≡ First place → IsFirstUnit tree_of stages place) → ((first second : Place) → seat ≡ Second first second → IsUnitWithin tree_of stages first second)
      → IsStaged tree_of stages (seats ++ seat ∷ [])
  one_more_row stages seats seat staged is_first is_second = record {
    within = staged.within;
    first = λ row place at. elim (old_or_new seats seat row (First place) at) [
      | inl old ↦ staged.first row place old
      | inr new ↦ is_first place new.1
    ];
    second = λ row first second at. elim (old_or_new seats seat row (Second first second) at) [
      | inl old ↦ staged.second row first second old
      | inr new ↦ is_second first second new.1
    ];
  }
