-- How strata are stored, and the columns of their units.
use Rattle.std.proofs.Common.{◌≡◌, ◌≢◌, ℕ, suc, ◌+◌, ◌-◌, ◌<◌, ◌≤◌, ℤ, pos, List, [], ◌∷◌, ◌++◌, map, take, drop, set, length, get_or, arith, refl, sym, ap, ◌∙◌, subst, inl, inr, append_assoc, length-append, length-set, length-take, get_or-take}
use Rattle.std.specs.{Prelude.{replicate}, List.{range_with_len}}
use Rattle.std.proofs.{lemmas.Bool.{cases_eq, cases_lt, ne_eqb}, lemmas.Grind.{get_or-set_at}}
use Rattle.std.proofs.lemmas.List.{drop_more, ext_get_or, get_or-append_right, get_or-map, get_or-set_other, get_or_append_left, get_or_push, get_or_read, length-map, length-replicate}
use Rattle.smp_kernel.specs.Vectors.{entry}
use Rattle.smp_kernel.proofs.Lists.{zero_entry}
use Rattle.smp_prob.specs.{declared.requests.Request.{Request}, Requests.{IsRequest}, Shares.{common_denominator}}
use Rattle.smp_stratcube.specs.{Layers.{AreNumbers, IsLayer, Layer, no_layer, variables}, declared.units.Member.{Member}}
use Rattle.smp_stratcube.specs.Units.{column_of, member_of, members_from, units_of}
use Rattle.smp_stratcube.specs.Kept.Layers.{EachIsLayer, IsFilledUp, IsStored, stored, width, layer_of, first_of}

-- a list with one element more
pub more_each : {A : Type 0} (P : ℕ → A → Type 0) (xs : List A) (d x : A) (n : ℕ) → length xs ≡ n → ((k : ℕ) → k < n → P k (get_or xs k d)) → P n x → (k : ℕ) → k < n + 1 → P k (get_or (xs ++ x ∷ []) k d)
more_each P xs d x n count before here k l =
    elim (cases_lt k n) [
      | inl b ↦ subst (P k) (sym (get_or_append_left xs (x ∷ []) d k (omega (arith, b, count)))) (before k b)
      | inr past ↦
          (let e : k ≡ n = omega (arith, l, past) in
          subst (P k) (sym (get_or_push xs x d k (count ∙ sym e))) (subst (λ (i : ℕ). P i x) (sym e) here))
    ]

pub push_each : (layers : List Layer) (layer : Layer) → EachIsLayer layers → IsLayer layer → EachIsLayer (layers ++ layer ∷ [])
push_each layers layer each is h l =
    more_each (λ i x. IsLayer x) layers no_layer layer (length layers) refl each is h (omega (arith, l, length-append layers (layer ∷ [])))

-- ---- a stratum of a request

take_filled : (xs places : List ℤ) (n : ℕ) → length xs ≡ n → n ≤ 15 → IsFilledUp xs places → take n places ≡ xs
take_filled xs places n count few is =
    ext_get_or (pos 0) (take n places) xs (omega (arith, length-take n places, is.long, count, few))
    (λ k l. (let b : k < n = omega (arith, l, length-take n places) in get_or-take n places k (pos 0) b ∙ is.same k (omega (arith, b, count))))

module _ (request : Request) (is : IsRequest request) (xs : List (List ℤ)) (one_each : length xs ≡ length request.free) (numbers : AreNumbers xs) where
  pub layer_is : IsLayer (layer_of request xs)
  layer_is = record { request = is; one_each = one_each; numbers = numbers }

  module _ (places : List (List ℤ)) (count : length places ≡ length xs) (each : (k : ℕ) → k < length xs → IsFilledUp (get_or xs k []) (get_or places k []))
      (variables : ℕ) (variables_is : variables ≡ length (get_or xs 0 [])) where
    values_are : map (take variables) places ≡ xs
    values_are =
        ext_get_or [] (map (take variables) places) xs (length-map places (take variables) ∙ count)
        (λ k l.
        (let b : k < length xs = omega (arith, l, length-map places (take variables), count) in
        get_or-map (take variables) places k [] [] (omega (arith, b, count))
        ∙ take_filled (get_or xs k []) (get_or places k []) variables (numbers.same k b ∙ sym variables_is) (omega (arith, variables_is, numbers.few)) (each k b)))

    pub stored_view : stored request places variables ≡ layer_of request xs
    stored_view = ap (layer_of request) values_are

    pub is_stored : (shape : List ℕ) (first : ℕ) → shape ≡ request.shape → first ≡ common_denominator request → IsStored request shape request.r request.total places variables first
    is_stored shape first shape_is first_is = record {
      is = subst IsLayer (sym stored_view) layer_is;
      shape_is = shape_is;
      r_is = refl;
      total_is = refl;
      first_is = first_is;
      long = λ k l. (each k (omega (arith, l, count))).long;
      few = omega (arith, variables_is, numbers.few);
      past = λ k i l m. (let b : k < length xs = omega (arith, l, count) in (each k b).past i (omega (arith, m, variables_is, numbers.same k b)));
      variables_is = variables_is ∙ ap (λ (ys : List (List ℤ)). length (get_or ys 0 [])) (sym values_are);
    }

-- ---- the column of a unit

-- with the size alone
pub record IsFirst (strata stratum size : ℕ) (column : List ℤ) : Type 0 where
  pub long : length column ≡ 16
  pub front : (k : ℕ) → k < strata → entry column k ≡ entry (set (replicate strata (pos 0)) stratum (pos size)) k
  pub past : (k : ℕ) → strata ≤ k → entry column k ≡ pos 0

pub is_first : (strata stratum size : ℕ) → stratum < strata → strata ≤ 16 → IsFirst strata stratum size (set (replicate 16 (pos 0)) stratum (pos size))
is_first strata stratum size l few = record {
  long = length-set (replicate 16 (pos 0)) stratum (pos size) ∙ length-replicate 16 (pos 0);
  front = front;
  past = λ k past. get_or-set_other (replicate 16 (pos 0)) stratum k (pos size) (pos 0) (omega (arith, past, l)) ∙ zero_entry 16 k;
}
  where
    front : (k : ℕ) → k < strata → entry (set (replicate 16 (pos 0)) stratum (pos size)) k ≡ entry (set (replicate strata (pos 0)) stratum (pos size)) k
    front k b =
        elim (cases_eq k stratum) [
          | inl e ↦
              get_or-set_at (replicate 16 (pos 0)) stratum k (pos size) (pos 0) e (omega (arith, l, few, length-replicate 16 (pos 0)))
              ∙ sym (get_or-set_at (replicate strata (pos 0)) stratum k (pos size) (pos 0) e (omega (arith, l, length-replicate strata (pos 0))))
          | inr ne ↦
              get_or-set_other (replicate 16 (pos 0)) stratum k (pos size) (pos 0) ne ∙ zero_entry 16 k
              ∙ sym (get_or-set_other (replicate strata (pos 0)) stratum k (pos size) (pos 0) ne ∙ zero_entry strata k)
        ]

module _ (strata stratum size : ℕ) (xs : List ℤ) where
  abbrev front : List ℤ
  front = set (replicate strata (pos 0)) stratum (pos size)

  length-front : length (set (replicate strata (pos 0)) stratum (pos size)) ≡ strata
  length-front = length-set (replicate strata (pos 0)) stratum (pos size) ∙ length-replicate strata (pos 0)

  parts : column_of strata stratum size xs ≡ take 16 (front ++ (xs ++ replicate 16 (pos 0)))
  parts = ap (take 16) (append_assoc front xs (replicate 16 (pos 0)))

  pub length-column : length (column_of strata stratum size xs) ≡ 16
  length-column =
      ap length parts
      ∙ omega (arith, length-take 16 (front ++ (xs ++ replicate 16 (pos 0))), length-append front (xs ++ replicate 16 (pos 0)), length-append xs (replicate 16 (pos 0)), length-replicate 16 (pos 0))

  -- in the rows of the strata
  pub in_front : (k : ℕ) → k < 16 → k < strata → entry (column_of strata stratum size xs) k ≡ entry (set (replicate strata (pos 0)) stratum (pos size)) k
  in_front k l b =
      ap (λ ys. entry ys k) parts ∙ get_or-take 16 (front ++ (xs ++ replicate 16 (pos 0))) k (pos 0) l
      ∙ get_or_append_left front (xs ++ replicate 16 (pos 0)) (pos 0) k (omega (arith, b, length-front))

  -- and in those of the variables
  pub in_rest : (k j : ℕ) → k < 16 → k ≡ strata + j → entry (column_of strata stratum size xs) k ≡ entry (xs ++ replicate 16 (pos 0)) j
  in_rest k j l e =
      let past_front : strata ≤ k = omega (arith, e) in
      let left : k - strata ≡ j = omega (arith, e) in
      ap (λ ys. entry ys k) parts ∙ get_or-take 16 (front ++ (xs ++ replicate 16 (pos 0))) k (pos 0) l
      ∙ get_or-append_right front (xs ++ replicate 16 (pos 0)) strata k (pos 0) length-front past_front ∙ ap (entry (xs ++ replicate 16 (pos 0))) left

  module _ (column : List ℤ) (few : strata + length xs ≤ 16) (long : length column ≡ 16)
      (same : (k : ℕ) → k < strata → entry column k ≡ entry (set (replicate strata (pos 0)) stratum (pos size)) k)
      (rest : (j : ℕ) → j < length xs → entry column (strata + j) ≡ entry xs j)
      (past : (k : ℕ) → strata + length xs ≤ k → entry column k ≡ pos 0) where
    by_rest : (k j : ℕ) → k < 16 → k ≡ strata + j → entry column k ≡ entry (column_of strata stratum size xs) k
    by_rest k j l e =
        elim (cases_lt j (length xs)) [
          | inl b ↦ ap (entry column) e ∙ rest j b ∙ sym (in_rest k j l e ∙ get_or_append_left xs (replicate 16 (pos 0)) (pos 0) j b)
          | inr far ↦
              past k (omega (arith, far, e))
              ∙ sym (in_rest k j l e ∙ get_or-append_right xs (replicate 16 (pos 0)) (length xs) j (pos 0) refl far ∙ zero_entry 16 (j - length xs))
        ]

    column_at : (k : ℕ) → k < 16 → entry column k ≡ entry (column_of strata stratum size xs) k
    column_at k l =
        elim (cases_lt k strata) [
          | inl b ↦ same k b ∙ sym (in_front k l b)
          | inr le ↦ by_rest k (k - strata) l (omega (arith, le))
        ]

    pub column_is : column ≡ column_of strata stratum size xs
    column_is = ext_get_or (pos 0) column (column_of strata stratum size xs) (long ∙ sym length-column) (λ k l. column_at k (omega (arith, l, long)))

-- ---- strata from a place on

pub here_of : (layers : List Layer) (i : ℕ) (layer : Layer) → i < length layers → layer ≡ get_or layers i layer → drop i layers ≡ layer ∷ drop (i + 1) layers
here_of layers i layer l e = drop_more layers i no_layer l ∙ ap (λ (x : Layer). x ∷ drop (i + 1) layers) (sym (get_or_read layers i layer l e no_layer))

pub first_has : (layer : Layer) (layers : List Layer) → 1 ≤ length layer.values → variables (layer ∷ layers) ≡ width layer
first_has layer layers some = (let ne : length layer.values ≢ 0 = omega (arith, some) in rw (ne_eqb (length layer.values) 0 ne) refl)

pub first_none : (layer : Layer) (layers : List Layer) → length layer.values ≡ 0 → variables (layer ∷ layers) ≡ variables layers
first_none layer layers empty = rw empty refl

pub members_step : (strata : ℕ) (layers : List Layer) (i : ℕ) (layer : Layer) → i < length layers → layer ≡ get_or layers i layer →
    members_from strata i (drop i layers) ≡ map (member_of strata i layer) (range_with_len 0 (length layer.request.shape)) ++ members_from strata (i + 1) (drop (i + 1) layers)
members_step strata layers i layer l e =
    let next : suc i ≡ i + 1 = omega arith in
    ap (members_from strata i) (here_of layers i layer l e)
    ∙ ap (λ j. map (member_of strata i layer) (range_with_len 0 (length layer.request.shape)) ++ members_from strata j (drop (i + 1) layers)) next

-- the units by their parts
pub units_view : (layers : List Layer) (members : List Member) (firsts : List ℕ) (number many : ℕ) → members ≡ members_from (length layers) 0 layers → firsts ≡ map first_of layers → number ≡ length layers → many ≡ variables layers →
    record { members = members; firsts = firsts; rows = number + many } ≡ units_of layers
units_view layers members firsts number many members_are firsts_are number_is many_is = rw (members_are, firsts_are, number_is, many_is) refl
