-- Every frame that is read has few units, with small sizes and values, probabilities, and a value for each column of these that is asked for.
use Rattle.std.proofs.Common.{◌≡◌, ℕ, zero, suc, ◌+◌, ◌<◌, ◌≤◌, ℤ, pos, neg_ℤ, nat_abs, Bool, true, false, cond, not, ◌&&◌, ◌==◌, nat_lt, nat_le, List, [], ◌∷◌, length, Option, Some, None, Result, Ok, Err, IfOk, All, refl, ap, subst, ◌∙◌, arith}
use Rattle.std.specs.{List.{list_all, list_any}, Str.{bytes_eq, is_utf8}, Str.Parse.{digits_value}}
use Rattle.std.proofs.{lemmas.Bool.{ltb-true, leb-true, and_parts}, lemmas.List.{get_or-map}, lemmas.List.Elements.{All-cons, All-map}}
use Rattle.smp_frac.specs.{Decimals.{is_decimal}, Fractions.{over, whole}, Limits.{most_rows, number_limit}, LowestTerms.{lowest_terms}}
use Rattle.smp_frac.specs.{Faults.{◌>>=◌, guard}, Memory.{Reads}, declared.fractions.Frac.{Frac}}
use Rattle.smp_frame.specs.{Records.{field, records_of}, Layouts.{column_in, asked_in, columns_in, layout_of}, Faults.{is_memory}}
use Rattle.smp_frame.specs.Fields.{size_of, size_in, sides_of, prob_of, prob_in, is_minus, without_minus, field_value, values_in}
use Rattle.smp_frame.specs.{Frames.{unit_of, units_from, units_of, frame_of}, declared.columns.Columns.{Columns}}
use Rattle.smp_frame.specs.{Bounds.{AreSmall, HaveBalance, HavePoints, IsFrame, IsProbability}, declared.layout.Column.{Column}}
use Rattle.smp_frame.specs.{declared.layout.Layout.{Layout}, declared.fault.FrameFault.{FrameFault}}
use Rattle.smp_frame.specs.declared.frame.Unit as unit
use Rattle.smp_frame.specs.declared.fault.FrameFault.TheVariants.{RowLength, NotText, RepeatedId}
use Rattle.smp_frac.proofs.LowestTerms.{lowest_terms-at_most_one, lowest_terms-den}

-- a reading that has no fault, and the reading before it
record GoesOn {A B : Type 0} (next : A → Result B FrameFault) (reading : Result A FrameFault) (y : B) : Type 0 where
  value : A
  is : reading ≡ Ok value
  gives : next value ≡ Ok y

goes_on : {A B : Type 0} (next : A → Result B FrameFault) (reading : Result A FrameFault) (y : B) → (reading >>= next) ≡ Ok y → GoesOn next reading y
goes_on next (Ok x) y h = record { value = x; is = refl; gives = h }
goes_on next (Err fault) y h = absurd (cc h)

record Passes {B : Type 0} (test : Bool) (next : Result B FrameFault) (y : B) : Type 0 where
  holds : test ≡ true
  gives : next ≡ Ok y

passes : {B : Type 0} (test : Bool) (fault : FrameFault) (next : Result B FrameFault) (y : B) → (guard test fault >>= λ _. next) ≡ Ok y → Passes test next y
passes true fault next y h = record { holds = refl; gives = h }
passes false fault next y h = absurd (cc h)

ok_is : {A : Type 0} (x y : A) → ◌≡◌ {A = Result A FrameFault} (Ok x) (Ok y) → x ≡ y
ok_is x y h = cc h

terms_are_probability : (n d : ℕ) → 0 < d → n ≤ d → d < number_limit → IsProbability (lowest_terms (over n d))
terms_are_probability n d some le small =
    record { at_most_one = lowest_terms-at_most_one n d le; small = omega (arith, small, lowest_terms-den n d some) }

size_is_small : (number : ℕ) (name text : List ℕ) (size : ℕ) → size_of number name text ≡ Ok size → size < number_limit
unfolding size_of
size_is_small number name text size h =
    let digits = passes (is_decimal text) _ _ size h in
    let small = passes (nat_lt (digits_value 10 text) number_limit) _ _ size digits.gives in
    subst (λ (n : ℕ). n < number_limit) (ok_is _ _ small.gives) (ltb-true (digits_value 10 text) number_limit small.holds)

asked_size_is_small : (number : ℕ) (row : List (List ℕ)) (column : Option Column) (size : ℕ) → size_in number row column ≡ Ok size → size < number_limit
asked_size_is_small number row None size h = subst (λ (n : ℕ). n < number_limit) (ok_is _ _ h) (omega arith)
asked_size_is_small number row (Some column) size h = size_is_small number column.name (field row column.place) size h

prob_is_probability : (number : ℕ) (name text : List ℕ) (prob : Frac) → prob_of number name text ≡ Ok prob → IsProbability prob
unfolding prob_of
prob_is_probability number name text prob h =
    let num : ℕ = digits_value 10 (sides_of text).0 in
    let den : ℕ = digits_value 10 (sides_of text).1 in
    let digits = passes (is_decimal (sides_of text).0 && is_decimal (sides_of text).1) _ _ prob h in
    let small = passes (nat_lt num number_limit && nat_lt den number_limit) _ _ prob digits.gives in
    let within = passes (nat_lt 0 den && nat_le num den) _ _ prob small.gives in
    let below = (and_parts _ _ small.holds).1 in
    let ordered = and_parts _ _ within.holds in
    subst IsProbability (ok_is _ _ within.gives)
    (terms_are_probability num den (ltb-true 0 den ordered.0) (leb-true num den ordered.1) (ltb-true den number_limit below))

asked_prob_is_probability : (number : ℕ) (row : List (List ℕ)) (column : Option Column) (prob : Frac) → prob_in number row column ≡ Ok prob → IsProbability prob
asked_prob_is_probability number row None prob h = subst IsProbability (ok_is _ _ h) (terms_are_probability 1 1 (omega arith) (omega arith) (omega arith))
asked_prob_is_probability number row (Some column) prob h = prob_is_probability number column.name (field row column.place) prob h

abs_neg : (n : ℕ) → nat_abs (neg_ℤ (pos n)) ≡ n
abs_neg zero = refl
abs_neg (suc n) = refl

either_sign : (minus : Bool) (n : ℕ) → n < number_limit → nat_abs (cond minus (neg_ℤ (pos n)) (pos n)) < number_limit
either_sign true n h = rw (abs_neg n) h
either_sign false n h = h

value_is_near : (number : ℕ) (name text : List ℕ) (value : ℤ) → field_value number name text ≡ Ok value → nat_abs value < number_limit
value_is_near number name text value h =
    let size = goes_on _ (size_of number name (without_minus text)) value h in
    subst (λ (z : ℤ). nat_abs z < number_limit) (ok_is _ _ size.gives) (either_sign (is_minus text) size.value (size_is_small number name (without_minus text) size.value size.is))

values_are_near : (number : ℕ) (row : List (List ℕ)) (columns : List Column) (values : List ℤ) → values_in number row columns ≡ Ok values → AreSmall values
values_are_near number row [] values h = subst AreSmall (ok_is _ _ h) (λ k d within. absurd (omega arith))
values_are_near number row (column ∷ columns) values h =
    let first = goes_on _ (field_value number column.name (field row column.place)) values h in
    let more = goes_on _ (values_in number row columns) values first.gives in
    subst AreSmall (ok_is _ _ more.gives) (All-cons (λ (z : ℤ). nat_abs z < number_limit) first.value more.value (value_is_near number column.name (field row column.place) first.value first.is) (values_are_near number row columns more.value more.is))

one_more : (m n : ℕ) → m ≡ n → suc m ≡ suc n
one_more m n h = ap suc h

values_are_counted : (number : ℕ) (row : List (List ℕ)) (columns : List Column) (values : List ℤ) → values_in number row columns ≡ Ok values → length values ≡ length columns
values_are_counted number row [] values h = subst (λ (vs : List ℤ). length vs ≡ 0) (ok_is _ _ h) refl
values_are_counted number row (column ∷ columns) values h =
    let first = goes_on _ (field_value number column.name (field row column.place)) values h in
    let more = goes_on _ (values_in number row columns) values first.gives in
    subst (λ (vs : List ℤ). length vs ≡ suc (length columns)) (ok_is _ _ more.gives)
    (one_more (length more.value) (length columns) (values_are_counted number row columns more.value more.is))

columns_are_counted : (header names : List (List ℕ)) (columns : List Column) → columns_in header names ≡ Ok columns → length columns ≡ length names
columns_are_counted header [] columns h = subst (λ (cs : List Column). length cs ≡ 0) (ok_is _ _ h) refl
columns_are_counted header (name ∷ names) columns h =
    let first = goes_on _ (column_in header name) columns h in
    let more = goes_on _ (columns_in header names) columns first.gives in
    subst (λ (cs : List Column). length cs ≡ suc (length names)) (ok_is _ _ more.gives)
    (one_more (length more.value) (length names) (columns_are_counted header names more.value more.is))

-- a layout with so many columns as are asked for
record HasColumns (columns : Columns) (layout : Layout) : Type 0 where
  balance : length layout.balance ≡ length columns.balance
  near : length layout.near ≡ length columns.near

layout_is_counted : (columns : Columns) (header : List (List ℕ)) (layout : Layout) → layout_of columns header ≡ Ok layout → HasColumns columns layout
unfolding layout_of
layout_is_counted columns header layout h =
    let id = goes_on _ (column_in header columns.id) layout h in
    let stratum = goes_on _ (asked_in header columns.stratum) layout id.gives in
    let psu = goes_on _ (asked_in header columns.psu) layout stratum.gives in
    let size = goes_on _ (asked_in header columns.size) layout psu.gives in
    let second = goes_on _ (asked_in header columns.second_size) layout size.gives in
    let prob = goes_on _ (asked_in header columns.prob) layout second.gives in
    let balance = goes_on _ (columns_in header columns.balance) layout prob.gives in
    let near = goes_on _ (columns_in header columns.near) layout balance.gives in
    subst (HasColumns columns) (ok_is _ _ near.gives) (record {
      balance = columns_are_counted header columns.balance balance.value balance.is;
      near = columns_are_counted header columns.near near.value near.is;
    })

-- a unit with small sizes, a probability, and a value in each column of a layout, which is small too
record IsSmall (layout : Layout) (u : unit.Unit) : Type 0 where
  size : u.size < number_limit
  second : u.second_size < number_limit
  prob : IsProbability u.prob
  balance : AreSmall u.balance
  point : AreSmall u.point
  balance_counted : length u.balance ≡ length layout.balance
  point_counted : length u.point ≡ length layout.near

unit_is_small : (layout : Layout) (number : ℕ) (ids row : List (List ℕ)) (u : unit.Unit) → unit_of layout number ids row ≡ Ok u → IsSmall layout u
unfolding unit_of
unit_is_small layout number ids row u h =
    let width = passes (length row == layout.width) (RowLength number) _ u h in
    let text = passes (list_all is_utf8 row) (NotText number) _ u width.gives in
    let new = passes (not (list_any (bytes_eq (field row layout.id.place)) ids)) (RepeatedId number) _ u text.gives in
    let size = goes_on _ (size_in number row layout.size) u new.gives in
    let second = goes_on _ (size_in number row layout.second_size) u size.gives in
    let prob = goes_on _ (prob_in number row layout.prob) u second.gives in
    let balance = goes_on _ (values_in number row layout.balance) u prob.gives in
    let point = goes_on _ (values_in number row layout.near) u balance.gives in
    subst (IsSmall layout) (ok_is _ _ point.gives) (record {
      size = asked_size_is_small number row layout.size size.value size.is;
      second = asked_size_is_small number row layout.second_size second.value second.is;
      prob = asked_prob_is_probability number row layout.prob prob.value prob.is;
      balance = values_are_near number row layout.balance balance.value balance.is;
      point = values_are_near number row layout.near point.value point.is;
      balance_counted = values_are_counted number row layout.balance balance.value balance.is;
      point_counted = values_are_counted number row layout.near point.value point.is;
    })

-- units behind a row with this number
record AreUnits (layout : Layout) (number : ℕ) (units : List unit.Unit) : Type 0 where
  few : length units + number ≤ most_rows + 1
  small : All (IsSmall layout) units

units_are_small : (layout : Layout) (number : ℕ) (ids : List (List ℕ)) (rows : List (List (List ℕ))) (units : List unit.Unit) → number ≤ most_rows + 1 → units_from layout number ids rows ≡ Ok units → AreUnits layout number units
units_are_small layout number ids [] units within h = subst (AreUnits layout number) (ok_is _ _ h) (record { few = omega (arith, within); small = λ k d beyond. absurd (omega arith) })
units_are_small layout number ids (row ∷ rows) units within h =
    let limit = passes (nat_le number most_rows) _ _ units h in
    let here : number ≤ most_rows = leb-true number most_rows limit.holds in
    let first = goes_on _ (unit_of layout number ids row) units limit.gives in
    let more = goes_on _ (units_from layout (number + 1) _ rows) units first.gives in
    let rest = units_are_small layout (number + 1) _ rows more.value (omega (arith, here)) more.is in
    subst (AreUnits layout number) (ok_is _ _ more.gives) (record {
      few = omega (arith, rest.few);
      small = All-cons (IsSmall layout) first.value more.value (unit_is_small layout number ids row first.value first.is) rest.small;
    })

no_unit : unit.Unit
no_unit = record { id = []; stratum = []; psu = []; size = 0; second_size = 0; prob = lowest_terms (whole 0); balance = []; point = [] }

-- a frame, with a value for each column that is asked for
record IsCounted (columns : Columns) (units : List unit.Unit) : Type 0 where
  frame : IsFrame units
  balance : HaveBalance (length columns.balance) units
  points : HavePoints (length columns.near) units

small_units_are_frame : (columns : Columns) (layout : Layout) (units : List unit.Unit) → HasColumns columns layout → 0 < length units → AreUnits layout 1 units → IsCounted columns units
small_units_are_frame columns layout units has some are =
    let few = are.few in
    record {
      frame = record {
        some = omega arith;
        few = omega arith;
        small = λ i within. rw (get_or-map (λ (u : unit.Unit). u.size) units i no_unit 0 within) (are.small i no_unit within).size;
        second_small = λ i within. rw (get_or-map (λ (u : unit.Unit). u.second_size) units i no_unit 0 within) (are.small i no_unit within).second;
        probabilities = All-map IsProbability (λ (u : unit.Unit). u.prob) units (λ k d within. (are.small k d within).prob);
        balance = λ k d within. (are.small k d within).balance;
        points = λ k d within. (are.small k d within).point;
      };
      balance = λ k d within. (are.small k d within).balance_counted ∙ has.balance;
      points = λ k d within. (are.small k d within).point_counted ∙ has.near;
    }

units_are_frame : (columns : Columns) (rows : List (List (List ℕ))) (units : List unit.Unit) → units_of columns rows ≡ Ok units → IsCounted columns units
units_are_frame columns [] units h = absurd (cc h)
units_are_frame columns (header ∷ rows) units h =
    let text = passes (list_all is_utf8 header) _ _ units h in
    let layout = goes_on _ (layout_of columns header) units text.gives in
    let found = goes_on _ (units_from layout.value 1 [] rows) units layout.gives in
    let some = passes (nat_lt 0 (length found.value)) _ _ units found.gives in
    subst (IsCounted columns) (ok_is _ _ some.gives)
    (small_units_are_frame columns layout.value found.value (layout_is_counted columns header layout.value layout.is) (ltb-true 0 (length found.value) some.holds)
    (units_are_small layout.value 1 [] rows found.value (omega arith) found.is))

frame_is : (columns : Columns) (bytes : List ℕ) (units : List unit.Unit) → frame_of columns bytes ≡ Ok units → IsCounted columns units
unfolding frame_of
frame_is columns bytes units h = units_are_frame columns (records_of bytes) units h

pub read_bounds : (columns : Columns) (bytes : List ℕ) (result : Result (List unit.Unit) FrameFault) → Reads is_memory result (frame_of columns bytes) → IfOk result IsFrame
read_bounds columns bytes (Ok units) h = (frame_is columns bytes units h).frame
read_bounds columns bytes (Err fault) h = tt

pub read_balance : (columns : Columns) (bytes : List ℕ) (result : Result (List unit.Unit) FrameFault) → Reads is_memory result (frame_of columns bytes) → IfOk result (HaveBalance (length columns.balance))
read_balance columns bytes (Ok units) h = (frame_is columns bytes units h).balance
read_balance columns bytes (Err fault) h = tt

pub read_points : (columns : Columns) (bytes : List ℕ) (result : Result (List unit.Unit) FrameFault) → Reads is_memory result (frame_of columns bytes) → IfOk result (HavePoints (length columns.near))
read_points columns bytes (Ok units) h = (frame_is columns bytes units h).points
read_points columns bytes (Err fault) h = tt
