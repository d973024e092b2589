-- What is told of the units that were drawn, in the numbers of the code.
use Rattle.std.proofs.Common.{◌≡◌, ◌≢◌, ℕ, suc, ◌+◌, ◌-◌, ◌*◌, ◌^◌, ◌<◌, ◌≤◌, Bool, true, false, cond, ℤ, pos, ◌+ℤ◌, List, [], drop, length, get_or, arith, sym, ap, ap₂, ◌∙◌, drop-cons, FitsSigned, SFits, w64}
use Rattle.std.specs.{Prelude.{nat_eq}, Int.RustNames.{unsigned_abs}}
use Rattle.std.proofs.{lemmas.Bool.{eq-eqb, ne_eqb}, lemmas.Int.{fits_signed_from_abs, ints}, lemmas.List.{drop_all, get_or-map}}
use Rattle.smp_frac.specs.declared.fractions.Frac.{Frac}
use Rattle.smp_kernel.specs.Vectors.{entry}
use Rattle.smp_kernel.proofs.{Fits.{abs_sum}, Limits.{entry_within}}
use Rattle.smp_twostage.specs.DrawnLines.{AreTold, Drawn, column_of, known_sum}

-- what is summed up of the first rows
pub record IsSum (asked : List Frac) (values : List ℤ) (row : ℕ) (total : ℤ) : Type 0 where
  pub so_far : total +ℤ known_sum (drop row asked) (drop row values) ≡ known_sum asked values
  pub small : unsigned_abs total ≤ row * 2 ^ 31

-- what a row adds
abbrev pub known_in : Frac → ℤ → ℤ
known_in p x = cond (nat_eq p.num 0) (pos 0) x

pub no_sum : (asked : List Frac) (values : List ℤ) → IsSum asked values 0 (pos 0)
no_sum asked values = record { so_far = omega (arith, ints); small = omega (arith, ints) }

known_small : (b : Bool) (x : ℤ) → unsigned_abs x ≤ 2 ^ 31 → unsigned_abs (cond b (pos 0) x) ≤ 2 ^ 31
known_small true x h = omega (arith, ints)
known_small false x h = h

pub next_sum : (asked : List Frac) (values : List ℤ) (none : Frac) (row : ℕ) (total : ℤ) → row < length values → length asked ≡ length values → unsigned_abs (get_or values row (pos 0)) ≤ 2 ^ 31
    → IsSum asked values row total → IsSum asked values (row + 1) (total +ℤ known_in (get_or asked row none) (get_or values row (pos 0)))
next_sum asked values none row total l same small is =
    let x : ℤ = known_in (get_or asked row none) (get_or values row (pos 0)) in
    let rest : ℤ = known_sum (drop (suc row) asked) (drop (suc row) values) in
    let first : known_sum (drop row asked) (drop row values) ≡ x +ℤ rest =
    ap₂ known_sum (drop-cons asked row none (omega (arith, l, same))) (drop-cons values row (pos 0) l) in
    let on : row + 1 ≡ suc row = omega arith in
    let more = abs_sum total x in
    let own : unsigned_abs x ≤ 2 ^ 31 = known_small (nat_eq (get_or asked row none).num 0) (get_or values row (pos 0)) small in
    let before = is.small in
    record {
      so_far = ap (λ n. (total +ℤ x) +ℤ known_sum (drop n asked) (drop n values)) on ∙ assoc total x rest ∙ ap (λ z. total +ℤ z) (sym first) ∙ is.so_far;
      small = omega (arith, more, own, before);
    }
  where
    assoc : (a b c : ℤ) → (a +ℤ b) +ℤ c ≡ a +ℤ (b +ℤ c)
    assoc a b c = omega (arith, ints)

pub whole_sum : (asked : List Frac) (values : List ℤ) (row : ℕ) (total : ℤ) → length values ≤ row → length asked ≡ length values → IsSum asked values row total → total ≡ known_sum asked values
whole_sum asked values row total past same is =
    none total ∙ ap₂ (λ ps xs. total +ℤ known_sum ps xs) (sym (drop_all row asked (omega (arith, past, same)))) (sym (drop_all row values past)) ∙ is.so_far
  where
    none : (a : ℤ) → a ≡ a +ℤ pos 0
    none a = omega (arith, ints)

-- a row of a probability adds its value, any other nothing
pub adds_value : (p : Frac) (x : ℤ) (num : ℕ) → num ≡ p.num → num ≢ 0 → x ≡ known_in p x
adds_value p x num is ne = ap (λ b. cond b (pos 0) x) (sym (ne_eqb p.num 0 (λ e. ne (is ∙ e))))

pub adds_none : (p : Frac) (total x : ℤ) (num : ℕ) → num ≡ p.num → num ≡ 0 → total ≡ total +ℤ known_in p x
adds_none p total x num is none =
    let same : total ≡ total +ℤ pos 0 = omega (arith, ints) in
    same ∙ ap (λ b. total +ℤ cond b (pos 0) x) (sym (eq-eqb p.num 0 (sym is ∙ none)))

-- it fits
pub sum_fits : (asked : List Frac) (values : List ℤ) (row : ℕ) (total x : ℤ) → row < length values → length values ≤ 200000 → unsigned_abs x ≤ 2 ^ 31
    → IsSum asked values row total → FitsSigned w64 (total +ℤ x) × SFits w64 x
sum_fits asked values row total x l few small is =
    let more = abs_sum total x in
    let before = is.small in (
      fits_signed_from_abs w64 (total +ℤ x) (let h : unsigned_abs (total +ℤ x) < 2 ^ 63 = omega (arith, more, before, few, l, small) in h),
      fits_signed_from_abs w64 x (let h : unsigned_abs x < 2 ^ 63 = omega (arith, small) in h),
    )

-- a value in a column
module _ (drawn : Drawn) (told : AreTold drawn) (column row : ℕ) (l : row < length drawn.values) where
  small_entry : unsigned_abs (entry (get_or drawn.values row []) column) ≤ 2 ^ 31
  small_entry =
      let small : unsigned_abs (entry (get_or drawn.values row []) column) ≤ 2 ^ 31 - 1 = entry_within (2 ^ 31 - 1) (get_or drawn.values row []) (told.small row [] l) column in
      omega (arith, small)

  pub entry_fits : SFits w64 (entry (get_or drawn.values row []) column)
  entry_fits =
      fits_signed_from_abs w64 (entry (get_or drawn.values row []) column)
      (let h : unsigned_abs (entry (get_or drawn.values row []) column) < 2 ^ 63 = omega (arith, small_entry) in h)

  pub small_in : (values : List ℤ) → values ≡ column_of drawn column → unsigned_abs (get_or values row (pos 0)) ≤ 2 ^ 31
  small_in values is =
      let at : get_or values row (pos 0) ≡ entry (get_or drawn.values row []) column =
      ap (λ xs. get_or xs row (pos 0)) is ∙ get_or-map (λ v. entry v column) drawn.values row [] (pos 0) l in
      omega (arith, small_entry, ap unsigned_abs at)
