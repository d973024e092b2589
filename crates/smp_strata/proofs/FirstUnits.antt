-- What is known of the first stage unit of some rows.
use Rattle.std.proofs.Common.{◌≡◌, ℕ, ◌<◌, ℤ, false, List, [], length, map, get_or, Option, Some, None, All, refl, arith}
use Rattle.std.specs.Prelude.{IfSome, is_some, option_map}
use Rattle.std.proofs.{lemmas.List.{length-map}, lemmas.List.Elements.{All-get_or, All-map}}
use Rattle.smp_frame.specs.Bounds.{AreSmall, HavePoints, IsFrame}
use Rattle.smp_design.specs.declared.design.Design.{Design}
use Rattle.smp_design.specs.declared.design.Second as second
use Rattle.smp_frame.specs.declared.frame.Unit as unit
use Rattle.smp_strata.specs.{Bounds.{DrawsWholeOver}, Clusters.{first_row}, Draws.{SecondDraws}, Plans.{second_request, second_sizes}}
use Rattle.smp_strata.specs.{Rows.{is_large, second_size_at}, Kept.Built.{IsBuiltFirst, IsSizedRequest, SecondAsks}, Kept.Layouts.{AreRows}}
use Rattle.smp_strata.proofs.Columns.{small_values}

module _ (units : List unit.Unit) (rows : List ℕ) where
  abbrev Made : Option second.Second → Type 0
  Made second = IfSome second (λ s. IfSome (second_request second units rows) (IsSizedRequest (second_sizes units rows) s.n))

  long : length (second_sizes units rows) ≡ length rows
  long = length-map rows (second_size_at units)

  over : (second : Option second.Second) → Made second → IfSome (second_request second units rows) (DrawsWholeOver (length rows))
  over None made = tt
  over (Some s) made = rw (← long) made.over

  staged : (second : Option second.Second) → is_some (second_request second units rows) ≡ is_some (option_map (λ s. s.method) second)
  staged None = refl
  staged (Some s) = refl

  asks : (second : Option second.Second) → Made second → SecondAsks second (second_sizes units rows) (second_request second units rows)
  asks None made = tt
  asks (Some s) made = made.asks

  draws : (second : Option second.Second) → Made second → SecondDraws second (length rows) (second_request second units rows)
  draws None made = tt
  draws (Some s) made = rw (← long) made.draws

-- its point is that of its first row
module _ (units : List unit.Unit) (row : ℕ) (within : row < length units) where
  point_holds : (P : List ℤ → Type 0) → All (λ u. P u.point) units → P (get_or (map (λ u. u.point) units) row [])
  point_holds P all = All-get_or P (map (λ u. u.point) units) row [] (omega (arith, within, length-map units (λ (u : unit.Unit). u.point))) (All-map P (λ (u : unit.Unit). u.point) units all)

pub built_first : (design : Design) (units : List unit.Unit) (rows : List ℕ) → IsFrame units → HavePoints (length design.columns.near) units → AreRows (length units) rows → is_large units (length design.columns.balance) rows ≡ false
    → IfSome design.second (λ s. IfSome (second_request design.second units rows) (IsSizedRequest (second_sizes units rows) s.n)) → IsBuiltFirst design units rows
built_first design units rows frame lie are small made =
    let within : first_row rows < length units = are.within 0 0 (omega (arith, are.some)) in
    record {
      first = record {
        some = are.some;
        balance = small_values units (length design.columns.balance) rows small;
        point = point_holds units (first_row rows) within AreSmall frame.points;
        over = over units rows design.second made;
        staged = staged units rows design.second;
      };
      point = point_holds units (first_row rows) within (λ (v : List ℤ). length v ≡ length design.columns.near) lie;
      asks = asks units rows design.second made;
      draws = draws units rows design.second made;
    }
