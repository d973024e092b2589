-- Two designs side by side: the steps of the first, and then those of the second. The units of the second come after those of the first.
use Rattle.std.specs.Prelude.{◌+◌, ◌-◌, cond, nat_lt, ◌&&◌}
use Rattle.smp_split.specs.Parts.{moved}
use Rattle.smp_split.specs.Trees.{Tree}

pub record Both (A B : Type 0) : Type 0 where
  pub first : A
  pub second : B

abbrev pub with_first : {A B : Type 0} → B → A → Both A B
with_first t s = record { first = s; second = t }

abbrev pub with_second : {A B : Type 0} → A → B → Both A B
with_second s t = record { first = s; second = t }

abbrev pub beside : {A B : Type 0} → Tree A → Tree B → Tree (Both A B)
beside a b = record {
  units = a.units + b.units;
  done = λ s. a.done s.first && b.done s.second;
  kind = λ s. cond (a.done s.first) (b.kind s.second) (a.kind s.first);
  parts = λ s.
      cond (a.done s.first) (moved (with_second s.first) (b.parts s.second))
      (moved (with_first s.second) (a.parts s.first));
  rank = λ s. a.rank s.first + b.rank s.second;
  value = λ s k. cond (nat_lt k a.units) (a.value s.first k) (b.value s.second (k - a.units));
  selected = λ s k.
      cond (nat_lt k a.units) (a.selected s.first k) (b.selected s.second (k - a.units));
}

pub record BothBelong {A B : Type 0} (in_first : A → Type 0) (in_second : B → Type 0)
    (s : Both A B) : Type 0 where
  pub first : in_first s.first
  pub second : in_second s.second
