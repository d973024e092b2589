-- The keys of a design: which there can be, which have to be there, and which don't go together.
use Rattle.std.specs.Prelude.{ℕ, List, [], ◌∷◌, ◌++◌, Bool, false, ◌&&◌, not, ◌==◌, Option, Some, None, is_some}
use Rattle.std.specs.Prelude.{option_map, option_and_then, if◌then◌else◌, codes, filter}
use Rattle.std.specs.Ordering.{nat_cmp, is_lt}
use Rattle.std.specs.Cmp.Lexicographic.{slice_cmp}
use Rattle.std.specs.Str.{bytes_eq}
use Rattle.std.specs.List.{list_any}
use Rattle.std.specs.Option.{option_map_or}
use Rattle.toml.specs.Data.{Members, no_members, member, get_member, as_table}
use Rattle.smp_design.specs.declared.method.Method.{Method}
use Rattle.smp_design.specs.declared.method.Needs.{Needs}
use Rattle.smp_design.specs.declared.method.Needs.TheVariants.{Nothing}
use Rattle.smp_design.specs.Values
use Rattle.smp_design.specs.Words.{row, is_balance, is_near, takes_second}

-- the version of a design
abbrev pub version_of : Members → Option ℕ
version_of t = option_and_then Values.version (get_member (codes "version") t)

-- the keys of a design of this version; `prob` came with version 2
abbrev pub known_keys : ℕ → List (List ℕ)
known_keys version =
    codes "version" ∷ codes "method" ∷ codes "id" ∷ codes "stratum" ∷ codes "size" ∷ codes "n" ∷ codes "sizes" ∷
    (if version == 1 then [] else codes "prob" ∷ [])
    ++ codes "order" ∷ codes "balance" ∷ codes "near" ∷ codes "second" ∷ []

-- the keys of a table
abbrev pub keys_of : Members → List (List ℕ)
keys_of no_members = []
keys_of (member key value rest) = key ∷ keys_of rest

-- the first of a key and another, by their bytes
abbrev pub earlier : List ℕ → Option (List ℕ) → List ℕ
earlier key None = key
earlier key (Some other) = if is_lt (slice_cmp nat_cmp other key) then other else key

-- the first of some keys, by their bytes
abbrev pub first_key : List (List ℕ) → Option (List ℕ)
first_key [] = None
first_key (key ∷ rest) = Some (earlier key (first_key rest))

-- a key is among these
abbrev pub is_among : List (List ℕ) → List ℕ → Bool
is_among known key = list_any (λ other. bytes_eq other key) known

-- the first key of a table, by its bytes, that isn't among these
abbrev pub first_unknown : List (List ℕ) → Members → Option (List ℕ)
first_unknown known t = first_key (filter (λ key. not (is_among known key)) (keys_of t))

-- the table `second` of a design, where `second` is a table
abbrev pub second_table : Members → Option Members
second_table t = option_and_then as_table (get_member (codes "second") t)

-- the first, or else the other
abbrev pub or_else : {A : Type 0} → Option A → Option A → Option A
or_else (Some x) other = Some x
or_else None other = other

-- the first unknown key of a design of this version; one of the table `second` comes after those of the design itself
unfoldable pub unknown_key : ℕ → Members → Option (List ℕ)
unknown_key version t = or_else (first_unknown (known_keys version) t)
    (option_map (λ key. codes "second." ++ key)
    (option_and_then (first_unknown (codes "psu" ∷ codes "method" ∷ codes "n" ∷ codes "size" ∷ [])) (second_table t)))

-- a key is there
abbrev pub has : List ℕ → Members → Bool
has key t = is_some (get_member key t)

-- a key isn't there
abbrev pub lacks : List ℕ → Members → Bool
lacks key t = not (has key t)

-- a table is there and lacks a key
abbrev pub table_lacks : List ℕ → Option Members → Bool
table_lacks key None = false
table_lacks key (Some t) = lacks key t

-- the columns of values that the method of a design of this version needs
abbrev pub needs : ℕ → Members → Needs
needs version t =
    option_map_or (λ m. (row m).needs) (option_and_then (Values.method version) (get_member (codes "method") t)) Nothing

-- what stands beside the first test that holds
abbrev pub first_where : {A : Type 0} → List (Bool × A) → Option A
first_where [] = None
first_where (case ∷ rest) = if case.0 then Some case.1 else first_where rest

-- the first key that a design of this version needs and that isn't there
unfoldable pub missing_key : ℕ → Members → Option (List ℕ)
missing_key version t = first_where (
    (lacks (codes "method") t, codes "method")
    ∷ (lacks (codes "id") t, codes "id")
    ∷ (lacks (codes "n") t && lacks (codes "sizes") t && lacks (codes "prob") t, codes "n")
    ∷ (is_balance (needs version t) && lacks (codes "balance") t, codes "balance")
    ∷ (is_near (needs version t) && lacks (codes "near") t, codes "near")
    ∷ (table_lacks (codes "psu") (second_table t), codes "second.psu")
    ∷ (table_lacks (codes "method") (second_table t), codes "second.method")
    ∷ (table_lacks (codes "n") (second_table t), codes "second.n")
    ∷ [])

-- the first two rival keys that are both there
unfoldable pub rival_keys : Members → Option (List ℕ × List ℕ)
rival_keys t = first_where (
    (has (codes "n") t && has (codes "sizes") t, (codes "n", codes "sizes"))
    ∷ (has (codes "n") t && has (codes "prob") t, (codes "n", codes "prob"))
    ∷ (has (codes "sizes") t && has (codes "prob") t, (codes "sizes", codes "prob"))
    ∷ (has (codes "size") t && has (codes "prob") t, (codes "size", codes "prob"))
    ∷ (has (codes "prob") t && has (codes "second") t, (codes "prob", codes "second"))
    ∷ [])

-- the first two keys of a design with this method that don't go together
unfoldable pub clash : Members → Method → Option (List ℕ × List ℕ)
clash t method = or_else (rival_keys t) (first_where (
    (has (codes "sizes") t && lacks (codes "stratum") t, (codes "sizes", codes "stratum"))
    ∷ (has (codes "order") t && not (row method).takes_order, (codes "order", codes "method"))
    ∷ (has (codes "balance") t && not (is_balance (row method).needs), (codes "balance", codes "method"))
    ∷ (has (codes "near") t && not (is_near (row method).needs), (codes "near", codes "method"))
    ∷ (has (codes "second") t && not (takes_second (row method)), (codes "second", codes "method"))
    ∷ []))
