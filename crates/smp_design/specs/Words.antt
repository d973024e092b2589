-- The table of the methods, and the words of a design for methods and orders.
use Rattle.std.specs.Prelude.{ℕ, ◌&&◌, not, List, [], ◌∷◌, Bool, true, false, Option, codes, find}
use Rattle.std.specs.Str.{bytes_eq}
use Rattle.smp_prob.specs.declared.orders.Order.{Order}
use Rattle.smp_prob.specs.declared.orders.Order.TheVariants.{Frame, Random}
use Rattle.smp_design.specs.declared.method.Method.{Method}
use Rattle.smp_design.specs.declared.method.Method.TheVariants as the
use Rattle.smp_design.specs.declared.method.Needs.{Needs}
use Rattle.smp_design.specs.declared.method.Needs.TheVariants.{Nothing, Balance, Near, Both}

-- what a design may say of a method
pub record Row : Type 0 where
  -- the method's word
  pub word : List ℕ
  -- the columns of values that it needs
  pub needs : Needs
  -- whether the design may have an order
  pub takes_order : Bool
  -- whether it draws a whole number of units alone, so that their probabilities have to add up to a whole number
  pub draws_whole : Bool
  -- whether it draws the units of all strata together, in one selection
  pub together : Bool
  -- the version of designs that it came with
  pub since : ℕ

-- the table of the methods, a row for each
unfoldable pub row : Method → Row
row the.Pivotal =
    record { word = codes "pivotal"; needs = Nothing; takes_order = true; draws_whole = false; together = false; since = 1 }
row the.Systematic =
    record { word = codes "systematic"; needs = Nothing; takes_order = true; draws_whole = false; together = false; since = 1 }
row the.MinimumSupport =
    record { word = codes "minimum_support"; needs = Nothing; takes_order = false; draws_whole = true; together = false; since = 1 }
row the.Brewer =
    record { word = codes "brewer"; needs = Nothing; takes_order = false; draws_whole = true; together = false; since = 1 }
row the.LocalPivotal =
    record { word = codes "local_pivotal"; needs = Near; takes_order = false; draws_whole = false; together = false; since = 1 }
row the.Cube =
    record { word = codes "cube"; needs = Balance; takes_order = false; draws_whole = false; together = false; since = 1 }
row the.Elimination =
    record { word = codes "elimination"; needs = Nothing; takes_order = false; draws_whole = true; together = false; since = 2 }
row the.LocalCube =
    record { word = codes "local_cube"; needs = Both; takes_order = false; draws_whole = false; together = false; since = 2 }
row the.StratifiedCube =
    record { word = codes "stratified_cube"; needs = Balance; takes_order = false; draws_whole = false; together = true; since = 2 }

-- all methods
abbrev pub methods : List Method
methods =
    the.Pivotal ∷ the.Systematic ∷ the.MinimumSupport ∷ the.Brewer ∷ the.LocalPivotal ∷ the.Cube ∷
    the.Elimination ∷ the.LocalCube ∷ the.StratifiedCube ∷ []

-- what a word means: the first of some things whose word it is
abbrev pub meaning : {A : Type 0} → (A → List ℕ) → List A → List ℕ → Option A
meaning word_of things word = find (λ thing. bytes_eq word (word_of thing)) things

-- the method that a word means
abbrev pub method_named : List ℕ → Option Method
method_named word = meaning (λ m. (row m).word) methods word

-- no columns
abbrev pub is_nothing : Needs → Bool
is_nothing Nothing = true
is_nothing other = false

-- whether columns of `balance` are needed, alone or beside those of `near`
abbrev pub is_balance : Needs → Bool
is_balance Balance = true
is_balance Both = true
is_balance other = false

-- whether columns of `near` are needed, alone or beside those of `balance`
abbrev pub is_near : Needs → Bool
is_near Near = true
is_near Both = true
is_near other = false

-- the most columns of `balance`
abbrev pub most_balance : ℕ
most_balance = 15

-- the most columns of `near`
abbrev pub most_near : ℕ
most_near = 4

-- whether the method needs columns of values
abbrev pub needs_columns : Method → Bool
needs_columns method = not (is_nothing (row method).needs)

-- whether a second stage may have the method: its units are rows, which have no values
abbrev pub in_second : Method → Bool
in_second method = is_nothing (row method).needs

-- whether the method balances the sample
abbrev pub balances : Method → Bool
balances method = is_balance (row method).needs

-- whether the method draws the units of all strata together, in one selection
abbrev pub draws_together : Method → Bool
draws_together method = (row method).together

-- whether a design may have a second stage: not where the units have to lie somewhere, and not where all strata are drawn together
abbrev pub takes_second : Row → Bool
takes_second r = not (is_near r.needs) && not r.together

-- the word of an order
abbrev pub order_word : Order → List ℕ
order_word Frame = codes "frame"
order_word Random = codes "random"

-- the order that a word means
abbrev pub order_of : List ℕ → Option Order
order_of word = meaning order_word (Frame ∷ Random ∷ []) word
