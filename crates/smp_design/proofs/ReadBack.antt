-- A word means a thing exactly where it is that thing's word.
use Rattle.std.proofs.{Common.{◌≡◌, ◌↔◌, ℕ, List, [], ◌∷◌, Option, Some, bytes_eq, refl, ap, ◌∙◌, inl, inr}, lemmas.Bool.{cases_Bool}}
use Rattle.std.proofs.lemmas.Slice.Eq.{bytes_eq-Decides}
use Rattle.smp_prob.specs.{declared.orders.Order.{Order}, declared.orders.Order.TheVariants.{Frame, Random}}
use Rattle.smp_design.specs.{declared.method.Method.{Method}, declared.method.Method.TheVariants.{Pivotal}}
use Rattle.smp_design.specs.Words.{row, methods, meaning, method_named, order_word, order_of}

-- what a word means has that word
its_word : {A : Type 0} (word_of : A → List ℕ) (things : List A) (word : List ℕ) (x : A) → meaning word_of things word ≡ Some x → word ≡ word_of x
its_word word_of [] word x h = absurd (cc)
its_word {A} word_of (thing ∷ things) word x h = elim (cases_Bool (bytes_eq word (word_of thing))) [
  | inl same ↦ (let is : ◌≡◌ {A = Option A} (Some thing) (Some x) = (rw same at h) in let thing_is : thing ≡ x = cc in (bytes_eq-Decides word (word_of thing)).0 same ∙ ap word_of thing_is)
  | inr other ↦ its_word word_of things word x (rw other at h)
]

-- where each thing's word means it, a word means a thing exactly where it is its word
read_back : {A : Type 0} (word_of : A → List ℕ) (things : List A) → ((x : A) → meaning word_of things (word_of x) ≡ Some x)
    → (word : List ℕ) (x : A) → (meaning word_of things word ≡ Some x) ↔ (word ≡ word_of x)
read_back word_of things each word x = (its_word word_of things word x, λ is. ap (meaning word_of things) is ∙ each x)

-- each method's word means it: the clauses are checked method by method
each_method : (m : Method) → method_named (row m).word ≡ Some m
unfolding row
each_method Pivotal = refl
each_method other = refl

each_order : (order : Order) → order_of (order_word order) ≡ Some order
each_order Frame = refl
each_order other = refl

pub method_read_back : (word : List ℕ) (m : Method) → (method_named word ≡ Some m) ↔ (word ≡ (row m).word)
method_read_back = read_back (λ m. (row m).word) methods each_method

pub order_read_back : (word : List ℕ) (order : Order) → (order_of word ≡ Some order) ↔ (word ≡ order_word order)
order_read_back = read_back order_word (Frame ∷ Random ∷ []) each_order
