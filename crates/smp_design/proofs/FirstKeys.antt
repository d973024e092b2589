-- The keys of a table, and the first that passes a test.
use Rattle.std.proofs.Common.{filter, map, IfSome, Less, nat_cmp, ◌≡◌, ℕ, Bool, true, false, cond, List, [], ◌∷◌, Option, Some, None, option_map, find, String, string_bytes, refl, sym, ◌∙◌, ap, Bor, inl, inr}
use Rattle.std.specs.{Option.{option_copied}, List.{AllByRecursion, list_any}, Str.{bytes_eq}, List.Sorted.{IsStrictlySortedBy}}
use Rattle.std.specs.{Cmp.Lexicographic.{slice_cmp}, Ordering.{ordering_reverse}, String.{string_cmp}, declared.alloc.Global.{Global}}
use Rattle.std.proofs.{lemmas.Cmp.{nat_list_cmp_total}, lemmas.Bool.{cases_Bool}}
use Rattle.std.specs.Map.{keys_of}
use Rattle.toml.specs.{declared.value.Value.{Value}, View.{members_view}}
use Rattle.smp_design.specs.Keys as keys

found_by : (p : List ℕ → Bool) (key : String Global) (rest : Option (String Global)) (b : Bool) → option_map string_bytes (cond b (Some key) rest) ≡ cond b (Some (string_bytes key)) (option_map string_bytes rest)
found_by p key rest true = refl
found_by p key rest false = refl

-- the first key of a table that passes a test
found_key : (p : List ℕ → Bool) (es : List (String Global × Value)) → option_map string_bytes (find (λ k. p (string_bytes k)) (keys_of es)) ≡ find p (keys.keys_of (members_view es))
found_key p [] = refl
found_key p (e ∷ es) = found_by p e.0 (find (λ k. p (string_bytes k)) (keys_of es)) (p (string_bytes e.0)) ∙ ap (cond (p (string_bytes e.0)) (Some (string_bytes e.0))) (found_key p es)

text_of_ref : (r : Option (Bor (String Global))) → option_map (λ k. string_bytes k.now) r ≡ option_map string_bytes (option_copied r)
text_of_ref None = refl
text_of_ref (Some k) = refl

-- the keys of a table, as texts, ascend
texts_ascend : (k : String Global) (es : List (String Global × Value)) → AllByRecursion (λ other. string_cmp k other ≡ Less) (keys_of es) → AllByRecursion (λ other. slice_cmp nat_cmp (string_bytes k) other ≡ Less) (keys.keys_of (members_view es))
texts_ascend k [] h = tt
texts_ascend k (e ∷ es) h = (h.0, texts_ascend k es h.1)

pub keys_ascend : (es : List (String Global × Value)) → IsStrictlySortedBy string_cmp (keys_of es) → IsStrictlySortedBy (slice_cmp nat_cmp) (keys.keys_of (members_view es))
unfolding IsStrictlySortedBy
keys_ascend [] h = tt
keys_ascend (e ∷ es) h = (texts_ascend e.0 es h.0, keys_ascend es h.1)

-- what holds of every key holds of one that is found
found_holds : (P : List ℕ → Type 0) (p : List ℕ → Bool) (ks : List (List ℕ)) → AllByRecursion P ks → IfSome (find p ks) P
found_holds P p [] h = tt
found_holds P p (k ∷ ks) h = here (p k) h.0 (found_holds P p ks h.1)
  where
    here : (b : Bool) → P k → IfSome (find p ks) P → IfSome (cond b (Some k) (find p ks)) P
    here true this more = this
    here false this more = more

-- a key is earlier than all that it is less than
stays_first : (k : List ℕ) (o : Option (List ℕ)) → IfSome o (λ other. slice_cmp nat_cmp k other ≡ Less) → keys.earlier k o ≡ k
stays_first k None h = refl
stays_first k (Some other) h = rw (nat_list_cmp_total.antisymm other k ∙ ap ordering_reverse h)

-- where the keys ascend, the first that passes a test is the first that is found
first_is_found : (p : List ℕ → Bool) (ks : List (List ℕ)) → IsStrictlySortedBy (slice_cmp nat_cmp) ks → find p ks ≡ keys.first_key (filter p ks)
unfolding IsStrictlySortedBy
first_is_found p [] h = refl
first_is_found p (k ∷ ks) h = elim (cases_Bool (p k)) [
  | inl passes ↦ rw passes (ap Some (sym (stays_first k (find p ks) (found_holds (λ other. slice_cmp nat_cmp k other ≡ Less) p ks h.0)) ∙ ap (keys.earlier k) (first_is_found p ks h.1)))
  | inr fails ↦ rw fails (first_is_found p ks h.1)
]

pub first_of : (p : List ℕ → Bool) (es : List (String Global × Value)) (r : Option (Bor (String Global))) → option_copied r ≡ find (λ k. p (string_bytes k)) (keys_of es) → IsStrictlySortedBy string_cmp (keys_of es)
    → option_map (λ k. string_bytes k.now) r ≡ keys.first_key (filter p (keys.keys_of (members_view es)))
first_of p es r is ordered = text_of_ref r ∙ ap (option_map string_bytes) is ∙ found_key p es ∙ first_is_found p (keys.keys_of (members_view es)) (keys_ascend es ordered)

-- a text is among some references' texts where it is the text of one of them
pub among_refs : (refs : List (Bor (List ℕ))) (key : List ℕ) → list_any (λ other. bytes_eq other.now key) refs ≡ keys.is_among (map (λ other. other.now) refs) key
among_refs [] key = refl
among_refs (r ∷ refs) key = rw (among_refs refs key)
