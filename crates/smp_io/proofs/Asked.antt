-- Names that are asked for.
use Rattle.std.proofs.Common.{◌≡◌, ℕ, List, [], ◌∷◌, ◌++◌, Bool, true, false, Option, Some, None, option_map, sym, ap, subst, ◌∙◌, append_assoc, append-nil, inl, inr, arith}
use Rattle.std.proofs.lemmas.List.Elements.{Contains-append_cases, Contains-append_left, Contains-append_right}
use Rattle.smp_io.specs.{Memory.{told_where}, Store.{Asks, AsksOnly}}

-- names that are told where they are all there, with one more
pub keeps_name : (all : Bool) (before now : List (List ℕ)) (name : List ℕ) → now ≡ before ++ name ∷ [] → Asks (name ∷ []) (told_where all before) (told_where all now)
keeps_name true before now name same = ap Some (sym same)
keeps_name false before now name same = tt

-- none
asks_none : (before : Option (List (List ℕ))) → Asks [] before before
asks_none None = tt
asks_none (Some names) = ap Some (append-nil names)

-- some names, and then others
asks_after : (xs ys : List (List ℕ)) (a b c : Option (List (List ℕ))) → Asks xs a b → Asks ys b c → Asks (xs ++ ys) a c
asks_after xs ys a b None first second = tt
asks_after xs ys a None (Some names) first second = absurd (cc)
asks_after xs ys None (Some middle) (Some names) first second = absurd (cc)
asks_after xs ys (Some before) (Some middle) (Some names) first second =
    ap Some (sym (append_assoc before xs ys)) ∙ ap (option_map (λ asked. asked ++ ys)) first ∙ second

-- One name was asked for, and so only this one.
pub only_one : (name : List ℕ) (before now : Option (List (List ℕ))) → Asks (name ∷ []) before now → AsksOnly (name ∷ []) before now
only_one name before now asks = record { names = name ∷ []; among = λ n h. h; came = asks }

-- None was asked for, and so only these.
pub only_none : (inputs : List (List ℕ)) (before now : Option (List (List ℕ))) → now ≡ before → AsksOnly inputs before now
only_none inputs before now same = record {
  names = [];
  among = λ name none. absurd (let within = none.1 in omega (arith, within));
  came = subst (λ told. Asks [] before told) (sym same) (asks_none before);
}

-- Some of these names, and then some of others.
pub only_both : (xs ys : List (List ℕ)) (a b c : Option (List (List ℕ))) → AsksOnly xs a b → AsksOnly ys b c → AsksOnly (xs ++ ys) a c
only_both xs ys a b c first second = record {
  names = first.names ++ second.names;
  among = λ name h. elim (Contains-append_cases first.names second.names name h) [
    | inl early ↦ Contains-append_left xs ys name (first.among name early)
    | inr late ↦ Contains-append_right xs ys name (second.among name late)
  ];
  came = asks_after first.names second.names a b c first.came second.came;
}

-- Some of the first ones.
pub only_first : (xs ys : List (List ℕ)) (a b : Option (List (List ℕ))) → AsksOnly xs a b → AsksOnly (xs ++ ys) a b
only_first xs ys a b first = record {
  names = first.names;
  among = λ name h. Contains-append_left xs ys name (first.among name h);
  came = first.came;
}
