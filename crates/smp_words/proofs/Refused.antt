-- A refusal has a fault.
use Rattle.std.proofs.Common.{◌≡◌, ◌⊎◌, ℕ, List, [], ◌∷◌, Some, None, inl, inr, refl, ap, sym, ◌∙◌}
use Rattle.clap.specs.{Words.{Row, Kinds, IsAmong, fault_of, matches_of}, declared.error.kind.ErrorKind.{ErrorKind}}
use Rattle.smp_words.specs.CommandLine.{sampler_app, without_fault, words_of}

among : (k : ErrorKind) (kinds : Kinds) (rows : List Row) → IsAmong k kinds → None ≡ without_fault kinds rows
among k [] rows h = absurd h
among k (x ∷ xs) rows h = refl

pub refused : (words : List (List ℕ)) (k memory : ErrorKind) → (k ≡ memory → ⊥) → (k ≡ memory) ⊎ IsAmong k (fault_of sampler_app words) → None ≡ words_of words
unfolding words_of
refused words k memory other why = elim why [
  | inl is ↦ absurd (other is)
  | inr fault ↦ among k (fault_of sampler_app words) (matches_of sampler_app words) fault
]

pub matched : (words : List (List ℕ)) (rows : List Row) → fault_of sampler_app words ≡ [] → rows ≡ matches_of sampler_app words → Some rows ≡ words_of words
unfolding words_of
matched words rows clean are = ap Some are ∙ ap (λ kinds. without_fault kinds (matches_of sampler_app words)) (sym clean)
