-- The words of some command lines, computed.
use Rattle.std.proofs.Common.{◌≡◌, ℕ, List, [], ◌∷◌, Option, Some, None, option_map, refl, codes}
use Rattle.clap.specs.Words.{first_of, all_of}
use Rattle.clap.proofs.OnLiterals.{clap_on_literals}
use Rattle.smp_words.specs.{declared.command.Command.TheVariants.{Replay, Migrate}, CommandLine.{words_of}}
use Rattle.smp_words.specs.Words.{command_given, command_of}

abbrev Seen : Type 0
Seen = Option (List ℕ) × Option (List (List ℕ))

pub quick : option_map {U = Seen} (λ rows. (first_of (codes "command") rows, all_of (codes "rest") rows)) (words_of (codes "sampler" ∷ codes "quick" ∷ codes "F" ∷ codes "2" ∷ codes "T" ∷ codes "O" ∷ []))
    ≡ Some (Some (codes "quick"), Some (codes "F" ∷ codes "2" ∷ codes "T" ∷ codes "O" ∷ []))
unfolding clap_on_literals words_of
quick = refl

pub no_words : option_map {U = Seen} (λ rows. (first_of (codes "command") rows, all_of (codes "rest") rows)) (words_of (codes "sampler" ∷ [])) ≡ Some (None, None)
unfolding clap_on_literals words_of
no_words = refl

pub twice : words_of (codes "sampler" ∷ codes "check" ∷ codes "--design" ∷ codes "a" ∷ codes "--design" ∷ codes "b" ∷ []) ≡ None
unfolding clap_on_literals words_of
twice = refl

pub dash : words_of (codes "sampler" ∷ codes "quick" ∷ codes "-f" ∷ []) ≡ None
unfolding clap_on_literals words_of
dash = refl

pub by_equals : option_map {U = Seen} (λ rows. (first_of (codes "design") rows, all_of (codes "rest") rows)) (words_of (codes "sampler" ∷ codes "check" ∷ codes "--design=a" ∷ [])) ≡ Some (Some (codes "a"), None)
unfolding clap_on_literals words_of
by_equals = refl

-- ---- what they ask for

-- the words of `replay` with its four files, and further ones
abbrev replay_with : List (List ℕ) → List (List ℕ)
replay_with more =
    codes "sampler" ∷ codes "replay" ∷ codes "--design" ∷ codes "d" ∷ codes "--frame" ∷ codes "f" ∷ codes "--log" ∷ codes "l" ∷ codes "--sample" ∷ codes "s" ∷ more

pub whole : command_of (replay_with []) ≡ Some (Replay (record { design = codes "d"; frame = codes "f"; log = codes "l"; sample = codes "s"; stratum = None }))
unfolding clap_on_literals words_of command_given command_of
whole = refl

pub of_stratum : command_of (replay_with (codes "--stratum" ∷ codes "12" ∷ [])) ≡ Some (Replay (record { design = codes "d"; frame = codes "f"; log = codes "l"; sample = codes "s"; stratum = Some 12 }))
unfolding clap_on_literals words_of command_given command_of
of_stratum = refl

pub of_stratum_0 : command_of (replay_with (codes "--stratum" ∷ codes "0" ∷ [])) ≡ None
unfolding clap_on_literals words_of command_given command_of
of_stratum_0 = refl

pub to_another : command_of (replay_with (codes "--to" ∷ codes "m" ∷ [])) ≡ None
unfolding clap_on_literals words_of command_given command_of
to_another = refl

-- the words of `migrate` with its four files, and further ones
abbrev migrate_with : List (List ℕ) → List (List ℕ)
migrate_with more =
    codes "sampler" ∷ codes "migrate" ∷ codes "--design" ∷ codes "d" ∷ codes "--frame" ∷ codes "f" ∷ codes "--log" ∷ codes "l" ∷ codes "--to" ∷ codes "m" ∷ more

pub migrated : command_of (migrate_with []) ≡ Some (Migrate (record { design = codes "d"; frame = codes "f"; log = codes "l"; to = codes "m" }))
unfolding clap_on_literals words_of command_given command_of
migrated = refl

pub by_sample : command_of (migrate_with (codes "--sample" ∷ codes "s" ∷ [])) ≡ None
unfolding clap_on_literals words_of command_given command_of
by_sample = refl
