-- What is known of a command that the words give: its files have names of their own, and its numbers lie in their ranges.
use Rattle.std.proofs.Common.{◌≡◌, ℕ, ◌≤◌, Bool, true, false, List, [], ◌∷◌, Option, Some, None, refl, nat_le, ◌&&◌, ◌^◌, codes}
use Rattle.std.specs.{Prelude.{if◌then◌else◌, option_map, IfSome}, Str.{bytes_eq}}
use Rattle.std.proofs.lemmas.Bool.{and_parts, leb-true}
use Rattle.smp_frac.specs.{Decimals.{number_below}, Limits.{most_rows}}
use Rattle.smp_words.specs.{declared.command.DesignArguments.{DesignArguments}, declared.command.Command.TheVariants.{Probs, Check, Joint}}
use Rattle.smp_words.specs.declared.command.Chance.TheVariants.{Seed}
use Rattle.smp_words.specs.Words.{Given, LogFiles, IsAsked, ◌>>=◌, when, in_range, number_from, all_distinct, is_empty, has_only, options_for, seed_from, have_own_names, least_demo_units, most_demo_units, stratum_from, draw_command, migrate_command, replay_command, quick_words, demo_words, design_arguments, log_files, own_log_files, draw_by, draw, replay, migrate, by_name, command_given}

-- ---- what holds of something that may not be there

module _ {A : Type 0} (P : A → Type 0) where
  when_some : (test : Bool) (o : Option A) → (test ≡ true → IfSome o P) → IfSome (when test o) P
  when_some true o h = h refl
  when_some false o h = tt

  either_some : (test : Bool) (a b : Option A) → IfSome a P → IfSome b P → IfSome (if test then a else b) P
  either_some true a b p q = p
  either_some false a b p q = q

  some_after : {B : Type 0} (Q : B → Type 0) (o : Option B) (f : B → Option A) → IfSome o Q → ((x : B) → Q x → IfSome (f x) P) → IfSome (o >>= f) P
  some_after Q (Some x) f q h = h x q
  some_after Q None f q h = tt

  some_then : {B : Type 0} (o : Option B) (f : B → Option A) → ((x : B) → IfSome (f x) P) → IfSome (o >>= f) P
  some_then (Some x) f h = h x
  some_then None f h = tt

  some_map : {B : Type 0} (f : B → A) (o : Option B) → IfSome o (λ x. P (f x)) → IfSome (option_map f o) P
  some_map f (Some x) h = h
  some_map f None h = tt

if_some : {A : Type 0} (P Q : A → Type 0) (o : Option A) → IfSome o P → ((x : A) → P x → Q x) → IfSome o Q
if_some P Q (Some x) p h = h x p
if_some P Q None p h = tt

-- ---- numbers in a range

abbrev Between : ℕ → ℕ → ℕ → Type 0
Between least most n = (least ≤ n) × (n ≤ most)

ranged : (least most n : ℕ) → IfSome (in_range least most n) (Between least most)
ranged least most n =
    when_some (Between least most) (nat_le least n && nat_le n most) (Some n) (λ e. (leb-true least n (and_parts _ _ e).0, leb-true n most (and_parts _ _ e).1))

number_ranged : (least most : ℕ) (text : List ℕ) → IfSome (number_from least most text) (Between least most)
number_ranged least most text = some_then (Between least most) (number_below (2 ^ 128) text) (in_range least most) (ranged least most)

-- ---- the commands

quick_asked : (words : List (List ℕ)) → IfSome (quick_words words) IsAsked
quick_asked [] = tt
quick_asked (frame ∷ []) = tt
quick_asked (frame ∷ n ∷ []) = tt
quick_asked (frame ∷ n ∷ tape ∷ []) = tt
quick_asked (frame ∷ n ∷ tape ∷ out ∷ []) =
    when_some IsAsked (all_distinct (frame ∷ tape ∷ out ∷ [])) _ (λ apart.
    some_after IsAsked (Between 1 most_rows) (number_from 1 most_rows n) _ (number_ranged 1 most_rows n) (λ size within. record { distinct = apart; sized = within }))
quick_asked (frame ∷ n ∷ tape ∷ out ∷ fifth ∷ more) = tt

demo_asked : (words : List (List ℕ)) → IfSome (demo_words words) IsAsked
demo_asked [] = tt
demo_asked (n ∷ []) = tt
demo_asked (n ∷ seed ∷ []) =
    some_after IsAsked (Between least_demo_units most_demo_units) (number_from least_demo_units most_demo_units n) _ (number_ranged least_demo_units most_demo_units n) (λ units within.
    some_then IsAsked (number_from 0 18446744073709551615 seed) _ (λ start. record { distinct = refl; sized = within }))
demo_asked (n ∷ seed ∷ third ∷ more) = tt

draw_asked : (files : LogFiles) (tape seed : Option (List ℕ)) → IfSome (draw_by files tape seed) IsAsked
draw_asked files (Some tape) None = when_some IsAsked (all_distinct (files.design ∷ files.frame ∷ tape ∷ files.log ∷ files.out ∷ [])) _ (λ apart. record { distinct = apart; sized = tt })
draw_asked files None (Some seed) =
    when_some IsAsked (have_own_names files) (seed_from seed >>= λ key. Some (draw_command files (Seed key))) (λ apart.
    some_then IsAsked (seed_from seed) _ (λ key. record { distinct = apart; sized = tt }))
draw_asked files None None = tt
draw_asked files (Some tape) (Some seed) = tt

abbrev WithinStrata : Option ℕ → Type 0
WithinStrata stratum = IfSome stratum (Between 1 most_rows)

stratum_ranged : (number : Option (List ℕ)) → IfSome (stratum_from number) WithinStrata
stratum_ranged (Some number) = some_map WithinStrata Some (number_from 1 most_rows number) (number_ranged 1 most_rows number)
stratum_ranged None = tt

-- no two of the files have the same name
abbrev HaveOwnNames : LogFiles → Type 0
HaveOwnNames files = have_own_names files ≡ true

own_names : (g : Given) (last : Option (List ℕ)) → IfSome (own_log_files g last) HaveOwnNames
own_names g last =
    some_then HaveOwnNames (log_files g last) (λ files. when (have_own_names files) (Some files))
    (λ files. when_some HaveOwnNames (have_own_names files) (Some files) (λ apart. apart))

replay_asked : (g : Given) → IfSome (replay g) IsAsked
replay_asked g =
    some_after IsAsked HaveOwnNames (own_log_files g g.sample) (λ files. option_map (replay_command files) (stratum_from g.stratum)) (own_names g g.sample) (λ files apart.
    some_map IsAsked (replay_command files) (stratum_from g.stratum)
    (if_some WithinStrata (λ stratum. IsAsked (replay_command files stratum)) (stratum_from g.stratum) (stratum_ranged g.stratum) (λ stratum within. record { distinct = apart; sized = within })))

migrate_asked : (g : Given) → IfSome (migrate g) IsAsked
migrate_asked g =
    some_map IsAsked migrate_command (own_log_files g g.to)
    (if_some HaveOwnNames (λ files. IsAsked (migrate_command files)) (own_log_files g g.to) (own_names g g.to) (λ files apart. record { distinct = apart; sized = tt }))

-- the two files have names of their own
abbrev Apart : DesignArguments → Type 0
Apart arguments = all_distinct (arguments.design ∷ arguments.frame ∷ []) ≡ true

design_apart : (g : Given) → IfSome (design_arguments g) Apart
design_apart g =
    when_some Apart (is_empty g.rest)
    (g.design >>= λ design. g.frame >>= λ frame. when (all_distinct (design ∷ frame ∷ [])) (Some (record { design = design; frame = frame })))
    (λ only. some_then Apart g.design (λ design. g.frame >>= λ frame. when (all_distinct (design ∷ frame ∷ [])) (Some (record { design = design; frame = frame })))
    (λ design. some_then Apart g.frame (λ frame. when (all_distinct (design ∷ frame ∷ [])) (Some (record { design = design; frame = frame })))
    (λ frame. when_some Apart (all_distinct (design ∷ frame ∷ [])) (Some (record { design = design; frame = frame })) (λ apart. apart))))

probs_asked : (g : Given) → IfSome (design_arguments g) (λ arguments. IsAsked (Probs arguments))
probs_asked g = if_some Apart _ (design_arguments g) (design_apart g) (λ arguments apart. record { distinct = apart; sized = tt })

check_asked : (g : Given) → IfSome (design_arguments g) (λ arguments. IsAsked (Check arguments))
check_asked g = if_some Apart _ (design_arguments g) (design_apart g) (λ arguments apart. record { distinct = apart; sized = tt })

joint_asked : (g : Given) → IfSome (design_arguments g) (λ arguments. IsAsked (Joint arguments))
joint_asked g = if_some Apart _ (design_arguments g) (design_apart g) (λ arguments apart. record { distinct = apart; sized = tt })

named_asked : (name : List ℕ) (g : Given) → IfSome (by_name name g) IsAsked
named_asked name g =
    either_some IsAsked (bytes_eq name (codes "quick")) (quick_words g.rest) _ (quick_asked g.rest)
    (either_some IsAsked (bytes_eq name (codes "draw")) (draw g) _ (some_then IsAsked (log_files g g.sample) (λ files. draw_by files g.tape g.seed) (λ files. draw_asked files g.tape g.seed))
    (either_some IsAsked (bytes_eq name (codes "replay")) (replay g) _ (replay_asked g)
    (either_some IsAsked (bytes_eq name (codes "migrate")) (migrate g) _ (migrate_asked g)
    (either_some IsAsked (bytes_eq name (codes "probs")) (option_map Probs (design_arguments g)) _ (some_map IsAsked Probs (design_arguments g) (probs_asked g))
    (either_some IsAsked (bytes_eq name (codes "check")) (option_map Check (design_arguments g)) _ (some_map IsAsked Check (design_arguments g) (check_asked g))
    (either_some IsAsked (bytes_eq name (codes "joint")) (option_map Joint (design_arguments g)) _ (some_map IsAsked Joint (design_arguments g) (joint_asked g))
    (either_some IsAsked (bytes_eq name (codes "demo")) (demo_words g.rest) None (demo_asked g.rest)
    tt)))))))

pub given_asked : (g : Given) → IfSome (command_given g) IsAsked
unfolding command_given
given_asked g = some_then IsAsked g.command _ (λ name. when_some IsAsked (has_only (options_for name) g) (by_name name g) (λ taken. named_asked name g))
