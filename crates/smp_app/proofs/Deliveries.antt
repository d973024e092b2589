-- Writes that stop at a file.
use Rattle.std.proofs.Common.{◌≡◌, ◌≤◌, ◌<◌, ℕ, List, [], ◌∷◌, ◌++◌, length, take, drop, get_or, Option, option_map, Result, Ok, Err, OnErr, refl, sym, ap, ◌∙◌, subst, arith, suc, zero, inl, inr, ◌⊎◌}
use Rattle.std.specs.Prelude.{Contains}
use Rattle.smp_io.specs.{Counts.{Rose, NeverFalls}, Store.{Files, OthersStay}}
use Rattle.smp_app.specs.declared.outputs.OutputFile.{OutputFile}
use Rattle.smp_app.specs.Deliveries.{Outputs, StopsAtFile, StopsAt, AtFile, AtPut, AtPlace, FailsAtFile, SomeRose, names_of, with_files}
use Rattle.smp_plan.proofs.Steps.{rose_since}

pub on_err : {T E : Type 0} (result : Result T E) (P : Type 0) → P → OnErr result P
on_err (Ok x) P p = tt
on_err (Err e) P p = p

pub of_err : {T E : Type 0} (result : Result T E) (fault : E) (P : Type 0) → result ≡ Err fault → OnErr result P → P
of_err (Ok x) fault P is p = absurd (cc)
of_err (Err e) fault P is p = p

-- a list, at one of its places
split_at : (files : List OutputFile) (i : ℕ) (file : OutputFile) → i < length files → get_or files i file ≡ file → files ≡ take i files ++ file ∷ drop (suc i) files
split_at [] i file within is = absurd (omega arith)
split_at (f ∷ files) zero file within is = ap (λ (x : OutputFile). x ∷ files) is
split_at (f ∷ files) (suc i) file within is = ap (λ (rest : List OutputFile). f ∷ rest) (split_at files i file (omega arith) is)

-- a write of the file at a place, by its name
module _ (files : List OutputFile) (i : ℕ) (file : OutputFile) (within : i < length files) (is : file ≡ get_or files i file) (name : List ℕ) (named : name ≡ file.name) where
  pub stops_at : (told before now : Option Files) → before ≡ option_map (with_files (take i files)) told → OthersStay name before now → StopsAtFile files told now
  stops_at told before now written others = record {
    before = take i files;
    file = file;
    after = drop (suc i) files;
    split = split_at files i file within (sym is);
    others = subst (λ (held : Option Files). OthersStay file.name held now) written (subst (λ (n : List ℕ). OthersStay n before now) named others);
  }

  -- the same, since that write failed
  pub fails_at : (told before now : Option Files) → before ≡ option_map (with_files (take i files)) told → OthersStay name before now
      → (first counts counts_now : List ℕ → ℕ) → first file.name ≤ counts file.name → Rose (counts name) (counts_now name)
      → FailsAtFile files told now (λ n. Rose (first n) (counts_now n))
  unfolding stops_at
  fails_at told before now written others first counts counts_now le rose = record {
    stop = stops_at told before now written others;
    cause = rose_since _ _ _ le (subst (λ (n : List ℕ). Rose (counts n) (counts_now n)) named rose);
  }

-- ---- places

-- a file that is written stands among the names
contains_middle : (before after : List OutputFile) (file : OutputFile) → Contains (names_of (before ++ file ∷ after)) file.name
contains_middle [] after file = (0, omega arith, refl)
contains_middle (f ∷ before) after file = let rest = contains_middle before after file in (suc rest.0, omega (arith, rest.1), rest.2)

pub is_among : (outputs : List OutputFile) (files now : Option Files) (stop : StopsAtFile outputs files now) → Contains (names_of outputs) stop.file.name
is_among outputs files now stop = subst (λ all. Contains (names_of all) stop.file.name) (sym stop.split) (contains_middle stop.before stop.after stop.file)

module _ (outputs : Outputs) (files now : Option Files) (written written_now : Option (List ℕ)) (put : Type 0) where
  pub place_since : (first counts counts_now : List ℕ → ℕ) → NeverFalls first counts → (stops : StopsAt outputs files now written written_now)
      → AtPlace stops (λ name. Rose (counts name) (counts_now name)) put → AtPlace stops (λ name. Rose (first name) (counts_now name)) put
  place_since first counts counts_now le (AtFile stop same) rose = rose_since _ _ _ (le stop.file.name) rose
  place_since first counts counts_now le (AtPut all front) rose = rose

  -- what rose is one of the names, or the put
  pub place_rose : (counts counts_now : List ℕ → ℕ) (stops : StopsAt outputs files now written written_now)
      → AtPlace stops (λ name. Rose (counts name) (counts_now name)) put → SomeRose (names_of outputs.files) counts counts_now ⊎ put
  place_rose counts counts_now (AtFile stop same) rose = inl (record { name = stop.file.name; is_one = is_among outputs.files files now stop; rose = rose })
  place_rose counts counts_now (AtPut all front) rose = inr rose

-- outputs of one file
pub one_file :
    (name name' bytes bytes' put put' : List ℕ) (files : List OutputFile)
    → files ≡ record { name = name; bytes = bytes } ∷ [] → name ≡ name' → bytes ≡ bytes' → put ≡ put'
    → ◌≡◌ {A = Outputs} (record { files = files; put = put }) (record { files = record { name = name'; bytes = bytes' } ∷ []; put = put' })
one_file name name' bytes bytes' put put' files files_are name_is bytes_are put_is =
    ap (λ fs. record { files = fs; put = put }) files_are
    ∙ ap (λ n. record { files = record { name = n; bytes = bytes } ∷ []; put = put }) name_is
    ∙ ap (λ b. record { files = record { name = name'; bytes = b } ∷ []; put = put }) bytes_are
    ∙ ap (λ p. record { files = record { name = name'; bytes = bytes' } ∷ []; put = p }) put_is

-- outputs of no file
pub no_file : (outputs : Outputs) (put put' : List ℕ) → outputs ≡ record { files = []; put = put } → put ≡ put' → outputs ≡ record { files = []; put = put' }
no_file outputs put put' outputs_are put_is = outputs_are ∙ ap (λ p. record { files = []; put = p }) put_is
