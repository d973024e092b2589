-- What is written and put, and where that may stop.
use Rattle.std.specs.Prelude.{◌≡◌, ℕ, List, ◌∷◌, ◌++◌, map, fold, Contains, Option, option_map}
use Rattle.smp_io.specs.Counts.{Rose}
use Rattle.smp_io.specs.Sink.{AppendsFront}
use Rattle.smp_io.specs.Store.{Files, OthersStay, with_file}
use Rattle.smp_app.specs.declared.outputs.OutputFile.{OutputFile}
use Rattle.smp_app.specs.declared.outputs.Outputs as code

-- files in the order in which they are written, and what is put after them
pub record Outputs : Type 0 where
  pub files : List OutputFile
  pub put : List ℕ

abbrev pub outputs_view : code.Outputs → Outputs
outputs_view outputs = record { files = outputs.files.items; put = outputs.put }

-- the files with these contents under these names, and the others as they were
abbrev pub with_files : List OutputFile → Files → Files
with_files outputs fs = fold (λ held file. with_file file.name file.bytes held) fs outputs

-- The write of a file stopped the outputs. The files before it stand, of its own nothing is told, and the others are as they were.
pub record StopsAtFile (outputs : List OutputFile) (files files_now : Option Files) : Type 0 where
  pub before : List OutputFile
  pub file : OutputFile
  pub after : List OutputFile
  pub split : outputs ≡ before ++ file ∷ after
  pub others : OthersStay file.name (option_map (with_files before) files) files_now

-- Where the outputs stopped: at the write of a file, with nothing put, or at the put, with all files written and a front put.
pub data StopsAt (outputs : Outputs) (files files_now : Option Files) (written written_now : Option (List ℕ)) : Type 0 where
  AtFile : StopsAtFile outputs.files files files_now → written_now ≡ written → StopsAt outputs files files_now written written_now
  AtPut : files_now ≡ option_map (with_files outputs.files) files → AppendsFront outputs.put written written_now
      → StopsAt outputs files files_now written written_now

-- What holds of the place where the outputs stopped: of the name of the file whose write stopped them, or of the put.
abbrev pub AtPlace : {outputs : Outputs} {files files_now : Option Files} {written written_now : Option (List ℕ)}
    → StopsAt outputs files files_now written written_now → (List ℕ → Type 0) → Type 0 → Type 0
AtPlace (AtFile stop same) of_file of_put = of_file stop.file.name
AtPlace (AtPut all front) of_file of_put = of_put

-- The write of a file stopped, and this holds of its name.
pub record FailsAtFile (outputs : List OutputFile) (files files_now : Option Files) (of_file : List ℕ → Type 0) : Type 0 where
  pub stop : StopsAtFile outputs files files_now
  pub cause : of_file stop.file.name

-- The outputs stopped, and this holds of the place.
pub record FailsAt (outputs : Outputs) (files files_now : Option Files) (written written_now : Option (List ℕ))
    (of_file : List ℕ → Type 0) (of_put : Type 0) : Type 0 where
  pub stops : StopsAt outputs files files_now written written_now
  pub cause : AtPlace stops of_file of_put

-- the count of one of these names rose
pub record SomeRose (names : List (List ℕ)) (before now : List ℕ → ℕ) : Type 0 where
  pub name : List ℕ
  pub is_one : Contains names name
  pub rose : Rose (before name) (now name)

abbrev pub names_of : List OutputFile → List (List ℕ)
names_of outputs = map (λ file. file.name) outputs
