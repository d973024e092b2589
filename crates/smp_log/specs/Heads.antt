-- The first lines of a log. They name a design and a frame by their digests (SHA-256, FIPS 180-4).
use Rattle.std.specs.Prelude.{◌≡◌, ℕ, List, [], ◌∷◌, ◌++◌, codes}
use Rattle.hex.specs.Hex.{encode_lower}
use Rattle.sha2.specs.Sha256.{sha256}
use Rattle.smp_log.specs.Lines.{Lacks, lines_text}

-- a word and the digest of some bytes, in lower case hexadecimal digits
abbrev pub digest_line : List ℕ → List ℕ → List ℕ
digest_line word bytes = word ++ encode_lower (sha256 bytes)

-- the first three lines of a log for these bytes of a design and of a frame
abbrev pub head_of : List ℕ → List ℕ → List ℕ
head_of design frame =
    lines_text (codes "sampler-log 1" ∷ digest_line (codes "design ") design
    ∷ digest_line (codes "frame ") frame ∷ [])

-- what a head is: three lines, of the version, of a design and of a frame
pub record IsHead (bytes : List ℕ) : Type 0 where
  pub design : List ℕ
  pub frame : List ℕ
  pub text : bytes ≡ lines_text (codes "sampler-log 1" ∷ design ∷ frame ∷ [])
  pub design_digest : List ℕ
  pub design_is : design ≡ codes "design " ++ design_digest
  pub frame_digest : List ℕ
  pub frame_is : frame ≡ codes "frame " ++ frame_digest
  pub design_line : Lacks 10 design
  pub frame_line : Lacks 10 frame
