-- What `head_of` gives is a head.
use Rattle.std.proofs.Common.{◌≡◌, ℕ, zero, suc, ◌/◌, ◌%◌, ◌==◌, false, List, [], ◌∷◌, get_or, refl, codes}
use Rattle.hex.specs.Hex.{encode_with, encode_lower, lower_digits}
use Rattle.sha2.specs.Sha256.{sha256}
use Rattle.smp_log.specs.{Lines.{Lacks, AreLines}, Heads.{IsHead, digest_line, head_of}}
use Rattle.smp_log.proofs.Texts.{Lacks-cons, cons-Lacks, Lacks-append}

at_lacks : (t : List ℕ) (i : ℕ) → Lacks 10 t → (get_or t i 0 == 10) ≡ false
at_lacks [] i h = refl
at_lacks (b ∷ t) zero h = (Lacks-cons 10 b t h).0
at_lacks (b ∷ t) (suc i) h = at_lacks t i (Lacks-cons 10 b t h).1

encoded_lacks : (t bytes : List ℕ) → Lacks 10 t → Lacks 10 (encode_with t bytes)
unfolding encode_with
encoded_lacks t [] h = refl
encoded_lacks t (b ∷ bytes) h =
    cons-Lacks 10 (get_or t (b / 16) 0) (get_or t (b % 16) 0 ∷ encode_with t bytes) (at_lacks t (b / 16) h)
    (cons-Lacks 10 (get_or t (b % 16) 0) (encode_with t bytes) (at_lacks t (b % 16) h) (encoded_lacks t bytes h))

digest_line_lacks : (word bytes : List ℕ) → Lacks 10 word → Lacks 10 (digest_line word bytes)
digest_line_lacks word bytes h = Lacks-append 10 word (encode_lower (sha256 bytes)) h (encoded_lacks lower_digits (sha256 bytes) refl)

pub head_of-is : (design frame : List ℕ) → IsHead (head_of design frame)
head_of-is design frame = record {
  design = digest_line (codes "design ") design;
  frame = digest_line (codes "frame ") frame;
  text = refl;
  design_digest = encode_lower (sha256 design);
  design_is = refl;
  frame_digest = encode_lower (sha256 frame);
  frame_is = refl;
  design_line = digest_line_lacks (codes "design ") design refl;
  frame_line = digest_line_lacks (codes "frame ") frame refl;
}

-- the lines of a head
abbrev pub head_lines : {head : List ℕ} → IsHead head → List (List ℕ)
head_lines h = codes "sampler-log 1" ∷ h.design ∷ h.frame ∷ []

pub head_lines_are : {head : List ℕ} (h : IsHead head) → AreLines (head_lines h)
head_lines_are h = (refl, (h.design_line, (h.frame_line, tt)))
