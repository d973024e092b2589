-- Bytes that are a document, and bytes that are none.
use Rattle.std.proofs.{Common.{◌≡◌, ℕ, List, Some, None, Ok, Err, inl, inr}, lemmas.Bool.{cases_Bool}}
use Rattle.std.specs.Str.{IsUtf8, is_utf8}
use Rattle.std.proofs.lemmas.Str.{IsUtf8-from_is_utf8, is_utf8-from_IsUtf8}
use Rattle.toml.specs.{Data.{Members}, Parse.{parse_document}}
use Rattle.smp_design.specs.{Designs.{document}, declared.fault.DesignFault.TheVariants.{Syntax}}

pub is_document : (bytes : List ℕ) (t : Members) → IsUtf8 bytes → parse_document bytes ≡ Some t → document bytes ≡ Ok t
unfolding document
is_document bytes t text parsed = rw (is_utf8-from_IsUtf8 bytes text, parsed)

pub no_document : (bytes : List ℕ) → (IsUtf8 bytes → parse_document bytes ≡ None) → document bytes ≡ Err Syntax
unfolding document
no_document bytes refused = elim (cases_Bool (is_utf8 bytes)) [
  | inl text ↦ rw (text, refused (IsUtf8-from_is_utf8 bytes text))
  | inr no_text ↦ rw no_text
]
