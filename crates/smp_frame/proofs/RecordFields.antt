-- The fields of a record, by their places, and as texts.
use Rattle.std.proofs.Common.{◌≡◌, ℕ, zero, suc, ◌+◌, ◌-◌, ◌<◌, true, false, List, [], ◌∷◌, Option, Some, None, length, take, drop, drop-cons, get_or-drop, refl, sym, ap, ◌∙◌, inl, inr, arith}
use Rattle.std.specs.{List.{list_all}, Str.{IsAscii, IsUtf8, is_utf8}}
use Rattle.std.proofs.{lemmas.Bool.{cases_Bool}, lemmas.Str.{IsUtf8-nil, IsUtf8-from_ascii, IsUtf8-from_is_utf8, is_utf8-from_IsUtf8}}
use Rattle.smp_frac.proofs.Ascii.{both}
use Rattle.csv.specs.Records.{cut_from, field_at}
use Rattle.smp_frame.specs.Records.{field}

abbrev or_empty : Option (List ℕ) → List ℕ
or_empty None = []
or_empty (Some text) = text

field_by_place : (row : List (List ℕ)) (place : ℕ) → field row place ≡ or_empty (field_at row place)
unfolding field_at
field_by_place [] place = refl
field_by_place (text ∷ row) zero = refl
field_by_place (text ∷ row) (suc place) = field_by_place row place

pub field_there : (row : List (List ℕ)) (place : ℕ) (text : List ℕ) → Some text ≡ field_at row place → text ≡ field row place
field_there row place text is = ap or_empty is ∙ sym (field_by_place row place)

pub field_beyond : (row : List (List ℕ)) (place : ℕ) → None ≡ field_at row place → [] ≡ field row place
field_beyond row place is = ap or_empty is ∙ sym (field_by_place row place)

-- a field of a record of text is text
pub field_is_text : (row : List (List ℕ)) (place : ℕ) → list_all is_utf8 row ≡ true → IsUtf8 (field row place)
field_is_text [] place all = IsUtf8-nil
field_is_text (text ∷ row) zero all = IsUtf8-from_is_utf8 text (both (is_utf8 text) (list_all is_utf8 row) all).0
field_is_text (text ∷ row) (suc place) all = field_is_text row place (both (is_utf8 text) (list_all is_utf8 row) all).1

-- what is text, and what isn't
pub is_text : (text : List ℕ) → IsUtf8 text → true ≡ is_utf8 text
is_text text h = sym (is_utf8-from_IsUtf8 text h)

-- ASCII is text
pub ascii_is_text : (text : List ℕ) → IsAscii text → true ≡ is_utf8 text
ascii_is_text text h = is_text text (IsUtf8-from_ascii text h)

ascii_front : (n : ℕ) (text : List ℕ) → IsAscii text → IsAscii (take n text)
ascii_front zero text h i = omega arith
ascii_front (suc n) [] h i = omega arith
ascii_front (suc n) (byte ∷ text) h zero = h 0
ascii_front (suc n) (byte ∷ text) h (suc i) = ascii_front n text (λ j. h (suc j)) i

-- so each field of a record of ASCII is text
pub ascii_fields : (start : ℕ) (ends bytes : List ℕ) → IsAscii bytes → true ≡ list_all is_utf8 (cut_from start ends bytes)
unfolding cut_from
ascii_fields start [] bytes h = refl
ascii_fields start (end ∷ ends) bytes h =
    let rest : IsAscii (drop start bytes) = λ i. rw (get_or-drop start bytes i 0) (h (start + i)) in
    rw (← ascii_is_text (take (end - start) (drop start bytes)) (ascii_front (end - start) (drop start bytes) rest)) (ascii_fields end ends bytes h)

pub not_text : (text : List ℕ) → ¬ (IsUtf8 text) → false ≡ is_utf8 text
not_text text h = elim (cases_Bool (is_utf8 text)) [ inl is ↦ absurd (h (IsUtf8-from_is_utf8 text is)) | inr not ↦ sym not ]

-- the fields from a place on are the one at that place and those behind it
pub drop_field : (row : List (List ℕ)) (place : ℕ) → place < length row → drop place row ≡ field row place ∷ drop (place + 1) row
drop_field row place within =
    let next : suc place ≡ place + 1 = omega arith in
    drop-cons row place [] within ∙ ap (λ n. field row place ∷ drop n row) next
