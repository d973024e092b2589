-- Bytes that each pass a test which only ASCII characters pass.
use Rattle.std.proofs.{Common.{◌≡◌, ℕ, ◌<◌, Bool, true, false, ◌&&◌, List, [], ◌∷◌, refl, arith, zero, suc}, lemmas.Str.{IsUtf8-from_ascii}}
use Rattle.std.specs.{List.{list_all}, Str.{IsUtf8, IsAscii}}

pub both : (a b : Bool) → (a && b) ≡ true → (a ≡ true) × (b ≡ true)
both true b h = (refl, h)
both false b h = absurd (cc h)

IsAscii-from_test : (test : ℕ → Bool) → ((b : ℕ) → test b ≡ true → b < 128) → (bs : List ℕ) → list_all test bs ≡ true → IsAscii bs
IsAscii-from_test test ascii [] h i = omega arith
IsAscii-from_test test ascii (b ∷ bs) h zero = ascii b (both (test b) (list_all test bs) h).0
IsAscii-from_test test ascii (b ∷ bs) h (suc i) = IsAscii-from_test test ascii bs (both (test b) (list_all test bs) h).1 i

-- such bytes are text
pub IsUtf8-from_test : (test : ℕ → Bool) → ((b : ℕ) → test b ≡ true → b < 128) → (bs : List ℕ) → list_all test bs ≡ true → IsUtf8 bs
IsUtf8-from_test test ascii bs h = IsUtf8-from_ascii bs (IsAscii-from_test test ascii bs h)
