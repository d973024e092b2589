-- How the words of a key go on.
use Rattle.std.proofs.{Common.{◌≡◌, ℕ, zero, suc, ◌+◌, ◌%◌, ◌^◌, List, arith, refl, ap, ◌∙◌}, Math.Nat.{mod-add-mod}}
use Rattle.rand_chacha.specs.ChaCha.{word_at}
use Rattle.smp_tape.specs.{Keys.{Place, key_word}, SieveSources.{key_stream}, Streams.{ahead, behind}}

abbrev at_place : List ℕ → ℕ → Place
at_place key next = record { key = key; next = next }

behind_start : (key : List ℕ) (place : ℕ) → behind key_stream place (at_place key 0) ≡ at_place key (place % 2 ^ 68)
behind_start key zero = refl
behind_start key (suc place) =
    let one : place + 1 ≡ suc place = omega arith in
    ap key_stream.next (behind_start key place) ∙ ap (at_place key) (mod-add-mod place (2 ^ 68) 1 ∙ ap (λ (n : ℕ). n % 2 ^ 68) one)

pub words_from_start : (key : List ℕ) (place : ℕ) → ahead key_stream (record { key = key; next = 0 }) place ≡ key_word key place
words_from_start key place =
    let first : ahead key_stream (at_place key 0) place ≡ key_word key (place % 2 ^ 68) = ap (λ at. key_word at.key at.next) (behind_start key place) in
    let again : (place % 2 ^ 68) % 2 ^ 68 ≡ place % 2 ^ 68 = omega arith in
    first ∙ ap (λ n. word_at 10 key 0 n) again
