-- What a read of a record leaves of the records that a reader has left.
use Rattle.std.proofs.Common.{◌≡◌, ℕ, zero, suc, ◌+◌, ◌<◌, Bool, true, false, List, [], ◌∷◌, Option, Some, None, length, refl, ◌∙◌, ap, arith, Bor, inl}
use Rattle.std.specs.Prelude.{IsSome}
use Rattle.csv.specs.{Machine.{Read, next_record, ends_at_end}, declared.parser.State.{State}, declared.reader.Reader.{Reader}}
use Rattle.csv.specs.Reading.{NextIs, ReadRecord, ReadsNext, default_config, is_flexible, pending_of, records_from, records_next, strip_bom, took_first}
use Rattle.csv.specs.declared.parser.State.TheVariants as st
use Rattle.smp_frame.specs.{Kept.Readers.{IsReading, Takes, bytes_left, records_in, rows_left}, Records.{records_of, without_marks}}
use Rattle.smp_frame.proofs.{Machine.{takes_some}, Marks.{none_left}}

-- a text has no more records than bytes
same_records : (n m : ℕ) (s : State) (xs : List ℕ) → ends_at_end s ≡ false → length xs < n → length xs < m → records_from default_config n s xs ≡ records_from default_config m s xs
unfolding records_from
same_records zero m s xs between few enough = absurd (omega arith)
same_records (suc n) zero s xs between few enough = absurd (omega arith)
same_records (suc n) (suc m) s xs between few enough = by_read (λ p is. let t = takes_some default_config s xs p between is in same_records n m p.1 p.2 t.0 (omega (arith, t.1)) (omega (arith, t.1))) (next_record default_config s [] [] xs) refl
  where
    by_read : ((p : Read) → next_record default_config s [] [] xs ≡ Some p → records_from default_config n p.1 p.2 ≡ records_from default_config m p.1 p.2) → (o : Option Read) → next_record default_config s [] [] xs ≡ o → records_next (records_from default_config n) o ≡ records_next (records_from default_config m) o
    by_read same None is = refl
    by_read same (Some p) is = ap (λ (more : List (List (List ℕ))). p.0 ∷ more) (same p is)

from_next : (s : State) (xs : List ℕ) → records_from default_config (length xs + 1) s xs ≡ records_next (records_from default_config (length xs)) (next_record default_config s [] [] xs)
unfolding records_from
from_next s xs = let e : length xs + 1 ≡ suc (length xs) = omega arith in rw e refl

-- the records, by the next one
more : (s : State) (xs : List ℕ) (p : Read) → ends_at_end s ≡ false → next_record default_config s [] [] xs ≡ Some p → records_in s (Some xs) ≡ p.0 ∷ records_in p.1 (Some p.2)
more s xs p between is =
    let t = takes_some default_config s xs p between is in
    from_next s xs ∙ ap (records_next (records_from default_config (length xs))) is
    ∙ ap (λ (more : List (List (List ℕ))). p.0 ∷ more) (same_records (length xs) (length p.2 + 1) p.1 p.2 t.0 (omega (arith, t.1)) (omega arith))

none : (s : State) (xs : List ℕ) → next_record default_config s [] [] xs ≡ None → records_in s (Some xs) ≡ []
none s xs is = from_next s xs ∙ ap (records_next (records_from default_config (length xs))) is

-- what a read did, by whether there was a record
record Did (found : Bool) (fields : List (List ℕ)) (old : List (List (List ℕ))) (s : State) (after : Option (List ℕ)) : Type 0 where
  takes : Takes found fields old (records_in s after)
  known : IsSome after
  between : found ≡ true → ends_at_end s ≡ false

by_next : (s s2 : State) (xs z : List ℕ) (found : Bool) (fields : List (List ℕ)) (o : Option Read) → ends_at_end s ≡ false → next_record default_config s [] [] xs ≡ o → NextIs o found fields s2 z → Did found fields (records_in s (Some xs)) s2 (Some z)
by_next s s2 xs z found fields None between is h = rw h (record { takes = none s xs is; known = refl; between = λ e. absurd (cc e) })
by_next s s2 xs z found fields (Some p) between is h =
    rw (h.0, h.1, h.2, h.3) (record { takes = more s xs p between is; known = refl; between = λ e. (takes_some default_config s xs p between is).0 })

by_after : (s s2 : State) (xs : List ℕ) (after : Option (List ℕ)) (found : Bool) (fields : List (List ℕ)) → ends_at_end s ≡ false → ReadsNext default_config s (Some xs) after found fields s2 → Did found fields (records_in s (Some xs)) s2 after
by_after s s2 xs None found fields between h = absurd h
by_after s s2 xs (Some z) found fields between h = by_next s s2 xs z found fields (next_record default_config s [] [] xs) between refl h

abbrev slice_bytes : Bor (List ℕ) → Option (List ℕ)
slice_bytes slice = Some slice.now

did_from : (a b : Reader (Bor (List ℕ))) (found : Bool) (fields : List (List ℕ)) (bytes : Option (List ℕ)) → IsSome bytes → bytes_left a ≡ bytes → IsReading a → ReadRecord slice_bytes a b found fields → Did found fields (records_in a.state bytes) b.state (bytes_left b)
did_from a b found fields None some is reading r = absurd (cc some)
did_from a b found fields (Some xs) some is reading r =
    let after : bytes_left b ≡ pending_of (slice_bytes b.rdr) b = rw r.1 refl in
    rw after (by_after a.state b.state xs (pending_of (slice_bytes b.rdr) b) found fields reading.between (rw (reading.config, is) at r.0))

did : (a b : Reader (Bor (List ℕ))) (found : Bool) (fields : List (List ℕ)) → IsReading a → ReadRecord slice_bytes a b found fields → Did found fields (rows_left a) b.state (bytes_left b)
unfolding rows_left
did a b found fields reading r = did_from a b found fields (bytes_left a) reading.bytes refl reading r

-- a read took the next record, or there was none
pub took : (a b : Reader (Bor (List ℕ))) (found : Bool) (fields : List (List ℕ)) → IsReading a → ReadRecord slice_bytes a b found fields → Takes found fields (rows_left a) (rows_left b)
unfolding rows_left
took a b found fields reading r = (did a b found fields reading r).takes

-- and after a record the reader reads on
pub reads_on : (a b : Reader (Bor (List ℕ))) (found : Bool) (fields : List (List ℕ)) → IsReading a → ReadRecord slice_bytes a b found fields → took_first b ≡ true → is_flexible b ≡ is_flexible a → found ≡ true → IsReading b
reads_on a b found fields reading r first kept is =
    let d = did a b found fields reading r in
    record { trim = r.3 ∙ reading.trim; ready = inl first; flexible = kept ∙ reading.flexible; config = r.2 ∙ reading.config; bytes = d.known; between = d.between is }

-- a new reader has all records of its text left
pub fresh : (a : Reader (Bor (List ℕ))) (bytes text : List ℕ) → text ≡ without_marks bytes → a.state ≡ st.StartRecord → bytes_left a ≡ Some (strip_bom text) → rows_left a ≡ records_of bytes
unfolding rows_left
fresh a bytes text is state left = rw (state, left, is, none_left bytes) refl
