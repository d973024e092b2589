use Rattle.std.proofs.Common.{◌+◌, ◌≤◌, ◌<◌, length, rules, arith}
use Rattle.std.specs.Prelude.{vec_items}
use Rattle.smp_io.proofs.Limits.{all_within, more_left}
use Rattle.smp_io.proofs.folder_store.read_within.Goals as goal

pub returns-then-len-limit-clause-all : goal.returns-then-len-limit-clause-all
returns-then-len-limit-clause-all g c =
    let bytes = vec_items c.read_to_end.new.buf in
    let more : c.args.limit < length bytes = search rules in
    more_left c.args.limit (c.args.limit + 1) bytes (omega arith) (g.F.Read.remaining c.args.reader) more
    (rw (c.take-reader.ensures.limit, c.take-reader.ensures.inner, c.new-bytes.ensures.items) at c.in_ok-read_to_end.ensures.bytes)

pub returns-clause-all : goal.returns-clause-all
returns-clause-all g c =
    let within : length c.from_vec.result ≤ c.args.limit = search rules in
    all_within c.args.limit (c.args.limit + 1) c.from_vec.result (omega arith) (g.F.Read.remaining c.args.reader) within
    (rw (c.take-reader.ensures.limit, c.take-reader.ensures.inner, c.new-bytes.ensures.items, ← c.from_vec.ensures) at c.in_ok-read_to_end.ensures.bytes)
