use Rattle.std.proofs.{Common.{◌<◌, [], map, length, ap, arith}, lemmas.List.{get_or-map, length-map}}
use Rattle.smp_twostage.proofs.drawn.value_in.Goals as goal

pub bounds-drawn-column : goal.bounds-drawn-column
bounds-drawn-column c =
    let values = c.args.drawn.now.values.now in
    let within : c.args.unit < length (map (λ v. v.now) values) = omega (arith, length-map values (λ v. v.now), c.requires.unit) in
    let counted = c.requires.told.counted c.args.unit [] within in
    let here = get_or-map (λ v. v.now) values c.args.unit (record { ref_ptr = (0, 0); now = [] }) [] c.requires.unit in
    omega (arith, c.requires.column, counted, ap length here)
