use Rattle.std.proofs.{Common.{ℕ, sym}, lemmas.List.{get_or-map}}
use Rattle.smp_strata.proofs.layout.Clusters.place.Goals as goal

pub returns-in-None : goal.returns-in-None
returns-in-None c = rw (← c.self.view_is, c.in-None.is) (sym (get_or-map (λ (row : ℕ). 0) c.self.inside.homes.items c.args.row 0 0 (rw (← c.self.view_is) at c.requires.row)))
