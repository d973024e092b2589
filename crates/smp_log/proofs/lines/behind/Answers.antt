use Rattle.std.proofs.Common.{◌≡◌, ◌≢◌, ℕ, List, ◌++◌, Option, Some, None, option_map, sym, ap, ◌∙◌, Bor}
use Rattle.std.specs.Prelude.{MatchOption}
use Rattle.std.proofs.{lemmas.Slice.Eq.{strip_prefix_is}, lemmas.Bool.Decides.{Decides-eqb}}
use Rattle.smp_log.specs.Reading as Reading
use Rattle.smp_log.proofs.Texts.{behind-append, behind-is}
use Rattle.smp_log.proofs.lines.behind.Goals as goal

stands : (front text : List ℕ) (r : Option (Bor (List ℕ))) → MatchOption r ((rest : List ℕ) → text ≢ front ++ rest) (λ x. text ≡ front ++ x.now) → option_map (λ rest. rest.now) r ≡ Reading.behind front text
stands front text None h = none (Reading.behind front text) (λ rest is. h rest (behind-is front text rest is))
  where
    none : (o : Option (List ℕ)) → ((rest : List ℕ) → o ≡ Some rest → ⊥) → None ≡ o
    none None h = λ i. None
    none (Some rest) h = absurd (h rest (λ i. Some rest))
stands front text (Some x) h = sym (ap (Reading.behind front) h ∙ behind-append front x.now)

pub returns : goal.returns
returns c = stands c.args.front.now c.args.text.now c.strip_prefix.result (strip_prefix_is Decides-eqb c.args.text.now c.args.front.now c.strip_prefix.result c.strip_prefix.ensures.cases)
