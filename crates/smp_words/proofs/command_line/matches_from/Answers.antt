use Rattle.std.proofs.Common.{◌≡◌, true, refl, ap, sym, ◌∙◌, subst, string_bytes, map}
use Rattle.clap.specs.Words.{App, fault_of, is_simple, is_simple_and_free, matches_of, kind_of, HasKind}
use Rattle.clap.specs.declared.error.kind.ErrorKind.TheVariants as kind
use Rattle.clap.proofs.OnLiterals.{clap_on_literals}
use Rattle.smp_words.specs.CommandLine.{sampler_app}
use Rattle.smp_words.proofs.Refused.{refused, matched}
use Rattle.smp_words.proofs.command_line.matches_from.Goals as goal

is_free : is_simple_and_free sampler_app ≡ true
unfolding clap_on_literals
is_free = refl

is_plain : is_simple sampler_app ≡ true
unfolding clap_on_literals
is_plain = refl

pub returns-in-Ok-try_get_matches_from : goal.returns-in-Ok-try_get_matches_from
returns-in-Ok-try_get_matches_from c =
    let words = map string_bytes c.args.words.now in
    let app = c.in-Ok.ensures in
    let clean = c.in-Ok-try_get_matches_from.ensures.kinds (ap is_simple_and_free app ∙ is_free) in
    let are = c.in-Ok-try_get_matches_from.ensures.matches (ap is_simple app ∙ is_plain) in
    matched words _ (ap (λ (a : App). fault_of a words) (sym app) ∙ clean) (are.0 ∙ ap (λ (a : App). matches_of a words) app)

pub returns : goal.returns
returns c =
    let words = map string_bytes c.args.words.now in
    let free = ap is_simple_and_free c.in-Ok.ensures ∙ is_free in
    let why = c.in-Err.ensures.kinds free in
    let here = subst (λ (a : App). HasKind (fault_of a words) c.in-Err.error) c.in-Ok.ensures why in
    refused words (kind_of c.in-Err.error) kind.OutOfMemory (λ e. c.in_default-kind.not-OutOfMemory (c.kind.ensures ∙ e)) here
