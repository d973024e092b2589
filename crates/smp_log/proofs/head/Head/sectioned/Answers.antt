use Rattle.std.proofs.Common.{◌≡◌, ℕ, List, [], ◌∷◌, ◌++◌, set, sym, ap, ◌∙◌, codes}
use Rattle.smp_log.specs.{Heads.{IsHead}, Lines.{lines_text}, SectionLogs.{sectioned_head}}
use Rattle.smp_log.proofs.head.Head.sectioned.Goals as goal

sectioned_bytes : (bytes : List ℕ) → IsHead bytes → set bytes 12 50 ≡ sectioned_head bytes
sectioned_bytes bytes h =
    let text : List ℕ = lines_text (h.design ∷ h.frame ∷ []) in
    let same : bytes ≡ codes "sampler-log 1\n" ++ text = h.text in
    ap (λ b. set b 12 50) same ∙ sym (ap sectioned_head same)

pub returns-clause-bytes : goal.returns-clause-bytes
returns-clause-bytes c = sectioned_bytes c.self.inside.bytes c.self.invariant ∙ ap sectioned_head c.self.view_is
