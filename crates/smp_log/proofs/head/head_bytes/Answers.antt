use Rattle.std.proofs.{Common.{◌≡◌, [], ◌∷◌, length, take, refl, sym, ◌∙◌, codes, rules, arith}, lemmas.List.{take_all}}
use Rattle.smp_log.proofs.Pieces.{next, head_lines}
use Rattle.hex.specs.Hex.{encode_lower}
use Rattle.sha2.specs.Sha256.{sha256}
use Rattle.smp_log.proofs.head.head_bytes.Goals as goal

pub returns : goal.returns
returns c =
    let a : take 14 c.put.new.text ≡ codes "sampler-log 1\n" = c.put.ensures in
    let b = next 14 7 _ _ _ _ a refl c.put-2.ensures in
    let d = next 21 64 _ _ _ _ b c.digest_digits.ensures.length c.put-3.ensures in
    let e = next 85 1 _ _ _ _ d refl c.put-4.ensures in
    let f = next 86 6 _ _ _ _ e refl c.put-5.ensures in
    let h = next 92 64 _ _ _ _ f c.digest_digits-2.ensures.length c.put-6.ensures in
    let i = next 156 1 _ _ _ _ h refl c.put-7.ensures in
    let long : length c.put-7.new.text ≡ 157 = search rules in
    let text = rw (c.digest_digits.ensures.digits, c.digest_digits-2.ensures.digits) at i in
    sym (take_all 157 c.put-7.new.text (omega arith)) ∙ text
    ∙ head_lines (codes "sampler-log 1") (codes "design ") (encode_lower (sha256 c.args.design.now)) (codes "frame ") (encode_lower (sha256 c.args.frame.now)) (10 ∷ [])
