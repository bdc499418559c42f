use Rattle.std.proofs.Common.{arith, refl, ap, ◌∙◌, ◌<◌, length}
use Rattle.fip_language.specs.Character.{character}
use Rattle.value_text.specs.Machine.{Await}
use Rattle.value_text.proofs.Runs.{ends_short, sign_goes, sign_stops}
use Rattle.value_text.proofs.scan.sign.Goals as goal

pub returns-then-bytes-at-clause-reads : goal.returns-then-bytes-at-clause-reads
returns-then-bytes-at-clause-reads c = λ tb s. sign_goes tb c.args.bytes.now (character c.args.byte) s c.args.at (let h = c.if-at-bytes.true in omega (arith, h)) c.requires.sign (ap character c.if-bytes-at.true)

pub returns-then-i-bytes-clause-reads : goal.returns-then-i-bytes-clause-reads
returns-then-i-bytes-clause-reads c = λ tb s. c.skip_all_blanks-i.ensures.skips tb (Await (character c.args.byte) s) refl ∙ ends_short tb c.args.bytes.now (Await (character c.args.byte) s) c.skip_all_blanks-i.result (let h = c.if-i-bytes.true in let k = c.skip_all_blanks-i.ensures.within in omega (arith, h, k)) refl

pub returns-then-bytes-i-clause-reads : goal.returns-then-bytes-i-clause-reads
returns-then-bytes-i-clause-reads c = λ tb s. c.skip_all_blanks-i.ensures.skips tb (Await (character c.args.byte) s) refl ∙ sign_goes tb c.args.bytes.now (character c.args.byte) s c.skip_all_blanks-i.result (let h = c.if-i-bytes.false in omega (arith, h)) c.requires.sign (ap character c.if-bytes-i.true)

pub returns-else-bytes-i-clause-reads : goal.returns-else-bytes-i-clause-reads
returns-else-bytes-i-clause-reads c =
    let lt : c.skip_all_blanks-i.result < length c.args.bytes.now = let h = c.if-i-bytes.false in omega (arith, h) in
    λ tb s. c.skip_all_blanks-i.ensures.skips tb (Await (character c.args.byte) s) refl ∙ sign_stops tb c.args.bytes.now c.args.byte s c.skip_all_blanks-i.result lt c.requires.sign c.if-bytes-i.false (c.skip_all_blanks-i.ensures.following lt)
