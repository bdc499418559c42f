use Rattle.std.proofs.Common.{◌+◌, ◌∙◌, arith}
use Rattle.std.specs.Prelude.{slice_set}
use Rattle.std.proofs.lemmas.List.{get_or-set_other}
use Rattle.machine_step.proofs.Stacked.{waiting_keeps}
use Rattle.machine_step.proofs.Nexts.{set_next}
use Rattle.machine_step.proofs.rows.write.Goals as goal

pub go_to-requires-clause-waiting : goal.go_to-requires-clause-waiting
go_to-requires-clause-waiting c =
    let at = c.args.cursor.now.base + c.args.register in
    waiting_keeps c.args.verified.now c.args.bounds c.args.words.now (slice_set c.args.words.now at c.args.word) c.args.cursor.now.frames c.args.cursor.now.base
    (λ i l. get_or-set_other c.args.words.now at i c.args.word 0 (λ e. omega (arith, e, l))) c.requires.waiting

pub returns-clause-state : goal.returns-clause-state
returns-clause-state c lent s = c.go_to.ensures.state lent s ∙ set_next c.args.verified.now c.args.bounds lent s c.args.words.now c.args.cursor.now c.args.register c.args.word (c.args.cursor.now.at + 1)
