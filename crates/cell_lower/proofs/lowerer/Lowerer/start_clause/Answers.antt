use Rattle.std.proofs.Common.{refl, ap, ◌∙◌, length}
use Rattle.std.specs.Borrow.{Bor}
use Rattle.fip_trees.specs.declared.program.Clause.{out-Clause}
use Rattle.fip_trees.specs.TreeView.{Case, clause, pattern}
use Rattle.fip_trees.proofs.TreeViews.{clause_is}
use Rattle.lower_parts.specs.declared.context.Context.{Context}
use Rattle.lower_parts.specs.Scenes.{sides_of}
use Rattle.lower_parts.specs.Writing.{setting}
use Rattle.cell_lower.proofs.Parts.{starts_from}
use Rattle.lower_parts.proofs.Matched.{starts_laid}
use Rattle.cell_lower.proofs.lowerer.Lowerer.start_clause.Goals as goal

pub returns-clause-starts : goal.returns-clause-starts
returns-clause-starts c = starts_from (setting c.args.self.now.context.now) (setting c.choose.new.self.context.now) c.args.matching.now (clause c.args.clause.now).pattern (pattern (out-Clause c.args.clause.now).pattern) c.args.progress.now.clause c.entry-entry.result c.args.self.now.buffer c.choose.new.self.buffer c.open_root.new.self.buffer c.put_label.new.self.buffer c.put_label.new.self.buffer (sides_of c.args.progress.now.sides.items) (sides_of c.choose.new.sides.items) c.in_ok-copy.field-0 c.resume.new.self c.choose.new.self.frame c.open_root.new.self.frame c.put_label.new.self.frame
    (ap (λ (x : Bor Context). setting x.now) c.in_ok-choose.ensures.context) (ap (λ (x : Case). x.pattern) (clause_is c.args.clause.now)) c.in_ok-choose.ensures.chooses (λ h. ap sides_of (c.in_ok-choose.ensures.all h)) c.in_ok-choose.ensures.frame c.in_ok-open_root.ensures.buffer c.in_ok-put_label.ensures.extends c.in_ok-put_label.ensures.instrs c.in_ok-put_label.ensures.placed refl c.entry-entry.ensures.entry c.in_ok-copy.ensures.same c.resume.ensures.resumed c.in_ok-open_root.ensures.opens c.in_ok-put_label.ensures.loses (ap length c.resume.ensures.held) c.in_ok-put_label.ensures.registers c.in_ok-put_label.ensures.labels

pub returns-clause-laid : goal.returns-clause-laid
returns-clause-laid c = starts_laid (setting c.args.self.now.context.now) (setting c.choose.new.self.context.now) c.open_root.new.self.context.now.program.now.types c.args.matching.now (clause c.args.clause.now).pattern (pattern (out-Clause c.args.clause.now).pattern) c.args.progress.now.clause c.entry-entry.result c.args.self.now.frame c.args.self.now.buffer c.choose.new.self.buffer c.open_root.new.self.buffer c.put_label.new.self.buffer (sides_of c.args.progress.now.sides.items) (sides_of c.choose.new.sides.items) c.in_ok-copy.field-0 c.resume.new.self c.choose.new.self.frame c.open_root.new.self.frame c.put_label.new.self.frame
    (ap (λ (x : Bor Context). setting x.now) c.in_ok-choose.ensures.context) (ap (λ (x : Bor Context). x.now.program.now.types) (c.in_ok-open_root.ensures.context ∙ c.in_ok-choose.ensures.context)) (ap (λ (x : Case). x.pattern) (clause_is c.args.clause.now)) c.in_ok-choose.ensures.laid (λ h. ap sides_of (c.in_ok-choose.ensures.all h)) c.in_ok-copy.ensures.same c.resume.ensures.whole c.resume.ensures.next c.in_ok-choose.ensures.frame c.in_ok-open_root.ensures.opens c.in_ok-open_root.ensures.buffer c.in_ok-put_label.ensures.wide c.entry-entry.ensures.there c.in_ok-put_label.ensures.extends c.in_ok-put_label.ensures.instrs c.in_ok-put_label.ensures.placed c.in_ok-put_label.ensures.reported
