use Rattle.std.proofs.Common.{refl, subst, sym, ap, length}
use Rattle.lower_parts.specs.Clauses.{EndsMatch}
use Rattle.lower_parts.proofs.Clauses.{meets_at}
use Rattle.lower_parts.specs.Matches.{EndsMatchLaid}
use Rattle.lower_parts.specs.Writing.{setting}
use Rattle.lower_parts.proofs.Matched.{meets_laid}
use Rattle.cell_lower.proofs.lowerer.Lowerer.end_match.Goals as goal

pub returns-clause-ends : goal.returns-clause-ends
returns-clause-ends c = subst (λ x. EndsMatch c.args.matching x c.args.self.now.buffer c.put_label.new.self.frame c.put_label.new.self.buffer) (sym c.in-Some.is) (meets_at c.args.matching.end c.in-Some.frame c.resume.new.self c.put_label.new.self.frame c.args.self.now.buffer c.put_label.new.self.buffer c.put_label.new.self.buffer c.in_ok-put_label-in-Some.ensures.extends c.in_ok-put_label-in-Some.ensures.instrs c.in_ok-put_label-in-Some.ensures.placed refl c.resume.ensures.resumed c.in_ok-put_label-in-Some.ensures.loses (ap length c.resume.ensures.held) c.in_ok-put_label-in-Some.ensures.registers c.in_ok-put_label-in-Some.ensures.labels)

pub returns-clause-laid : goal.returns-clause-laid
returns-clause-laid c = subst (λ x. EndsMatchLaid (setting c.args.self.now.context.now) c.args.matching x c.args.self.now.frame c.args.self.now.buffer c.put_label.new.self.frame c.put_label.new.self.buffer) (sym c.in-Some.is) (meets_laid (setting c.args.self.now.context.now) c.args.self.now.context.now.program.now.types c.args.matching c.in-Some.frame c.args.self.now.frame c.resume.new.self c.put_label.new.self.frame c.args.self.now.buffer c.put_label.new.self.buffer refl c.resume.ensures.whole c.resume.ensures.next c.in_ok-put_label-in-Some.ensures.wide c.in_ok-put_label-in-Some.ensures.extends c.in_ok-put_label-in-Some.ensures.instrs c.in_ok-put_label-in-Some.ensures.placed c.in_ok-put_label-in-Some.ensures.reported)
