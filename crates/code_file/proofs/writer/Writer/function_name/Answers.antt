use Rattle.std.proofs.Common.{◌∙◌, ap, sym}
use Rattle.code_file.specs.Spelling.{only, name_text, function_name_text}
use Rattle.code_file.specs.Written.{after}
use Rattle.code_file.proofs.Writing.{after_missing}
use Rattle.code_file.proofs.writer.Writer.function_name.Goals as goal

pub returns-then-not-is_function_name : goal.returns-then-not-is_function_name
unfolding function_name_text
returns-then-not-is_function_name c = ap (λ b. after c.args.self.now (only b (name_text c.args.name.now))) (sym (c.if-not-is_function_name.ensures)) ∙ after_missing c.args.self.now
