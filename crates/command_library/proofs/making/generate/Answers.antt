use Rattle.std.proofs.Common.{◌∙◌}
use Rattle.command_library.specs.GenAnswer.{gen_room}
use Rattle.command_library.specs.MadeTree.{gen_input}
use Rattle.command_library.proofs.Runs.{left_of, ran_text, kept_text}
use Rattle.command_library.proofs.Texts.{tree_text_is, tree_named, no_text}
use Rattle.command_library.proofs.making.generate.Goals as goal

pub unreachable-requires : goal.unreachable-requires
unreachable-requires c = no_text c.text.result c.in-None.is (c.text.ensures.named.1 tree_named)

pub returns-in-Ok-clause-generates : goal.returns-in-Ok-clause-generates
returns-in-Ok-clause-generates c =
    let text = c.as_bytes.result.now in
    ran_text c.args.seed c.args.count text (c.as_bytes.ensures.value ∙ tree_text_is c.in-Some.source.now c.in-Some.ensures.text) c.make-end.result.0 (c.make-end.ensures.makes text c.in-Ok.ensures.ready c.in-Ok.ensures.code)

pub returns-in-Err-clause-generates : goal.returns-in-Err-clause-generates
returns-in-Err-clause-generates c =
    let text = c.as_bytes.result.now in
    kept_text c.args.seed c.args.count text (c.as_bytes.ensures.value ∙ tree_text_is c.in-Some.source.now c.in-Some.ensures.text) c.in-Err.failure c.in-Err.ensures.kept

pub returns-in-Ok-clause-left : goal.returns-in-Ok-clause-left
returns-in-Ok-clause-left c =
    let text = c.as_bytes.result.now in
    let same = c.as_bytes.ensures.value ∙ tree_text_is c.in-Some.source.now c.in-Some.ensures.text in
    left_of text same (gen_input c.args.seed c.args.count) gen_room c.in-Ok.ready c.make-end.result.1 c.leave.new.left c.in-Ok.ensures.code (c.make-end.ensures.meant text c.in-Ok.ensures.ready c.in-Ok.ensures.code) c.leave.ensures.left
