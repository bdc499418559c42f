use Rattle.std.proofs.Common.{◌≡◌, ◌++◌, refl, rules}
use Rattle.std.specs.Prelude.{IfOk, codes, string_bytes}
use Rattle.std.specs.Fmt.{decimal}
use Rattle.std.proofs.lemmas.Result.{IfOk-weaker}
use Rattle.session_lines.specs.command_outcome.Texts.{trap_name}
use Rattle.fip_session.proofs.Writing.{trap_ended}
use Rattle.fip_session.proofs.reply.trap_text.Goals as goal

pub returns : goal.returns
returns c =
    let t : IfOk c.format.result (λ s. string_bytes s ≡ codes "trap " ++ (trap_name c.args.kind ++ (codes " at " ++ (decimal c.args.line ++ (codes ":" ++ decimal c.args.col))))) = search rules in
    record { text = IfOk-weaker c.format.result _ _ (λ s e. trap_ended c.args.kind c.args.line c.args.col (trap_name c.args.kind) (string_bytes s) refl e) t }
