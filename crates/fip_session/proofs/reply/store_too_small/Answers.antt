use Rattle.std.proofs.Common.{◌≡◌, ◌++◌, rules}
use Rattle.std.specs.Prelude.{IfOk, codes, string_bytes}
use Rattle.std.specs.Fmt.{decimal}
use Rattle.std.proofs.lemmas.Result.{IfOk-weaker}
use Rattle.fip_session.proofs.Writing.{store_ended}
use Rattle.fip_session.proofs.reply.store_too_small.Goals as goal

pub returns : goal.returns
returns c =
    let t : IfOk c.format.result (λ s. string_bytes s ≡ codes "store too small: " ++ (decimal c.args.needed ++ (codes " needed, " ++ (decimal c.args.left ++ codes " left")))) = search rules in
    record { text = IfOk-weaker c.format.result _ _ (λ s e. store_ended c.args.needed c.args.left (string_bytes s) e) t }
