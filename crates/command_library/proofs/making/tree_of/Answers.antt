use Rattle.std.proofs.Common.{◌≡◌, ◌∙◌, ap, subst}
use Rattle.std.specs.Prelude.{IfOk}
use Rattle.command_library.specs.MadeTree.{lines_of_keys}
use Rattle.command_library.specs.Reading.{ints}
use Rattle.command_library.proofs.making.tree_of.Goals as goal

pub returns : goal.returns
returns c = record {
  lines = λ f vs there small p. subst (λ ks. IfOk c.lines_of.result (λ v. v.items ≡ lines_of_keys c.args.count ks)) (ap ints c.as_slice.ensures.value ∙ c.in_ok-keys.ensures.keys f vs there small p) c.lines_of.ensures.lines;
}
