use Rattle.std.proofs.Common.{◌≡◌, [], drop}
use Rattle.fip_base.specs.CoreView.{arguments}
use Rattle.closed_types.specs.MentionsView.{heard, hears_arguments}
use Rattle.closed_types.specs.DeclaredView.{declared_with}
use Rattle.closed_types.proofs.mentions.Mentions.+arguments.Given as goal

abbrev pub invariant-add_arguments-loop-argument : goal.invariant-add_arguments-loop-argument
invariant-add_arguments-loop-argument l = hears_arguments (declared_with l.decls []) (heard l.self) (arguments (drop l.argument-index l.list)) ≡ hears_arguments (declared_with l.decls []) (heard l.initial.self) (arguments l.list)
