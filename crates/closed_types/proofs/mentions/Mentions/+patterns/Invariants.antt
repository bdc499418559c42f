use Rattle.std.proofs.Common.{◌≡◌, [], drop}
use Rattle.fip_base.specs.CoreView.{patterns}
use Rattle.closed_types.specs.MentionsView.{heard, hears_patterns}
use Rattle.closed_types.specs.DeclaredView.{declared_with}
use Rattle.closed_types.proofs.mentions.Mentions.+patterns.Given as goal

abbrev pub invariant-add_patterns-loop-pattern : goal.invariant-add_patterns-loop-pattern
invariant-add_patterns-loop-pattern l = hears_patterns (declared_with l.decls []) (heard l.self) (patterns (drop l.pattern-index l.list)) ≡ hears_patterns (declared_with l.decls []) (heard l.initial.self) (patterns l.list)
