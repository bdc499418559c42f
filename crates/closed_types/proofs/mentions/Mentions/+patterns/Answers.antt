use Rattle.std.proofs.Common.{[], refl, List}
use Rattle.fip_base.specs.CoreView.{pattern, patterns}
use Rattle.fip_base.specs.declared.core_form.Pattern.{Pattern}
use Rattle.closed_types.specs.MentionsView.{Heard, heard, hears_pattern, hears_patterns}
use Rattle.closed_types.specs.DeclaredView.{declared_with}
use Rattle.closed_types.proofs.Hearing.{hear_step}
use Rattle.closed_types.proofs.mentions.Mentions.+patterns.Goals as goal

pub add_patterns-loop-pattern-preserved : goal.add_patterns-loop-pattern-preserved
add_patterns-loop-pattern-preserved t c =
    let s = declared_with c.args.decls.now [] in
    hear_step (λ h x. hears_pattern s h (pattern x)) (λ h xs. hears_patterns s h (patterns xs)) (λ (h : Heard) (x : Pattern) (xs : List Pattern). refl) c.args.list.now c.loop-pattern.pattern-index c.pattern-item.result (heard c.loop-pattern.self) (heard c.add_pattern.new.self) _ c.loop-pattern-test.true c.pattern-item.is c.in_ok-add_pattern.ensures c.loop-pattern.invariant
