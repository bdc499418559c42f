use Rattle.std.proofs.Common.{◌≡◌, Some, None, length, sym, subst}
use Rattle.fip_rules.specs.Shapes.{known}
use Rattle.fip_rules.specs.Notes.{look}
use Rattle.fip_rules.specs.Stands.{Stand, marks}
use Rattle.fip_rules.specs.Views.{mark_of, entry_of}
use Rattle.fip_rules.proofs.Scopes.{find_look, known_some, known_none}
use Rattle.fip_rules.proofs.Steps.{own_none, own_some}
use Rattle.fip_rules.proofs.state.State.own_number.Goals as goal

pub use_up-requires : goal.use_up-requires
use_up-requires c = (c.in-Some.entry.level, mark_of c.in-Some.entry.mark, subst (λ (s : Stand). look s.walked.scope c.in-Some.entry.mark.id ≡ Some (entry_of c.in-Some.entry)) c.self.view_is (find_look 0 (length c.self.inside.entered.items) c.args.number c.self.inside.scope (entry_of c.in-Some.entry) c.self.invariant (sym c.in-Some.ensures.found)))

pub returns-in-None : goal.returns-in-None
returns-in-None c = record { used = own_none c.args.self.now _ c.args.number c.args.place c.args.name.now (subst (λ (s : Stand). known (marks s) c.args.number ≡ None) c.self.view_is (known_none c.self.inside.scope c.args.number (sym c.in-None.ensures.found))) }

pub returns-in_ok-use_up-in-Some : goal.returns-in_ok-use_up-in-Some
returns-in_ok-use_up-in-Some c = record { used = own_some c.args.self.now c.use_up.new.self _ c.in-Some.entry.mark.id c.args.number c.args.place c.args.name.now (subst (λ (s : Stand). known (marks s) c.args.number ≡ Some c.in-Some.entry.mark.id) c.self.view_is (known_some c.self.inside.scope c.args.number (entry_of c.in-Some.entry) (sym c.in-Some.ensures.found))) c.in_ok-use_up-in-Some.ensures }
