use Rattle.std.proofs.Common.{◌∙◌, Option, IfSome, sym, ap, ap₂, subst}
use Rattle.std.specs.Prelude.{option_map}
use Rattle.std.proofs.lemmas.Option.{none-some}
use Rattle.fip_trees.specs.Least.{refusal}
use Rattle.fip_trees.specs.declared.program.Program.{Program}
use Rattle.static_params.specs.Answers.{IsAccepted}
use Rattle.static_params.specs.FlatView.{IsNamed}
use Rattle.reached_instances.specs.closed_types.Source.{Source}
use Rattle.reached_instances.specs.SourceView.{source_of}
use Rattle.static_params.proofs.Sounding.{named_is, program_sound}
use Rattle.static_params.proofs.specialised.specialise.Goals as goal

pub new-requires : goal.new-requires
new-requires c =
    let here = ap₂ (λ x y. source_of x y) c.core.ensures.same c.decls.ensures.same in
    let made = subst (λ (o : Option Program). IfSome o (λ (p : Program). IsAccepted (source_of c.core.result.now c.decls.result.now) p)) c.in-Some.is (c.in-Ok.ensures.accepted c.new-least.ensures.none) in
    record { sound = program_sound c.args.declared.now.core c.args.declared.now.decls c.in-Some.program c.core.ensures.declared (subst (λ (x : Source). IsAccepted x c.in-Some.program) here made) }

pub unreachable-requires : goal.unreachable-requires
unreachable-requires c =
    let named = c.in-Ok.ensures.refused c.new-least.ensures.none c.in-None.is in
    none-some (refusal named.0) (sym c.in-None-into_refusal.is ∙ c.into_refusal.ensures.least ∙ ap (option_map refusal) named.1)

pub returns-in-Some-into_refusal-clause-refused : goal.returns-in-Some-into_refusal-clause-refused
returns-in-Some-into_refusal-clause-refused c =
    let here = ap₂ (λ x y. source_of x y) c.core.ensures.same c.decls.ensures.same in
    let named = subst (λ (x : Source). IsNamed x c.specialised.new.least) here (c.in-Ok.ensures.refused c.new-least.ensures.none c.in-None.is) in
    named_is (source_of c.args.declared.now.core c.args.declared.now.decls) c.specialised.new.least c.in-Some-into_refusal.refusal named (sym c.into_refusal.ensures.least ∙ c.in-Some-into_refusal.is)
