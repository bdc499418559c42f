use Rattle.std.proofs.Common.{◌∙◌, sym, ap, subst}
use Rattle.fip_base.specs.CoreView.{core}
use Rattle.fip_trees.specs.declared.decls.Decls.{Decls}
use Rattle.data_types.specs.Answers.{IsWalked}
use Rattle.data_types.proofs.Exact.{refused, accepted, accepted_names, accepted_valued}
use Rattle.data_types.proofs.declared.declare.Goals as goal

pub returns-in-Some-clause-least : goal.returns-in-Some-clause-least
returns-in-Some-clause-least c = refused (core c.args.core.now) c.declarations.new.least c.in-Some.refusal (subst (λ o. IsWalked (core c.args.core.now) o c.declarations.new.least) c.new-least.ensures.none c.in-Ok.ensures.faults) (sym c.into_refusal.ensures.least ∙ c.in-Some.is)

pub returns-clause-accepted : goal.returns-clause-accepted
returns-clause-accepted c = accepted (core c.args.core.now) c.declarations.new.least (subst (λ o. IsWalked (core c.args.core.now) o c.declarations.new.least) c.new-least.ensures.none c.in-Ok.ensures.faults) (sym c.into_refusal.ensures.least ∙ c.in-None.is)

pub returns-clause-names : goal.returns-clause-names
returns-clause-names c = ap (λ (d : Decls). d.names) c.new.ensures.decls ∙ c.in-Ok.ensures.names ∙ accepted_names (core c.args.core.now) c.declarations.new.least (subst (λ o. IsWalked (core c.args.core.now) o c.declarations.new.least) c.new-least.ensures.none c.in-Ok.ensures.faults) (sym c.into_refusal.ensures.least ∙ c.in-None.is)

pub returns-clause-valued : goal.returns-clause-valued
returns-clause-valued c = accepted_valued (core c.args.core.now) c.declarations.new.least (subst (λ o. IsWalked (core c.args.core.now) o c.declarations.new.least) c.new-least.ensures.none c.in-Ok.ensures.faults) (sym c.into_refusal.ensures.least ∙ c.in-None.is)

pub new-requires : goal.new-requires
new-requires c = record {
  declared = record {
    accepted = accepted (core c.args.core.now) c.declarations.new.least (subst (λ o. IsWalked (core c.args.core.now) o c.declarations.new.least) c.new-least.ensures.none c.in-Ok.ensures.faults) (sym c.into_refusal.ensures.least ∙ c.in-None.is);
    names = c.in-Ok.ensures.names ∙ accepted_names (core c.args.core.now) c.declarations.new.least (subst (λ o. IsWalked (core c.args.core.now) o c.declarations.new.least) c.new-least.ensures.none c.in-Ok.ensures.faults) (sym c.into_refusal.ensures.least ∙ c.in-None.is);
    types = c.in-Ok.ensures.types;
    constructors = c.in-Ok.ensures.constructors;
    valued = accepted_valued (core c.args.core.now) c.declarations.new.least (subst (λ o. IsWalked (core c.args.core.now) o c.declarations.new.least) c.new-least.ensures.none c.in-Ok.ensures.faults) (sym c.into_refusal.ensures.least ∙ c.in-None.is);
    numbered = c.in-Ok.ensures.numbered;
  };
}
