use Rattle.std.proofs.Common.{◌≡◌, ◌<◌, ◌≤◌, ◌-◌, ◌∙◌, sym, subst, [], List, length, get_or}
use Rattle.fip_trees.specs.declared.decls.DeclaredType.{DeclaredType}
use Rattle.closed_types.specs.DeclaredView.{declared, declared_with}
use Rattle.closed_types.proofs.Declarations.{at_there, at_past, declared_by}
use Rattle.closed_types.proofs.mentions.data_type_of.Goals as goal

pub returns-in-Some : goal.returns-in-Some
returns-in-Some c =
    let d = c.args.decls.now in
    let n = c.args.number in
    let x = c.in-Some.declared.now in
    sym (declared_by (declared_with d []) n c.if-number-eq0.false ∙ at_there declared d.types.items (n - 1) x
    (subst (λ (xs : List DeclaredType). n - 1 < length xs) c.deref.ensures.value c.in-Some.ensures.lookup.3.0)
    (subst (λ (xs : List DeclaredType). x ≡ get_or xs (n - 1) x) c.deref.ensures.value c.in-Some.ensures.lookup.1))

pub returns-in-None : goal.returns-in-None
returns-in-None c =
    let d = c.args.decls.now in
    let n = c.args.number in
    sym (declared_by (declared_with d []) n c.if-number-eq0.false ∙ at_past declared d.types.items (n - 1)
    (subst (λ (xs : List DeclaredType). length xs ≤ n - 1) c.deref.ensures.value c.in-None.ensures.lookup.3))
