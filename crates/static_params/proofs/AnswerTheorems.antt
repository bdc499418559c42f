-- A program has one list of instances and one of types, and is accepted or refused.
use Rattle.std.proofs.Common.{◌≡◌, inl, inr, List, ap, sym, subst, ◌∙◌}
use Rattle.fip_language.specs.declared.limits.TheConstants.{MOST_INSTANCES}
use Rattle.fip_trees.specs.Least.{In}
use Rattle.fip_trees.specs.TreeView as W
use Rattle.fip_trees.specs.declared.least.Violation.{Violation}
use Rattle.fip_trees.specs.declared.program.Program.{Program}
use Rattle.static_params.specs.Answers.{AreFew, AreFewInstances, AreManyFunctions, AreManyTypes, IsAccepted, Names}
use Rattle.reached_instances.specs.closed_types.Closed.{Closed, same_closed}
use Rattle.static_params.specs.FlatProgram.{Numbers, flat_program}
use Rattle.reached_instances.specs.closed_types.Instances.{AreInstances, ArePassed, all_faults, calls_from, passed_to, roots}
use Rattle.reached_instances.specs.closed_types.Numbering.{AreMore}
use Rattle.reached_instances.specs.closed_types.Source.{Source}
use Rattle.reached_instances.specs.closed_types.TypeInstances.{AreTypes, parts_of, type_roots}
use Rattle.reached_instances.proofs.closed_types.ClosedTrees.{closed_exact}
use Rattle.reached_instances.proofs.closed_types.Numbered.{numbered_few, one_numbering}

pub instances_one : (s : Source) (is js : List Closed) → AreInstances s is → AreInstances s js → is ≡ js
instances_one s is js a b = one_numbering same_closed closed_exact (roots s) (calls_from s) is js a b

pub not_many : (s : Source) (is : List Closed) → AreFewInstances s is → AreManyFunctions s → ⊥
not_many s is a m = numbered_few same_closed closed_exact (roots s) (calls_from s) is MOST_INSTANCES a.instances a.few m

passed_one : (is ps qs : List Closed) → ArePassed is ps → ArePassed is qs → ps ≡ qs
passed_one is ps qs a b = one_numbering same_closed closed_exact is passed_to ps qs a b

pub numbers_one : (s : Source) (ns ms : Numbers) → AreFew s ns → AreFew s ms → ns ≡ ms
numbers_one s ns ms a b =
    let e = instances_one s ns.instances ms.instances a.instances.instances b.instances.instances in
    let p = passed_one ms.instances a.passed b.passed (subst (λ (is : List Closed). ArePassed is a.passed) e a.given) b.given in
    let one = subst (λ (is : List Closed). AreTypes s is a.passed ns.types) e a.types in
    let two = subst (λ (ps : List Closed). AreTypes s ms.instances ps ns.types) p one in
    let t = one_numbering same_closed closed_exact (type_roots s ms.instances b.passed) (parts_of s) ns.types ms.types two b.types in
    λ i. record { instances = e i; types = t i }

pub not_many_types : (s : Source) (ns : Numbers) → AreFew s ns → AreManyTypes s ns.instances → ⊥
not_many_types s ns a m =
    let p = passed_one ns.instances m.passed a.passed m.given a.given in
    numbered_few same_closed closed_exact (type_roots s ns.instances a.passed) (parts_of s) ns.types MOST_INSTANCES a.types a.few_types
    (subst (λ (ps : List Closed). AreMore MOST_INSTANCES (type_roots s ns.instances ps) (parts_of s)) p m.many)

pub programs_one : (s : Source) (p q : Program) → IsAccepted s p → IsAccepted s q → W.program p ≡ W.program q
programs_one s p q a b = a.made ∙ ap (flat_program s) (numbers_one s a.numbers b.numbers a.few b.few) ∙ sym b.made

pub accepted_or_refused : (s : Source) (p : Program) (v : Violation) → IsAccepted s p → Names s v → ⊥
accepted_or_refused s p v a (inl m) = not_many s a.numbers.instances a.few.instances m.0
accepted_or_refused s p v a (inr (inl m)) =
    let e = instances_one s m.instances a.numbers.instances m.few.instances a.few.instances.instances in
    not_many_types s a.numbers a.few (subst (AreManyTypes s) e m.many)
accepted_or_refused s p v a (inr (inr l)) =
    let e = numbers_one s l.numbers a.numbers l.few a.few in
    subst (In v) (ap (λ (ns : Numbers). all_faults s ns.instances) e ∙ a.unbroken) l.least.violated
