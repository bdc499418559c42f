use Rattle.std.proofs.Common.{[], option_map, ap, sym, ◌∙◌, List, map}
use Rattle.fip_base.specs.fip_language.Mentions.{all_of}
use Rattle.fip_trees.specs.declared.decls.DeclaredConstructor.{DeclaredConstructor}
use Rattle.closed_types.specs.SharedTrees.{trees, trees_at}
use Rattle.reached_instances.specs.SourceView as S
use Rattle.closed_types.specs.TypeInstances.{fields_of, types_of_fields}
use Rattle.reached_instances.proofs.Putting.{put_as, put_none}
use Rattle.reached_instances.proofs.source.Source.put_fields.Goals as goal

pub returns-in_ok-put_constructors-in-Some : goal.returns-in_ok-put_constructors-in-Some
returns-in_ok-put_constructors-in-Some c = λ v w.
    let k = c.args.shared.now in
    let cs = trees_at (trees k.branches) c.args.given.now in
    put_as k c.put_constructors.new.shared c.args.places.now.items c.put_constructors.new.places.items _ _
    (ap (λ (xs : List DeclaredConstructor). all_of (types_of_fields cs) (map S.constructor xs)) c.deref.ensures.value ∙ ap (fields_of cs) (sym (ap (option_map (λ d. S.declared d.now)) c.in-Some.is) ∙ c.data_type.ensures))
    (c.in_ok-put_constructors-in-Some.ensures v w)

pub returns-in-None : goal.returns-in-None
returns-in-None c = λ v w.
    let k = c.args.shared.now in
    let cs = trees_at (trees k.branches) c.args.given.now in
    put_as k k c.args.places.now.items c.args.places.now.items [] _
    (ap (fields_of cs) (sym (ap (option_map (λ d. S.declared d.now)) c.in-None.is) ∙ c.data_type.ensures)) (put_none k c.args.places.now.items w)
