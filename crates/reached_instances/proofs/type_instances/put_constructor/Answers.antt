use Rattle.std.proofs.Common.{◌∙◌, ℕ, List, [], map, ap, sym, subst}
use Rattle.fip_base.specs.fip_language.Mentions.{all_of}
use Rattle.fip_trees.specs.declared.decls.FieldType.{FieldType}
use Rattle.closed_types.specs.SharedTrees.{AreWithin, all_at, trees, trees_at}
use Rattle.closed_types.specs.DeclaredView.{ty}
use Rattle.closed_types.specs.TypeInstances.{field_type, unless_int, unless_ints}
use Rattle.reached_instances.proofs.Fielding.{fields_row, unless_row}
use Rattle.closed_types.proofs.Growing.{within_more}
use Rattle.reached_instances.proofs.Putting.{put_as, put_grown, put_more}
use Rattle.reached_instances.proofs.type_instances.put_constructor.Goals as goal

pub returns : goal.returns
returns c = λ v w.
    let old = c.args.shared.now in
    let mid = c.field_places.new.shared in
    let cs = trees_at (trees old.branches) c.args.given.now in
    let is = c.args.places.now.items in
    let p = c.in_ok-fields.ensures v in
    let q = c.in_ok-put_all.ensures (within_more old.branches mid.branches is p.grows w) (subst (AreWithin mid.branches) (sym c.deref-2.ensures.value) p.within) in
    put_as old mid is c.put_all.new.places.items _ _
    (ap (λ (js : List ℕ). all_of unless_int (all_at (trees mid.branches) js)) c.deref-2.ensures.value
    ∙ ap (all_of unless_int) (p.trees ∙ ap (λ (ts : List FieldType). map (field_type cs) (map ty ts)) c.deref.ensures.value)
    ∙ sym (unless_row (map (field_type cs) (map ty c.args.constructor.now.fields.items)))
    ∙ ap unless_ints (fields_row cs (map ty c.args.constructor.now.fields.items)))
    (put_more old mid mid is is c.put_all.new.places.items [] _ (put_grown old mid is p.grows p.fits w) q)
