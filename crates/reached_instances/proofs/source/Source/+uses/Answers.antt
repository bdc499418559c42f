use Rattle.std.proofs.Common.{◌≡◌, ◌+◌, ◌∙◌, ℕ, Option, Some, None, List, length, map, slice_get, option_map, refl, if◌then◌else◌, ap, sym, subst}
use Rattle.fip_base.specs.fip_language.Core.{Static}
use Rattle.fip_base.specs.CoreView.{static, written, writtens}
use Rattle.fip_base.specs.declared.core_form.Static as DS
use Rattle.fip_trees.specs.Least.{after}
use Rattle.fip_trees.specs.Names.{meaning}
use Rattle.closed_types.specs.SharedTrees.{NoneOrWithin, tree_at, trees}
use Rattle.closed_types.specs.Source.{Instance, given_function, statics_at}
use Rattle.reached_instances.specs.SourceView.{source, instance}
use Rattle.closed_types.specs.Uses.{all_given, applied_function, arguments_faults, closed_arguments, count, statics_meant}
use Rattle.closed_types.specs.UsesView.{AreAllWithin, IsPlaceOf, all_trees, argument_of, faults_of_argument}
use Rattle.closed_types.proofs.Arguing.{arguing_goes, arguing_noted}
use Rattle.reached_instances.proofs.Closing.{count_writtens, instance_kept}
use Rattle.reached_instances.proofs.Declaring.{map_length}
use Rattle.reached_instances.proofs.Fitting.{ready_if_right, right_kept}
use Rattle.closed_types.proofs.Declarations.{at_past, at_there}
use Rattle.closed_types.proofs.Growing.{grows_more, within_more}
use Rattle.closed_types.proofs.Using.{arguments_within, declared_closed, declared_faults, declared_noted, declared_place, given_noted, given_place, unlike_noted, unlike_place}
use Rattle.reached_instances.proofs.source.Source.+uses.Goals as goal

-- ---- one argument

pub closed_argument-returns-in_ok-found-in-Some-Type-clause-right : goal.closed_argument-returns-in_ok-found-in-Some-Type-clause-right
closed_argument-returns-in_ok-found-in-Some-Type-clause-right t c = λ r w.
    right_kept c.args.self.now c.args.shared.now c.closed_type.new.shared c.in_ok-found-in-Some-Type.ensures.grows c.in_ok-found-in-Some-Type.ensures.fits r

pub closed_argument-returns-in_ok-found-in-Some-Type-clause-closed : goal.closed_argument-returns-in_ok-found-in-Some-Type-clause-closed
closed_argument-returns-in_ok-found-in-Some-Type-clause-closed t c = λ r w.
    let s = source c.args.self.now in
    let h = instance (trees c.args.shared.now.branches) c.args.here.now in
    let e = at_there static c.args.parameters.now c.args.place c.in-Some-Type.field-0.now c.in-Some-Type.ensures.lookup.3.0 c.in-Some-Type.ensures.lookup.1 ∙ ap (λ (y : DS.Static). Some (static y)) c.in-Some-Type.field-0-is in
    subst (λ (o : Option Static). IsPlaceOf c.closed_type.new.shared.branches c.in_ok-found-in-Some-Type.found (argument_of s h o (written c.args.written.now))) (sym e) (c.in_ok-found-in-Some-Type.ensures.closed (ready_if_right c.args.self.now c.args.shared.now c.args.here.now r w))

pub closed_argument-returns-in_ok-found-in-Some-Type-clause-faults : goal.closed_argument-returns-in_ok-found-in-Some-Type-clause-faults
closed_argument-returns-in_ok-found-in-Some-Type-clause-faults t c = λ r w.
    let s = source c.args.self.now in
    let h = instance (trees c.args.shared.now.branches) c.args.here.now in
    let e = at_there static c.args.parameters.now c.args.place c.in-Some-Type.field-0.now c.in-Some-Type.ensures.lookup.3.0 c.in-Some-Type.ensures.lookup.1 ∙ ap (λ (y : DS.Static). Some (static y)) c.in-Some-Type.field-0-is in
    c.in_ok-found-in-Some-Type.ensures.faults (ready_if_right c.args.self.now c.args.shared.now c.args.here.now r w)
    ∙ ap (λ (o : Option Static). after c.args.least.now (faults_of_argument s c.args.here.now.number h o (written c.args.written.now))) (sym e)

pub closed_argument-returns-in_ok-found-in-Some-Function-clause-closed : goal.closed_argument-returns-in_ok-found-in-Some-Function-clause-closed
closed_argument-returns-in_ok-found-in-Some-Function-clause-closed t c = λ r w.
    let s = source c.args.self.now in
    let h = instance (trees c.args.shared.now.branches) c.args.here.now in
    let e = at_there static c.args.parameters.now c.args.place c.in-Some-Function.field-0.now c.in-Some-Function.ensures.lookup.3.0 c.in-Some-Function.ensures.lookup.1 ∙ ap (λ (y : DS.Static). Some (static y)) c.in-Some-Function.field-0-is in
    subst (λ (o : Option Static). IsPlaceOf c.closed_passed.new.shared.branches c.in_ok-found-in-Some-Function.found (argument_of s h o (written c.args.written.now))) (sym e) (c.in_ok-found-in-Some-Function.ensures.closed r w)

pub closed_argument-returns-in_ok-found-in-Some-Function-clause-faults : goal.closed_argument-returns-in_ok-found-in-Some-Function-clause-faults
closed_argument-returns-in_ok-found-in-Some-Function-clause-faults t c = λ r w.
    let s = source c.args.self.now in
    let h = instance (trees c.args.shared.now.branches) c.args.here.now in
    let e = at_there static c.args.parameters.now c.args.place c.in-Some-Function.field-0.now c.in-Some-Function.ensures.lookup.3.0 c.in-Some-Function.ensures.lookup.1 ∙ ap (λ (y : DS.Static). Some (static y)) c.in-Some-Function.field-0-is in
    c.in_ok-found-in-Some-Function.ensures.faults r w
    ∙ ap (λ (o : Option Static). after c.args.least.now (faults_of_argument s c.args.here.now.number h o (written c.args.written.now))) (sym e)

pub closed_argument-returns-in-None-clause-closed : goal.closed_argument-returns-in-None-clause-closed
closed_argument-returns-in-None-clause-closed t c = λ r w.
    let s = source c.args.self.now in
    let h = instance (trees c.args.shared.now.branches) c.args.here.now in
    let e = at_past static c.args.parameters.now c.args.place c.in-None.ensures.lookup.3 in
    subst (λ (o : Option Static). IsPlaceOf c.args.shared.now.branches None (argument_of s h o (written c.args.written.now))) (sym e) (record { within = tt; tree = refl })

pub closed_argument-returns-in-None-clause-faults : goal.closed_argument-returns-in-None-clause-faults
closed_argument-returns-in-None-clause-faults t c = λ r w.
    let s = source c.args.self.now in
    let h = instance (trees c.args.shared.now.branches) c.args.here.now in
    let e = at_past static c.args.parameters.now c.args.place c.in-None.ensures.lookup.3 in
    ap (λ (o : Option Static). after c.args.least.now (faults_of_argument s c.args.here.now.number h o (written c.args.written.now))) (sym e)

-- ---- all arguments

pub closed_arguments-loop-written-preserved : goal.closed_arguments-loop-written-preserved
closed_arguments-loop-written-preserved t c =
    let self = c.args.self.now in
    let s = source self in
    let here = c.args.here.now in
    let old = c.args.shared.now.branches in
    let mid = c.loop-written.shared.branches in
    let new = c.closed_argument.new.shared.branches in
    let h = instance (trees old) here in
    let xs = map static c.statics-parameters.result.now in
    let k = c.loop-written.written-index in
    let x = c.written-item.result in
    let g = c.loop-written.invariant.grows in
    let i = c.loop-written.invariant.index in
    record {
      index = ap (λ n. n + 1) i;
      grows = grows_more old mid new g c.in_ok-argument.ensures.grows;
      right = λ r w. c.in_ok-argument.ensures.right (c.loop-written.invariant.right r w) (within_more old mid here.given.items g w);
      arguing = λ r w.
          let found = c.in_ok-argument.ensures.closed (c.loop-written.invariant.right r w) (within_more old mid here.given.items g w) in
          let one = subst (λ (j : Instance). IsPlaceOf new c.in_ok-argument.argument (argument_of s j (slice_get xs c.loop-written.place) (written x))) (instance_kept here old mid g w) found in
          let two = subst (λ (n : ℕ). IsPlaceOf new c.in_ok-argument.argument (argument_of s h (slice_get xs n) (written x))) i one in
          arguing_goes s h xs c.args.statics.now mid new c.loop-written.arguments.items c.push.new.self.items k x c.in_ok-argument.argument c.loop-written-test.true c.written-item.is c.in_ok-argument.ensures.grows two c.in_ok-push.ensures.items (c.loop-written.invariant.arguing r w);
      faults = λ r w.
          let noted = c.in_ok-argument.ensures.faults (c.loop-written.invariant.right r w) (within_more old mid here.given.items g w) in
          let one = ap (λ (j : Instance). after c.loop-written.least (faults_of_argument s here.number j (slice_get xs c.loop-written.place) (written x))) (instance_kept here old mid g w) in
          let two = ap (λ (n : ℕ). after c.loop-written.least (faults_of_argument s here.number h (slice_get xs n) (written x))) i in
          arguing_noted s here.number h xs c.args.statics.now k x c.args.least.now c.loop-written.least c.closed_argument.new.least c.loop-written-test.true c.written-item.is (noted ∙ one ∙ two) (c.loop-written.invariant.faults r w);
    }

-- ---- a name

pub closed_use-returns-in_ok-found-in-Some-clause-closed : goal.closed_use-returns-in_ok-found-in-Some-clause-closed
closed_use-returns-in_ok-found-in-Some-clause-closed t c = λ r w.
    let s = source c.args.self.now in
    let bs = c.args.shared.now.branches in
    let h = instance (trees bs) c.args.here.now in
    let x = c.args.name.now in
    let ws = writtens c.args.statics.now in
    let m = meaning x s.names.functions in
    given_place s bs c.in-Some.given (count ws) (length c.args.statics.now) (given_function s h x) m (closed_arguments s h (statics_meant s m) ws) c.in_ok-found-in-Some.found
    (subst (NoneOrWithin bs) c.in-Some.is (c.given_function.ensures.within bs w))
    (sym (ap (option_map (tree_at (trees bs))) c.in-Some.is) ∙ c.given_function.ensures.given r.looked_up (trees bs))
    (sym (count_writtens c.args.statics.now)) c.in_ok-found-in-Some.ensures.closed

pub closed_use-returns-in_ok-found-in-Some-clause-faults : goal.closed_use-returns-in_ok-found-in-Some-clause-faults
closed_use-returns-in_ok-found-in-Some-clause-faults t c = λ r w.
    let s = source c.args.self.now in
    let bs = c.args.shared.now.branches in
    let here = c.args.here.now in
    let h = instance (trees bs) here in
    let x = c.args.name.now in
    let ws = writtens c.args.statics.now in
    let m = meaning x s.names.functions in
    given_noted s here.number (tree_at (trees bs) c.in-Some.given) (given_function s h x) m x c.args.place ws (closed_arguments s h (statics_meant s m) ws) (arguments_faults s here.number h (statics_meant s m) ws) (length c.args.statics.now) c.args.least.now c.parameter.new.least
    (sym (ap (option_map (tree_at (trees bs))) c.in-Some.is) ∙ c.given_function.ensures.given r.looked_up (trees bs))
    (sym (count_writtens c.args.statics.now)) c.in_ok-found-in-Some.ensures.faults

pub closed_use-returns-in_ok-found-in-Some-find_function-clause-closed : goal.closed_use-returns-in_ok-found-in-Some-find_function-clause-closed
closed_use-returns-in_ok-found-in-Some-find_function-clause-closed t c = λ r w.
    let s = source c.args.self.now in
    let bs = c.args.shared.now.branches in
    let here = c.args.here.now in
    let h = instance (trees bs) here in
    let x = c.args.name.now in
    let ws = writtens c.args.statics.now in
    let m = meaning x s.names.functions in
    let f = c.in-Some-find_function.function in
    let none = sym (ap (option_map (tree_at (trees bs))) c.in-None.is) ∙ c.given_function.ensures.given r.looked_up (trees bs) in
    let means : m ≡ Some f = sym c.find_function.ensures.meaning ∙ c.in-Some-find_function.is in
    let wanted : length c.statics-wanted.result.now ≡ length (statics_at s f) = sym (map_length static c.statics-wanted.result.now) ∙ ap length c.statics-wanted.ensures in
    let given : length c.args.statics.now ≡ count ws = sym (count_writtens c.args.statics.now) in
    declared_place s h (given_function s h x) m (count ws) f (length c.statics-wanted.result.now) (length c.args.statics.now) ws c.declared_use.new.shared.branches c.in_ok-found-in-Some-find_function.found none means wanted given c.if-wanted-given.true (c.in_ok-found-in-Some-find_function.ensures.closed r w)

pub closed_use-returns-in_ok-found-in-Some-find_function-clause-faults : goal.closed_use-returns-in_ok-found-in-Some-find_function-clause-faults
closed_use-returns-in_ok-found-in-Some-find_function-clause-faults t c = λ r w.
    let s = source c.args.self.now in
    let bs = c.args.shared.now.branches in
    let here = c.args.here.now in
    let h = instance (trees bs) here in
    let x = c.args.name.now in
    let ws = writtens c.args.statics.now in
    let m = meaning x s.names.functions in
    let f = c.in-Some-find_function.function in
    let none = sym (ap (option_map (tree_at (trees bs))) c.in-None.is) ∙ c.given_function.ensures.given r.looked_up (trees bs) in
    let means : m ≡ Some f = sym c.find_function.ensures.meaning ∙ c.in-Some-find_function.is in
    let wanted : length c.statics-wanted.result.now ≡ length (statics_at s f) = sym (map_length static c.statics-wanted.result.now) ∙ ap length c.statics-wanted.ensures in
    let given : length c.args.statics.now ≡ count ws = sym (count_writtens c.args.statics.now) in
    declared_noted s h here.number (given_function s h x) m x c.args.place ws f (length c.statics-wanted.result.now) (length c.args.statics.now) c.args.least.now c.declared_use.new.least none means wanted given c.if-wanted-given.true (c.in_ok-found-in-Some-find_function.ensures.faults r w)

pub closed_use-returns-in_ok-note_unless-in-Some-find_function-clause-closed : goal.closed_use-returns-in_ok-note_unless-in-Some-find_function-clause-closed
closed_use-returns-in_ok-note_unless-in-Some-find_function-clause-closed t c = λ r w.
    let s = source c.args.self.now in
    let bs = c.args.shared.now.branches in
    let here = c.args.here.now in
    let h = instance (trees bs) here in
    let x = c.args.name.now in
    let ws = writtens c.args.statics.now in
    let m = meaning x s.names.functions in
    let f = c.in-Some-find_function.function in
    let none = sym (ap (option_map (tree_at (trees bs))) c.in-None.is) ∙ c.given_function.ensures.given r.looked_up (trees bs) in
    let means : m ≡ Some f = sym c.find_function.ensures.meaning ∙ c.in-Some-find_function.is in
    let wanted : length c.statics-wanted.result.now ≡ length (statics_at s f) = sym (map_length static c.statics-wanted.result.now) ∙ ap length c.statics-wanted.ensures in
    let given : length c.args.statics.now ≡ count ws = sym (count_writtens c.args.statics.now) in
    unlike_place s h (given_function s h x) m (count ws) f (length c.statics-wanted.result.now) (length c.args.statics.now) ws bs none means wanted given c.if-wanted-given.false

pub closed_use-returns-in_ok-note_unless-in-Some-find_function-clause-faults : goal.closed_use-returns-in_ok-note_unless-in-Some-find_function-clause-faults
closed_use-returns-in_ok-note_unless-in-Some-find_function-clause-faults t c = λ r w.
    let s = source c.args.self.now in
    let bs = c.args.shared.now.branches in
    let here = c.args.here.now in
    let h = instance (trees bs) here in
    let x = c.args.name.now in
    let ws = writtens c.args.statics.now in
    let m = meaning x s.names.functions in
    let f = c.in-Some-find_function.function in
    let none = sym (ap (option_map (tree_at (trees bs))) c.in-None.is) ∙ c.given_function.ensures.given r.looked_up (trees bs) in
    let means : m ≡ Some f = sym c.find_function.ensures.meaning ∙ c.in-Some-find_function.is in
    let wanted : length c.statics-wanted.result.now ≡ length (statics_at s f) = sym (map_length static c.statics-wanted.result.now) ∙ ap length c.statics-wanted.ensures in
    let given : length c.args.statics.now ≡ count ws = sym (count_writtens c.args.statics.now) in
    unlike_noted s h here.number (given_function s h x) m x c.args.place ws f (length c.statics-wanted.result.now) (length c.args.statics.now) c.args.least.now c.note_unless.new.least none means wanted given c.if-wanted-given.false c.in_ok-note_unless-in-Some-find_function.ensures

-- ---- a declared function

pub declared_use-returns-clause-right : goal.declared_use-returns-clause-right
declared_use-returns-clause-right t c = λ r w.
    let within = subst (AreAllWithin c.closed_arguments.new.shared.branches) (sym c.deref.ensures.value) (c.in_ok-arguments.ensures.within r w) in
    right_kept c.args.self.now c.check_passed.new.shared c.applied_function.new.shared c.in_ok-found.ensures.grows c.in_ok-found.ensures.fits
    (c.in_ok-fit.ensures.right (c.in_ok-arguments.ensures.right r w) within)

pub declared_use-returns-clause-closed : goal.declared_use-returns-clause-closed
declared_use-returns-clause-closed t c = λ r w.
    let s = source c.args.self.now in
    let k1 = c.closed_arguments.new.shared.branches in
    let k2 = c.check_passed.new.shared.branches in
    let k3 = c.applied_function.new.shared.branches in
    let f = c.args.function in
    let d1 = c.deref.ensures.value in
    let d2 = c.deref-2.ensures.value in
    let within = subst (AreAllWithin k1) (sym d1) (c.in_ok-arguments.ensures.within r w) in
    let os = closed_arguments s (instance (trees c.args.shared.now.branches) c.args.here.now) (statics_at s f) (writtens c.args.statics.now) in
    declared_closed s f k1 k2 k3 c.deref.result.now os c.in_ok-fit.fit c.in_ok-found.found within c.in_ok-fit.ensures.grows
    (ap (λ (xs : List (Option ℕ)). all_trees (trees k1) xs) d1 ∙ c.in_ok-arguments.ensures.closed r w)
    (c.in_ok-fit.ensures.fit (c.in_ok-arguments.ensures.right r w) within)
    (subst (λ (xs : List (Option ℕ)). IsPlaceOf k3 c.in_ok-found.found (if c.in_ok-fit.fit then applied_function f (all_given (all_trees (trees k2) xs)) else None)) (d2 ∙ sym d1)
    (c.in_ok-found.ensures.closed (subst (AreAllWithin k2) (d1 ∙ sym d2) (arguments_within k1 k2 c.deref.result.now c.in_ok-fit.ensures.grows within))))

pub declared_use-returns-clause-faults : goal.declared_use-returns-clause-faults
declared_use-returns-clause-faults t c = λ r w.
    let s = source c.args.self.now in
    let here = c.args.here.now in
    let h = instance (trees c.args.shared.now.branches) here in
    let k1 = c.closed_arguments.new.shared.branches in
    let f = c.args.function in
    let ws = writtens c.args.statics.now in
    let d1 = c.deref.ensures.value in
    let within = subst (AreAllWithin k1) (sym d1) (c.in_ok-arguments.ensures.within r w) in
    declared_faults s here.number f k1 ws c.deref.result.now (closed_arguments s h (statics_at s f) ws) (arguments_faults s here.number h (statics_at s f) ws) c.args.least.now c.closed_arguments.new.least c.check_passed.new.least
    (ap (λ (xs : List (Option ℕ)). all_trees (trees k1) xs) d1 ∙ c.in_ok-arguments.ensures.closed r w) (c.in_ok-arguments.ensures.faults r w) (c.in_ok-fit.ensures.faults (c.in_ok-arguments.ensures.right r w) within)
