use Rattle.std.proofs.Common.{IfOk, ◌≡◌, ◌∙◌, ℕ, ◌+◌, ◌≤◌, ◌<◌, [], ◌∷◌, ◌++◌, length, map, take, ap, sym, arith}
use Rattle.std.specs.Prelude.{reverse}
use Rattle.std.proofs.lemmas.List.{append_assoc, append-nil, map-append, length-map, length-reverse, reverse-reverse}
use Rattle.std.specs.Vec.Iter.{into_iter_items}
use Rattle.std.proofs.lemmas.Result.{IfOk-weaker, on_ok_weaker}
use Rattle.fip_base.specs.fip_language.Core as C
use Rattle.fip_base.specs.fip_language.Surface as S
use Rattle.fip_base.specs.fip_language.CoreForm as form
use Rattle.fip_base.specs.CoreView as core
use Rattle.fip_base.specs.declared.surface.Block.{out-Block}
use Rattle.fip_base.specs.declared.surface.Clause.{out-Clause}
use Rattle.fip_base.specs.declared.surface.Step.{Step}
use Rattle.fip_base.specs.SurfaceView as surface
use Rattle.fip_core.specs.Walk.{bindings, waiting, waits, stepped, part_left, operands_of, case_made, clauses_before}
use Rattle.fip_core.proofs.CoreFacts as cores
use Rattle.fip_base.proofs.SurfaceLayers as views
use Rattle.fip_core.proofs.WalkFacts as walk
use Rattle.fip_core.proofs.core_of.Walk.+walk.Goals as goal

-- blocks

pub block-loop-l-init : goal.block-loop-l-init
block-loop-l-init t c =
    let s = c.args.self.now.scope in
    let n = c.args.self.now.next in
    let b = c.args.block in
    let last = surface.expression (out-Block b).last in
    let xs = into_iter_items c.into_iter-l-iterator.result in
    let e : surface.block_of (map surface.let_part xs) last ≡ surface.block b =
    ap (λ ls. surface.block_of (map surface.let_part ls) last) c.into_iter-l-iterator.ensures.into_iter_gives.0 ∙ sym (views.block_view b) in
    record {
      given = ap (λ b. (form.contents s n b).expression) e;
      lets =
          ap (λ bs. bindings bs ++ (form.contents s n (surface.block_of (map surface.let_part xs) last)).lets) c.new-bindings.ensures.items
          ∙ ap (λ b. (form.contents s n b).lets) e;
      next = ap (λ b. (form.contents s n b).next) e;
      scope = walk.taken_whole s;
    }

pub block-loop-l-preserved : goal.block-loop-l-preserved
block-loop-l-preserved t c =
    let x = c.in-Some.l in
    let s = c.loop-l.self.scope in
    let n = c.loop-l.self.next in
    let made = bindings c.loop-l.bindings.items in
    let last = surface.expression (out-Block c.args.block).last in
    let ys = map surface.let_part (into_iter_items c.next.new.self) in
    let all = form.contents c.args.self.now.scope c.args.self.now.next (surface.block c.args.block) in
    let e : surface.block_of (surface.let_part x ∷ ys) last ≡ surface.block_of (map surface.let_part (into_iter_items c.loop-l.l-iterator)) last =
    ap (λ ls. surface.block_of (map surface.let_part ls) last) (sym c.in-Some.ensures.steps.0) in
    let h : walk.Completes made (form.contents s n (surface.block_of (surface.let_part x ∷ ys) last)) all = record {
      given = ap (λ b. (form.contents s n b).expression) e ∙ c.loop-l.invariant.given;
      lets = ap (λ b. made ++ (form.contents s n b).lets) e ∙ c.loop-l.invariant.lets;
      next = ap (λ b. (form.contents s n b).next) e ∙ c.loop-l.invariant.next;
    } in
    let r =
    walk.let_completes all s n made (surface.let_part x) ys last c.binding.new.self.scope c.binding.new.self.next (bindings c.binding.new.out.items) h
    c.in_ok-binding.ensures.lets c.in_ok-binding.ensures.scope c.in_ok-binding.ensures.next in
    record {
      given = r.given;
      lets = r.lets;
      next = r.next;
      scope =
          ap (λ z. take (length c.args.self.now.scope) z) c.in_ok-binding.ensures.scope
          ∙ walk.kept_binders c.args.self.now.scope s (form.binders (form.whole s n (surface.let_part x).bound).next (surface.let_part x).binds) c.loop-l.invariant.scope;
    }

-- the block is what its contents are as the last one
block_ends : (t : ℕ) (c : goal.block-In_ok-last t) → form.last_from (bindings c.whole.new.out.items) (core.expression c.in_ok-whole.whole) c.whole.new.self.next ≡ form.as_last (form.contents c.args.self.now.scope c.args.self.now.next (surface.block c.args.block))
block_ends t c =
    let s = c.loop-l.self.scope in
    let n = c.loop-l.self.next in
    let made = bindings c.loop-l.bindings.items in
    let b = c.args.block in
    let last = surface.expression (out-Block b).last in
    let all = form.contents c.args.self.now.scope c.args.self.now.next (surface.block b) in
    let none = walk.none_left c.loop-l.l-iterator c.in-None.ensures.steps.0 in
    let e : S.Last last ≡ surface.block_of (map surface.let_part (into_iter_items c.loop-l.l-iterator)) last =
    ap (λ ls. surface.block_of (map surface.let_part ls) last) (sym none) in
    let h : walk.Completes made (form.whole s n last) all = record {
      given = ap (λ b. (form.contents s n b).expression) e ∙ c.loop-l.invariant.given;
      lets = ap (λ b. made ++ (form.contents s n b).lets) e ∙ c.loop-l.invariant.lets;
      next = ap (λ b. (form.contents s n b).next) e ∙ c.loop-l.invariant.next;
    } in
    walk.last_completes made (bindings c.whole.new.out.items) (form.whole s n last) all (core.expression c.in_ok-whole.whole) c.whole.new.self.next h
    c.in_ok-whole.ensures.lets c.in_ok-whole.ensures.given c.in_ok-whole.ensures.next

pub block-returns-clause-given : goal.block-returns-clause-given
block-returns-clause-given t c =
    let l = form.last_from (bindings c.whole.new.out.items) (core.expression c.in_ok-whole.whole) c.whole.new.self.next in
    cores.block_from (record { bindings = c.as_last.new.out; last = c.in_ok-last.last })
    ∙ ap (λ x. form.block_of x (core.expression c.in_ok-last.last)) c.in_ok-last.ensures.lets
    ∙ ap (λ x. form.block_of l.lets x) c.in_ok-last.ensures.given
    ∙ ap (λ y. form.block_of y.lets y.expression) (block_ends t c)

pub block-returns-clause-next : goal.block-returns-clause-next
block-returns-clause-next t c = c.in_ok-last.ensures.next ∙ ap (λ y. y.next) (block_ends t c)

pub block-returns-clause-scope : goal.block-returns-clause-scope
block-returns-clause-scope t c =
    c.in_ok-last.ensures.scope
    ∙ c.release.ensures.first
    ∙ ap (λ k. take k c.whole.new.self.scope) c.len-kept.ensures.count
    ∙ ap (λ z. take (length c.args.self.now.scope) z) c.in_ok-whole.ensures.scope
    ∙ c.loop-l.invariant.scope

-- brackets

brackets_hold : (t : ℕ) (c : goal.brackets-In_ok-new t) → form.in_brackets (surface.block c.args.block) (form.contents c.args.self.now.scope c.args.self.now.next (surface.block c.args.block)) ≡ record { lets = []; expression = C.Nested (form.as_block (form.contents c.args.self.now.scope c.args.self.now.next (surface.block c.args.block))).block; next = (form.as_block (form.contents c.args.self.now.scope c.args.self.now.next (surface.block c.args.block))).next }
brackets_hold t c =
    let w = form.contents c.args.self.now.scope c.args.self.now.next (surface.block c.args.block) in
    let ls = (out-Block c.args.block).lets.items in
    let h : 0 < length ls =
    walk.not_empty (out-Block c.args.block).lets.len (length ls) c.is_empty.result c.if-is_empty.false c.is_empty.ensures (out-Block c.args.block).lets.ok.0 in
    ap (λ y. form.in_brackets y w) (views.block_view c.args.block)
    ∙ walk.brackets_of_lets (map surface.let_part ls) (surface.expression (out-Block c.args.block).last) w
    (omega (arith, h, length-map ls surface.let_part))

pub brackets-returns-clause-given : goal.brackets-returns-clause-given
brackets-returns-clause-given t c =
    cores.nested_view c.in_ok-new.field-0
    ∙ ap (λ x. C.Nested (core.block x)) c.in_ok-new.ensures.ok
    ∙ ap (λ x. C.Nested x) c.in_ok-block.ensures.given
    ∙ ap (λ y. y.expression) (sym (brackets_hold t c))

pub brackets-returns-clause-lets : goal.brackets-returns-clause-lets
brackets-returns-clause-lets t c =
    sym (append-nil (bindings c.args.out.now.items)) ∙ ap (λ y. bindings c.args.out.now.items ++ y.lets) (sym (brackets_hold t c))

pub brackets-returns-clause-next : goal.brackets-returns-clause-next
brackets-returns-clause-next t c = c.in_ok-block.ensures.next ∙ ap (λ y. y.next) (sym (brackets_hold t c))

-- clauses

pub clause-returns-clause-scope : goal.clause-returns-clause-scope
clause-returns-clause-scope t c =
    let s = c.args.self.now.scope in
    c.release.ensures.first
    ∙ ap (λ k. take k c.block.new.self.scope) c.len-kept.ensures.count
    ∙ ap (λ z. take (length s) z) (c.in_ok-body.ensures.scope ∙ c.in_ok-pattern.ensures.scope)
    ∙ walk.pattern_kept s s c.args.self.now.next (surface.pattern (out-Clause c.args.c).pattern) (walk.taken_whole s)

pub clauses-loop-c-preserved : goal.clauses-loop-c-preserved
clauses-loop-c-preserved t c =
    let x = c.in-Some.c in
    let xs = into_iter_items c.next.new.self in
    let s = c.args.self.now.scope in
    let n = c.loop-c.self.next in
    let made = map core.clause c.loop-c.clauses.items in
    let d : x ∷ xs ≡ into_iter_items c.loop-c.c-iterator = sym c.in-Some.ensures.steps.0 in
    let hk : core.clause c.in_ok-clause.field-0 ≡ (case_made s n (surface.clause x)).case =
    c.in_ok-clause.ensures.given ∙ ap (λ z. (case_made z n (surface.clause x)).case) c.loop-c.invariant.scope in
    let hn : c.clause.new.self.next ≡ (case_made s n (surface.clause x)).next =
    c.in_ok-clause.ensures.next ∙ ap (λ z. (case_made z n (surface.clause x)).next) c.loop-c.invariant.scope in
    record {
      given =
          ap (λ z. clauses_before (map core.clause z) (form.cases s c.clause.new.self.next (surface.clauses xs)).clauses) c.in_ok-push.ensures.items
          ∙ ap (λ z. clauses_before z (form.cases s c.clause.new.self.next (surface.clauses xs)).clauses)
          (map-append core.clause c.loop-c.clauses.items (c.in_ok-clause.field-0 ∷ []))
          ∙ walk.case_first s n c.clause.new.self.next made (core.clause c.in_ok-clause.field-0) (surface.clause x) (map surface.clause xs) hk hn
          ∙ ap (λ z. clauses_before made (form.cases s n (surface.clauses z)).clauses) d
          ∙ c.loop-c.invariant.given;
      next =
          ap (λ m. (form.cases s m (surface.clauses xs)).next) hn
          ∙ ap (λ z. (form.cases s n (surface.clauses z)).next) d
          ∙ c.loop-c.invariant.next;
      scope = c.in_ok-clause.ensures.scope ∙ c.loop-c.invariant.scope;
    }

pub clauses-returns-clause-given : goal.clauses-returns-clause-given
clauses-returns-clause-given t c =
    let s = c.args.self.now.scope in
    let made = map core.clause c.loop-c.clauses.items in
    sym (cores.clauses_view made)
    ∙ ap (λ z. clauses_before made (form.cases s c.loop-c.self.next (surface.clauses z)).clauses)
    (sym (walk.none_left c.loop-c.c-iterator c.in-None.ensures.steps.0))
    ∙ c.loop-c.invariant.given
    ∙ ap (λ z. (form.cases s c.args.self.now.next (surface.clauses z)).clauses) c.into_iter-c-iterator.ensures.into_iter_gives.0

-- steps

pub step-returns-in_ok-parts-in-Call-clause-given : goal.step-returns-in_ok-parts-in-Call-clause-given
step-returns-in_ok-parts-in-Call-clause-given t c =
    let s = c.args.self.now.scope in
    let n = c.args.self.now.next in
    let st = waiting c.args.stack.now.items in
    let x = c.in-Call.name in
    let p = c.in-Call.place in
    let ts = c.in-Call.statics in
    cores.call_view x p ts c.in_ok-parts-in-Call.field-0
    ∙ ap (λ y. C.Call x p (core.writtens ts.items) y)
    (ap core.arguments_of c.in_ok-parts-in-Call.ensures.given
    ∙ sym (cores.arguments_of_arguments_of (form.parts s n (surface.expressions c.in-Call.arguments.items)).arguments))
    ∙ ap (λ a. (stepped s n a st).expression) (sym (views.action_call x p ts c.in-Call.arguments))
    ∙ ap (λ y. (stepped s n (surface.action y) st).expression) (sym c.in-Call.is)

pub step-returns-in_ok-parts-in-Constructor-clause-given : goal.step-returns-in_ok-parts-in-Constructor-clause-given
step-returns-in_ok-parts-in-Constructor-clause-given t c =
    let s = c.args.self.now.scope in
    let n = c.args.self.now.next in
    let st = waiting c.args.stack.now.items in
    let x = c.in-Constructor.name in
    let p = c.in-Constructor.place in
    c.constructor.ensures.same
    ∙ ap (λ y. C.Give (C.Constructor x p y))
    (ap core.arguments_of c.in_ok-parts-in-Constructor.ensures.given
    ∙ sym (cores.arguments_of_arguments_of (form.parts s n (surface.expressions c.in-Constructor.arguments.items)).arguments))
    ∙ ap (λ a. (stepped s n a st).expression) (sym (views.action_constructor x p c.in-Constructor.arguments))
    ∙ ap (λ y. (stepped s n (surface.action y) st).expression) (sym c.in-Constructor.is)

pub step-returns-in_ok-parts-in-Tuple-clause-given : goal.step-returns-in_ok-parts-in-Tuple-clause-given
step-returns-in_ok-parts-in-Tuple-clause-given t c =
    let s = c.args.self.now.scope in
    let n = c.args.self.now.next in
    let st = waiting c.args.stack.now.items in
    let p = c.in-Tuple.place in
    cores.tuple_view p c.in_ok-parts-in-Tuple.field-0
    ∙ ap (λ y. C.Tuple p y)
    (ap core.arguments_of c.in_ok-parts-in-Tuple.ensures.given
    ∙ sym (cores.arguments_of_arguments_of (form.parts s n (surface.expressions c.in-Tuple.parts.items)).arguments))
    ∙ ap (λ a. (stepped s n a st).expression) (sym (views.action_tuple p c.in-Tuple.parts))
    ∙ ap (λ y. (stepped s n (surface.action y) st).expression) (sym c.in-Tuple.is)

pub step-returns-in_ok-unmet-in-If-clause-given : goal.step-returns-in_ok-unmet-in-If-clause-given
step-returns-in_ok-unmet-in-If-clause-given t c =
    let s = c.args.self.now.scope in
    let n = c.args.self.now.next in
    let st = waiting c.args.stack.now.items in
    let e =
    walk.choice_stands s c.as_variable-in-If.new.self.scope c.block.new.self.scope n c.as_variable-in-If.new.self.next c.block.new.self.next c.in-If.place st
    (core.argument c.pop_operand-in-If.result) (core.argument c.in_ok-scrutinee-in-If.scrutinee) (bindings c.args.out.now.items)
    (surface.block c.in-If.yes) (surface.block c.in-If.no) (core.block c.in_ok-met-in-If.met) (core.block c.in_ok-unmet-in-If.unmet)
    c.pop_operand-in-If.ensures.given c.in_ok-scrutinee-in-If.ensures.given c.in_ok-scrutinee-in-If.ensures.next c.in_ok-scrutinee-in-If.ensures.scope
    c.in_ok-met-in-If.ensures.given c.in_ok-met-in-If.ensures.next c.in_ok-met-in-If.ensures.scope c.in_ok-unmet-in-If.ensures.given in
    IfOk-weaker c.choice.result
    (λ r. core.expression r ≡ form.if_match c.in-If.place (core.argument c.in_ok-scrutinee-in-If.scrutinee) (core.block c.in_ok-met-in-If.met) (core.block c.in_ok-unmet-in-If.unmet))
    (λ r. core.expression r ≡ (stepped s n (surface.action c.args.step) st).expression)
    (λ r h.
    h
    ∙ e
    ∙ ap (λ a. (stepped s n a st).expression) (sym (views.action_if c.in-If.place c.in-If.yes c.in-If.no))
    ∙ ap (λ x. (stepped s n (surface.action x) st).expression) (sym c.in-If.is))
    c.choice.ensures.same

pub step-returns-in_ok-unmet-in-If-clause-lets : goal.step-returns-in_ok-unmet-in-If-clause-lets
step-returns-in_ok-unmet-in-If-clause-lets t c =
    let s = c.args.self.now.scope in
    let n = c.args.self.now.next in
    let st = waiting c.args.stack.now.items in
    let ls = bindings c.args.out.now.items in
    let e =
    walk.choice_lets s n c.in-If.place st (core.argument c.pop_operand-in-If.result) ls (bindings c.as_variable-in-If.new.out.items)
    (surface.block c.in-If.yes) (surface.block c.in-If.no) c.pop_operand-in-If.ensures.given c.in_ok-scrutinee-in-If.ensures.lets
    ∙ ap (λ a. ls ++ (stepped s n a st).lets) (sym (views.action_if c.in-If.place c.in-If.yes c.in-If.no))
    ∙ ap (λ x. ls ++ (stepped s n (surface.action x) st).lets) (sym c.in-If.is) in
    IfOk-weaker c.choice.result
    (λ r. core.expression r ≡ form.if_match c.in-If.place (core.argument c.in_ok-scrutinee-in-If.scrutinee) (core.block c.in_ok-met-in-If.met) (core.block c.in_ok-unmet-in-If.unmet))
    (λ r. bindings c.as_variable-in-If.new.out.items ≡ ls ++ (stepped s n (surface.action c.args.step) st).lets)
    (λ r h. e)
    c.choice.ensures.same

pub step-returns-in_ok-unmet-in-If-clause-next : goal.step-returns-in_ok-unmet-in-If-clause-next
step-returns-in_ok-unmet-in-If-clause-next t c =
    let s = c.args.self.now.scope in
    let n = c.args.self.now.next in
    let st = waiting c.args.stack.now.items in
    let e =
    walk.choice_next s c.as_variable-in-If.new.self.scope c.block.new.self.scope n c.as_variable-in-If.new.self.next c.block.new.self.next
    c.block-in-If.new.self.next c.in-If.place st (core.argument c.pop_operand-in-If.result) (bindings c.args.out.now.items)
    (surface.block c.in-If.yes) (surface.block c.in-If.no) c.pop_operand-in-If.ensures.given c.in_ok-scrutinee-in-If.ensures.next
    c.in_ok-scrutinee-in-If.ensures.scope c.in_ok-met-in-If.ensures.next c.in_ok-met-in-If.ensures.scope c.in_ok-unmet-in-If.ensures.next
    ∙ ap (λ a. (stepped s n a st).next) (sym (views.action_if c.in-If.place c.in-If.yes c.in-If.no))
    ∙ ap (λ x. (stepped s n (surface.action x) st).next) (sym c.in-If.is) in
    IfOk-weaker c.choice.result
    (λ r. core.expression r ≡ form.if_match c.in-If.place (core.argument c.in_ok-scrutinee-in-If.scrutinee) (core.block c.in_ok-met-in-If.met) (core.block c.in_ok-unmet-in-If.unmet))
    (λ r. c.block-in-If.new.self.next ≡ (stepped s n (surface.action c.args.step) st).next)
    (λ r h. e)
    c.choice.ensures.same

-- the steps of an expression

pub whole-loop-step-preserved : goal.whole-loop-step-preserved
whole-loop-step-preserved t c =
    let s = c.args.self.now.scope in
    let n = c.args.self.now.next in
    let out = bindings c.args.out.now.items in
    let xs = c.loop-step.yielded in
    let x = c.in-Some-step.step in
    let a = surface.action x in
    let es = surface.left_by (map surface.action xs) [] in
    let b = waits s n es in
    let left : surface.acted a es ∷ surface.kept a es ≡ surface.left_by (map surface.action (xs ++ x ∷ [])) [] =
    sym (ap (λ z. surface.left_by z []) (map-append surface.action xs (x ∷ [])) ∙ views.left_by_push (map surface.action xs) a []) in
    let f = walk.follows s n a es in
    let q : stepped c.loop-step.self.scope c.loop-step.self.next a (waiting c.loop-step.stack.items) ≡ stepped s b.next a b.arguments =
    ap (λ z. stepped z c.loop-step.self.next a (waiting c.loop-step.stack.items)) c.loop-step.invariant.scope
    ∙ ap (λ m. stepped s m a (waiting c.loop-step.stack.items)) c.loop-step.invariant.next
    ∙ ap (λ z. stepped s b.next a z) c.loop-step.invariant.stack in
    record {
      last = c.loop-step.invariant.last;
      steps =
          append_assoc xs (x ∷ []) (into_iter_items c.next.new.self)
          ∙ ap (λ z. xs ++ z) (sym c.in-Some-step.ensures.steps.0)
          ∙ c.loop-step.invariant.steps;
      stack =
          c.in_ok-operand.ensures.given
          ∙ ap (λ y. (part_left y).arguments) q
          ∙ sym f.part_arguments
          ∙ ap (λ z. (waits s n z).arguments) left;
      lets =
          c.in_ok-operand.ensures.lets
          ∙ ap (λ y. bindings c.loop-step.out.items ++ (part_left y).lets) q
          ∙ ap (λ z. z ++ (part_left (stepped s b.next a b.arguments)).lets) c.loop-step.invariant.lets
          ∙ append_assoc out b.lets (part_left (stepped s b.next a b.arguments)).lets
          ∙ ap (λ z. out ++ z) (sym f.part_lets ∙ ap (λ z. (waits s n z).lets) left);
      next =
          c.in_ok-operand.ensures.next
          ∙ ap (λ y. (part_left y).next) q
          ∙ sym f.part_next
          ∙ ap (λ z. (waits s n z).next) left;
      scope = c.in_ok-operand.ensures.scope ∙ c.loop-step.invariant.scope;
    }

-- Before the last step z: all steps before it have been taken.
waited : (t : ℕ) (c : goal.whole-After-drop-stack-then-len-operands t) → walk.Waited c.args.self.now.scope c.args.self.now.next (bindings c.args.out.now.items) (surface.left_by (map surface.action c.pop.new.self.items) []) c.loop-step.self.scope c.loop-step.self.next (bindings c.loop-step.out.items) (waiting c.loop-step.stack.items)
waited t c =
    walk.waited_all c.args.self.now.scope c.args.self.now.next (bindings c.args.out.now.items) c.pop.new.self.items c.loop-step.yielded c.loop-step.self.scope c.loop-step.self.next
    (bindings c.loop-step.out.items) (waiting c.loop-step.stack.items)
    (walk.taken_all c.loop-step.step-iterator c.pop.new.self.items c.loop-step.yielded (c.loop-step.invariant.steps ∙ c.into_iter-step-iterator.ensures.into_iter_gives.0) c.in-None.ensures.steps.0)
    c.loop-step.invariant.stack c.loop-step.invariant.lets c.loop-step.invariant.next c.loop-step.invariant.scope

last_step : (t : ℕ) (c : goal.whole-After-drop-stack-then-len-operands t) (z : Step) → z ≡ c.in-Some.last → c.operands.result ≡ operands_of (surface.action z) → walk.LastStep (form.whole c.args.self.now.scope c.args.self.now.next (surface.expression c.args.e)) (bindings c.args.out.now.items) (bindings c.loop-step.out.items) (stepped c.loop-step.self.scope c.loop-step.self.next (surface.action z) (waiting c.loop-step.stack.items))
last_step t c z h k =
    let xs = c.pop.new.self.items in
    let count : length (waiting c.loop-step.stack.items) ≤ operands_of (surface.action z) =
    omega (arith, c.if-len-operands.true, c.len.ensures, k, length-reverse (map core.argument c.loop-step.stack.items), length-map c.loop-step.stack.items core.argument, c.loop-step.stack.ok.0) in
    walk.last_step c.args.self.now.scope c.args.self.now.next (bindings c.args.out.now.items) (surface.left_by (map surface.action xs) []) c.loop-step.self.scope c.loop-step.self.next
    (bindings c.loop-step.out.items) (waiting c.loop-step.stack.items) (surface.action z) (surface.expression c.args.e) (waited t c)
    (walk.ends_with c.args.e xs z (c.in-Some.ensures.items ∙ ap (λ y. xs ++ y ∷ []) (sym h))) count

given_last : (t : ℕ) (c : goal.whole-After-drop-stack-then-len-operands t) (z : Step) → z ≡ c.in-Some.last → c.operands.result ≡ operands_of (surface.action z) → IfOk c.step.result (λ r. core.expression r ≡ (stepped c.loop-step.self.scope c.loop-step.self.next (surface.action z) (waiting c.loop-step.stack.items)).expression) → IfOk c.step.result (λ r. core.expression r ≡ (form.whole c.args.self.now.scope c.args.self.now.next (surface.expression c.args.e)).expression)
given_last t c z h k =
    let x = stepped c.loop-step.self.scope c.loop-step.self.next (surface.action z) (waiting c.loop-step.stack.items) in
    let w = form.whole c.args.self.now.scope c.args.self.now.next (surface.expression c.args.e) in
    IfOk-weaker c.step.result (λ r. core.expression r ≡ x.expression) (λ r. core.expression r ≡ w.expression) (λ r g. g ∙ (last_step t c z h k).expression)

pub whole-returns-then-len-operands-clause-given : goal.whole-returns-then-len-operands-clause-given
whole-returns-then-len-operands-clause-given t c = given_last t c _ c.loop-step.invariant.last c.operands.ensures.count c.step.ensures.given

pub whole-returns-then-len-operands-clause-lets : goal.whole-returns-then-len-operands-clause-lets
whole-returns-then-len-operands-clause-lets t c = on_ok_weaker c.step.result (λ h. h ∙ (last_step t c _ c.loop-step.invariant.last c.operands.ensures.count).lets) c.step.ensures.lets

pub whole-returns-then-len-operands-clause-next : goal.whole-returns-then-len-operands-clause-next
whole-returns-then-len-operands-clause-next t c = on_ok_weaker c.step.result (λ h. h ∙ (last_step t c _ c.loop-step.invariant.last c.operands.ensures.count).next) c.step.ensures.next

several_steps : (t : ℕ) (c : goal.whole-In_ok-operand-2 t) (z : Step) → z ≡ c.in-Some.last → c.operands.result ≡ operands_of (surface.action z) → walk.SeveralLeft (form.whole c.args.self.now.scope c.args.self.now.next (surface.expression c.args.e)) (bindings c.args.out.now.items) (bindings c.loop-step.out.items) (part_left (stepped c.loop-step.self.scope c.loop-step.self.next (surface.action z) (waiting c.loop-step.stack.items)))
several_steps t c z h k =
    let s = c.args.self.now.scope in
    let n = c.args.self.now.next in
    let out = bindings c.args.out.now.items in
    let xs = c.pop.new.self.items in
    let made = bindings c.loop-step.out.items in
    let st = waiting c.loop-step.stack.items in
    let all : c.loop-step.yielded ≡ xs =
    walk.taken_all c.loop-step.step-iterator xs c.loop-step.yielded (c.loop-step.invariant.steps ∙ c.into_iter-step-iterator.ensures.into_iter_gives.0) c.in-None.ensures.steps.0 in
    let count : operands_of (surface.action z) < length st =
    omega (arith, c.if-len-operands.false, c.len.ensures, k, length-reverse (map core.argument c.loop-step.stack.items), length-map c.loop-step.stack.items core.argument, c.loop-step.stack.ok.0) in
    walk.several_steps s n out (surface.left_by (map surface.action xs) []) c.loop-step.self.scope c.loop-step.self.next made st (surface.action z) (surface.expression c.args.e)
    (walk.waited_all s n out xs c.loop-step.yielded c.loop-step.self.scope c.loop-step.self.next made st all
    c.loop-step.invariant.stack c.loop-step.invariant.lets c.loop-step.invariant.next c.loop-step.invariant.scope)
    (walk.ends_with c.args.e xs z (c.in-Some.ensures.items ∙ ap (λ y. xs ++ y ∷ []) (sym h))) count

pub whole-returns-clause-given : goal.whole-returns-clause-given
whole-returns-clause-given t c =
    let as' = map core.argument c.operand-2.new.stack.items in
    cores.tuple_view surface.origin c.operand-2.new.stack
    ∙ ap (λ x. C.Tuple surface.origin x)
    (sym (cores.arguments_of_arguments_of as') ∙ ap form.arguments_of (sym (reverse-reverse as') ∙ ap (λ z. reverse z) c.in_ok-operand-2.ensures.given))
    ∙ (several_steps t c _ c.loop-step.invariant.last c.operands.ensures.count).expression

pub whole-returns-clause-lets : goal.whole-returns-clause-lets
whole-returns-clause-lets t c = c.in_ok-operand-2.ensures.lets ∙ (several_steps t c _ c.loop-step.invariant.last c.operands.ensures.count).lets

pub whole-returns-clause-next : goal.whole-returns-clause-next
whole-returns-clause-next t c = c.in_ok-operand-2.ensures.next ∙ (several_steps t c _ c.loop-step.invariant.last c.operands.ensures.count).next
