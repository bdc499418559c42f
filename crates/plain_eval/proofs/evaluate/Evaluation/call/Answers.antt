use Rattle.std.proofs.Common.{arith, refl, suc, sym, ap, ◌≡◌, ◌≤◌, ◌∙◌, subst, Some}
use Rattle.std.proofs.lemmas.Option.{slice_get-get_or, slice_get_past}
use Rattle.std.proofs.lemmas.Grind.{common_steps}
use Rattle.fip_trees.specs.TreeView.{instance_of, instances}
use Rattle.plain_eval.specs.Machine.{rest_of, waiting_size}
use Rattle.plain_eval.specs.Work.{block_size, largest}
use Rattle.plain_eval.proofs.Waiting.{rest_start, instance_there, instance_none}
use Rattle.plain_eval.proofs.Steps.{call_out, call_deep, call_none, call_leads}
use Rattle.plain_eval.proofs.Forms.{largest_there, call_less}
use Rattle.plain_eval.proofs.evaluate.Evaluation.call.Goals as goal

pub returns-in_default-clause-leads : goal.returns-in_default-clause-leads
returns-in_default-clause-leads c = λ p a i n h.
    let z : c.args.self.now.calls ≡ 0 = grind (arith, common_steps) in
    call_out p c.args.self.now c.args.callee a z h

pub returns-in_default-frames_of-clause-leads : goal.returns-in_default-frames_of-clause-leads
returns-in_default-frames_of-clause-leads c = λ p a i n h.
    let z : c.args.self.now.calls ≡ suc c.in-Some.left = grind (arith, common_steps) in
    call_deep p c.args.self.now c.args.callee c.in-Some.left a z c.in_default-frames_of.ensures.none h

pub returns-in_default-get-clause-leads : goal.returns-in_default-get-clause-leads
returns-in_default-get-clause-leads c = λ p a i n h.
    let e = c.args.self.now in
    let g = c.args.callee in
    let z : e.calls ≡ suc c.in-Some.left = grind (arith, common_steps) in
    absurd (call_none p e g c.in-Some.left c.in-Some-frames_of.free a n z c.in-Some-frames_of.ensures.some (instance_none instance_of e.instances.now p.instances g i (slice_get_past e.instances.now g c.in_default-get.ensures.lookup.3)) h)

pub returns-clause-leads : goal.returns-clause-leads
returns-clause-leads c = λ p a i n h.
    let e = c.args.self.now in
    let g = c.args.callee in
    let d = c.in-Some-get.instance.now in
    let z : e.calls ≡ suc c.in-Some.left = grind (arith, common_steps) in
    let found = slice_get-get_or e.instances.now g d c.in-Some-get.ensures.lookup.3.0 ∙ ap Some (sym c.in-Some-get.ensures.lookup.1) in
    let en = c.in_ok-enter.ensures in
    call_leads p e c.enter.new.self g c.in-Some.left c.in-Some-frames_of.free (instance_of d) d.body a z c.in-Some-frames_of.ensures.some (instance_there instance_of e.instances.now p.instances g d i found) refl en.waiting en.calls en.frames en.tail en.given en.following en.keeps en.covers h

pub returns-clause-less : goal.returns-clause-less
returns-clause-less c =
    let e = c.args.self.now in
    let g = c.args.callee in
    let d = c.in-Some-get.instance.now in
    let z : e.calls ≡ suc c.in-Some.left = grind (arith, common_steps) in
    let found = slice_get-get_or e.instances.now g d c.in-Some-get.ensures.lookup.3.0 ∙ ap Some (sym c.in-Some-get.ensures.lookup.1) in
    let en = c.in_ok-enter.ensures in
    let most = largest (instances e.instances.now) in
    let new = c.enter.new.self in
    call_less most c.in-Some.left e.calls new.calls (block_size (rest_of d.body 0)) (waiting_size e.waiting.items) (waiting_size new.waiting.items) z en.calls (subst (λ b. block_size b ≤ most) (sym (rest_start d.body)) (largest_there e.instances.now g d found)) (ap (λ w. waiting_size w.items) en.waiting)
