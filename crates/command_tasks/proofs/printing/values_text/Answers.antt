use Rattle.std.proofs.Common.{◌∷◌, [], subst}
use Rattle.command_session.specs.command_run.session_semantics.Turns.{joined}
use Rattle.command_tasks.proofs.Joining.{IsJoining, sides, value_joined, all_joined}
use Rattle.command_tasks.proofs.printing.values_text.Goals as goal

pub loop-ty-preserved : goal.loop-ty-preserved
loop-ty-preserved c = λ vs small h.
    let tb = c.args.table.now in
    let cs = c.args.cells.now.cells in
    let z = c.in-Some.ensures.steps in
    let out = c.loop-ty.text.items in
    let whole = joined tb c.args.types.now vs [] in
    let k = subst (λ ks. IsJoining tb cs c.loop-ty.is_first ks (c.in-Some.word.now ∷ c.next.new.self.b.rest.now) out whole) z.0
    (subst (λ ws. IsJoining tb cs c.loop-ty.is_first c.loop-ty.ty-iterator.a.rest.now ws out whole) z.1 (c.loop-ty.invariant vs small h)) in
    value_joined tb cs c.loop-ty.is_first c.in-Some.ty.now c.next.new.self.a.rest.now c.in-Some.word.now c.next.new.self.b.rest.now out c.in_ok-text.text.items c.in_ok-text-2.text.items whole c.in_ok-text.ensures.text (c.in_ok-text-2.ensures.canonical small) k

pub returns : goal.returns
returns c = record {
  joined = λ vs small h. all_joined c.args.table.now c.args.cells.now.cells c.loop-ty.is_first c.loop-ty.ty-iterator.a.rest.now c.loop-ty.ty-iterator.b.rest.now c.loop-ty.text.items (joined c.args.table.now c.args.types.now vs []) (sides c.loop-ty.ty-iterator.a c.loop-ty.ty-iterator.b c.in-None.ensures.steps) (c.loop-ty.invariant vs small h);
}
