use Rattle.std.proofs.Common.{◌≡◌, ◌∷◌, List, map, sym, subst}
use Rattle.fip_base.specs.declared.plain.Param.{Param}
use Rattle.session_lines.specs.declared.line.Written.{Written as Argument}
use Rattle.fip_session.specs.Planned.{AreHeld}
use Rattle.fip_session.proofs.Accepting.{first_held, others_held}
use Rattle.fip_session.proofs.Readying.{Putting, putting_starts, putting_on, putting_ends, next_is, can_put, sides}
use Rattle.fip_session.proofs.ready.Ready.add_arguments.Goals as goal

pub loop-param-init : goal.loop-param-init
loop-param-init c = record {
  put = λ words noted can ls finds lie gs are vs taken.
      let sa : c.into_iter-param-iterator.result.a.rest.now ≡ c.args.params.now = search in
      let sb : c.into_iter-param-iterator.result.b.rest.now ≡ c.args.arguments.now = search in
      let p = putting_starts c.args.book.now.table.now c.args.bytes.now ls c.args.params.now gs vs c.args.loader c.args.self.now c.args.arguments.now lie are taken words noted in
      subst (λ (qs : List Param). Putting c.args.book.now.table.now c.args.bytes.now ls c.args.params.now gs vs c.args.loader c.args.loader c.args.self.now qs c.into_iter-param-iterator.result.b.rest.now) (sym sa)
      (subst (λ (as' : List Argument). Putting c.args.book.now.table.now c.args.bytes.now ls c.args.params.now gs vs c.args.loader c.args.loader c.args.self.now c.args.params.now as') (sym sb) p);
  held = subst (λ (as' : List Argument). AreHeld c.args.book.now.held as') (let sb : c.args.arguments.now ≡ c.into_iter-param-iterator.result.b.rest.now = search in sb) c.requires.held;
}

pub add_argument-requires : goal.add_argument-requires
add_argument-requires c = record {
  held = first_held c.args.book.now.held c.in-Some.written.now c.next.new.self.b.rest.now (subst (λ (as' : List Argument). AreHeld c.args.book.now.held as') c.in-Some.ensures.steps.1 c.loop-param.invariant.held);
}

pub loop-param-preserved : goal.loop-param-preserved
loop-param-preserved c = record {
  put = λ words noted can ls finds lie gs are vs taken.
      let tb = c.args.book.now.table.now in
      let bytes = c.args.bytes.now in
      let ps = c.args.params.now in
      let z = c.in-Some.ensures.steps in
      let q : Param = c.in-Some.param.now in
      let a : Argument = c.in-Some.written.now in
      let qs : List Param = c.next.new.self.a.rest.now in
      let as' : List Argument = c.next.new.self.b.rest.now in
      let m = subst (λ (xs : List Param). Putting tb bytes ls ps gs vs c.args.loader c.loop-param.loader c.loop-param.self xs (a ∷ as')) z.0
      (subst (λ (xs : List Argument). Putting tb bytes ls ps gs vs c.args.loader c.loop-param.loader c.loop-param.self c.loop-param.param-iterator.a.rest.now xs) z.1 (c.loop-param.invariant.put words noted can ls finds lie gs are vs taken)) in
      let n = next_is tb bytes ls ps gs vs c.args.loader c.loop-param.loader c.loop-param.self q qs a as' m in
      putting_on tb bytes ls ps gs vs c.args.loader c.loop-param.loader c.loop-param.self q qs a as' m n c.in_ok-loader.loader c.add_argument.new.self
      (c.in_ok-loader.ensures.put (can_put tb bytes ls ps gs vs c.args.loader c.loop-param.loader c.loop-param.self q qs a as' m can) ls finds m.lie m.before n.g n.v n.is n.taken);
  held = others_held c.args.book.now.held c.in-Some.written.now c.next.new.self.b.rest.now (subst (λ (as' : List Argument). AreHeld c.args.book.now.held as') c.in-Some.ensures.steps.1 c.loop-param.invariant.held);
}

pub returns : goal.returns
returns c = record {
  put = λ words noted can ls finds lie gs are vs taken.
      let o = sides c.loop-param.param-iterator.a c.loop-param.param-iterator.b c.in-None.ensures.steps in
      putting_ends c.args.book.now.table.now c.args.bytes.now ls c.args.params.now gs vs c.args.loader c.loop-param.loader c.loop-param.self c.loop-param.param-iterator.a.rest.now c.loop-param.param-iterator.b.rest.now o (c.loop-param.invariant.put words noted can ls finds lie gs are vs taken);
}
