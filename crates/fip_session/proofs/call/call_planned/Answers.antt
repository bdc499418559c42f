use Rattle.std.proofs.Common.{◌≡◌, ◌≤◌, ◌+◌, ◌∙◌, ℕ, ◌∷◌, length, refl, sym, ap, subst, arith}
use Rattle.cell_store.specs.Made.{Loading}
use Rattle.fip_language.specs.declared.limits.TheConstants.{MOST_STORE_WORDS}
use Rattle.session_lines.specs.session_semantics.Talk.{needed, written}
use Rattle.fip_session.specs.Answered.{CanRun, IsAnswered}
use Rattle.fip_session.proofs.Calling.{same_store, allowed, takes, are_taken, is_weighed, book, lies, needs, too_small, can_run, done}
use Rattle.fip_session.proofs.Stores.{is_store}
use Rattle.fip_session.proofs.call.call_planned.Goals as goal

pub returns-then-needed-left : goal.returns-then-needed-left
returns-then-needed-left c = record {
  answers = λ o s h one name names gs can.
      let b = c.args.book.now in
      let t = c.args.store in
      let bytes = c.args.bytes.now in
      let line = c.args.line.now in
      let p = c.args.plan.now in
      let l = c.reopen-loader.result in
      let cells = c.reopen-loader.ensures.cells in
      let released = c.reopen-loader.ensures.released in
      let n = c.needed-needed.result in
      let e = needs o s b t h bytes line name names gs p can l cells released n (c.needed-needed.ensures.words (allowed o s b t h bytes line name names gs p can) (λ k. written k gs can.planned.values) (is_weighed o s b t h bytes line name names gs p can)) in (
        s,
        too_small o s b t h bytes line name names gs p can l cells released n e c.if-needed-left.true,
        same_store o s b t (record { cells = c.seal.result; left = t.left }) (c.seal.ensures.cells ∙ cells) (c.seal.ensures.released ∙ released) refl h,
      );
}

pub returns : goal.returns
returns c = record {
  answers = λ o s h one name names gs can.
      let b = c.args.book.now in
      let t = c.args.store in
      let bytes = c.args.bytes.now in
      let line = c.args.line.now in
      let p = c.args.plan.now in
      let l = c.reopen-loader.result in
      let cells = c.reopen-loader.ensures.cells in
      let released = c.reopen-loader.ensures.released in
      let n = c.needed-needed.result in
      let vs = can.planned.values in
      let d = can.planned.header in
      let e : n ≡ needed s gs vs d.credits = needs o s b t h bytes line name names gs p can l cells released n (c.needed-needed.ensures.words (allowed o s b t h bytes line name names gs p can) (λ k. written k gs vs) (is_weighed o s b t h bytes line name names gs p can)) in
      let fits : n ≤ t.left = (let le = c.if-needed-left.false in omega (arith, le)) in
      let enough : needed s gs vs d.credits ≤ t.left = omega (arith, e, fits) in
      let new = c.in_ok-loader.loader in
      let r = c.in_ok-loader.ready in
      let ls = h.opened.lodged in
      let ready = c.in_ok-loader.ensures.made (allowed o s b t h bytes line name names gs p can) (takes o s b t h bytes line name names gs p can one) ls (book o s b t h bytes line name names gs p can).finds (lies o s b t h bytes line name names gs p can l cells released) gs can.is.given vs (are_taken o s b t h bytes line name names gs p can) in
      let small : length new.cells ≤ MOST_STORE_WORDS = (let few = c.left-room.ensures.few in omega (arith, few)) in
      let run = can_run o s b t h bytes line name names gs p can l cells released new r enough ready (is_store new c.left-room.ensures.flags c.left-room.ensures.sized c.left-room.ensures.of_cells) small in
      let a = c.in_ok-cells.ensures.answers o s ls can.planned.instance d gs vs l (subst (λ ns. CanRun o s b p ls ns can.planned.instance d gs vs l new r) (sym can.is.named) run) in
      done o s b t h bytes line name names gs p can c.run.new.book (record { cells = c.in_ok-cells.cells; left = _ }) n c.in_ok-cells.reply e fits c.in_ok-cells.ensures.same refl
      (subst (λ ns. IsAnswered o s b.verified.now.code.types ns can.planned.instance d gs vs c.run.new.book.held c.in_ok-cells.cells c.in_ok-cells.reply) can.is.named a);
}
