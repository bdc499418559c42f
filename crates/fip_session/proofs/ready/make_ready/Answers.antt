use Rattle.std.proofs.Common.{◌≡◌, ◌∙◌, [], ◌++◌, refl, map, sym, ap, subst}
use Rattle.session_correctness.specs.Lodging.{holding_of}
use Rattle.session_lines.specs.Said.{AreGiven}
use Rattle.session_lines.specs.session_semantics.Talk.{AreTaken}
use Rattle.value_text.specs.Loaded.{types_of, AreCredits}
use Rattle.value_text.specs.Single.{AreCreditsMade}
use Rattle.fip_session.specs.Planned.{CanTakeAll, AreHeld}
use Rattle.fip_session.specs.Readied.{ArePut}
use Rattle.fip_session.proofs.Readying.{credited}
use Rattle.fip_session.proofs.ready.make_ready.Goals as goal

pub add_arguments-requires : goal.add_arguments-requires
add_arguments-requires c = record { held = subst (AreHeld c.args.book.now.held) (sym c.as_slice-arguments.ensures.value) c.requires.held }

pub returns : goal.returns
returns c = record {
  made = λ allowed can ls finds lie gs given vs taken.
      let tb = c.args.book.now.table.now in
      let bytes = c.args.bytes.now in
      let f = c.args.plan.now.function.now in
      let P = c.as_slice-params.ensures.same in
      let A = c.as_slice-arguments.ensures.value in
      let C = c.as_slice.ensures.value in
      let r = c.add_arguments.new.self in
      let mid = c.in_ok-loader.loader in
      let put = c.in_ok-loader.ensures.put c.none-ready.ensures.words c.none-ready.ensures.values (subst (λ ps. CanTakeAll tb (types_of ps) bytes) (sym P) can) ls finds lie gs (subst (λ as'. AreGiven bytes as' gs) (sym A) given) vs (subst (λ ps. AreTaken tb (map holding_of ls) [] ps gs vs) (sym P) taken) in
      let put' = subst (λ ps. ArePut tb ls ps gs vs c.args.loader mid r) P put in
      let made = subst (λ cs. AreCreditsMade cs mid c.in-Ok.loader c.in-Ok.credits.items) C (c.in-Ok.ensures.makes (subst AreCredits (sym C) allowed)) in
      credited tb ls f.params f.credits.items gs vs c.args.loader mid c.in-Ok.loader r (record { words = c.extend_from_slice.new.self; values = r.values; credits = c.in-Ok.credits }) c.in-Ok.credits.items put' made (c.in_ok-extend_from_slice.ensures.items ∙ ap (λ ws. r.words.items ++ ws) c.as_slice-2.ensures.value) refl refl;
}
