use Rattle.std.proofs.Common.{◌≡◌, ◌≤◌, ◌+◌, ◌∙◌, ℕ, List, ◌++◌, length, IfSome, refl, sym, ap, subst}
use Rattle.fip_language.specs.Every.{Every}
use Rattle.fip_language.specs.Store.{Placed, Parts, count, words_of}
use Rattle.fip_machine.specs.machine_cells.Small.{store_of}
use Rattle.session_correctness.specs.Called.{IsGivenUp}
use Rattle.session_correctness.specs.Lodging.{Lodged, AreDistinct, lodge_all, but_all}
use Rattle.session_correctness.specs.tree_refinement.machine_semantics.Cells.{there}
use Rattle.session_lines.specs.Said.{names_of}
use Rattle.store_trees.specs.Added.{places_of}
use Rattle.fip_session.specs.Answered.{CanRelease}
use Rattle.fip_session.specs.Gone.{AreStanding, IsAny, IsLent, all_uses, lent_of, named_uses}
use Rattle.fip_session.specs.Planned.{Finds, names_used}
use Rattle.fip_session.specs.declared.book.Book.{Book}
use Rattle.fip_machine.specs.declared.machine.Ended.TheVariants as M
use Rattle.fip_session.proofs.Answering as A
use Rattle.fip_session.proofs.RunAnswers as R
use Rattle.fip_session.proofs.call.run.Goals as goal

pub returns-then-is_value-clause-answers : goal.returns-then-is_value-clause-answers
returns-then-is_value-clause-answers c = λ o s ls i d gs vs first can.
    let b = c.args.book.now in
    let p = c.args.plan.now in
    let names = names_of c.args.line.now.results.items in
    let new = c.args.loader in
    let r = c.args.ready in
    let cells0 = c.seal-cells.result in
    let same0 = c.seal-cells.ensures.cells in
    let released0 = c.seal-cells.ensures.released in
    let frames = c.frames_for-frames.result in
    let exact = c.frames_for-frames.ensures.exact in
    let e = c.in_ok-ended.field-0.ended in
    let given = c.in_ok-ended.field-0.results.items in
    let cells1 = c.in_ok-ended.field-0.cells in
    let u = store_of cells1.cells cells1.released in
    let runs = c.in_ok-ended.ensures.came in
    let is : e ≡ M.Value = c.is_value.ensures.0 c.if-is_value.true in
    let trees = R.trees o s b p ls names i d gs vs first new r can in
    let b1 = c.forget_used.new.book in
    let b2 = c.hold_results.new.book in
    let types = c.as_slice-types.result.now in
    let table2 : b2.table.now ≡ b.table.now = ap (λ (x : Book). x.table.now) c.in_ok-hold_results.ensures.others ∙ ap (λ (x : Book). x.table.now) c.forget_used.ensures.others in
    let holds =
    subst (λ ns. (ms : List Lodged) (ys : Parts) → Finds b1.held ms → given ≡ words_of ys → length (names_of ns) ≡ length types → length types ≡ length given → AreDistinct (ms ++ lodge_all (names_of ns) types ys) → Finds b2.held (ms ++ lodge_all (names_of ns) types ys)) c.as_slice-then-is_value.ensures.value
    (subst (λ ws. (ms : List Lodged) (ys : Parts) → Finds b1.held ms → ws ≡ words_of ys → length (names_of c.as_slice-then-is_value.result.now) ≡ length types → length types ≡ length ws → AreDistinct (ms ++ lodge_all (names_of c.as_slice-then-is_value.result.now) types ys) → Finds b2.held (ms ++ lodge_all (names_of c.as_slice-then-is_value.result.now) types ys)) c.as_slice-then-is_value-2.ensures.value c.in_ok-hold_results.ensures.holds) in
    let finds = R.named o s b p ls names i d gs vs first new r can cells0 same0 released0 frames exact e given cells1 runs is b1.held b2.held types c.as_slice-types.ensures.same c.forget_used.ensures.forgets holds in
    let small = R.small1 o s b p ls names i d gs vs first new r can cells0 same0 released0 frames exact e given cells1 runs in
    let store = R.store1 o s b p ls names i d gs vs first new r can cells0 same0 released0 frames exact e given cells1 runs in
    let lent = R.lent1 o s b p ls names i d gs vs first new r can cells0 same0 released0 frames exact e given cells1 runs is in
    let apart = R.lent_apart1 o s b p ls names i d gs vs first new r can cells0 same0 released0 frames exact e given cells1 runs is in
    let cells2 = c.release_lent.new.cells in
    let u2 = store_of cells2.cells cells2.released in
    let up =
    subst (λ fs. AreStanding IsLent b.table.now cells1.cells fs trees → ((q : ℕ) → lent_of fs trees q ≤ there u q) → IsGivenUp (lent_of fs trees) u u2) c.as_slice-then-is_value-3.ensures.value
    (λ standing far. c.in_ok-release_lent.ensures.gone small store trees (subst (λ tb. AreStanding IsLent tb cells1.cells c.as_slice-then-is_value-3.result.now trees) (sym table2) standing) far) lent apart in
    R.value_answered o s b p ls names i d gs vs first new r can cells0 same0 released0 frames exact e given cells1 runs is b2.held cells2 finds up

pub returns-clause-answers : goal.returns-clause-answers
returns-clause-answers c = λ o s ls i d gs vs first can.
    let b = c.args.book.now in
    let p = c.args.plan.now in
    let names = names_of c.args.line.now.results.items in
    let new = c.args.loader in
    let r = c.args.ready in
    let cells0 = c.seal-cells.result in
    let same0 = c.seal-cells.ensures.cells in
    let released0 = c.seal-cells.ensures.released in
    let frames = c.frames_for-frames.result in
    let exact = c.frames_for-frames.ensures.exact in
    let e = c.in_ok-ended.field-0.ended in
    let given = c.in_ok-ended.field-0.results.items in
    let cells1 = c.in_ok-ended.field-0.cells in
    let u = store_of cells1.cells cells1.released in
    let runs = c.in_ok-ended.ensures.came in
    let not : e ≡ M.Value → ⊥ = λ v. (let t = c.is_value.ensures.1 v in let f = c.if-is_value.false in cc) in
    let trees = R.trees o s b p ls names i d gs vs first new r can in
    let b1 = c.forget_used.new.book in
    let are =
    subst (λ fs. AreStanding IsAny b.table.now cells0.cells fs trees → ((q : ℕ) → all_uses trees q ≤ there (store_of cells0.cells cells0.released) q) → IfSome c.in_ok-noted.noted (λ t. (q : ℕ) → count q (places_of t.list.items) ≡ all_uses trees q + named_uses ls (names_used p.arguments.given.items) q)) c.as_slice.ensures.value
    (λ standing far. c.in_ok-noted.ensures.noted (R.small0 o s b p ls names i d gs vs first new r can cells0 same0 released0) ls can.finds (R.stand0 o s b p ls names i d gs vs first new r can cells0 same0 released0) trees standing far)
    (R.standing0 o s b p ls names i d gs vs first new r can cells0 same0 released0) (R.apart0 o s b p ls names i d gs vs first new r can cells0 same0 released0) in
    let small = R.small1 o s b p ls names i d gs vs first new r can cells0 same0 released0 frames exact e given cells1 runs in
    let store = R.store1 o s b p ls names i d gs vs first new r can cells0 same0 released0 frames exact e given cells1 runs in
    let following = but_all (A.used o s b.verified.now.code ls names p.entry p.function.now i d gs vs first new r can.begun) ls in
    let gone : ℕ → ℕ = λ q. all_uses trees q + named_uses ls (names_used p.arguments.given.items) q in
    let release = R.can_release o s b p ls names i d gs vs first new r can cells0 same0 released0 frames exact e given cells1 runs not b1 c.in_ok-noted.noted (ap (λ (x : Book). x.table.now) c.forget_used.ensures.others) c.forget_used.ensures.forgets are in
    let up = c.in_ok-release_all.ensures.gone small store following gone can.begun.ready.spares (subst (λ ws. CanRelease b1 following u c.in_ok-noted.noted gone ws can.begun.ready.spares) (sym c.as_slice-2.ensures.value) release) in
    R.end_answered o s b p ls names i d gs vs first new r can cells0 same0 released0 frames exact e given cells1 runs not b1.held c.release_all.new.cells b1.room.calls (ap (λ (x : Book). x.room.calls) c.forget_used.ensures.others) c.forget_used.ensures.forgets up
