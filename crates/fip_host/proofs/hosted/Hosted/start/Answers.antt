use Rattle.std.proofs.Common.{◌≡◌, ◌∙◌, ◌++◌, ℕ, List, Some, inr, refl, sym, ap, subst, length, slice_get}
use Rattle.std.proofs.lemmas.Result.{err_from_is_err_and}
use Rattle.std.proofs.lemmas.Option.{slice_get_within}
use Rattle.cell_store.specs.Made.{loading}
use Rattle.value_text.specs.Loaded.{AreSizes}
use Rattle.run_safety.proofs.Headers.{loadable}
use Rattle.fip_host.specs.Hosting.{Seen, IsAtStart, IsStarted, loading_of}
use Rattle.fip_host.specs.Making.{HasMade}
use Rattle.fip_host.proofs.Unmade.{unstarted}
use Rattle.fip_host.proofs.Beginning.{on_ok, few_words, same_loading, started}
use Rattle.fip_host.proofs.hosted.Hosted.start.Goals as goal

pub begin-requires : goal.begin-requires
begin-requires c =
    let v = c.self.inside.verified in
    let n = c.args.number in
    let words = c.args.arguments.now in
    let function = c.in-Some.function.now in
    let at = c.in-Some.ensures.some in
    let same : c.extend_from_slice.new.self.items ≡ words = c.in_ok-extend_from_slice.ensures.items ∙ ap (λ (xs : List ℕ). xs ++ words) c.memory_of-words.ensures.none in
    let made = subst (λ (ks : List ℕ). HasMade ks c.extend_from_slice.new.self.items c.add_credits.new.words.items (loading c.self.inside.cells) (loading c.add_credits.new.cells)) c.as_slice-credits.ensures.value c.in_ok-add_credits.ensures.made in
    let as_many : length words ≡ length function.params = c.if-arguments-params.false ∙ ap length c.as_slice-params.ensures.same in
    record {
      there = slice_get_within v.code.functions.items n function at;
      few = λ g here. few_words v.code n function g words c.extend_from_slice.new.self.items c.add_credits.new.words.items (loading c.self.inside.cells) (loading c.add_credits.new.cells) c.in-Some.ensures.sound at here as_many same made;
    }

pub returns-clause-starts : goal.returns-clause-starts
returns-clause-starts c =
    let v = c.self.inside.verified in
    let n = c.args.number in
    let words = c.args.arguments.now in
    let all = c.add_credits.new.words.items in
    let old = c.args.self.now in
    let m = c.begin.new.self in
    let k = c.add_credits.new.cells in
    let function = c.in-Some.function.now in
    let same : c.extend_from_slice.new.self.items ≡ words = c.in_ok-extend_from_slice.ensures.items ∙ ap (λ (xs : List ℕ). xs ++ words) c.memory_of-words.ensures.none in
    let made = subst (λ (ks : List ℕ). HasMade ks c.extend_from_slice.new.self.items all (loading c.self.inside.cells) (loading k)) c.as_slice-credits.ensures.value c.in_ok-add_credits.ensures.made in
    let after : loading k ≡ loading_of m = same_loading _ _ _ _ (sym c.begin.ensures.store) (sym c.begin.ensures.left) in
    on_ok c.begin.result (IsAtStart n all c.args.frames m) (IsStarted n words c.args.frames old m) (started v n c.args.frames function words c.extend_from_slice.new.self.items all old m (loading c.self.inside.cells) (loading k) c.in-Some.ensures.some (ap (λ (x : Seen). x.code) c.self.view_is) same made (ap loading_of c.self.view_is) after) c.begin.ensures.starts

pub add_credits-requires : goal.add_credits-requires
add_credits-requires c =
    let at = c.in-Some.ensures.some in
    let fit = loadable c.self.inside.verified.code c.args.number c.in-Some.function.now c.in-Some.ensures.sound at in
    record {
      sizes = subst AreSizes (sym c.as_slice-credits.ensures.value) fit.credits.sizes;
      pushed = c.self.invariant.empty;
      small = c.self.invariant.small;
    }

pub returns-then-arguments-params-clause-refused : goal.returns-then-arguments-params-clause-refused
returns-then-arguments-params-clause-refused c =
    let f = c.in-Some.function.now in
    let at = subst (λ (x : Seen). slice_get x.code.code.functions.items c.args.number ≡ Some f) c.self.view_is c.in-Some.ensures.some in
    (inr (f, at, λ e. c.if-arguments-params.true (e ∙ ap length (sym c.as_slice-params.ensures.same))), refl)

pub returns-in_err-add_credits-clause-refused : goal.returns-in_err-add_credits-clause-refused
returns-in_err-add_credits-clause-refused c =
    let p = err_from_is_err_and c.from_residual-in_err-add_credits.result c.from_residual-in_err-add_credits.ensures.1 in
    let words = c.args.arguments.now in
    let f = c.in-Some.function.now in
    let at = subst (λ (x : Seen). slice_get x.code.code.functions.items c.args.number ≡ Some f) c.self.view_is c.in-Some.ensures.some in
    let same : c.extend_from_slice.new.self.items ≡ words = c.in_ok-extend_from_slice.ensures.items ∙ ap (λ (xs : List ℕ). xs ++ words) c.memory_of-words.ensures.none in
    rw (p.1, p.2) (unstarted c.args.number f words c.extend_from_slice.new.self.items c.as_slice-credits.result.now c.args.self.now _ (loading c.self.inside.cells) c.in_err-add_credits.field-0.0 at c.as_slice-credits.ensures.value same (ap loading_of c.self.view_is) c.in_err-add_credits.ensures.refused)
