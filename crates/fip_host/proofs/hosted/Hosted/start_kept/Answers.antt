use Rattle.std.proofs.Common.{◌≡◌, ◌∙◌, ◌++◌, ℕ, true, List, Some, inl, inr, refl, sym, ap, subst, length, map, slice_get, rules}
use Rattle.std.proofs.lemmas.Result.{err_from_is_err_and}
use Rattle.value_text.specs.Loaded.{AreSizes}
use Rattle.run_safety.proofs.Headers.{loadable}
use Rattle.std.specs.Vec.{with_items}
use Rattle.std.proofs.lemmas.List.{length-map, with_items_is}
use Rattle.std.proofs.lemmas.Option.{slice_get_within}
use Rattle.cell_store.specs.Made.{loading}
use Rattle.fip_machine.specs.machine_cells.Small.{store_of}
use Rattle.fip_machine.specs.Pausing.{stand_of}
use Rattle.fip_host.specs.Hosting.{Seen, IsAtStart, loading_of}
use Rattle.fip_host.specs.Keeping.{used_up}
use Rattle.fip_host.specs.Making.{HasMade}
use Rattle.fip_host.specs.Telling.{argument_word}
use Rattle.fip_host.proofs.Unmade.{unstarted_on, wordless}
use Rattle.fip_host.proofs.Beginning.{few_words, started}
use Rattle.fip_host.proofs.hosted.Hosted.start_kept.Goals as goal

pub begun-requires : goal.begun-requires
begun-requires c =
    let v = c.self.inside.verified in
    let n = c.args.number in
    let given = c.args.arguments.now in
    let words = map (argument_word c.args.self.now.kept) given in
    let function = c.in-Some.function.now in
    let at = c.in-Some.ensures.some in
    let kept = c.as_slice-kept.ensures.value ∙ ap (λ (x : Seen). x.kept) c.self.view_is in
    let mapped = map (argument_word c.as_slice-kept.result.now) given in
    let same : c.add_words.new.words.items ≡ words = c.in_ok-add_words.ensures.words ∙ ap (λ (xs : List ℕ). xs ++ mapped) (c.reserve.ensures.items ∙ c.memory_of-words.ensures.none) ∙ ap (λ ks. map (argument_word ks) given) kept in
    let made = subst (λ (ks : List ℕ). HasMade ks c.add_words.new.words.items c.add_credits.new.words.items (loading c.self.inside.cells) (loading c.add_credits.new.cells)) c.as_slice-credits.ensures.value c.in_ok-add_credits.ensures.made in
    let as_many : length words ≡ length function.params = length-map given (argument_word c.args.self.now.kept) ∙ c.if-arguments-params.false ∙ ap length c.as_slice-params.ensures.same in
    record {
      there = slice_get_within v.code.functions.items n function at;
      few = λ g here. few_words v.code n function g words c.add_words.new.words.items c.add_credits.new.words.items (loading c.self.inside.cells) (loading c.add_credits.new.cells) c.in-Some.ensures.sound at here as_many same made;
    }

pub returns-clause-starts : goal.returns-clause-starts
returns-clause-starts c =
    let i = c.self.inside in
    let v = i.verified in
    let n = c.args.number in
    let given = c.args.arguments.now in
    let words = map (argument_word c.args.self.now.kept) given in
    let all = c.add_credits.new.words.items in
    let old = c.args.self.now in
    let k = c.add_credits.new.cells in
    let q = c.in_ok-task.task in
    let function = c.in-Some.function.now in
    let kept = c.as_slice-kept.ensures.value ∙ ap (λ (x : Seen). x.kept) c.self.view_is in
    let mapped = map (argument_word c.as_slice-kept.result.now) given in
    let same : c.add_words.new.words.items ≡ words = c.in_ok-add_words.ensures.words ∙ ap (λ (xs : List ℕ). xs ++ mapped) (c.reserve.ensures.items ∙ c.memory_of-words.ensures.none) ∙ ap (λ ks. map (argument_word ks) given) kept in
    let made = subst (λ (ks : List ℕ). HasMade ks c.add_words.new.words.items all (loading i.cells) (loading k)) c.as_slice-credits.ensures.value c.in_ok-add_credits.ensures.made in
    let new : Seen = record { code = v; task = Some (stand_of v q); store = store_of k.cells k.released; left = k.left; gauge = c.new-self-inside.result; entry = n; is_open = true; kept = (with_items i.kept c.use_up.new.kept).items } in
    let start : IsAtStart n all c.args.frames new = record {
      stand = stand_of v q;
      is = refl;
      entry = refl;
      unseen = record { seen = c.new-self-inside.ensures.unseen; highest = c.new-self-inside.ensures.highest; frames = c.new-self-inside.ensures.frames; words = c.new-self-inside.ensures.words };
      can_be_read = refl;
      start = c.in_ok-task.ensures.starts (store_of k.cells k.released);
    } in
    started v n c.args.frames function words c.add_words.new.words.items all old new (loading i.cells) (loading k) c.in-Some.ensures.some (ap (λ (x : Seen). x.code) c.self.view_is) same made (ap loading_of c.self.view_is) refl start

pub returns-clause-uses : goal.returns-clause-uses
returns-clause-uses c =
    let f = c.in-Some.function.now in
    let given = c.args.arguments.now in
    record {
      function = f;
      is = subst (λ (x : Seen). slice_get x.code.code.functions.items c.args.number ≡ Some f) c.self.view_is c.in-Some.ensures.some;
      kept = with_items_is c.self.inside.kept c.use_up.new.kept (search rules)
          ∙ c.use_up.ensures.is
          ∙ ap (λ ps. used_up ps given c.as_mut_slice.result.now) c.as_slice-params.ensures.same
          ∙ ap (λ os. used_up f.params given os) (c.as_mut_slice.ensures.value ∙ ap (λ (x : Seen). x.kept) c.self.view_is);
    }

pub add_credits-requires : goal.add_credits-requires
add_credits-requires c =
    let fit = loadable c.self.inside.verified.code c.args.number c.in-Some.function.now c.in-Some.ensures.sound c.in-Some.ensures.some in
    record {
      sizes = subst AreSizes (sym c.as_slice-credits.ensures.value) fit.credits.sizes;
      pushed = c.self.invariant.empty;
      small = c.self.invariant.small;
    }

pub returns-then-arguments-params-clause-refused : goal.returns-then-arguments-params-clause-refused
returns-then-arguments-params-clause-refused c =
    let f = c.in-Some.function.now in
    let at = subst (λ (x : Seen). slice_get x.code.code.functions.items c.args.number ≡ Some f) c.self.view_is c.in-Some.ensures.some in
    inl (inr (f, at, λ e. c.if-arguments-params.true (e ∙ ap length (sym c.as_slice-params.ensures.same))))

pub returns-in_err-can_take-clause-refused : goal.returns-in_err-can_take-clause-refused
returns-in_err-can_take-clause-refused c =
    let p = err_from_is_err_and c.from_residual.result c.from_residual.ensures.1 in
    let kept = c.as_slice-kept.ensures.value ∙ ap (λ (x : Seen). x.kept) c.self.view_is in
    rw (p.1, p.2) (wordless c.args.number c.args.arguments.now c.as_slice-kept.result.now c.args.self.now c.in_err-can_take.field-0.0 kept c.in_err-can_take.ensures.refused)

pub returns-in_err-add_words-clause-refused : goal.returns-in_err-add_words-clause-refused
returns-in_err-add_words-clause-refused c =
    let p = err_from_is_err_and c.from_residual-in_err-add_words.result c.from_residual-in_err-add_words.ensures.1 in
    let kept = c.as_slice-kept.ensures.value ∙ ap (λ (x : Seen). x.kept) c.self.view_is in
    rw (p.1, p.2) (wordless c.args.number c.args.arguments.now c.as_slice-kept.result.now c.args.self.now c.in_err-add_words.field-0.0 kept c.in_err-add_words.ensures.refused)

pub returns-in_err-add_credits-clause-refused : goal.returns-in_err-add_credits-clause-refused
returns-in_err-add_credits-clause-refused c =
    let p = err_from_is_err_and c.from_residual-in_err-add_credits.result c.from_residual-in_err-add_credits.ensures.1 in
    let given = c.args.arguments.now in
    let words = map (argument_word c.args.self.now.kept) given in
    let f = c.in-Some.function.now in
    let at = subst (λ (x : Seen). slice_get x.code.code.functions.items c.args.number ≡ Some f) c.self.view_is c.in-Some.ensures.some in
    let kept = c.as_slice-kept.ensures.value ∙ ap (λ (x : Seen). x.kept) c.self.view_is in
    let mapped = map (argument_word c.as_slice-kept.result.now) given in
    let same : c.add_words.new.words.items ≡ words = c.in_ok-add_words.ensures.words ∙ ap (λ (xs : List ℕ). xs ++ mapped) (c.reserve.ensures.items ∙ c.memory_of-words.ensures.none) ∙ ap (λ ks. map (argument_word ks) given) kept in
    rw (p.1, p.2) (unstarted_on c.args.number f given c.add_words.new.words.items c.as_slice-credits.result.now c.args.self.now (loading c.self.inside.cells) c.in_err-add_credits.field-0.0 at c.as_slice-credits.ensures.value same (ap loading_of c.self.view_is) c.in_err-add_credits.ensures.refused)
