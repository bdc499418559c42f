use Rattle.std.proofs.Common.{◌≡◌, ◌∙◌, sym, ap, subst}
use Rattle.std.specs.Prelude.{slice_index, IfOk}
use Rattle.command_library.specs.MadeTree.{keys_of_first}
use Rattle.command_library.specs.Reading.{ints}
use Rattle.command_library.proofs.Waiting.{no_types, no_words, some_first, first_of}
use Rattle.command_library.proofs.keys.first_keys.Goals as goal

pub returns-then-types-eq0 : goal.returns-then-types-eq0
returns-then-types-eq0 c = record {
  keys = λ vs small p. ap ints c.new.ensures.items ∙ sym (ap keys_of_first (sym p.values) ∙ no_types c.args.table.now c.args.cells.now.cells c.args.types.now p.trees p.stand c.if-types-eq0.true);
}

pub returns-then-words-eq0 : goal.returns-then-words-eq0
returns-then-words-eq0 c = record {
  keys = λ vs small p. ap ints c.new-then-words-eq0.ensures.items ∙ sym (ap keys_of_first (sym p.values) ∙ no_words c.args.table.now c.args.cells.now.cells c.args.words.now p.trees p.are c.if-words-eq0.true);
}

pub returns : goal.returns
returns c = record {
  keys = λ vs small p.
      let types = c.args.types.now in
      let words = c.args.words.now in
      let first = first_of c.args.table.now c.args.cells.now.cells types words p.trees (slice_index types 0) (slice_index words 0) p.stand p.are (some_first types c.if-types-eq0.false) (some_first words c.if-words-eq0.false) in
      subst (λ ks. IfOk c.keys_in.result (λ r. ints r.items ≡ ks)) (sym first.2 ∙ ap keys_of_first p.values) (c.keys_in.ensures.keys small first.0 first.1);
}
