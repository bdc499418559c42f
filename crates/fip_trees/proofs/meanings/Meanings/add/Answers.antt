use Rattle.std.proofs.Common.{◌∙◌, sym, ap, not}
use Rattle.fip_trees.specs.Names.{is_among, names, with_meaning}
use Rattle.fip_trees.proofs.MeaningLists.{among_seen, added_new, added_old, none_seen}
use Rattle.indexmap.proofs.CallerLemmas.{insert_entry-new}
use Rattle.fip_trees.proofs.meanings.Meanings.add.Goals as goal

pub returns-then-contains_key-clause-new : goal.returns-then-contains_key-clause-new
returns-then-contains_key-clause-new g c = ap not (sym c.if-contains_key.true ∙ c.contains_key.ensures ∙ among_seen (λ k. k.now) c.args.name.now c.self.inside.meanings.entries ∙ ap (λ es. is_among c.args.name.now (names es)) c.self.view_is)

pub returns-then-contains_key-clause-added : goal.returns-then-contains_key-clause-added
returns-then-contains_key-clause-added g c = added_old c.args.self.now c.args.name.now c.args.meaning (sym (sym c.if-contains_key.true ∙ c.contains_key.ensures ∙ among_seen (λ k. k.now) c.args.name.now c.self.inside.meanings.entries ∙ ap (λ es. is_among c.args.name.now (names es)) c.self.view_is))

pub returns-clause-new : goal.returns-clause-new
returns-clause-new g c = ap not (sym c.if-contains_key.false ∙ c.contains_key.ensures ∙ among_seen (λ k. k.now) c.args.name.now c.self.inside.meanings.entries ∙ ap (λ es. is_among c.args.name.now (names es)) c.self.view_is)

pub returns-clause-added : goal.returns-clause-added
returns-clause-added g c =
    added_new (λ k. k.now) c.self.inside.meanings.entries c.insert.new.self.entries c.args.name c.args.meaning (c.in_ok-insert.ensures.entries ∙ insert_entry-new _ c.self.inside.meanings c.args.name c.args.meaning (none_seen _ (sym c.contains_key.ensures ∙ c.if-contains_key.false))) (sym (among_seen (λ k. k.now) c.args.name.now c.self.inside.meanings.entries) ∙ sym c.contains_key.ensures ∙ c.if-contains_key.false)
    ∙ ap (λ es. with_meaning es c.args.name.now c.args.meaning) c.self.view_is
