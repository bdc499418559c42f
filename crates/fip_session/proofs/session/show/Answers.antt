use Rattle.std.proofs.Common.{◌≡◌, ◌∙◌, ◌++◌, [], ap, sym, subst}
use Rattle.std.specs.Prelude.{option_map}
use Rattle.std.proofs.lemmas.Option.{same_Some}
use Rattle.fip_language.specs.PrintedText.{printed}
use Rattle.fip_language.specs.Store.{value_of}
use Rattle.session_lines.specs.command_outcome.Texts.{line_end}
use Rattle.value_text.specs.Standing.{Stands}
use Rattle.fip_session.specs.Planned.{held_by}
use Rattle.fip_session.specs.declared.book.Held.{Held}
use Rattle.fip_session.proofs.Showing.{printed_on}
use Rattle.fip_session.proofs.session.show.Goals as goal

pub returns-in_ok-text_of-in-Some-clause-shown : goal.returns-in_ok-text_of-in-Some-clause-shown
returns-in_ok-text_of-in-Some-clause-shown c = λ ls finds few l is stands.
    let tb = c.args.book.now.table.now in
    let h = c.in-Some.held in
    let e : h ≡ held_by l = same_Some h (held_by l) (c.in-Some.ensures.held ∙ finds c.args.name.now ∙ ap (option_map held_by) is) in
    let k = ap (λ (h : Held). h.ty) e in
    let w = ap (λ (h : Held). h.word) e in
    let text = c.in_ok-text_of-in-Some.ensures.text few l.tree (subst (λ k. Stands tb c.args.cells.now.cells k l.tree) (sym k) stands) (sym w) in
    ap (λ t. t ++ line_end) text ∙ printed_on tb h.ty (value_of l.tree) [] line_end ∙ ap (λ k. printed tb k (value_of l.tree) line_end) k
