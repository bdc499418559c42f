use Rattle.std.proofs.Common.{rules, ◌≡◌, ◌∙◌, false, sym, ap}
use Rattle.fip_grammar.specs.declared.Sign.TheVariants as S
use Rattle.fip_grammar.specs.declared.token.Word.TheVariants as W
use Rattle.fip_grammar.specs.WordView.{word}
use Rattle.fip_grammar.specs.Machine as machine
use Rattle.parser_state.specs.StateView as view
use Rattle.parser_state.proofs.Rows.{answers_as}
use Rattle.parser_bodies.proofs.BodyRows.{clause_default}
use Rattle.parser_bodies.proofs.body.clause_next.Goals as goal
use Rattle.parser_bodies.proofs.body.clause_next.Goals.{in_default-via-in-Sign+in_default, in_default-via-in_default}

pub returns-in_default : goal.returns-in_default
returns-in_default c =
    let b = view.under_operand c.args.body in
    let t = c.args.token in
    let m = view.open_match c.args.clauses (view.operand c.args.body) in
    let other : c.args.token.word ≡ W.Sign S.CurlyClose → ⊥ = λ e. elim c.in_default.branch [
      | in_default-via-in-Sign+in_default w ↦ search rules
      | in_default-via-in_default w ↦ search rules
    ] in
    let e1 = clause_default m b t.word t.place other in
    record {
      next = answers_as _ false _ _ _ (e1 ∙ ap (λ z. machine.pattern_wanted z b m (word t.word) t.place) (sym (ap view.open_patterns c.new.ensures.items))) c.pattern_wanted.ensures.next;
    }
