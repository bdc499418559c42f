use Rattle.std.proofs.Common.{rules, ◌≡◌, ◌==◌, false, ◌∷◌, refl, sym, ap, subst, ◌∙◌, take}
use Rattle.fip_grammar.specs.Cut.{Blank, Comment, Cut}
use Rattle.fip_grammar.specs.Claims.{IsFront}
use Rattle.fip_grammar.specs.WordView as V
use Rattle.fip_grammar.proofs.Fronts.{gap_lf, gap_blank, gap_comment, gap_none, cut_first}
use Rattle.fip_grammar.proofs.lexer.first_piece.Goals as goal

pub returns-then-first-eq10 : goal.returns-then-first-eq10
returns-then-first-eq10 c =
    let ten : c.in-Some.first ≡ 10 = search rules in
    (Blank 10, gap_lf c.args.text.now c.in-Some.rest.now c.args.place (c.in-Some.ensures ∙ ap (λ b. b ∷ c.in-Some.rest.now) ten), refl)

pub returns-then-is_blank : goal.returns-then-is_blank
returns-then-is_blank c =
    let other : (c.in-Some.first == 10) ≡ false = search rules in (
      Blank c.in-Some.first,
      subst (IsFront c.args.text.now c.args.place (Blank c.in-Some.first)) (sym c.along.ensures) (gap_blank c.args.text.now c.in-Some.rest.now c.in-Some.first c.args.place c.in-Some.ensures (sym c.if-is_blank.ensures) other),
      refl,
    )

pub returns-in-Some-comment_rest : goal.returns-in-Some-comment_rest
returns-in-Some-comment_rest c =
    let more = c.in-Some-comment_rest.more.now in
    let n = c.line_length.result in (
      Comment (take n more),
      subst (IsFront c.args.text.now c.args.place (Comment (take n more))) (sym c.along-in-Some-comment_rest.ensures) (gap_comment c.args.text.now more n c.args.place (c.in-Some.ensures ∙ c.in-Some-comment_rest.ensures) c.line_length.ensures.exact),
      refl,
    )

pub returns-in-Some-first_word : goal.returns-in-Some-first_word
returns-in-Some-first_word c =
    let text = c.args.text.now in
    let n = c.in-Some-first_word.count in
    let w = V.word c.in-Some-first_word.word in
    let gap = gap_none text c.in-Some.rest.now c.in-Some.first c.in-Some.ensures (sym c.if-is_blank.ensures) c.in-None-comment_rest.ensures in
    (take n text, subst (IsFront text c.args.place (Cut (take n text) w)) (sym c.along-in-Some-first_word.ensures) (cut_first text n w c.args.place gap c.in-Some-first_word.ensures))
