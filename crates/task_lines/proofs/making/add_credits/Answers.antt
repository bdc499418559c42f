use Rattle.std.proofs.Common.{get_or, ◌∙◌, refl, ap, arith, ◌++◌, ◌∷◌, []}
use Rattle.task_lines.proofs.CellsMade.{crediting_on, crediting_ends, size_at}
use Rattle.task_lines.proofs.making.add_credits.Goals as goal

pub loop-size-preserved : goal.loop-size-preserved
loop-size-preserved c = λ sizes flags.
    let ks = c.args.credits.now in
    let i = c.loop-size.size-index in
    let lt = c.loop-size-test.true in
    let s = get_or ks i 0 in
    let z = size_at ks i s (omega (arith, lt)) refl sizes in
    let m = c.in_ok-credit.ensures.made z.0 z.1 in
    crediting_on ks i s c.args.loader.now c.loop-size.loader c.credit.new.loader c.args.words.now.items c.loop-size.words.items c.push.new.self.items (omega (arith, lt)) refl (c.loop-size.invariant sizes flags) (m.0, c.in_ok-push.ensures.items ∙ ap (λ w. c.loop-size.words.items ++ w ∷ []) m.1, m.2)

pub returns : goal.returns
returns c = record { made = λ sizes flags. crediting_ends c.args.credits.now c.loop-size.size-index c.args.loader.now c.loop-size.loader c.args.words.now.items c.loop-size.words.items (let f = c.loop-size-test.false in omega (arith, f)) (c.loop-size.invariant sizes flags) }
