use Rattle.std.proofs.Common.{◌≡◌, ◌∙◌, ◌++◌, ◌∷◌, sym, ap, subst, rules}
use Rattle.fip_language.specs.PrintedText.{printed_lines}
use Rattle.fip_language.specs.Store.{values_of}
use Rattle.value_text.specs.Standing.{StandAll}
use Rattle.fip_host.proofs.Lines.{IsPrinting, line_printed, lines_printed, sides}
use Rattle.fip_host.proofs.hosted.values.lines_text.Goals as goal

pub loop-ty-init : goal.loop-ty-init
loop-ty-init c = λ xs small h are.
    let tb = c.args.table.now in
    let cs = c.args.cells.now.cells in
    let a : c.into_iter-ty-iterator.result.a.rest.now ≡ c.args.types.now = search rules in
    let b : c.into_iter-ty-iterator.result.b.rest.now ≡ c.args.words.now = search rules in (
      xs,
      subst (λ ks. StandAll tb cs ks xs) (sym a) h,
      b ∙ are,
      ap (λ out. out ++ printed_lines tb c.into_iter-ty-iterator.result.a.rest.now (values_of xs)) c.new-text.ensures.items ∙ ap (λ ks. printed_lines tb ks (values_of xs)) a,
    )

pub loop-ty-preserved : goal.loop-ty-preserved
loop-ty-preserved c = λ xs small h are.
    let tb = c.args.table.now in
    let cs = c.args.cells.now.cells in
    let z = c.in-Some.ensures.steps in
    let out = c.loop-ty.text.items in
    let whole = printed_lines tb c.args.types.now (values_of xs) in
    let k = subst (λ ks. IsPrinting tb cs ks (c.in-Some.word.now ∷ c.next.new.self.b.rest.now) out whole) z.0
    (subst (λ ws. IsPrinting tb cs c.loop-ty.ty-iterator.a.rest.now ws out whole) z.1 (c.loop-ty.invariant xs small h are)) in
    line_printed tb cs c.in-Some.ty.now c.next.new.self.a.rest.now c.in-Some.word.now c.next.new.self.b.rest.now out c.in_ok-text.text.items c.push.new.self.items whole (c.in_ok-text.ensures.canonical small) c.in_ok-push.ensures.items k

pub returns : goal.returns
returns c = record {
  lines = λ xs small h are. lines_printed c.args.table.now c.args.cells.now.cells c.loop-ty.ty-iterator.a.rest.now c.loop-ty.ty-iterator.b.rest.now c.loop-ty.text.items (printed_lines c.args.table.now c.args.types.now (values_of xs)) (sides c.loop-ty.ty-iterator.a c.loop-ty.ty-iterator.b c.in-None.ensures.steps) (c.loop-ty.invariant xs small h are);
}
