use Rattle.std.proofs.Common.{◌++◌, ap, sym, ◌∙◌, subst}
use Rattle.fip_base.specs.fip_language.Table.{HaveTypes}
use Rattle.fip_base.specs.fip_language.PrintedText.{printed_lines}
use Rattle.plain_rows.specs.Rows.{StandAll}
use Rattle.plain_rows.proofs.Standing.{sides}
use Rattle.plain_rows.proofs.Printed.{lines_first, lines_end}
use Rattle.plain_rows.proofs.print.print_values.Goals as goal

pub loop-ty-preserved : goal.loop-ty-preserved
loop-ty-preserved c = λ vs h t.
    let tb = c.args.types.now in
    let s = c.args.rows.now.store in
    let z = c.in-Some.ensures.steps in
    let k = c.loop-ty.invariant vs h t in
    lines_first tb s c.in-Some.ty.now c.next.new.self.a.rest.now c.in-Some.value.now c.next.new.self.b.rest.now k.0 c.loop-ty.text.items c.print_value.new.out.items c.push.new.self.items _ (subst (λ ks. HaveTypes tb ks k.0) z.0 k.1) (subst (λ ws. StandAll s ws k.0) z.1 k.2) c.in_ok-print_value.ensures.prints c.in_ok-push.ensures.items (ap (λ ks. c.loop-ty.text.items ++ printed_lines tb ks k.0) (sym z.0) ∙ k.3)

pub returns : goal.returns
returns c = record {
  lines = λ vs h t.
      let k = c.loop-ty.invariant vs h t in
      lines_end c.args.types.now c.args.rows.now.store c.loop-ty.ty-iterator.a.rest.now c.loop-ty.ty-iterator.b.rest.now k.0 c.loop-ty.text.items _ k.1 k.2 (sides c.loop-ty.ty-iterator.a c.loop-ty.ty-iterator.b c.in-None.ensures.steps) k.3;
}
