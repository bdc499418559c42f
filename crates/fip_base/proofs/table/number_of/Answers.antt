use Rattle.std.proofs.Common.{refl, arith, sym, ◌∙◌, rules}
use Rattle.std.proofs.lemmas.Bool.Decides.{Decides-eqb}
use Rattle.std.proofs.lemmas.Slice.Eq.{slice_eq-Decides}
use Rattle.std.proofs.lemmas.Option.{slice_get_read}
use Rattle.std.proofs.lemmas.Bool.{both_ways}
use Rattle.fip_base.proofs.TableReads.{IsNamed_none_more, IsNamed_within}
use Rattle.fip_base.proofs.table.number_of.Goals as goal

pub returns-then-eq-clause-found : goal.returns-then-eq-clause-found
returns-then-eq-clause-found c = (
  c.index-constructors-i.result,
  slice_get_read c.args.constructors.now _ c.loop-i.i c.index-constructors-i.result refl (search (rules, c.loop-i-test.true)) c.index-constructors-i.is,
  sym c.name.ensures.same ∙ (slice_eq-Decides Decides-eqb _ _ _ c.eq.ensures).0 c.if-eq.true,
)

pub loop-i-preserved : goal.loop-i-preserved
loop-i-preserved c =
    IsNamed_none_more c.args.constructors.now c.args.name.now c.loop-i.i c.index-constructors-i.result c.index-constructors-i.is
    (λ e. both_ways c.eq.result c.if-eq.false ((slice_eq-Decides Decides-eqb _ _ _ c.eq.ensures).1 (c.name.ensures.same ∙ e))) c.loop-i.invariant

pub returns-clause-none : goal.returns-clause-none
returns-clause-none c n is = c.loop-i.invariant n (omega (arith, IsNamed_within c.args.constructors.now c.args.name.now n is, c.loop-i-test.false)) is
