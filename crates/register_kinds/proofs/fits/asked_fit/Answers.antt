use Rattle.std.proofs.Common.{sym, ◌∙◌, refl}
use Rattle.std.proofs.lemmas.Bool.{ne_eqb}
use Rattle.register_kinds.proofs.Sparse.{sparse_else, sparse_then}
use Rattle.register_kinds.proofs.fits.asked_fit.Goals as goal

pub returns-then-busy-asked : goal.returns-then-busy-asked
returns-then-busy-asked c = record {
  is = λ l b a. sym (ne_eqb c.args.busy c.args.asked.now.busy c.if-busy-asked.true)
      ∙ sparse_else c.args.tested c.args.kinds.now c.args.known.now c.args.busy c.args.asked.now.busy l
      b a.busy c.if-busy-asked.true;
  same = refl;
}

pub returns-clause-is : goal.returns-clause-is
returns-clause-is c =
    λ l b a. c.asks_fit.ensures.is
    ∙ sparse_then c.args.tested c.args.kinds.now c.args.known.now c.as_slice.result.now c.args.busy
    c.args.asked.now.busy l b a.busy (c.as_slice.ensures.value ∙ a.asks) c.if-busy-asked.false
