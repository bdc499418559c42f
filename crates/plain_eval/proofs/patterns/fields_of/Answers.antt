use Rattle.std.proofs.Common.{sym, subst}
use Rattle.fip_trees.specs.fip_language.Values.{Node}
use Rattle.plain_rows.specs.Rows.{Stands, StandAll}
use Rattle.plain_eval.proofs.Choosing.{row_fields}
use Rattle.plain_eval.proofs.patterns.fields_of.Goals as goal

pub returns-in-Row : goal.returns-in-Row
returns-in-Row c = record {
  fields = λ k vs h.
      let s = c.args.store.now in
      let r = row_fields s c.in-Row.row k vs (subst (λ w. Stands s w (Node k vs)) c.in-Row.is h) in
      subst (λ l. StandAll s l vs) (sym (c.fields.ensures.fields k r.0 r.1)) r.2;
}
