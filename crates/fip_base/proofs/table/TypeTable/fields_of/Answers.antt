use Rattle.std.proofs.Common.{sym, ◌∙◌, ap}
use Rattle.fip_base.proofs.TableReads.{fields_at_read}
use Rattle.fip_base.proofs.table.TypeTable.fields_of.Goals as goal

pub returns : goal.returns
returns c =
    record {
      fields = c.fields.ensures.same ∙ ap (λ s. s.fields) c.index-constructors_of-c.is
          ∙ rw c.constructors_of.ensures.same (sym (fields_at_read _ c.args.c _ c.requires.of_type));
    }
