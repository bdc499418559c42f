use Rattle.std.proofs.Common.{◌≡◌, ◌<◌, ◌^◌, length, get_or, sym, ◌∙◌, ap, subst, ◌-◌, rules}
use Rattle.fip_language.specs.Table.{constructors}
use Rattle.fip_base.proofs.TableReads.{constructors_read}
use Rattle.fip_base.proofs.table.TypeTable.constructors_of.Goals as goal

the_row : (c : goal.After-constructors) → c.index.result.now ≡ constructors c.args.self.now c.args.ty
the_row c =
    c.index.ensures ∙ ap (λ tb. get_or tb (c.args.ty - 1) c.index.result.now) c.self.view_is
    ∙ sym (constructors_read c.args.self.now c.args.ty c.index.result.now (search (rules, c.in_default)) c.requires.of_table)

pub returns-in_default-clause-same : goal.returns-in_default-clause-same
returns-in_default-clause-same c = c.constructors.ensures.same ∙ the_row c

pub returns-in_default-clause-few : goal.returns-in_default-clause-few
returns-in_default-clause-few c = subst (λ ss. length ss < 2 ^ 32) (the_row c) c.constructors.ensures.few
