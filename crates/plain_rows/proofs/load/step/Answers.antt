use Rattle.std.proofs.Common.{◌∷◌, sym, subst, List}
use Rattle.std.specs.Prelude.{OnOk, ℤ}
use Rattle.std.specs.Int.{w64}
use Rattle.std.proofs.lemmas.Int.{to_z-of_z}
use Rattle.plain_rows.specs.declared.store.Value.TheVariants as V
use Rattle.fip_base.specs.fip_language.Values.{Value as Tree}
use Rattle.plain_rows.specs.declared.load.Task.{Task}
use Rattle.plain_rows.specs.Loading.{last_first, Loads}
use Rattle.plain_rows.proofs.Loaded.{IsOf, leaf_result, int_is}
use Rattle.plain_rows.proofs.load.step.Goals as goal

pub returns-then-ty-eq0-clause-loads : goal.returns-then-ty-eq0-clause-loads
returns-then-ty-eq0-clause-loads c = λ few.
    let a = c.args in
    let m = c.in-Whole in
    let ts = last_first a.tasks.now.items in
    subst (λ (t : Task). OnOk c.add.result ((whole : List Tree) → Loads a.table.now a.cells.now.cells (t ∷ ts) a.rows.now whole → Loads a.table.now a.cells.now.cells ts c.add.new.rows whole)) (sym m.is)
    (let rounded = to_z-of_z w64 c.int_of_bits.result c.int_of_bits.ensures.fits in leaf_result a.table.now a.cells.now.cells m.ty m.word ts a.rows.now c.add.new.rows _ c.add.result c.add.ensures.store c.add.ensures.values (subst (λ (j : ℤ). IsOf a.table.now a.cells.now.cells m.ty m.word a.rows.now.store (V.Int j)) (sym rounded) (int_is a.table.now a.cells.now.cells m.ty m.word a.rows.now.store _ c.if-ty-eq0.true c.int_of_bits.ensures.bits c.int_of_bits.ensures.fits)))
