use Rattle.std.proofs.Common.{◌≡◌, Bool, true, false, List, [], ◌∷◌, refl, sym, ap, subst, arith}
use Rattle.fip_language.specs.Store.{Placed, word_of}
use Rattle.fip_machine.specs.machine_cells.Small.{store_of}
use Rattle.fip_session.proofs.Sweeping.{Entries, Gathering, gathering_starts, gathering_few, gathering_on, gathering_ends, is_lodged}
use Rattle.fip_session.proofs.book.Book.all_trees.Goals as goal
use Rattle.fip_language.proofs.Facts.{true_of_not_false as is_whole}

pub loop-entry-init : goal.loop-entry-init
loop-entry-init c = λ small ls finds distinct stand apart.
    let gives = c.into_iter-entry-iterator.ensures.into_iter_gives in
    let tb = c.args.self.now.table.now in
    let cs = c.args.cells.now.cells in
    let list = c.none-trees.result.list.items in
    subst (λ (es : Entries). Gathering tb cs ls es list) (sym gives.0) (gathering_starts tb cs c.args.self.now.held ls list gives.5 finds distinct stand c.none-trees.ensures.empty)

pub loop-entry-preserved : goal.loop-entry-preserved
loop-entry-preserved c = λ small ls finds distinct stand apart.
    let tb = c.args.self.now.table.now in
    let cs = c.args.cells.now.cells in
    let list = c.loop-entry.trees.list.items in
    let new = c.add.new.self.list.items in
    let k = c.in-Some.entry.0.now in
    let h = c.in-Some.entry.1.now in
    let g : Gathering tb cs ls ((k, h) ∷ c.next.new.self) list = subst (λ (es : Entries). Gathering tb cs ls es list) c.in-Some.ensures.steps (c.loop-entry.invariant small ls finds distinct stand apart) in
    let i = is_lodged tb cs ls k h c.next.new.self list g in
    let few = gathering_few tb cs ls k h c.next.new.self list g i (store_of cs c.args.cells.now.released) apart in
    let all = c.in_ok-add.ensures.all (omega (arith, small)) i.lodged.tree i.stands i.word in
    let many = c.in_ok-add.ensures.many (omega (arith, small)) i.lodged.tree i.stands i.word in
    gathering_on tb cs ls k h c.next.new.self list g i new (all (is_whole c.in_ok-add.field-0 (λ no. (let m = many no in let z : ⊥ = omega (arith, m, few, small) in z))))

pub returns : goal.returns
returns c = record {
  trees = λ small ls finds distinct stand apart q.
      let tb = c.args.self.now.table.now in
      let cs = c.args.cells.now.cells in
      let list = c.loop-entry.trees.list.items in
      gathering_ends tb cs ls list q (subst (λ (es : Entries). Gathering tb cs ls es list) c.in-None.ensures.steps.0 (c.loop-entry.invariant small ls finds distinct stand apart));
}
