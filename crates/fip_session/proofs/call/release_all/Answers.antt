use Rattle.std.proofs.Common.{◌≡◌, inl, inr, ◌+◌, ℕ, IfSome, OnOk, refl, sym, ap, subst}
use Rattle.fip_language.specs.Store.{count}
use Rattle.fip_machine.specs.machine_cells.Small.{store_of}
use Rattle.store_trees.specs.Added.{places_of}
use Rattle.fip_session.proofs.GivingUp.{up_both, up_tree, store_up}
use Rattle.fip_session.proofs.call.release_all.Goals as goal

pub returns-in-Some : goal.returns-in-Some
returns-in-Some c = record {
  gone = λ small st ls used ps can.
      let old = c.args.cells.now in
      let mid = c.release.new.cells in
      let new = c.release_credits.new.cells in
      let trees = c.in-Some.trees in
      let are : (q : ℕ) → count q (places_of trees.list.items) ≡ used q = subst (λ o. IfSome o (λ t. (q : ℕ) → count q (places_of t.list.items) ≡ used q)) c.in-Some.is can.are in
      let first = up_tree old.cells mid.cells old.released mid.released (places_of trees.list.items) used st c.release.ensures.cells c.release.ensures.released (λ q. sym (are q)) in
      let st' = store_up used (store_of old.cells old.released) (store_of mid.cells mid.released) st first in
      let then = up_tree mid.cells new.cells mid.released new.released ps (λ q. count q ps) st' c.release_credits.ensures.cells (c.release_credits.ensures.released ps can.words can.few) (λ q. refl) in
      inl (up_both used (λ q. count q ps) (λ q. used q + count q ps) (store_of old.cells old.released) (store_of mid.cells mid.released) (store_of new.cells new.released) (λ q. refl) first then);
}
