use Rattle.std.proofs.Common.{◌≡◌, ◌∙◌, List, [], ◌∷◌, ◌++◌, map, ℕ, ap, sym, subst}
use Rattle.std.proofs.lemmas.List.{append_assoc, append-nil, map-append}
use Rattle.fip_language.specs.Store.{places}
use Rattle.cell_store.specs.Reported.{Released}
use Rattle.machine_cells.specs.Small.{IsSmall, store_of}
use Rattle.machine_cells.specs.Counting.{CountsReleased}
use Rattle.machine_cells.proofs.Counts.{counts_on}
use Rattle.machine_cells.specs.Pending.{HeldBut}
use Rattle.machine_semantics.proofs.Reading.{tree_read}
use Rattle.machine_cells.proofs.Pendings.{first_held, popped, all_done}
use Rattle.machine_cells.proofs.release.release_tree.Goals as goal

pub loop-next-init : goal.loop-next-init
loop-next-init g c = record {
  cells = c.release_root.ensures.cells;
  counted = c.release_root.ensures.counted;
  held = λ small empty x last tree goes.
      let s = store_of (g.C.Cells.cells c.args.cells.now) (g.C.Cells.released c.args.cells.now) in
      let z = first_held c.args.types.now s last c.args.ty c.args.word c.in-Some.root x (tree_read c.args.types.now s c.args.ty c.args.word x tree) goes (sym c.entry_of.ensures ∙ c.in-Some.is) in
      let but = subst (λ (ps : List ℕ). HeldBut c.args.types.now s s last ps c.in-Some.root z.0 z.1) (sym empty) z.3 in
      (z.0 ∷ [], z.1, z.2, c.release_root.ensures.released small s last z.0 z.1 but, λ first ts reported. c.release_root.ensures.reported small s last z.0 z.1 but first ts reported);
}

pub loop-next-preserved : goal.loop-next-preserved
loop-next-preserved g c = record {
  cells = c.release_root-in-Some-pop.ensures.cells ∙ c.pop.ensures.cells ∙ c.loop-next.invariant.cells;
  counted =
      let m = c.release_root-in-Some-pop.new.cells in
      let counts = c.release_root-in-Some-pop.new.freed in
      let k = c.loop-next.cells in
      let more = subst (λ cs. CountsReleased cs (g.C.Cells.released k) c.loop-next.freed (g.C.Cells.cells m) (g.C.Cells.released m) counts) c.pop.ensures.cells (subst (λ rs. CountsReleased (g.C.Cells.cells c.pop.new.self) rs c.loop-next.freed (g.C.Cells.cells m) (g.C.Cells.released m) counts) c.pop.ensures.released c.release_root-in-Some-pop.ensures.counted) in
      counts_on (g.C.Cells.cells c.args.cells.now) (g.C.Cells.cells k) (g.C.Cells.cells m) (g.C.Cells.released c.args.cells.now) (g.C.Cells.released k) (g.C.Cells.released m) c.args.freed.now c.loop-next.freed counts c.loop-next.invariant.counted more;
  held = λ small empty x last tree goes.
      let s = store_of (g.C.Cells.cells c.args.cells.now) (g.C.Cells.released c.args.cells.now) in
      let now = store_of (g.C.Cells.cells c.loop-next.cells) (g.C.Cells.released c.loop-next.cells) in
      let after = store_of (g.C.Cells.cells c.pop.new.self) (g.C.Cells.released c.pop.new.self) in
      let held = c.loop-next.invariant.held small empty x last tree goes in
      let done = held.0 in
      let top = popped c.args.types.now s now last (g.C.Cells.pushed c.pop.new.self) c.in-Some-pop.next (g.C.Cells.pushed c.loop-next.cells) held.1 c.in-Some-pop.ensures.pushed held.3 in
      let same : now ≡ after = (λ i. store_of (sym c.pop.ensures.cells i) (sym c.pop.ensures.released i)) in
      let few : IsSmall (g.C.Cells.cells c.pop.new.self) = subst IsSmall (sym (c.pop.ensures.cells ∙ c.loop-next.invariant.cells)) small in
      let but = subst (λ t. HeldBut c.args.types.now s t last (g.C.Cells.pushed c.pop.new.self) c.in-Some-pop.next top.0 top.1) same top.3 in
      let order = append_assoc done (top.0 ∷ []) top.1 ∙ ap (λ ps. done ++ ps) top.2 ∙ held.2 in (
        done ++ top.0 ∷ [],
        top.1,
        order,
        c.release_root-in-Some-pop.ensures.released few s last top.0 top.1 but,
        λ first ts reported.
            let more = c.release_root-in-Some-pop.ensures.reported few s last top.0 top.1 but first (ts ++ map (λ p. Released p) done) (c.pop.ensures.reported first (ts ++ map (λ p. Released p) done) (held.4 first ts reported)) in
            let all = append_assoc ts (map (λ p. Released p) done) (Released top.0 ∷ []) ∙ ap (λ us. ts ++ us) (sym (map-append (λ p. Released p) done (top.0 ∷ []))) in
            subst (λ us. g.C.Cells.was_reported first us c.release_root-in-Some-pop.new.cells) all more,
      );
}

pub returns-in_default-pop-clause-released : goal.returns-in_default-pop-clause-released
returns-in_default-pop-clause-released g c small empty x last tree goes =
    let s = store_of (g.C.Cells.cells c.args.cells.now) (g.C.Cells.released c.args.cells.now) in
    let now = store_of (g.C.Cells.cells c.loop-next.cells) (g.C.Cells.released c.loop-next.cells) in
    let held = c.loop-next.invariant.held small empty x last tree goes in
    let over = all_done c.args.types.now s now last (g.C.Cells.pushed c.loop-next.cells) held.1 c.in_default-pop.ensures.pushed.0 held.3 in
    (λ i. store_of (c.pop.ensures.cells i) (c.pop.ensures.released i)) ∙ over.0

pub returns-in_default-pop-clause-reported : goal.returns-in_default-pop-clause-reported
returns-in_default-pop-clause-reported g c small empty x last tree goes first ts reported =
    let s = store_of (g.C.Cells.cells c.args.cells.now) (g.C.Cells.released c.args.cells.now) in
    let now = store_of (g.C.Cells.cells c.loop-next.cells) (g.C.Cells.released c.loop-next.cells) in
    let held = c.loop-next.invariant.held small empty x last tree goes in
    let over = all_done c.args.types.now s now last (g.C.Cells.pushed c.loop-next.cells) held.1 c.in_default-pop.ensures.pushed.0 held.3 in
    let all : held.0 ≡ places x = sym (append-nil held.0) ∙ ap (λ ps. held.0 ++ ps) over.1 ∙ held.2 in
    subst (λ ps. g.C.Cells.was_reported first (ts ++ map (λ p. Released p) ps) c.pop.new.self) all (c.pop.ensures.reported first (ts ++ map (λ p. Released p) held.0) (held.4 first ts reported))

pub returns-in_default-pop-clause-counted : goal.returns-in_default-pop-clause-counted
returns-in_default-pop-clause-counted g c = subst (λ cs. CountsReleased (g.C.Cells.cells c.args.cells.now) (g.C.Cells.released c.args.cells.now) c.args.freed.now cs (g.C.Cells.released c.pop.new.self) c.loop-next.freed) (sym c.pop.ensures.cells) (subst (λ rs. CountsReleased (g.C.Cells.cells c.args.cells.now) (g.C.Cells.released c.args.cells.now) c.args.freed.now (g.C.Cells.cells c.loop-next.cells) rs c.loop-next.freed) (sym c.pop.ensures.released) c.loop-next.invariant.counted)
