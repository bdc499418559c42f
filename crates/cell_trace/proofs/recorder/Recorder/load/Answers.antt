use Rattle.std.proofs.Common.{◌≡◌, ◌≢◌, ◌<◌, ◌∙◌, ℕ, None, Some, IfSome, IfNone, refl, sym, ap, subst}
use Rattle.cell_store.specs.Cells.{Cells, cell_at, IsAfter}
use Rattle.cell_store.specs.Made.{Stored}
use Rattle.cell_trace.specs.Taped.{Recorded}
use Rattle.cell_trace.proofs.Tapes.{HasLoaded, left_behind, first_loaded, next_loaded, less_left}
use Rattle.cell_trace.proofs.recorder.Recorder.load.Goals as goal

pub loop-next-init : goal.loop-next-init
loop-next-init c =
    let same : c.self.inside.cells.cells ≡ c.args.self.now.store.cells = ap (λ (r : Recorded). r.store.cells) c.self.view_is in
    let o = c.after-next.result in
    record {
      same = refl;
      there = subst (λ (cs : Cells). IfSome o (λ q. cell_at cs q ≢ None)) same c.after-next.ensures.there;
      loaded = first_loaded c.args.self.now.store.cells o c.args.self.now.tape (subst (λ (cs : Cells). IfSome o (λ q. (r : ℕ) → IsAfter None r → r < q → cell_at cs r ≡ None)) same c.after-next.ensures.first) (subst (λ (cs : Cells). IfNone o ((r : ℕ) → IsAfter None r → cell_at cs r ≡ None)) same c.after-next.ensures.none);
    }

pub loop-next-smaller : goal.loop-next-smaller
loop-next-smaller c =
    let cs = c.loop-next.self.store.cells in
    let p = c.in-Some.place in
    let o = c.after-next-in-Some.result in
    let there : cell_at cs p ≢ None = subst (λ n. IfSome n (λ q. cell_at cs q ≢ None)) c.in-Some.is c.loop-next.invariant.there in
    let less = less_left cs p o there c.after-next-in-Some.ensures.following in
    let same : c.load_cell.new.self.store.cells ≡ cs = ap (λ (s : Stored). s.cells) c.load_cell.ensures.same in
    subst (λ n. left_behind c.load_cell.new.self.store.cells o < left_behind cs n) (sym c.in-Some.is) (subst (λ ds. left_behind ds o < left_behind cs (Some p)) (sym same) less)

pub loop-next-preserved : goal.loop-next-preserved
loop-next-preserved c =
    let all = c.args.self.now.store.cells in
    let p = c.in-Some.place in
    let o = c.after-next-in-Some.result in
    let kept : c.loop-next.self.store.cells ≡ all = ap (λ (s : Stored). s.cells) c.loop-next.invariant.same in
    let same : c.self-in-Some.inside.cells.cells ≡ c.load_cell.new.self.store.cells = ap (λ (r : Recorded). r.store.cells) c.self-in-Some.view_is in
    let whole : c.self-in-Some.inside.cells.cells ≡ all = same ∙ ap (λ (s : Stored). s.cells) c.load_cell.ensures.same ∙ kept in
    let there : cell_at c.loop-next.self.store.cells p ≢ None = subst (λ n. IfSome n (λ q. cell_at c.loop-next.self.store.cells q ≢ None)) c.in-Some.is c.loop-next.invariant.there in
    record {
      same = c.load_cell.ensures.same ∙ c.loop-next.invariant.same;
      there = subst (λ (cs : Cells). IfSome o (λ q. cell_at cs q ≢ None)) same c.after-next-in-Some.ensures.there;
      loaded = next_loaded all p o c.args.self.now.tape c.loop-next.self.tape c.load_cell.new.self.tape (subst (λ (cs : Cells). cell_at cs p ≢ None) kept there) c.after-next-in-Some.ensures.following (subst (λ (cs : Cells). IfSome o (λ q. (r : ℕ) → IsAfter (Some p) r → r < q → cell_at cs r ≡ None)) whole c.after-next-in-Some.ensures.first) (subst (λ (cs : Cells). IfNone o ((r : ℕ) → IsAfter (Some p) r → cell_at cs r ≡ None)) whole c.after-next-in-Some.ensures.none) (λ ds limit a d at. c.in_ok-load_cell.ensures.loaded ds limit a d (ap (λ (cs : Cells). cell_at cs p) kept ∙ at)) (subst (λ n. HasLoaded all n c.args.self.now.tape c.loop-next.self.tape) c.in-Some.is c.loop-next.invariant.loaded);
    }
