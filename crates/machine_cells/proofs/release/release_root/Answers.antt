-- The root is live no more, and at most 16 words were pushed for it.
use Rattle.std.proofs.Common.{◌≡◌, ◌≢◌, ℕ, ◌+◌, ◌≤◌, ◌/◌, ◌%◌, ◌∙◌, List, [], ◌∷◌, ◌++◌, None, Some, true, false, ap, sym, subst, arith, length}
use Rattle.std.specs.Prelude.{slice_get, slice_set, option_map}
use Rattle.std.proofs.lemmas.Option.{same_Some}
use Rattle.fip_language.specs.Table.{constructors}
use Rattle.fip_language.specs.Store.{Cell, words_of, places_of_all}
use Rattle.cell_store.specs.Cells.{cell_at, number}
use Rattle.cell_store.specs.Reported.{Released}
use Rattle.machine_cells.specs.Counting.{CountsReleased}
use Rattle.machine_cells.proofs.Counts.{counts_release}
use Rattle.machine_cells.specs.Small.{store_of}
use Rattle.machine_cells.specs.Pending.{entries, word, all_places, Held}
use Rattle.machine_cells.proofs.Pendings.{place_within, is_there, root_of, fields_held}
use Rattle.machine_cells.specs.Live.{number_live}
use Rattle.machine_cells.proofs.Living.{one_less}
use Rattle.machine_cells.proofs.release.release_root.Goals as goal

pub returns-in-Some-clause-less : goal.returns-in-Some-clause-less
returns-in-Some-clause-less g c =
    let cells = g.C.Cells.cells c.args.cells.now in
    let released = g.C.Cells.released c.args.cells.now in
    let live = one_less cells released c.in-Some.place c.in-Some.ensures.there c.in-Some.ensures.live in
    let same : number_live (g.C.Cells.cells c.push_fields.new.cells) (g.C.Cells.released c.push_fields.new.cells) ≡ number_live cells (slice_set released c.in-Some.place true) = (λ i. number_live ((c.push_fields.ensures.cells ∙ c.release.ensures.cells) i) ((c.push_fields.ensures.released ∙ c.release.ensures.released) i)) in
    let few = c.push_fields.ensures.few in
    let pushed = ap length c.release.ensures.pushed in
    omega (arith, live, same, few, pushed)

pub returns-in-Some-clause-released : goal.returns-in-Some-clause-released
returns-in-Some-clause-released g c small first last p ps h =
    let tb = c.args.types.now in
    let cs = g.C.Cells.cells c.args.cells.now in
    let rs = g.C.Cells.released c.args.cells.now in
    let pushed = g.C.Cells.pushed c.args.cells.now in
    let e = c.args.entry in
    let n = h.0 in
    let one : word n ≡ e = h.2 in
    let r = root_of tb first (store_of cs rs) last pushed e n h.1 h.5 in
    let cell : Cell = record { tag = n.tag; fields = words_of n.parts } in
    let within = place_within cs n.place (is_there (cell_at cs n.place) cell r.cell) in
    let place : n.place ≡ c.in-Some.place = let same = c.in-Some.ensures.same in omega (arith, one, within, small, same) in
    let type : n.type ≡ e / 4294967296 = omega (arith, one, within, small) in
    let cells = c.release.ensures.cells in
    let is : cell_at (g.C.Cells.cells c.release.new.self) c.in-Some.place ≡ Some cell = (λ i. cell_at (cells i) (sym place i)) ∙ r.cell in
    let tag : n.tag ≡ c.cell_tag.result = same_Some n.tag c.cell_tag.result (sym (ap (option_map (λ (x : Cell). x.tag)) is) ∙ c.cell_tag.ensures) in
    let fields : c.fields_of.result.now ≡ r.shape.fields = c.fields_of.ensures.fields r.shape ((λ i. slice_get (constructors tb (sym type i)) (sym tag i)) ∙ r.is_shape) in
    let on = fields_held tb first (store_of cs rs) last pushed n h.1 r.shape h.5 r.is_shape r.rest in
    let held = c.release.ensures.pushed in
    let room : length (g.C.Cells.pushed c.release.new.self) + length (entries c.fields_of.result.now (words_of n.parts)) ≤ number (g.C.Cells.cells c.release.new.self) = subst (λ (ps : List ℕ). length ps + length (entries c.fields_of.result.now (words_of n.parts)) ≤ number (g.C.Cells.cells c.release.new.self)) (sym held) (subst (λ (ts : List ℕ). length pushed + length (entries ts (words_of n.parts)) ≤ number (g.C.Cells.cells c.release.new.self)) (sym fields) (subst (λ ds. length pushed + length (entries r.shape.fields (words_of n.parts)) ≤ number ds) (sym cells) on.1)) in
    let now = c.push_fields.ensures.pushed cell is (ap length fields ∙ on.2) room in
    let stack : g.C.Cells.pushed c.push_fields.new.cells ≡ pushed ++ entries r.shape.fields (words_of n.parts) = now ∙ (λ i. held i ++ entries (fields i) (words_of n.parts)) in
    let store : store_of (g.C.Cells.cells c.push_fields.new.cells) (g.C.Cells.released c.push_fields.new.cells) ≡ store_of cs (slice_set rs n.place true) = (λ i. store_of ((c.push_fields.ensures.cells ∙ cells) i) ((c.push_fields.ensures.released ∙ c.release.ensures.released ∙ ap (λ p. slice_set rs p true) (sym place)) i)) in
    let over : Held tb first (store_of (g.C.Cells.cells c.push_fields.new.cells) (g.C.Cells.released c.push_fields.new.cells)) last (pushed ++ entries r.shape.fields (words_of n.parts)) ps = subst (λ (qs : List ℕ). Held tb first (store_of (g.C.Cells.cells c.push_fields.new.cells) (g.C.Cells.released c.push_fields.new.cells)) last (pushed ++ entries r.shape.fields (words_of n.parts)) qs) h.4 (subst (λ s. Held tb first s last (pushed ++ entries r.shape.fields (words_of n.parts)) (places_of_all n.parts ++ all_places h.1)) (sym store) on.0) in
    subst (λ (qs : List ℕ). Held tb first (store_of (g.C.Cells.cells c.push_fields.new.cells) (g.C.Cells.released c.push_fields.new.cells)) last qs ps) (sym stack) over

pub returns-in-Some-clause-reported : goal.returns-in-Some-clause-reported
returns-in-Some-clause-reported g c small first last p ps h origin ts reported =
    let cs = g.C.Cells.cells c.args.cells.now in
    let rs = g.C.Cells.released c.args.cells.now in
    let pushed = g.C.Cells.pushed c.args.cells.now in
    let e = c.args.entry in
    let n = h.0 in
    let one : word n ≡ e = h.2 in
    let r = root_of c.args.types.now first (store_of cs rs) last pushed e n h.1 h.5 in
    let within = place_within cs n.place (is_there (cell_at cs n.place) (record { tag = n.tag; fields = words_of n.parts }) r.cell) in
    let place : n.place ≡ c.in-Some.place = let same = c.in-Some.ensures.same in omega (arith, one, within, small, same) in
    subst (λ q. g.C.Cells.was_reported origin (ts ++ Released q ∷ []) c.push_fields.new.cells) (sym place ∙ h.3) (c.push_fields.ensures.reported origin (ts ++ Released c.in-Some.place ∷ []) (c.release.ensures.reported origin ts reported))

pub returns-in_default-clause-released : goal.returns-in_default-clause-released
returns-in_default-clause-released g c small first last p ps h =
    let cs = g.C.Cells.cells c.args.cells.now in
    let rs = g.C.Cells.released c.args.cells.now in
    let e = c.args.entry in
    let n = h.0 in
    let one : word n ≡ e = h.2 in
    let r = root_of c.args.types.now first (store_of cs rs) last (g.C.Cells.pushed c.args.cells.now) e n h.1 h.5 in
    let there = is_there (cell_at cs n.place) (record { tag = n.tag; fields = words_of n.parts }) r.cell in
    let within = place_within cs n.place there in
    let place : n.place ≡ e % 4294967296 = omega (arith, one, within, small) in
    absurd (c.in_default.not-Some (e % 4294967296) (c.live_cell_at.ensures.found (subst (λ q. cell_at cs q ≢ None) place there) (subst (λ q. slice_get rs q ≡ Some false) place r.live)))

pub returns-in_default-clause-reported : goal.returns-in_default-clause-reported
returns-in_default-clause-reported g c small first last p ps h origin ts reported =
    let cs = g.C.Cells.cells c.args.cells.now in
    let rs = g.C.Cells.released c.args.cells.now in
    let e = c.args.entry in
    let n = h.0 in
    let one : word n ≡ e = h.2 in
    let r = root_of c.args.types.now first (store_of cs rs) last (g.C.Cells.pushed c.args.cells.now) e n h.1 h.5 in
    let there = is_there (cell_at cs n.place) (record { tag = n.tag; fields = words_of n.parts }) r.cell in
    let within = place_within cs n.place there in
    let place : n.place ≡ e % 4294967296 = omega (arith, one, within, small) in
    absurd (c.in_default.not-Some (e % 4294967296) (c.live_cell_at.ensures.found (subst (λ q. cell_at cs q ≢ None) place there) (subst (λ q. slice_get rs q ≡ Some false) place r.live)))

pub returns-in-Some-clause-counted : goal.returns-in-Some-clause-counted
returns-in-Some-clause-counted g c =
    let cs = g.C.Cells.cells c.args.cells.now in
    let rs = g.C.Cells.released c.args.cells.now in
    let freed = c.args.freed.now in
    let counts = c.count_one.new.freed in
    let one = counts_release cs rs c.in-Some.place c.cell_size.result freed counts c.in-Some.ensures.live c.cell_size.ensures.size c.count_one.ensures.one in
    subst (λ ds. CountsReleased cs rs freed ds (g.C.Cells.released c.push_fields.new.cells) counts) (sym (c.push_fields.ensures.cells ∙ c.release.ensures.cells)) (subst (λ qs. CountsReleased cs rs freed cs qs counts) (sym (c.push_fields.ensures.released ∙ c.release.ensures.released)) one)
