use Rattle.std.proofs.Common.{◌≡◌, ◌∙◌, ℕ, false, List, Option, Some, slice_get, take, rules, sym, ap, subst}
use Rattle.std.specs.Prelude.{option_map}
use Rattle.std.specs.Vec.{with_items}
use Rattle.std.proofs.lemmas.List.{with_items_is}
use Rattle.fip_machine.specs.machine_cells.Small.{store_of}
use Rattle.fip_machine.specs.Pausing.{stand_of}
use Rattle.fip_host.specs.declared.hosted.Kept.{Kept}
use Rattle.fip_host.specs.Hosting.{Seen, results_of}
use Rattle.fip_host.specs.Keeping.{ArePut, typed_words}
use Rattle.fip_host.proofs.Putting.{has_kept, typed_all}
use Rattle.fip_host.proofs.hosted.Hosted.keep.Goals as goal

pub returns-clause-keeps : goal.returns-clause-keeps
returns-clause-keeps c =
    let i = c.self.inside in
    let v = i.verified in
    let old = c.args.self.now in
    let g = c.in-Some-function_in.function.now in
    let words = c.in-Some.words.now in
    let ts = c.as_slice-types.result.now in
    let n = c.min-count.result in
    let ns = take n c.put_all.new.numbers in
    let before = c.as_mut_slice.result.now in
    let after = c.put_all.new.kept in
    let all = with_items i.kept after in
    let items : all.items ≡ after = with_items_is i.kept after (search rules) in
    let new : Seen = record { code = v; task = option_map (stand_of v) i.task; store = store_of i.cells.cells i.cells.released; left = i.cells.left; gauge = i.gauge; entry = i.entry; is_open = false; kept = all.items } in
    let results : results_of old ≡ Some words = subst (λ (m : Seen). results_of m ≡ Some words) c.self.view_is (c.in-Some.ensures.some v) in
    let at : slice_get old.code.code.functions.items old.entry ≡ Some g = subst (λ (m : Seen). slice_get m.code.code.functions.items m.entry ≡ Some g) c.self.view_is c.in-Some-function_in.ensures.some in
    let kept : before ≡ old.kept = c.as_mut_slice.ensures.value ∙ ap (λ (m : Seen). m.kept) c.self.view_is in
    let whole : take n (typed_words ts words) ≡ typed_words ts words = typed_all ts words n c.min-count.ensures in
    let put : ArePut (typed_words g.results words) ns old.kept all.items =
    subst (λ (os : List (Option Kept)). ArePut (typed_words g.results words) ns old.kept os) (sym items)
    (subst (λ (os : List (Option Kept)). ArePut (typed_words g.results words) ns os after) kept
    (subst (λ (us : List ℕ). ArePut (typed_words us words) ns before after) c.as_slice-types.ensures.same
    (subst (λ (ks : List Kept). ArePut ks ns before after) whole c.put_all.ensures.put))) in
    has_kept old new words g ns results at put
