use Rattle.std.proofs.Common.{◌≡◌, ◌*◌, ◌/◌, ◌%◌, ◌<◌, ◌^◌, ◌∙◌, true, arith, sym, subst, length, set, get_or, nat_eq}
use Rattle.std.specs.Prelude.{bit_or, if◌then◌else◌}
use Rattle.std.proofs.lemmas.List.{get_or_default}
use Rattle.cell_store.specs.Marks.{is_marked}
use Rattle.cell_store.proofs.Marked.{marked_one}
use Rattle.cell_store.proofs.marks.mark.Goals as goal

pub returns-clause-marked : goal.returns-clause-marked
returns-clause-marked c q =
    let bits = c.args.bits.now.items in
    let at = c.args.place / 64 in
    let within : at < length bits = let h = c.requires in let ok = c.args.bits.now.ok.0 in omega (arith, h, ok) in
    let word : get_or bits at 0 ≡ c.index_mut.result.now = get_or_default bits at 0 c.index_mut.result.now within ∙ sym c.index_mut.ensures.value in
    subst (λ w. is_marked (set bits at (bit_or w (1 * 2 ^ (c.args.place % 64) % 2 ^ 64))) q ≡ (if nat_eq q c.args.place then true else is_marked bits q)) word (marked_one bits c.args.place q within)
