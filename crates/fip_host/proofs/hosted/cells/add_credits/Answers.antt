use Rattle.std.proofs.Common.{◌≡◌, ◌∙◌, ℕ, List, sym, ap, subst}
use Rattle.std.specs.Prelude.{OnOk, IfErr}
use Rattle.fip_machine.specs.cell_store.Made.{Loading, Stored}
use Rattle.cell_store.specs.Made.{loading}
use Rattle.fip_host.specs.Making.{HasMade}
use Rattle.fip_host.specs.Starting.{AreUnmade}
use Rattle.fip_host.proofs.Loading.{joined}
use Rattle.fip_host.proofs.hosted.cells.add_credits.Goals as goal

pub returns-else-is_err-clause-made : goal.returns-else-is_err-clause-made
returns-else-is_err-clause-made c =
    let r = c.made_for-outcome.result in
    let ks = c.args.credits.now in
    let all = c.made_for-outcome.new.words.items in
    let old = c.args.cells.now in
    let new = c.sealed.result in
    let first = c.reopen-loader.result in
    let last = c.made_for-outcome.new.loader in
    let before : first ≡ loading old = joined first old.cells old.released old.left
    (sym (c.reopen-loader.ensures.cells ∙ ap (λ (x : Stored). x.cells) c.replace.ensures.value))
    (sym (c.reopen-loader.ensures.released ∙ ap (λ (x : Stored). x.released) c.replace.ensures.value))
    (sym (c.reopen-loader.ensures.left ∙ ap (λ (x : Stored). x.left) c.replace.ensures.value)) in
    let after : last ≡ loading new = joined last new.cells new.released new.left c.sealed.ensures.cells c.sealed.ensures.released c.sealed.ensures.left in
    subst (λ (l : Loading). OnOk r (HasMade ks c.args.words.now.items all (loading old) l)) after
    (subst (λ (l : Loading). OnOk r (HasMade ks c.args.words.now.items all l last)) before
    (subst (λ (xs : List ℕ). OnOk r (HasMade ks xs all first last)) c.reserve.ensures.items c.made_for-outcome.ensures.made))

pub returns-else-is_err-clause-refused : goal.returns-else-is_err-clause-refused
returns-else-is_err-clause-refused c =
    let r = c.made_for-outcome.result in
    let ks = c.args.credits.now in
    let old = c.args.cells.now in
    let first = c.reopen-loader.result in
    let before : first ≡ loading old = joined first old.cells old.released old.left
    (sym (c.reopen-loader.ensures.cells ∙ ap (λ (x : Stored). x.cells) c.replace.ensures.value))
    (sym (c.reopen-loader.ensures.released ∙ ap (λ (x : Stored). x.released) c.replace.ensures.value))
    (sym (c.reopen-loader.ensures.left ∙ ap (λ (x : Stored). x.left) c.replace.ensures.value)) in
    subst (λ (l : Loading). IfErr r (AreUnmade ks c.args.words.now.items l)) before
    (subst (λ (xs : List ℕ). IfErr r (AreUnmade ks xs first)) c.reserve.ensures.items c.made_for-outcome.ensures.refused)
