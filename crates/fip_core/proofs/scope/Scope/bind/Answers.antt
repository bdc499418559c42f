use Rattle.std.proofs.Common.{◌∙◌, List, ℕ, Option, Some, sym, ap, ◌≡◌}
use Rattle.std.specs.BTreeMap.{get_by}
use Rattle.std.specs.Cmp.Lexicographic.{slice_cmp}
use Rattle.std.specs.Map.{update}
use Rattle.std.specs.Ordering.{nat_cmp}
use Rattle.std.specs.Str.{bytes_eq}
use Rattle.fip_core.specs.declared.scope.Entry.{Entry}
use Rattle.fip_core.proofs.ScopeFacts.{changed_at, IsKept-push}
use Rattle.fip_core.proofs.scope.Scope.bind.Goals as goal

pub invariant_of-self-in-Ok : goal.invariant_of-self-in-Ok
invariant_of-self-in-Ok c =
    let e : Entry = record { name = c.in_ok-name.name; number = c.args.number; hidden = c.copied-hidden.result } in
    let find : List ℕ → Option ℕ = λ x. get_by (λ k. slice_cmp nat_cmp x k.items) c.self.inside.numbers in
    let same : c.in_ok-key.key.items ≡ c.in_ok-name.name.items = c.in_ok-key.ensures.items ∙ sym c.in_ok-name.ensures.items in
    rw c.in_ok-push.ensures.items
    (IsKept-push c.self.inside.entries.items e _ _ c.self.invariant
    (c.copied-hidden.ensures ∙ c.get.ensures.value ∙ ap find (sym c.in_ok-name.ensures.items))
    (λ x.
    changed_at c.in_ok-key.key.items c.self.inside.numbers c.insert.new.self _ c.in-Ok.ensures.updates x
    ∙ ap (λ z. update bytes_eq find z (Some c.args.number) x) same))
