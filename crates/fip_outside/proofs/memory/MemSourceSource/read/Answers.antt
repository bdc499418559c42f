use Rattle.std.proofs.Common.{◌≡◌, ◌+◌, ◌-◌, ◌≤◌, drop, take, length, arith, sym, ap, ◌∙◌, drop_of_length-le}
use Rattle.std.proofs.lemmas.Grind.{common_steps}
use Rattle.fip_outside.proofs.Turns.{drop-moved}
use Rattle.fip_outside.proofs.memory.MemSourceSource.read.Goals as goal

pub returns-clause-bytes : goal.returns-clause-bytes
returns-clause-bytes c =
    let s = c.self.inside in
    let n = c.count_of-count.result in
    let fits : s.start + n ≤ length s.bytes.items = grind (arith, common_steps) in
    let copied : c.copy_from_slice.new.self ≡ take (s.start + n - s.start) (drop s.start s.bytes.items) = grind (arith, common_steps) in
    (sym (ap (λ v. v.bytes) c.self.view_is) ∙ drop-moved s.bytes.items s.start n c.copy_from_slice.new.self _ fits copied, λ zero room. drop_of_length-le s.bytes.items (grind (arith, common_steps)))
