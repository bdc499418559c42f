use Rattle.std.proofs.Common.{◌≡◌, ◌≤◌, ◌∙◌, arith, length, vec_len}
use Rattle.std.proofs.lemmas.List.{take_all}
use Rattle.fip_machine.proofs.Tasked.{first_taken, filled}
use Rattle.fip_machine.proofs.stack.taken.Goals as goal

pub returns-clause-first : goal.returns-clause-first
returns-clause-first c few =
    let ws = c.args.words.items in
    let m = c.min.result in
    let least = c.min.ensures in
    let reach : c.args.registers ≤ m = omega (arith, least) in
    let same = c.reserve_exact.ensures.items ∙ c.truncate.ensures.items ∙ take_all c.args.registers ws few in
    let a = c.reserve_exact.ensures.len in
    let b = c.truncate.ensures.len in
    let long : vec_len c.reserve_exact.new.self ≡ length ws = omega (arith, a, b, few) in
    first_taken c.args.registers m ws c.resize.new.self.items few reach (filled m (vec_len c.reserve_exact.new.self) ws c.reserve_exact.new.self.items c.resize.new.self.items c.in_ok-resize.ensures.items same long (omega (arith, reach, few)))
