use Rattle.std.proofs.Common.{◌≡◌, ℕ, ◌-◌, length, List, take, drop, sym, subst, arith}
use Rattle.std.proofs.lemmas.Grind.{common_steps}
use Rattle.std.proofs.Math.Seq.{take-add}
use Rattle.std.specs.Io.KnownBytes.{Appends}
use Rattle.fip_outside.proofs.Turns.{Appends-append}
use Rattle.fip_outside.proofs.all.write_all.Goals as goal

pub loop-start-preserved : goal.loop-start-preserved
loop-start-preserved g c =
    let bytes = c.args.bytes.now in
    let old = g.O.Sink.written c.args.sink.now in
    let new = g.O.Sink.written c.write.new.self in
    let whole : take (length bytes - c.loop-start.start) (drop c.loop-start.start bytes) ≡ drop c.loop-start.start bytes = grind (arith, common_steps) in
    let step = subst (λ (xs : List ℕ). Appends (g.O.Sink.written c.loop-start.sink) new (take c.in-Ok.count xs)) whole c.in-Ok.ensures.bytes in
    let both = Appends-append old (g.O.Sink.written c.loop-start.sink) new _ _ c.loop-start.invariant.written step in
    record {
      within = grind (arith, common_steps);
      written = subst (λ (xs : List ℕ). Appends old new xs) (sym (take-add c.loop-start.start c.in-Ok.count bytes)) both;
      later = grind (arith, common_steps);
    }
