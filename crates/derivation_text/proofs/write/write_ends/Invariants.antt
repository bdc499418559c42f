use Rattle.std.proofs.Common.{◌≡◌, ◌++◌, length}
use Rattle.derivation_text.specs.Writing.{ends_text, after_ends, turned}
use Rattle.derivation_text.proofs.write.write_ends.Given as goal

abbrev pub invariant-loop-parts : goal.invariant-loop-parts
invariant-loop-parts l = record {
  text : l.text.items ++ ends_text (turned l.open.items) ≡ l.fn.text.items ++ ends_text (turned l.fn.open.items);
  rest : after_ends (turned l.open.items) ≡ after_ends (turned l.fn.open.items);
}

abbrev pub decreases-loop-parts : goal.decreases-loop-parts
decreases-loop-parts l = length l.open.items
