use Rattle.std.proofs.Common.{◌≡◌, ◌++◌, drop}
use Rattle.match_knowledge.specs.View.{parts}
use Rattle.match_cover.specs.MissingView.{rest_text}
use Rattle.match_cover.specs.PatternText.{parts_text}
use Rattle.match_cover.proofs.missing.+text.Given as goal

abbrev pub invariant-put_parts-loop-j : goal.invariant-put_parts-loop-j
invariant-put_parts-loop-j l = l.text.items ++ rest_text l.types l.j (parts (drop l.j l.ps)) ≡ l.initial.text.items ++ parts_text l.types (parts l.ps)
