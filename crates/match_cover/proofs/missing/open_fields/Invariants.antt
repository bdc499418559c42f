use Rattle.std.proofs.Common.{◌≡◌, drop, map}
use Rattle.match_knowledge.specs.View.{known, before_knowns}
use Rattle.match_cover.specs.Missing.{open_fields}
use Rattle.match_cover.proofs.missing.open_fields.Given as goal

abbrev pub invariant-loop-ty : goal.invariant-loop-ty
invariant-loop-ty l = before_knowns (map known l.fields.items) (open_fields (drop l._ty-index l.types)) ≡ open_fields l.types
