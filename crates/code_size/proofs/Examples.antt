-- The places of the examples, by computation alone.
use Rattle.std.proofs.Common.{◌≡◌, refl}
use Rattle.instance_semantics.specs.Example.{lists, rev, number}
use Rattle.code_size.specs.Places.{places}
use Rattle.code_size.specs.Bounds.{most_instructions, most_labels}

pub rev_has_17 : places lists.types rev ≡ 17
rev_has_17 = refl

pub number_has_11 : places lists.types number ≡ 11
number_has_11 = refl

pub rev_has_instructions : most_instructions lists.types rev ≡ 6256
rev_has_instructions = refl

pub rev_has_labels : most_labels lists.types rev ≡ 136
rev_has_labels = refl

pub ruleset computed = (rev_has_17, number_has_11, rev_has_instructions, rev_has_labels)
