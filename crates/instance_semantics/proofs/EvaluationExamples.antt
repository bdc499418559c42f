-- The definitions evaluated on small programs, each by computation alone.
use Rattle.std.proofs.Common.{◌≡◌, refl}
use Rattle.std.specs.Prelude.{pos}
use Rattle.fip_trees.specs.fip_language.declared.TrapKind.TheVariants.{Overflow}
use Rattle.fip_trees.specs.fip_language.Values.{Int, Node, End, More}
use Rattle.fip_trees.specs.fip_language.Meaning.{Gives, Trap, Out, Deep}
use Rattle.fip_trees.specs.fip_language.Example.{empty, item, pair, three, three_reversed}
use Rattle.instance_semantics.specs.Registers.{registers}
use Rattle.instance_semantics.specs.Meaning.{flat_meaning}
use Rattle.instance_semantics.specs.Example.{rev, inc, lists}

rev_has_7_registers : registers rev ≡ 7
rev_has_7_registers = refl

inc_has_10_registers : registers inc ≡ 10
inc_has_10_registers = refl

pub rev_of_three : flat_meaning lists 0 (pair three empty) 10 0 ≡ record { answer = Gives (More three_reversed End) 6; peak = record { frames = 0; words = 9 } }
unfolding flat_meaning
rev_of_three = refl

pub three_frames_are_held : flat_meaning lists 1 (More three End) 10 3 ≡ record { answer = Gives (More (item (pos 2) (item (pos 3) (item (pos 4) empty))) End) 6; peak = record { frames = 3; words = 48 } }
unfolding flat_meaning
three_frames_are_held = refl

pub two_frames_are_too_few : flat_meaning lists 1 (More three End) 10 2 ≡ record { answer = Deep; peak = record { frames = 2; words = 36 } }
unfolding flat_meaning
two_frames_are_too_few = refl

pub out_comes_before_deep : flat_meaning lists 1 (More three End) 3 2 ≡ record { answer = Out; peak = record { frames = 2; words = 36 } }
unfolding flat_meaning
out_comes_before_deep = refl

pub sum_overflows_at_its_place : flat_meaning lists 1 (More (item (pos 9223372036854775807) empty) End) 10 3 ≡ record { answer = Trap Overflow 3 77; peak = record { frames = 0; words = 12 } }
unfolding flat_meaning
sum_overflows_at_its_place = refl

pub true_is_1 : flat_meaning lists 2 (More (Node 1 End) End) 1 0 ≡ record { answer = Gives (More (Int (pos 1)) End) 0; peak = record { frames = 0; words = 7 } }
unfolding flat_meaning
true_is_1 = refl

pub ruleset runs = (rev_of_three, three_frames_are_held, two_frames_are_too_few, out_comes_before_deep, sum_overflows_at_its_place, true_is_1)
