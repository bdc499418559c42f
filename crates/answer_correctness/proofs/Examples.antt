-- The examples, by computation alone.
use Rattle.std.proofs.Common.{◌≡◌, pos, true, [], ◌∷◌, ◌++◌, Some, Ok, Err, refl, arith}
use Rattle.std.specs.Prelude.{codes}
use Rattle.std.specs.Fmt.{decimal}
use Rattle.command_answers.specs.command_library.fip_language.Values.{End, More}
use Rattle.worked_examples.specs.instance_semantics.Meaning.{flat_meaning}
use Rattle.worked_examples.specs.instance_semantics.Example.{lists}
use Rattle.command_answers.specs.command_library.command_outcome.Successes.{tree_text}
use Rattle.command_answers.specs.command_library.command_outcome.declared.failure.Failure.TheVariants as F
use Rattle.command_answers.specs.Exec.{ReportsAll}
use Rattle.command_answers.specs.command_library.MadeTree.{keys_line, pads_line, lines_of_tree}
use Rattle.answer_correctness.specs.Example.{three_keys, three_items, reversing, four_lines, increasing, increased_lines, cons, nil}
use Rattle.answer_correctness.specs.Example.{weakened, weakened_in_vain, weakened_twice}
use Rattle.command_answers.specs.command_source.derivation_making.Weakening.{IsLean}
use Rattle.worked_examples.specs.source_report.ownership_calculus.Terms.{Own}

pub rev_prints :
    ReportsAll reversing three_items 1000 0 true (flat_meaning lists 0 three_items 1000 0) (Ok four_lines)
unfolding flat_meaning
rev_prints = refl

pub rev_has_calls : ReportsAll reversing three_items 4 0 true (flat_meaning lists 0 three_items 4 0) (Ok four_lines)
unfolding flat_meaning
rev_has_calls = refl

pub rev_is_out : ReportsAll reversing three_items 3 0 true (flat_meaning lists 0 three_items 3 0) (Err (F.OutOfCalls 3))
unfolding flat_meaning
rev_is_out = refl

pub inc_prints :
    ReportsAll increasing (More (cons 1 nil) End) 1000 10 true (flat_meaning lists 1 (More (cons 1 nil) End) 1000 10)
    (Ok increased_lines)
unfolding flat_meaning
inc_prints = refl

pub inc_is_deep :
    ReportsAll increasing (More (cons 1 nil) End) 1000 0 true (flat_meaning lists 1 (More (cons 1 nil) End) 1000 0)
    (Err (F.OutOfFrames 0))
unfolding flat_meaning
inc_is_deep = refl

pub keys_are : keys_line (7 ∷ []) 0 ≡ codes "Cons(" ++ (decimal 7 ++ codes ", Nil)\n")
keys_are = refl

pub pads_are : pads_line 2 0 ≡ codes "Cons(Pad4(0, 0, 0, 0), Cons(Pad4(0, 0, 0, 0), Nil))\n"
pads_are = refl

pub tree_prints :
    lines_of_tree 3 three_keys ≡ tree_text 3 3 (Some (record { least = pos 377401575; greatest = pos 1103527590 }))
tree_prints = refl

pub weakens_once : IsLean weakened
weakens_once = ((refl, (Own 0, omega arith)), ((tt, tt), tt))

pub weakens_in_vain : IsLean weakened_in_vain → ⊥
weakens_in_vain ((e, (i, less)), more) = absurd (omega (arith, less))

pub weakens_twice : IsLean weakened_twice → ⊥
weakens_twice ((e, more), rest) = absurd cc

pub ruleset computed = (
  rev_prints,
  rev_has_calls,
  rev_is_out,
  inc_prints,
  inc_is_deep,
  keys_are,
  pads_are,
  tree_prints,
  weakens_once,
  weakens_in_vain,
  weakens_twice,
)
