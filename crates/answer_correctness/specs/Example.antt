-- The examples: runs of the program of lists, a tree of three keys, and derivations that weaken.
use Rattle.std.specs.Prelude.{ℕ, pos, List, [], ◌∷◌, ◌++◌, Some, None}
use Rattle.command_answers.specs.command_library.fip_language.Values.{Value, Int, Node, Values, End, More}
use Rattle.command_answers.specs.command_library.fip_language.PrintedText.{printed_lines}
use Rattle.worked_examples.specs.instance_semantics.Example.{lists, rev, inc, ints}
use Rattle.command_answers.specs.command_library.command_outcome.Texts.{cells_text, stack_text, bound_text}
use Rattle.command_answers.specs.command_library.derivation_trees.declared.derivation.RuleName.TheVariants as R
use Rattle.command_answers.specs.command_library.derivation_trees.Trees.{Tree, Branch, NoTrees, MoreTrees}
use Rattle.command_answers.specs.command_library.session_semantics.Example.{needs_words}
use Rattle.command_answers.specs.Exec.{Running}

abbrev pub nil : Value
nil = Node 0 End

abbrev pub cons : ℕ → Value → Value
cons n v = Node 1 (More (Int (pos n)) (More v End))

-- Cons(1, Cons(2, Cons(3, Nil))) and Nil
abbrev pub three_items : Values
three_items = More (cons 1 (cons 2 (cons 3 nil))) (More nil End)

abbrev pub three_reversed : Values
three_reversed = More (cons 3 (cons 2 (cons 1 nil))) End

abbrev pub reversing : Running
reversing = record { types = lists.types; instance = rev; bound = Some (needs_words 9) }

-- what `exec` prints of its run with the gauge
abbrev pub four_lines : List ℕ
four_lines = printed_lines lists.types (ints ∷ []) three_reversed
    ++ (cells_text 2 3 3 ++ (stack_text 0 9 ++ bound_text 0 9))

-- inc, which is fbip, has no bound
abbrev pub increasing : Running
increasing = record { types = lists.types; instance = inc; bound = None }

-- what it prints on Cons(1, Nil): a call that waits holds a frame
abbrev pub increased_lines : List ℕ
increased_lines = printed_lines lists.types (ints ∷ []) (More (cons 2 nil) End) ++ (cells_text 2 1 1 ++ stack_text 1 24)

-- ---- a tree of three keys, as `gen 1 3` makes it: Leaf is constructor 0, Node 1; the least key is at the left
abbrev pub leaf : Value
leaf = Node 0 End

abbrev pub node : Value → ℕ → Value → Value
node l k r = Node 1 (More (Node 1 End) (More l (More (Int (pos k)) (More r End))))

abbrev pub three_keys : Value
three_keys = node (node leaf 377401575 leaf) 662824084 (node leaf 1103527590 leaf)

-- ---- derivations that leave a variable out

-- VAR[x|]
abbrev pub uses : ℕ → Tree
uses x = Branch R.Variable (x ∷ []) [] NoTrees

-- WEAKEN[0 1|](VAR[1|])
abbrev pub weakened : Tree
weakened = Branch R.Weaken (0 ∷ 1 ∷ []) [] (MoreTrees (uses 1) NoTrees)

-- WEAKEN[1|](VAR[1|]), which leaves nothing out
abbrev pub weakened_in_vain : Tree
weakened_in_vain = Branch R.Weaken (1 ∷ []) [] (MoreTrees (uses 1) NoTrees)

-- WEAKEN[0 1 2|](WEAKEN[0 1|](VAR[1|]))
abbrev pub weakened_twice : Tree
weakened_twice = Branch R.Weaken (0 ∷ 1 ∷ 2 ∷ []) [] (MoreTrees weakened NoTrees)
