-- The two tasks of the examples of schedules, as they are loaded: rev(Cons(1, Nil), Cons(3, Nil)) and rev(Cons(2, Nil),
-- Cons(4, Nil)), each with two calls and no further frame.
use Rattle.std.specs.Prelude.{ℤ, pos, List, [], ◌∷◌}
use Rattle.run_loading.specs.fip_language.Example.{empty, item, pair}
use Rattle.run_loading.specs.cell_code.Plain.{PlainFunction}
use Rattle.run_loading.specs.code_rules.Example.{function_of, rev_with, nil_taken, acc_given, cons_taken, cons_put, again}
use Rattle.run_loading.specs.code_rules.Example.{cons_known}
use Rattle.task_semantics.specs.Laid.{Task}

-- the function of the reversal
abbrev pub rev : PlainFunction
rev = function_of (2 ∷ []) (rev_with nil_taken acc_given cons_taken cons_put again) cons_known

-- the reversal of one item before another
abbrev pub rev_of : ℤ → ℤ → Task
rev_of i j = record {
  function = 0;
  header = rev;
  arguments = pair (item i empty) (item j empty);
  calls = 2;
  frames = 0;
}

abbrev pub two_calls : List Task
two_calls = rev_of (pos 1) (pos 3) ∷ rev_of (pos 2) (pos 4) ∷ []
