-- What an evaluation of a source ends with: the lines of the values that the source means, or what keeps it from them.
--
-- The input is the text of the entry's arguments, a line for each parameter. Where it is no such text, it is reported
-- as bad, at the least offset with which no text of them goes on. Else the evaluation of the entry on these arguments,
-- with so many calls and frames, is reported: its values, each in a line of its own; or the trap and its place, or that
-- calls or frames ran out. No input is too large: where it has no more bytes than the store has words, its values have
-- room, since no cell has more words than its text has bytes.
--
-- With `fun twice(x: int): int { add(x, x) }` and `fun add(a: int, b: int): int { a + b }` the entry twice ends with
-- `42` on the input `21`, as out of calls where it has one call, as a trap on 5000000000000000000, and with a bad input
-- at 1 on `2x`.
use Rattle.std.specs.Prelude.{◌≡◌, ℕ, List, Some, Result, Ok, Err}
use Rattle.std.specs.declared.vec.Vec.{Vec}
use Rattle.std.specs.declared.alloc.Global.{Global}
use Rattle.fip_language.specs.Core.{Core}
use Rattle.fip_language.specs.Meaning.{Answer, Gives, Trap, Out, Deep, Stuck, meaning}
use Rattle.fip_language.specs.Prefix.{IsPlace}
use Rattle.fip_language.specs.PrintedText.{printed_lines}
use Rattle.fip_language.specs.Statics.{NoClosed}
use Rattle.fip_language.specs.Table.{Table}
use Rattle.fip_language.specs.Values.{Values}
use Rattle.fip_language.specs.ValueText.{SpellsValues}
use Rattle.command_source.specs.fip_trees.Tree.{Instance, Program}
use Rattle.command_outcome.specs.declared.failure.Failure.{Failure}
use Rattle.command_outcome.specs.declared.failure.Failure.TheVariants as F
use Rattle.command_source.specs.type_safety.ParameterTypes.{parameter_types}
use Rattle.command_source.specs.source_report.Report.{IsParsed, IsAccepted}
use Rattle.command_source.specs.Roots.{root_named}

-- What is evaluated: a source that breaks no rule, by its core form and by its typed program, which has the types; and
-- the root of a name there.
pub record Entry (source name : List ℕ) : Type 0 where
  pub core : Core
  pub parsed : IsParsed source core
  pub program : Program
  pub accepted : IsAccepted source program
  pub root : Instance
  pub named : root_named name program.instances ≡ Some root

-- How an answer is reported, where values of these types are expected and so many calls and frames were given. No
-- answer of an accepted source is stuck.
abbrev pub Reports : Table → List ℕ → ℕ → ℕ → Answer → Result (List ℕ) Failure → Type 0
Reports types results calls frames (Gives vs left) e = e ≡ Ok (printed_lines types results vs)
Reports types results calls frames (Trap kind line col) e = e ≡ Err (F.Trap kind line col)
Reports types results calls frames Out e = e ≡ Err (F.OutOfCalls calls)
Reports types results calls frames Deep e = e ≡ Err (F.OutOfFrames frames)
Reports types results calls frames Stuck e = ⊥

-- The bytes are the text of these arguments of the entry.
abbrev pub Spells : {source name : List ℕ} → Entry source name → List ℕ → Values → Type 0
Spells entry input vs = SpellsValues entry.program.types (parameter_types entry.root) input vs

pub data Evaluates (source name input : List ℕ) (calls frames : ℕ) : Result (List ℕ) Failure → Type 0 where
  Misspelt : (entry : Entry source name) (at : ℕ) → IsPlace (Spells entry) input at →
      Evaluates source name input calls frames (Err (F.BadInput at))
  Answered : (entry : Entry source name) (vs : Values) (e : Result (List ℕ) Failure) → Spells entry input vs →
      Reports entry.program.types entry.root.results calls frames
      (meaning entry.core name NoClosed vs calls frames).answer e → Evaluates source name input calls frames e

-- This is said of a result, whatever memory its bytes lie in; or memory runs out.
abbrev pub OrNoMemory : (Result (List ℕ) Failure → Type 0) → Result (Vec ℕ Global) Failure → Type 0
OrNoMemory Is (Ok text) = Is (Ok text.items)
OrNoMemory Is (Err F.NoMemory) = Unit {0}
OrNoMemory Is (Err failure) = Is (Err failure)
