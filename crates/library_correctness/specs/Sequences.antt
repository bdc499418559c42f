-- Sequences as finger trees, as values, and how long their spine is.
use Rattle.std.specs.Prelude.{◌≡◌, ℕ, suc, ◌+◌, ◌≤◌, ℤ, pos}
use Rattle.fip_language.specs.Meaning.{Answer}
use Rattle.fip_language.specs.Values.{Value, Int, Node, End, More}
use Rattle.evaluation_steps.specs.Gives.{GivesValue}

pub data Element : Type 0 where
  Item : (a b c : ℤ) → Element
  Pair : (a b : Element) (n : ℤ) → Element
  Triple : (a b c : Element) → Element

pub data Some : Type 0 where
  One : (a : Element) (m n : ℤ) → Some
  Two : (a b : Element) (n : ℤ) → Some
  Three : (a b c : Element) → Some

pub data Sequence : Type 0 where
  Empty : Sequence
  Single : (a : Element) (m n : ℤ) → Sequence
  Deep : (front : Some) (middle : Sequence) (back : Some) → Sequence

abbrev pub element_value : Element → Value
element_value (Item a b c) = Node 0 (More (Int a) (More (Int b) (More (Int c) End)))
element_value (Pair a b n) = Node 1 (More (element_value a) (More (element_value b) (More (Int n) End)))
element_value (Triple a b c) = Node 2 (More (element_value a) (More (element_value b) (More (element_value c) End)))

abbrev pub some_value : Some → Value
some_value (One a m n) = Node 0 (More (element_value a) (More (Int m) (More (Int n) End)))
some_value (Two a b n) = Node 1 (More (element_value a) (More (element_value b) (More (Int n) End)))
some_value (Three a b c) = Node 2 (More (element_value a) (More (element_value b) (More (element_value c) End)))

abbrev pub sequence_value : Sequence → Value
sequence_value Empty = Node 0 End
sequence_value (Single a m n) = Node 1 (More (element_value a) (More (Int m) (More (Int n) End)))
sequence_value (Deep f q b) = Node 2 (More (some_value f) (More (sequence_value q) (More (some_value b) End)))

-- the nodes More on the spine
abbrev pub spine : Sequence → ℕ
spine Empty = 0
spine (Single a m n) = 0
spine (Deep f q b) = suc (spine q)

-- the evaluation gives a number of spares
pub record GivesNeed (s : Sequence) (a : Answer) : Type 0 where
  pub number : ℕ
  pub few : number ≤ spine s + 3
  pub gives : GivesValue (Int (pos number)) a

-- a value that is that of a sequence
pub record IsSequence (v : Value) : Type 0 where
  pub sequence : Sequence
  pub is : v ≡ sequence_value sequence
