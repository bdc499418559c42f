-- Which function of a code a name calls, and the frames that a run of a function gets.
--
-- Of a code with the functions rev, one without a name, and len, rev is called by its name with number 0 and len with
-- number 2. A fip function gets as many frames as it needs, however many are given.
use Rattle.std.specs.Prelude.{◌≡◌, ◌<◌, ℕ, List, length, min, Option, Some, None, slice_get}
use Rattle.code_verify.specs.cell_code.declared.code.Function.{Function}
use Rattle.fip_base.specs.declared.plain.Stack.{Stack}
use Rattle.fip_language.specs.Core.{Name}
use Rattle.fip_language.specs.declared.limits.TheConstants.{MOST_FRAMES}
use Rattle.fip_trees.specs.Names.{meaning}
use Rattle.code_verify.specs.cell_code.Plain.{PlainCode}
use Rattle.code_verify.specs.code_rules.StackNumbers.{HasStack}
use Rattle.session_semantics.specs.Talk.{frames_of}

-- function n has this name, which isn't empty
pub record HasName (functions : List Function) (name : Name) (n : ℕ) : Type 0 where
  pub function : Function
  pub there : slice_get functions n ≡ Some function
  pub named : function.name ≡ name
  pub some : 0 < length name

-- a run of function n gets so many frames, where so many are given
pub record HasFrames (c : PlainCode) (n given frames : ℕ) : Type 0 where
  pub held : Option Stack
  pub stack : HasStack c n held
  pub are : frames ≡ min (frames_of given held) MOST_FRAMES

-- Each of these names means the number of a function that has it, and each function that has a name is called by it.
pub record AreEntries (functions : List Function) (numbers : List (Name × ℕ)) : Type 0 where
  pub there : (name : Name) (n : ℕ) → meaning name numbers ≡ Some n → HasName functions name n
  pub all : (name : Name) (n : ℕ) → HasName functions name n → meaning name numbers ≡ None → ⊥
