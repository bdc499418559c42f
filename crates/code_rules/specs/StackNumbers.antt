-- What a run of a function of a code holds of the stack at the most: frames beside its own, and words in all frames. A
-- frame has a word for each register and two more. The numbers are the least that solve, for each fip function and each
-- of its calls, the inequations of `call_groups`. A function that isn't fip has none, nor has a number that is no
-- function's.
--
-- Where f of 5 registers waits for g of 7, which calls itself in tail position, g holds 0 frames and 9 words, and f
-- holds 1 frame and 16 words.
use Rattle.std.specs.Prelude.{◌≡◌, ℕ, ◌+◌, Bool, true, Option, Some, None, if◌then◌else◌}
use Rattle.cell_code.specs.fip_base.declared.plain.Stack.{Stack}
use Rattle.call_groups.specs.Stacks.{LeastSolution, base_frames, own_frames}
use Rattle.code_rules.specs.Limits.{frame_words}
use Rattle.cell_code.specs.Plain.{PlainFunction, PlainCode, function_at}
use Rattle.code_rules.specs.Codes.{is_fip}
use Rattle.code_rules.specs.Calls.{Calls}

-- Function n is there and fip.
abbrev pub IsFip : PlainCode → ℕ → Type 0
IsFip c n = (f : PlainFunction) × (function_at c n ≡ Some f) × (is_fip f.kind ≡ true)

abbrev pub FipCalls : PlainCode → ℕ → ℕ → Bool → Type 0
FipCalls c a b waits = IsFip c a × Calls c a b waits

abbrev pub words_of : Option PlainFunction → ℕ
words_of None = 0
words_of (Some f) = if is_fip f.kind then f.registers + frame_words else 0

-- the words of the frame of function n; 0 where it isn't fip
abbrev pub words_at : PlainCode → ℕ → ℕ
words_at c n = words_of (function_at c n)

abbrev pub AreFrames : PlainCode → (ℕ → ℕ) → Type 0
AreFrames c number = LeastSolution (FipCalls c) base_frames own_frames number

abbrev pub AreWords : PlainCode → (ℕ → ℕ) → Type 0
AreWords c number = LeastSolution (FipCalls c) (words_at c) (words_at c) number

pub record IsStack (c : PlainCode) (n : ℕ) (s : Stack) : Type 0 where
  pub frames : ℕ → ℕ
  pub words : ℕ → ℕ
  pub are_frames : AreFrames c frames
  pub are_words : AreWords c words
  pub is : s ≡ record { frames = frames n; words = words n }

-- the stack number of function n of a sound code, or none
abbrev pub HasStack : PlainCode → ℕ → Option Stack → Type 0
HasStack c n None = IsFip c n → ⊥
HasStack c n (Some s) = IsFip c n × IsStack c n s
