-- What runs of functions hold of the stack at the most: the least numbers that solve one inequation for each function
-- and one for each call. A function holds its base at the least. It holds what each of its calls holds, and its own
-- beside where it waits for the call.
--
-- Frames: the base is 0 and the own is 1. Words: both are the words of the function's frame. Where f of 5 words waits
-- for g of 7, which calls itself in tail position, g holds 0 frames and 7 words, and f holds 1 frame and 12 words.
use Rattle.std.specs.Prelude.{◌≡◌, ◌≢◌, ◌≤◌, ◌+◌, ℕ, Bool, true, false, List, length, get_or, slice_get}
use Rattle.std.specs.Prelude.{Option, Some, None}
use Rattle.fip_base.specs.declared.plain.Stack.{Stack}
use Rattle.call_groups.specs.CallGraph.{group_number, IsPartition}
use Rattle.call_groups.specs.Groups.{Calls}
use Rattle.call_groups.specs.declared.search.Call.{Call}
use Rattle.call_groups.specs.declared.search.Partition.{Partition}

-- what a call adds: a caller that waits keeps its own
abbrev pub charge : ℕ → Bool → ℕ
charge own true = own
charge own false = 0

pub record Solves (calls : ℕ → ℕ → Bool → Type 0) (base own number : ℕ → ℕ) : Type 0 where
  pub base_in : (f : ℕ) → base f ≤ number f
  pub calls_in : (f g : ℕ) (k : Bool) → calls f g k → number g + charge (own f) k ≤ number f

-- there is one such solution at the most
abbrev pub LeastSolution : (ℕ → ℕ → Bool → Type 0) → (ℕ → ℕ) → (ℕ → ℕ) → (ℕ → ℕ) → Type 0
LeastSolution calls base own number =
    Solves calls base own number × ((other : ℕ → ℕ) → Solves calls base own other → (f : ℕ) → number f ≤ other f)

-- a function that has a frame, by the words of all functions' frames
abbrev pub HasFrame : List (Option ℕ) → ℕ → Type 0
HasFrame frames f = (w : ℕ) × (slice_get frames f ≡ Some (Some w))

abbrev pub words_or_none : Option ℕ → ℕ
words_or_none None = 0
words_or_none (Some w) = w

-- the words of a frame; 0 without one
abbrev pub frame_words : List (Option ℕ) → ℕ → ℕ
frame_words frames f = words_or_none (get_or frames f None)

-- the calls of functions that have frames
abbrev pub FramedCalls : List (List Call) → List (Option ℕ) → ℕ → ℕ → Bool → Type 0
FramedCalls rs frames f g k = HasFrame frames f × Calls rs f g k

abbrev pub number_of : (Stack → ℕ) → Option Stack → ℕ
number_of number None = 0
number_of number (Some s) = number s

-- the numbers of all functions; 0 where a function has none
abbrev pub frames_in : List (Option Stack) → ℕ → ℕ
frames_in ss f = number_of (λ s. s.frames) (get_or ss f None)

abbrev pub words_in : List (Option Stack) → ℕ → ℕ
words_in ss f = number_of (λ s. s.words) (get_or ss f None)

abbrev pub base_frames : ℕ → ℕ
base_frames f = 0

abbrev pub own_frames : ℕ → ℕ
own_frames f = 1

-- The functions with frames have numbers, the others have none, and the numbers are the least.
pub record AreStacks (rs : List (List Call)) (frames : List (Option ℕ)) (ss : List (Option Stack)) : Type 0 where
  pub some : (f : ℕ) → HasFrame frames f → (s : Stack) × (slice_get ss f ≡ Some (Some s))
  pub none : (f : ℕ) (s : Stack) → slice_get ss f ≡ Some (Some s) → HasFrame frames f
  pub least_frames : LeastSolution (FramedCalls rs frames) base_frames own_frames (frames_in ss)
  pub least_words : LeastSolution (FramedCalls rs frames) (frame_words frames) (frame_words frames) (words_in ss)

-- What is required: the groups are those of these calls, each function has a frame or none, one with a frame calls such
-- ones alone, and those that it waits for are of other groups.
pub record AreAsked (rs : List (List Call)) (p : Partition) (frames : List (Option ℕ)) : Type 0 where
  pub groups : IsPartition rs p
  pub size : length frames ≡ length rs
  pub framed : (f g : ℕ) (k : Bool) → FramedCalls rs frames f g k → HasFrame frames g
  pub leaves : (f g : ℕ) → FramedCalls rs frames f g true → group_number p f ≢ group_number p g
