-- The stack numbers of push and top: they solve what the one call requires, and each is a frame's words, so they are
-- the least.
use Rattle.std.proofs.Common.{◌≡◌, ℕ, zero, suc, ◌+◌, ◌≤◌, Bool, false, List, [], ◌∷◌, Option, Some, refl, sym, ap, subst, arith, slice_get}
use Rattle.source_report.specs.tail_groups.Registers.{registers}
use Rattle.source_report.specs.tail_groups.Members.{frame}
use Rattle.source_report.specs.tail_groups.Sites.{call_rows}
use Rattle.source_report.specs.fip_base.declared.plain.Stack.{Stack}
use Rattle.source_report.specs.call_groups.declared.search.Call.{Call}
use Rattle.source_report.specs.call_groups.CallGraph.{Calls, call}
use Rattle.source_report.specs.call_groups.Stacks.{charge, HasFrame, frame_words, frames_in, words_in, own_frames, AreStacks}
use Rattle.worked_examples.specs.Programs.{push, top, a_stack}

pub push_has_four : registers (push (2 ∷ [])) ≡ 4
push_has_four = refl

pub top_has_eight : registers top ≡ 8
top_has_eight = refl

pub push_has_a_frame : frame (push (2 ∷ [])) ≡ Some 6
push_has_a_frame = refl

rows : List (List Call)
rows = call_rows (push (2 ∷ []) ∷ top ∷ [])

abbrev frames : List (Option ℕ)
frames = Some 6 ∷ Some 10 ∷ []

abbrev stacks : List (Option Stack)
stacks = Some (a_stack 0 6) ∷ Some (a_stack 0 10) ∷ []

same_call : (a b : Call) → Some a ≡ Some b → a ≡ b
same_call a b h = cc

-- the one call is of push by top, in tail position
only_call : (f g : ℕ) (k : Bool) → Calls rows f g k → (f ≡ 1) × (g ≡ 0) × (k ≡ false)
unfolding rows
only_call zero g k (i, e) = absurd cc
only_call (suc zero) g k (zero, e) =
    let same = same_call (call 0 false) (call g k) e in
    (refl, sym (ap (λ x. x.callee) same), sym (ap (λ x. x.waits) same))
only_call (suc zero) g k (suc i, e) = absurd cc
only_call (suc (suc f)) g k (i, e) = absurd cc

keeps : (number own : ℕ → ℕ) → number 0 ≤ number 1 → (f g : ℕ) (k : Bool) → (f ≡ 1) × (g ≡ 0) × (k ≡ false) →
    number g + charge (own f) k ≤ number f
keeps number own h f g k e =
    subst (λ x. number g + charge (own x) k ≤ number x) (sym e.0)
    (subst (λ x. number x + charge (own 1) k ≤ number 1) (sym e.1)
    (subst (λ x. number 0 + charge (own 1) x ≤ number 1) (sym e.2) (omega arith)))

words_base : (f : ℕ) → frame_words frames f ≤ words_in stacks f
words_base zero = omega arith
words_base (suc zero) = omega arith
words_base (suc (suc f)) = omega arith

frames_least : (other : ℕ → ℕ) (f : ℕ) → frames_in stacks f ≤ other f
frames_least other zero = omega arith
frames_least other (suc zero) = omega arith
frames_least other (suc (suc f)) = omega arith

words_least : (other : ℕ → ℕ) → ((f : ℕ) → frame_words frames f ≤ other f) → (f : ℕ) → words_in stacks f ≤ other f
words_least other h zero = h 0
words_least other h (suc zero) = h 1
words_least other h (suc (suc f)) = omega arith

has_stack : (f : ℕ) → HasFrame frames f → (s : Stack) × (slice_get stacks f ≡ Some (Some s))
has_stack zero h = (_, refl)
has_stack (suc zero) h = (_, refl)
has_stack (suc (suc f)) (w, e) = absurd cc

has_frame : (f : ℕ) (s : Stack) → slice_get stacks f ≡ Some (Some s) → HasFrame frames f
has_frame zero s h = (_, refl)
has_frame (suc zero) s h = (_, refl)
has_frame (suc (suc f)) s h = absurd cc

nothing_below : (f : ℕ) → 0 ≤ frames_in stacks f
nothing_below f = omega arith

pub they_are_stacks : AreStacks (call_rows (push (2 ∷ []) ∷ top ∷ [])) (Some 6 ∷ Some 10 ∷ [])
    (Some (a_stack 0 6) ∷ Some (a_stack 0 10) ∷ [])
unfolding rows
they_are_stacks = record {
  some = has_stack;
  none = has_frame;
  least_frames = (
    record { base_in = nothing_below; calls_in = λ f g k h. keeps (frames_in stacks) own_frames (omega arith) f g k (only_call f g k h.1) },
    λ other h f. frames_least other f,
  );
  least_words = (
    record { base_in = words_base; calls_in = λ f g k h. keeps (words_in stacks) (frame_words frames) (omega arith) f g k (only_call f g k h.1) },
    λ other h f. words_least other h.base_in f,
  );
}

pub ruleset computed = (push_has_four, top_has_eight, push_has_a_frame, they_are_stacks)
