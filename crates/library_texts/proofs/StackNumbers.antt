-- What is said of a program's calls is right, and so are its stack numbers: by computation. They keep each inequation,
-- and each is a base or comes of a call of a function of a lower rank, so they are the least.
use Rattle.std.proofs.Common.{◌≡◌, ◌<◌, ◌≤◌, ◌⊎◌, inl, inr, ℕ, zero, suc, ◌+◌, Bool, true, false, ◌&&◌, ◌||◌, not, ◌==◌, List, [], ◌∷◌, length, map, Option, Some, None, get_or, refl, sym, ap, subst, arith}
use Rattle.std.specs.Prelude.{◌↔◌, slice_get, nat_le, nat_lt}
use Rattle.std.proofs.lemmas.Bool.{and_parts, cases_lt}
use Rattle.std.proofs.lemmas.Bool.Decides.{nat_tests}
use Rattle.std.proofs.lemmas.List.{get_or_past}
use Rattle.std.proofs.lemmas.Option.{slice_get_within}
use Rattle.source_report.specs.fip_base.declared.plain.Stack.{Stack}
use Rattle.source_report.specs.fip_trees.declared.groups.Member.{Member}
use Rattle.source_report.specs.fip_trees.declared.least.Violation.{Violation}
use Rattle.source_report.specs.fip_trees.Tree.{Instance, Program}
use Rattle.source_report.specs.call_groups.declared.search.Call.{Call}
use Rattle.source_report.specs.call_groups.Groups.{calls_of, call, SameGroup}
use Rattle.source_report.specs.call_groups.Stacks.{charge, Solves, LeastSolution, HasFrame, words_or_none, frame_words, FramedCalls, number_of, frames_in, words_in, base_frames, own_frames, AreStacks}
use Rattle.source_report.specs.tail_groups.Sites.{call_rows}
use Rattle.source_report.specs.tail_groups.Registers.{registers}
use Rattle.source_report.specs.tail_groups.Members.{frame, stack, AreMembers}
use Rattle.source_report.specs.tail_groups.Rules.{Violates}
use Rattle.source_report.proofs.fip_language.Facts.{same_number, or_cases, nat_le_true}
use Rattle.library_texts.proofs.Groups.{every, every_in, below, below_in, agree, agreed, are_groups, right_groups, none_waits, tails_right}

abbrev is_full : Option (Option ℕ) → Bool
is_full None = false
is_full (Some None) = false
is_full (Some (Some w)) = true

abbrev has_stack : Option (Option Stack) → Bool
has_stack None = false
has_stack (Some None) = false
has_stack (Some (Some s)) = true

full_frame : (o : Option (Option ℕ)) → is_full o ≡ true → (w : ℕ) × (o ≡ Some (Some w))
full_frame None e = absurd (cc)
full_frame (Some None) e = absurd (cc)
full_frame (Some (Some w)) e = (w, refl)

full_stack : (o : Option (Option Stack)) → has_stack o ≡ true → (s : Stack) × (o ≡ Some (Some s))
full_stack None e = absurd (cc)
full_stack (Some None) e = absurd (cc)
full_stack (Some (Some s)) e = (s, refl)

-- some element passes the test
abbrev some_of : {A : Type 0} → (A → Bool) → List A → Bool
some_of p [] = false
some_of p (x ∷ xs) = p x || some_of p xs

abbrev OneOf : (A : Type 0) → (A → Bool) → List A → Type 0
OneOf A p xs = (i : ℕ) × (x : A) × (slice_get xs i ≡ Some x) × (p x ≡ true)

one_later : {A : Type 0} (p : A → Bool) (x : A) (xs : List A) → OneOf A p xs → OneOf A p (x ∷ xs)
one_later p x xs (i, y, e, k) = (suc i, y, e, k)

one_of : {A : Type 0} (p : A → Bool) (xs : List A) → some_of p xs ≡ true → OneOf A p xs
one_of p [] h = absurd (cc)
one_of p (x ∷ xs) h = elim (or_cases (p x) (some_of p xs) h) [ inl e ↦ (0, x, refl, e) | inr e ↦ one_later p x xs (one_of p xs e) ]

-- each call of a function that has a frame keeps its inequation
abbrev is_solved : List (List Call) → List (Option ℕ) → (ℕ → ℕ) → (ℕ → ℕ) → ℕ → Bool
is_solved rs frames own nums f = not (is_full (slice_get frames f)) || every (λ c. nat_le (nums c.callee + charge (own f) c.waits) (nums f)) (calls_of rs f)

abbrev comes_of : (ℕ → ℕ) → (ℕ → ℕ) → (ℕ → ℕ) → ℕ → Call → Bool
comes_of own nums rank f c = nat_lt (rank c.callee) (rank f) && nat_le (nums f) (nums c.callee + charge (own f) c.waits)

-- the number is its base, or comes of a call of a function of a lower rank
abbrev is_justified : List (List Call) → List (Option ℕ) → (ℕ → ℕ) → (ℕ → ℕ) → (ℕ → ℕ) → (ℕ → ℕ) → ℕ → Bool
is_justified rs frames base own nums rank f =
    nat_le (nums f) (base f) || (is_full (slice_get frames f) && some_of (comes_of own nums rank f) (calls_of rs f))

abbrev is_least : List (List Call) → List (Option ℕ) → (ℕ → ℕ) → (ℕ → ℕ) → (ℕ → ℕ) → (ℕ → ℕ) → ℕ → Bool
is_least rs frames base own nums rank f =
    is_justified rs frames base own nums rank f && (nat_le (base f) (nums f) && is_solved rs frames own nums f)

nat_lt_true : (a b : ℕ) → nat_lt a b ≡ true → a < b
nat_lt_true a b h = grind (arith, nat_tests)

module _ (rs : List (List Call)) (frames : List (Option ℕ)) (base own nums rank : ℕ → ℕ) (h : below (is_least rs frames base own nums rank) (length frames) ≡ true)
    (no_base : (f : ℕ) → length frames ≤ f → base f ≡ 0) (no_number : (f : ℕ) → length frames ≤ f → nums f ≡ 0) where
  row : (f : ℕ) → f < length frames → (is_justified rs frames base own nums rank f ≡ true) × ((nat_le (base f) (nums f) && is_solved rs frames own nums f) ≡ true)
  row f l = and_parts (is_justified rs frames base own nums rank f) (nat_le (base f) (nums f) && is_solved rs frames own nums f) (below_in (is_least rs frames base own nums rank) (length frames) h f l)

  based : (f : ℕ) → base f ≤ nums f
  based f = elim (cases_lt f (length frames)) [
    | inl l ↦ nat_le_true (base f) (nums f) (and_parts (nat_le (base f) (nums f)) (is_solved rs frames own nums f) (row f l).1).0
    | inr l ↦ subst (λ n. n ≤ nums f) (sym (no_base f l)) (omega arith)
  ]

  holds : (b q : Bool) → b ≡ true → (not b || q) ≡ true → q ≡ true
  holds true q e k = k
  holds false q e k = absurd (cc)

  solved : (f g : ℕ) (k : Bool) → FramedCalls rs frames f g k → nums g + charge (own f) k ≤ nums f
  solved f g k c =
      let inside = slice_get_within frames f (Some c.0.0) c.0.1 in
      let parts = and_parts (nat_le (base f) (nums f)) (is_solved rs frames own nums f) (row f inside).1 in
      let calls = holds (is_full (slice_get frames f)) (every (λ c. nat_le (nums c.callee + charge (own f) c.waits) (nums f)) (calls_of rs f)) (ap is_full c.0.1) parts.1 in
      nat_le_true (nums g + charge (own f) k) (nums f) (every_in (λ c. nat_le (nums c.callee + charge (own f) c.waits) (nums f)) (calls_of rs f) calls c.1.0 (call g k) c.1.1)

  module _ (other : ℕ → ℕ) (s : Solves (FramedCalls rs frames) base own other) where
    -- it is so of functions of lower ranks
    by_call : (f : ℕ) → ((g : ℕ) → rank g < rank f → nums g ≤ other g) → (is_full (slice_get frames f) && some_of (comes_of own nums rank f) (calls_of rs f)) ≡ true → nums f ≤ other f
    by_call f lower e =
        let parts = and_parts (is_full (slice_get frames f)) (some_of (comes_of own nums rank f) (calls_of rs f)) e in
        let one = one_of (comes_of own nums rank f) (calls_of rs f) parts.1 in
        let c : Call = one.1 in
        let both = and_parts (nat_lt (rank c.callee) (rank f)) (nat_le (nums f) (nums c.callee + charge (own f) c.waits)) one.3 in
        let less = lower c.callee (nat_lt_true (rank c.callee) (rank f) both.0) in
        let comes = nat_le_true (nums f) (nums c.callee + charge (own f) c.waits) both.1 in
        let kept = s.calls_in f c.callee c.waits (full_frame (slice_get frames f) parts.0, (one.0, one.2)) in
        omega (arith, less, comes, kept)

    by_row : (f : ℕ) → ((g : ℕ) → rank g < rank f → nums g ≤ other g) → nums f ≤ other f
    by_row f lower = elim (cases_lt f (length frames)) [
      | inl l ↦ from (or_cases (nat_le (nums f) (base f)) (is_full (slice_get frames f) && some_of (comes_of own nums rank f) (calls_of rs f)) (row f l).0)
      | inr l ↦ subst (λ n. n ≤ other f) (sym (no_number f l)) (omega arith)
    ]
      where
        from : (nat_le (nums f) (base f) ≡ true) ⊎ ((is_full (slice_get frames f) && some_of (comes_of own nums rank f) (calls_of rs f)) ≡ true) → nums f ≤ other f
        from (inl e) = let low = nat_le_true (nums f) (base f) e in let kept = s.base_in f in omega (arith, low, kept)
        from (inr e) = by_call f lower e

    by_rank : (n f : ℕ) → rank f < n → nums f ≤ other f
    by_rank zero f l = absurd (omega (arith, l))
    by_rank (suc n) f l = by_row f (λ g k. by_rank n g (omega (arith, l, k)))

    lowest : (f : ℕ) → nums f ≤ other f
    lowest f = by_rank (suc (rank f)) f (omega arith)

  least : LeastSolution (FramedCalls rs frames) base own nums
  least = (record { base_in = based; calls_in = solved }, lowest)

abbrev stacks_agree : List (Option ℕ) → List (Option Stack) → ℕ → Bool
stacks_agree frames ss f = agree (is_full (slice_get frames f)) (has_stack (slice_get ss f))

-- what is said of a program's calls: frames, groups, registers and stack numbers, and ranks for both of these
pub record Told : Type 0 where
  pub calls : List (List Call)
  pub frames : List (Option ℕ)
  pub members : List Member
  pub frame_ranks : List ℕ
  pub word_ranks : List ℕ

abbrev rank_in : List ℕ → ℕ → ℕ
rank_in ranks f = get_or ranks f 0

-- the stack numbers are right
pub record AreComputed (t : Told) : Type 0 where
  pub size : length (map stack t.members) ≡ length t.frames
  pub framed : below (stacks_agree t.frames (map stack t.members)) (length t.frames) ≡ true
  pub frames_least : below (is_least t.calls t.frames base_frames own_frames (frames_in (map stack t.members)) (rank_in t.frame_ranks)) (length t.frames) ≡ true
  pub words_least : below (is_least t.calls t.frames (frame_words t.frames) (frame_words t.frames) (words_in (map stack t.members)) (rank_in t.word_ranks)) (length t.frames) ≡ true

words_past : (frames : List (Option ℕ)) (f : ℕ) → length frames ≤ f → frame_words frames f ≡ 0
words_past frames f l = ap words_or_none (get_or_past frames f None l)

number_past : (number : Stack → ℕ) (ss : List (Option Stack)) (f : ℕ) → length ss ≤ f → number_of number (get_or ss f None) ≡ 0
number_past number ss f l = ap (number_of number) (get_or_past ss f None l)

module _ (t : Told) (h : AreComputed t) where
  abbrev numbers : List (Option Stack)
  numbers = map stack t.members

  past : (f : ℕ) → length t.frames ≤ f → length numbers ≤ f
  past f l = let s = h.size in omega (arith, s, l)

  pair : (f : ℕ) → f < length t.frames → (is_full (slice_get t.frames f) ≡ true → has_stack (slice_get numbers f) ≡ true) × (has_stack (slice_get numbers f) ≡ true → is_full (slice_get t.frames f) ≡ true)
  pair f l = agreed (is_full (slice_get t.frames f)) (has_stack (slice_get numbers f)) (below_in (stacks_agree t.frames numbers) (length t.frames) h.framed f l)

  some_stack : (f : ℕ) → HasFrame t.frames f → (s : Stack) × (slice_get numbers f ≡ Some (Some s))
  some_stack f (w, e) = full_stack (slice_get numbers f) ((pair f (slice_get_within t.frames f (Some w) e)).0 (ap is_full e))

  some_frame : (f : ℕ) (s : Stack) → slice_get numbers f ≡ Some (Some s) → HasFrame t.frames f
  some_frame f s e =
      let inside : f < length t.frames = (let l = slice_get_within numbers f (Some s) e in let z = h.size in omega (arith, l, z)) in
      full_frame (slice_get t.frames f) ((pair f inside).1 (ap has_stack e))

  right_stacks : AreStacks t.calls t.frames numbers
  right_stacks = record {
    some = some_stack;
    none = some_frame;
    least_frames = least t.calls t.frames base_frames own_frames (frames_in numbers) (rank_in t.frame_ranks) h.frames_least (λ f l. refl) (λ f l. number_past (λ s. s.frames) numbers f (past f l));
    least_words = least t.calls t.frames (frame_words t.frames) (frame_words t.frames) (words_in numbers) (rank_in t.word_ranks) h.words_least (λ f l. words_past t.frames f l) (λ f l. number_past (λ s. s.words) numbers f (past f l));
  }

-- ---- members

abbrev registers_agree : Option Instance → Option Member → Bool
registers_agree None o = true
registers_agree (Some d) None = true
registers_agree (Some d) (Some m) = m.registers == registers d

abbrev counts_agree : List Instance → List Member → ℕ → Bool
counts_agree ds ms i = registers_agree (slice_get ds i) (slice_get ms i)

-- what is said is right
pub record IsTold (ds : List Instance) (t : Told) : Type 0 where
  pub calls : call_rows ds ≡ t.calls
  pub frames : map frame ds ≡ t.frames
  pub size : length t.members ≡ length ds
  pub counted : below (counts_agree ds t.members) (length ds) ≡ true
  pub together : are_groups t.calls t.members (length t.members) ≡ true
  pub stacks : AreComputed t

counts : (ds : List Instance) (ms : List Member) → below (counts_agree ds ms) (length ds) ≡ true → (i : ℕ) (d : Instance) (m : Member) → slice_get ds i ≡ Some d → slice_get ms i ≡ Some m → m.registers ≡ registers d
counts ds ms h i d m e f =
    let one : registers_agree (slice_get ds i) (slice_get ms i) ≡ true = below_in (counts_agree ds ms) (length ds) h i (slice_get_within ds i d e) in
    same_number m.registers (registers d) (subst (λ o. registers_agree (Some d) o ≡ true) f (subst (λ o. registers_agree o (slice_get ms i) ≡ true) e one))

pub told_members : (ds : List Instance) (t : Told) → IsTold ds t → AreMembers ds t.members
told_members ds t h = record {
  size = h.size;
  counted = counts ds t.members h.counted;
  together = subst (λ rs. (i j : ℕ) (m n : Member) → slice_get t.members i ≡ Some m → slice_get t.members j ≡ Some n → (m.group ≡ n.group) ↔ SameGroup rs i j) (sym h.calls) (right_groups t.calls t.members h.together);
  stacks = λ f. subst (λ fs. AreStacks (call_rows ds) fs (map stack t.members)) (sym h.frames) (subst (λ rs. AreStacks rs t.frames (map stack t.members)) (sym h.calls) (right_stacks t h.stacks));
}

pub told_tails : (p : Program) (t : Told) → IsTold p.instances t → none_waits t.calls 0 p.instances ≡ true → (v : Violation) → Violates p v → ⊥
told_tails p t h w = tails_right p (subst (λ rs. none_waits rs 0 p.instances ≡ true) (sym h.calls) w)
