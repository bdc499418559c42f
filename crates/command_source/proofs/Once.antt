-- A source has one refusal at most, none where it is ready, and one listing.
-- Idea: what runs hold of the stack are least numbers, so they don't depend on how the groups are numbered.
use Rattle.std.proofs.Common.{◌≡◌, ◌∙◌, ℕ, zero, suc, List, [], ◌∷◌, ◌++◌, map, refl, sym, ap, ap₂, subst, inl, inr, arith, get_or, slice_get}
use Rattle.std.specs.Prelude.{Option, Some, None}
use Rattle.fip_base.specs.declared.plain.Stack.{Stack}
use Rattle.fip_base.specs.declared.refusal.Refusal.{Refusal}
use Rattle.fip_trees.specs.declared.groups.Member.{Member}
use Rattle.fip_trees.specs.Tree.{Instance, Program}
use Rattle.code_verify.specs.call_groups.declared.search.Call.{Call}
use Rattle.code_verify.specs.call_groups.Stacks.{AreStacks, frames_in, words_in, number_of}
use Rattle.program_front.specs.tail_groups.Members.{AreMembers, FipCallsFip, frame, stack}
use Rattle.program_front.specs.tail_groups.Sites.{call_rows}
use Rattle.fip_language.specs.declared.Place.{Place}
use Rattle.program_front.specs.source_report.Same.{AreSame, offset}
use Rattle.program_front.proofs.source_report.FipCalls.{fip_calls}
use Rattle.program_front.proofs.source_report.Once.{accepted_once, accepted_not, reported_once}
use Rattle.std.proofs.lemmas.Option.{none-some, same_Some, get_or_from_slice_get}
use Rattle.command_source.specs.Places.{place_at, placed_at, placed}
use Rattle.command_source.specs.Roots.{held, root_line, root_lines, root_named, IsListing}
use Rattle.command_source.specs.Wanted.{Wanted, Lawful, Root, Compiled, MissesRoot, MissesCode, Misses, IsReport, Refuses, IsRoot, IsCompiled, Has, IsReady}

-- ---- stack numbers

abbrev inner : Option (Option Stack) → Option Stack
inner None = None
inner (Some o) = o

module _ (rs : List (List Call)) (frames : List (Option ℕ)) (ss ts : List (Option Stack)) (h : AreStacks rs frames ss) (k : AreStacks rs frames ts) where
  frames_same : (n : ℕ) → frames_in ss n ≡ frames_in ts n
  frames_same n = let a = h.least_frames.1 (frames_in ts) k.least_frames.0 n in let b = k.least_frames.1 (frames_in ss) h.least_frames.0 n in omega (arith, a, b)

  words_same : (n : ℕ) → words_in ss n ≡ words_in ts n
  words_same n = let a = h.least_words.1 (words_in ts) k.least_words.0 n in let b = k.least_words.1 (words_in ss) h.least_words.0 n in omega (arith, a, b)

  number_there : (us : List (Option Stack)) (n : ℕ) (s : Stack) (num : Stack → ℕ) → slice_get us n ≡ Some (Some s) → number_of num (get_or us n None) ≡ num s
  number_there us n s num e = ap (number_of num) (get_or_from_slice_get us n (Some s) None e)

  stack_there : (n : ℕ) (s : Stack) → slice_get ss n ≡ Some (Some s) → slice_get ts n ≡ Some (Some s)
  stack_there n s e =
      let t = k.some n (h.none n s e) in
      let f : s.frames ≡ t.0.frames = sym (number_there ss n s (λ s. s.frames) e) ∙ frames_same n ∙ number_there ts n t.0 (λ s. s.frames) t.1 in
      let w : s.words ≡ t.0.words = sym (number_there ss n s (λ s. s.words) e) ∙ words_same n ∙ number_there ts n t.0 (λ s. s.words) t.1 in
      let same : t.0 ≡ s = (λ i. record { frames = sym f i; words = sym w i }) in
      t.1 ∙ ap (λ s. Some (Some s)) same

stacks_same : (rs : List (List Call)) (frames : List (Option ℕ)) (ss ts : List (Option Stack)) → AreStacks rs frames ss → AreStacks rs frames ts → (n : ℕ) → inner (slice_get ss n) ≡ inner (slice_get ts n)
stacks_same rs frames ss ts h k n = by (slice_get ss n) (slice_get ts n) refl refl
  where
    by : (o p : Option (Option Stack)) → slice_get ss n ≡ o → slice_get ts n ≡ p → inner (slice_get ss n) ≡ inner (slice_get ts n)
    by (Some (Some s)) p e f = ap inner (e ∙ sym (stack_there rs frames ss ts h k n s e))
    by o (Some (Some t)) e f = ap inner (stack_there rs frames ts ss k h n t f ∙ sym f)
    by None None e f = ap inner (e ∙ sym f)
    by None (Some None) e f = ap inner e ∙ sym (ap inner f)
    by (Some None) None e f = ap inner e ∙ sym (ap inner f)
    by (Some None) (Some None) e f = ap inner (e ∙ sym f)

held_is : (ms : List Member) (n : ℕ) → held ms n ≡ inner (slice_get (map stack ms) n)
held_is [] n = refl
held_is (m ∷ ms) zero = refl
held_is (m ∷ ms) (suc n) = held_is ms n

-- the stack number of an instance is one
pub held_same : (ds : List Instance) (ms ns : List Member) → FipCallsFip ds → AreMembers ds ms → AreMembers ds ns → (n : ℕ) → held ms n ≡ held ns n
held_same ds ms ns fip h k n = held_is ms n ∙ stacks_same (call_rows ds) (map frame ds) (map stack ms) (map stack ns) (h.stacks fip) (k.stacks fip) n ∙ sym (held_is ns n)

-- ---- the listing

lines_same : (ms ns : List Member) → ((n : ℕ) → held ms n ≡ held ns n) → (n : ℕ) (ds : List Instance) → root_lines ms n ds ≡ root_lines ns n ds
lines_same ms ns same n [] = refl
lines_same ms ns same n (d ∷ ds) = ap₂ (λ a b. a ++ b) (ap (root_line d) (same n)) (lines_same ms ns same (suc n) ds)

pub listing_once : (source t u : List ℕ) → IsListing source t → IsListing source u → t ≡ u
listing_once source t u h k =
    let same = accepted_once source h.program k.program h.accepted k.accepted in
    let fip = fip_calls source k.program k.accepted.tailed.credited.owned in
    let found = subst (λ p. AreMembers p.instances h.members) same h.found in
    h.is ∙ ap (λ p. root_lines h.members 0 p.instances) same ∙ lines_same h.members k.members (held_same k.program.instances h.members k.members fip found k.found) 0 k.program.instances ∙ sym k.is

pub listing_ready : (source text : List ℕ) → IsListing source text → IsReady source Lawful
listing_ready source text h = record { program = h.program; accepted = h.accepted; has = tt }

-- ---- the refusal

-- the line and the column are those of the offset
placed_at_once : (source : List ℕ) (p q : Option Place) → offset p ≡ offset q → placed_at source p ≡ placed_at source q
placed_at_once source None None e = refl
placed_at_once source None (Some q) e = absurd (none-some q.at e)
placed_at_once source (Some p) None e = absurd (none-some p.at (sym e))
placed_at_once source (Some p) (Some q) e = ap (λ n. Some (place_at source n)) (same_Some p.at q.at e)

placed_once : (source : List ℕ) (q r : Refusal) → AreSame q r → placed source q ≡ placed source r
placed_once source q r h =
    let places = placed_at_once source q.place r.place h.offset in
    λ i. record { rule = h.rule i; place = places i; size = h.size i; detail = h.detail i }

pub report_once : (source : List ℕ) (q r : Refusal) → IsReport source q → IsReport source r → q ≡ r
report_once source q r h k = h.2 ∙ placed_once source h.0 k.0 (reported_once source h.0 k.0 h.1 k.1) ∙ sym k.2

misses_once : (w : Wanted) (p : Program) (q r : Refusal) → Misses w p q → Misses w p r → q ≡ r
misses_once Lawful p q r h k = absurd h
misses_once (Root name) p q r h k = by (root_named name p.instances) h k
  where
    by : (o : Option Instance) → MissesRoot o name q → MissesRoot o name r → q ≡ r
    by None h k = h ∙ sym k
    by (Some d) h k = absurd h
misses_once (Compiled name) p q r h k = by (root_named name p.instances) h k
  where
    by : (o : Option Instance) → MissesCode o name q → MissesCode o name r → q ≡ r
    by None h k = h ∙ sym k
    by (Some d) h k = h.1 ∙ sym k.1

misses_or_has : (w : Wanted) (p : Program) (r : Refusal) → Misses w p r → Has w p → ⊥
misses_or_has Lawful p r h k = h
misses_or_has (Root name) p r h k = by (root_named name p.instances) h k
  where
    by : (o : Option Instance) → MissesRoot o name r → IsRoot o → ⊥
    by None h k = k
    by (Some d) h k = h
misses_or_has (Compiled name) p r h k = by (root_named name p.instances) h k
  where
    by : (o : Option Instance) → MissesCode o name r → IsCompiled o → ⊥
    by None h k = k
    by (Some d) h k = k h.0

pub refused_once : (source : List ℕ) (w : Wanted) (q r : Refusal) → Refuses source w q → Refuses source w r → q ≡ r
refused_once source w q r (inl h) (inl k) = report_once source q r h k
refused_once source w q r (inl h) (inr (p, a, k)) = absurd (accepted_not source p h.0 a h.1)
refused_once source w q r (inr (p, a, h)) (inl k) = absurd (accepted_not source p k.0 a k.1)
refused_once source w q r (inr (p, a, h)) (inr (o, b, k)) =
    misses_once w o q r (subst (λ p. Misses w p q) (accepted_once source p o a b) h) k

pub refused_not_ready : (source : List ℕ) (w : Wanted) (r : Refusal) → Refuses source w r → IsReady source w → ⊥
refused_not_ready source w r (inl h) k = accepted_not source k.program h.0 k.accepted h.1
refused_not_ready source w r (inr (p, a, h)) k =
    misses_or_has w k.program r (subst (λ p. Misses w p r) (accepted_once source p k.program a k.accepted) h) k.has
