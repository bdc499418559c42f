-- A function has the stack number of its instance, where functions call each other as the instances do.
use Rattle.std.proofs.Common.{◌≡◌, ◌≤◌, ℕ, zero, suc, ◌+◌, Bool, true, false, List, [], ◌∷◌, map, get_or, slice_get, Option, Some, None, if◌then◌else◌, refl, sym, ap, ap₂, ◌∙◌, subst, arith, true≢false}
use Rattle.std.proofs.lemmas.Option.{none-some, same_Some, get_or_from_slice_get}
use Rattle.separation.specs.fip_language.declared.FunKind.{FunKind}
use Rattle.separation.specs.cell_code.declared.code.CodeKind.{CodeKind}
use Rattle.separation.specs.fip_language.declared.FunKind.TheVariants.{Fip, Fbip, Fun}
use Rattle.separation.specs.fip_language.declared.limits.TheConstants.{FRAME_WORDS}
use Rattle.separation.specs.fip_base.declared.plain.Stack.{Stack}
use Rattle.lowering_relation.specs.fip_trees.declared.groups.Member.{Member}
use Rattle.lowering_relation.specs.fip_trees.Tree.{Instance}
use Rattle.tail_groups.specs.call_groups.Stacks.{charge, Solves, LeastSolution, HasFrame, frame_words, words_or_none, number_of, frames_in, words_in, base_frames, own_frames, AreStacks, FramedCalls}
use Rattle.tail_groups.specs.Sites.{call_rows}
use Rattle.tail_groups.specs.Rules as T
use Rattle.tail_groups.specs.Registers.{registers}
use Rattle.tail_groups.specs.Members.{frame, stack, FipCallsFip, AreMembers}
use Rattle.separation.specs.cell_code.Plain.{PlainFunction, PlainCode, function_at}
use Rattle.separation.specs.code_rules.Codes.{is_fip, code_kind}
use Rattle.separation.specs.code_rules.StackNumbers.{IsFip, FipCalls, words_of, words_at, IsStack, HasStack}
use Rattle.lowering_relation.specs.LoweredBodies.{has_function, one_more, if_function, function_of}
use Rattle.lowering_soundness.specs.Alike.{Alike}
use Rattle.tail_groups.proofs.fip_language.Facts.{get_map as map_at, get_of_map as at_map, if_some_true as fip_frame}
use Rattle.lowering_soundness.proofs.Grouped.{same_fip}

-- ---- the instance of a function

abbrev following : Option ℕ → Option ℕ
following None = None
following (Some i) = Some (suc i)

-- one instance is before the others, and has a function or none
abbrev past : Bool → (ℕ → Option ℕ) → ℕ → Option ℕ
past false rest n = following (rest n)
past true rest zero = Some 0
past true rest (suc n) = following (rest n)

-- the number of the instance that has function n
abbrev instance_of : List Instance → ℕ → Option ℕ
instance_of [] n = None
instance_of (d ∷ ds) n = past (has_function d.kind) (instance_of ds) n

past_first : (b : Bool) (rest : ℕ → Option ℕ) (n : ℕ) → if_function b ≡ Some n → past b rest n ≡ Some 0
past_first false rest n e = absurd (none-some n e)
past_first true rest n e = ap (past true rest) (sym (same_Some 0 n e))

past_later : (b : Bool) (rest : ℕ → Option ℕ) (o : Option ℕ) (i n : ℕ) → ((m : ℕ) → o ≡ Some m → rest m ≡ Some i) → one_more b o ≡ Some n → past b rest n ≡ Some (suc i)
past_later b rest None i n h e = absurd (none-some n e)
past_later false rest (Some m) i n h e = ap following (h n e)
past_later true rest (Some m) i n h e = subst (λ n. past true rest n ≡ Some (suc i)) (same_Some (suc m) n e) (ap following (h m refl))

-- it is found
finds : (ds : List Instance) (i n : ℕ) → function_of ds i ≡ Some n → instance_of ds n ≡ Some i
finds [] i n e = absurd (none-some n e)
finds (d ∷ ds) zero n e = past_first (has_function d.kind) (instance_of ds) n e
finds (d ∷ ds) (suc i) n e = past_later (has_function d.kind) (instance_of ds) (function_of ds i) i n (λ m. finds ds i m) e

after_some : (o : Option ℕ) (i : ℕ) → following o ≡ Some i → (j : ℕ) × (o ≡ Some j) × (i ≡ suc j)
after_some None i e = absurd (none-some i e)
after_some (Some j) i e = (j, refl, sym (same_Some (suc j) i e))

-- what is found has it
found : (ds : List Instance) (n i : ℕ) → instance_of ds n ≡ Some i → function_of ds i ≡ Some n
found [] n i e = absurd (none-some i e)
found (d ∷ ds) n i e = by (has_function d.kind) n refl e (found ds)
  where
    by : (b : Bool) (n : ℕ) → has_function d.kind ≡ b → past b (instance_of ds) n ≡ Some i → ((m j : ℕ) → instance_of ds m ≡ Some j → function_of ds j ≡ Some m) → function_of (d ∷ ds) i ≡ Some n
    by false n k e rest =
        let z = after_some (instance_of ds n) i e in
        subst (λ i. function_of (d ∷ ds) i ≡ Some n) (sym z.2) (ap (λ b. one_more b (function_of ds z.0)) k ∙ ap (one_more false) (rest n z.0 z.1))
    by true zero k e rest = subst (λ i. function_of (d ∷ ds) i ≡ Some 0) (same_Some 0 i e) (ap if_function k)
    by true (suc n) k e rest =
        let z = after_some (instance_of ds n) i e in
        subst (λ i. function_of (d ∷ ds) i ≡ Some (suc n)) (sym z.2) (ap (λ b. one_more b (function_of ds z.0)) k ∙ ap (one_more true) (rest n z.0 z.1))

-- ---- instances by number

less : (b : Bool) (o : Option ℕ) (n : ℕ) → one_more b o ≡ Some n → (m : ℕ) × (o ≡ Some m)
less b None n e = absurd (none-some n e)
less b (Some m) n e = (m, refl)

-- what has a function is there
there : (ds : List Instance) (i n : ℕ) → function_of ds i ≡ Some n → (d : Instance) × (slice_get ds i ≡ Some d)
there [] i n e = absurd (none-some n e)
there (d ∷ ds) zero n e = (d, refl)
there (d ∷ ds) (suc i) n e = let z = less (has_function d.kind) (function_of ds i) n e in there ds i z.0 z.1

one_or_more : (b : Bool) (f : ℕ) → (n : ℕ) × (one_more b (Some f) ≡ Some n)
one_or_more false f = (f, refl)
one_or_more true f = (suc f, refl)

-- a fip instance has a function
fip_has : (ds : List Instance) (i : ℕ) (d : Instance) → slice_get ds i ≡ Some d → T.is_fip d.kind ≡ true → (n : ℕ) × (function_of ds i ≡ Some n)
fip_has [] i d e k = absurd (none-some d e)
fip_has (x ∷ ds) zero d e k = (0, ap if_function (ap (λ (y : Instance). has_function y.kind) (same_Some x d e) ∙ by d.kind k))
  where
    by : (k : FunKind) → T.is_fip k ≡ true → has_function k ≡ true
    by Fip e = refl
    by Fbip e = refl
    by Fun e = absurd (true≢false (sym e))
fip_has (x ∷ ds) (suc i) d e k =
    let z = fip_has ds i d e k in
    let y = one_or_more (has_function x.kind) z.0 in
    (y.0, ap (one_more (has_function x.kind)) z.1 ∙ y.1)

-- an instance with a frame is fip
framed : (ds : List Instance) (i : ℕ) → HasFrame (map frame ds) i → (d : Instance) × (slice_get ds i ≡ Some d) × (T.is_fip d.kind ≡ true)
framed ds i h =
    let r = at_map frame ds i (Some h.0) h.1 in
    (r.0, r.1, fip_frame (T.is_fip r.0.kind) (registers r.0 + FRAME_WORDS) h.0 (sym r.2))

fip_framed : (ds : List Instance) (i : ℕ) (d : Instance) → slice_get ds i ≡ Some d → T.is_fip d.kind ≡ true → HasFrame (map frame ds) i
fip_framed ds i d h e = (registers d + FRAME_WORDS, map_at frame ds i d h ∙ ap (λ b. Some (if b then Some (registers d + FRAME_WORDS) else None)) e)

none_more : (b : Bool) (o : Option ℕ) → one_more b o ≡ None → o ≡ None
none_more b None e = refl
none_more false (Some f) e = absurd (none-some f (sym e))
none_more true (Some f) e = absurd (none-some (suc f) (sym e))

-- an instance without a function has no frame
no_frame : (ds : List Instance) (i : ℕ) → function_of ds i ≡ None → frame_words (map frame ds) i ≡ 0
no_frame [] i e = refl
no_frame (d ∷ ds) zero e = by d.kind (registers d + FRAME_WORDS) e
  where
    by : (k : FunKind) (w : ℕ) → if_function (has_function k) ≡ None → words_or_none (if T.is_fip k then Some w else None) ≡ 0
    by Fip w e = absurd (none-some 0 (sym e))
    by Fbip w e = refl
    by Fun w e = refl
no_frame (d ∷ ds) (suc i) e = no_frame ds i (none_more (has_function d.kind) (function_of ds i) e)

-- ---- numbers of functions and of instances

abbrev over : (ℕ → ℕ) → Option ℕ → ℕ
over number None = 0
over number (Some i) = number i

-- the number of a function is that of its instance, or 0
abbrev of_instances : List Instance → (ℕ → ℕ) → ℕ → ℕ
of_instances ds number n = over number (instance_of ds n)

-- the number of an instance is that of its function, or 0
abbrev of_functions : List Instance → (ℕ → ℕ) → ℕ → ℕ
of_functions ds number i = over number (function_of ds i)

instances_at : (ds : List Instance) (number : ℕ → ℕ) (i n : ℕ) → function_of ds i ≡ Some n → of_instances ds number n ≡ number i
instances_at ds number i n e = ap (over number) (finds ds i n e)

functions_at : (ds : List Instance) (number : ℕ → ℕ) (i n : ℕ) → function_of ds i ≡ Some n → of_functions ds number i ≡ number n
functions_at ds number i n e = ap (over number) e

-- A function has the same number as its instance; functions and instances without the other have 0.
record AreSame (ds : List Instance) (f g : ℕ → ℕ) : Type 0 where
  same : (i n : ℕ) → function_of ds i ≡ Some n → f n ≡ g i
  no_instance : (n : ℕ) → instance_of ds n ≡ None → f n ≡ 0
  no_function : (i : ℕ) → function_of ds i ≡ None → g i ≡ 0

charged : (a b a' b' o o' : ℕ) (k : Bool) → a ≡ a' → b ≡ b' → o ≡ o' → a' + charge o' k ≤ b' → a + charge o k ≤ b
charged a b a' b' o o' true x y z l = omega (arith, x, y, z, l)
charged a b a' b' o o' false x y z l = omega (arith, x, y, l)

-- ---- fip functions and fip instances

module _ (c : PlainCode) (ds : List Instance) (alike : Alike c ds) where
  -- the function of a fip instance is fip
  fip_function : (i n : ℕ) → function_of ds i ≡ Some n → HasFrame (map frame ds) i → IsFip c n
  fip_function i n e h =
      let z = framed ds i h in
      let f = alike.has_function i n z.0 e z.1 in
      (f.0, f.1, ap is_fip f.2 ∙ same_fip (z.0).kind ∙ z.2)

  -- the instance of a fip function is fip
  fip_instance : (i n : ℕ) → function_of ds i ≡ Some n → IsFip c n → HasFrame (map frame ds) i
  fip_instance i n e (f, at, fip) =
      let z = there ds i n e in
      let g = alike.has_function i n z.0 e z.1 in
      let same : g.0 ≡ f = same_Some g.0 f (sym g.1 ∙ at) in
      fip_framed ds i z.0 z.1 (sym (same_fip (z.0).kind) ∙ sym (ap is_fip g.2) ∙ ap (λ (f : PlainFunction). is_fip f.kind) same ∙ fip)

  framed_has : (i : ℕ) → HasFrame (map frame ds) i → (n : ℕ) × (function_of ds i ≡ Some n)
  framed_has i h = let z = framed ds i h in fip_has ds i z.0 z.1 z.2

  -- their frames have as many words
  words_same : (i n : ℕ) → function_of ds i ≡ Some n → words_at c n ≡ frame_words (map frame ds) i
  words_same i n e =
      let z = there ds i n e in
      let g = alike.has_function i n z.0 e z.1 in
      ap words_of g.1 ∙ by g.0.kind z.0.kind g.0.registers (registers z.0) g.2 g.3 ∙ sym (ap words_or_none (get_or_from_slice_get (map frame ds) i (frame z.0) None (map_at frame ds i z.0 z.1)))
    where
      by : (k : CodeKind) (l : FunKind) (r s : ℕ) → k ≡ code_kind l → r ≡ s → (if is_fip k then r + FRAME_WORDS else 0) ≡ words_or_none (if T.is_fip l then Some (s + FRAME_WORDS) else None)
      by k Fip r s a b = ap (λ k. if is_fip k then r + FRAME_WORDS else 0) a ∙ ap (λ r. r + FRAME_WORDS) b
      by k Fbip r s a b = ap (λ k. if is_fip k then r + FRAME_WORDS else 0) a
      by k Fun r s a b = ap (λ k. if is_fip k then r + FRAME_WORDS else 0) a

  -- a number that is no function's has no words
  no_words : (n : ℕ) → instance_of ds n ≡ None → words_at c n ≡ 0
  no_words n e = by (function_at c n) refl
    where
      by : (o : Option PlainFunction) → function_at c n ≡ o → words_of o ≡ 0
      by None k = refl
      by (Some f) k = let z = alike.of_function n f k in absurd (none-some z.0 (sym e ∙ finds ds z.0 n z.1))

  -- ---- least numbers

  -- the calls of fip instances
  abbrev Framed : ℕ → ℕ → Bool → Type 0
  Framed = FramedCalls (call_rows ds) (map frame ds)

  module _ (base own base' own' : ℕ → ℕ) (bases : AreSame ds base base') (owns : (i n : ℕ) → function_of ds i ≡ Some n → own n ≡ own' i) where
    -- numbers that solve what is required of instances give such of functions
    solves_functions : (number : ℕ → ℕ) → Solves Framed base' own' number → Solves (FipCalls c) base own (of_instances ds number)
    solves_functions number s = record {
      base_in = λ n. by n (instance_of ds n) refl;
      calls_in = λ a b k (fip, called).
          let f = alike.of_function a fip.0 fip.1 in
          let z = alike.to_instances f.0 a b k f.1 called in
          charged _ _ (number z.0) (number f.0) (own a) (own' f.0) k (instances_at ds number z.0 b z.1) (instances_at ds number f.0 a f.1) (owns f.0 a f.1) (s.calls_in f.0 z.0 k (fip_instance f.0 a f.1 fip, z.2));
    }
      where
        by : (n : ℕ) (o : Option ℕ) → instance_of ds n ≡ o → base n ≤ over number o
        by n None e = let z = bases.no_instance n e in omega (arith, z)
        by n (Some i) e = let z = bases.same i n (found ds n i e) in let l = s.base_in i in omega (arith, z, l)

    -- and numbers of functions such of instances
    solves_instances : (number : ℕ → ℕ) → Solves (FipCalls c) base own number → Solves Framed base' own' (of_functions ds number)
    solves_instances number s = record {
      base_in = λ i. by i (function_of ds i) refl;
      calls_in = λ i j k (h, called).
          let f = framed_has i h in
          let z = alike.to_functions i j f.0 k f.1 called in
          charged _ _ (number z.0) (number f.0) (own' i) (own f.0) k (functions_at ds number j z.0 z.1) (functions_at ds number i f.0 f.1) (sym (owns i f.0 f.1)) (s.calls_in f.0 z.0 k (fip_function i f.0 f.1 h, z.2));
    }
      where
        by : (i : ℕ) (o : Option ℕ) → function_of ds i ≡ o → base' i ≤ over number o
        by i None e = let z = bases.no_function i e in omega (arith, z)
        by i (Some n) e = let z = bases.same i n e in let l = s.base_in n in omega (arith, z, l)

    -- so the least of instances give the least of functions
    least_of_functions : (number : ℕ → ℕ) → LeastSolution Framed base' own' number → LeastSolution (FipCalls c) base own (of_instances ds number)
    least_of_functions number l = (solves_functions number l.0, λ other s n. by other s n (instance_of ds n) refl)
      where
        by : (other : ℕ → ℕ) → Solves (FipCalls c) base own other → (n : ℕ) (o : Option ℕ) → instance_of ds n ≡ o → over number o ≤ other n
        by other s n None e = omega arith
        by other s n (Some i) e = subst (λ m. number i ≤ m) (functions_at ds other i n (found ds n i e)) (l.1 (of_functions ds other) (solves_instances other s) i)

  frames_least : (number : ℕ → ℕ) → LeastSolution Framed base_frames own_frames number → LeastSolution (FipCalls c) base_frames own_frames (of_instances ds number)
  frames_least = least_of_functions base_frames own_frames base_frames own_frames (record { same = λ i n e. refl; no_instance = λ n e. refl; no_function = λ i e. refl }) (λ i n e. refl)

  words_least : (number : ℕ → ℕ) → LeastSolution Framed (frame_words (map frame ds)) (frame_words (map frame ds)) number → LeastSolution (FipCalls c) (words_at c) (words_at c) (of_instances ds number)
  words_least = least_of_functions (words_at c) (words_at c) (frame_words (map frame ds)) (frame_words (map frame ds)) (record { same = words_same; no_instance = no_words; no_function = no_frame ds }) words_same

-- ---- the numbers themselves

stack_is : (c : PlainCode) (ds : List Instance) (ms : List Member) (i n : ℕ) (s : Stack) → Alike c ds → AreStacks (call_rows ds) (map frame ds) (map stack ms) → function_of ds i ≡ Some n → get_or (map stack ms) i None ≡ Some s → IsStack c n s
stack_is c ds ms i n s alike all e is =
    let made : (f w : ℕ) → Stack = λ f w. record { frames = f; words = w } in
    record {
      frames = of_instances ds (frames_in (map stack ms));
      words = of_instances ds (words_in (map stack ms));
      are_frames = frames_least c ds alike (frames_in (map stack ms)) all.least_frames;
      are_words = words_least c ds alike (words_in (map stack ms)) all.least_words;
      is = sym (ap₂ made (instances_at ds (frames_in (map stack ms)) i n e ∙ ap (number_of (λ (t : Stack). t.frames)) is) (instances_at ds (words_in (map stack ms)) i n e ∙ ap (number_of (λ (t : Stack). t.words)) is));
    }

-- A function has the stack number of its instance.
pub has_its_stack : (c : PlainCode) (ds : List Instance) (ms : List Member) → Alike c ds → AreMembers ds ms → FipCallsFip ds → (i n : ℕ) (m : Member) → function_of ds i ≡ Some n → slice_get ms i ≡ Some m → HasStack c n m.stack
has_its_stack c ds ms alike members fips i n m e at = by m.stack (map_at stack ms i m at)
  where
    all : AreStacks (call_rows ds) (map frame ds) (map stack ms)
    all = members.stacks fips

    by : (o : Option Stack) → slice_get (map stack ms) i ≡ Some o → HasStack c n o
    by None k = λ fip. let z = all.some i (fip_instance c ds alike i n e fip) in none-some z.0 (same_Some None (Some z.0) (sym k ∙ z.1))
    by (Some s) k = (fip_function c ds alike i n e (all.none i s k), stack_is c ds ms i n s alike all e (get_or_from_slice_get (map stack ms) i (Some s) None k))
