-- Instances of which no rule on calls is broken have groups, registers and stack numbers.
-- The idea: the group of one is the least number of its group; and what waits in its own group is refused, so the stack
-- numbers are bounded and there are least ones.
use Rattle.std.proofs.Common.{◌≡◌, ◌⊎◌, inl, inr, ℕ, zero, suc, ◌+◌, ◌<◌, ◌≤◌, Bool, true, false, not, List, [], ◌∷◌, map, length, get_or, Option, Some, None, slice_get, refl, sym, ap, ◌∙◌, subst, arith}
use Rattle.std.specs.Prelude.{if◌then◌else◌, ◌↔◌}
use Rattle.source_report.specs.call_groups.Groups.{In, Calls, calls_of, call, Path, Reaches, SameGroup}
use Rattle.source_report.specs.call_groups.Stacks.{charge, Solves, LeastSolution, HasFrame, words_or_none, frame_words, FramedCalls, number_of, base_frames, own_frames, AreStacks}
use Rattle.source_report.specs.call_groups.declared.search.Call as C
use Rattle.source_report.specs.fip_base.declared.plain.Stack.{Stack}
use Rattle.source_report.specs.fip_language.declared.limits.TheConstants.{FRAME_WORDS}
use Rattle.source_report.specs.fip_trees.declared.groups.Member.{Member}
use Rattle.source_report.specs.fip_trees.declared.least.Violation.{Violation}
use Rattle.source_report.specs.fip_trees.Tree.{Instance, Program}
use Rattle.source_report.specs.tail_groups.Members.{frame, FipCallsFip, stack, AreMembers}
use Rattle.source_report.specs.tail_groups.Registers.{registers}
use Rattle.source_report.specs.tail_groups.Rules.{is_fip, reported, Violates}
use Rattle.source_report.specs.tail_groups.Sites.{Site, called, instance_sites, instance_calls, call_rows}
use Rattle.source_report.proofs.fip_language.Facts.{false_of_not, get_map, get_of_map, if_some_true, get_within, same_some, none_some}
use Rattle.source_report.proofs.separation_bounds.Bounds.{Way}
use Rattle.source_report.proofs.separation_bounds.Solving.{Can, IsLeast, least_one, solved}

-- ---- groups

path_on : (rs : List (List C.Call)) (m n a b c : ℕ) → Path rs m a b → Path rs n b c → Path rs (m + n) a c
path_on rs zero n a b c p q = let z : 0 + n ≡ n = omega arith in subst (λ k. Path rs k a c) (sym z) (subst (λ x. Path rs n x c) (sym p) q)
path_on rs (suc m) n a b c (d, k, p) q =
    let s : suc m + n ≡ suc (m + n) = omega arith in
    subst (λ j. Path rs j a c) (sym s) (d, k, path_on rs m n d b c p q)

reaches_on : (rs : List (List C.Call)) (a b c : ℕ) → Reaches rs a b → Reaches rs b c → Reaches rs a c
reaches_on rs a b c p q = (p.0 + q.0, path_on rs p.0 q.0 a b c p.1 q.1)

one_group : (rs : List (List C.Call)) (a : ℕ) → SameGroup rs a a
one_group rs a = ((0, refl), (0, refl))

other_way : (rs : List (List C.Call)) (a b : ℕ) → SameGroup rs a b → SameGroup rs b a
other_way rs a b h = (h.1, h.0)

group_on : (rs : List (List C.Call)) (a b c : ℕ) → SameGroup rs a b → SameGroup rs b c → SameGroup rs a c
group_on rs a b c h k = (reaches_on rs a b c h.0 k.0, reaches_on rs c b a k.1 h.1)

-- the least number of the group of a
abbrev IsGroup : List (List C.Call) → ℕ → ℕ → Type 0
IsGroup rs a g = IsLeast (SameGroup rs a) g

group_of : (rs : List (List C.Call)) (a : ℕ) → Can ((g : ℕ) × IsGroup rs a g)
group_of rs a = least_one (SameGroup rs a) a (one_group rs a)

groups_same : (rs : List (List C.Call)) (a b g h : ℕ) → IsGroup rs a g → IsGroup rs b h → (g ≡ h) ↔ SameGroup rs a b
groups_same rs a b g h k l = (
  λ e. group_on rs a h b (subst (SameGroup rs a) e k.has) (other_way rs b h l.has),
  λ s.
      let one = k.least h (group_on rs a b h s l.has) in
      let two = l.least g (group_on rs b a g (other_way rs a b s) k.has) in
      omega (arith, one, two),
)

-- ---- frames

framed : (ds : List Instance) (f : ℕ) → HasFrame (map frame ds) f → (d : Instance) × (slice_get ds f ≡ Some d) × (is_fip d.kind ≡ true)
framed ds f h =
    let r = get_of_map frame ds f (Some h.0) h.1 in
    (r.0, r.1, if_some_true (is_fip r.0.kind) (registers r.0 + FRAME_WORDS) h.0 (sym r.2))

frame_some : (b : Bool) (n : ℕ) → b ≡ true → (if b then Some n else None) ≡ Some n
frame_some true n h = refl
frame_some false n h = absurd (cc)

fip_framed : (ds : List Instance) (f : ℕ) (d : Instance) → slice_get ds f ≡ Some d → is_fip d.kind ≡ true → HasFrame (map frame ds) f
fip_framed ds f d h e = (registers d + FRAME_WORDS, get_map frame ds f d h ∙ ap (λ (o : Option ℕ). Some o) (frame_some (is_fip d.kind) (registers d + FRAME_WORDS) e))

row_at : (ds : List Instance) (f : ℕ) (d : Instance) → slice_get ds f ≡ Some d → calls_of (call_rows ds) f ≡ instance_calls d
row_at [] f d h = absurd (none_some d h)
row_at (x ∷ ds) zero d h = ap instance_calls (same_some x d h)
row_at (x ∷ ds) (suc f) d h = row_at ds f d h

-- a call of an instance is somewhere in it
site_of : (ds : List Instance) (f g : ℕ) (k : Bool) (d : Instance) → slice_get ds f ≡ Some d → Calls (call_rows ds) f g k → (s : Site) × In s (instance_sites d) × (call g k ≡ called s)
site_of ds f g k d h c =
    let at : slice_get (instance_calls d) c.0 ≡ Some (call g k) = subst (λ cs. slice_get cs c.0 ≡ Some (call g k)) (row_at ds f d h) c.1 in
    let r = get_of_map called (instance_sites d) c.0 (call g k) at in
    (r.0, (c.0, r.1), r.2)

module _ (p : Program) (none : (v : Violation) → Violates p v → ⊥) (fips : FipCallsFip p.instances) where
  abbrev rows : List (List C.Call)
  rows = call_rows p.instances

  abbrev frames : List (Option ℕ)
  frames = map frame p.instances

  abbrev Framed : ℕ → ℕ → Bool → Type 0
  Framed = FramedCalls rows frames

  callee_framed : (f b : ℕ) (k : Bool) → Framed f b k → HasFrame frames b
  callee_framed f b k h =
      let d = framed p.instances f h.0 in
      let s = site_of p.instances f b k d.0 d.1 h.1 in
      let e = fips f d.0 s.0 d.1 d.2 s.1 in
      let callee : b ≡ s.0.callee = ap (λ (c : C.Call). c.callee) s.2 in
      subst (HasFrame frames) (sym callee) (fip_framed p.instances s.0.callee e.0 e.1 e.2)

  path_of : (n a b : ℕ) → Way Framed n a b → Path rows n a b
  path_of zero a b e = e
  path_of (suc n) a b (g, k, c, way) = (g, (k, c.1), path_of n g b way)

  -- what waits in its own group is refused
  never_back : (a b n : ℕ) → Framed a b true → Way Framed n b a → ⊥
  never_back a b n h way =
      let d = framed p.instances a h.0 in
      let s = site_of p.instances a b true d.0 d.1 h.1 in
      let callee : b ≡ s.0.callee = ap (λ (c : C.Call). c.callee) s.2 in
      let waits : true ≡ not s.0.is_tail = ap (λ (c : C.Call). c.waits) s.2 in
      let group : SameGroup rows a b = ((1, (b, (true, h.1), refl)), (n, path_of n b a way)) in
      none (reported a s.0) (
        a,
        d.0,
        s.0,
        record {
          instance = d.1;
          fip = d.2;
          call = s.1;
          waits = false_of_not s.0.is_tail waits;
          together = subst (SameGroup rows a) callee group;
        },
        refl,
      )

  framed_within : (a b : ℕ) (k : Bool) → Framed a b k → a < length frames
  framed_within a b k h = get_within frames a (Some h.0.0) h.0.1

  get_or_past : (xs : List (Option ℕ)) (n : ℕ) → length xs ≤ n → get_or xs n None ≡ None
  get_or_past [] n h = refl
  get_or_past (x ∷ xs) zero h = absurd (omega (arith, h))
  get_or_past (x ∷ xs) (suc n) h = get_or_past xs n (omega (arith, h))

  no_words : (a : ℕ) → length frames ≤ a → frame_words frames a ≡ 0
  no_words a h = ap words_or_none (get_or_past frames a h)

  -- ---- the members, for some numbers of all functions

  module _ (high wide : ℕ → ℕ) where
    abbrev stack_if : ℕ → Bool → Option Stack
    stack_if n true = Some (record { frames = high n; words = wide n })
    stack_if n false = None

    record IsMember (n : ℕ) (d : Instance) (m : Member) : Type 0 where
      counted : m.registers ≡ registers d
      group : IsGroup rows n m.group
      stack : m.stack ≡ stack_if n (is_fip d.kind)

    abbrev AreFrom : ℕ → List Instance → List Member → Type 0
    AreFrom n [] [] = Unit {0}
    AreFrom n [] (m ∷ ms) = ⊥
    AreFrom n (d ∷ ds) [] = ⊥
    AreFrom n (d ∷ ds) (m ∷ ms) = IsMember n d m × AreFrom (suc n) ds ms

    some_from : (n : ℕ) (ds : List Instance) → Can ((ms : List Member) × AreFrom n ds ms)
    some_from n [] fail = fail ([], tt)
    some_from n (d ∷ ds) fail =
        group_of rows n (λ g. some_from (suc n) ds (λ r.
        fail (record { group = g.0; registers = registers d; stack = stack_if n (is_fip d.kind) } ∷ r.0, (record { counted = refl; group = g.1; stack = refl }, r.1))))

    from_length : (n : ℕ) (ds : List Instance) (ms : List Member) → AreFrom n ds ms → length ms ≡ length ds
    from_length n [] [] h = refl
    from_length n [] (m ∷ ms) h = absurd h
    from_length n (d ∷ ds) [] h = absurd h
    from_length n (d ∷ ds) (m ∷ ms) h = ap suc (from_length (suc n) ds ms h.1)

    from_at : (n : ℕ) (ds : List Instance) (ms : List Member) (i : ℕ) (m : Member) → AreFrom n ds ms → slice_get ms i ≡ Some m → (d : Instance) × (slice_get ds i ≡ Some d) × IsMember (n + i) d m
    from_at n [] [] i m h e = absurd (none_some m e)
    from_at n [] (x ∷ ms) i m h e = absurd h
    from_at n (d ∷ ds) [] i m h e = absurd h
    from_at n (d ∷ ds) (x ∷ ms) zero m h e =
        let here : n ≡ n + 0 = omega arith in
        (d, refl, subst (λ k. IsMember k d m) here (subst (IsMember n d) (same_some x m e) h.0))
    from_at n (d ∷ ds) (x ∷ ms) (suc i) m h e =
        let r = from_at (suc n) ds ms i m h.1 e in
        let there : suc n + i ≡ n + suc i = omega arith in
        (r.0, r.1, subst (λ k. IsMember k r.0 m) there r.2)

    from_here : (n : ℕ) (ds : List Instance) (ms : List Member) (i : ℕ) (d : Instance) → AreFrom n ds ms → slice_get ds i ≡ Some d → (m : Member) × (slice_get ms i ≡ Some m) × IsMember (n + i) d m
    from_here n [] [] i d h e = absurd (none_some d e)
    from_here n [] (x ∷ ms) i d h e = absurd h
    from_here n (x ∷ ds) [] i d h e = absurd h
    from_here n (x ∷ ds) (m ∷ ms) zero d h e =
        let here : n ≡ n + 0 = omega arith in
        (m, refl, subst (λ k. IsMember k d m) here (subst (λ c. IsMember n c m) (same_some x d e) h.0))
    from_here n (x ∷ ds) (m ∷ ms) (suc i) d h e =
        let r = from_here (suc n) ds ms i d h.1 e in
        let there : suc n + i ≡ n + suc i = omega arith in
        (r.0, r.1, subst (λ k. IsMember k d r.0) there r.2)

    module _ (ms : List Member) (all : AreFrom 0 p.instances ms) where
      member_at : (i : ℕ) (m : Member) → slice_get ms i ≡ Some m → (d : Instance) × (slice_get p.instances i ≡ Some d) × IsMember i d m
      member_at i m e =
          let r = from_at 0 p.instances ms i m all e in
          let on : 0 + i ≡ i = omega arith in
          (r.0, r.1, subst (λ k. IsMember k r.0 m) on r.2)

      member_of : (i : ℕ) (d : Instance) → slice_get p.instances i ≡ Some d → (m : Member) × (slice_get ms i ≡ Some m) × IsMember i d m
      member_of i d e =
          let r = from_here 0 p.instances ms i d all e in
          let on : 0 + i ≡ i = omega arith in
          (r.0, r.1, subst (λ k. IsMember k d r.0) on r.2)

      stack_of_framed : (f : ℕ) → HasFrame frames f → slice_get (map stack ms) f ≡ Some (Some (record { frames = high f; words = wide f }))
      stack_of_framed f h =
          let d = framed p.instances f h in
          let m = member_of f d.0 d.1 in
          get_map stack ms f m.0 m.1 ∙ ap (λ (o : Option Stack). Some o) (m.2.stack ∙ ap (stack_if f) d.2)

      framed_of_stack : (f : ℕ) (s : Stack) → slice_get (map stack ms) f ≡ Some (Some s) → HasFrame frames f
      framed_of_stack f s e =
          let m = get_of_map stack ms f (Some s) e in
          let d = member_at f m.0 m.1 in
          fip_framed p.instances f d.0 d.1 (by (is_fip d.0.kind) refl (sym d.2.stack ∙ sym m.2))
        where
          by : (b : Bool) {k : Bool} → k ≡ b → stack_if f k ≡ Some s → k ≡ true
          by true e g = e
          by false e g = absurd (none_some s (sym (ap (stack_if f) e) ∙ g))

      -- ---- the numbers of all functions, read off the members

      abbrev found : List (Option Stack)
      found = map stack ms

      get_or_there : (xs : List (Option Stack)) (f : ℕ) (o : Option Stack) → slice_get xs f ≡ Some o → get_or xs f None ≡ o
      get_or_there [] f o e = absurd (none_some o e)
      get_or_there (x ∷ xs) zero o e = same_some x o e
      get_or_there (x ∷ xs) (suc f) o e = get_or_there xs f o e

      get_or_none : (xs : List (Option Stack)) (f : ℕ) → slice_get xs f ≡ None → get_or xs f None ≡ None
      get_or_none [] f e = refl
      get_or_none (x ∷ xs) zero e = absurd (none_some x (sym e))
      get_or_none (x ∷ xs) (suc f) e = get_or_none xs f e

      -- one has a frame and its number, or neither
      abbrev IsNumbered : (ℕ → ℕ) → (Stack → ℕ) → ℕ → Type 0
      IsNumbered given number f =
          (HasFrame frames f × (number_of number (get_or found f None) ≡ given f)) ⊎ ((HasFrame frames f → ⊥) × (number_of number (get_or found f None) ≡ 0))

      numbered : (given : ℕ → ℕ) (number : Stack → ℕ) → ((f : ℕ) → number (record { frames = high f; words = wide f }) ≡ given f) → (f : ℕ) → IsNumbered given number f
      numbered given number is f = by (slice_get found f) refl
        where
          by : (o : Option (Option Stack)) → slice_get found f ≡ o → IsNumbered given number f
          by None e = inr ((λ h. none_some (Some (record { frames = high f; words = wide f })) (sym e ∙ stack_of_framed f h)), ap (number_of number) (get_or_none found f e))
          by (Some None) e = inr ((λ h. none_some (record { frames = high f; words = wide f }) (same_some None (Some (record { frames = high f; words = wide f })) (sym e ∙ stack_of_framed f h))), ap (number_of number) (get_or_there found f None e))
          by (Some (Some s)) e =
              let h = framed_of_stack f s e in
              inl (h, ap (number_of number) (get_or_there found f (Some (record { frames = high f; words = wide f })) (stack_of_framed f h)) ∙ is f)

      module _ (base own given : ℕ → ℕ) (number : Stack → ℕ) (is : (f : ℕ) → number (record { frames = high f; words = wide f }) ≡ given f) (bare : (f : ℕ) → (HasFrame frames f → ⊥) → base f ≡ 0) (least : LeastSolution Framed base own given) where
        abbrev read : ℕ → ℕ
        read f = number_of number (get_or found f None)

        read_framed : (f : ℕ) → HasFrame frames f → read f ≡ given f
        read_framed f h = elim (numbered given number is f) as (λ _. read f ≡ given f) [ inl x ↦ x.1 | inr x ↦ absurd (x.0 h) ]

        read_base : (f : ℕ) → base f ≤ read f
        read_base f = elim (numbered given number is f) as (λ _. base f ≤ read f) [
          | inl x ↦ let b = least.0.base_in f in let e = x.1 in omega (arith, b, e)
          | inr x ↦ let z = bare f x.0 in omega (arith, z)
        ]

        read_calls : (f g : ℕ) (k : Bool) → Framed f g k → read g + charge (own f) k ≤ read f
        read_calls f g k c =
            let one = read_framed f c.0 in
            let two = read_framed g (callee_framed f g k c) in
            let less = least.0.calls_in f g k c in
            omega (arith, one, two, less)

        read_least : (other : ℕ → ℕ) → Solves Framed base own other → (f : ℕ) → read f ≤ other f
        read_least other s f = elim (numbered given number is f) as (λ _. read f ≤ other f) [
          | inl x ↦ let b = least.1 other s f in let e = x.1 in omega (arith, b, e)
          | inr x ↦ let e = x.1 in omega (arith, e)
        ]

        read_solution : LeastSolution Framed base own read
        read_solution = (record { base_in = read_base; calls_in = read_calls }, read_least)

      bare_words : (f : ℕ) → (HasFrame frames f → ⊥) → frame_words frames f ≡ 0
      bare_words f off = by frames f off
        where
          by : (xs : List (Option ℕ)) (n : ℕ) → (HasFrame xs n → ⊥) → frame_words xs n ≡ 0
          by [] n h = refl
          by (None ∷ xs) zero h = refl
          by (Some w ∷ xs) zero h = absurd (h (w, refl))
          by (x ∷ xs) (suc n) h = by xs n h

      stacks : LeastSolution Framed base_frames own_frames high → LeastSolution Framed (frame_words frames) (frame_words frames) wide → AreStacks rows frames found
      stacks h w = record {
        some = λ f k. (record { frames = high f; words = wide f }, stack_of_framed f k);
        none = framed_of_stack;
        least_frames = read_solution base_frames own_frames high (λ (s : Stack). s.frames) (λ f. refl) (λ f off. refl) h;
        least_words = read_solution (frame_words frames) (frame_words frames) wide (λ (s : Stack). s.words) (λ f. refl) bare_words w;
      }

      registers_right : (i : ℕ) (d : Instance) (m : Member) → slice_get p.instances i ≡ Some d → slice_get ms i ≡ Some m → m.registers ≡ registers d
      registers_right i d m at e = let r = member_at i m e in r.2.counted ∙ ap registers (same_some r.0 d (sym r.1 ∙ at))

      members_right : LeastSolution Framed base_frames own_frames high → LeastSolution Framed (frame_words frames) (frame_words frames) wide → AreMembers p.instances ms
      members_right h w = record {
        size = from_length 0 p.instances ms all;
        counted = registers_right;
        together = λ i j m n at there. groups_same rows i j m.group n.group (member_at i m at).2.group (member_at j n there).2.group;
        stacks = λ _. stacks h w;
      }

  pub grouped : Can ((ms : List Member) × AreMembers p.instances ms)
  grouped fail =
      solved Framed base_frames own_frames (length frames) (record { within = framed_within; never_back = never_back; outside = λ a out. refl }) (λ h.
      solved Framed (frame_words frames) (frame_words frames) (length frames) (record { within = framed_within; never_back = never_back; outside = no_words }) (λ w.
      some_from h.0 w.0 0 p.instances (λ r.
      fail (r.0, members_right h.0 w.0 r.0 r.1 h.1 w.1))))
