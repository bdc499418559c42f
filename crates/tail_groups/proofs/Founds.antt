-- What is known of the instances is what is written.
use Rattle.std.proofs.Common.{◌≡◌, ◌≢◌, ℕ, zero, suc, ◌+◌, inl, inr, refl, sym, ap, subst, ◌∙◌, List, [], ◌∷◌, ◌++◌, map, length, get_or, Option, Some, None, Bool, true, false, not, arith}
use Rattle.std.specs.Prelude.{if◌then◌else◌, ◌↔◌, slice_get}
use Rattle.std.proofs.lemmas.Option.{none-some, same_Some}
use Rattle.fip_base.specs.declared.plain.Stack.{Stack}
use Rattle.fip_trees.specs.declared.least.Violation.{Violation}
use Rattle.fip_trees.specs.declared.groups.Member.{Member}
use Rattle.fip_language.specs.declared.limits.TheConstants.{FRAME_WORDS}
use Rattle.fip_trees.specs.Tree.{Instance, Program}
use Rattle.call_groups.specs.CallGraph.{In, Calls, calls_of, call, group_number, SameGroup, IsPartition}
use Rattle.call_groups.specs.declared.search.Call as C
use Rattle.call_groups.specs.declared.search.Partition.{Partition}
use Rattle.call_groups.specs.Stacks.{AreAsked, AreStacks, HasFrame, FramedCalls}
use Rattle.tail_groups.specs.declared.check.Counted.{Counted}
use Rattle.tail_groups.specs.Found.{counted, frame_by, member, members_from, AreFound}
use Rattle.tail_groups.specs.Members.{frame, FipCallsFip, stack, AreMembers}
use Rattle.tail_groups.specs.Registers.{registers}
use Rattle.tail_groups.specs.Rules.{is_fip, reported, Violates}
use Rattle.tail_groups.specs.Sites.{Site, called, instance_sites, instance_calls, call_rows}
use Rattle.fip_language.proofs.Facts.{false_of_not as no_tail, get_map as map_at, get_of_map as at_map, if_some_true as fip_frame, last_length as length_one, map_length}

-- frames by counts are those of the instances
frames_same : (ds : List Instance) → map frame_by (map counted ds) ≡ map frame ds
frames_same [] = refl
frames_same (d ∷ ds) = ap (λ xs. frame d ∷ xs) (frames_same ds)

-- ---- the members

members_length : (p : Partition) (ss : List (Option Stack)) (n : ℕ) (cs : List Counted) → length (members_from p ss n cs) ≡ length cs
members_length p ss n [] = refl
members_length p ss n (c ∷ cs) = ap suc (members_length p ss (suc n) cs)

member_at : (p : Partition) (ss : List (Option Stack)) (n : ℕ) (cs : List Counted) (i : ℕ) (m : Member) → slice_get (members_from p ss n cs) i ≡ Some m →
    (c : Counted) × (slice_get cs i ≡ Some c) × (m ≡ member p ss (n + i) c)
member_at p ss n [] i m h = absurd (none-some m h)
member_at p ss n (c ∷ cs) zero m h =
    let e : n ≡ n + 0 = omega arith in
    (c, refl, sym (same_Some (member p ss n c) m h) ∙ ap (λ k. member p ss k c) e)
member_at p ss n (c ∷ cs) (suc i) m h =
    let r = member_at p ss (suc n) cs i m h in
    let e : suc n + i ≡ n + suc i = omega arith in
    (r.0, r.1, r.2 ∙ ap (λ k. member p ss k r.0) e)

get_after : {A : Type 0} (pre : List A) (x d : A) (xs : List A) → get_or (pre ++ x ∷ xs) (length pre) d ≡ x
get_after [] x d xs = refl
get_after (y ∷ pre) x d xs = get_after pre x d xs

append_one : {A : Type 0} (pre : List A) (x : A) (xs : List A) → (pre ++ x ∷ []) ++ xs ≡ pre ++ x ∷ xs
append_one [] x xs = refl
append_one {A} (y ∷ pre) x xs = ap (λ (zs : List A). y ∷ zs) (append_one pre x xs)

-- their stack numbers are those that were found
stacks_from : (p : Partition) (pre ss : List (Option Stack)) (cs : List Counted) → length ss ≡ length cs → map stack (members_from p (pre ++ ss) (length pre) cs) ≡ ss
stacks_from p pre [] [] e = refl
stacks_from p pre [] (c ∷ cs) e = absurd (omega (arith, e))
stacks_from p pre (s ∷ ss) [] e = absurd (omega (arith, e))
stacks_from p pre (s ∷ ss) (c ∷ cs) e =
    let rest : map stack (members_from p ((pre ++ s ∷ []) ++ ss) (length (pre ++ s ∷ [])) cs) ≡ ss = stacks_from p (pre ++ s ∷ []) ss cs (omega (arith, e)) in
    let first : get_or (pre ++ s ∷ ss) (length pre) None ≡ s = get_after pre s None ss in
    ap (λ z. z ∷ map stack (members_from p (pre ++ s ∷ ss) (suc (length pre)) cs)) first
    ∙ ap (λ zs. s ∷ zs)
    (ap (λ xs. map stack (members_from p xs (suc (length pre)) cs)) (sym (append_one pre s ss))
    ∙ ap (λ k. map stack (members_from p ((pre ++ s ∷ []) ++ ss) k cs)) (sym (length_one pre s))
    ∙ rest)

-- ---- what is required of the stack numbers

frame_fip : (b : Bool) (n : ℕ) → b ≡ true → (if b then Some n else None) ≡ Some n
frame_fip true n h = refl
frame_fip false n h = absurd (cc)

-- an instance with a frame is fip
framed : (ds : List Instance) (f : ℕ) → HasFrame (map frame ds) f → (d : Instance) × (slice_get ds f ≡ Some d) × (is_fip d.kind ≡ true)
framed ds f h =
    let r = at_map frame ds f (Some h.0) h.1 in
    (r.0, r.1, fip_frame (is_fip r.0.kind) (registers r.0 + FRAME_WORDS) h.0 (sym r.2))

fip_framed : (ds : List Instance) (f : ℕ) (d : Instance) → slice_get ds f ≡ Some d → is_fip d.kind ≡ true → HasFrame (map frame ds) f
fip_framed ds f d h e = (registers d + FRAME_WORDS, map_at frame ds f d h ∙ ap Some (frame_fip (is_fip d.kind) (registers d + FRAME_WORDS) e))

row_at : (ds : List Instance) (f : ℕ) (d : Instance) → slice_get ds f ≡ Some d → calls_of (call_rows ds) f ≡ instance_calls d
row_at [] f d h = absurd (none-some d h)
row_at (x ∷ ds) zero d h = ap instance_calls (same_Some x d h)
row_at (x ∷ ds) (suc f) d h = row_at ds f d h

-- a call of an instance is somewhere in it
site_of : (ds : List Instance) (f g : ℕ) (k : Bool) (d : Instance) → slice_get ds f ≡ Some d → Calls (call_rows ds) f g k → (s : Site) × In s (instance_sites d) × (call g k ≡ called s)
site_of ds f g k d h c =
    let at : slice_get (instance_calls d) c.0 ≡ Some (call g k) = subst (λ cs. slice_get cs c.0 ≡ Some (call g k)) (row_at ds f d h) c.1 in
    let r = at_map called (instance_sites d) c.0 (call g k) at in
    (r.0, (c.0, r.1), r.2)

same_callee : (g : ℕ) (k : Bool) (s : Site) → call g k ≡ called s → g ≡ s.callee
same_callee g k s e = ap (λ (c : C.Call). c.callee) e

same_waits : (g : ℕ) (k : Bool) (s : Site) → call g k ≡ called s → k ≡ not s.is_tail
same_waits g k s e = ap (λ (c : C.Call). c.waits) e

module _ (p : Program) (g : Partition) (right : IsPartition (call_rows p.instances) g) (none : (v : Violation) → Violates p v → ⊥) (fips : FipCallsFip p.instances) where
  framed_calls : (f b : ℕ) (k : Bool) → FramedCalls (call_rows p.instances) (map frame p.instances) f b k → HasFrame (map frame p.instances) b
  framed_calls f b k h =
      let d = framed p.instances f h.0 in
      let s = site_of p.instances f b k d.0 d.1 h.1 in
      let e = fips f d.0 s.0 d.1 d.2 s.1 in
      subst (λ c. HasFrame (map frame p.instances) c) (sym (same_callee b k s.0 s.2)) (fip_framed p.instances s.0.callee e.0 e.1 e.2)

  leaves : (f b : ℕ) → FramedCalls (call_rows p.instances) (map frame p.instances) f b true → group_number g f ≢ group_number g b
  leaves f b h e =
      let d = framed p.instances f h.0 in
      let s = site_of p.instances f b true d.0 d.1 h.1 in
      let same : group_number g f ≡ group_number g s.0.callee = subst (λ c. group_number g f ≡ group_number g c) (same_callee b true s.0 s.2) e in
      none (reported f s.0) (f, d.0, s.0, record { instance = d.1; fip = d.2; call = s.1; waits = no_tail s.0.is_tail (same_waits b true s.0 s.2); together = (right.same f s.0.callee).0 same }, refl)

  asked : AreAsked (call_rows p.instances) g (map frame p.instances)
  asked = record {
    groups = right;
    size = map_length frame p.instances ∙ sym (map_length instance_calls p.instances);
    framed = framed_calls;
    leaves = leaves;
  }

  pub stacks_right : (ss : List (Option Stack)) →
      (AreAsked (call_rows p.instances) g (map frame_by (map counted p.instances)) → AreStacks (call_rows p.instances) (map frame_by (map counted p.instances)) ss) →
      AreStacks (call_rows p.instances) (map frame p.instances) ss
  stacks_right ss h =
      let e = frames_same p.instances in
      subst (λ fs. AreStacks (call_rows p.instances) fs ss) e (h (subst (λ fs. AreAsked (call_rows p.instances) g fs) (sym e) asked))

counted_at : (ds : List Instance) (i : ℕ) (d : Instance) (c : Counted) → slice_get ds i ≡ Some d → slice_get (map counted ds) i ≡ Some c → c.registers ≡ registers d
counted_at ds i d c h g =
    let r = at_map counted ds i c g in
    ap (λ (x : Counted). x.registers) (r.2 ∙ ap counted (same_Some r.0 d (sym r.1 ∙ h)))

-- what was found, where the rule on calls isn't broken
pub members_found : (p : Program) (ms : List Member) → AreFound p.instances ms → ((v : Violation) → Violates p v → ⊥) → AreMembers p.instances ms
members_found p ms a none =
    let cs : List Counted = map counted p.instances in
    let at : (i : ℕ) (m : Member) → slice_get ms i ≡ Some m → (c : Counted) × (slice_get cs i ≡ Some c) × (m ≡ member a.groups a.stacks (0 + i) c) =
    λ i m h. member_at a.groups a.stacks 0 cs i m (subst (λ xs. slice_get xs i ≡ Some m) a.members h) in
    let group : (i : ℕ) (m : Member) → slice_get ms i ≡ Some m → m.group ≡ group_number a.groups i =
    λ i m h. let r = at i m h in let e : 0 + i ≡ i = omega arith in ap (λ (x : Member). x.group) r.2 ∙ ap (λ k. group_number a.groups k) e in
    record {
      size = ap length a.members ∙ members_length a.groups a.stacks 0 cs ∙ map_length counted p.instances;
      counted = λ i d m h g. let r = at i m g in ap (λ (x : Member). x.registers) r.2 ∙ counted_at p.instances i d r.0 h r.1;
      together = λ i j m n h g. (
        λ e. (a.right.same i j).0 (sym (group i m h) ∙ e ∙ group j n g),
        λ e. group i m h ∙ (a.right.same i j).1 e ∙ sym (group j n g),
      );
      stacks = λ fips.
          let same : map stack ms ≡ a.stacks = ap (λ xs. map stack xs) a.members ∙ stacks_from a.groups [] a.stacks cs (a.size ∙ map_length frame_by cs) in
          subst (λ ss. AreStacks (call_rows p.instances) (map frame p.instances) ss) (sym same) (stacks_right p a.groups a.right none fips a.stacks a.least);
    }

-- how it is put together
pub found_by : (ds : List Instance) (p : Partition) (rs rs' : List (List C.Call)) (cs cs' : List Counted) (fs : List (Option ℕ)) (ss ss' : List (Option Stack)) (ms : List Member) →
    IsPartition rs p → rs ≡ call_rows ds → rs' ≡ call_rows ds → cs ≡ map counted ds → fs ≡ map frame_by cs →
    (AreAsked rs' p fs → AreStacks rs' fs ss) → length ss ≡ length fs → cs' ≡ cs → ss' ≡ ss → ms ≡ members_from p ss' 0 cs' → AreFound ds ms
found_by ds p rs rs' cs cs' fs ss ss' ms right er er' ec ef least size ec' es' em =
    let frames : fs ≡ map frame_by (map counted ds) = ef ∙ ap (λ xs. map frame_by xs) ec in
    record {
      groups = p;
      right = subst (λ q. IsPartition q p) er right;
      stacks = ss;
      size = size ∙ ap length frames;
      least = λ a.
          subst (λ q. AreStacks q (map frame_by (map counted ds)) ss) er'
          (subst (λ q. AreStacks rs' q ss) frames
          (least (subst (λ q. AreAsked rs' p q) (sym frames) (subst (λ q. AreAsked q p (map frame_by (map counted ds))) (sym er') a))));
      members = em ∙ ap (λ xs. members_from p xs 0 cs') es' ∙ ap (λ xs. members_from p ss 0 xs) (ec' ∙ ec);
    }
