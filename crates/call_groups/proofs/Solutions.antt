-- The numbers that are found group after group are the least. Frames and words are shown alike: `num` is the number of
-- a stack that is looked at.
use Rattle.std.proofs.Common.{◌≡◌, ◌≢◌, ℕ, zero, suc, ◌+◌, ◌<◌, ◌≤◌, List, [], ◌∷◌, ◌++◌, length, set, arith}
use Rattle.std.proofs.Common.{refl, sym, ap, inl, inr, ◌∙◌, subst, append_assoc, true, false, Bool, length-set, get_or, replicate}
use Rattle.std.specs.Prelude.{◌⊎◌, Option, Some, None, slice_get, max, if◌then◌else◌, ◌==◌}
use Rattle.std.proofs.lemmas.Bool.{cases_lt}
use Rattle.std.proofs.lemmas.Bool.Decides.{nat_tests}
use Rattle.std.proofs.lemmas.List.{get_or-set_same, get_or-set_other, length-replicate, append-nil}
use Rattle.std.proofs.lemmas.Option.{none-some, same_Some, slice_get_within, slice_get-get_or, get_or_from_slice_get}
use Rattle.fip_base.specs.declared.plain.Stack.{Stack}
use Rattle.call_groups.specs.CallGraph.{In, call, calls_of, Calls, Path, group_number}
use Rattle.call_groups.specs.Stacks.{charge, Solves, LeastSolution, HasFrame, words_or_none, frame_words, FramedCalls, number_of, base_frames, own_frames, AreStacks, AreAsked}
use Rattle.call_groups.specs.Raises.{greater, with_frame, raised, taken, one_call, over_calls, start, with_function, over_functions, entry, entries}
use Rattle.call_groups.specs.declared.search.Call.{Call}
use Rattle.call_groups.specs.declared.search.Partition.{Partition}
use Rattle.call_groups.proofs.Lists.{same_or_not, in_first, at_more, at_second, in_push, in_none}
use Rattle.fip_base.proofs.fip_language.Facts.{same_number as same_yes, unequal_test as yes_same}

same_no : (m n : ℕ) → (m == n) ≡ false → m ≢ n
same_no m n h e = grind (arith, nat_tests)

at_f_by_list : (xs pre fs : List ℕ) (f : ℕ) → xs ≡ pre ++ f ∷ fs → slice_get xs (length pre) ≡ Some f
at_f_by_list xs pre fs f e = subst (λ ys. slice_get ys (length pre) ≡ Some f) (sym e) (let z : length pre + 0 ≡ length pre = omega arith in subst (λ k. slice_get (pre ++ f ∷ fs) k ≡ Some f) z (at_second pre (f ∷ fs) 0 f refl))

at_of_get : (ss : List (Option Stack)) (f : ℕ) (s : Stack) → get_or ss f None ≡ Some s → slice_get ss f ≡ Some (Some s)
at_of_get [] f s e = absurd (none-some s e)
at_of_get (x ∷ ss) zero s e = ap Some e
at_of_get (x ∷ ss) (suc f) s e = at_of_get ss f s e

frame_at_get : (fr : List (Option ℕ)) (f w : ℕ) → get_or fr f None ≡ Some w → slice_get fr f ≡ Some (Some w)
frame_at_get [] f w e = absurd (none-some w e)
frame_at_get (x ∷ fr) zero w e = ap Some e
frame_at_get (x ∷ fr) (suc f) w e = frame_at_get fr f w e

nothing_there : (n i : ℕ) (t : Stack) → get_or (replicate n None) i None ≡ Some t → ⊥
nothing_there zero i t e = none-some t e
nothing_there (suc n) zero t e = none-some t e
nothing_there (suc n) (suc i) t e = nothing_there n i t e

entries_at : (p : Partition) (found : List (Option Stack)) (fr : List (Option ℕ)) (n i : ℕ) (w : Option ℕ) → slice_get fr i ≡ Some w → slice_get (entries p found n fr) i ≡ Some (entry w (get_or found (group_number p (n + i)) None))
entries_at p found [] n i w h = absurd (none-some w h)
entries_at p found (x ∷ fr) n zero w h =
    let e : n ≡ n + 0 = omega arith in
    ap (λ y. Some (entry y (get_or found (group_number p n) None))) (same_Some x w h) ∙ ap (λ k. Some (entry w (get_or found (group_number p k) None))) e
entries_at p found (x ∷ fr) n (suc i) w h =
    let e : suc n + i ≡ n + suc i = omega arith in
    entries_at p found fr (suc n) i w h ∙ ap (λ k. Some (entry w (get_or found (group_number p k) None))) e

entry_framed : (w : Option ℕ) (o : Option Stack) (s : Stack) → entry w o ≡ Some s → (v : ℕ) × (w ≡ Some v)
entry_framed None o s e = absurd (none-some s e)
entry_framed (Some v) o s e = (v, refl)

entries_framed : (p : Partition) (found : List (Option Stack)) (fr : List (Option ℕ)) (n i : ℕ) (s : Stack) → slice_get (entries p found n fr) i ≡ Some (Some s) → HasFrame fr i
entries_framed p found [] n i s h = absurd (none-some (Some s) h)
entries_framed p found (x ∷ fr) n zero s h = let r = entry_framed x (get_or found (group_number p n) None) s (same_Some (entry x (get_or found (group_number p n) None)) (Some s) h) in (r.0, ap Some r.1)
entries_framed p found (x ∷ fr) n (suc i) s h = entries_framed p found fr (suc n) i s h

-- a number of a stack, with what a function holds itself, by the words of its frame
pub record IsNumber (num : Stack → ℕ) (bases owns : ℕ → ℕ) : Type 0 where
  pub greater_is : (s t : Stack) → num (greater s t) ≡ max (num s) (num t)
  pub with_is : (s : Stack) (k : Bool) (w : ℕ) → num (with_frame s k w) ≡ num s + charge (owns w) k
  pub start_is : (w : ℕ) → num (start w) ≡ bases w

pub frames_number : IsNumber (λ s. s.frames) (λ w. 0) (λ w. 1)
frames_number = record { greater_is = λ s t. refl; with_is = λ s k w. refl; start_is = λ w. refl }

pub words_number : IsNumber (λ s. s.words) (λ w. w) (λ w. w)
words_number = record { greater_is = λ s t. refl; with_is = λ s k w. refl; start_is = λ w. refl }

module _ (num : Stack → ℕ) (bases owns : ℕ → ℕ) (is : IsNumber num bases owns) (p : Partition) where
  -- ---- the calls of one function

  taken_grows : (s : Stack) (w : ℕ) (k : Bool) (o : Option Stack) → num s ≤ num (taken s w k o)
  taken_grows s w k None = omega arith
  taken_grows s w k (Some t) = let e : num (greater s (with_frame t k w)) ≡ max (num s) (num (with_frame t k w)) = is.greater_is s (with_frame t k w) in omega arith

  one_by : (b : Bool) (found : List (Option Stack)) (w : ℕ) (s : Stack) (c : Call) → num s ≤ num (if b then s else taken s w c.waits (get_or found (group_number p c.callee) None))
  one_by true found w s c = omega arith
  one_by false found w s c = taken_grows s w c.waits (get_or found (group_number p c.callee) None)

  one_grows : (found : List (Option Stack)) (g w : ℕ) (s : Stack) (c : Call) → num s ≤ num (one_call p found g w s c)
  one_grows found g w s c = one_by (group_number p c.callee == g) found w s c

  over_grows : (found : List (Option Stack)) (g w : ℕ) (s : Stack) (cs : List Call) → num s ≤ num (over_calls p found g w s cs)
  over_grows found g w s [] = omega arith
  over_grows found g w s (c ∷ cs) =
      let a : num s ≤ num (one_call p found g w s c) = one_grows found g w s c in
      let b : num (one_call p found g w s c) ≤ num (over_calls p found g w (one_call p found g w s c) cs) = over_grows found g w (one_call p found g w s c) cs in
      omega arith

  one_holds : (found : List (Option Stack)) (g w : ℕ) (s : Stack) (b : ℕ) (k : Bool) (t : Stack) → group_number p b ≢ g →
      get_or found (group_number p b) None ≡ Some t → num t + charge (owns w) k ≤ num (one_call p found g w s (call b k))
  one_holds found g w s b k t ne e =
      let same : one_call p found g w s (call b k) ≡ greater s (with_frame t k w) =
      ap (λ (x : Bool). if x then s else taken s w k (get_or found (group_number p b) None)) (yes_same (group_number p b) g ne) ∙ ap (taken s w k) e in
      let r : num (greater s (with_frame t k w)) ≡ max (num s) (num (with_frame t k w)) = is.greater_is s (with_frame t k w) in
      let q : num (with_frame t k w) ≡ num t + charge (owns w) k = is.with_is t k w in
      let z : num (one_call p found g w s (call b k)) ≡ num (greater s (with_frame t k w)) = ap num same in
      omega arith

  over_holds : (found : List (Option Stack)) (g w : ℕ) (s : Stack) (cs : List Call) (i b : ℕ) (k : Bool) (t : Stack) → slice_get cs i ≡ Some (call b k) → group_number p b ≢ g →
      get_or found (group_number p b) None ≡ Some t → num t + charge (owns w) k ≤ num (over_calls p found g w s cs)
  over_holds found g w s [] i b k t at ne e = absurd (none-some (call b k) at)
  over_holds found g w s (c ∷ cs) zero b k t at ne e =
      let one : num t + charge (owns w) k ≤ num (one_call p found g w s c) =
      subst (λ x. num t + charge (owns w) k ≤ num (one_call p found g w s x)) (sym (same_Some c (call b k) at)) (one_holds found g w s b k t ne e) in
      let more : num (one_call p found g w s c) ≤ num (over_calls p found g w (one_call p found g w s c) cs) = over_grows found g w (one_call p found g w s c) cs in
      omega arith
  over_holds found g w s (c ∷ cs) (suc i) b k t at ne e = over_holds found g w (one_call p found g w s c) cs i b k t at ne e

  -- what bounds the start and each call bounds the whole
  taken_bound : (m : ℕ) (w : ℕ) (s : Stack) (k : Bool) (o : Option Stack) → num s ≤ m → ((t : Stack) → o ≡ Some t → num t + charge (owns w) k ≤ m) → num (taken s w k o) ≤ m
  taken_bound m w s k None h l = h
  taken_bound m w s k (Some t) h l =
      let r : num (greater s (with_frame t k w)) ≡ max (num s) (num (with_frame t k w)) = is.greater_is s (with_frame t k w) in
      let q : num (with_frame t k w) ≡ num t + charge (owns w) k = is.with_is t k w in
      let z : num t + charge (owns w) k ≤ m = l t refl in
      omega arith

  one_bound_by : (x : Bool) (m : ℕ) (found : List (Option Stack)) (w : ℕ) (s : Stack) (c : Call) → num s ≤ m →
      ((t : Stack) → get_or found (group_number p c.callee) None ≡ Some t → num t + charge (owns w) c.waits ≤ m) →
      num (if x then s else taken s w c.waits (get_or found (group_number p c.callee) None)) ≤ m
  one_bound_by true m found w s c h l = h
  one_bound_by false m found w s c h l = taken_bound m w s c.waits (get_or found (group_number p c.callee) None) h l

  over_bound : (m : ℕ) (found : List (Option Stack)) (g w : ℕ) (s : Stack) (cs : List Call) → num s ≤ m →
      ((i : ℕ) (c : Call) (t : Stack) → slice_get cs i ≡ Some c → get_or found (group_number p c.callee) None ≡ Some t → num t + charge (owns w) c.waits ≤ m) →
      num (over_calls p found g w s cs) ≤ m
  over_bound m found g w s [] h l = h
  over_bound m found g w s (c ∷ cs) h l =
      over_bound m found g w (one_call p found g w s c) cs
      (one_bound_by (group_number p c.callee == g) m found w s c h (λ t e. l 0 c t refl e))
      (λ i d t at e. l (suc i) d t at e)

  raised_new : (o : Option Stack) (s : Stack) → num s ≤ num (raised o s)
  raised_new None s = omega arith
  raised_new (Some t) s = let e : num (greater t s) ≡ max (num t) (num s) = is.greater_is t s in omega arith

  raised_bound : (m : ℕ) (o : Option Stack) (s : Stack) → ((t : Stack) → o ≡ Some t → num t ≤ m) → num s ≤ m → num (raised o s) ≤ m
  raised_bound m None s h l = l
  raised_bound m (Some t) s h l =
      let e : num (greater t s) ≡ max (num t) (num s) = is.greater_is t s in
      let z : num t ≤ m = h t refl in
      omega arith

  -- ---- group after group

  module _ (rs : List (List Call)) (frames : List (Option ℕ)) (a : AreAsked rs p frames) where
    -- s is enough for f, by its frame and by its calls of other groups
    record Enough (found : List (Option Stack)) (f w : ℕ) (s : Stack) : Type 0 where
      pub base_in : bases w ≤ num s
      pub calls_in : (b : ℕ) (k : Bool) → Calls rs f b k → group_number p b ≢ group_number p f →
          (t : Stack) × (get_or found (group_number p b) None ≡ Some t) × (num t + charge (owns w) k ≤ num s)

    framed_get : (f w : ℕ) → slice_get frames f ≡ Some (Some w) → get_or frames f None ≡ Some w
    framed_get f w h = get_or_from_slice_get frames f (Some w) None h

    framed_at : (f w : ℕ) → get_or frames f None ≡ Some w → slice_get frames f ≡ Some (Some w)
    framed_at f w e = frame_at_get frames f w e

    framed_within : (f w : ℕ) → slice_get frames f ≡ Some (Some w) → f < length rs
    framed_within f w h = let l : f < length frames = slice_get_within frames f (Some w) h in let e : length frames ≡ length rs = a.size in omega arith

    module _ (base own : ℕ → ℕ) (base_is : (f w : ℕ) → slice_get frames f ≡ Some (Some w) → base f ≡ bases w) (own_is : (f w : ℕ) → slice_get frames f ≡ Some (Some w) → own f ≡ owns w) where
      -- a solution doesn't rise along calls
      falls : (o : ℕ → ℕ) → Solves (FramedCalls rs frames) base own o → (n f g : ℕ) → HasFrame frames f → Path rs n f g → o g ≤ o f
      falls o s zero f g h q = let e : o f ≡ o g = ap o q in omega arith
      falls o s (suc n) f g h q =
          let x : o g ≤ o q.0 = falls o s n q.0 g (a.framed f q.0 q.1.0 (h, q.1.1)) q.2 in
          let y : o q.0 + charge (own f) q.1.0 ≤ o f = s.calls_in f q.0 q.1.0 (h, q.1.1) in
          omega arith

      group_falls : (o : ℕ → ℕ) → Solves (FramedCalls rs frames) base own o → (f g : ℕ) → HasFrame frames f → group_number p f ≡ group_number p g → o g ≤ o f
      group_falls o s f g h e = let r = ((a.groups.same f g).0 e).0 in falls o s r.0 f g h r.1

      record Raised (found : List (Option Stack)) (done : List ℕ) : Type 0 where
        pub size : length found ≡ length rs
        pub enough : (f w : ℕ) → In f done → slice_get frames f ≡ Some (Some w) → (s : Stack) × (get_or found (group_number p f) None ≡ Some s) × Enough found f w s
        pub bounded : (o : ℕ → ℕ) → Solves (FramedCalls rs frames) base own o → (f w : ℕ) (s : Stack) → slice_get frames f ≡ Some (Some w) →
            get_or found (group_number p f) None ≡ Some s → num s ≤ o f

      module _ (found : List (Option Stack)) (pre fs : List ℕ) (f w : ℕ) (order : p.order.items ≡ pre ++ f ∷ fs) (h : slice_get frames f ≡ Some (Some w)) (r : Raised found pre) where
        at_f : slice_get p.order.items (length pre) ≡ Some f
        at_f = at_f_by_list p.order.items pre fs f order

        -- a function of a lesser group came before
        before : (b : ℕ) → b < length rs → group_number p b < group_number p f → In b pre
        before b l m =
            let i = a.groups.listed b l in
            elim (cases_lt i.0 (length pre)) [
              | inl x ↦ (i.0, in_first pre (f ∷ fs) i.0 b x (subst (λ xs. slice_get xs i.0 ≡ Some b) order i.1))
              | inr x ↦ let z : group_number p f ≤ group_number p b = a.groups.in_order (length pre) i.0 f b x at_f i.1 in absurd (omega arith)
            ]

        -- those that came before are of no greater group
        no_greater : (g : ℕ) → In g pre → group_number p g ≤ group_number p f
        no_greater g i =
            let l : i.0 < length pre = slice_get_within pre i.0 g i.1 in
            a.groups.in_order i.0 (length pre) g f (omega arith) (subst (λ xs. slice_get xs i.0 ≡ Some g) (sym order) (at_more pre (f ∷ fs) i.0 g i.1)) at_f

        -- the group of a call out of a group is a lesser one
        lesser : (g b : ℕ) (k : Bool) → HasFrame frames g → Calls rs g b k → group_number p b ≢ group_number p g → (b < length rs) × (group_number p b < group_number p g)
        lesser g b k hg c ne =
            let fb = a.framed g b k (hg, c) in
            let l : b < length rs = framed_within b fb.0 fb.1 in
            let z : group_number p b ≤ group_number p g = a.groups.falls g b k c l in
            (l, omega arith)

        module _ (new all : Stack) (new_is : new ≡ over_calls p found (group_number p f) w (start w) (calls_of rs f))
            (all_is : all ≡ raised (get_or found (group_number p f) None) new)
          where
            after_same : get_or (set found (group_number p f) (Some all)) (group_number p f) None ≡ Some all
            after_same =
                let l : group_number p f < length rs = a.groups.within f (framed_within f w h) in
                let e : length found ≡ length rs = r.size in
                get_or-set_same found (group_number p f) (Some all) None (omega arith)

            after_other : (g : ℕ) → g ≢ group_number p f → get_or (set found (group_number p f) (Some all)) g None ≡ get_or found g None
            after_other g ne = get_or-set_other found (group_number p f) g (Some all) None ne

            new_holds : num new ≤ num all
            new_holds = subst (λ x. num new ≤ num x) (sym all_is) (raised_new (get_or found (group_number p f) None) new)

            old_holds : (t : Stack) → get_or found (group_number p f) None ≡ Some t → num t ≤ num all
            old_holds t e =
                let z : all ≡ greater t new = all_is ∙ ap (λ o. raised o new) e in
                let y : num (greater t new) ≡ max (num t) (num new) = is.greater_is t new in
                let x : num all ≡ num (greater t new) = ap num z in
                omega arith

            own_enough : Enough (set found (group_number p f) (Some all)) f w all
            own_enough = record {
              base_in =
                  let x : num (start w) ≤ num (over_calls p found (group_number p f) w (start w) (calls_of rs f)) = over_grows found (group_number p f) w (start w) (calls_of rs f) in
                  let y : num (start w) ≡ bases w = is.start_is w in
                  let z : num new ≡ num (over_calls p found (group_number p f) w (start w) (calls_of rs f)) = ap num new_is in
                  let v : num new ≤ num all = new_holds in
                  omega arith;
              calls_in = λ b k c ne.
                  let l = lesser f b k (w, h) c ne in
                  let fb = a.framed f b k ((w, h), c) in
                  let t = r.enough b fb.0 (before b l.0 l.1) fb.1 in
                  let x : num t.0 + charge (owns w) k ≤ num (over_calls p found (group_number p f) w (start w) (calls_of rs f)) =
                  over_holds found (group_number p f) w (start w) (calls_of rs f) c.0 b k t.0 c.1 ne t.1 in
                  let z : num new ≡ num (over_calls p found (group_number p f) w (start w) (calls_of rs f)) = ap num new_is in
                  let v : num new ≤ num all = new_holds in
                  (t.0, after_other (group_number p b) ne ∙ t.1, omega arith);
            }

            other_enough : (g v : ℕ) → In g pre → slice_get frames g ≡ Some (Some v) → (s t : Stack) → Enough found g v s → num s ≤ num t → Enough (set found (group_number p f) (Some all)) g v t
            other_enough g v i hg s t e l = record {
              base_in = let x : bases v ≤ num s = e.base_in in omega arith;
              calls_in = λ b k c ne.
                  let u = e.calls_in b k c ne in
                  let m = lesser g b k (v, hg) c ne in
                  let less : group_number p b < group_number p g = m.1 in
                  let low : group_number p g ≤ group_number p f = no_greater g i in
                  let x : num u.0 + charge (owns v) k ≤ num s = u.2 in
                  (u.0, after_other (group_number p b) (λ z. omega arith) ∙ u.1, omega arith);
            }

            new_bound : (o : ℕ → ℕ) → Solves (FramedCalls rs frames) base own o → num new ≤ o f
            new_bound o s =
                let own_f : own f ≡ owns w = own_is f w h in
                subst (λ x. num x ≤ o f) (sym new_is)
                (over_bound (o f) found (group_number p f) w (start w) (calls_of rs f)
                (let x : num (start w) ≡ bases w = is.start_is w in let y : base f ≤ o f = s.base_in f in let z : base f ≡ bases w = base_is f w h in omega arith)
                (λ i c t at e.
                let fb = a.framed f c.callee c.waits ((w, h), (i, at)) in
                let x : num t ≤ o c.callee = r.bounded o s c.callee fb.0 t fb.1 e in
                let y : o c.callee + charge (own f) c.waits ≤ o f = s.calls_in f c.callee c.waits ((w, h), (i, at)) in
                let z : charge (own f) c.waits ≡ charge (owns w) c.waits = ap (λ n. charge n c.waits) own_f in
                omega arith))

            step_raised : Raised (set found (group_number p f) (Some all)) (pre ++ f ∷ [])
            step_raised = record {
              size = simp length-set r.size;
              enough = λ g v i hg. elim (in_push pre f g i) [
                | inr e ↦
                    let same : v ≡ w = let x : Some (Some v) ≡ Some (Some w) = sym hg ∙ (ap (slice_get frames) e ∙ h) in cc in (
                      all,
                      ap (λ x. get_or (set found (group_number p f) (Some all)) (group_number p x) None) e ∙ after_same,
                      subst (λ x. Enough (set found (group_number p f) (Some all)) x v all) (sym e) (subst (λ x. Enough (set found (group_number p f) (Some all)) f x all) (sym same) own_enough),
                    )
                | inl j ↦
                    let s = r.enough g v j hg in
                    elim (same_or_not (group_number p g) (group_number p f)) [
                      | inl e ↦
                          let z : get_or found (group_number p f) None ≡ Some s.0 = ap (λ x. get_or found x None) (sym e) ∙ s.1 in
                          (all, ap (λ x. get_or (set found (group_number p f) (Some all)) x None) e ∙ after_same, other_enough g v j hg s.0 all s.2 (old_holds s.0 z))
                      | inr ne ↦ (s.0, after_other (group_number p g) ne ∙ s.1, other_enough g v j hg s.0 s.0 s.2 (omega arith))
                    ]
              ];
              bounded = λ o s g v t hg e. elim (same_or_not (group_number p g) (group_number p f)) [
                | inl same ↦
                    let z : Some all ≡ Some t = sym after_same ∙ (ap (λ x. get_or (set found (group_number p f) (Some all)) x None) (sym same) ∙ e) in
                    let low : o f ≤ o g = group_falls o s g f (v, hg) same in
                    let n : num new ≤ o f = new_bound o s in
                    let b : num all ≤ o g = subst (λ x. num x ≤ o g) (sym all_is)
                    (raised_bound (o g) (get_or found (group_number p f) None) new
                    (λ u q. r.bounded o s g v u hg (ap (λ x. get_or found x None) same ∙ q)) (omega arith)) in
                    subst (λ x. num x ≤ o g) (same_Some all t z) b
                | inr ne ↦ r.bounded o s g v t hg (sym (after_other (group_number p g) ne) ∙ e)
              ];
            }

      -- one more function of the order
      step_by : (found : List (Option Stack)) (pre fs : List ℕ) (f : ℕ) → p.order.items ≡ pre ++ f ∷ fs → f < length rs → Raised found pre → (fr : Option ℕ) → get_or frames f None ≡ fr →
          Raised (with_function rs p found f fr) (pre ++ f ∷ [])
      step_by found pre fs f order l r None e = record {
        size = r.size;
        enough = λ g v i hg. elim (in_push pre f g i) [
          | inl j ↦ r.enough g v j hg
          | inr same ↦ let x : None ≡ Some v = sym e ∙ (ap (λ y. get_or frames y None) (sym same) ∙ framed_get g v hg) in absurd (none-some v x)
        ];
        bounded = r.bounded;
      }
      step_by found pre fs f order l r (Some w) e =
          let size : length frames ≡ length rs = a.size in
          let h : slice_get frames f ≡ Some (Some w) = slice_get-get_or frames f None (omega arith) ∙ ap Some e in
          step_raised found pre fs f w order h r (over_calls p found (group_number p f) w (start w) (calls_of rs f))
          (raised (get_or found (group_number p f) None) (over_calls p found (group_number p f) w (start w) (calls_of rs f))) refl refl

      all_raised : (fs pre : List ℕ) (found : List (Option Stack)) → p.order.items ≡ pre ++ fs → Raised found pre → Raised (over_functions rs p frames found fs) p.order.items
      all_raised [] pre found e r = subst (Raised found) (sym (e ∙ append-nil pre)) r
      all_raised (f ∷ fs) pre found e r =
          let at : slice_get p.order.items (length pre) ≡ Some f = at_f_by_list p.order.items pre fs f e in
          let l : f < length rs = a.groups.there f (length pre, at) in
          all_raised fs (pre ++ f ∷ []) (with_function rs p found f (get_or frames f None)) (e ∙ sym (append_assoc pre (f ∷ []) fs))
          (step_by found pre fs f e l r (get_or frames f None) refl)

      start_raised : Raised (replicate (length rs) None) []
      start_raised = record {
        size = length-replicate (length rs) None;
        enough = λ f w i h. absurd (in_none f i);
        bounded = λ o s f w t h e. absurd (nothing_there (length rs) (group_number p f) t e);
      }

      -- the numbers that are given out at last
      module _ (ss : List (Option Stack)) (ss_is : ss ≡ entries p (over_functions rs p frames (replicate (length rs) None) p.order.items) 0 frames) (base_none : (f : ℕ) → get_or frames f None ≡ None → base f ≡ 0) where
        raised_all : Raised (over_functions rs p frames (replicate (length rs) None) p.order.items) p.order.items
        raised_all = all_raised p.order.items [] (replicate (length rs) None) refl start_raised

        given : (f w : ℕ) → slice_get frames f ≡ Some (Some w) → get_or ss f None ≡ get_or (over_functions rs p frames (replicate (length rs) None) p.order.items) (group_number p f) None
        given f w h =
            get_or_from_slice_get ss f _ None
            (subst (λ xs. slice_get xs f ≡ Some (get_or (over_functions rs p frames (replicate (length rs) None) p.order.items) (group_number p f) None)) (sym ss_is)
            (entries_at p (over_functions rs p frames (replicate (length rs) None) p.order.items) frames 0 f (Some w) h
            ∙ (let e : 0 + f ≡ f = omega arith in
            ap (λ k. Some (get_or (over_functions rs p frames (replicate (length rs) None) p.order.items) (group_number p k) None)) e)))

        stack_at : (f w : ℕ) → slice_get frames f ≡ Some (Some w) → (s : Stack) × (get_or ss f None ≡ Some s) × (get_or (over_functions rs p frames (replicate (length rs) None) p.order.items) (group_number p f) None ≡ Some s)
            × Enough (over_functions rs p frames (replicate (length rs) None) p.order.items) f w s
        stack_at f w h = let e = raised_all.enough f w (a.groups.listed f (framed_within f w h)) h in (e.0, given f w h ∙ e.1, e.1, e.2)

        number_at : (f w : ℕ) (s : Stack) → get_or ss f None ≡ Some s → number_of num (get_or ss f None) ≡ num s
        number_at f w s e = ap (number_of num) e

        base_case : (f : ℕ) (fr : Option ℕ) → get_or frames f None ≡ fr → base f ≤ number_of num (get_or ss f None)
        base_case f None e = let z : base f ≡ 0 = base_none f e in omega arith
        base_case f (Some w) e =
            let h = framed_at f w e in
            let t = stack_at f w h in
            let x : bases w ≤ num t.0 = t.3.base_in in
            let y : base f ≡ bases w = base_is f w h in
            let z : number_of num (get_or ss f None) ≡ num t.0 = ap (number_of num) t.1 in
            omega arith

        call_case : (f g : ℕ) (k : Bool) → FramedCalls rs frames f g k → (same : (group_number p f ≡ group_number p g) ⊎ (group_number p f ≢ group_number p g)) → number_of num (get_or ss g None) + charge (own f) k ≤ number_of num (get_or ss f None)
        call_case f g true c (inl same) = absurd (a.leaves f g c same)
        call_case f g false c (inl same) =
            let t = stack_at f c.0.0 c.0.1 in
            let fg = a.framed f g false c in
            let u = stack_at g fg.0 fg.1 in
            let x : Some t.0 ≡ Some u.0 = sym t.2 ∙ (ap (λ n. get_or (over_functions rs p frames (replicate (length rs) None) p.order.items) n None) same ∙ u.2) in
            let y : number_of num (get_or ss f None) ≡ num t.0 = ap (number_of num) t.1 in
            let z : number_of num (get_or ss g None) ≡ num u.0 = ap (number_of num) u.1 in
            let v : num t.0 ≡ num u.0 = ap num (same_Some t.0 u.0 x) in
            omega arith
        call_case f g k c (inr ne) =
            let t = stack_at f c.0.0 c.0.1 in
            let fg = a.framed f g k c in
            let u = stack_at g fg.0 fg.1 in
            let m = t.3.calls_in g k c.1 (λ e. ne (sym e)) in
            let same : m.0 ≡ u.0 = same_Some m.0 u.0 (sym m.1 ∙ u.2) in
            let x : num m.0 + charge (owns c.0.0) k ≤ num t.0 = m.2 in
            let y : number_of num (get_or ss f None) ≡ num t.0 = ap (number_of num) t.1 in
            let z : number_of num (get_or ss g None) ≡ num u.0 = ap (number_of num) u.1 in
            let v : num m.0 ≡ num u.0 = ap num same in
            let o : charge (own f) k ≡ charge (owns c.0.0) k = ap (λ n. charge n k) (own_is f c.0.0 c.0.1) in
            omega arith

        least_case : (o : ℕ → ℕ) → Solves (FramedCalls rs frames) base own o → (f : ℕ) (s : Option Stack) → get_or ss f None ≡ s → number_of num s ≤ o f
        least_case o r f None e = omega arith
        least_case o r f (Some s) e =
            let l : slice_get ss f ≡ Some (Some s) = at_of_get ss f s e in
            let fw = entries_framed p (over_functions rs p frames (replicate (length rs) None) p.order.items) frames 0 f s (subst (λ xs. slice_get xs f ≡ Some (Some s)) ss_is l) in
            raised_all.bounded o r f fw.0 s fw.1 (sym (given f fw.0 fw.1) ∙ e)

        pub least : LeastSolution (FramedCalls rs frames) base own (λ f. number_of num (get_or ss f None))
        least = (
          record { base_in = λ f. base_case f (get_or frames f None) refl; calls_in = λ f g k c. call_case f g k c (same_or_not (group_number p f) (group_number p g)) },
          λ o r f. least_case o r f (get_or ss f None) refl,
        )

        pub somes : (f : ℕ) → HasFrame frames f → (s : Stack) × (slice_get ss f ≡ Some (Some s))
        somes f h = let t = stack_at f h.0 h.1 in (t.0, at_of_get ss f t.0 t.1)

        pub nones : (f : ℕ) (s : Stack) → slice_get ss f ≡ Some (Some s) → HasFrame frames f
        nones f s h = entries_framed p (over_functions rs p frames (replicate (length rs) None) p.order.items) frames 0 f s (subst (λ xs. slice_get xs f ≡ Some (Some s)) ss_is h)

pub stacks_least : (rs : List (List Call)) (p : Partition) (frames : List (Option ℕ)) (ss : List (Option Stack)) →
    ss ≡ entries p (over_functions rs p frames (replicate (length rs) None) p.order.items) 0 frames → AreAsked rs p frames → AreStacks rs frames ss
stacks_least rs p frames ss e a = record {
  some = somes (λ s. s.frames) (λ w. 0) (λ w. 1) frames_number p rs frames a base_frames own_frames (λ f w h. refl) (λ f w h. refl) ss e (λ f h. refl);
  none = nones (λ s. s.frames) (λ w. 0) (λ w. 1) frames_number p rs frames a base_frames own_frames (λ f w h. refl) (λ f w h. refl) ss e (λ f h. refl);
  least_frames = least (λ s. s.frames) (λ w. 0) (λ w. 1) frames_number p rs frames a base_frames own_frames (λ f w h. refl) (λ f w h. refl) ss e (λ f h. refl);
  least_words =
      least (λ s. s.words) (λ w. w) (λ w. w) words_number p rs frames a (frame_words frames) (frame_words frames)
      (λ f w h. ap words_or_none (get_or_from_slice_get frames f (Some w) None h)) (λ f w h. ap words_or_none (get_or_from_slice_get frames f (Some w) None h)) ss e
      (λ f h. ap words_or_none h);
}

-- one entry for each frame
pub entries_length : (p : Partition) (found : List (Option Stack)) (n : ℕ) (fr : List (Option ℕ)) → length (entries p found n fr) ≡ length fr
entries_length p found n [] = refl
entries_length p found n (x ∷ fr) = ap suc (entries_length p found (suc n) fr)
