-- The steps of the search, by its fields.
use Rattle.std.proofs.Common.{◌≡◌, ℕ, ◌+◌, ◌<◌, List, [], ◌∷◌, ◌++◌, length, set, take, drop}
use Rattle.std.proofs.Common.{refl, sym, ap, inl, inr, ◌∙◌, subst, get_or, replicate, ◌-◌, append_assoc, true, false}
use Rattle.std.proofs.lemmas.List.{drop_more}
use Rattle.std.specs.Prelude.{Option, Some, None, slice_get, Bool, Result, Ok, Err, OnOk}
use Rattle.call_groups.specs.CallGraph.{call, calls_of, IsPartition}
use Rattle.call_groups.specs.Search.{Stands, IsNew, Further, visit, Sound, IsSound, IsIdle, Meets, KeepsRest, Groups, Leaves, IsDone, IsCalling, JoinsBy, Settled, Rises, Settles, group_all, EndsIn, CallsAt}
use Rattle.call_groups.specs.declared.search.Call.{Call}
use Rattle.call_groups.specs.declared.search.Search.{Search}
use Rattle.call_groups.specs.declared.search.Standing.{Standing}
use Rattle.call_groups.specs.declared.search.Standing.TheVariants.{New, OnPath, Grouped}
use Rattle.call_groups.specs.declared.search.Visit.{Visit}
use Rattle.call_groups.proofs.Meets.{not_new}
use Rattle.call_groups.proofs.Leaves.{back}
use Rattle.call_groups.proofs.Whole.{whole_first, whole_met, whole_skip, whole_join, whole_left, whole_grouped, whole_end, whole_start}

pub on_ok_both : {T E P Q R : Type 0} (r : Result T E) → (P → Q → R) → OnOk r P → OnOk r Q → OnOk r R
on_ok_both (Ok x) f p q = f p q
on_ok_both (Err e) f p q = tt

-- the same by equal fields
sound_by :
    (rs : List (List Call)) (ss ss' : List Standing) (path path' pieces pieces' : List ℕ) (vs vs' : List Visit) (order order' : List ℕ) →
    ss' ≡ ss → path' ≡ path → pieces' ≡ pieces → vs' ≡ vs → order' ≡ order →
    Sound rs ss path pieces vs order → Sound rs ss' path' pieces' vs' order'
sound_by rs ss ss' path path' pieces pieces' vs vs' order order' a b c d e s =
    subst (λ x. Sound rs x path' pieces' vs' order') (sym a)
    (subst (λ x. Sound rs ss x pieces' vs' order') (sym b)
    (subst (λ x. Sound rs ss path x vs' order') (sym c)
    (subst (λ x. Sound rs ss path pieces x order') (sym d)
    (subst (λ x. Sound rs ss path pieces vs x) (sym e) s))))

pub rises_of : (rs : List (List Call)) (s : Search) (vs : List Visit) → IsSound rs s vs → Rises s.pieces.items
rises_of rs s vs h = h.stands.pieces_rise

pub step_first :
    (rs : List (List Call)) (old new : Search) (f : ℕ) → IsIdle rs old → IsNew old.standings.items f → Meets old new f →
    IsSound rs new new.visits.items
step_first rs old new f i n m =
    let s : Sound rs old.standings.items old.path.items old.pieces.items [] old.order.items =
    subst (λ vs. Sound rs old.standings.items old.path.items old.pieces.items vs old.order.items) i.nothing i.sound in
    sound_by rs (set old.standings.items f (OnPath (length old.path.items))) new.standings.items
    (old.path.items ++ f ∷ []) new.path.items
    (old.pieces.items ++ length old.path.items ∷ []) new.pieces.items
    ([] ++ visit f (length old.path.items) 0 ∷ []) new.visits.items
    old.order.items new.order.items
    m.standings m.path m.pieces
    (m.visits ∙ ap (λ vs. vs ++ visit f (length old.path.items) 0 ∷ []) i.nothing)
    m.order
    (whole_first rs old.standings.items old.path.items old.pieces.items old.order.items f s n)

pub met_not_new : (old new : Search) (f : ℕ) → IsNew old.standings.items f → Meets old new f → IsNew new.standings.items f → ⊥
met_not_new old new f n m h =
    (not_new old.standings.items f f (length old.path.items) n (subst (λ ss. IsNew ss f) m.standings h)).0 refl

pub met_further : (old new : Search) (f : ℕ) → IsNew old.standings.items f → Meets old new f → Further old.standings.items new.standings.items
met_further old new f n m g h =
    (not_new old.standings.items f g (length old.path.items) n (subst (λ ss. IsNew ss g) m.standings h)).1

-- `mid` has the visit back, and then the callee was met
pub step_met :
    (rs : List (List Call)) (old mid new : Search) (f p callee next : ℕ) → IsCalling rs old f p callee next →
    KeepsRest (record { standings = old.standings; path = old.path; pieces = old.pieces; visits = mid.visits; order = old.order }) mid → mid.pieces.items ≡ old.pieces.items →
    mid.visits.items ≡ old.visits.items ++ visit f p next ∷ [] → Meets mid new callee →
    IsSound rs new new.visits.items
step_met rs old mid new f p callee next c k pk vk m =
    let n : length mid.path.items ≡ length old.path.items = ap length k.path in
    sound_by rs (set old.standings.items callee (OnPath (length old.path.items))) new.standings.items
    (old.path.items ++ callee ∷ []) new.path.items
    (old.pieces.items ++ length old.path.items ∷ []) new.pieces.items
    ((old.visits.items ++ visit f p (c.at + 1) ∷ []) ++ visit callee (length old.path.items) 0 ∷ []) new.visits.items
    old.order.items new.order.items
    (m.standings ∙ (ap (λ ss. set ss callee (OnPath (length mid.path.items))) k.standings ∙ ap (λ l. set old.standings.items callee (OnPath l)) n))
    (m.path ∙ ap (λ l. l ++ callee ∷ []) k.path)
    (m.pieces ∙ (ap (λ l. l ++ length mid.path.items ∷ []) pk ∙ ap (λ l. old.pieces.items ++ l ∷ []) n))
    (m.visits ∙ (ap (λ l. l ++ visit callee (length mid.path.items) 0 ∷ []) (vk ∙ ap (λ j. old.visits.items ++ visit f p j ∷ []) c.following)
    ∙ ap (λ l. (old.visits.items ++ visit f p (c.at + 1) ∷ []) ++ visit callee l 0 ∷ []) n))
    (m.order ∙ k.order)
    (whole_met rs old.standings.items old.path.items old.pieces.items old.visits.items old.order.items f p c.at callee c.waits c.sound c.call_at c.is_new)

settled_by :
    (rs : List (List Call)) (ss : List Standing) (path old new : List ℕ) (vs : List Visit) (order : List ℕ) (f p n b : ℕ) (k : Bool) →
    Sound rs ss path old (vs ++ visit f p n ∷ []) order → slice_get (calls_of rs f) n ≡ Some (call b k) →
    (IsNew ss b → ⊥) → (o : Option Standing) → slice_get ss b ≡ o → JoinsBy o old new → Sound rs ss path new (vs ++ visit f p (n + 1) ∷ []) order
settled_by rs ss path old new vs order f p n b k s c ne None e j =
    subst (λ ps. Sound rs ss path ps (vs ++ visit f p (n + 1) ∷ []) order) (sym j)
    (whole_skip rs ss path old vs order f p n b k s c (subst (λ (o : Option Standing). Settles old p o) (sym e) tt))
settled_by rs ss path old new vs order f p n b k s c ne (Some New) e j = absurd (ne e)
settled_by rs ss path old new vs order f p n b k s c ne (Some (OnPath q)) e j = whole_join rs ss path old new vs order f p n b k q s c e j
settled_by rs ss path old new vs order f p n b k s c ne (Some (Grouped g)) e j =
    subst (λ ps. Sound rs ss path ps (vs ++ visit f p (n + 1) ∷ []) order) (sym j)
    (whole_skip rs ss path old vs order f p n b k s c (subst (λ (o : Option Standing). Settles old p o) (sym e) tt))

-- the call in this place of the row was followed
pub step_settled :
    (rs : List (List Call)) (old new : Search) (row : List Call) (f p n b : ℕ) → row ≡ calls_of rs f → CallsAt row n b →
    IsSound rs old (old.visits.items ++ visit f p n ∷ []) → (IsNew old.standings.items b → ⊥) → Settled old new b → KeepsRest old new →
    IsSound rs new (new.visits.items ++ visit f p (n + 1) ∷ [])
step_settled rs old new row f p n b same c s ne j k =
    let at : slice_get (calls_of rs f) n ≡ Some (call b c.waits) = subst (λ r. slice_get r n ≡ Some (call b c.waits)) same c.at in
    sound_by rs old.standings.items new.standings.items old.path.items new.path.items new.pieces.items new.pieces.items
    (old.visits.items ++ visit f p (n + 1) ∷ []) (new.visits.items ++ visit f p (n + 1) ∷ []) old.order.items new.order.items
    k.standings k.path refl (ap (λ vs. vs ++ visit f p (n + 1) ∷ []) k.visits) k.order
    (settled_by rs old.standings.items old.path.items old.pieces.items new.pieces.items old.visits.items old.order.items f p n b c.waits s at ne
    (slice_get old.standings.items b) refl j.joins)

pub keeps_both : (a b c : Search) → KeepsRest a b → KeepsRest b c → KeepsRest a c
keeps_both a b c h k = record {
  standings = k.standings ∙ h.standings;
  path = k.path ∙ h.path;
  visits = k.visits ∙ h.visits;
  order = k.order ∙ h.order;
}

pub step_start :
    (rs : List (List Call)) (s : Search) (n : ℕ) → n ≡ length rs → s.standings.items ≡ replicate n New → s.path.items ≡ [] →
    s.pieces.items ≡ [] → s.visits.items ≡ [] → s.order.items ≡ [] → IsIdle rs s
step_start rs s n l a b c d e = record {
  sound = sound_by rs (replicate n New) s.standings.items [] s.path.items [] s.pieces.items [] s.visits.items [] s.order.items a b c d e (whole_start rs n l);
  nothing = d;
}

-- one more function of the path comes into the group
pub group_step : (g : ℕ) (path : List ℕ) (at f : ℕ) (ss : List Standing) → at < length path → f ≡ get_or path at f →
    group_all g (drop (at + 1) path) (set ss f (Grouped g)) ≡ group_all g (drop at path) ss
group_step g path at f ss l e = sym (ap (λ fs. group_all g fs ss) (drop_more path at f l ∙ ap (λ x. x ∷ drop (at + 1) path) (sym e)))

pub order_step : (order path : List ℕ) (at f : ℕ) → at < length path → f ≡ get_or path at f →
    (order ++ f ∷ []) ++ drop (at + 1) path ≡ order ++ drop at path
order_step order path at f l e =
    append_assoc order (f ∷ []) (drop (at + 1) path) ∙ ap (λ fs. order ++ fs) (sym (drop_more path at f l ∙ ap (λ x. x ∷ drop (at + 1) path) (sym e)))

-- the last piece leaves
pub closes_by : (old mid new : Search) (p : ℕ) → EndsIn true old.pieces.items p → mid.pieces.items ≡ take (length old.pieces.items - 1) old.pieces.items →
    mid.standings.items ≡ old.standings.items → mid.path.items ≡ old.path.items → mid.visits.items ≡ old.visits.items → mid.order.items ≡ old.order.items →
    Groups mid new p → new.pieces.items ≡ mid.pieces.items → Leaves old new p
closes_by old mid new p e t a b c d g k =
    inl (record {
      pieces = e ∙ ap (λ ps. ps ++ p ∷ []) (sym t ∙ sym k);
      groups = record {
        standings = g.standings ∙ (ap (λ fs. group_all (length mid.order.items) (drop p fs) mid.standings.items) b
            ∙ (ap (λ ss. group_all (length mid.order.items) (drop p old.path.items) ss) a
            ∙ ap (λ os. group_all (length os) (drop p old.path.items) old.standings.items) d));
        path = g.path ∙ ap (take p) b;
        visits = g.visits ∙ c;
        order = g.order ∙ (ap (λ os. os ++ drop p mid.path.items) d ∙ ap (λ fs. old.order.items ++ drop p fs) b);
      };
    })

pub stays_by : (s : Search) (p : ℕ) → EndsIn false s.pieces.items p → Leaves s s p
stays_by s p e = inr (record { pieces = refl; other = e; rest = record { standings = refl; path = refl; visits = refl; order = refl } })

pub step_left : (rs : List (List Call)) (old new : Search) (f p : ℕ) → IsDone rs old f p → Leaves old new p → IsSound rs new new.visits.items
step_left rs old new f p d l = elim l [
  | inl c ↦
      let s : Sound rs old.standings.items old.path.items (new.pieces.items ++ p ∷ []) (old.visits.items ++ visit f p d.next ∷ []) old.order.items =
      subst (λ ps. Sound rs old.standings.items old.path.items ps (old.visits.items ++ visit f p d.next ∷ []) old.order.items) c.pieces d.sound in
      let r = whole_grouped rs old.standings.items old.path.items new.pieces.items old.visits.items old.order.items f p d.next s d.all in
      sound_by rs _ new.standings.items _ new.path.items new.pieces.items new.pieces.items old.visits.items new.visits.items _ new.order.items
      c.groups.standings c.groups.path refl c.groups.visits c.groups.order r
  | inr k ↦
      let r = whole_left rs old.standings.items old.path.items old.pieces.items old.visits.items old.order.items f p d.next d.sound d.all k.other in
      sound_by rs old.standings.items new.standings.items old.path.items new.path.items old.pieces.items new.pieces.items old.visits.items new.visits.items old.order.items new.order.items
      k.rest.standings k.rest.path k.pieces k.rest.visits k.rest.order r
]

still_new : (rs : List (List Call)) (old : Search) (vs : List Visit) (s : Stands rs old.standings.items old.path.items old.pieces.items vs) (g p f : ℕ) →
    IsNew (group_all g (drop p old.path.items) old.standings.items) f → IsNew old.standings.items f
still_new rs old vs s g p f h = elim (back rs old.standings.items old.path.items old.pieces.items vs s g p f New h) [
  | inl x ↦ let e : New ≡ Grouped g = x.3 in cc
  | inr x ↦ x.0
]

pub left_further : (rs : List (List Call)) (old new : Search) (f p : ℕ) → IsDone rs old f p → Leaves old new p → Further old.standings.items new.standings.items
left_further rs old new f p d l g h = elim l [
  | inl c ↦ still_new rs old (old.visits.items ++ visit f p d.next ∷ []) d.sound.stands (length old.order.items) p g (subst (λ ss. IsNew ss g) c.groups.standings h)
  | inr k ↦ subst (λ ss. IsNew ss g) k.rest.standings h
]

pub further_same : (old mid new : List Standing) → mid ≡ old → Further mid new → Further old new
further_same old mid new e h f n = subst (λ ss. IsNew ss f) e (h f n)

pub step_end :
    (rs : List (List Call)) (s : Search) → IsIdle rs s → ((f : ℕ) → f < length rs → IsNew s.standings.items f → ⊥) →
    IsPartition rs (record { standings = s.standings; order = s.order })
step_end rs s i met =
    whole_end rs (record { standings = s.standings; order = s.order }) s.path.items s.pieces.items
    (subst (λ vs. Sound rs s.standings.items s.path.items s.pieces.items vs s.order.items) i.nothing i.sound) met
