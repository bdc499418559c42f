-- All calls of the last visited function were followed.
use Rattle.std.proofs.Common.{◌≡◌, ◌≢◌, ℕ, zero, suc, ◌+◌, ◌<◌, ◌≤◌, List, [], ◌∷◌, ◌++◌, length, drop, set, arith}
use Rattle.std.proofs.Common.{refl, sym, ap, inl, inr, ◌∙◌, subst, ◌-◌, length-set}
use Rattle.std.specs.Prelude.{◌⊎◌, Option, Some, None, slice_get}
use Rattle.std.proofs.lemmas.Option.{none-some, same_Some, slice_get_within}
use Rattle.std.proofs.lemmas.Bool.{cases_lt}
use Rattle.call_groups.specs.CallGraph.{In, call, calls_of}
use Rattle.call_groups.specs.Search.{Stands, Followed, visit, group_all}
use Rattle.call_groups.specs.declared.search.Call.{Call}
use Rattle.call_groups.specs.declared.search.Standing.{Standing}
use Rattle.call_groups.specs.declared.search.Standing.TheVariants.{New, OnPath, Grouped}
use Rattle.call_groups.specs.declared.search.Visit.{Visit}
use Rattle.call_groups.proofs.Lists.{same_or_not, at_same, at_other, at_more, at_end, at_push, at_drop, in_push, in_end, in_more}
use Rattle.call_groups.proofs.Tops.{piece_place}

pub followed_left :
    (rs : List (List Call)) (ss : List Standing) (path pieces : List ℕ) (vs : List Visit) (f p n : ℕ) →
    Stands rs ss path pieces (vs ++ visit f p n ∷ []) → Followed rs ss path pieces (vs ++ visit f p n ∷ []) →
    length (calls_of rs f) ≤ n → Followed rs ss path pieces vs
followed_left rs ss path pieces vs f p n s d l q g j a i at_q at_j h =
    d q g j a i at_q at_j (λ v x e. elim (in_push vs (visit f p n) v x) [
      | inl y ↦ h v y e
      | inr y ↦
          let at_p : slice_get path v.place ≡ Some v.function = s.visited v x in
          let same : g ≡ v.function = same_Some g v.function (sym at_q ∙ (ap (slice_get path) (sym e) ∙ at_p)) in
          let same_f : v.function ≡ f = ap (λ (w : Visit). w.function) y in
          let k : j < length (calls_of rs f) = slice_get_within (calls_of rs f) j (call a i) (subst (λ x. slice_get (calls_of rs x) j ≡ Some (call a i)) (same ∙ same_f) at_j) in
          let next : v.next ≡ n = ap (λ (w : Visit). w.next) y in
          omega arith
    ])

pub rise_less : (vs us : List Visit) →
    ((i j : ℕ) (v w : Visit) → i < j → slice_get (vs ++ us) i ≡ Some v → slice_get (vs ++ us) j ≡ Some w → v.place < w.place) →
    (i j : ℕ) (v w : Visit) → i < j → slice_get vs i ≡ Some v → slice_get vs j ≡ Some w → v.place < w.place
rise_less vs us h i j v w l a b = h i j v w l (at_more vs us i v a) (at_more vs us j w b)

pub stands_left :
    (rs : List (List Call)) (ss : List Standing) (path pieces : List ℕ) (vs : List Visit) (v : Visit) →
    Stands rs ss path pieces (vs ++ v ∷ []) → (In v.place pieces → ⊥) → Stands rs ss path pieces vs
stands_left rs ss path pieces vs v s ne =
    record {
      on_path = s.on_path;
      stands = s.stands;
      joined = s.joined;
      opens = λ z i. let o = s.opens z i in elim (in_push vs v o.0 o.1) [
        | inl x ↦ (o.0, x, o.2)
        | inr x ↦ absurd (ne (subst (λ y. In y pieces) (sym o.2 ∙ ap (λ (w : Visit). w.place) x) i))
      ];
      visited = λ w i. s.visited w (in_more vs (v ∷ []) w i);
      visits_rise = rise_less vs (v ∷ []) s.visits_rise;
      pieces_rise = s.pieces_rise;
      first = s.first;
    }

-- Where the last piece doesn't begin in this place, none does.
pub no_piece :
    (rs : List (List Call)) (ss : List Standing) (path ps : List ℕ) (p : ℕ) (vs : List Visit) (v : Visit) →
    Stands rs ss path (ps ++ p ∷ []) (vs ++ v ∷ []) → p ≢ v.place → In v.place (ps ++ p ∷ []) → ⊥
no_piece rs ss path ps p vs v s ne i = elim (at_push ps p i.0 v.place i.1) [
  | inl x ↦
      let l : v.place < p = s.pieces_rise i.0 (length ps) v.place p (slice_get_within ps i.0 v.place x) i.1 (at_end ps p) in
      let m : p ≤ v.place = piece_place rs ss path (ps ++ p ∷ []) vs v s p (in_end ps p) in
      omega arith
  | inr x ↦ ne (sym x.1)
]

-- ---- the last piece becomes a group

-- what the search has of functions in the group, and of others
kept : (g : ℕ) (fs : List ℕ) (ss : List Standing) (f : ℕ) → slice_get ss f ≡ Some (Grouped g) → slice_get (group_all g fs ss) f ≡ Some (Grouped g)
kept g [] ss f h = h
kept g (x ∷ fs) ss f h = kept g fs (set ss x (Grouped g)) f (elim (same_or_not f x) [
  | inl e ↦ subst (λ y. slice_get (set ss y (Grouped g)) f ≡ Some (Grouped g)) e (at_same ss f (Grouped g) (Grouped g) h)
  | inr e ↦ at_other ss x f (Grouped g) e ∙ h
])

still : (ss : List Standing) (x f : ℕ) (s t : Standing) → slice_get ss f ≡ Some t → (u : Standing) × (slice_get (set ss x s) f ≡ Some u)
still ss x f s t h = elim (same_or_not f x) [
  | inl e ↦ (s, subst (λ y. slice_get (set ss y s) f ≡ Some s) e (at_same ss f t s h))
  | inr e ↦ (t, at_other ss x f s e ∙ h)
]

grouped_in : (g : ℕ) (fs : List ℕ) (ss : List Standing) (i f : ℕ) (t : Standing) → slice_get fs i ≡ Some f → slice_get ss f ≡ Some t → slice_get (group_all g fs ss) f ≡ Some (Grouped g)
grouped_in g [] ss i f t h e = absurd (none-some f h)
grouped_in g (x ∷ fs) ss zero f t h e =
    let same : x ≡ f = same_Some x f h in
    kept g fs (set ss x (Grouped g)) f (subst (λ y. slice_get (set ss y (Grouped g)) f ≡ Some (Grouped g)) (sym same) (at_same ss f t (Grouped g) e))
grouped_in g (x ∷ fs) ss (suc i) f t h e = let r = still ss x f (Grouped g) t e in grouped_in g fs (set ss x (Grouped g)) i f r.0 h r.1

grouped_out : (g : ℕ) (fs : List ℕ) (ss : List Standing) (f : ℕ) → (In f fs → ⊥) → slice_get (group_all g fs ss) f ≡ slice_get ss f
grouped_out g [] ss f h = refl
grouped_out g (x ∷ fs) ss f h =
    grouped_out g fs (set ss x (Grouped g)) f (λ i. h (suc i.0, i.1)) ∙ at_other ss x f (Grouped g) (λ e. h (0, ap Some (sym e)))

pub group_size : (g : ℕ) (fs : List ℕ) (ss : List Standing) → length (group_all g fs ss) ≡ length ss
group_size g [] ss = refl
group_size g (x ∷ fs) ss = group_size g fs (set ss x (Grouped g)) ∙ (simp length-set)

module _ (rs : List (List Call)) (ss : List Standing) (path pieces : List ℕ) (vs : List Visit) (s : Stands rs ss path pieces vs) (g p : ℕ) where
  pub after_in : (f q : ℕ) → slice_get ss f ≡ Some (OnPath q) → p ≤ q → slice_get (group_all g (drop p path) ss) f ≡ Some (Grouped g)
  after_in f q h l =
      let m : p + (q - p) ≡ q = omega arith in
      grouped_in g (drop p path) ss (q - p) f (OnPath q) (at_drop p path (q - p) ∙ (ap (slice_get path) m ∙ s.on_path f q h)) h

  pub in_place : (f : ℕ) → In f (drop p path) → (q : ℕ) × (p ≤ q) × (slice_get path q ≡ Some f) × (slice_get ss f ≡ Some (OnPath q))
  in_place f i =
      let at : slice_get path (p + i.0) ≡ Some f = sym (at_drop p path i.0) ∙ i.1 in
      (p + i.0, omega arith, at, s.stands f (p + i.0) at)

  pub after_out : (f : ℕ) (o : Option Standing) → slice_get ss f ≡ o → ((q : ℕ) → o ≡ Some (OnPath q) → q < p) → slice_get (group_all g (drop p path) ss) f ≡ o
  after_out f o e h = grouped_out g (drop p path) ss f (λ i. let r = in_place f i in let l : r.0 < p = h r.0 (sym e ∙ r.3) in let m : p ≤ r.0 = r.1 in omega arith) ∙ e

  -- from what it is afterwards, what it was before
  back_by : (f : ℕ) (t : Standing) (o : Option Standing) → slice_get ss f ≡ o → slice_get (group_all g (drop p path) ss) f ≡ Some t →
      ((q : ℕ) × (p ≤ q) × (slice_get path q ≡ Some f) × (t ≡ Grouped g)) ⊎ ((slice_get ss f ≡ Some t) × ((q : ℕ) → t ≡ OnPath q → q < p))
  back_by f t None e h = absurd (none-some t (sym (after_out f None e (λ q x. absurd (none-some (OnPath q) x))) ∙ h))
  back_by f t (Some New) e h =
      let r : Some New ≡ Some t = sym (after_out f (Some New) e (λ q x. cc)) ∙ h in
      inr (e ∙ r, λ q x. cc)
  back_by f t (Some (Grouped k)) e h =
      let r : Some (Grouped k) ≡ Some t = sym (after_out f (Some (Grouped k)) e (λ q x. cc)) ∙ h in
      inr (e ∙ r, λ q x. cc)
  back_by f t (Some (OnPath q)) e h = elim (cases_lt q p) [
    | inr l ↦ inl (q, l, s.on_path f q e, same_Some t (Grouped g) (sym h ∙ after_in f q e l))
    | inl l ↦
        let r : Some (OnPath q) ≡ Some t = sym (after_out f (Some (OnPath q)) e (λ y x. let z : q ≡ y = cc in omega arith)) ∙ h in
        inr (e ∙ r, λ y x. let z : q ≡ y = cc in omega arith)
  ]

  pub back : (f : ℕ) (t : Standing) → slice_get (group_all g (drop p path) ss) f ≡ Some t →
      ((q : ℕ) × (p ≤ q) × (slice_get path q ≡ Some f) × (t ≡ Grouped g)) ⊎ ((slice_get ss f ≡ Some t) × ((q : ℕ) → t ≡ OnPath q → q < p))
  back f t h = back_by f t (slice_get ss f) refl h
