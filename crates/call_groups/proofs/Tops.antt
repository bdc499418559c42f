-- The path with one visit last.
use Rattle.std.proofs.Common.{◌≡◌, ℕ, suc, ◌<◌, ◌≤◌, List, [], ◌∷◌, ◌++◌, length, arith}
use Rattle.std.proofs.Common.{sym, ap, inl, inr, ◌∙◌, subst}
use Rattle.std.specs.Prelude.{Some, slice_get, Bool}
use Rattle.std.proofs.lemmas.Option.{same_Some, slice_get_within}
use Rattle.call_groups.specs.CallGraph.{In, call, calls_of}
use Rattle.call_groups.specs.Search.{Stands, Followed, IsFollowed, Settles, visit}
use Rattle.call_groups.specs.declared.search.Call.{Call}
use Rattle.call_groups.specs.declared.search.Standing.{Standing}
use Rattle.call_groups.specs.declared.search.Visit.{Visit}
use Rattle.call_groups.proofs.Lists.{same_or_not, at_more, at_end, at_push, in_push, in_end, in_more}

-- no visit is after the last one
pub last_place :
    (rs : List (List Call)) (ss : List Standing) (path pieces : List ℕ) (vs : List Visit) (v : Visit) →
    Stands rs ss path pieces (vs ++ v ∷ []) → (w : Visit) → In w vs → w.place < v.place
last_place rs ss path pieces vs v s w h =
    s.visits_rise h.0 (length vs) w v (slice_get_within vs h.0 w h.1) (at_more vs (v ∷ []) h.0 w h.1) (at_end vs v)

-- nor does a piece begin there
pub piece_place :
    (rs : List (List Call)) (ss : List Standing) (path pieces : List ℕ) (vs : List Visit) (v : Visit) →
    Stands rs ss path pieces (vs ++ v ∷ []) → (p : ℕ) → In p pieces → p ≤ v.place
piece_place rs ss path pieces vs v s p h =
    let o = s.opens p h in
    elim (in_push vs v o.0 o.1) [
      | inl i ↦ let l : o.0.place < v.place = last_place rs ss path pieces vs v s o.0 i in let e : o.0.place ≡ p = o.2 in omega arith
      | inr e ↦ let l : o.0.place ≡ v.place = ap (λ (w : Visit). w.place) e in let m : o.0.place ≡ p = o.2 in omega arith
    ]

-- the last visit reaches another of its calls
rise_again : (vs : List Visit) (f p m n : ℕ) →
    ((i j : ℕ) (v w : Visit) → i < j → slice_get (vs ++ visit f p m ∷ []) i ≡ Some v → slice_get (vs ++ visit f p m ∷ []) j ≡ Some w → v.place < w.place) →
    (i j : ℕ) (v w : Visit) → i < j → slice_get (vs ++ visit f p n ∷ []) i ≡ Some v → slice_get (vs ++ visit f p n ∷ []) j ≡ Some w → v.place < w.place
rise_again vs f p m n h i j v w l a b =
    elim (at_push vs (visit f p n) j w b) [
      | inl wj ↦ elim (at_push vs (visit f p n) i v a) [
        | inl vi ↦ h i j v w l (at_more vs (visit f p m ∷ []) i v vi) (at_more vs (visit f p m ∷ []) j w wj)
        | inr vi ↦ let e : i ≡ length vs = vi.0 in let k : j < length vs = slice_get_within vs j w wj in absurd (omega arith)
      ]
      | inr wj ↦ elim (at_push vs (visit f p n) i v a) [
        | inl vi ↦
            let k : i < length vs = slice_get_within vs i v vi in
            let r : v.place < p = h i (length vs) v (visit f p m) k (at_more vs (visit f p m ∷ []) i v vi) (at_end vs (visit f p m)) in
            let e : w.place ≡ p = ap (λ (u : Visit). u.place) wj.1 in
            omega arith
        | inr vi ↦ let e : i ≡ length vs = vi.0 in let k : j ≡ length vs = wj.0 in absurd (omega arith)
      ]
    ]

pub stands_again :
    (rs : List (List Call)) (ss : List Standing) (path pieces : List ℕ) (vs : List Visit) (f p m n : ℕ) →
    Stands rs ss path pieces (vs ++ visit f p m ∷ []) → Stands rs ss path pieces (vs ++ visit f p n ∷ [])
stands_again rs ss path pieces vs f p m n s =
    record {
      on_path = s.on_path;
      stands = s.stands;
      joined = s.joined;
      opens = λ x h. let o = s.opens x h in elim (in_push vs (visit f p m) o.0 o.1) [
        | inl i ↦ (o.0, in_more vs (visit f p n ∷ []) o.0 i, o.2)
        | inr e ↦ (visit f p n, in_end vs (visit f p n), sym (ap (λ (w : Visit). w.place) e) ∙ o.2)
      ];
      visited = λ v h. elim (in_push vs (visit f p n) v h) [
        | inl i ↦ s.visited v (in_more vs (visit f p m ∷ []) v i)
        | inr e ↦ subst (λ (w : Visit). slice_get path w.place ≡ Some w.function) (sym e) (s.visited (visit f p m) (in_end vs (visit f p m)))
      ];
      visits_rise = rise_again vs f p m n s.visits_rise;
      pieces_rise = s.pieces_rise;
      first = s.first;
    }

-- one more call of the last visit was followed
pub followed_less : (vs : List Visit) (f p m n q j : ℕ) → IsFollowed (vs ++ visit f p n ∷ []) q j → ((q ≡ p) → j < m) → IsFollowed (vs ++ visit f p m ∷ []) q j
followed_less vs f p m n q j h l v i e = elim (in_push vs (visit f p m) v i) [
  | inl k ↦ h v (in_more vs (visit f p n ∷ []) v k) e
  | inr k ↦
      let a : v.place ≡ p = ap (λ (w : Visit). w.place) k in
      let b : v.next ≡ m = ap (λ (w : Visit). w.next) k in
      let r : j < m = l (sym e ∙ a) in
      omega arith
]

pub followed_one :
    (rs : List (List Call)) (ss : List Standing) (path pieces : List ℕ) (vs : List Visit) (f p n b : ℕ) (k : Bool) →
    Stands rs ss path pieces (vs ++ visit f p n ∷ []) → Followed rs ss path pieces (vs ++ visit f p n ∷ []) →
    slice_get (calls_of rs f) n ≡ Some (call b k) → Settles pieces p (slice_get ss b) →
    Followed rs ss path pieces (vs ++ visit f p (suc n) ∷ [])
followed_one rs ss path pieces vs f p n b k s h c d q g j a i at_q at_j l =
    elim (same_or_not q p) [
      | inl e ↦ elim (same_or_not j n) [
        | inl e' ↦
            let here : slice_get path p ≡ Some f = s.visited (visit f p n) (in_end vs (visit f p n)) in
            let same : g ≡ f = same_Some g f (sym at_q ∙ (ap (slice_get path) e ∙ here)) in
            let call_j : slice_get (calls_of rs f) n ≡ Some (call a i) = subst (λ x. slice_get (calls_of rs x) n ≡ Some (call a i)) same (subst (λ x. slice_get (calls_of rs g) x ≡ Some (call a i)) e' at_j) in
            let callee : a ≡ b = ap (λ (x : Call). x.callee) (same_Some (call a i) (call b k) (sym call_j ∙ c)) in
            subst (λ x. Settles pieces x (slice_get ss a)) (sym e) (subst (λ x. Settles pieces p (slice_get ss x)) (sym callee) d)
        | inr ne ↦
            let below : j < suc n = l (visit f p (suc n)) (in_end vs (visit f p (suc n))) (sym e) in
            h q g j a i at_q at_j (followed_less vs f p n (suc n) q j l (λ e'. omega arith))
      ]
      | inr ne ↦ h q g j a i at_q at_j (followed_less vs f p n (suc n) q j l (λ e. absurd (ne e)))
    ]
