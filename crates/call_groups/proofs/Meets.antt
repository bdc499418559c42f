-- A new function comes onto the path.
use Rattle.std.proofs.Common.{◌≡◌, ◌≢◌, ℕ, suc, ◌<◌, ◌≤◌, List, [], ◌∷◌, ◌++◌, length, set, arith}
use Rattle.std.proofs.Common.{refl, sym, ap, inl, inr, ◌∙◌, subst}
use Rattle.std.specs.Prelude.{◌⊎◌, Option, Some, None, slice_get, Bool}
use Rattle.std.proofs.lemmas.Option.{same_Some, slice_get_within}
use Rattle.std.proofs.lemmas.Bool.{cases_lt}
use Rattle.call_groups.specs.CallGraph.{In, call, calls_of, Reaches}
use Rattle.call_groups.specs.Search.{Found, Stands, Followed, IsFollowed, IsNew, Settles, Keeps, Rises, visit}
use Rattle.call_groups.specs.declared.search.Call.{Call}
use Rattle.call_groups.specs.declared.search.Standing.{Standing}
use Rattle.call_groups.specs.declared.search.Standing.TheVariants.{New, OnPath, Grouped}
use Rattle.call_groups.specs.declared.search.Visit.{Visit}
use Rattle.call_groups.proofs.Lists.{same_or_not, at_same, at_other, at_more, at_end, at_push, in_push, in_end, in_more}
use Rattle.call_groups.proofs.Paths.{itself}
use Rattle.call_groups.proofs.Tops.{followed_less}

-- groups that are found stay the same, where the same functions are in them
pub found_same :
    (rs : List (List Call)) (ss ts : List Standing) (order : List ℕ) →
    ((a g : ℕ) → slice_get ts a ≡ Some (Grouped g) → slice_get ss a ≡ Some (Grouped g)) →
    ((a g : ℕ) → slice_get ss a ≡ Some (Grouped g) → slice_get ts a ≡ Some (Grouped g)) →
    Found rs ss order → Found rs ts order
found_same rs ss ts order back on h =
    record {
      closed = λ a g b k e c l. let r = h.closed a g b k (back a g e) c l in (r.0, on b r.0 r.1, r.2);
      together = λ a b g d e. h.together a b g (back a g d) (back b g e);
      below = λ a g e. h.below a g (back a g e);
      listed = λ a g e. h.listed a g (back a g e);
      ordered = λ a i. let r = h.ordered a i in (r.0, on a r.0 r.1);
      sorted = λ i j a b g m l d e p q. h.sorted i j a b g m l d e (back a g p) (back b m q);
    }

-- what the search has of other functions stays
stays : (ss : List Standing) (f g : ℕ) (s t : Standing) → IsNew ss f → Some t ≢ Some New → slice_get ss g ≡ Some t → slice_get (set ss f s) g ≡ Some t
stays ss f g s t h ne e = at_other ss f g s (λ x. ne (sym e ∙ (ap (slice_get ss) x ∙ h))) ∙ e

-- and what it has now, it had before, or it is that of the new function
was : (ss : List Standing) (f g : ℕ) (s t : Standing) → IsNew ss f → slice_get (set ss f s) g ≡ Some t → ((g ≡ f) × (t ≡ s)) ⊎ (slice_get ss g ≡ Some t)
was ss f g s t h e = elim (same_or_not g f) [
  | inl x ↦ inl (x, same_Some t s (sym e ∙ (ap (slice_get (set ss f s)) x ∙ at_same ss f New s h)))
  | inr x ↦ inr (sym (at_other ss f g s x) ∙ e)
]

pub found_met : (rs : List (List Call)) (ss : List Standing) (order : List ℕ) (f p : ℕ) → IsNew ss f → Found rs ss order → Found rs (set ss f (OnPath p)) order
found_met rs ss order f p h =
    found_same rs ss (set ss f (OnPath p)) order
    (λ a g e. elim (was ss f a (OnPath p) (Grouped g) h e) [ inl x ↦ absurd (let y : Grouped g ≡ OnPath p = x.1 in cc) | inr x ↦ x ])
    (λ a g e. stays ss f a (OnPath p) (Grouped g) h (λ x. cc) e)

-- it isn't new any longer
pub not_new : (ss : List Standing) (f g p : ℕ) → IsNew ss f → IsNew (set ss f (OnPath p)) g → (g ≢ f) × IsNew ss g
not_new ss f g p h e = elim (was ss f g (OnPath p) New h e) [
  | inl x ↦ absurd (let y : New ≡ OnPath p = x.1 in cc)
  | inr x ↦ (λ y. let z : Some New ≡ Some (OnPath p) = sym e ∙ (ap (slice_get (set ss f (OnPath p))) y ∙ at_same ss f New (OnPath p) h) in cc, x)
]

rise_push : (xs : List ℕ) (y : ℕ) → Rises xs → ((x : ℕ) → In x xs → x < y) → Rises (xs ++ y ∷ [])
rise_push xs y r h i j v w l a b = elim (at_push xs y j w b) [
  | inl wj ↦ elim (at_push xs y i v a) [
    | inl vi ↦ r i j v w l vi wj
    | inr vi ↦ let e : i ≡ length xs = vi.0 in let k : j < length xs = slice_get_within xs j w wj in absurd (omega arith)
  ]
  | inr wj ↦ elim (at_push xs y i v a) [
    | inl vi ↦ let k : v < y = h v (i, vi) in let e : w ≡ y = wj.1 in omega arith
    | inr vi ↦ let e : i ≡ length xs = vi.0 in let k : j ≡ length xs = wj.0 in absurd (omega arith)
  ]
]

visits_rise_push : (vs : List Visit) (u : Visit) →
    ((i j : ℕ) (v w : Visit) → i < j → slice_get vs i ≡ Some v → slice_get vs j ≡ Some w → v.place < w.place) →
    ((v : Visit) → In v vs → v.place < u.place) →
    (i j : ℕ) (v w : Visit) → i < j → slice_get (vs ++ u ∷ []) i ≡ Some v → slice_get (vs ++ u ∷ []) j ≡ Some w → v.place < w.place
visits_rise_push vs u r h i j v w l a b = elim (at_push vs u j w b) [
  | inl wj ↦ elim (at_push vs u i v a) [
    | inl vi ↦ r i j v w l vi wj
    | inr vi ↦ let e : i ≡ length vs = vi.0 in let k : j < length vs = slice_get_within vs j w wj in absurd (omega arith)
  ]
  | inr wj ↦ elim (at_push vs u i v a) [
    | inl vi ↦ let k : v.place < u.place = h v (i, vi) in let e : w.place ≡ u.place = ap (λ (x : Visit). x.place) wj.1 in omega arith
    | inr vi ↦ let e : i ≡ length vs = vi.0 in let k : j ≡ length vs = wj.0 in absurd (omega arith)
  ]
]

-- a visit is on the path
visit_within : (rs : List (List Call)) (ss : List Standing) (path pieces : List ℕ) (vs : List Visit) → Stands rs ss path pieces vs → (v : Visit) → In v vs → v.place < length path
visit_within rs ss path pieces vs s v i = slice_get_within path v.place v.function (s.visited v i)

piece_within : (rs : List (List Call)) (ss : List Standing) (path pieces : List ℕ) (vs : List Visit) → Stands rs ss path pieces vs → (p : ℕ) → In p pieces → p < length path
piece_within rs ss path pieces vs s p i = let o = s.opens p i in let l : o.0.place < length path = visit_within rs ss path pieces vs s o.0 o.1 in let e : o.0.place ≡ p = o.2 in omega arith

joined_met :
    (rs : List (List Call)) (ss : List Standing) (path pieces : List ℕ) (vs : List Visit) (f : ℕ) →
    Stands rs ss path pieces vs → ((p g : ℕ) → slice_get path p ≡ Some g → Reaches rs g f) →
    (p q a b : ℕ) → slice_get (path ++ f ∷ []) p ≡ Some a → slice_get (path ++ f ∷ []) q ≡ Some b → Keeps (pieces ++ length path ∷ []) p q → Reaches rs a b
joined_met rs ss path pieces vs f s r p q a b at_p at_q h =
    elim (at_push path f q b at_q) [
      | inl bq ↦ elim (at_push path f p a at_p) [
        | inl ap' ↦ s.joined p q a b ap' bq (λ z i l. h z (in_more pieces (length path ∷ []) z i) l)
        | inr ap' ↦
            let e : p ≡ length path = ap'.0 in
            let l : length path ≤ q = h (length path) (in_end pieces (length path)) (omega arith) in
            let k : q < length path = slice_get_within path q b bq in
            absurd (omega arith)
      ]
      | inr bq ↦ elim (at_push path f p a at_p) [
        | inl ap' ↦ subst (λ x. Reaches rs a x) (sym bq.1) (r p a ap')
        | inr ap' ↦ subst (λ x. Reaches rs a x) (ap'.1 ∙ sym bq.1) (itself rs a)
      ]
    ]

pub stands_met :
    (rs : List (List Call)) (ss : List Standing) (path pieces : List ℕ) (vs : List Visit) (f : ℕ) →
    IsNew ss f → ((p g : ℕ) → slice_get path p ≡ Some g → Reaches rs g f) → Stands rs ss path pieces vs →
    Stands rs (set ss f (OnPath (length path))) (path ++ f ∷ []) (pieces ++ length path ∷ []) (vs ++ visit f (length path) 0 ∷ [])
stands_met rs ss path pieces vs f new r s =
    let n = length path in
    let u = visit f n 0 in
    record {
      on_path = λ g p e. elim (was ss f g (OnPath n) (OnPath p) new e) [
        | inl x ↦ let y : OnPath p ≡ OnPath n = x.1 in let z : p ≡ n = cc in subst (λ m. slice_get (path ++ f ∷ []) m ≡ Some g) (sym z) (at_end path f ∙ ap Some (sym x.0))
        | inr x ↦ at_more path (f ∷ []) p g (s.on_path g p x)
      ];
      stands = λ g p e. elim (at_push path f p g e) [
        | inl x ↦ stays ss f g (OnPath n) (OnPath p) new (λ y. cc) (s.stands g p x)
        | inr x ↦ subst (λ m. slice_get (set ss f (OnPath n)) m ≡ Some (OnPath p)) (sym x.1) (at_same ss f New (OnPath n) new ∙ ap (λ m. Some (OnPath m)) (sym x.0))
      ];
      joined = joined_met rs ss path pieces vs f s r;
      opens = λ p i. elim (in_push pieces n p i) [
        | inl x ↦ let o = s.opens p x in (o.0, in_more vs (u ∷ []) o.0 o.1, o.2)
        | inr x ↦ (u, in_end vs u, sym x)
      ];
      visited = λ v i. elim (in_push vs u v i) [
        | inl x ↦ at_more path (f ∷ []) v.place v.function (s.visited v x)
        | inr x ↦ subst (λ (w : Visit). slice_get (path ++ f ∷ []) w.place ≡ Some w.function) (sym x) (at_end path f)
      ];
      visits_rise = visits_rise_push vs u s.visits_rise (visit_within rs ss path pieces vs s);
      pieces_rise = rise_push pieces n s.pieces_rise (piece_within rs ss path pieces vs s);
      first = λ l. elim (cases_lt 0 n) [
        | inl h ↦ in_more pieces (n ∷ []) 0 (s.first h)
        | inr h ↦ let e : n ≡ 0 = omega arith in subst (λ m. In m (pieces ++ n ∷ [])) e (in_end pieces n)
      ];
    }

settles_met : (ss : List Standing) (pieces : List ℕ) (f n p b : ℕ) → IsNew ss f → p < n → (o : Option Standing) → slice_get ss b ≡ o → Settles pieces p o → Settles (pieces ++ n ∷ []) p (slice_get (set ss f (OnPath n)) b)
settles_met ss pieces f n p b new l None e h =
    subst (Settles (pieces ++ n ∷ []) p) (sym (at_other ss f b (OnPath n) (λ x. let y : Some New ≡ None = sym new ∙ (ap (slice_get ss) (sym x) ∙ e) in cc) ∙ e)) tt
settles_met ss pieces f n p b new l (Some New) e h = absurd h
settles_met ss pieces f n p b new l (Some (OnPath q)) e h =
    subst (Settles (pieces ++ n ∷ []) p) (sym (stays ss f b (OnPath n) (OnPath q) new (λ y. cc) e))
    (λ z i m. elim (in_push pieces n z i) [ inl x ↦ h z x m | inr x ↦ absurd (omega arith) ])
settles_met ss pieces f n p b new l (Some (Grouped g)) e h =
    subst (Settles (pieces ++ n ∷ []) p) (sym (stays ss f b (OnPath n) (Grouped g) new (λ y. cc) e)) tt

-- the first function of a path
pub followed_first :
    (rs : List (List Call)) (ss : List Standing) (path pieces : List ℕ) (f : ℕ) →
    ((p g : ℕ) → slice_get path p ≡ Some g → ⊥) →
    Followed rs ss (path ++ f ∷ []) pieces ([] ++ visit f (length path) 0 ∷ [])
followed_first rs ss path pieces f none p g j b k at_p at_j l = elim (at_push path f p g at_p) [
  | inl x ↦ absurd (none p g x)
  | inr x ↦ let e : p ≡ length path = x.0 in let m : j < 0 = l (visit f (length path) 0) (0, refl) (sym e) in absurd (omega arith)
]

-- a function that is called by the last one of the visits
pub followed_met :
    (rs : List (List Call)) (ss : List Standing) (path pieces : List ℕ) (vs : List Visit) (h p n f : ℕ) (w : Bool) →
    Stands rs ss path pieces (vs ++ visit h p n ∷ []) → Followed rs ss path pieces (vs ++ visit h p n ∷ []) →
    slice_get (calls_of rs h) n ≡ Some (call f w) → IsNew ss f →
    Followed rs (set ss f (OnPath (length path))) (path ++ f ∷ []) (pieces ++ length path ∷ []) ((vs ++ visit h p (suc n) ∷ []) ++ visit f (length path) 0 ∷ [])
followed_met rs ss path pieces vs h p n f w s d c new q g j a i at_q at_j l =
    let m = length path in
    let us = vs ++ visit h p (suc n) ∷ [] in
    elim (at_push path f q g at_q) [
      | inl gq ↦
          let less : q < m = slice_get_within path q g gq in
          let at_p : slice_get path p ≡ Some h = s.visited (visit h p n) (in_end vs (visit h p n)) in
          let rest : IsFollowed us q j = λ v x e. l v (in_more us (visit f m 0 ∷ []) v x) e in
          let settled = λ (y : (q ≡ p) → j < n). settles_met ss pieces f m q a new less (slice_get ss a) refl (d q g j a i gq at_j (followed_less vs h p n (suc n) q j rest y)) in
          elim (same_or_not q p) [
            | inr ne ↦ settled (λ e. absurd (ne e))
            | inl e ↦ elim (same_or_not j n) [
              | inr ne ↦
                  let below : j < suc n = rest (visit h p (suc n)) (in_end vs (visit h p (suc n))) (sym e) in
                  settled (λ e'. omega arith)
              | inl e' ↦
                  let same : g ≡ h = same_Some g h (sym gq ∙ (ap (slice_get path) e ∙ at_p)) in
                  let call_j : slice_get (calls_of rs h) n ≡ Some (call a i) = subst (λ x. slice_get (calls_of rs x) n ≡ Some (call a i)) same (subst (λ x. slice_get (calls_of rs g) x ≡ Some (call a i)) e' at_j) in
                  let callee : a ≡ f = ap (λ (x : Call). x.callee) (same_Some (call a i) (call f w) (sym call_j ∙ c)) in
                  subst (λ x. Settles (pieces ++ m ∷ []) q (slice_get (set ss f (OnPath m)) x)) (sym callee)
                  (subst (Settles (pieces ++ m ∷ []) q) (sym (at_same ss f New (OnPath m) new))
                  (λ z y k. omega arith))
            ]
          ]
      | inr gq ↦ let e : q ≡ m = gq.0 in let k : j < 0 = l (visit f m 0) (in_end us (visit f m 0)) (sym e) in absurd (omega arith)
    ]
