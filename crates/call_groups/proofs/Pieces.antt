-- The last piece becomes a group.
use Rattle.std.proofs.Common.{◌≡◌, ℕ, ◌+◌, ◌-◌, ◌<◌, ◌≤◌, List, [], ◌∷◌, ◌++◌, length, take, drop, arith}
use Rattle.std.proofs.Common.{refl, sym, ap, inl, inr, ◌∙◌, subst, length-append, length-drop, length-take}
use Rattle.std.specs.Prelude.{◌⊎◌, Option, Some, None, slice_get, Bool}
use Rattle.std.proofs.lemmas.Option.{none-some, same_Some, slice_get_within, slice_get-get_or}
use Rattle.std.proofs.lemmas.Bool.{cases_lt}
use Rattle.call_groups.specs.CallGraph.{In, calls_of, Calls, Reaches}
use Rattle.call_groups.specs.Search.{Found, Stands, Followed, Settles, visit, group_all}
use Rattle.call_groups.specs.declared.search.Call.{Call}
use Rattle.call_groups.specs.declared.search.Standing.{Standing}
use Rattle.call_groups.specs.declared.search.Standing.TheVariants.{New, OnPath, Grouped}
use Rattle.call_groups.specs.declared.search.Visit.{Visit}
use Rattle.call_groups.proofs.Lists.{at_more, at_end, at_append, at_second, at_take, at_kept, at_drop, in_push, in_end, in_more}
use Rattle.call_groups.proofs.Tops.{piece_place, last_place}
use Rattle.call_groups.proofs.Leaves.{after_in, after_out, back, in_place, rise_less, followed_left}

pub group_inj : (g h : ℕ) → Grouped g ≡ Grouped h → g ≡ h
group_inj g h e = cc

no_place : {P : Type 0} (g q : ℕ) (f : ℕ) (ss : List Standing) → slice_get ss f ≡ Some (Grouped g) → slice_get ss f ≡ Some (OnPath q) → P
no_place g q f ss a b = let e : Some (Grouped g) ≡ Some (OnPath q) = sym a ∙ b in cc

module _
    (rs : List (List Call)) (ss : List Standing) (path ps : List ℕ) (vs : List Visit) (f p n : ℕ)
    (s : Stands rs ss path (ps ++ p ∷ []) (vs ++ visit f p n ∷ [])) (g : ℕ)
  where
    ins : (a q : ℕ) → slice_get ss a ≡ Some (OnPath q) → p ≤ q → slice_get (group_all g (drop p path) ss) a ≡ Some (Grouped g)
    ins = after_in rs ss path (ps ++ p ∷ []) (vs ++ visit f p n ∷ []) s g p

    outs : (a : ℕ) (o : Option Standing) → slice_get ss a ≡ o → ((q : ℕ) → o ≡ Some (OnPath q) → q < p) → slice_get (group_all g (drop p path) ss) a ≡ o
    outs = after_out rs ss path (ps ++ p ∷ []) (vs ++ visit f p n ∷ []) s g p

    backs : (a : ℕ) (t : Standing) → slice_get (group_all g (drop p path) ss) a ≡ Some t →
        ((q : ℕ) × (p ≤ q) × (slice_get path q ≡ Some a) × (t ≡ Grouped g)) ⊎ ((slice_get ss a ≡ Some t) × ((q : ℕ) → t ≡ OnPath q → q < p))
    backs = back rs ss path (ps ++ p ∷ []) (vs ++ visit f p n ∷ []) s g p

    places : (a : ℕ) → In a (drop p path) → (q : ℕ) × (p ≤ q) × (slice_get path q ≡ Some a) × (slice_get ss a ≡ Some (OnPath q))
    places = in_place rs ss path (ps ++ p ∷ []) (vs ++ visit f p n ∷ []) s g p

    lower : (z : ℕ) → In z ps → z < p
    lower z i = s.pieces_rise i.0 (length ps) z p (slice_get_within ps i.0 z i.1) (at_more ps (p ∷ []) i.0 z i.1) (at_end ps p)

    pub grouped_stands : Stands rs (group_all g (drop p path) ss) (take p path) ps vs
    grouped_stands =
        record {
          on_path = λ a q e. elim (backs a (OnPath q) e) [
            | inl x ↦ absurd (let y : OnPath q ≡ Grouped g = x.3 in cc)
            | inr x ↦ at_kept p path q a (x.1 q refl) (s.on_path a q x.0)
          ];
          stands = λ a q e. let r = at_take p path q a e in
              outs a (Some (OnPath q)) (s.stands a q r.1) (λ y h. let z : q ≡ y = cc in let l : q < p = r.0 in omega arith);
          joined = λ x y a b at_x at_y h.
              let rx = at_take p path x a at_x in
              let ry = at_take p path y b at_y in
              let l : x < p = rx.0 in
              s.joined x y a b rx.1 ry.1 (λ z i m. elim (in_push ps p z i) [ inl k ↦ h z k m | inr k ↦ absurd (omega arith) ]);
          opens = λ z i.
              let o = s.opens z (in_more ps (p ∷ []) z i) in
              elim (in_push vs (visit f p n) o.0 o.1) [
                | inl x ↦ (o.0, x, o.2)
                | inr x ↦
                    let e : z ≡ p = sym o.2 ∙ ap (λ (w : Visit). w.place) x in
                    let l : z < p = lower z i in
                    absurd (omega arith)
              ];
          visited = λ w i.
              at_kept p path w.place w.function (last_place rs ss path (ps ++ p ∷ []) vs (visit f p n) s w i)
              (s.visited w (in_more vs (visit f p n ∷ []) w i));
          visits_rise = rise_less vs (visit f p n ∷ []) s.visits_rise;
          pieces_rise = λ i j x y l a b. s.pieces_rise i j x y l (at_more ps (p ∷ []) i x a) (at_more ps (p ∷ []) j y b);
          first = λ l. elim (in_push ps p 0 (s.first (omega (arith, length-take p path)))) [
            | inl x ↦ x
            | inr x ↦ absurd (omega (arith, length-take p path))
          ];
        }

    settles_grouped : (q b : ℕ) (o : Option Standing) → slice_get ss b ≡ o → Settles (ps ++ p ∷ []) q o → Settles ps q (slice_get (group_all g (drop p path) ss) b)
    settles_grouped q b None e h = subst (Settles ps q) (sym (outs b None e (λ y x. absurd (none-some (OnPath y) x)))) tt
    settles_grouped q b (Some New) e h = absurd h
    settles_grouped q b (Some (Grouped k)) e h = subst (Settles ps q) (sym (outs b (Some (Grouped k)) e (λ y x. cc))) tt
    settles_grouped q b (Some (OnPath r)) e h = elim (cases_lt r p) [
      | inl l ↦ subst (Settles ps q) (sym (outs b (Some (OnPath r)) e (λ y x. let z : r ≡ y = cc in omega arith))) (λ z i m. h z (in_more ps (p ∷ []) z i) m)
      | inr l ↦ subst (Settles ps q) (sym (ins b r e l)) tt
    ]

    pub grouped_followed : Followed rs ss path (ps ++ p ∷ []) (vs ++ visit f p n ∷ []) → Followed rs (group_all g (drop p path) ss) (take p path) ps vs
    grouped_followed d q a j b k at_q at_j l =
        let r = at_take p path q a at_q in
        let less : q < p = r.0 in
        settles_grouped q b (slice_get ss b) refl
        (d q a j b k r.1 at_j (λ v x e. elim (in_push vs (visit f p n) v x) [
          | inl y ↦ l v y e
          | inr y ↦ let same : v.place ≡ p = ap (λ (w : Visit). w.place) y in absurd (omega arith)
        ]))

    -- all calls of the functions of the piece were followed
    all_settled : Followed rs ss path (ps ++ p ∷ []) (vs ++ visit f p n ∷ []) → length (calls_of rs f) ≤ n → (q a b : ℕ) (k : Bool) → p ≤ q → slice_get path q ≡ Some a → Calls rs a b k → Settles (ps ++ p ∷ []) q (slice_get ss b)
    all_settled d m q a b k l at_q c =
        followed_left rs ss path (ps ++ p ∷ []) vs f p n s d m q a c.0 b k at_q c.1
        (λ v x e. let less : v.place < p = last_place rs ss path (ps ++ p ∷ []) vs (visit f p n) s v x in absurd (omega arith))

    closed_by : (order : List ℕ) → g ≡ length order → Found rs ss order → (q b : ℕ) → p ≤ q → b < length ss → (o : Option Standing) → slice_get ss b ≡ o → Settles (ps ++ p ∷ []) q o →
        (h : ℕ) × (slice_get (group_all g (drop p path) ss) b ≡ Some (Grouped h)) × (h ≤ g)
    closed_by order size found q b l m None e h = absurd (none-some _ (sym e ∙ slice_get-get_or ss b New m))
    closed_by order size found q b l m (Some New) e h = absurd h
    closed_by order size found q b l m (Some (OnPath r)) e h = (g, ins b r e (let z : p ≤ r = h p (in_end ps p) l in z), omega arith)
    closed_by order size found q b l m (Some (Grouped k)) e h =
        let less : k < length order = found.below b k e in
        (k, outs b (Some (Grouped k)) e (λ y x. cc), omega arith)

    module _ (order : List ℕ) (size : g ≡ length order) (found : Found rs ss order) where
      new_or_old : (i a : ℕ) → slice_get (order ++ drop p path) i ≡ Some a → ((i < length order) × (slice_get order i ≡ Some a)) ⊎ ((length order ≤ i) × In a (drop p path))
      new_or_old i a h = elim (at_append order (drop p path) i a h) [
        | inl x ↦ inl (slice_get_within order i a x, x)
        | inr x ↦ let e : i ≡ length order + x.0 = x.1 in inr (omega arith, (x.0, x.2))
      ]

      sorted_by : (i j a b k h : ℕ) → i ≤ j → slice_get (order ++ drop p path) i ≡ Some a → slice_get (order ++ drop p path) j ≡ Some b →
          slice_get (group_all g (drop p path) ss) a ≡ Some (Grouped k) → slice_get (group_all g (drop p path) ss) b ≡ Some (Grouped h) → k ≤ h
      sorted_by i j a b k h l at_i at_j ga gb =
          elim (new_or_old i a at_i) [
            | inl oa ↦
                let oldA = found.ordered a (i, oa.1) in
                let same : k ≡ oldA.0 = group_inj k oldA.0 (same_Some (Grouped k) (Grouped oldA.0) (sym ga ∙ outs a (Some (Grouped oldA.0)) oldA.1 (λ y x. cc))) in
                let small : oldA.0 < length order = found.below a oldA.0 oldA.1 in
                elim (new_or_old j b at_j) [
                  | inl ob ↦
                      let oldB = found.ordered b (j, ob.1) in
                      let same' : h ≡ oldB.0 = group_inj h oldB.0 (same_Some (Grouped h) (Grouped oldB.0) (sym gb ∙ outs b (Some (Grouped oldB.0)) oldB.1 (λ y x. cc))) in
                      let r : oldA.0 ≤ oldB.0 = found.sorted i j a b oldA.0 oldB.0 l oa.1 ob.1 oldA.1 oldB.1 in
                      omega arith
                  | inr nb ↦
                      let w = places b nb.1 in
                      let same' : h ≡ g = group_inj h g (same_Some (Grouped h) (Grouped g) (sym gb ∙ ins b w.0 w.3 w.1)) in
                      omega arith
                ]
            | inr na ↦
                let v = places a na.1 in
                let same : k ≡ g = group_inj k g (same_Some (Grouped k) (Grouped g) (sym ga ∙ ins a v.0 v.3 v.1)) in
                elim (new_or_old j b at_j) [
                  | inl ob ↦ let x : j < length order = ob.0 in let y : length order ≤ i = na.0 in absurd (omega arith)
                  | inr nb ↦
                      let w = places b nb.1 in
                      let same' : h ≡ g = group_inj h g (same_Some (Grouped h) (Grouped g) (sym gb ∙ ins b w.0 w.3 w.1)) in
                      omega arith
                ]
          ]

      together_by : (a b h : ℕ) → slice_get (group_all g (drop p path) ss) a ≡ Some (Grouped h) → slice_get (group_all g (drop p path) ss) b ≡ Some (Grouped h) → Reaches rs a b
      together_by a b h ga gb =
          elim (backs a (Grouped h) ga) [
            | inl x ↦ elim (backs b (Grouped h) gb) [
              | inl y ↦
                  let l : p ≤ y.0 = y.1 in
                  s.joined x.0 y.0 a b x.2 y.2 (λ z i m. let k : z ≤ p = piece_place rs ss path (ps ++ p ∷ []) vs (visit f p n) s z i in omega arith)
              | inr y ↦
                  let e : h ≡ g = group_inj h g x.3 in
                  let l : h < length order = found.below b h y.0 in
                  absurd (omega arith)
            ]
            | inr x ↦ elim (backs b (Grouped h) gb) [
              | inl y ↦
                  let e : h ≡ g = group_inj h g y.3 in
                  let l : h < length order = found.below a h x.0 in
                  absurd (omega arith)
              | inr y ↦ found.together a b h x.0 y.0
            ]
          ]

      pub grouped_found : length ss ≡ length rs → Followed rs ss path (ps ++ p ∷ []) (vs ++ visit f p n ∷ []) → length (calls_of rs f) ≤ n → Found rs (group_all g (drop p path) ss) (order ++ drop p path)
      grouped_found len d m =
          record {
            closed = λ a h b k e c l. elim (backs a (Grouped h) e) [
              | inl x ↦
                  let r = closed_by order size found x.0 b x.1 (omega arith) (slice_get ss b) refl (all_settled d m x.0 a b k x.1 x.2 c) in
                  (r.0, r.1, subst (λ y. r.0 ≤ y) (sym (group_inj h g x.3)) r.2)
              | inr x ↦
                  let r = found.closed a h b k x.0 c l in
                  (r.0, outs b (Some (Grouped r.0)) r.1 (λ y z. cc), r.2)
            ];
            together = together_by;
            below = λ a h e. elim (backs a (Grouped h) e) [
              | inl x ↦
                  let same : h ≡ g = group_inj h g x.3 in
                  let w : x.0 < length path = slice_get_within path x.0 a x.2 in
                  let l : p ≤ x.0 = x.1 in
                  omega (arith, length-append order (drop p path), length-drop p path)
              | inr x ↦ let l : h < length order = found.below a h x.0 in omega (arith, length-append order (drop p path))
            ];
            listed = λ a h e. elim (backs a (Grouped h) e) [
              | inl x ↦
                  let l : p ≤ x.0 = x.1 in
                  let m' : p + (x.0 - p) ≡ x.0 = omega arith in
                  (length order + (x.0 - p), at_second order (drop p path) (x.0 - p) a (at_drop p path (x.0 - p) ∙ (ap (slice_get path) m' ∙ x.2)))
              | inr x ↦ in_more order (drop p path) a (found.listed a h x.0)
            ];
            ordered = λ a i. elim (new_or_old i.0 a i.1) [
              | inl x ↦ let r = found.ordered a (i.0, x.1) in (r.0, outs a (Some (Grouped r.0)) r.1 (λ y z. cc))
              | inr x ↦ let w = places a x.1 in (g, ins a w.0 w.3 w.1)
            ];
            sorted = sorted_by;
          }
