-- Each step of the search keeps what is known of it.
use Rattle.std.proofs.Common.{◌≡◌, ◌≢◌, ℕ, zero, suc, ◌+◌, ◌<◌, ◌≤◌, List, [], ◌∷◌, ◌++◌, length, take, drop, set, arith}
use Rattle.std.proofs.Common.{refl, sym, ap, inl, inr, ◌∙◌, subst, length-append, length-drop, length-take, length-set, replicate, get_or}
use Rattle.std.specs.Prelude.{◌⊎◌, Some, slice_get, Bool}
use Rattle.std.proofs.lemmas.Option.{none-some, same_Some, slice_get_within, slice_get_past, slice_get-get_or}
use Rattle.std.proofs.lemmas.Bool.{cases_lt}
use Rattle.std.proofs.lemmas.List.{length-replicate}
use Rattle.call_groups.specs.CallGraph.{In, call, calls_of, Calls, Path, Reaches, SameGroup, number_by, group_number, IsPartition}
use Rattle.call_groups.specs.Search.{Found, Stands, Followed, IsNew, Settles, Rises, Joined, visit, group_all, Sound, unmet, Cuts}
use Rattle.call_groups.specs.declared.search.Call.{Call}
use Rattle.call_groups.specs.declared.search.Partition.{Partition}
use Rattle.call_groups.specs.declared.search.Standing.{Standing}
use Rattle.call_groups.specs.declared.search.Standing.TheVariants.{New, OnPath, Grouped}
use Rattle.call_groups.specs.declared.search.Visit.{Visit}
use Rattle.call_groups.proofs.Lists.{at_take, at_kept, in_end, in_none}
use Rattle.call_groups.proofs.Paths.{joins, one_call, reaches_past, itself, no_calls}
use Rattle.call_groups.proofs.Tops.{piece_place, stands_again, followed_one}
use Rattle.call_groups.proofs.Joins.{keeps_low, followed_joined, stands_joined}
use Rattle.call_groups.proofs.Meets.{found_met, stands_met, followed_first, followed_met}
use Rattle.call_groups.proofs.Leaves.{followed_left, stands_left, no_piece, group_size}
use Rattle.call_groups.proofs.Pieces.{grouped_stands, grouped_followed, grouped_found}
use Rattle.call_groups.proofs.Unmet.{unmet_met, unmet_put}

-- where nothing is visited, the path is empty
pub empty : (rs : List (List Call)) (ss : List Standing) (path pieces : List ℕ) → Stands rs ss path pieces [] → (p g : ℕ) → slice_get path p ≡ Some g → ⊥
empty rs ss path pieces s p g h =
    let l : p < length path = slice_get_within path p g h in
    let o = s.opens 0 (s.first (omega arith)) in
    in_none o.0 o.1

pub whole_first :
    (rs : List (List Call)) (ss : List Standing) (path pieces order : List ℕ) (f : ℕ) →
    Sound rs ss path pieces [] order → IsNew ss f →
    Sound rs (set ss f (OnPath (length path))) (path ++ f ∷ []) (pieces ++ length path ∷ []) ([] ++ visit f (length path) 0 ∷ []) order
whole_first rs ss path pieces order f s new =
    let none = empty rs ss path pieces s.stands in
    let less : unmet (set ss f (OnPath (length path))) < unmet ss = unmet_met ss f (OnPath (length path)) new refl in
    let room : unmet ss + length path + length order ≤ length rs = s.room in
    record {
      size = simp length-set s.size;
      room = omega (arith, length-append path (f ∷ []));
      found = found_met rs ss order f (length path) new s.found;
      stands = stands_met rs ss path pieces [] f new (λ p g h. absurd (none p g h)) s.stands;
      followed = followed_first rs (set ss f (OnPath (length path))) path (pieces ++ length path ∷ []) f none;
    }

pub whole_met :
    (rs : List (List Call)) (ss : List Standing) (path pieces : List ℕ) (vs : List Visit) (order : List ℕ) (h p n f : ℕ) (w : Bool) →
    Sound rs ss path pieces (vs ++ visit h p n ∷ []) order → slice_get (calls_of rs h) n ≡ Some (call f w) → IsNew ss f →
    Sound rs (set ss f (OnPath (length path))) (path ++ f ∷ []) (pieces ++ length path ∷ [])
    ((vs ++ visit h p (n + 1) ∷ []) ++ visit f (length path) 0 ∷ []) order
whole_met rs ss path pieces vs order h p n f w s c new =
    let less : unmet (set ss f (OnPath (length path))) < unmet ss = unmet_met ss f (OnPath (length path)) new refl in
    let room : unmet ss + length path + length order ≤ length rs = s.room in
    let here : slice_get path p ≡ Some h = s.stands.visited (visit h p n) (in_end vs (visit h p n)) in
    let step : suc n ≡ n + 1 = omega arith in
    record {
      size = simp length-set s.size;
      room = omega (arith, length-append path (f ∷ []));
      found = found_met rs ss order f (length path) new s.found;
      stands =
          stands_met rs ss path pieces (vs ++ visit h p (n + 1) ∷ []) f new
          (λ q g at_q. joins rs g h f (s.stands.joined q p g h at_q here (λ z i m. piece_place rs ss path pieces vs (visit h p n) s.stands z i)) (one_call rs h f w (n, c)))
          (stands_again rs ss path pieces vs h p n (n + 1) s.stands);
      followed =
          subst (λ m. Followed rs (set ss f (OnPath (length path))) (path ++ f ∷ []) (pieces ++ length path ∷ []) ((vs ++ visit h p m ∷ []) ++ visit f (length path) 0 ∷ []))
          step (followed_met rs ss path pieces vs h p n f w s.stands s.followed c new);
    }

pub whole_skip :
    (rs : List (List Call)) (ss : List Standing) (path pieces : List ℕ) (vs : List Visit) (order : List ℕ) (f p n b : ℕ) (k : Bool) →
    Sound rs ss path pieces (vs ++ visit f p n ∷ []) order → slice_get (calls_of rs f) n ≡ Some (call b k) →
    Settles pieces p (slice_get ss b) → Sound rs ss path pieces (vs ++ visit f p (n + 1) ∷ []) order
whole_skip rs ss path pieces vs order f p n b k s c d =
    let step : suc n ≡ n + 1 = omega arith in
    record {
      size = s.size;
      room = s.room;
      found = s.found;
      stands = stands_again rs ss path pieces vs f p n (n + 1) s.stands;
      followed = subst (λ m. Followed rs ss path pieces (vs ++ visit f p m ∷ [])) step (followed_one rs ss path pieces vs f p n b k s.stands s.followed c d);
    }

pub whole_join :
    (rs : List (List Call)) (ss : List Standing) (path old new : List ℕ) (vs : List Visit) (order : List ℕ) (f p n b : ℕ) (k : Bool) (q : ℕ) →
    Sound rs ss path old (vs ++ visit f p n ∷ []) order → slice_get (calls_of rs f) n ≡ Some (call b k) →
    slice_get ss b ≡ Some (OnPath q) → Joined old new q → Sound rs ss path new (vs ++ visit f p (n + 1) ∷ []) order
whole_join rs ss path old new vs order f p n b k q s c at j =
    let stands = stands_joined rs ss path old new vs f p n b q s.stands (s.stands.on_path b q at) (one_call rs f b k (n, c)) j in
    whole_skip rs ss path new vs order f p n b k
    (record {
      size = s.size;
      room = s.room;
      found = s.found;
      stands = stands;
      followed = followed_joined rs ss path old new (vs ++ visit f p n ∷ []) q j s.followed;
    })
    c (subst (Settles new p) (sym at) (keeps_low old new q p j))

pub snoc : (xs : List ℕ) → (xs ≡ []) ⊎ ((ys : List ℕ) × (y : ℕ) × (xs ≡ ys ++ y ∷ []))
snoc [] = inl refl
snoc (x ∷ xs) = elim (snoc xs) [
  | inl e ↦ inr ([], x, ap (λ zs. x ∷ zs) e)
  | inr e ↦ inr (x ∷ e.0, e.1, ap (λ zs. x ∷ zs) e.2)
]

pub whole_left :
    (rs : List (List Call)) (ss : List Standing) (path pieces : List ℕ) (vs : List Visit) (order : List ℕ) (f p n : ℕ) →
    Sound rs ss path pieces (vs ++ visit f p n ∷ []) order → length (calls_of rs f) ≤ n →
    ((ps : List ℕ) (s : ℕ) → pieces ≡ ps ++ s ∷ [] → s ≢ p) → Sound rs ss path pieces vs order
whole_left rs ss path pieces vs order f p n s l other =
    record {
      size = s.size;
      room = s.room;
      found = s.found;
      stands = stands_left rs ss path pieces vs (visit f p n) s.stands (λ i. elim (snoc pieces) [
        | inl e ↦ in_none p (subst (In p) e i)
        | inr e ↦
            no_piece rs ss path e.0 e.1 vs (visit f p n)
            (subst (λ ps. Stands rs ss path ps (vs ++ visit f p n ∷ [])) e.2 s.stands) (other e.0 e.1 e.2) (subst (In p) e.2 i)
      ]);
      followed = followed_left rs ss path pieces vs f p n s.stands s.followed l;
    }

pub unmet_group : (g : ℕ) (fs : List ℕ) (ss : List Standing) → unmet (group_all g fs ss) ≤ unmet ss
unmet_group g [] ss = omega arith
unmet_group g (x ∷ fs) ss =
    let a : unmet (group_all g fs (set ss x (Grouped g))) ≤ unmet (set ss x (Grouped g)) = unmet_group g fs (set ss x (Grouped g)) in
    let b : unmet (set ss x (Grouped g)) ≤ unmet ss = unmet_put ss x (Grouped g) refl in
    omega arith

pub whole_grouped :
    (rs : List (List Call)) (ss : List Standing) (path ps : List ℕ) (vs : List Visit) (order : List ℕ) (f p n : ℕ) →
    Sound rs ss path (ps ++ p ∷ []) (vs ++ visit f p n ∷ []) order → length (calls_of rs f) ≤ n →
    Sound rs (group_all (length order) (drop p path) ss) (take p path) ps vs (order ++ drop p path)
whole_grouped rs ss path ps vs order f p n s l =
    let room : unmet ss + length path + length order ≤ length rs = s.room in
    let less : unmet (group_all (length order) (drop p path) ss) ≤ unmet ss = unmet_group (length order) (drop p path) ss in
    record {
      size = group_size (length order) (drop p path) ss ∙ s.size;
      room = omega (arith, length-append order (drop p path), length-drop p path, length-take p path);
      found = grouped_found rs ss path ps vs f p n s.stands (length order) order refl s.found s.size s.followed l;
      stands = grouped_stands rs ss path ps vs f p n s.stands (length order);
      followed = grouped_followed rs ss path ps vs f p n s.stands (length order) s.followed;
    }

-- ---- where the search begins

unmet_start : (n : ℕ) → unmet (replicate n New) ≤ n
unmet_start zero = omega arith
unmet_start (suc n) = let h : unmet (replicate n New) ≤ n = unmet_start n in omega arith

start_new : (n f : ℕ) (s : Standing) → slice_get (replicate n New) f ≡ Some s → s ≡ New
start_new zero f s h = absurd (none-some s h)
start_new (suc n) zero s h = sym (same_Some New s h)
start_new (suc n) (suc f) s h = start_new n f s h

not_grouped : {P : Type 0} (n a g : ℕ) → slice_get (replicate n New) a ≡ Some (Grouped g) → P
not_grouped n a g h = let e : Grouped g ≡ New = start_new n a (Grouped g) h in cc

pub whole_start : (rs : List (List Call)) (n : ℕ) → n ≡ length rs → Sound rs (replicate n New) [] [] [] []
whole_start rs n size =
    let few : unmet (replicate n New) ≤ n = unmet_start n in
    record {
      size = simp length-replicate size;
      room = omega arith;
      found = record {
        closed = λ a g b k h c l. not_grouped n a g h;
        together = λ a b g h i. not_grouped n a g h;
        below = λ a g h. not_grouped n a g h;
        listed = λ a g h. not_grouped n a g h;
        ordered = λ a i. absurd (in_none a i);
        sorted = λ i j a b g h l p q r s. not_grouped n a g r;
      };
      stands = record {
        on_path = λ f p h. let e : OnPath p ≡ New = start_new n f (OnPath p) h in cc;
        stands = λ f p h. absurd (none-some f h);
        joined = λ p q f g h i k. absurd (none-some f h);
        opens = λ s i. absurd (in_none s i);
        visited = λ v i. absurd (in_none v i);
        visits_rise = λ i j v w l h k. absurd (none-some v h);
        pieces_rise = λ i j x y l h k. absurd (none-some x h);
        first = λ l. absurd (omega arith);
      };
      followed = λ p f j b k h i l. absurd (none-some f h);
    }

-- ---- and where it ends

module _ (rs : List (List Call)) (p : Partition) (found : Found rs p.standings.items p.order.items) (size : length p.standings.items ≡ length rs)
    (room : length p.order.items ≤ length rs) (all : (f : ℕ) → f < length rs → (g : ℕ) × (slice_get p.standings.items f ≡ Some (Grouped g)))
  where
    number_in : (a g : ℕ) → slice_get p.standings.items a ≡ Some (Grouped g) → group_number p a ≡ g
    number_in a g h = ap (λ o. number_by o a) h

    number_out : (a : ℕ) → length rs ≤ a → group_number p a ≡ a
    number_out a l = ap (λ o. number_by o a) (slice_get_past p.standings.items a (omega arith))

    number_within : (a : ℕ) → a < length rs → group_number p a < length rs
    number_within a l =
        let g = all a l in
        let e : group_number p a ≡ g.0 = number_in a g.0 g.1 in
        let b : g.0 < length p.order.items = found.below a g.0 g.1 in
        omega arith

    number_falls : (a b : ℕ) (k : Bool) → a < length rs → b < length rs → Calls rs a b k → group_number p b ≤ group_number p a
    number_falls a b k la lb c =
        let g = all a la in
        let h = found.closed a g.0 b k g.1 c lb in
        let e : group_number p a ≡ g.0 = number_in a g.0 g.1 in
        let d : group_number p b ≡ h.0 = number_in b h.0 h.1 in
        let l : h.0 ≤ g.0 = h.2 in
        omega arith

    path_falls : (n a b : ℕ) → a < length rs → b < length rs → Path rs n a b → group_number p b ≤ group_number p a
    path_falls zero a b la lb h = let e : group_number p a ≡ group_number p b = ap (group_number p) h in omega arith
    path_falls (suc n) a b la lb h = elim (cases_lt h.0 (length rs)) [
      | inl l ↦
          let x : group_number p b ≤ group_number p h.0 = path_falls n h.0 b l lb h.2 in
          let y : group_number p h.0 ≤ group_number p a = number_falls a h.0 h.1.0 la l h.1.1 in
          omega arith
      | inr l ↦ let e : h.0 ≡ b = reaches_past rs h.0 b l (n, h.2) in absurd (omega arith)
    ]

    same_to : (a b : ℕ) → group_number p a ≡ group_number p b → SameGroup rs a b
    same_to a b e = elim (cases_lt a (length rs)) [
      | inl la ↦ elim (cases_lt b (length rs)) [
        | inl lb ↦
            let g = all a la in
            let h = all b lb in
            let same : h.0 ≡ g.0 = sym (number_in b h.0 h.1) ∙ (sym e ∙ number_in a g.0 g.1) in
            let at_b : slice_get p.standings.items b ≡ Some (Grouped g.0) = h.1 ∙ ap (λ x. Some (Grouped x)) same in
            (found.together a b g.0 g.1 at_b, found.together b a g.0 at_b g.1)
        | inr lb ↦
            let x : group_number p a < length rs = number_within a la in
            let y : group_number p b ≡ b = number_out b lb in
            absurd (omega arith)
      ]
      | inr la ↦ elim (cases_lt b (length rs)) [
        | inl lb ↦
            let x : group_number p b < length rs = number_within b lb in
            let y : group_number p a ≡ a = number_out a la in
            absurd (omega arith)
        | inr lb ↦
            let same : a ≡ b = sym (number_out a la) ∙ (e ∙ number_out b lb) in
            (subst (λ x. Reaches rs a x) same (itself rs a), subst (λ x. Reaches rs x a) same (itself rs a))
      ]
    ]

    same_from : (a b : ℕ) → SameGroup rs a b → group_number p a ≡ group_number p b
    same_from a b h = elim (cases_lt a (length rs)) [
      | inl la ↦ elim (cases_lt b (length rs)) [
        | inl lb ↦
            let x : group_number p b ≤ group_number p a = path_falls h.0.0 a b la lb h.0.1 in
            let y : group_number p a ≤ group_number p b = path_falls h.1.0 b a lb la h.1.1 in
            omega arith
        | inr lb ↦ sym (ap (group_number p) (reaches_past rs b a lb h.1))
      ]
      | inr la ↦ ap (group_number p) (reaches_past rs a b la h.0)
    ]

    grouped_all : IsPartition rs p
    grouped_all =
        record {
          same = λ a b. (same_to a b, same_from a b);
          falls = λ a b k c l. elim (cases_lt a (length rs)) [
            | inl la ↦ number_falls a b k la l c
            | inr la ↦ absurd (no_calls rs a b k la c)
          ];
          within = number_within;
          listed = λ a l. let g = all a l in found.listed a g.0 g.1;
          there = λ a i.
              let g = found.ordered a i in
              let l : a < length p.standings.items = slice_get_within p.standings.items a (Grouped g.0) g.1 in
              omega arith;
          in_order = λ i j a b l at_i at_j.
              let g = found.ordered a (i, at_i) in
              let h = found.ordered b (j, at_j) in
              let x : group_number p a ≡ g.0 = number_in a g.0 g.1 in
              let y : group_number p b ≡ h.0 = number_in b h.0 h.1 in
              let z : g.0 ≤ h.0 = found.sorted i j a b g.0 h.0 l at_i at_j g.1 h.1 in
              omega arith;
        }

-- where all was met and nothing is visited, each function is in a group
standing_is : (rs : List (List Call)) (ss : List Standing) (path pieces : List ℕ) (f : ℕ) → Stands rs ss path pieces [] → (IsNew ss f → ⊥) → (s : Standing) → slice_get ss f ≡ Some s → (g : ℕ) × (slice_get ss f ≡ Some (Grouped g))
standing_is rs ss path pieces f h none New e = absurd (none e)
standing_is rs ss path pieces f h none (OnPath q) e = absurd (empty rs ss path pieces h q f (h.on_path f q e))
standing_is rs ss path pieces f h none (Grouped g) e = (g, e)

pub whole_end :
    (rs : List (List Call)) (p : Partition) (path pieces : List ℕ) →
    Sound rs p.standings.items path pieces [] p.order.items →
    ((f : ℕ) → f < length rs → IsNew p.standings.items f → ⊥) → IsPartition rs p
whole_end rs p path pieces s met =
    let room : unmet p.standings.items + length path + length p.order.items ≤ length rs = s.room in
    let size : length p.standings.items ≡ length rs = s.size in
    grouped_all rs p s.found s.size (omega arith)
    (λ f l. standing_is rs p.standings.items path pieces f s.stands (met f l) (get_or p.standings.items f New)
    (slice_get-get_or p.standings.items f New (omega arith)))

-- the pieces up to a place of them
pub joined_take : (old : List ℕ) (q n : ℕ) → Rises old → Cuts old q n → Joined old (take n old) q
joined_take old q n r c =
    record {
      some = λ s i. (i.0, (at_take n old i.0 s i.1).1);
      kept = λ s i l. elim (cases_lt i.0 n) [
        | inl m ↦ (i.0, at_kept n old i.0 s m i.1)
        | inr m ↦ let h : q < s = c.high i.0 s m i.1 in absurd (omega arith)
      ];
      low = λ s i. let t = at_take n old i.0 s i.1 in c.low i.0 s t.0 t.1;
      rise = λ h i j x y l a b. h i j x y l (at_take n old i x a).1 (at_take n old j y b).1;
    }

-- a place that cuts: what is before it is no greater than the element in front of it
pub cuts_at : (pieces : List ℕ) (q n s : ℕ) → Rises pieces → slice_get pieces n ≡ Some s → s ≤ q → ((i x : ℕ) → n + 1 ≤ i → slice_get pieces i ≡ Some x → q < x) → Cuts pieces q (n + 1)
cuts_at pieces q n s r at l h =
    let w : n < length pieces = slice_get_within pieces n s at in
    record {
      within = omega arith;
      low = λ i x m e. elim (cases_lt i n) [
        | inl k ↦ let y : x < s = r i n x s k e at in omega arith
        | inr k ↦ let same : i ≡ n = omega arith in let y : x ≡ s = same_Some x s (sym e ∙ (ap (slice_get pieces) same ∙ at)) in omega arith
      ];
      high = h;
    }
