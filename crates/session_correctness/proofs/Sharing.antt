-- How the cells of what names hold, and of what a line's values are, are shared out to a call: those of its arguments,
-- those that are kept, and those that are held after it.
use Rattle.std.proofs.Common.{◌≡◌, ◌⊎◌, inl, inr, ◌∙◌, ℕ, ◌+◌, ◌<◌, Bool, true, false, List, [], ◌∷◌, ◌++◌, Some, None, if◌then◌else◌, refl, sym, ap, subst, append-nil, arith, true≢false, ◌&&◌, not}
use Rattle.std.proofs.lemmas.Option.{none-some, same_Some}
use Rattle.std.proofs.lemmas.Slice.Eq.{bytes_eq-Decides}
use Rattle.tree_refinement.specs.fip_base.declared.plain.Param.{Param}
use Rattle.tree_refinement.specs.fip_language.Core.{Name}
use Rattle.tree_refinement.specs.fip_language.Declarations.{same_name}
use Rattle.tree_refinement.specs.fip_language.Every.{times, one_if_named}
use Rattle.tree_refinement.specs.fip_language.Store.{Placed, PlacedInt, Bare, At, Parts, NoParts, MoreParts, places, places_of_all, uses, uses_of_all, one_at, count}
use Rattle.tree_refinement.specs.fip_language.Table.{Table, is_scalar}
use Rattle.tree_refinement.proofs.separation.Loading.{is_lent_tree}
use Rattle.session_semantics.specs.Lines.{Given, Held, Fresh}
use Rattle.session_semantics.specs.Talk.{named_by, used_by}
use Rattle.session_correctness.specs.Leaving.{lent_uses}
use Rattle.session_correctness.specs.Lodging.{Lodged, lodged_as, but, but_all, AreDistinct, lodged_uses, lodged_places, IsTree, AreTrees, named_by_all, fresh_in, fresh_uses, lent_fresh_uses, named_in, used_uses, AreBare}
pub use Rattle.tree_refinement.proofs.tree_semantics.machine_semantics.cell_code.fip_base.fip_language.Facts.{if_false, if_true, true_or_false as bool_or}

-- ---- names

pub name_same : (m n : Name) → same_name m n ≡ true → m ≡ n
name_same m n e = (bytes_eq-Decides m n).0 e

pub name_itself : (m n : Name) → m ≡ n → same_name m n ≡ true
name_itself m n e = (bytes_eq-Decides m n).1 e

-- two names that are the same to a third
name_turns : (m n k : Name) → same_name m k ≡ true → same_name n k ≡ same_name n m
name_turns m n k e = ap (same_name n) (sym (name_same m k e))

-- ---- without a name

lodged_but : (m n : Name) (ls : List Lodged) → same_name m n ≡ false → lodged_as m (but n ls) ≡ lodged_as m ls
lodged_but m n [] off = refl
lodged_but m n (l ∷ ls) off = elim (bool_or (same_name n l.name)) as (λ v. lodged_as m (but n (l ∷ ls)) ≡ lodged_as m (l ∷ ls)) [
  | inl e ↦
      let away : same_name m l.name ≡ false = name_turns n m l.name e ∙ off in
      ap (lodged_as m) (if_true (same_name n l.name) (but n ls) (l ∷ but n ls) e) ∙ lodged_but m n ls off ∙ sym (if_false (same_name m l.name) (Some l) (lodged_as m ls) away)
  | inr e ↦ ap (lodged_as m) (if_false (same_name n l.name) (but n ls) (l ∷ but n ls) e) ∙ ap (λ o. if same_name m l.name then Some l else o) (lodged_but m n ls off)
]

pub none_but : (m n : Name) (ls : List Lodged) → lodged_as m ls ≡ None → lodged_as m (but n ls) ≡ None
none_but m n [] h = refl
none_but m n (l ∷ ls) h = elim (bool_or (same_name m l.name)) as (λ v. lodged_as m (but n (l ∷ ls)) ≡ None) [
  | inl e ↦ absurd (none-some l (sym h ∙ if_true (same_name m l.name) (Some l) (lodged_as m ls) e))
  | inr off ↦
      let rest : lodged_as m ls ≡ None = sym (if_false (same_name m l.name) (Some l) (lodged_as m ls) off) ∙ h in
      elim (bool_or (same_name n l.name)) as (λ v. lodged_as m (but n (l ∷ ls)) ≡ None) [
        | inl e ↦ ap (lodged_as m) (if_true (same_name n l.name) (but n ls) (l ∷ but n ls) e) ∙ none_but m n ls rest
        | inr e ↦ ap (lodged_as m) (if_false (same_name n l.name) (but n ls) (l ∷ but n ls) e) ∙ if_false (same_name m l.name) (Some l) (lodged_as m (but n ls)) off ∙ none_but m n ls rest
      ]
]

pub distinct_but : (n : Name) (ls : List Lodged) → AreDistinct ls → AreDistinct (but n ls)
distinct_but n [] d = tt
distinct_but n (l ∷ ls) d = by (same_name n l.name) (distinct_but n ls d.1)
  where
    by : (b : Bool) → AreDistinct (but n ls) → AreDistinct (if b then but n ls else l ∷ but n ls)
    by true rest = rest
    by false rest = (none_but l.name n ls d.0, rest)

but_none : (n : Name) (ls : List Lodged) → lodged_as n ls ≡ None → but n ls ≡ ls
but_none n [] h = refl
but_none n (l ∷ ls) h = elim (bool_or (same_name n l.name)) as (λ v. but n (l ∷ ls) ≡ l ∷ ls) [
  | inl e ↦ absurd (none-some l (sym h ∙ if_true (same_name n l.name) (Some l) (lodged_as n ls) e))
  | inr off ↦ if_false (same_name n l.name) (but n ls) (l ∷ but n ls) off ∙ ap (λ xs. l ∷ xs) (but_none n ls (sym (if_false (same_name n l.name) (Some l) (lodged_as n ls) off) ∙ h))
]

-- the tree of a name, and the others
pub taken_out : (n : Name) (l : Lodged) (ls : List Lodged) (q : ℕ) → AreDistinct ls → lodged_as n ls ≡ Some l → lodged_uses ls q ≡ uses q l.tree + lodged_uses (but n ls) q
taken_out n l [] q d h = absurd (none-some l h)
taken_out n l (x ∷ ls) q d h = elim (bool_or (same_name n x.name)) as (λ v. lodged_uses (x ∷ ls) q ≡ uses q l.tree + lodged_uses (but n (x ∷ ls)) q) [
  | inl e ↦
      let is : x ≡ l = same_Some x l (sym (if_true (same_name n x.name) (Some x) (lodged_as n ls) e) ∙ h) in
      let none : lodged_as n ls ≡ None = ap (λ m. lodged_as m ls) (name_same n x.name e) ∙ d.0 in
      let rest : but n (x ∷ ls) ≡ ls = if_true (same_name n x.name) (but n ls) (x ∷ but n ls) e ∙ but_none n ls none in
      let a = ap (λ (y : Lodged). uses q y.tree) is in
      let b = ap (λ ys. lodged_uses ys q) rest in
      omega (arith, a, b)
  | inr off ↦
      let there : lodged_as n ls ≡ Some l = sym (if_false (same_name n x.name) (Some x) (lodged_as n ls) off) ∙ h in
      let r = taken_out n l ls q d.1 there in
      let b = ap (λ ys. lodged_uses ys q) (if_false (same_name n x.name) (but n ls) (x ∷ but n ls) off) in
      omega (arith, r, b)
]

-- ---- without several names

pub distinct_but_all : (ns : List Name) (ls : List Lodged) → AreDistinct ls → AreDistinct (but_all ns ls)
distinct_but_all [] ls d = d
distinct_but_all (n ∷ ns) ls d = distinct_but_all ns (but n ls) (distinct_but n ls d)

pub but_append : (ms ns : List Name) (ls : List Lodged) → but_all (ms ++ ns) ls ≡ but_all ns (but_all ms ls)
but_append [] ns ls = refl
but_append (m ∷ ms) ns ls = but_append ms ns (but m ls)

pub off_first : (m n : Name) (ns : List Name) → times m (n ∷ ns) ≡ 0 → (same_name m n ≡ false) × (times m ns ≡ 0)
off_first m n ns h = by (same_name m n) refl
  where
    by : (b : Bool) → same_name m n ≡ b → (same_name m n ≡ false) × (times m ns ≡ 0)
    by true e = absurd (let z = ap {B = ℕ} (λ b. if b then 1 else 0) e in let y : ⊥ = omega (arith, h, z) in y)
    by false e = (e, (let z = ap {B = ℕ} (λ b. if b then 1 else 0) e in omega (arith, h, z)))

pub lodged_but_all : (m : Name) (ns : List Name) (ls : List Lodged) → times m ns ≡ 0 → lodged_as m (but_all ns ls) ≡ lodged_as m ls
lodged_but_all m [] ls h = refl
lodged_but_all m (n ∷ ns) ls h = let o = off_first m n ns h in lodged_but_all m ns (but n ls) o.1 ∙ lodged_but m n ls o.0

-- ---- the order of names doesn't matter

but_swap : (m n : Name) (ls : List Lodged) → but m (but n ls) ≡ but n (but m ls)
but_swap m n [] = refl
but_swap m n (l ∷ ls) = by (but_swap m n ls) (same_name m l.name) (same_name n l.name) refl refl
  where
    by : but m (but n ls) ≡ but n (but m ls) → (a b : Bool) → same_name m l.name ≡ a → same_name n l.name ≡ b → but m (but n (l ∷ ls)) ≡ but n (but m (l ∷ ls))
    by rest true true e f = ap (but m) (if_true (same_name n l.name) (but n ls) (l ∷ but n ls) f) ∙ rest ∙ sym (ap (but n) (if_true (same_name m l.name) (but m ls) (l ∷ but m ls) e))
    by rest true false e f = ap (but m) (if_false (same_name n l.name) (but n ls) (l ∷ but n ls) f) ∙ if_true (same_name m l.name) (but m (but n ls)) (l ∷ but m (but n ls)) e ∙ rest ∙ sym (ap (but n) (if_true (same_name m l.name) (but m ls) (l ∷ but m ls) e))
    by rest false true e f = ap (but m) (if_true (same_name n l.name) (but n ls) (l ∷ but n ls) f) ∙ rest ∙ sym (if_true (same_name n l.name) (but n (but m ls)) (l ∷ but n (but m ls)) f) ∙ sym (ap (but n) (if_false (same_name m l.name) (but m ls) (l ∷ but m ls) e))
    by rest false false e f = ap (but m) (if_false (same_name n l.name) (but n ls) (l ∷ but n ls) f) ∙ if_false (same_name m l.name) (but m (but n ls)) (l ∷ but m (but n ls)) e ∙ ap (λ xs. l ∷ xs) (rest) ∙ sym (if_false (same_name n l.name) (but n (but m ls)) (l ∷ but n (but m ls)) f) ∙ sym (ap (but n) (if_false (same_name m l.name) (but m ls) (l ∷ but m ls) e))

but_all_swap : (m : Name) (ns : List Name) (ls : List Lodged) → but_all ns (but m ls) ≡ but m (but_all ns ls)
but_all_swap m [] ls = refl
but_all_swap m (n ∷ ns) ls = ap (but_all ns) (but_swap n m ls) ∙ but_all_swap m ns (but n ls)

-- the same, where other names are taken out too
taken_out_of : (n : Name) (l : Lodged) (ns : List Name) (ls : List Lodged) (q : ℕ) → AreDistinct ls → lodged_as n ls ≡ Some l → times n ns ≡ 0 → lodged_uses (but_all ns ls) q ≡ uses q l.tree + lodged_uses (but_all ns (but n ls)) q
taken_out_of n l ns ls q d h off =
    taken_out n l (but_all ns ls) q (distinct_but_all ns ls d) (lodged_but_all n ns ls off ∙ h)
    ∙ ap (λ xs. uses q l.tree + lodged_uses xs q) (sym (but_all_swap n ns ls))

-- ---- arguments

module _ (tb : Table) (ls : List Lodged) (d : AreDistinct ls) where
  times_append : (m : Name) (ns ms : List Name) → times m (ns ++ ms) ≡ times m ns + times m ms
  times_append m [] ms = omega arith
  times_append m (n ∷ ns) ms = let r = times_append m ns ms in omega (arith, r)

  -- what was given isn't given again
  off_name : (m : Name) (before : List Name) (p : Param) (g : Given) (x : Placed) → IsTree tb ls before p g x → 0 < times m before → times m (named_by tb p g) ≡ 0
  off_name m before p (Fresh w) x h some = refl
  off_name m before p (Held name) x h some = elim (bool_or (is_scalar tb p.ty)) as (λ v. times m (named_by tb p (Held name)) ≡ 0) [
    | inl e ↦ ap (times m) (if_true (is_scalar tb p.ty) [] (name ∷ []) e)
    | inr e ↦ ap (times m) (if_false (is_scalar tb p.ty) [] (name ∷ []) e) ∙ by (bool_or (same_name m name)) (h.4 e)
  ]
    where
      by : (same_name m name ≡ true) ⊎ (same_name m name ≡ false) → times name before ≡ 0 → times m (name ∷ []) ≡ 0
      by (inl e) none = absurd (let z = ap (λ k. times k before) (name_same m name e) in let y : ⊥ = omega (arith, some, none, z) in y)
      by (inr e) none = let z = ap {B = ℕ} (λ b. if b then 1 else 0) e in omega (arith, z)

  if_none : (b : Bool) (m : Name) (ns : List Name) → times m ns ≡ 0 → times m (if b then [] else ns) ≡ 0
  if_none true m ns h = refl
  if_none false m ns h = h

  off_used : (m : Name) (before : List Name) (ps : List Param) (gs : List Given) (xs : Parts) → AreTrees tb ls before ps gs xs → 0 < times m before → times m (used_by tb ps gs) ≡ 0
  off_used m before [] [] NoParts h some = refl
  off_used m before [] [] (MoreParts x xs) h some = absurd h
  off_used m before [] (g ∷ gs) xs h some = absurd h
  off_used m before (p ∷ ps) [] xs h some = absurd h
  off_used m before (p ∷ ps) (g ∷ gs) NoParts h some = absurd h
  off_used m before (p ∷ ps) (g ∷ gs) (MoreParts x xs) h some =
      let a = if_none p.lent m (named_by tb p g) (off_name m before p g x h.0 some) in
      let more = times_append m before (named_by tb p g) in
      let r = off_used m (before ++ named_by tb p g) ps gs xs h.1 (omega (arith, some, more)) in
      let s = times_append m (if p.lent then [] else named_by tb p g) (used_by tb ps gs) in
      omega (arith, a, r, s)

  -- A name that is given for a type that isn't scalar: its tree is taken out.
  module _ (before : List Name) (p : Param) (name : Name) (x : Placed) (h : IsTree tb ls before p (Held name) x) (e : is_scalar tb p.ty ≡ false) where
    there : lodged_as name (but_all before ls) ≡ Some h.0
    there = lodged_but_all name before ls (h.4 e) ∙ h.1

    following : but_all (before ++ named_by tb p (Held name)) ls ≡ but name (but_all before ls)
    following = ap (λ ns. but_all (before ++ ns) ls) (if_false (is_scalar tb p.ty) [] (name ∷ []) e) ∙ but_append before (name ∷ []) ls

    out : (q : ℕ) → lodged_uses (but_all before ls) q ≡ uses q x + lodged_uses (but name (but_all before ls)) q
    out q = taken_out name h.0 (but_all before ls) q (distinct_but_all before ls d) there ∙ ap (λ y. uses q y + lodged_uses (but name (but_all before ls)) q) (sym h.3)

    out_of : (ns : List Name) (q : ℕ) → times name ns ≡ 0 → lodged_uses (but_all ns (but_all before ls)) q ≡ uses q x + lodged_uses (but_all ns (but name (but_all before ls))) q
    out_of ns q off = taken_out_of name h.0 ns (but_all before ls) q (distinct_but_all before ls d) there off ∙ ap (λ y. uses q y + lodged_uses (but_all ns (but name (but_all before ls))) q) (sym h.3)

  -- ---- the arguments' cells and the kept ones

  all_from : (before : List Name) (ps : List Param) (gs : List Given) (xs : Parts) (q : ℕ) → AreTrees tb ls before ps gs xs → AreBare tb ps xs → uses_of_all q xs + lodged_uses (but_all (named_by_all tb ps gs) (but_all before ls)) q ≡ fresh_uses gs xs q + lodged_uses (but_all before ls) q
  all_from before [] [] NoParts q h b = refl
  all_from before [] [] (MoreParts x xs) q h b = absurd h
  all_from before [] (g ∷ gs) xs q h b = absurd h
  all_from before (p ∷ ps) [] xs q h b = absurd h
  all_from before (p ∷ ps) (g ∷ gs) NoParts q h b = absurd h
  all_from before (p ∷ ps) (Fresh w ∷ gs) (MoreParts x xs) q h b =
      let r = all_from before ps gs xs q (subst (λ ns. AreTrees tb ls ns ps gs xs) (append-nil before) h.1) b.1 in
      omega (arith, r)
  all_from before (p ∷ ps) (Held name ∷ gs) (MoreParts x xs) q h b = elim (bool_or (is_scalar tb p.ty)) as (λ v. uses_of_all q (MoreParts x xs) + lodged_uses (but_all (named_by_all tb (p ∷ ps) (Held name ∷ gs)) (but_all before ls)) q ≡ fresh_uses (Held name ∷ gs) (MoreParts x xs) q + lodged_uses (but_all before ls) q) [
    | inl e ↦
        let none : named_by tb p (Held name) ≡ [] = if_true (is_scalar tb p.ty) [] (name ∷ []) e in
        let same : before ++ named_by tb p (Held name) ≡ before = ap (λ ns. before ++ ns) none ∙ append-nil before in
        let r = all_from before ps gs xs q (subst (λ ns. AreTrees tb ls ns ps gs xs) same h.1) b.1 in
        let bare = b.0 e q in
        let s = ap (λ ns. lodged_uses (but_all (ns ++ named_by_all tb ps gs) (but_all before ls)) q) none in
        omega (arith, r, bare, s)
    | inr e ↦
        let r = all_from (before ++ named_by tb p (Held name)) ps gs xs q h.1 b.1 in
        let a = ap (λ ys. lodged_uses (but_all (named_by_all tb ps gs) ys) q) (following before p name x h.0 e) in
        let z = ap (λ ys. lodged_uses ys q) (following before p name x h.0 e) in
        let o = out before p name x h.0 e q in
        let s = ap (λ ns. lodged_uses (but_all (ns ++ named_by_all tb ps gs) (but_all before ls)) q) (if_false (is_scalar tb p.ty) [] (name ∷ []) e) in
        omega (arith, r, a, z, o, s)
  ]

  -- The cells of the arguments, and those of the names that aren't given, are those of the written values and of all
  -- names.
  pub arguments_and_kept : (ps : List Param) (gs : List Given) (xs : Parts) (q : ℕ) → AreTrees tb ls [] ps gs xs → AreBare tb ps xs → uses_of_all q xs + lodged_uses (but_all (named_by_all tb ps gs) ls) q ≡ fresh_uses gs xs q + lodged_uses ls q
  arguments_and_kept ps gs xs q h b = all_from [] ps gs xs q h b

  -- ---- the borrowed ones and those that are held after the call

  -- whether an argument is borrowed
  lent_one : (p : Param) (ps : List Param) (x : Placed) (xs : Parts) (q : ℕ) → lent_uses tb (p ∷ ps) (MoreParts x xs) q ≡ (if is_lent_tree tb p then uses q x else 0) + lent_uses tb ps xs q
  lent_one p ps x xs q = refl

  lent_is : (p : Param) (n : ℕ) → (is_scalar tb p.ty ≡ true → n ≡ 0) → (if is_lent_tree tb p then n else 0) ≡ (if p.lent then n else 0)
  lent_is p n bare = by p.lent (is_scalar tb p.ty) refl
    where
      by : (a s : Bool) → is_scalar tb p.ty ≡ s → (if a && not s then n else 0) ≡ (if a then n else 0)
      by true true e = sym (bare e)
      by true false e = refl
      by false s e = refl

  if_same : (b : Bool) → ◌≡◌ {A = List Name} (if b then [] else []) []
  if_same true = refl
  if_same false = refl

  given_now : (name : Name) (before : List Name) (p : Param) → named_by tb p (Held name) ≡ name ∷ [] → 0 < times name (before ++ named_by tb p (Held name))
  given_now name before p named =
      let more = times_append name before (named_by tb p (Held name)) in
      let one = ap (times name) named in
      let is : one_if_named name name ≡ 1 = if_true (same_name name name) 1 0 (name_itself name name refl) in
      omega (arith, more, one, is)

  if_zero : (b : Bool) → ◌≡◌ {A = ℕ} (if b then 0 else 0) 0
  if_zero true = refl
  if_zero false = refl

  lent_from : (before : List Name) (ps : List Param) (gs : List Given) (xs : Parts) (q : ℕ) → AreTrees tb ls before ps gs xs → AreBare tb ps xs → lent_uses tb ps xs q + lodged_uses (but_all (named_by_all tb ps gs) (but_all before ls)) q ≡ lent_fresh_uses ps gs xs q + lodged_uses (but_all (used_by tb ps gs) (but_all before ls)) q
  lent_from before [] [] NoParts q h b = refl
  lent_from before [] [] (MoreParts x xs) q h b = absurd h
  lent_from before [] (g ∷ gs) xs q h b = absurd h
  lent_from before (p ∷ ps) [] xs q h b = absurd h
  lent_from before (p ∷ ps) (g ∷ gs) NoParts q h b = absurd h
  lent_from before (p ∷ ps) (Fresh w ∷ gs) (MoreParts x xs) q h b =
      let r = lent_from before ps gs xs q (subst (λ ns. AreTrees tb ls ns ps gs xs) (append-nil before) h.1) b.1 in
      let one = lent_one p ps x xs q in
      let is = lent_is p (uses q x) (λ e. b.0 e q) in
      let s = ap (λ ns. lodged_uses (but_all (ns ++ used_by tb ps gs) (but_all before ls)) q) (if_same p.lent) in
      omega (arith, r, one, is, s)
  lent_from before (p ∷ ps) (Held name ∷ gs) (MoreParts x xs) q h b = elim (bool_or (is_scalar tb p.ty)) as (λ v. lent_uses tb (p ∷ ps) (MoreParts x xs) q + lodged_uses (but_all (named_by_all tb (p ∷ ps) (Held name ∷ gs)) (but_all before ls)) q ≡ lent_fresh_uses (p ∷ ps) (Held name ∷ gs) (MoreParts x xs) q + lodged_uses (but_all (used_by tb (p ∷ ps) (Held name ∷ gs)) (but_all before ls)) q) [
    | inl e ↦
        let none : named_by tb p (Held name) ≡ [] = if_true (is_scalar tb p.ty) [] (name ∷ []) e in
        let same : before ++ named_by tb p (Held name) ≡ before = ap (λ ns. before ++ ns) none ∙ append-nil before in
        let r = lent_from before ps gs xs q (subst (λ ns. AreTrees tb ls ns ps gs xs) same h.1) b.1 in
        let bare = b.0 e q in
        let one = lent_one p ps x xs q in
        let is = lent_is p (uses q x) (λ e. b.0 e q) in
        let zero_if = ap (λ n. if p.lent then n else 0) bare ∙ if_zero p.lent in
        let none_if = if_zero p.lent in
        let s = ap (λ ns. lodged_uses (but_all (ns ++ named_by_all tb ps gs) (but_all before ls)) q) none in
        let t = ap (λ ns. lodged_uses (but_all (ns ++ used_by tb ps gs) (but_all before ls)) q) (ap (λ ns. if p.lent then [] else ns) none ∙ if_same p.lent) in
        omega (arith, r, bare, one, is, zero_if, none_if, s, t)
    | inr e ↦
        let named : named_by tb p (Held name) ≡ name ∷ [] = if_false (is_scalar tb p.ty) [] (name ∷ []) e in
        let r = lent_from (before ++ named_by tb p (Held name)) ps gs xs q h.1 b.1 in
        let a = ap (λ ys. lodged_uses (but_all (named_by_all tb ps gs) ys) q) (following before p name x h.0 e) in
        let u = ap (λ ys. lodged_uses (but_all (used_by tb ps gs) ys) q) (following before p name x h.0 e) in
        let s = ap (λ ns. lodged_uses (but_all (ns ++ named_by_all tb ps gs) (but_all before ls)) q) named in
        let one = lent_one p ps x xs q in
        let is = lent_is p (uses q x) (λ e. b.0 e q) in
        let none_if = if_zero p.lent in
        let off = off_used name (before ++ named_by tb p (Held name)) ps gs xs h.1 (given_now name before p named) in
        let o = out_of before p name x h.0 e (used_by tb ps gs) q off in
        elim (bool_or p.lent) as (λ v. lent_uses tb (p ∷ ps) (MoreParts x xs) q + lodged_uses (but_all (named_by_all tb (p ∷ ps) (Held name ∷ gs)) (but_all before ls)) q ≡ lent_fresh_uses (p ∷ ps) (Held name ∷ gs) (MoreParts x xs) q + lodged_uses (but_all (used_by tb (p ∷ ps) (Held name ∷ gs)) (but_all before ls)) q) [
          | inl l ↦
              let lends = if_true p.lent (uses q x) 0 l in
              let t = ap (λ ns. lodged_uses (but_all (ns ++ used_by tb ps gs) (but_all before ls)) q) (if_true p.lent [] (named_by tb p (Held name)) l) in
              omega (arith, r, a, u, s, one, is, none_if, o, lends, t)
          | inr l ↦
              let lends = if_false p.lent (uses q x) 0 l in
              let t = ap (λ ns. lodged_uses (but_all (ns ++ used_by tb ps gs) (but_all before ls)) q) (if_false p.lent [] (named_by tb p (Held name)) l ∙ named) in
              omega (arith, r, a, u, s, one, is, none_if, lends, t)
        ]
  ]

  -- The cells of the borrowed arguments, and those of the names that aren't given, are those of the borrowed written
  -- values and of the names that are held after the call.
  pub lent_and_kept : (ps : List Param) (gs : List Given) (xs : Parts) (q : ℕ) → AreTrees tb ls [] ps gs xs → AreBare tb ps xs → lent_uses tb ps xs q + lodged_uses (but_all (named_by_all tb ps gs) ls) q ≡ lent_fresh_uses ps gs xs q + lodged_uses (but_all (used_by tb ps gs) ls) q
  lent_and_kept ps gs xs q h b = lent_from [] ps gs xs q h b

  -- ---- those of names that are used up

  one_used : (p : Param) (g : Given) (x : Placed) (q : ℕ) → (is_scalar tb p.ty ≡ true → uses q x ≡ 0) → uses q x + (if p.lent then fresh_in g x q else 0) ≡ (if is_lent_tree tb p then uses q x else 0) + (fresh_in g x q + (if p.lent then 0 else named_in g x q))
  one_used p g x q bare =
      let is = lent_is p (uses q x) bare in
      by p.lent g is
    where
      by : (l : Bool) (g : Given) → (if is_lent_tree tb p then uses q x else 0) ≡ (if l then uses q x else 0) → uses q x + (if l then fresh_in g x q else 0) ≡ (if is_lent_tree tb p then uses q x else 0) + (fresh_in g x q + (if l then 0 else named_in g x q))
      by true (Fresh w) is = omega (arith, is)
      by true (Held name) is = omega (arith, is)
      by false (Fresh w) is = omega (arith, is)
      by false (Held name) is = omega (arith, is)

  all_used : (before : List Name) (ps : List Param) (gs : List Given) (xs : Parts) (q : ℕ) → AreTrees tb ls before ps gs xs → AreBare tb ps xs → uses_of_all q xs + lent_fresh_uses ps gs xs q ≡ lent_uses tb ps xs q + (fresh_uses gs xs q + used_uses ps gs xs q)
  all_used before [] [] NoParts q h b = refl
  all_used before [] [] (MoreParts x xs) q h b = absurd h
  all_used before [] (g ∷ gs) xs q h b = absurd h
  all_used before (p ∷ ps) [] xs q h b = absurd h
  all_used before (p ∷ ps) (g ∷ gs) NoParts q h b = absurd h
  all_used before (p ∷ ps) (g ∷ gs) (MoreParts x xs) q h b =
      let r = all_used (before ++ named_by tb p g) ps gs xs q h.1 b.1 in
      let one = lent_one p ps x xs q in
      let is = one_used p g x q (λ e. b.0 e q) in
      omega (arith, r, one, is)

  -- The cells of all names are those of the names that are used up and of those that are held after the call.
  pub used_and_held : (ps : List Param) (gs : List Given) (xs : Parts) (q : ℕ) → AreTrees tb ls [] ps gs xs → AreBare tb ps xs → lodged_uses ls q ≡ used_uses ps gs xs q + lodged_uses (but_all (used_by tb ps gs) ls) q
  used_and_held ps gs xs q h b =
      let a = arguments_and_kept ps gs xs q h b in
      let l = lent_and_kept ps gs xs q h b in
      let u = all_used [] ps gs xs q h b in
      omega (arith, a, l, u)

-- ---- places

count_append : (q : ℕ) (ps rs : List ℕ) → count q (ps ++ rs) ≡ count q ps + count q rs
count_append q [] rs = omega arith
count_append q (p ∷ ps) rs = let r = count_append q ps rs in omega (arith, r)

mutual
  count_places : (q : ℕ) (x : Placed) → count q (places x) ≡ uses q x
  count_places q (PlacedInt i) = refl
  count_places q (Bare c) = refl
  count_places q (At p c xs) = ap (λ n. one_at q p + n) (count_all_places q xs)

  count_all_places : (q : ℕ) (xs : Parts) → count q (places_of_all xs) ≡ uses_of_all q xs
  count_all_places q NoParts = refl
  count_all_places q (MoreParts x xs) =
      let a = count_append q (places x) (places_of_all xs) in
      let b = count_places q x in
      let c = count_all_places q xs in
      omega (arith, a, b, c)

pub lodged_count : (ls : List Lodged) (q : ℕ) → count q (lodged_places ls) ≡ lodged_uses ls q
lodged_count [] q = refl
lodged_count (l ∷ ls) q =
    let a = count_append q (places l.tree) (lodged_places ls) in
    let b = count_places q l.tree in
    let c = lodged_count ls q in
    omega (arith, a, b, c)
