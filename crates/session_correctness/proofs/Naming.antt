-- Results get names: what is held then lies in the store, and each name occurs once.
use Rattle.std.proofs.Common.{◌≡◌, ◌⊎◌, inl, inr, ◌∙◌, ℕ, ◌+◌, ◌<◌, Bool, true, false, List, [], ◌∷◌, ◌++◌, length, map, Option, Some, None, refl, sym, ap, subst, if◌then◌else◌, arith, append-nil, append_assoc}
use Rattle.std.proofs.lemmas.Option.{none-some}
use Rattle.std.specs.Prelude.{option_map}
use Rattle.tree_refinement.specs.fip_language.Core.{Name}
use Rattle.tree_refinement.specs.fip_language.Declarations.{same_name}
use Rattle.tree_refinement.specs.fip_language.Every.{Every, times, one_if_named}
use Rattle.tree_refinement.specs.fip_language.Store.{Parts, NoParts, MoreParts, value_of, values_of, uses_of_all}
use Rattle.tree_refinement.specs.fip_language.Table.{Table}
use Rattle.tree_refinement.specs.machine_semantics.Cells.{Store}
use Rattle.tree_refinement.specs.machine_semantics.Trees.{Stands, StandAll}
use Rattle.session_semantics.specs.Talk.{Holding, held_as, without_all, hold_all, IsFree, AreFree}
use Rattle.session_correctness.specs.Called.{AllStand, IsHeld, IsHeldWith}
use Rattle.session_correctness.specs.Lodging.{Lodged, holding_of, lodged_as, but, but_all, AreDistinct, lodged_uses, lodge_all}
use Rattle.session_correctness.proofs.Sharing.{bool_or, name_same, name_itself, if_true, if_false, none_but, distinct_but_all}
use Rattle.session_correctness.proofs.Speaking.{held_lodged, without_lodged}
use Rattle.session_correctness.proofs.Sharing.{off_first as apart_names}

-- ---- cells

pub lodged_more : (ls ms : List Lodged) (q : ℕ) → lodged_uses (ls ++ ms) q ≡ lodged_uses ls q + lodged_uses ms q
lodged_more [] ms q = omega arith
lodged_more (l ∷ ls) ms q = let r = lodged_more ls ms q in omega (arith, r)

every_more : (P : Lodged → Type 0) (ls ms : List Lodged) → Every P ls → Every P ms → Every P (ls ++ ms)
every_more P [] ms h k = k
every_more P (l ∷ ls) ms h k = (h.0, every_more P ls ms h.1 k)

named_uses : (ns : List Name) (tb : Table) (s : Store) (ts : List ℕ) (xs : Parts) (q : ℕ) → length ns ≡ length ts → StandAll tb s ts xs → lodged_uses (lodge_all ns ts xs) q ≡ uses_of_all q xs
named_uses [] tb s [] NoParts q e h = refl
named_uses [] tb s [] (MoreParts x xs) q e h = absurd h
named_uses [] tb s (t ∷ ts) xs q e h = absurd (let z : ⊥ = omega (arith, e) in z)
named_uses (n ∷ ns) tb s [] xs q e h = absurd (let z : ⊥ = omega (arith, e) in z)
named_uses (n ∷ ns) tb s (t ∷ ts) NoParts q e h = absurd h
named_uses (n ∷ ns) tb s (t ∷ ts) (MoreParts x xs) q e h = let r = named_uses ns tb s ts xs q (omega (arith, e)) h.1 in omega (arith, r)

named_stand : (ns : List Name) (tb : Table) (s : Store) (ts : List ℕ) (xs : Parts) → StandAll tb s ts xs → AllStand tb s (lodge_all ns ts xs)
named_stand [] tb s ts xs h = tt
named_stand (n ∷ ns) tb s [] xs h = tt
named_stand (n ∷ ns) tb s (t ∷ ts) NoParts h = tt
named_stand (n ∷ ns) tb s (t ∷ ts) (MoreParts x xs) h = (h.0, named_stand ns tb s ts xs h.1)

-- The results are held under their names.
pub held_with : (tb : Table) (ls : List Lodged) (types ws : List ℕ) (s : Store) (names : List Name) → length names ≡ length types → (h : IsHeldWith tb ls types ws s) → IsHeld tb (ls ++ lodge_all names types h.results) s
held_with tb ls types ws s names e h = record {
  store = h.store;
  stand = every_more (λ (l : Lodged). Stands tb s l.type l.tree) ls (lodge_all names types h.results) h.stand (named_stand names tb s types h.results h.stand_too);
  once = λ q. (let o = h.once q in let m = lodged_more ls (lodge_all names types h.results) q in let u = named_uses names tb s types h.results q e h.stand_too in omega (arith, o, m, u));
}

-- what they are in the words of what a session replies
pub holds_all : (ns : List Name) (ts : List ℕ) (xs : Parts) → map holding_of (lodge_all ns ts xs) ≡ hold_all ns ts (values_of xs)
holds_all [] ts xs = refl
holds_all (n ∷ ns) [] xs = refl
holds_all (n ∷ ns) (t ∷ ts) NoParts = refl
holds_all (n ∷ ns) (t ∷ ts) (MoreParts x xs) = ap (λ hs. record { name = n; type = t; value = value_of x } ∷ hs) (holds_all ns ts xs)

map_more : (ls ms : List Lodged) → map holding_of (ls ++ ms) ≡ map holding_of ls ++ map holding_of ms
map_more [] ms = refl
map_more (l ∷ ls) ms = ap (λ hs. holding_of l ∷ hs) (map_more ls ms)

-- What is held after a call, in those words.
pub said_after : (ls : List Lodged) (used ns : List Name) (ts : List ℕ) (xs : Parts) → map holding_of (but_all used ls ++ lodge_all ns ts xs) ≡ without_all used (map holding_of ls) ++ hold_all ns ts (values_of xs)
said_after ls used ns ts xs =
    map_more (but_all used ls) (lodge_all ns ts xs)
    ∙ ap (λ hs. hs ++ map holding_of (lodge_all ns ts xs)) (sym (without_lodged used ls))
    ∙ ap (λ hs. without_all used (map holding_of ls) ++ hs) (holds_all ns ts xs)

-- ---- names

none_all : (m : Name) (ns : List Name) (ls : List Lodged) → lodged_as m ls ≡ None → lodged_as m (but_all ns ls) ≡ None
none_all m [] ls h = h
none_all m (n ∷ ns) ls h = none_all m ns (but n ls) (none_but m n ls h)

gone_one : (m : Name) (ls : List Lodged) → lodged_as m (but m ls) ≡ None
gone_one m [] = refl
gone_one m (l ∷ ls) = by (same_name m l.name) refl (gone_one m ls)
  where
    by : (b : Bool) → same_name m l.name ≡ b → lodged_as m (but m ls) ≡ None → lodged_as m (if b then but m ls else l ∷ but m ls) ≡ None
    by true e h = h
    by false e h = if_false (same_name m l.name) (Some l) (lodged_as m (but m ls)) e ∙ h

-- a name that is used up holds nothing
pub gone_all : (m : Name) (ns : List Name) (ls : List Lodged) → 0 < times m ns → lodged_as m (but_all ns ls) ≡ None
gone_all m [] ls some = absurd (let z : ⊥ = omega (arith, some) in z)
gone_all m (n ∷ ns) ls some = elim (bool_or (same_name m n)) as (λ v. lodged_as m (but_all ns (but n ls)) ≡ None) [
  | inl e ↦ none_all m ns (but n ls) (subst (λ k. lodged_as m (but k ls) ≡ None) (name_same m n e) (gone_one m ls))
  | inr off ↦ gone_all m ns (but n ls) (let z : one_if_named m n ≡ 0 = if_false (same_name m n) 1 0 off in omega (arith, some, z))
]

free_name : (m : Name) (ns : List Name) (ls : List Lodged) → (held_as m (map holding_of ls) ≡ None) ⊎ (0 < times m ns) → lodged_as m (but_all ns ls) ≡ None
free_name m ns ls (inl none) = none_all m ns ls (by (lodged_as m ls) refl)
  where
    by : (o : Option Lodged) → lodged_as m ls ≡ o → lodged_as m ls ≡ None
    by None e = e
    by (Some l) e = absurd (none-some (holding_of l) (sym none ∙ held_lodged m ls ∙ ap (option_map holding_of) e))
free_name m ns ls (inr some) = gone_all m ns ls some

lodged_more_as : (m : Name) (ls ms : List Lodged) → lodged_as m ls ≡ None → lodged_as m (ls ++ ms) ≡ lodged_as m ms
lodged_more_as m [] ms h = refl
lodged_more_as m (l ∷ ls) ms h = elim (bool_or (same_name m l.name)) as (λ v. lodged_as m ((l ∷ ls) ++ ms) ≡ lodged_as m ms) [
  | inl e ↦ absurd (none-some l (sym h ∙ if_true (same_name m l.name) (Some l) (lodged_as m ls) e))
  | inr off ↦ if_false (same_name m l.name) (Some l) (lodged_as m (ls ++ ms)) off ∙ lodged_more_as m ls ms (sym (if_false (same_name m l.name) (Some l) (lodged_as m ls) off) ∙ h)
]

distinct_push : (ls : List Lodged) (l : Lodged) → AreDistinct ls → lodged_as l.name ls ≡ None → AreDistinct (ls ++ l ∷ [])
distinct_push [] l d h = (refl, tt)
distinct_push (x ∷ ls) l d h = elim (bool_or (same_name l.name x.name)) as (λ v. AreDistinct ((x ∷ ls) ++ l ∷ [])) [
  | inl e ↦ absurd (none-some x (sym h ∙ if_true (same_name l.name x.name) (Some x) (lodged_as l.name ls) e))
  | inr off ↦
      let rest : lodged_as l.name ls ≡ None = sym (if_false (same_name l.name x.name) (Some x) (lodged_as l.name ls) off) ∙ h in
      let here : lodged_as x.name (ls ++ l ∷ []) ≡ None = lodged_more_as x.name ls (l ∷ []) d.0 ∙ if_false (same_name x.name l.name) (Some l) None (turned x.name l.name off) in
      (here, distinct_push ls l d.1 rest)
]
  where
    turned : (m n : Name) → same_name n m ≡ false → same_name m n ≡ false
    turned m n off = by (bool_or (same_name m n))
      where
        by : (same_name m n ≡ true) ⊎ (same_name m n ≡ false) → same_name m n ≡ false
        by (inl e) = absurd (let z = sym off ∙ name_itself n m (sym (name_same m n e)) in cc)
        by (inr e) = e

distinct_all : (held : List Holding) (used before ns : List Name) (ts : List ℕ) (xs : Parts) (ls : List Lodged) → AreDistinct ls → ((m : Name) → IsFree held used before m → lodged_as m ls ≡ None) → AreFree held used before ns → AreDistinct (ls ++ lodge_all ns ts xs)
distinct_all held used before [] ts xs ls d f h = subst AreDistinct (sym (append-nil ls)) d
distinct_all held used before (n ∷ ns) [] xs ls d f h = subst AreDistinct (sym (append-nil ls)) d
distinct_all held used before (n ∷ ns) (t ∷ ts) NoParts ls d f h = subst AreDistinct (sym (append-nil ls)) d
distinct_all held used before (n ∷ ns) (t ∷ ts) (MoreParts x xs) ls d f h =
    let l : Lodged = record { name = n; type = t; tree = x } in
    let none : lodged_as n ls ≡ None = f n h.0 in
    let more : (m : Name) → IsFree held used (n ∷ before) m → lodged_as m (ls ++ l ∷ []) ≡ None = λ m free. (
    let a = apart_names m n before free.once in
    lodged_more_as m ls (l ∷ []) (f m (record { once = a.1; free = free.free })) ∙ if_false (same_name m n) (Some l) None a.0
    ) in
    let rest = distinct_all held used (n ∷ before) ns ts xs (ls ++ l ∷ []) (distinct_push ls l d none) more h.1 in
    subst AreDistinct (append_assoc ls (l ∷ []) (lodge_all ns ts xs)) rest

-- After the call each name occurs once.
pub distinct_after : (ls : List Lodged) (used ns : List Name) (ts : List ℕ) (xs : Parts) → AreDistinct ls → AreFree (map holding_of ls) used [] ns → AreDistinct (but_all used ls ++ lodge_all ns ts xs)
distinct_after ls used ns ts xs d h = distinct_all (map holding_of ls) used [] ns ts xs (but_all used ls) (distinct_but_all used ls d) (λ m free. free_name m used ls free.free) h
