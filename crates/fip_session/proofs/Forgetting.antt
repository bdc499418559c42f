-- What a book finds once names are forgotten, and once results get names.
use Rattle.std.proofs.Common.{◌≡◌, ◌≢◌, ◌⊎◌, inl, inr, ◌∙◌, ℕ, zero, suc, ◌+◌, ◌<◌, ◌≤◌, Bool, true, false, List, [], ◌∷◌, ◌++◌, length, map, drop, Option, Some, None, option_map, slice_get, get_or, refl, sym, ap, ap₂, subst, arith, if◌then◌else◌, append_assoc}
use Rattle.std.proofs.lemmas.Bool.{cond-true, cond-false}
use Rattle.std.proofs.lemmas.Option.{none-some, same_Some, slice_get-map}
use Rattle.std.proofs.lemmas.Slice.Eq.{bytes_eq-Decides}
use Rattle.std.specs.Str.{bytes_eq}
use Rattle.std.specs.Map.{update}
use Rattle.std.specs.BTreeMap.{BTreeMap}
use Rattle.std.specs.Borrow.{Bor}
use Rattle.std.specs.declared.alloc.Global.{Global}
use Rattle.std.specs.declared.vec.Vec.{Vec}
use Rattle.fip_language.specs.Core.{Name}
use Rattle.fip_language.specs.Declarations.{same_name}
use Rattle.fip_language.specs.Every.{times, one_if_named}
use Rattle.fip_language.specs.Store.{Placed, Parts, NoParts, MoreParts, word_of, words_of}
use Rattle.session_correctness.specs.Lodging.{Lodged, lodged_as, but, but_all, AreDistinct, lodge_all}
use Rattle.session_correctness.proofs.Sharing.{bool_or, name_same, name_itself, if_true, if_false, lodged_but_all}
use Rattle.session_lines.specs.Said.{names_of}
use Rattle.fip_session.specs.Named.{found}
use Rattle.fip_session.specs.Planned.{Finds, held_by, names_used}
use Rattle.fip_session.specs.declared.book.Held.{Held}
use Rattle.fip_session.specs.declared.plan.Given.{Given}
pub use Rattle.fip_language.proofs.Facts.{drop_end as none_left, left_at, length_of_none as past}

-- ---- names

other_name : (m n : Name) → (n ≡ m → ⊥) → same_name m n ≡ false
other_name m n off = by (same_name m n) refl
  where
    by : (b : Bool) → same_name m n ≡ b → same_name m n ≡ false
    by true e = absurd (off (sym (name_same m n e)))
    by false e = e

pub same_or : (n m : Name) → (n ≡ m) ⊎ (n ≡ m → ⊥)
same_or n m = by (bytes_eq n m) refl
  where
    by : (b : Bool) → bytes_eq n m ≡ b → (n ≡ m) ⊎ (n ≡ m → ⊥)
    by true e = inl ((bytes_eq-Decides n m).0 e)
    by false e = inr (λ s. (let z = (bytes_eq-Decides n m).1 s in absurd cc))

pub unlike : (n m : Name) → (n ≡ m → ⊥) → bytes_eq n m ≡ false
unlike n m off = by (bytes_eq n m) refl
  where
    by : (b : Bool) → bytes_eq n m ≡ b → bytes_eq n m ≡ false
    by true e = absurd (off ((bytes_eq-Decides n m).0 e))
    by false e = e

-- ---- one name less

pub but_same : (n : Name) (ls : List Lodged) → lodged_as n (but n ls) ≡ None
but_same n [] = refl
but_same n (l ∷ ls) = by (same_name n l.name) refl (but_same n ls)
  where
    by : (b : Bool) → same_name n l.name ≡ b → lodged_as n (but n ls) ≡ None → lodged_as n (if b then but n ls else l ∷ but n ls) ≡ None
    by true e h = h
    by false e h = if_false (same_name n l.name) (Some l) (lodged_as n (but n ls)) e ∙ h

pub but_other : (m n : Name) (ls : List Lodged) → (n ≡ m → ⊥) → lodged_as m (but n ls) ≡ lodged_as m ls
but_other m n ls off = lodged_but_all m (n ∷ []) ls (let z : one_if_named m n ≡ 0 = if_false (same_name m n) 1 0 (other_name m n off) in omega (arith, z))

pub finds_but : (b c : BTreeMap (Vec ℕ Global) Held) (ls : List Lodged) (n : Name) → Finds b ls → ((other : Name) → found c other ≡ update bytes_eq (found b) n None other) → Finds c (but n ls)
finds_but b c ls n finds forgets m = elim (same_or n m) as (λ v. found c m ≡ option_map held_by (lodged_as m (but n ls))) [
  | inl e ↦
      forgets m ∙ cond-true (bytes_eq n m) None (found b m) ((bytes_eq-Decides n m).1 e)
      ∙ sym (ap (option_map held_by) (subst (λ k. lodged_as k (but n ls) ≡ None) e (but_same n ls)))
  | inr off ↦
      forgets m ∙ cond-false (bytes_eq n m) None (found b m) (unlike n m off) ∙ finds m ∙ ap (option_map held_by) (sym (but_other m n ls off))
]

-- the names that are used up are forgotten so far
pub record Forgetting (first now : BTreeMap (Vec ℕ Global) Held) (gs gs' : List Given) (ls : List Lodged) : Type 0 where
  pub left : List Lodged
  pub finds : Finds now left
  pub are : but_all (names_used gs') left ≡ but_all (names_used gs) ls

pub forgetting_starts : (first : BTreeMap (Vec ℕ Global) Held) (gs : List Given) (ls : List Lodged) → Finds first ls → Forgetting first first gs gs ls
forgetting_starts first gs ls h = record { left = ls; finds = h; are = refl }

pub forgetting_kept : (first now : BTreeMap (Vec ℕ Global) Held) (gs : List Given) (g : Given) (gs' : List Given) (ls : List Lodged) → g.is_used_up ≡ false → Forgetting first now gs (g ∷ gs') ls → Forgetting first now gs gs' ls
forgetting_kept first now gs g gs' ls not f = record {
  left = f.left;
  finds = f.finds;
  are = sym (ap (λ (b : Bool). but_all ((if b then g.name.now ∷ [] else []) ++ names_used gs') f.left) not) ∙ f.are;
}

pub forgetting_on : (first now next : BTreeMap (Vec ℕ Global) Held) (gs : List Given) (g : Given) (gs' : List Given) (ls : List Lodged) → g.is_used_up ≡ true → ((other : Name) → found next other ≡ update bytes_eq (found now) g.name.now None other) → Forgetting first now gs (g ∷ gs') ls → Forgetting first next gs gs' ls
forgetting_on first now next gs g gs' ls is_so forgets f = record {
  left = but g.name.now f.left;
  finds = finds_but now next f.left g.name.now f.finds forgets;
  are = sym (ap (λ (b : Bool). but_all ((if b then g.name.now ∷ [] else []) ++ names_used gs') f.left) is_so) ∙ f.are;
}

-- ---- one name more

lodged_push : (m : Name) (ls : List Lodged) (l : Lodged) → lodged_as m ls ≡ None → lodged_as m (ls ++ l ∷ []) ≡ (if same_name m l.name then Some l else None)
lodged_push m [] l e = refl
lodged_push m (k ∷ ls) l e = by (same_name m k.name) (λ g. lodged_push m ls l g) e
  where
    by : (b : Bool) → (lodged_as m ls ≡ None → lodged_as m (ls ++ l ∷ []) ≡ (if same_name m l.name then Some l else None)) → (if b then Some k else lodged_as m ls) ≡ None → (if b then Some k else lodged_as m (ls ++ l ∷ [])) ≡ (if same_name m l.name then Some l else None)
    by true r g = absurd (none-some k (sym g))
    by false r g = r g

lodged_still : (m : Name) (ls : List Lodged) (l : Lodged) → same_name m l.name ≡ false → lodged_as m (ls ++ l ∷ []) ≡ lodged_as m ls
lodged_still m [] l e = if_false (same_name m l.name) (Some l) None e
lodged_still m (k ∷ ls) l e = ap (λ o. if same_name m k.name then Some k else o) (lodged_still m ls l e)

pub finds_push : (b c : BTreeMap (Vec ℕ Global) Held) (ls : List Lodged) (l : Lodged) → Finds b ls → lodged_as l.name ls ≡ None → ((other : Name) → found c other ≡ update bytes_eq (found b) l.name (Some (held_by l)) other) → Finds c (ls ++ l ∷ [])
finds_push b c ls l finds none holds m = elim (same_or l.name m) as (λ v. found c m ≡ option_map held_by (lodged_as m (ls ++ l ∷ []))) [
  | inl e ↦
      holds m ∙ cond-true (bytes_eq l.name m) (Some (held_by l)) (found b m) ((bytes_eq-Decides l.name m).1 e)
      ∙ sym (ap (option_map held_by) (lodged_push m ls l (subst (λ k. lodged_as k ls ≡ None) e none) ∙ if_true (same_name m l.name) (Some l) None (name_itself m l.name (sym e))))
  | inr off ↦
      holds m ∙ cond-false (bytes_eq l.name m) (Some (held_by l)) (found b m) (unlike l.name m off) ∙ finds m
      ∙ ap (option_map held_by) (sym (lodged_still m ls l (other_name m l.name off)))
]

-- in a list in which each name stands once
has_name : (ms : List Lodged) (l : Lodged) (rest : List Lodged) (n : Name) → n ≡ l.name → lodged_as n (ms ++ l ∷ rest) ≡ None → ⊥
has_name [] l rest n e h = none-some l (sym (sym (if_true (same_name n l.name) (Some l) (lodged_as n rest) (name_itself n l.name e)) ∙ h))
has_name (m ∷ ms) l rest n e h = by (same_name n m.name) (λ f. has_name ms l rest n e f) h
  where
    by : (b : Bool) → (lodged_as n (ms ++ l ∷ rest) ≡ None → ⊥) → (if b then Some m else lodged_as n (ms ++ l ∷ rest)) ≡ None → ⊥
    by true r f = none-some m (sym f)
    by false r f = r f

pub new_name : (ms : List Lodged) (l : Lodged) (rest : List Lodged) → AreDistinct (ms ++ l ∷ rest) → lodged_as l.name ms ≡ None
new_name [] l rest h = refl
new_name (m ∷ ms) l rest h = by (same_name l.name m.name) refl (new_name ms l rest h.1)
  where
    by : (b : Bool) → same_name l.name m.name ≡ b → lodged_as l.name ms ≡ None → (if b then Some m else lodged_as l.name ms) ≡ None
    by true e r = absurd (has_name ms l rest m.name (sym (name_same l.name m.name e)) h.0)
    by false e r = r

-- the first results have names
pub record Naming (now : BTreeMap (Vec ℕ Global) Held) (all : List Lodged) (ns : List Name) (ts ws : List ℕ) : Type 0 where
  pub have : List Lodged
  pub rest : Parts
  pub finds : Finds now have
  pub words : ws ≡ words_of rest
  pub are : have ++ lodge_all ns ts rest ≡ all

module _ (now next : BTreeMap (Vec ℕ Global) Held) (all : List Lodged) (n : Name) (ns : List Name) (t : ℕ) (ts : List ℕ) (w : ℕ) (ws : List ℕ) (distinct : AreDistinct all) where
  pub naming_on : ((other : Name) → found next other ≡ update bytes_eq (found now) n (Some (record { ty = t; word = w })) other) → Naming now all (n ∷ ns) (t ∷ ts) (w ∷ ws) → Naming next all ns ts ws
  naming_on holds h = by h.rest h.words h.are
    where
      by : (ys : Parts) → w ∷ ws ≡ words_of ys → h.have ++ lodge_all (n ∷ ns) (t ∷ ts) ys ≡ all → Naming next all ns ts ws
      by NoParts e a = absurd cc
      by (MoreParts y ys) e a =
          let l : Lodged = record { name = n; type = t; tree = y } in
          let word : w ≡ word_of y = cc in
          let words : ws ≡ words_of ys = cc in
          let none : lodged_as n h.have ≡ None = new_name h.have l (lodge_all ns ts ys) (subst AreDistinct (sym a) distinct) in
          record {
            have = h.have ++ l ∷ [];
            rest = ys;
            finds = finds_push now next h.have l h.finds none (λ other. holds other ∙ ap (λ v. update bytes_eq (found now) n (Some (record { ty = t; word = v })) other) word);
            words = words;
            are = append_assoc h.have (l ∷ []) (lodge_all ns ts ys) ∙ a;
          }

names_left : (ns : List (Bor (List ℕ))) (i : ℕ) → names_of (drop i ns) ≡ drop i (names_of ns)
names_left ns zero = refl
names_left [] (suc i) = refl
names_left (n ∷ ns) (suc i) = names_left ns i

-- all have
pub all_named : (now : BTreeMap (Vec ℕ Global) Held) (all : List Lodged) (ts ws : List ℕ) → Naming now all [] ts ws → Finds now all
all_named now all ts ws h = subst (Finds now) (append_nothing h.have ∙ h.are) h.finds
  where
    append_nothing : (ls : List Lodged) → ls ≡ ls ++ []
    append_nothing [] = refl
    append_nothing (l ∷ ls) = ap (λ ks. l ∷ ks) (append_nothing ls)

pub forgetting_next : (first now next : BTreeMap (Vec ℕ Global) Held) (gs : List Given) (g : Given) (gs' : List Given) (ls : List Lodged) (f : Forgetting first now gs (g ∷ gs') ls) → Finds next (but_all (names_used (g ∷ [])) f.left) → Forgetting first next gs gs' ls
forgetting_next first now next gs g gs' ls f finds = record {
  left = but_all (names_used (g ∷ [])) f.left;
  finds = finds;
  are = by g.is_used_up f.are;
}
  where
    by : (b : Bool) → but_all ((if b then g.name.now ∷ [] else []) ++ names_used gs') f.left ≡ but_all (names_used gs) ls → but_all (names_used gs') (but_all ((if b then g.name.now ∷ [] else []) ++ []) f.left) ≡ but_all (names_used gs) ls
    by true e = e
    by false e = e

pub forget_one : (b c : BTreeMap (Vec ℕ Global) Held) (ls : List Lodged) (g : Given) → g.is_used_up ≡ true → Finds b ls → ((other : Name) → found c other ≡ update bytes_eq (found b) g.name.now None other) → Finds c (but_all (names_used (g ∷ [])) ls)
forget_one b c ls g is_so finds forgets = subst (λ (u : Bool). Finds c (but_all ((if u then g.name.now ∷ [] else []) ++ []) ls)) (sym is_so) (finds_but b c ls g.name.now finds forgets)

pub forget_none : (b : BTreeMap (Vec ℕ Global) Held) (ls : List Lodged) (g : Given) → g.is_used_up ≡ false → Finds b ls → Finds b (but_all (names_used (g ∷ [])) ls)
forget_none b ls g not finds = subst (λ (u : Bool). Finds b (but_all ((if u then g.name.now ∷ [] else []) ++ []) ls)) (sym not) finds

item_at : (gs : List Given) (i : ℕ) (d : Given) → i < length gs → drop i gs ≡ get_or gs i d ∷ drop (i + 1) gs
item_at gs i d lt = by gs i lt ∙ ap (λ n. get_or gs i d ∷ drop n gs) (let z : suc i ≡ i + 1 = omega arith in z)
  where
    by : (gs : List Given) (i : ℕ) → i < length gs → drop i gs ≡ get_or gs i d ∷ drop (suc i) gs
    by [] i lt = absurd (let z : ⊥ = omega (arith, lt) in z)
    by (g ∷ gs) zero lt = refl
    by (g ∷ gs) (suc i) lt = by gs i (omega (arith, lt))

pub forgetting_at : (first now next : BTreeMap (Vec ℕ Global) Held) (gs : List Given) (i : ℕ) (d : Given) (ls : List Lodged) → i < length gs → Forgetting first now gs (drop i gs) ls → ((ms : List Lodged) → Finds now ms → Finds next (but_all (names_used (get_or gs i d ∷ [])) ms)) → Forgetting first next gs (drop (i + 1) gs) ls
forgetting_at first now next gs i d ls lt f forgets =
    let g : Forgetting first now gs (get_or gs i d ∷ drop (i + 1) gs) ls = subst (λ hs. Forgetting first now gs hs ls) (item_at gs i d lt) f in
    forgetting_next first now next gs (get_or gs i d) (drop (i + 1) gs) ls g (forgets g.left g.finds)

pub all_forgotten : (first now : BTreeMap (Vec ℕ Global) Held) (gs : List Given) (i : ℕ) (ls : List Lodged) → length gs ≤ i → Forgetting first now gs (drop i gs) ls → Finds now (but_all (names_used gs) ls)
all_forgotten first now gs i ls le f =
    let g : Forgetting first now gs [] ls = subst (λ hs. Forgetting first now gs hs ls) (none_left gs i le) f in
    subst (Finds now) g.are g.finds

pub naming_at : (now next : BTreeMap (Vec ℕ Global) Held) (all : List Lodged) (ns : List Name) (ts ws : List ℕ) (i : ℕ) (n : Name) (h : Held) → AreDistinct all → slice_get ns i ≡ Some n → slice_get ts i ≡ Some h.ty → slice_get ws i ≡ Some h.word → ((other : Name) → found next other ≡ update bytes_eq (found now) n (Some h) other) → Naming now all (drop i ns) (drop i ts) (drop i ws) → Naming next all (drop (i + 1) ns) (drop (i + 1) ts) (drop (i + 1) ws)
naming_at now next all ns ts ws i n h distinct a b c holds m =
    naming_on now next all n (drop (i + 1) ns) h.ty (drop (i + 1) ts) h.word (drop (i + 1) ws) distinct holds
    (subst (λ xs. Naming now all xs (h.ty ∷ drop (i + 1) ts) (h.word ∷ drop (i + 1) ws)) (left_at ns i n a)
    (subst (λ xs. Naming now all (drop i ns) xs (h.word ∷ drop (i + 1) ws)) (left_at ts i h.ty b)
    (subst (λ xs. Naming now all (drop i ns) (drop i ts) xs) (left_at ws i h.word c) m)))

pub name_of : (ns : List (Bor (List ℕ))) (i : ℕ) (n : Bor (List ℕ)) → slice_get ns i ≡ Some n → slice_get (names_of ns) i ≡ Some n.now
name_of ns i n e = slice_get-map (λ (m : Bor (List ℕ)). m.now) ns i ∙ ap (option_map (λ (m : Bor (List ℕ)). m.now)) e
