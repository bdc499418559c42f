-- A variable is found by its number, and known by what its binder is known by.
use Rattle.std.proofs.Common.{◌≡◌, ℕ, zero, suc, ◌<◌, ◌≤◌, ◌-◌, refl, sym, ap, subst, ◌∙◌, List, [], ◌∷◌, ◌++◌, map, length, get_or, Option, Some, None, Bool, true, false, arith}
use Rattle.std.specs.Prelude.{◌==◌, ◌+◌, if◌then◌else◌, slice_get, option_map}
use Rattle.fip_rules.specs.Marks.{Entry}
use Rattle.fip_rules.specs.Notes.{or_else, look}
use Rattle.fip_rules.specs.Shapes.{or_later, known}
use Rattle.fip_rules.specs.Stands.{marks_of, find, Rises}
use Rattle.fip_rules.specs.Logs.{last_from, last}
use Rattle.fip_rules.specs.Views.{entry_of, entry_number}
use Rattle.fip_rules.specs.declared.scope.Entry as E
use Rattle.fip_rules.proofs.Lists.{same_test, apart_back}

-- ---- places of numbers

-- a place in a list of n that begins at p
abbrev Inside : ℕ → ℕ → Option ℕ → Type 0
Inside p n None = Unit {0}
Inside p n (Some l) = (p ≤ l) × (l < p + n)

inside_first : (b : Bool) (p n : ℕ) (o : Option ℕ) → Inside (suc p) n o → Inside p (suc n) (or_later (if b then Some p else None) o)
inside_first true p n None h = (omega arith, omega arith)
inside_first false p n None h = tt
inside_first b p n (Some l) h = let f = h.0 in let g = h.1 in (omega arith, omega arith)

inside_from : (p : ℕ) (es : List E.Entry) (x : ℕ) → Inside p (length es) (last_from p (map entry_number es) x)
inside_from p [] x = tt
inside_from p (e ∷ es) x = inside_first (entry_number e == x) p (length es) (last_from (suc p) (map entry_number es) x) (inside_from (suc p) es x)

-- the entry at a place of a list that begins at p
abbrev at_place : List E.Entry → ℕ → Option ℕ → Option Entry
at_place es p None = None
at_place es p (Some l) = option_map entry_of (slice_get es (l - p))

is_there : (es : List E.Entry) (i : ℕ) → i < length es → (e : E.Entry) × (slice_get es i ≡ Some e)
is_there [] i h = absurd (omega arith)
is_there (e ∷ es) zero h = (e, refl)
is_there (e ∷ es) (suc i) h = is_there es i (omega arith)

at_head : (e : E.Entry) (es : List E.Entry) (n : ℕ) → n ≡ 0 → slice_get (e ∷ es) n ≡ Some e
at_head e es zero h = refl
at_head e es (suc n) h = absurd (omega arith)

at_tail : (e : E.Entry) (es : List E.Entry) (n k : ℕ) → n ≡ suc k → slice_get (e ∷ es) n ≡ slice_get es k
at_tail e es zero k h = absurd (omega arith)
at_tail e es (suc n) k h = let g : n ≡ k = omega arith in ap (slice_get es) g

last_wins : (b : Bool) (f g : Entry) → or_else (if b then Some f else None) (Some g) ≡ Some g
last_wins b f g = refl

place_first : (b : Bool) (p : ℕ) (e : E.Entry) (es : List E.Entry) (o : Option ℕ) (r : Option Entry) → Inside (suc p) (length es) o → at_place es (suc p) o ≡ r → at_place (e ∷ es) p (or_later (if b then Some p else None) o) ≡ or_else (if b then Some (entry_of e) else None) r
place_first true p e es None r h g = ap (option_map entry_of) (at_head e es (p - p) (omega arith)) ∙ ap (or_else (Some (entry_of e))) g
place_first false p e es None r h g = ap (or_else None) g
place_first b p e es (Some l) r h g =
    let f = h.0 in
    let k = h.1 in
    let t = is_there es (l - suc p) (omega arith) in
    let v : r ≡ Some (entry_of t.0) = sym g ∙ ap (option_map entry_of) t.1 in
    ap (option_map entry_of) (at_tail e es (l - p) (l - suc p) (omega arith) ∙ t.1) ∙ sym (ap (or_else (if b then Some (entry_of e) else None)) v)

find_from : (p : ℕ) (es : List E.Entry) (x : ℕ) → at_place es p (last_from p (map entry_number es) x) ≡ find (map entry_of es) x
find_from p [] x = refl
find_from p (e ∷ es) x = place_first (entry_number e == x) p e es (last_from (suc p) (map entry_number es) x) (find (map entry_of es) x) (inside_from (suc p) es x) (find_from (suc p) es x)

inside_some : (o : Option ℕ) (n l : ℕ) → Inside 0 n o → o ≡ Some l → l < n
inside_some None n l h e = absurd (cc)
inside_some (Some k) n l h e = let z : k ≡ l = cc in let g = h.1 in omega arith

pub last_inside : (es : List E.Entry) (ns : List ℕ) (x l : ℕ) → ns ≡ map entry_number es → Some l ≡ last ns x → l < length es
last_inside es ns x l h g = inside_some (last (map entry_number es) x) (length es) l (inside_from 0 es x) (sym (g ∙ ap (λ r. last r x) h))

get_some : (es : List E.Entry) (l : ℕ) (e : E.Entry) → l < length es → e ≡ get_or es l e → slice_get es l ≡ Some e
get_some [] l e h g = absurd (omega arith)
get_some (f ∷ es) zero e h g = ap (λ (q : E.Entry). Some q) (sym g)
get_some (f ∷ es) (suc l) e h g = get_some es l e (omega arith) g

pub find_some : (es : List E.Entry) (ns : List ℕ) (x l : ℕ) (e : E.Entry) → ns ≡ map entry_number es → Some l ≡ last ns x → e ≡ get_or es l e → Some (entry_of e) ≡ find (map entry_of es) x
find_some es ns x l e h g k =
    let z : l - 0 ≡ l = omega arith in
    sym (ap (option_map entry_of) (ap (slice_get es) z ∙ get_some es l e (last_inside es ns x l h g) k)) ∙ sym (ap (at_place es 0) (sym (g ∙ ap (λ r. last r x) h))) ∙ find_from 0 es x

pub find_none : (es : List E.Entry) (ns : List ℕ) (x : ℕ) → ns ≡ map entry_number es → last ns x ≡ None → None ≡ find (map entry_of es) x
find_none es ns x h g = sym (ap (at_place es 0) (ap (λ r. last r x) (sym h) ∙ g)) ∙ find_from 0 es x

-- ---- what a variable is known by

known_first : (b : Bool) (e : Entry) (r : Option Entry) → or_later (if b then Some e.mark.id else None) (option_map (λ (f : Entry). f.mark.id) r) ≡ option_map (λ (f : Entry). f.mark.id) (or_else (if b then Some e else None) r)
known_first true e None = refl
known_first false e None = refl
known_first b e (Some f) = refl

known_find : (es : List Entry) (x : ℕ) → known (marks_of es) x ≡ option_map (λ (f : Entry). f.mark.id) (find es x)
known_find [] x = refl
known_find (e ∷ es) x = ap (or_later (if e.mark.number == x then Some e.mark.id else None)) (known_find es x) ∙ known_first (e.mark.number == x) e (find es x)

pub known_some : (es : List Entry) (x : ℕ) (e : Entry) → find es x ≡ Some e → known (marks_of es) x ≡ Some e.mark.id
known_some es x e h = known_find es x ∙ ap (option_map (λ (f : Entry). f.mark.id)) h

pub known_none : (es : List Entry) (x : ℕ) → find es x ≡ None → known (marks_of es) x ≡ None
known_none es x h = known_find es x ∙ ap (option_map (λ (f : Entry). f.mark.id)) h

low_first : (b : Bool) (e : Entry) (r : Option Entry) → b ≡ false → r ≡ None → or_else (if b then Some e else None) r ≡ None
low_first b e r h g = rw (h, g) refl

look_low : (k n x : ℕ) (es : List Entry) → Rises k es n → x < k → look es x ≡ None
look_low k n x [] h g = refl
look_low k n x (e ∷ es) h g = let f = h.0 in low_first (e.mark.id == x) e (look es x) (apart_back x e.mark.id (omega arith)) (look_low (suc e.mark.id) n x es h.1 (omega arith))

look_head : (b : Bool) (e : Entry) (r : Option Entry) → b ≡ true → r ≡ None → or_else (if b then Some e else None) r ≡ Some e
look_head b e r h g = rw (h, g) refl

found_here : (b : Bool) (n : ℕ) (f e : Entry) (es : List Entry) → (if b then Some f else None) ≡ Some e → Rises (suc f.mark.id) es n → look (f ∷ es) e.mark.id ≡ Some e
found_here true n f e es h g =
    let z : f ≡ e = cc in
    subst (λ (q : Entry). look (f ∷ es) q.mark.id ≡ Some q) z (look_head (f.mark.id == f.mark.id) f (look es f.mark.id) (same_test f.mark.id f.mark.id refl) (look_low (suc f.mark.id) n f.mark.id es g (omega arith)))
found_here false n f e es h g = absurd (cc)

found_after : (n : ℕ) (f e : Entry) (es : List Entry) (b : Bool) (o : Option Entry) → or_else (if b then Some f else None) o ≡ Some e → (o ≡ Some e → look es e.mark.id ≡ Some e) → Rises (suc f.mark.id) es n → look (f ∷ es) e.mark.id ≡ Some e
found_after n f e es b None h g r = found_here b n f e es h r
found_after n f e es b (Some q) h g r = ap (or_else (if f.mark.id == e.mark.id then Some f else None)) (g h)

pub find_look : (k n x : ℕ) (es : List Entry) (e : Entry) → Rises k es n → find es x ≡ Some e → look es e.mark.id ≡ Some e
find_look k n x [] e h g = absurd (cc)
find_look k n x (f ∷ es) e h g = found_after n f e es (f.mark.number == x) (find es x) g (λ q. find_look (suc f.mark.id) n x es e h.1 q) h.1

-- ---- it rises

pub rises_end : (k n : ℕ) (es : List Entry) (e : Entry) → Rises k es n → e.mark.id ≡ n → Rises k (es ++ e ∷ []) (suc n)
rises_end k n [] e h g = (omega arith, omega arith)
rises_end k n (f ∷ es) e h g = (h.0, rises_end (suc f.mark.id) n es e h.1 g)

rises_le : (k n : ℕ) (es : List Entry) → Rises k es n → k ≤ n
rises_le k n [] h = h
rises_le k n (f ∷ es) h = let g = rises_le (suc f.mark.id) n es h.1 in let l = h.0 in omega arith

pub rises_front : (k n : ℕ) (es : List Entry) (e : Entry) → Rises k (es ++ e ∷ []) n → Rises k es n
rises_front k n [] e h = let f = h.0 in let g = h.1 in omega arith
rises_front k n (f ∷ es) e h = (h.0, rises_front (suc f.mark.id) n es e h.1)

-- more binders came
pub rises_more : (k n m : ℕ) (es : List Entry) → n ≤ m → Rises k es n → Rises k es m
rises_more k n m [] l h = omega (arith, l, h)
rises_more k n m (f ∷ es) l h = (h.0, rises_more (suc f.mark.id) n m es l h.1)

pub rises_same : (n k : ℕ) (es fs : List Entry) (e : Entry) → Rises 0 es n → e.mark.id ≡ n → fs ≡ es ++ e ∷ [] → k ≡ n + 1 → Rises 0 fs k
rises_same n k es fs e h g p q =
    let z : suc n ≡ k = omega arith in
    subst (λ m. Rises 0 fs m) z (subst (λ xs. Rises 0 xs (suc n)) (sym p) (rises_end 0 n es e h g))
