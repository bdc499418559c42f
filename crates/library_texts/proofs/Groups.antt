-- The groups of a program, as they are written out, are right, and no instance waits for its own group: by computation.
-- What a function reaches is a list that no call leads out of.
use Rattle.std.proofs.Common.{◌≡◌, ◌<◌, inl, inr, ℕ, zero, suc, ◌+◌, Bool, true, false, ◌&&◌, ◌||◌, not, ◌==◌, if◌then◌else◌, List, [], ◌∷◌, length, Option, Some, None, refl, sym, ap, subst, ◌∙◌, arith}
use Rattle.std.specs.Prelude.{◌↔◌, slice_get}
use Rattle.std.specs.List.{list_any}
use Rattle.std.proofs.lemmas.Bool.{and_parts}
use Rattle.std.proofs.lemmas.Option.{none-some, same_Some, slice_get_within}
use Rattle.source_report.specs.fip_trees.declared.groups.Member.{Member}
use Rattle.source_report.specs.fip_trees.declared.least.Violation.{Violation}
use Rattle.source_report.specs.fip_trees.Tree.{Instance, Program}
use Rattle.source_report.specs.call_groups.declared.search.Call.{Call}
use Rattle.source_report.specs.call_groups.Groups.{In, calls_of, call, Calls, Path, Reaches, SameGroup}
use Rattle.source_report.specs.tail_groups.Sites.{Site, instance_sites, call_rows}
use Rattle.source_report.specs.tail_groups.Rules.{Violates}
use Rattle.source_report.proofs.fip_language.Facts.{same_number, equal_true, or_cases, both_true, less_or_same}

-- ---- tests of lists and of numbers

abbrev pub every : {A : Type 0} → (A → Bool) → List A → Bool
every p [] = true
every p (x ∷ xs) = p x && every p xs

abbrev has : List ℕ → ℕ → Bool
has xs x = list_any (λ y. y == x) xs

abbrev pub below : (ℕ → Bool) → ℕ → Bool
below p zero = true
below p (suc n) = p n && below p n

pub every_in : {A : Type 0} (p : A → Bool) (xs : List A) → every p xs ≡ true → (i : ℕ) (x : A) → slice_get xs i ≡ Some x → p x ≡ true
every_in p [] h i x e = absurd (none-some x e)
every_in p (y ∷ xs) h zero x e = subst (λ z. p z ≡ true) (same_Some y x e) (and_parts (p y) (every p xs) h).0
every_in p (y ∷ xs) h (suc i) x e = every_in p xs (and_parts (p y) (every p xs) h).1 i x e

every_has : (p : ℕ → Bool) (xs : List ℕ) → every p xs ≡ true → (x : ℕ) → has xs x ≡ true → p x ≡ true
every_has p [] h x e = absurd (cc)
every_has p (y ∷ xs) h x e =
    let parts = and_parts (p y) (every p xs) h in
    elim (or_cases (y == x) (has xs x) e) [ inl s ↦ subst (λ z. p z ≡ true) (same_number y x s) parts.0 | inr s ↦ every_has p xs parts.1 x s ]

pub below_in : (p : ℕ → Bool) (n : ℕ) → below p n ≡ true → (i : ℕ) → i < n → p i ≡ true
below_in p zero h i l = absurd (omega arith)
below_in p (suc n) h i l =
    let parts = and_parts (p n) (below p n) h in
    elim (less_or_same n i l) [ inl k ↦ below_in p n parts.1 i k | inr e ↦ subst (λ z. p z ≡ true) (sym e) parts.0 ]

-- ---- what is reached

abbrev with_callees : List ℕ → List Call → List ℕ
with_callees xs [] = xs
with_callees xs (c ∷ cs) = with_callees (if has xs c.callee then xs else c.callee ∷ xs) cs

abbrev with_all_callees : List (List Call) → List ℕ → List ℕ → List ℕ
with_all_callees rs xs [] = xs
with_all_callees rs xs (y ∷ ys) = with_all_callees rs (with_callees xs (calls_of rs y)) ys

abbrev closure : List (List Call) → ℕ → List ℕ → List ℕ
closure rs zero xs = xs
closure rs (suc n) xs = closure rs n (with_all_callees rs xs xs)

-- what a function reaches
abbrev reached : List (List Call) → ℕ → List ℕ
reached rs a = closure rs (length rs) (a ∷ [])

abbrev is_closed : List (List Call) → List ℕ → Bool
is_closed rs xs = every (λ x. every (λ c. has xs c.callee) (calls_of rs x)) xs

one_more : (rs : List (List Call)) (n a b c : ℕ) (k : Bool) → Path rs n a b → Calls rs b c k → Path rs (suc n) a c
one_more rs zero a b c k p h = (c, (k, subst (λ x. Calls rs x c k) (sym p) h), refl)
one_more rs (suc n) a b c k p h = (p.0, p.1, one_more rs n p.0 b c k p.2 h)

abbrev AllReached : List (List Call) → ℕ → List ℕ → Type 0
AllReached rs a xs = (b : ℕ) → has xs b ≡ true → Reaches rs a b

if_new : (rs : List (List Call)) (a c : ℕ) (xs : List ℕ) (b : Bool) → AllReached rs a xs → Reaches rs a c → AllReached rs a (if b then xs else c ∷ xs)
if_new rs a c xs true h r = h
if_new rs a c xs false h r = λ x e. elim (or_cases (c == x) (has xs x) e) [ inl s ↦ subst (Reaches rs a) (same_number c x s) r | inr s ↦ h x s ]

callees_reached : (rs : List (List Call)) (a y : ℕ) → Reaches rs a y → (cs : List Call) → ((i : ℕ) (c : Call) → slice_get cs i ≡ Some c → In c (calls_of rs y)) → (xs : List ℕ) → AllReached rs a xs → AllReached rs a (with_callees xs cs)
callees_reached rs a y r [] f xs h = h
callees_reached rs a y r (c ∷ cs) f xs h =
    let there : Calls rs y c.callee c.waits = f 0 c refl in
    callees_reached rs a y r cs (λ i d e. f (suc i) d e) (if has xs c.callee then xs else c.callee ∷ xs)
    (if_new rs a c.callee xs (has xs c.callee) h (suc r.0, one_more rs r.0 a y c.callee c.waits r.1 there))

all_reached : (rs : List (List Call)) (a : ℕ) (ys xs : List ℕ) → AllReached rs a ys → AllReached rs a xs → AllReached rs a (with_all_callees rs xs ys)
all_reached rs a [] xs g h = h
all_reached rs a (y ∷ ys) xs g h =
    all_reached rs a ys (with_callees xs (calls_of rs y)) (λ b e. g b (last (y == b) (has ys b) e))
    (callees_reached rs a y (g y (first (y == y) (has ys y) (equal_true y y refl))) (calls_of rs y) (λ i c e. (i, e)) xs h)
  where
    first : (p q : Bool) → p ≡ true → (p || q) ≡ true
    first true q e = refl
    first false q e = absurd (cc)

    last : (p q : Bool) → q ≡ true → (p || q) ≡ true
    last true q e = refl
    last false q e = e

closure_reached : (rs : List (List Call)) (n a : ℕ) (xs : List ℕ) → AllReached rs a xs → AllReached rs a (closure rs n xs)
closure_reached rs zero a xs h = h
closure_reached rs (suc n) a xs h = closure_reached rs n a (with_all_callees rs xs xs) (all_reached rs a xs xs h h)

itself : (rs : List (List Call)) (a : ℕ) → AllReached rs a (a ∷ [])
itself rs a b e = elim (or_cases (a == b) false e) [ inl s ↦ (0, same_number a b s) | inr s ↦ absurd (cc) ]

does_reach : (rs : List (List Call)) (a b : ℕ) → has (reached rs a) b ≡ true → Reaches rs a b
does_reach rs a b e = closure_reached rs (length rs) a (a ∷ []) (itself rs a) b e

-- no call leads out
stays : (rs : List (List Call)) (xs : List ℕ) → is_closed rs xs ≡ true → (n a b : ℕ) → Path rs n a b → has xs a ≡ true → has xs b ≡ true
stays rs xs h zero a b p e = subst (λ x. has xs x ≡ true) p e
stays rs xs h (suc n) a b p e =
    let inner = every_has (λ x. every (λ c. has xs c.callee) (calls_of rs x)) xs h a e in
    stays rs xs h n p.0 b p.2 (every_in (λ c. has xs c.callee) (calls_of rs a) inner p.1.1.0 (call p.0 p.1.0) p.1.1.1)

-- the list of what a function reaches is whole
abbrev is_whole : List (List Call) → ℕ → Bool
is_whole rs a = is_closed rs (reached rs a) && has (reached rs a) a

is_in_reached : (rs : List (List Call)) (a b : ℕ) → is_whole rs a ≡ true → Reaches rs a b → has (reached rs a) b ≡ true
is_in_reached rs a b h r =
    let parts = and_parts (is_closed rs (reached rs a)) (has (reached rs a) a) h in
    stays rs (reached rs a) parts.0 r.0 a b r.1 parts.1

-- ---- groups

abbrev are_one_group : List (List Call) → ℕ → ℕ → Bool
are_one_group rs a b = has (reached rs a) b && has (reached rs b) a

abbrev group_in : Option Member → ℕ
group_in None = 0
group_in (Some m) = m.group

abbrev group_at : List Member → ℕ → ℕ
group_at ms i = group_in (slice_get ms i)

abbrev pub agree : Bool → Bool → Bool
agree true b = b
agree false b = not b

abbrev groups_agree : List (List Call) → List Member → ℕ → ℕ → Bool
groups_agree rs ms i j = agree (group_at ms i == group_at ms j) (are_one_group rs i j)

pub agreed : (a b : Bool) → agree a b ≡ true → (a ≡ true → b ≡ true) × (b ≡ true → a ≡ true)
agreed true b e = (λ h. e, λ h. refl)
agreed false true e = absurd (cc)
agreed false false e = (λ h. h, λ h. h)

-- the numbers of the groups are right for the functions below n
abbrev pub are_groups : List (List Call) → List Member → ℕ → Bool
are_groups rs ms n = below (λ i. is_whole rs i && below (groups_agree rs ms i) n) n

pub right_groups : (rs : List (List Call)) (ms : List Member) → are_groups rs ms (length ms) ≡ true → (i j : ℕ) (m n : Member) → slice_get ms i ≡ Some m → slice_get ms j ≡ Some n → (m.group ≡ n.group) ↔ SameGroup rs i j
right_groups rs ms h i j m n e f = (to, from)
  where
    row : (k : ℕ) (x : Member) → slice_get ms k ≡ Some x → (is_whole rs k ≡ true) × (below (groups_agree rs ms k) (length ms) ≡ true)
    row k x g = and_parts (is_whole rs k) (below (groups_agree rs ms k) (length ms)) (below_in (λ i. is_whole rs i && below (groups_agree rs ms i) (length ms)) (length ms) h k (slice_get_within ms k x g))

    pair : ((group_at ms i == group_at ms j) ≡ true → are_one_group rs i j ≡ true) × (are_one_group rs i j ≡ true → (group_at ms i == group_at ms j) ≡ true)
    pair = agreed (group_at ms i == group_at ms j) (are_one_group rs i j) (below_in (groups_agree rs ms i) (length ms) (row i m e).1 j (slice_get_within ms j n f))

    same_i : group_at ms i ≡ m.group
    same_i = ap group_in e

    same_j : group_at ms j ≡ n.group
    same_j = ap group_in f

    to : m.group ≡ n.group → SameGroup rs i j
    to g =
        let both = and_parts (has (reached rs i) j) (has (reached rs j) i) (pair.0 (equal_true (group_at ms i) (group_at ms j) (same_i ∙ g ∙ sym same_j))) in
        (does_reach rs i j both.0, does_reach rs j i both.1)

    from : SameGroup rs i j → m.group ≡ n.group
    from s =
        let one = is_in_reached rs i j (row i m e).0 s.0 in
        let two = is_in_reached rs j i (row j n f).0 s.1 in
        sym same_i ∙ same_number (group_at ms i) (group_at ms j) (pair.1 (both_true (has (reached rs i) j) (has (reached rs j) i) one two)) ∙ same_j

-- ---- no instance waits for its own group

abbrev is_apart : List (List Call) → ℕ → Site → Bool
is_apart rs i s = s.is_tail || (is_whole rs s.callee && not (has (reached rs s.callee) i))

abbrev pub none_waits : List (List Call) → ℕ → List Instance → Bool
none_waits rs i [] = true
none_waits rs i (d ∷ ds) = every (is_apart rs i) (instance_sites d) && none_waits rs (suc i) ds

site_apart : (rs : List (List Call)) (n : ℕ) (ds : List Instance) → none_waits rs n ds ≡ true → (i : ℕ) (d : Instance) (s : Site) → slice_get ds i ≡ Some d → In s (instance_sites d) → is_apart rs (n + i) s ≡ true
site_apart rs n [] h i d s e f = absurd (none-some d e)
site_apart rs n (x ∷ ds) h zero d s e f =
    let parts = and_parts (every (is_apart rs n) (instance_sites x)) (none_waits rs (suc n) ds) h in
    let same : n ≡ n + 0 = omega arith in
    let all : every (is_apart rs n) (instance_sites d) ≡ true = subst (λ y. every (is_apart rs n) (instance_sites y) ≡ true) (same_Some x d e) parts.0 in
    subst (λ k. is_apart rs k s ≡ true) same (every_in (is_apart rs n) (instance_sites d) all f.0 s f.1)
site_apart rs n (x ∷ ds) h (suc i) d s e f =
    let parts = and_parts (every (is_apart rs n) (instance_sites x)) (none_waits rs (suc n) ds) h in
    let same : suc n + i ≡ n + suc i = omega arith in
    subst (λ k. is_apart rs k s ≡ true) same (site_apart rs (suc n) ds parts.1 i d s e f)

not_both : (b : Bool) → not b ≡ true → b ≡ true → ⊥
not_both true h e = absurd (cc)
not_both false h e = absurd (cc)

waits_apart : (rs : List (List Call)) (i : ℕ) (s : Site) → is_apart rs i s ≡ true → s.is_tail ≡ false → Reaches rs s.callee i → ⊥
waits_apart rs i s h w r = by s.is_tail w h
  where
    by : (t : Bool) → t ≡ false → (t || (is_whole rs s.callee && not (has (reached rs s.callee) i))) ≡ true → ⊥
    by true w h = absurd (cc)
    by false w h =
        let parts = and_parts (is_whole rs s.callee) (not (has (reached rs s.callee) i)) h in
        not_both (has (reached rs s.callee) i) parts.1 (is_in_reached rs s.callee i parts.0 r)

pub tails_right : (p : Program) → none_waits (call_rows p.instances) 0 p.instances ≡ true → (v : Violation) → Violates p v → ⊥
tails_right p h v (i, d, s, w, e) =
    let same : 0 + i ≡ i = omega arith in
    waits_apart (call_rows p.instances) i s (subst (λ k. is_apart (call_rows p.instances) k s ≡ true) same (site_apart (call_rows p.instances) 0 p.instances h i d s w.instance w.call)) w.waits w.together.1
