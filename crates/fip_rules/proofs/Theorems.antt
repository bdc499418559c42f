-- What going over a part does, form by form.
use Rattle.std.proofs.Common.{◌≡◌, ℕ, zero, suc, ◌≤◌, refl, sym, ap, ◌∙◌, List, [], ◌∷◌, ◌++◌, take, drop, length, map, append_assoc, Option, Bool, arith}
use Rattle.std.specs.Prelude.{filter}
use Rattle.std.proofs.lemmas.List.{append-nil}
use Rattle.fip_trees.specs.fip_language.declared.rule.Rule.{Rule}
use Rattle.fip_trees.specs.declared.least.Violation.{Violation}
use Rattle.fip_trees.specs.Least.{better, after}
use Rattle.fip_trees.specs.Tree.{Clauses, NoClauses, MoreClauses}
use Rattle.fip_rules.specs.Marks.{Mark, Entry, Breach, reported}
use Rattle.fip_rules.specs.Shape as S
use Rattle.fip_rules.specs.Rules.{broken, next}
use Rattle.fip_rules.specs.Notes.{has, distinct, look, Walked, entry, enter, deeper, run, notes, uses, always, waits, if_waits, exposed, missed, use_notes, lend_notes}
use Rattle.fip_rules.specs.World.{World}
use Rattle.fip_rules.specs.Shapes.{Names, Bind, mark, binds, within, following, taking, binders, clause_shape, shape_block, shape_clauses}
use Rattle.fip_rules.specs.Stands.{Stand, marks_of, marks, names, noted, go, entered, entered_all, missed_from, with_scope, left_to, deepened, with_level, surfaced, with_used, with_walked, aside, back, went, still, others}
use Rattle.fip_rules.proofs.Lists.{distinct_both}
use Rattle.fip_rules.proofs.Shared.{after_reported}
pub use Rattle.fip_base.proofs.fip_language.Facts.{take_seam}

abbrev pub stands : Stand → Option Violation → Walked → List Mark → ℕ → Stand
stands t o w q n = record { instance = t.instance; fip = t.fip; found = o; walked = w; waiting = q; next = n }

nothing_more : (s : Walked) → with_used (s.used ++ []) (s.always ++ []) s ≡ s
nothing_more s = ap (λ u. with_used u (s.always ++ []) s) (append-nil s.used) ∙ ap (λ x. with_used s.used x s) (append-nil s.always)

pub go_use : (t : Stand) (m : Mark) → go t (S.Use m) ≡ with_walked (with_used (t.walked.used ++ m.id ∷ []) (t.walked.always ++ m.id ∷ []) t.walked) (noted t (use_notes (look t.walked.scope m.id) t.instance (has t.walked.used m.id) m))
unfolding go
go_use t m = ap (λ q. stands t (after t.found (map reported (use_notes (look t.walked.scope m.id) t.instance (has t.walked.used m.id) m))) (with_used (t.walked.used ++ m.id ∷ []) (t.walked.always ++ m.id ∷ []) t.walked) q t.next) (append-nil t.waiting)

pub go_lend : (t : Stand) (m : Mark) → go t (S.Lend m) ≡ stands t (after t.found (map reported (lend_notes (look t.walked.scope m.id) t.instance (has t.walked.used m.id) t.walked.level m))) t.walked (t.waiting ++ if_waits (look t.walked.scope m.id) t.walked.level m) t.next
unfolding go
go_lend t m = ap (λ w. stands t (after t.found (map reported (lend_notes (look t.walked.scope m.id) t.instance (has t.walked.used m.id) t.walked.level m))) w (t.waiting ++ if_waits (look t.walked.scope m.id) t.walked.level m) t.next) (nothing_more t.walked)

pub go_fault : (t : Stand) (r : Rule) (m : Mark) → go t (S.Fault r m) ≡ stands t (better t.found (reported (broken r t.instance m))) t.walked t.waiting t.next
unfolding go
go_fault t r m = ap (λ w. stands t (better t.found (reported (broken r t.instance m))) w (t.waiting ++ []) t.next) (nothing_more t.walked) ∙ ap (λ q. stands t (better t.found (reported (broken r t.instance m))) t.walked q t.next) (append-nil t.waiting)

pub go_skip : (t : Stand) → go t S.Skip ≡ t
unfolding go
go_skip t = ap (λ w. stands t t.found w (t.waiting ++ []) t.next) (nothing_more t.walked) ∙ ap (λ q. stands t t.found t.walked q t.next) (append-nil t.waiting)

pub go_then : (t : Stand) (a b : S.Shape) → go t (S.Then a b) ≡ go (go t a) b
unfolding go
go_then t a b =
    let n = next (next t.next a) b in
    ap (λ o. stands t o (run t.walked (S.Then a b)) (t.waiting ++ (waits t.walked.scope t.walked.level a ++ waits t.walked.scope t.walked.level b)) n) (after_reported t.found (notes t.instance t.fip t.walked a) (notes t.instance t.fip (run t.walked a) b))
    ∙ ap (λ u. stands t (go (go t a) b).found (with_used u (t.walked.always ++ (always a ++ always b)) t.walked) (t.waiting ++ (waits t.walked.scope t.walked.level a ++ waits t.walked.scope t.walked.level b)) n) (sym (append_assoc t.walked.used (uses a) (uses b)))
    ∙ ap (λ u. stands t (go (go t a) b).found (with_used ((t.walked.used ++ uses a) ++ uses b) u t.walked) (t.waiting ++ (waits t.walked.scope t.walked.level a ++ waits t.walked.scope t.walked.level b)) n) (sym (append_assoc t.walked.always (always a) (always b)))
    ∙ ap (λ q. stands t (go (go t a) b).found (go (go t a) b).walked q n) (sym (append_assoc t.waiting (waits t.walked.scope t.walked.level a) (waits t.walked.scope t.walked.level b)))

-- the variables in scope stay
pub marks_go : (t : Stand) (a : S.Shape) → marks (go t a) ≡ marks t
unfolding go
marks_go t a = refl

pub names_go : (t : Stand) (a : S.Shape) → names (go t a) ≡ following (names t) a
unfolding go
names_go t a = refl

-- ---- lists

seam_start : (n : ℕ) (es : List Entry) → take n es ++ drop n es ≡ es
seam_start zero es = refl
seam_start (suc n) [] = refl
seam_start (suc n) (e ∷ es) = ap (λ q. e ∷ q) (seam_start n es)

seam : (k n : ℕ) (es : List Entry) → k ≤ n → drop k (take n es) ++ drop n es ≡ drop k es
seam zero zero es h = refl
seam zero (suc n) [] h = refl
seam zero (suc n) (e ∷ es) h = ap (λ q. e ∷ q) (seam_start n es)
seam (suc k) zero es h = absurd (omega arith)
seam (suc k) (suc n) [] h = refl
seam (suc k) (suc n) (e ∷ es) h = seam k n es (omega arith)

take_twice : (k n : ℕ) (es : List Entry) → k ≤ n → take k (take n es) ≡ take k es
take_twice zero n es h = refl
take_twice (suc k) zero es h = absurd (omega arith)
take_twice (suc k) (suc n) [] h = refl
take_twice (suc k) (suc n) (e ∷ es) h = ap (λ q. e ∷ q) (take_twice k n es (omega arith))

drop_whole : {A : Type 0} (xs : List A) → drop (length xs) xs ≡ []
drop_whole [] = refl
drop_whole (x ∷ xs) = drop_whole xs

take_whole : {A : Type 0} (xs : List A) → take (length xs) xs ≡ xs
take_whole [] = refl
take_whole (x ∷ xs) = ap (λ q. x ∷ q) (take_whole xs)

pub drop_seam : {A : Type 0} (xs ys : List A) → drop (length xs) (xs ++ ys) ≡ ys
drop_seam [] ys = refl
drop_seam (x ∷ xs) ys = drop_seam xs ys

-- ---- scopes

missed_both : (i : ℕ) (fip : Bool) (es fs : List Entry) (xs : List ℕ) → missed_from i fip (es ++ fs) xs ≡ missed_from i fip fs xs ++ missed_from i fip es xs
missed_both i fip [] fs xs = sym (append-nil (missed_from i fip fs xs))
missed_both i fip (e ∷ es) fs xs = ap (λ q. q ++ missed i fip e.ownership e.mark xs) (missed_both i fip es fs xs) ∙ append_assoc (missed_from i fip fs xs) (missed_from i fip es xs) (missed i fip e.ownership e.mark xs)

abbrev left : Stand → List Breach → List Entry → Stand
left t vs es = stands t (after t.found (map reported vs)) (with_scope es t.walked) t.waiting t.next

pub left_twice : (k n : ℕ) (t : Stand) → k ≤ n → left_to k (left_to n t) ≡ left_to k t
left_twice k n t h =
    let i = t.instance in
    let xs = t.walked.always in
    let es = t.walked.scope in
    ap (λ q. stands t (after (after t.found (map reported (missed_from i t.fip (drop n es) xs))) (map reported (missed_from i t.fip (drop k (take n es)) xs))) (with_scope q t.walked) t.waiting t.next) (take_twice k n es h)
    ∙ ap (λ o. stands t o (with_scope (take k es) t.walked) t.waiting t.next) (sym (after_reported t.found (missed_from i t.fip (drop n es) xs) (missed_from i t.fip (drop k (take n es)) xs)))
    ∙ ap (λ vs. left t vs (take k es)) (sym (missed_both i t.fip (drop k (take n es)) (drop n es) xs) ∙ ap (λ q. missed_from i t.fip q xs) (seam k n es h))

pub left_whole : (t : Stand) → left_to (length t.walked.scope) t ≡ t
left_whole t = ap (λ q. left t (missed_from t.instance t.fip q t.walked.always) (take (length t.walked.scope) t.walked.scope)) (drop_whole t.walked.scope) ∙ ap (λ q. left t [] q) (take_whole t.walked.scope)

-- the scope that a part leaves is the one that it found
pub go_scope_of : (t : Stand) (a : S.Shape) → (go t a).walked.scope ≡ t.walked.scope
unfolding go
go_scope_of t a = refl

pub left_go : (t : Stand) (a : S.Shape) → left_to (length t.walked.scope) (go t a) ≡ go t a
unfolding go
left_go t a = left_whole (go t a)

go_scope : (t : Stand) (b : Bind) (a : S.Shape) → go t (S.Scope b.ownership (mark t.next b.binder) a) ≡ left_to (length t.walked.scope) (go (entered t b) a)
unfolding go
go_scope t b a =
    let k = b.ownership in
    let m = mark t.next b.binder in
    let g = go (entered t b) a in
    let es = t.walked.scope in
    let e = entry t.walked k m in
    ap (λ o. stands t o (run t.walked (S.Scope k m a)) (t.waiting ++ waits t.walked.scope t.walked.level (S.Scope k m a)) (next t.next (S.Scope k m a))) (after_reported t.found (notes t.instance t.fip (enter t.walked k m) a) (missed t.instance t.fip k m (t.walked.always ++ always a)))
    ∙ sym (ap (λ q. left g (missed_from t.instance t.fip q g.walked.always) (take (length es) (es ++ e ∷ []))) (drop_seam es (e ∷ [])) ∙ ap (λ q. left g (missed_from t.instance t.fip (e ∷ []) g.walked.always) q) (take_seam es (e ∷ [])))

length_end : (es : List Entry) (e : Entry) → length es ≤ length (es ++ e ∷ [])
length_end [] e = omega arith
length_end (f ∷ es) e = let h = length_end es e in omega arith

pub go_binds : (t : Stand) (bs : List Bind) (e : S.Shape) → go t (binds t.next bs e) ≡ left_to (length t.walked.scope) (go (entered_all t bs) e)
go_binds t [] e = sym (left_go t e)
go_binds t (b ∷ bs) e =
    go_scope t b (binds (suc t.next) bs e)
    ∙ ap (left_to (length t.walked.scope)) (go_binds (entered t b) bs e)
    ∙ left_twice (length t.walked.scope) (length (t.walked.scope ++ entry t.walked b.ownership (mark t.next b.binder) ∷ [])) (go (entered_all (entered t b) bs) e) (length_end t.walked.scope (entry t.walked b.ownership (mark t.next b.binder)))

marks_end : (es : List Entry) (e : Entry) → marks_of (es ++ e ∷ []) ≡ marks_of es ++ e.mark ∷ []
marks_end [] e = refl
marks_end (f ∷ es) e = ap (λ q. f.mark ∷ q) (marks_end es e)

pub names_entered : (t : Stand) (bs : List Bind) → names (entered_all t bs) ≡ within (names t) bs
names_entered t [] = refl
names_entered t (b ∷ bs) = names_entered (entered t b) bs ∙ ap (λ ms. within (record { marks = ms; next = suc t.next }) bs) (marks_end t.walked.scope (entry t.walked b.ownership (mark t.next b.binder)))

pub go_clause : (t : Stand) (bs : List Bind) (body : Names → S.Shape) → went t bs body ≡ left_to (length t.walked.scope) (go (entered_all t bs) (body (names (entered_all t bs))))
go_clause t bs body = go_binds t bs (body (within (names t) bs)) ∙ ap (λ c. left_to (length t.walked.scope) (go (entered_all t bs) (body c))) (sym (names_entered t bs))

pub entered_append : (t : Stand) (bs cs : List Bind) → entered_all t (bs ++ cs) ≡ entered_all (entered_all t bs) cs
entered_append t [] cs = refl
entered_append t (b ∷ bs) cs = entered_append (entered t b) bs cs

-- ---- a bound expression

pub level_go : (t : Stand) (a : S.Shape) → (go t a).walked.level ≡ t.walked.level
unfolding go
level_go t a = refl

pub go_bound : (t : Stand) (a : S.Shape) → go t (S.Bound a) ≡ surfaced t.walked.level (length t.waiting) (length t.walked.used) (go (deepened t) a)
unfolding go
go_bound t a =
    let g = go (deepened t) a in
    let W = waits t.walked.scope (suc t.walked.level) a in
    sym (
    ap (λ q. stands t (after g.found (map reported (exposed t.instance q (drop (length t.walked.used) (t.walked.used ++ uses a))))) (with_level t.walked.level g.walked) (take (length t.waiting) (t.waiting ++ W)) g.next) (drop_seam t.waiting W)
    ∙ ap (λ q. stands t (after g.found (map reported (exposed t.instance W q))) (with_level t.walked.level g.walked) (take (length t.waiting) (t.waiting ++ W)) g.next) (drop_seam t.walked.used (uses a))
    ∙ ap (λ q. stands t (after g.found (map reported (exposed t.instance W (uses a)))) (with_level t.walked.level g.walked) q g.next) (take_seam t.waiting W ∙ sym (append-nil t.waiting))
    ∙ ap (λ o. stands t o (run t.walked (S.Bound a)) (t.waiting ++ []) g.next) (sym (after_reported t.found (notes t.instance t.fip (deeper t.walked) a) (exposed t.instance W (uses a))))
    )

-- ---- clauses

-- after the clauses in acc, with what they used up taken aside
abbrev between : Stand → S.Shape → Stand
between t acc = stands t (after t.found (map reported (notes t.instance t.fip t.walked acc))) t.walked (t.waiting ++ waits t.walked.scope t.walked.level acc) (next t.next acc)

aside_is : (t : Stand) (acc : S.Shape) → aside (length t.walked.used) (length t.walked.always) (go t acc) ≡ between t acc
unfolding go
aside_is t acc =
    ap (λ q. stands t (go t acc).found (with_used q (take (length t.walked.always) (t.walked.always ++ always acc)) t.walked) (go t acc).waiting (go t acc).next) (take_seam t.walked.used (uses acc))
    ∙ ap (λ q. stands t (go t acc).found (with_used t.walked.used q t.walked) (go t acc).waiting (go t acc).next) (take_seam t.walked.always (always acc))

aside_next : (t : Stand) (acc c : S.Shape) → aside (length t.walked.used) (length t.walked.always) (go (between t acc) c) ≡ between t (S.Either acc c)
unfolding go
aside_next t acc c =
    let n = next (next t.next acc) c in
    aside_is (between t acc) c
    ∙ ap (λ o. stands t o t.walked ((t.waiting ++ waits t.walked.scope t.walked.level acc) ++ waits t.walked.scope t.walked.level c) n) (sym (after_reported t.found (notes t.instance t.fip t.walked acc) (notes t.instance t.fip t.walked c)))
    ∙ ap (λ q. stands t (after t.found (map reported (notes t.instance t.fip t.walked (S.Either acc c)))) t.walked q n) (append_assoc t.waiting (waits t.walked.scope t.walked.level acc) (waits t.walked.scope t.walked.level c))

later_next : (t : Stand) (acc c : S.Shape) → uses acc ++ drop (length t.walked.used) (go (between t acc) c).walked.used ≡ uses acc ++ uses c
unfolding go
later_next t acc c = ap (λ q. uses acc ++ q) (drop_seam t.walked.used (uses c))

sure_next : (t : Stand) (acc c : S.Shape) → still (length t.walked.always) (go (between t acc) c) (distinct (always acc)) ≡ always (S.Either acc c)
unfolding go
sure_next t acc c = ap (λ q. filter (λ x. has q x) (distinct (always acc))) (drop_seam t.walked.always (always c))

back_is : (t : Stand) (acc : S.Shape) → back (uses acc) (always acc) (between t acc) ≡ go t acc
unfolding go
back_is t acc = refl

-- the clauses after some alternatives, of which the list of what is always used up repeats nothing
others_go : (w : World) (taken : Bool) (t : Stand) (acc : S.Shape) (cs : Clauses) → distinct (always acc) ≡ always acc → others w taken (length t.walked.used) (length t.walked.always) (between t acc) (uses acc) (always acc) cs ≡ go t (shape_clauses w taken (names t) acc cs)
others_go w taken t acc NoClauses e = back_is t acc
others_go w taken t acc (MoreClauses p body cs) e =
    let c = clause_shape (following (names t) acc) (taking w taken (binders p)) (λ d. shape_block w d body) in
    let ku = length t.walked.used in
    let ka = length t.walked.always in
    let g = go (between t acc) c in
    ap (λ q. others w taken ku ka (aside ku ka g) (uses acc ++ drop ku g.walked.used) (still ka g q) cs) (sym e)
    ∙ ap (λ s. others w taken ku ka s (uses acc ++ drop ku g.walked.used) (still ka g (distinct (always acc))) cs) (aside_next t acc c)
    ∙ ap (λ q. others w taken ku ka (between t (S.Either acc c)) q (still ka g (distinct (always acc))) cs) (later_next t acc c)
    ∙ ap (λ q. others w taken ku ka (between t (S.Either acc c)) (uses acc ++ uses c) q cs) (sure_next t acc c)
    ∙ others_go w taken t (S.Either acc c) cs (distinct_both (always c) (always acc))

later_first : (t : Stand) (acc : S.Shape) → drop (length t.walked.used) (go t acc).walked.used ≡ uses acc
unfolding go
later_first t acc = drop_seam t.walked.used (uses acc)

sure_first : (t : Stand) (acc : S.Shape) → drop (length t.walked.always) (go t acc).walked.always ≡ always acc
unfolding go
sure_first t acc = drop_seam t.walked.always (always acc)

-- a second clause after the first one, and those after it
second_go : (w : World) (taken : Bool) (t : Stand) (acc c : S.Shape) (cs : Clauses) →
    others w taken (length t.walked.used) (length t.walked.always) (aside (length t.walked.used) (length t.walked.always) (go (between t acc) c)) (uses acc ++ drop (length t.walked.used) (go (between t acc) c).walked.used) (still (length t.walked.always) (go (between t acc) c) (distinct (always acc))) cs
    ≡ go t (shape_clauses w taken (names t) (S.Either acc c) cs)
second_go w taken t acc c cs =
    let ku = length t.walked.used in
    let ka = length t.walked.always in
    let g = go (between t acc) c in
    ap (λ s. others w taken ku ka s (uses acc ++ drop ku g.walked.used) (still ka g (distinct (always acc))) cs) (aside_next t acc c)
    ∙ ap (λ q. others w taken ku ka (between t (S.Either acc c)) q (still ka g (distinct (always acc))) cs) (later_next t acc c)
    ∙ ap (λ q. others w taken ku ka (between t (S.Either acc c)) (uses acc ++ uses c) q cs) (sure_next t acc c)
    ∙ others_go w taken t (S.Either acc c) cs (distinct_both (always c) (always acc))

pub clauses_go : (w : World) (taken : Bool) (t : Stand) (acc : S.Shape) (cs : Clauses) → (cs ≡ NoClauses → ⊥) → others w taken (length t.walked.used) (length t.walked.always) (aside (length t.walked.used) (length t.walked.always) (go t acc)) (drop (length t.walked.used) (go t acc).walked.used) (distinct (drop (length t.walked.always) (go t acc).walked.always)) cs ≡ go t (shape_clauses w taken (names t) acc cs)
clauses_go w taken t acc NoClauses h = absurd (h refl)
clauses_go w taken t acc (MoreClauses p body cs) h =
    let ku = length t.walked.used in
    let ka = length t.walked.always in
    let ds = MoreClauses p body cs in
    ap (λ s. others w taken ku ka s (drop ku (go t acc).walked.used) (distinct (drop ka (go t acc).walked.always)) ds) (aside_is t acc)
    ∙ ap (λ q. others w taken ku ka (between t acc) q (distinct (drop ka (go t acc).walked.always)) ds) (later_first t acc)
    ∙ ap (λ q. others w taken ku ka (between t acc) (uses acc) (distinct q) ds) (sure_first t acc)
    ∙ second_go w taken t acc (clause_shape (following (names t) acc) (taking w taken (binders p)) (λ d. shape_block w d body)) cs

pub ruleset going = (go_skip, go_then, marks_go, names_go)
