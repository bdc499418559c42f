-- The walk's arms, over plain variables.
use Rattle.std.proofs.Common.{◌≡◌, ℕ, zero, suc, ◌≤◌, ◌-◌, refl, sym, ap, ◌∙◌, List, [], ◌∷◌, ◌++◌, take, drop, length, map, Option, Some, None, Bool, true, false, not, arith}
use Rattle.std.specs.Prelude.{◌==◌, ◌&&◌, ◌+◌, if◌then◌else◌}
use Rattle.fip_rules.specs.declared.scope.Ownership.{Ownership}
use Rattle.fip_trees.specs.fip_language.declared.Place.{Place}
use Rattle.fip_trees.specs.fip_language.declared.rule.Rule.TheVariants.{E54}
use Rattle.fip_trees.specs.declared.least.Violation.{Violation}
use Rattle.fip_trees.specs.Least.{after}
use Rattle.fip_trees.specs.Tree.{Name, Argument, Arguments, MoreArguments, Constructor, Expression, Match, Block, Pattern, Patterns, MorePatterns, Clauses, NoClauses, Instance}
use Rattle.fip_trees.specs.declared.program.Binder.{Binder}
use Rattle.fip_base.specs.declared.plain.Param.{Param}
use Rattle.fip_rules.specs.Noted.{first_parameter, instance_notes}
use Rattle.fip_trees.specs.TreeView.{BoundPart, block_of}
use Rattle.fip_rules.specs.Marks.{Mark, Entry, Breach, reported}
use Rattle.fip_rules.specs.Shape as S
use Rattle.fip_rules.specs.Notes.{has, look, distinct, entry, missed, nothing, notes, is_owned, if_waits, use_of, use_notes, lend_of, lend_notes}
use Rattle.fip_rules.specs.World.{World, lends, ownership, is_fip, is_ruled}
use Rattle.fip_rules.specs.Shapes.{Names, Bind, mark, token, known, used_at, used_by, lent_at, lent_by, owning, owning_all, lending, passing, passing_all, takes, taking, binders, binders_all, following, clause_shape, shape, shape_block, shape_clauses, parameters, body}
use Rattle.fip_rules.specs.Stands.{Stand, marks, names, noted, kept_use, awaiting, missed_from, with_scope, with_walked, go, went, entered, entered_all, left_to, deepened, surfaced, aside, others}
use Rattle.fip_rules.proofs.Theorems.{entered_append, level_go, go_skip, go_then, go_use, go_lend, go_clause, go_bound, go_scope_of, clauses_go, left_twice, marks_go, names_go, take_seam, drop_seam}
use Rattle.fip_rules.proofs.Orders.{next_passing}

-- two parts after each other, the second of which is seen from the scope of the first
pub then_step : (t t1 t2 : Stand) (a : S.Shape) (f : Stand → S.Shape) → t1 ≡ go t a → f (go t a) ≡ f t → t2 ≡ go t1 (f t1) → t2 ≡ go t (S.Then a (f t))
then_step t t1 t2 a f e g h = h ∙ ap (λ s. go s (f s)) e ∙ ap (go (go t a)) g ∙ sym (go_then t a (f t))

pub owning_step : (t t1 t2 : Stand) (a : S.Shape) (x : Argument) → t1 ≡ go t a → t2 ≡ go t1 (owning (marks t1) x) → t2 ≡ go t (S.Then a (owning (marks t) x))
owning_step t t1 t2 a x e h = then_step t t1 t2 a (λ s. owning (marks s) x) e (ap (λ ms. owning ms x) (marks_go t a)) h

pub lending_scalar : (t : Stand) (w : World) (ty d c : ℕ) (n : Name) (p : Place) (as' : Arguments) → w.scalar ty ≡ true → t ≡ go t (lending w (marks t) (Constructor ty d c n p as'))
lending_scalar t w ty d c n p as' e = rw (e) (sym (go_skip t))

pub lending_fault : (t t1 t2 : Stand) (w : World) (ty d c : ℕ) (n : Name) (p : Place) (as' : Arguments) → w.scalar ty ≡ false → t1 ≡ go t (S.Fault E54 (token p n)) → t2 ≡ go t1 (owning_all (marks t1) as') → t2 ≡ go t (lending w (marks t) (Constructor ty d c n p as'))
lending_fault t t1 t2 w ty d c n p as' e f g = rw (e) (then_step t t1 t2 (S.Fault E54 (token p n)) (λ s. owning_all (marks s) as') f (ap (λ ms. owning_all ms as') (marks_go t (S.Fault E54 (token p n)))) g)

pub bound_step : (t t1 t2 t3 : Stand) (a : Names → S.Shape) (kl kw ku : ℕ) → kl ≡ t.walked.level → kw ≡ length t.waiting → ku ≡ length t.walked.used → t1 ≡ deepened t → t2 ≡ go t1 (a (names t1)) → t3 ≡ surfaced kl kw ku t2 → t3 ≡ go t (S.Bound (a (names t)))
bound_step t t1 t2 t3 a kl kw ku l e f g h k =
    k ∙ ap (λ n. surfaced n kw ku t2) l ∙ ap (λ n. surfaced t.walked.level n ku t2) e ∙ ap (λ n. surfaced t.walked.level (length t.waiting) n t2) f
    ∙ ap (surfaced t.walked.level (length t.waiting) (length t.walked.used)) (h ∙ ap (λ s. go s (a (names s))) g) ∙ sym (go_bound t (a (names t)))

-- as many bound expressions are around as before, and one more
pub bound_level : (t t1 t2 : Stand) (a : Names → S.Shape) (kl : ℕ) → kl ≡ t.walked.level → t1 ≡ deepened t → t2 ≡ go t1 (a (names t1)) → kl ≤ t2.walked.level
bound_level t t1 t2 a kl l g h =
    let d : t1.walked.level ≡ suc t.walked.level = ap (λ (s : Stand). s.walked.level) g in
    let e : t2.walked.level ≡ t1.walked.level = ap (λ (s : Stand). s.walked.level) h ∙ level_go t1 (a (names t1)) in
    omega (arith, l, d, e)

pub clause_step : (t t1 t2 t3 : Stand) (bs : List Bind) (f : Names → S.Shape) (kept : ℕ) → kept ≡ length t.walked.scope → t1 ≡ entered_all t bs → t2 ≡ go t1 (f (names t1)) → t3 ≡ left_to kept t2 → t3 ≡ went t bs f
clause_step t t1 t2 t3 bs f kept k e g h = h ∙ ap (λ n. left_to n t2) k ∙ ap (left_to (length t.walked.scope)) (g ∙ ap (λ s. go s (f (names s))) e) ∙ sym (go_clause t bs f)

pub clauses_step : (t t1 t2 t3 : Stand) (w : World) (taken : Bool) (bs : List Bind) (f : Names → S.Shape) (cs : Clauses) (later sure : List ℕ) (ku ka : ℕ) → ku ≡ length t.walked.used → ka ≡ length t.walked.always → t1 ≡ went t bs f → later ≡ drop ku t1.walked.used → sure ≡ distinct (drop ka t1.walked.always) → t2 ≡ aside ku ka t1 → t3 ≡ others w taken ku ka t2 later sure cs → (cs ≡ NoClauses → ⊥) → t3 ≡ go t (shape_clauses w taken (names t) (clause_shape (names t) bs f) cs)
clauses_step t t1 t2 t3 w taken bs body cs later sure ku ka a b e f g h k z =
    let c = clause_shape (names t) bs body in
    k
    ∙ ap (λ s. others w taken ku ka s later sure cs) h
    ∙ ap (λ q. others w taken ku ka (aside ku ka t1) q sure cs) f
    ∙ ap (λ q. others w taken ku ka (aside ku ka t1) (drop ku t1.walked.used) q cs) g
    ∙ ap (λ s. others w taken ku ka (aside ku ka s) (drop ku s.walked.used) (distinct (drop ka s.walked.always)) cs) e
    ∙ ap (λ n. others w taken n ka (aside n ka (go t c)) (drop n (go t c).walked.used) (distinct (drop ka (go t c).walked.always)) cs) a
    ∙ ap (λ n. others w taken (length t.walked.used) n (aside (length t.walked.used) n (go t c)) (drop (length t.walked.used) (go t c).walked.used) (distinct (drop n (go t c).walked.always)) cs) b
    ∙ clauses_go w taken t c cs z

-- an argument brings nothing into scope
names_passed : (t : Stand) (w : World) (b : Bool) (a : Argument) → names (go t (passing w (marks t) b a)) ≡ names t
names_passed t w b a = names_go t (passing w (marks t) b a) ∙ ap (λ n. record { marks = marks t; next = n }) (next_passing t.next w (marks t) b a)

pub match_step : (t t1 t2 : Stand) (w : World) (k lent : Bool) (ty : ℕ) (p : Place) (a : Argument) (q : Pattern) (b : Block) (cs : Clauses) → lent ≡ not (takes w k ty) → t1 ≡ go t (passing w (marks t) lent a) → t2 ≡ go t1 (shape_clauses w (takes w k ty) (names t1) (clause_shape (names t1) (taking w (takes w k ty) (binders q)) (λ d. shape_block w d b)) cs) → t2 ≡ go t (shape w (names t) (Match k ty p a q b cs))
match_step t t1 t2 w k lent ty p a q b cs e f g =
    let F : Names → S.Shape = λ c. shape_clauses w (takes w k ty) c (clause_shape c (taking w (takes w k ty) (binders q)) (λ d. shape_block w d b)) cs in
    let P = passing w (marks t) (not (takes w k ty)) a in
    then_step t t1 t2 P (λ s. F (names s)) (f ∙ ap (λ l. go t (passing w (marks t) l a)) e) (ap F (names_passed t w (not (takes w k ty)) a)) g

pub one_clause : (t t1 t2 : Stand) (w : World) (k lent : Bool) (ty : ℕ) (p : Place) (a : Argument) (q : Pattern) (b : Block) (cs : Clauses) → cs ≡ NoClauses → lent ≡ not (takes w k ty) → t1 ≡ go t (passing w (marks t) lent a) → t2 ≡ went t1 (taking w (takes w k ty) (binders q)) (λ d. shape_block w d b) → t2 ≡ go t (shape w (names t) (Match k ty p a q b cs))
one_clause t t1 t2 w k lent ty p a q b cs z e f g = match_step t t1 t2 w k lent ty p a q b NoClauses e f g ∙ ap (λ ds. go t (shape w (names t) (Match k ty p a q b ds))) (sym z)

length_more : {A : Type 0} (xs ys : List A) → length xs ≤ length (xs ++ ys)
length_more [] ys = omega arith
length_more (x ∷ xs) ys = let h = length_more xs ys in omega arith

more_scope : (t : Stand) (bs : List Bind) → length t.walked.scope ≤ length (entered_all t bs).walked.scope
more_scope t [] = omega arith
more_scope t (b ∷ bs) = let h = more_scope (entered t b) bs in let g = length_more t.walked.scope (entry t.walked b.ownership (mark t.next b.binder) ∷ []) in omega arith

pub kept_scope : (n : ℕ) (t t1 : Stand) (bs : List Bind) (a : S.Shape) → n ≤ length t.walked.scope → t1 ≡ entered_all (go t a) bs → n ≤ length t1.walked.scope
kept_scope n t t1 bs a h e = let g = more_scope (go t a) bs in let f = ap (λ q. length q) (go_scope_of t a) in let k = ap (λ (s : Stand). length s.walked.scope) e in omega arith

pub block_step : (n : ℕ) (t t1 g : Stand) (w : World) (b : BoundPart) (bs : List BoundPart) (last : Expression) → n ≤ length t.walked.scope → t1 ≡ entered_all (go t (S.Bound (shape w (names t) b.bound))) (taking w true b.binders) → left_to n (go t (shape_block w (names t) (block_of (b ∷ bs) last))) ≡ g → left_to n (go t1 (shape_block w (names t1) (block_of bs last))) ≡ g
block_step n t t1 g w b bs last h e f =
    let B = S.Bound (shape w (names t) b.bound) in
    let u = go t B in
    let ds = taking w true b.binders in
    let R : Names → S.Shape = λ c. shape_block w c (block_of bs last) in
    let k : n ≤ length u.walked.scope = let z = ap (λ q. length q) (go_scope_of t B) in omega arith in
    ap (λ s. left_to n (go s (R (names s)))) e
    ∙ sym (left_twice n (length u.walked.scope) (go (entered_all u ds) (R (names (entered_all u ds)))) k)
    ∙ ap (left_to n) (sym (go_clause u ds R) ∙ ap (λ c. go u (clause_shape c ds R)) (names_go t B) ∙ sym (go_then t B (clause_shape (following (names t) B) ds R)))
    ∙ f

pub block_end : (n kept : ℕ) (t l t2 t3 : Stand) (w : World) (xs ys : List BoundPart) (last : Expression) (d : Block) → d ≡ block_of xs last → ys ≡ [] → left_to n (go l (shape_block w (names l) (block_of ys last))) ≡ go t (shape_block w (names t) (block_of xs last)) → kept ≡ n → t2 ≡ go l (shape w (names l) last) → t3 ≡ left_to kept t2 → t3 ≡ go t (shape_block w (names t) d)
block_end n kept t l t2 t3 w xs ys last d a b e f g h =
    h ∙ ap (λ k. left_to k t2) f ∙ ap (left_to n) g ∙ sym (ap (λ q. left_to n (go l (shape_block w (names l) (block_of q last)))) b) ∙ e ∙ ap (λ q. go t (shape_block w (names t) q)) (sym a)

pub instance_step : (t t1 t2 t3 : Stand) (w : World) (i : ℕ) (fip : Bool) (d : Instance) (first o : Option Violation) → t ≡ record { instance = i; fip = fip; found = first; walked = nothing; waiting = []; next = 0 } → t1 ≡ entered_all t (parameters w d.params d.binders) → t2 ≡ go t1 (shape_block w (names t1) d.body) → t3 ≡ left_to 0 t2 → o ≡ t3.found → o ≡ after first (map reported (notes i fip nothing (body w d)))
unfolding go
instance_step t t1 t2 t3 w i fip d first o e f g h k =
    let s : Stand = record { instance = i; fip = fip; found = first; walked = nothing; waiting = []; next = 0 } in
    let ps = parameters w d.params d.binders in
    let R : Names → S.Shape = λ c. shape_block w c d.body in
    k ∙ ap (λ (q : Stand). q.found) (h ∙ ap (left_to 0) (g ∙ ap (λ q. go q (R (names q))) (f ∙ ap (λ q. entered_all q ps) e)) ∙ sym (go_clause s ps R))

-- ---- lists of arguments

pub own_all_step : (t t1 g : Stand) (x : Argument) (xs : Arguments) → t1 ≡ go t (owning (marks t) x) → go t (owning_all (marks t) (MoreArguments x xs)) ≡ g → go t1 (owning_all (marks t1) xs) ≡ g
own_all_step t t1 g x xs e f =
    let a = owning (marks t) x in
    ap (λ s. go s (owning_all (marks s) xs)) e ∙ ap (λ ms. go (go t a) (owning_all ms xs)) (marks_go t a) ∙ sym (go_then t a (owning_all (marks t) xs)) ∙ f

pub pass_all_step : (t t1 g : Stand) (w : World) (n j : ℕ) (lent : Bool) (x : Argument) (xs : Arguments) → lent ≡ lends w n j → t1 ≡ go t (passing w (marks t) lent x) → go t (passing_all w (marks t) n j (MoreArguments x xs)) ≡ g → go t1 (passing_all w (marks t1) n (suc j) xs) ≡ g
pass_all_step t t1 g w n j lent x xs l e f =
    let a = passing w (marks t) (lends w n j) x in
    ap (λ s. go s (passing_all w (marks s) n (suc j) xs)) (e ∙ ap (λ b. go t (passing w (marks t) b x)) l) ∙ ap (λ ms. go (go t a) (passing_all w ms n (suc j) xs)) (marks_go t a) ∙ sym (go_then t a (passing_all w (marks t) n (suc j) xs)) ∙ f

-- the callee, and then the arguments
pub call_step : (t t1 t2 : Stand) (w : World) (a : S.Shape) (n : ℕ) (xs : Arguments) → t1 ≡ go t a → t2 ≡ go t1 (passing_all w (marks t1) n 0 xs) → t2 ≡ go t (S.Then a (passing_all w (marks t) n 0 xs))
call_step t t1 t2 w a n xs e h = then_step t t1 t2 a (λ s. passing_all w (marks s) n 0 xs) e (ap (λ ms. passing_all w ms n 0 xs) (marks_go t a)) h

-- ---- the last variable leaves scope

one_longer : (es : List Entry) (e : Entry) → length (es ++ e ∷ []) ≡ suc (length es)
one_longer [] e = refl
one_longer (f ∷ es) e = ap suc (one_longer es e)

last_place : (es : List Entry) (e : Entry) → length (es ++ e ∷ []) - 1 ≡ length es
last_place es e = let h = one_longer es e in omega arith

abbrev leaving : Stand → List Breach → List Entry → Stand
leaving t vs es = noted (with_walked (with_scope es t.walked) t) vs

take_front : (es : List Entry) (e : Entry) → take (length (es ++ e ∷ []) - 1) (es ++ e ∷ []) ≡ es
take_front es e = let n : length (es ++ e ∷ []) - 1 ≡ length es = last_place es e in ap (λ k. take k (es ++ e ∷ [])) n ∙ take_seam es (e ∷ [])

drop_front : (es : List Entry) (e : Entry) → drop (length (es ++ e ∷ []) - 1) (es ++ e ∷ []) ≡ e ∷ []
drop_front es e = let n : length (es ++ e ∷ []) - 1 ≡ length es = last_place es e in ap (λ k. drop k (es ++ e ∷ [])) n ∙ drop_seam es (e ∷ [])

pub leave_step : (t t1 : Stand) (es : List Entry) (e : Entry) → t.walked.scope ≡ es ++ e ∷ [] → t1 ≡ noted (with_walked (with_scope es t.walked) t) (missed t.instance t.fip e.ownership e.mark t.walked.always) → t1 ≡ left_to (length t.walked.scope - 1) t
leave_step t t1 es e h g =
    g
    ∙ sym (
    ap (λ q. leaving t (missed_from t.instance t.fip (drop (length q - 1) q) t.walked.always) (take (length q - 1) q)) h
    ∙ ap (λ q. leaving t (missed_from t.instance t.fip q t.walked.always) (take (length (es ++ e ∷ []) - 1) (es ++ e ∷ []))) (drop_front es e)
    ∙ ap (λ q. leaving t (missed t.instance t.fip e.ownership e.mark t.walked.always) q) (take_front es e)
    )

-- ---- occurrences

pub use_step : (t t1 t2 : Stand) (m : Mark) (k : Ownership) (l : ℕ) (b : Mark) (u : Bool) → look t.walked.scope m.id ≡ Some record { mark = b; ownership = k; level = l } → u ≡ has t.walked.used m.id → t1 ≡ noted t (use_of k t.instance u m) → t2 ≡ kept_use m.id t1 → t2 ≡ go t (S.Use m)
use_step t t1 t2 m k l b u h e f g =
    g ∙ ap (kept_use m.id) (f ∙ ap (λ v. noted t (use_of k t.instance v m)) e)
    ∙ sym (go_use t m ∙ ap (λ o. kept_use m.id (noted t (use_notes o t.instance (has t.walked.used m.id) m))) h)

pub lend_step : (t t1 t2 : Stand) (m : Mark) (k : Ownership) (l : ℕ) (b : Mark) (u h w : Bool) → look t.walked.scope m.id ≡ Some record { mark = b; ownership = k; level = l } → u ≡ has t.walked.used m.id → h ≡ (l == t.walked.level) → w ≡ (is_owned k && not h) → t1 ≡ noted t (lend_of k t.instance u h m) → t2 ≡ awaiting t1 (if w then m ∷ [] else []) → t2 ≡ go t (S.Lend m)
lend_step t t1 t2 m k l b u h w r a c d f g =
    let q : w ≡ (is_owned k && not (l == t.walked.level)) = d ∙ ap (λ v. is_owned k && not v) c in
    g ∙ ap (λ s. awaiting s (if w then m ∷ [] else [])) (f ∙ ap (λ v. noted t (lend_of k t.instance v h m)) a ∙ ap (λ v. noted t (lend_of k t.instance (has t.walked.used m.id) v m)) c)
    ∙ ap (λ v. awaiting (noted t (lend_of k t.instance (has t.walked.used m.id) (l == t.walked.level) m)) (if v then m ∷ [] else [])) q
    ∙ sym (go_lend t m ∙ ap (λ o. awaiting (noted t (lend_notes o t.instance (has t.walked.used m.id) t.walked.level m)) (if_waits o t.walked.level m)) r)

pub own_none : (t : Stand) (o : Option ℕ) (x : ℕ) (p : Place) (n : Name) → o ≡ None → t ≡ go t (used_at o x p n)
own_none t o x p n h = sym (ap (λ q. go t (used_at q x p n)) h ∙ go_skip t)

pub lend_none : (t : Stand) (o : Option ℕ) (x : ℕ) (p : Place) (n : Name) → o ≡ None → t ≡ go t (lent_at o x p n)
lend_none t o x p n h = sym (ap (λ q. go t (lent_at q x p n)) h ∙ go_skip t)

pub own_some : (t t1 : Stand) (o : Option ℕ) (i x : ℕ) (p : Place) (n : Name) → o ≡ Some i → t1 ≡ go t (S.Use record { id = i; number = x; place = p; name = n }) → t1 ≡ go t (used_at o x p n)
own_some t t1 o i x p n h e = e ∙ sym (ap (λ q. go t (used_at q x p n)) h)

pub lend_some : (t t1 : Stand) (o : Option ℕ) (i x : ℕ) (p : Place) (n : Name) → o ≡ Some i → t1 ≡ go t (S.Lend record { id = i; number = x; place = p; name = n }) → t1 ≡ go t (lent_at o x p n)
lend_some t t1 o i x p n h e = e ∙ sym (ap (λ q. go t (lent_at q x p n)) h)

-- ---- binders

pub taking_append : (w : World) (b : Bool) (xs ys : List Binder) → taking w b (xs ++ ys) ≡ taking w b xs ++ taking w b ys
taking_append w b [] ys = refl
taking_append w b (x ∷ xs) ys = ap (λ q. record { ownership = ownership w b x.ty; binder = x } ∷ q) (taking_append w b xs ys)

pub bind_step : (t t1 g : Stand) (w : World) (b : Bool) (q : Pattern) (qs : Patterns) → t1 ≡ entered_all t (taking w b (binders q)) → entered_all t (taking w b (binders_all (MorePatterns q qs))) ≡ g → entered_all t1 (taking w b (binders_all qs)) ≡ g
bind_step t t1 g w b q qs e f =
    ap (λ s. entered_all s (taking w b (binders_all qs))) e
    ∙ sym (ap (entered_all t) (taking_append w b (binders q) (binders_all qs)) ∙ entered_append t (taking w b (binders q)) (taking w b (binders_all qs)))
    ∙ f

first_more : (w : World) (ps : List Param) (b : Binder) (bs : List Binder) → parameters w ps (b ∷ bs) ≡ first_parameter w ps b ++ parameters w (drop 1 ps) bs
first_more w [] b [] = refl
first_more w [] b (c ∷ bs) = refl
first_more w (p ∷ ps) b bs = refl

pub parameter_step : (t t1 g : Stand) (w : World) (ps : List Param) (b : Binder) (bs : List Binder) → t1 ≡ entered_all t (first_parameter w ps b) → entered_all t (parameters w ps (b ∷ bs)) ≡ g → entered_all t1 (parameters w (drop 1 ps) bs) ≡ g
parameter_step t t1 g w ps b bs e f =
    ap (λ s. entered_all s (parameters w (drop 1 ps) bs)) e
    ∙ sym (ap (entered_all t) (first_more w ps b bs) ∙ entered_append t (first_parameter w ps b) (parameters w (drop 1 ps) bs))
    ∙ f

drop_suc : (n : ℕ) (ps : List Param) → drop (suc n) ps ≡ drop 1 (drop n ps)
drop_suc zero ps = refl
drop_suc (suc n) [] = refl
drop_suc (suc n) (p ∷ ps) = drop_suc n ps

pub drop_next : (n : ℕ) (ps : List Param) → drop (n + 1) ps ≡ drop 1 (drop n ps)
drop_next n ps = let e : n + 1 ≡ suc n = omega arith in ap (λ k. drop k ps) e ∙ drop_suc n ps

pub pass_all_next : (t t1 g : Stand) (w : World) (n j : ℕ) (lent : Bool) (x : Argument) (xs : Arguments) → lent ≡ lends w n j → t1 ≡ go t (passing w (marks t) lent x) → go t (passing_all w (marks t) n j (MoreArguments x xs)) ≡ g → go t1 (passing_all w (marks t1) n (j + 1) xs) ≡ g
pass_all_next t t1 g w n j lent x xs l e f = let k : j + 1 ≡ suc j = omega arith in ap (λ i. go t1 (passing_all w (marks t1) n i xs)) k ∙ pass_all_step t t1 g w n j lent x xs l e f

pub own_unbound : (t : Stand) (o : Option ℕ) (p : Place) (n : Name) → o ≡ None → t ≡ go t (used_by (marks t) o p n)
own_unbound t o p n h = sym (ap (λ q. go t (used_by (marks t) q p n)) h ∙ go_skip t)

pub lend_unbound : (t : Stand) (o : Option ℕ) (p : Place) (n : Name) → o ≡ None → t ≡ go t (lent_by (marks t) o p n)
lend_unbound t o p n h = sym (ap (λ q. go t (lent_by (marks t) q p n)) h ∙ go_skip t)

pub own_bound : (t t1 : Stand) (o : Option ℕ) (x : ℕ) (p : Place) (n : Name) → o ≡ Some x → t1 ≡ go t (used_at (known (marks t) x) x p n) → t1 ≡ go t (used_by (marks t) o p n)
own_bound t t1 o x p n h e = e ∙ sym (ap (λ q. go t (used_by (marks t) q p n)) h)

pub lend_bound : (t t1 : Stand) (o : Option ℕ) (x : ℕ) (p : Place) (n : Name) → o ≡ Some x → t1 ≡ go t (lent_at (known (marks t) x) x p n) → t1 ≡ go t (lent_by (marks t) o p n)
lend_bound t t1 o x p n h e = e ∙ sym (ap (λ q. go t (lent_by (marks t) q p n)) h)

-- ---- an instance

pub instance_whole : (t t1 t2 t3 : Stand) (w : World) (i : ℕ) (fip : Bool) (d : Instance) (first o : Option Violation) → w.kind ≡ d.kind → is_ruled d.kind ≡ true → fip ≡ is_fip d.kind → t ≡ record { instance = i; fip = fip; found = first; walked = nothing; waiting = []; next = 0 } → t1 ≡ entered_all t (parameters w d.params d.binders) → t2 ≡ go t1 (shape_block w (names t1) d.body) → t3 ≡ left_to 0 t2 → o ≡ t3.found → o ≡ after first (map reported (instance_notes w i d))
instance_whole t t1 t2 t3 w i fip d first o a b c e f g h k =
    instance_step t t1 t2 t3 w i fip d first o e f g h k
    ∙ ap (λ q. after first (map reported (notes i q nothing (body w d)))) c
    ∙ sym (ap (λ q. after first (map reported (if is_ruled q then notes i (is_fip q) nothing (body w d) else []))) a ∙ ap (λ q. after first (map reported (if q then notes i (is_fip d.kind) nothing (body w d) else []))) b)
