-- Names that occur twice, one name and one list of names after another.
use Rattle.std.proofs.Common.{◌≡◌, ℕ, suc, ◌+◌, ◌<◌, Bool, true, false, not, List, [], ◌∷◌, ◌++◌, map, drop, length, get_or, Option, Result, OnOk, refl, sym, subst, ap, ◌∙◌, add-one, drop-cons, append_assoc, if◌then◌else◌}
use Rattle.fip_language.specs.declared.Place.{Place}
use Rattle.fip_language.specs.declared.rule.Rule.TheVariants.{E10}
use Rattle.fip_language.specs.Core.{Name, Static, TypeParameter, FunctionParameter, DataConstructor}
use Rattle.fip_language.specs.Mentions.{Mention, mention}
use Rattle.fip_trees.specs.declared.least.Violation.{Violation}
use Rattle.fip_trees.specs.declared.decls.ConstructorId.{ConstructorId}
use Rattle.fip_trees.specs.declared.decls.TypeHead.{TypeHead}
use Rattle.fip_trees.specs.Least.{after, better}
use Rattle.fip_trees.specs.Names.{names, is_among, with_meaning, with_meanings}
use Rattle.fip_trees.proofs.Leasts.{after-append}
use Rattle.data_types.specs.Declarations.{row_meanings, static_meanings}
use Rattle.data_types.specs.Faults.{broken, when, repeats, row_mentions}
use Rattle.fip_language.proofs.Facts.{append_nil as append_none}
pub use Rattle.fip_language.proofs.Facts.{drop_item}

abbrev pub head : ℕ → ℕ → TypeHead
head n k = record { number = n; arity = k }

-- one item of a walk that notes the violations of each item of a list
pub walk_step : {A : Type 0} (one : A → List Violation) (all : List A → List Violation) → ((x : A) (xs : List A) → all (x ∷ xs) ≡ one x ++ all xs) → (xs : List A) (i : ℕ) (x : A) (l m : Option Violation) → i < length xs → x ≡ get_or xs i x → m ≡ after l (one x) → after m (all (drop (i + 1) xs)) ≡ after l (all (drop i xs))
walk_step one all splits xs i x l m h e noted =
    ap (λ m. after m (all (drop (i + 1) xs))) noted
    ∙ sym (after-append l (one x) (all (drop (i + 1) xs)))
    ∙ ap (after l) (sym (splits x (drop (i + 1) xs)))
    ∙ ap (λ ys. after l (all ys)) (sym (drop_item xs i x h e))

-- two walks, one after another
pub two_noted : {A E : Type 0} (r : Result A E) (l m n : Option Violation) (xs ys zs : List Violation) → m ≡ after l xs → zs ≡ xs ++ ys → OnOk r (n ≡ after m ys) → OnOk r (n ≡ after l zs)
two_noted r l m n xs ys zs first both h = subst (λ z. OnOk r (n ≡ z)) (ap (λ m. after m ys) first ∙ sym (after-append l xs ys) ∙ ap (after l) (sym both)) h

-- ---- one name

names_append : {A : Type 0} (es : List (Name × A)) (n : Name) (a : A) → names (es ++ (n, a) ∷ []) ≡ names es ++ n ∷ []
names_append [] n a = refl
names_append (e ∷ es) n a = ap (λ l. e.0 ∷ l) (names_append es n a)

pub repeats_one : {A : Type 0} (es fs : List (Name × A)) (n : Name) (a : A) (p : Place) (ms : List Mention) (b : Bool) (l m : Option Violation) → b ≡ not (is_among n (names es)) → fs ≡ with_meaning es n a → m ≡ after l (when (not b) (broken E10 p n)) → after m (repeats (names fs) ms) ≡ after l (repeats (names es) (mention n p ∷ ms))
repeats_one es fs n a p ms b l m new added noted = by (is_among n (names es)) refl
  where
    v : Violation
    v = broken E10 p n

    by : (c : Bool) → is_among n (names es) ≡ c → after m (repeats (names fs) ms) ≡ after l (repeats (names es) (mention n p ∷ ms))
    by true e =
        let old : not b ≡ true = ap not (new ∙ ap not e) in
        let same : fs ≡ es = added ∙ ap (λ c. if c then es else es ++ (n, a) ∷ []) e in
        ap (λ fs. after m (repeats (names fs) ms)) same
        ∙ ap (λ m. after m (repeats (names es) ms)) (noted ∙ ap (λ c. after l (when c v)) old)
        ∙ sym (ap (λ c. after l (if c then v ∷ repeats (names es) ms else repeats (names es ++ n ∷ []) ms)) e)
    by false e =
        let fresh : not b ≡ false = ap not (new ∙ ap not e) in
        let more : names fs ≡ names es ++ n ∷ [] = ap names (added ∙ ap (λ c. if c then es else es ++ (n, a) ∷ []) e) ∙ names_append es n a in
        ap (λ ns. after m (repeats ns ms)) more
        ∙ ap (λ m. after m (repeats (names es ++ n ∷ []) ms)) (noted ∙ ap (λ c. after l (when c v)) fresh)
        ∙ sym (ap (λ c. after l (if c then v ∷ repeats (names es) ms else repeats (names es ++ n ∷ []) ms)) e)

pub repeats_next : {A : Type 0} (es fs : List (Name × A)) (n x : Name) (a : A) (p : Place) (ms : List Mention) (b : Bool) (l m : Option Violation) → n ≡ x → b ≡ not (is_among n (names es)) → fs ≡ with_meaning es n a → m ≡ after l (when (not b) (broken E10 p n)) → after m (repeats (names fs) ms) ≡ after l (repeats (names es) (mention x p ∷ ms))
repeats_next es fs n x a p ms b l m same new added noted = repeats_one es fs n a p ms b l m new added noted ∙ ap (λ y. after l (repeats (names es) (mention y p ∷ ms))) same

-- ---- a list of names

-- the names that were seen after a list
abbrev pub seen_after : List Name → List Mention → List Name
seen_after seen [] = seen
seen_after seen (m ∷ ms) = if is_among m.name seen then seen_after seen ms else seen_after (seen ++ m.name ∷ []) ms

pub repeats_append : (xs ys : List Mention) (seen : List Name) → repeats seen (xs ++ ys) ≡ repeats seen xs ++ repeats (seen_after seen xs) ys
repeats_append [] ys seen = refl
repeats_append (x ∷ xs) ys seen = by (is_among x.name seen) (repeats_append xs ys seen) (repeats_append xs ys (seen ++ x.name ∷ []))
  where
    v : Violation
    v = broken E10 x.place x.name

    by : (c : Bool) → repeats seen (xs ++ ys) ≡ repeats seen xs ++ repeats (seen_after seen xs) ys → repeats (seen ++ x.name ∷ []) (xs ++ ys) ≡ repeats (seen ++ x.name ∷ []) xs ++ repeats (seen_after (seen ++ x.name ∷ []) xs) ys → (if c then v ∷ repeats seen (xs ++ ys) else repeats (seen ++ x.name ∷ []) (xs ++ ys)) ≡ (if c then v ∷ repeats seen xs else repeats (seen ++ x.name ∷ []) xs) ++ repeats (if c then seen_after seen xs else seen_after (seen ++ x.name ∷ []) xs) ys
    by true same more = ap (λ l. v ∷ l) same
    by false same more = more

pub with_meanings_append : {A : Type 0} (fs gs es : List (Name × A)) → with_meanings es (fs ++ gs) ≡ with_meanings (with_meanings es fs) gs
with_meanings_append [] gs es = refl
with_meanings_append (f ∷ fs) gs es = with_meanings_append fs gs (with_meaning es f.0 f.1)

seen_one : {A : Type 0} (es : List (Name × A)) (n : Name) (a : A) → names (with_meaning es n a) ≡ (if is_among n (names es) then names es else names es ++ n ∷ [])
seen_one es n a = by (is_among n (names es))
  where
    by : (c : Bool) → names (if c then es else es ++ (n, a) ∷ []) ≡ (if c then names es else names es ++ n ∷ [])
    by true = refl
    by false = names_append es n a

if_seen : (c : Bool) (seen more : List Name) (ms : List Mention) → seen_after (if c then seen else more) ms ≡ (if c then seen_after seen ms else seen_after more ms)
if_seen true seen more ms = refl
if_seen false seen more ms = refl

pub seen_row : (d c : ℕ) (ks : List DataConstructor) (es : List (Name × ConstructorId)) → names (with_meanings es (row_meanings d c ks)) ≡ seen_after (names es) (row_mentions ks)
seen_row d c [] es = refl
seen_row d c (k ∷ ks) es =
    let a : ConstructorId = record { «data» = d; number = c } in
    seen_row d (suc c) ks (with_meaning es k.name a)
    ∙ ap (λ ns. seen_after ns (row_mentions ks)) (seen_one es k.name a)
    ∙ if_seen (is_among k.name (names es)) (names es) (names es ++ k.name ∷ []) (row_mentions ks)

-- a row of constructors, and what is after it
pub repeats_row : (d : ℕ) (ks : List DataConstructor) (rest : List Mention) (es fs : List (Name × ConstructorId)) (l m : Option Violation) → fs ≡ with_meanings es (row_meanings d 0 ks) → m ≡ after l (repeats (names es) (row_mentions ks)) → after m (repeats (names fs) rest) ≡ after l (repeats (names es) (row_mentions ks ++ rest))
repeats_row d ks rest es fs l m added noted =
    ap (λ fs. after m (repeats (names fs) rest)) added
    ∙ ap (λ ns. after m (repeats ns rest)) (seen_row d 0 ks es)
    ∙ ap (λ m. after m (repeats (seen_after (names es) (row_mentions ks)) rest)) noted
    ∙ sym (ap (after l) (repeats_append (row_mentions ks) rest (names es)) ∙ after-append l (repeats (names es) (row_mentions ks)) (repeats (seen_after (names es) (row_mentions ks)) rest))

-- ---- no name twice

pub none_here : (c : Bool) (v : Violation) (xs ys : List Violation) → (if c then v ∷ xs else ys) ≡ [] → (c ≡ false) × (ys ≡ [])
none_here true v xs ys h = absurd (cc)
none_here false v xs ys h = (refl, h)

abbrev pub mention_names : List Mention → List Name
mention_names ms = map (λ (m : Mention). m.name) ms

pub all_new : {A : Type 0} (fs es : List (Name × A)) (ms : List Mention) → names fs ≡ mention_names ms → repeats (names es) ms ≡ [] → with_meanings es fs ≡ es ++ fs
all_new [] es ms e h = sym (append_none es)
all_new (f ∷ fs) es [] e h = absurd (cc)
all_new (f ∷ fs) es (m ∷ ms) e h =
    let here : f.0 ≡ m.name = cc in
    let rest : names fs ≡ mention_names ms = cc in
    let g = none_here (is_among m.name (names es)) (broken E10 m.place m.name) (repeats (names es) ms) (repeats (names es ++ m.name ∷ []) ms) h in
    let fresh : is_among f.0 (names es) ≡ false = ap (λ n. is_among n (names es)) here ∙ g.0 in
    let added : with_meaning es f.0 f.1 ≡ es ++ f ∷ [] = ap (λ c. if c then es else es ++ f ∷ []) fresh in
    let seen : names (es ++ f ∷ []) ≡ names es ++ m.name ∷ [] = names_append es f.0 f.1 ∙ ap (λ n. names es ++ n ∷ []) here in
    ap (λ es. with_meanings es fs) added
    ∙ all_new fs (es ++ f ∷ []) ms rest (ap (λ ns. repeats ns ms) seen ∙ g.1)
    ∙ append_assoc es (f ∷ []) fs

-- one name more
pub with_next : {A : Type 0} (es fs more : List (Name × A)) (x y : Name) (a b : A) → x ≡ y → a ≡ b → fs ≡ with_meaning es x a → with_meanings fs more ≡ with_meanings es ((y, b) ∷ more)
with_next es fs more x y a b e g h =
    ap (λ fs. with_meanings fs more) h
    ∙ ap (λ n. with_meanings (with_meaning es n a) more) e
    ∙ ap (λ z. with_meanings (with_meaning es y z) more) g

-- one static parameter more
pub static_next : (es : List (Name × ℕ)) (n : ℕ) (s : Static) (ss : List Static) → with_meanings (with_meanings es (static_meanings n (s ∷ []))) (static_meanings (suc n) ss) ≡ with_meanings es (static_meanings n (s ∷ ss))
static_next es n (TypeParameter x p) ss = refl
static_next es n (FunctionParameter x p ps r) ss = refl

-- one item pushed
pushed : {A B : Type 0} (f : A → B) (xs : List A) (x : A) (ys : List B) → map f (xs ++ x ∷ []) ++ ys ≡ map f xs ++ f x ∷ ys
pushed f [] x ys = refl
pushed f (w ∷ ws) x ys = ap (λ l. f w ∷ l) (pushed f ws x ys)

pub push_step : {A B : Type 0} (f : A → B) (xs zs : List A) (x : A) (y : B) (ys : List B) → zs ≡ xs ++ x ∷ [] → f x ≡ y → map f zs ++ ys ≡ map f xs ++ y ∷ ys
push_step f xs zs x y ys e h = ap (λ l. map f l ++ ys) e ∙ pushed f xs x ys ∙ ap (λ z. map f xs ++ z ∷ ys) h
