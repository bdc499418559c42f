-- Writing one text after another, and one item of a list after another.
use Rattle.std.proofs.Common.{◌≡◌, ℕ, zero, suc, ◌+◌, ◌-◌, ◌<◌, ◌≤◌, List, [], ◌∷◌, ◌++◌, length, drop, map, get_or, Bool, true, false, Option, Some, None, Result, Ok, Err, refl, sym, ap, ap₂, subst, ◌∙◌, append_assoc, arith}
use Rattle.std.specs.Prelude.{nat_le, nat_lt, if◌then◌else◌}
use Rattle.std.proofs.lemmas.Bool.{leb-true, le-leb, leb-false, lt-leb}
use Rattle.std.proofs.lemmas.List.{append-nil, length-append, length-map, drop_more}
use Rattle.code_file.specs.declared.error.WriteError.{WriteError}
use Rattle.code_file.specs.declared.error.WriteError.TheVariants as E
use Rattle.fip_language.specs.Table.{Shape, Table, constructors, shapes}
use Rattle.cell_code.specs.declared.kind.Label.{Label}
use Rattle.cell_code.specs.declared.code.Function.{Function}
use Rattle.code_file.specs.declared.tags.Version.TheVariants.{Second}
use Rattle.cell_code.specs.Plain.{plain_label, plain_function}
use Rattle.code_file.specs.Spelling.{◌+++◌, each, two, four}
use Rattle.code_file.specs.CodeText.{label_text, labels_text, function_text, functions_text}
use Rattle.code_file.specs.Written.{Written, after, Writes, second_text, label_in}
use Rattle.fip_language.proofs.Facts.{same_some as some_same}
use Rattle.fip_base.proofs.TableReads.{shapes_read as shapes_at}

abbrev with_bytes : Written → List ℕ → Written
with_bytes w t = record { bytes = w.bytes ++ t; limit = w.limit }

abbrev checked : Bool → Written → Option Written
checked b w = if b then Some w else None

leb_same : (a b c d : ℕ) → (a ≤ b → c ≤ d) → (c ≤ d → a ≤ b) → (x y : Bool) → nat_le a b ≡ x → nat_le c d ≡ y → x ≡ y
leb_same a b c d f g true true e h = refl
leb_same a b c d f g false false e h = refl
leb_same a b c d f g true false e h = let k = f (leb-true a b e) in let l = leb-false c d h in absurd (omega arith)
leb_same a b c d f g false true e h = let k = g (leb-true c d h) in let l = leb-false a b e in absurd (omega arith)

-- the test of two texts is that of the first and then of the second
both_fit : (w : Written) (s t : List ℕ) (v : Written) (x : Bool) → nat_le (length s) (w.limit - length w.bytes) ≡ x → checked x (with_bytes w s) ≡ Some v → after w (Some (s ++ t)) ≡ after v (Some t)
unfolding after
both_fit w s t v false e h = cc
both_fit w s t v true e h =
    let le : length s ≤ w.limit - length w.bytes = leb-true (length s) (w.limit - length w.bytes) e in
    let l1 = length-append s t in
    let l2 = length-append w.bytes s in
    let same : nat_le (length (s ++ t)) (w.limit - length w.bytes) ≡ nat_le (length t) (w.limit - length (w.bytes ++ s)) =
    leb_same (length (s ++ t)) (w.limit - length w.bytes) (length t) (w.limit - length (w.bytes ++ s)) (λ a. omega arith) (λ a. omega arith) _ _ refl refl in
    subst (λ (v : Written). after w (Some (s ++ t)) ≡ after v (Some t)) (some_same (with_bytes w s) v h)
    (ap (λ (b : Bool). checked b (with_bytes w (s ++ t))) same ∙ ap (λ (bs : List ℕ). checked (nat_le (length t) (w.limit - length (w.bytes ++ s))) (record { bytes = bs; limit = w.limit })) (sym (append_assoc w.bytes s t)))

neither_fits : (w : Written) (s t : List ℕ) (x : Bool) → nat_le (length s) (w.limit - length w.bytes) ≡ x → checked x (with_bytes w s) ≡ None → after w (Some (s ++ t)) ≡ None
unfolding after
neither_fits w s t true e h = cc
neither_fits w s t false e h =
    let lt : w.limit - length w.bytes < length s = leb-false (length s) (w.limit - length w.bytes) e in
    let l1 = length-append s t in
    ap (λ (b : Bool). checked b (with_bytes w (s ++ t))) (lt-leb (length (s ++ t)) (w.limit - length w.bytes) (omega arith))

-- A text that isn't there.
pub after_missing : (w : Written) → after w None ≡ None
unfolding after
after_missing w = refl

-- Where the first text was written, the second is after it.
pub after_join : (w v : Written) (a b : Option (List ℕ)) → after w a ≡ Some v → after w (a +++ b) ≡ after v b
unfolding after ◌+++◌
after_join w v None b e = cc
after_join w v (Some s) None e = refl
after_join w v (Some s) (Some t) e = both_fit w s t v (nat_le (length s) (w.limit - length w.bytes)) refl e

-- Where the first text wasn't written, neither are both.
pub after_none : (w : Written) (a b : Option (List ℕ)) → after w a ≡ None → after w (a +++ b) ≡ None
unfolding after ◌+++◌
after_none w None b e = refl
after_none w (Some s) None e = refl
after_none w (Some s) (Some t) e = neither_fits w s t (nat_le (length s) (w.limit - length w.bytes)) refl e

-- The same for more texts.
pub join_3 : (w0 w1 w2 : Written) (a b c : Option (List ℕ)) → after w0 a ≡ Some w1 → after w1 b ≡ Some w2 → after w0 (a +++ (b +++ c)) ≡ after w2 c
join_3 w0 w1 w2 a b c h0 h1 = after_join w0 w1 a (b +++ c) h0 ∙ after_join w1 w2 b (c) h1

pub none_3 : (w0 w1 : Written) (a b c : Option (List ℕ)) → after w0 a ≡ Some w1 → after w1 b ≡ None → after w0 (a +++ (b +++ c)) ≡ None
none_3 w0 w1 a b c h0 h1 = after_join w0 w1 a (b +++ c) h0 ∙ after_none w1 b c h1

pub join_4 : (w0 w1 w2 w3 : Written) (a b c d : Option (List ℕ)) → after w0 a ≡ Some w1 → after w1 b ≡ Some w2 → after w2 c ≡ Some w3 → after w0 (a +++ (b +++ (c +++ d))) ≡ after w3 d
join_4 w0 w1 w2 w3 a b c d h0 h1 h2 = after_join w0 w1 a (b +++ (c +++ d)) h0 ∙ after_join w1 w2 b (c +++ d) h1 ∙ after_join w2 w3 c (d) h2

pub none_4 : (w0 w1 w2 : Written) (a b c d : Option (List ℕ)) → after w0 a ≡ Some w1 → after w1 b ≡ Some w2 → after w2 c ≡ None → after w0 (a +++ (b +++ (c +++ d))) ≡ None
none_4 w0 w1 w2 a b c d h0 h1 h2 = after_join w0 w1 a (b +++ (c +++ d)) h0 ∙ after_join w1 w2 b (c +++ d) h1 ∙ after_none w2 c d h2

pub join_5 : (w0 w1 w2 w3 w4 : Written) (a b c d e : Option (List ℕ)) → after w0 a ≡ Some w1 → after w1 b ≡ Some w2 → after w2 c ≡ Some w3 → after w3 d ≡ Some w4 → after w0 (a +++ (b +++ (c +++ (d +++ e)))) ≡ after w4 e
join_5 w0 w1 w2 w3 w4 a b c d e h0 h1 h2 h3 = after_join w0 w1 a (b +++ (c +++ (d +++ e))) h0 ∙ after_join w1 w2 b (c +++ (d +++ e)) h1 ∙ after_join w2 w3 c (d +++ e) h2 ∙ after_join w3 w4 d (e) h3

pub none_5 : (w0 w1 w2 w3 : Written) (a b c d e : Option (List ℕ)) → after w0 a ≡ Some w1 → after w1 b ≡ Some w2 → after w2 c ≡ Some w3 → after w3 d ≡ None → after w0 (a +++ (b +++ (c +++ (d +++ e)))) ≡ None
none_5 w0 w1 w2 w3 a b c d e h0 h1 h2 h3 = after_join w0 w1 a (b +++ (c +++ (d +++ e))) h0 ∙ after_join w1 w2 b (c +++ (d +++ e)) h1 ∙ after_join w2 w3 c (d +++ e) h2 ∙ after_none w3 d e h3

pub join_6 : (w0 w1 w2 w3 w4 w5 : Written) (a b c d e f : Option (List ℕ)) → after w0 a ≡ Some w1 → after w1 b ≡ Some w2 → after w2 c ≡ Some w3 → after w3 d ≡ Some w4 → after w4 e ≡ Some w5 → after w0 (a +++ (b +++ (c +++ (d +++ (e +++ f))))) ≡ after w5 f
join_6 w0 w1 w2 w3 w4 w5 a b c d e f h0 h1 h2 h3 h4 = after_join w0 w1 a (b +++ (c +++ (d +++ (e +++ f)))) h0 ∙ after_join w1 w2 b (c +++ (d +++ (e +++ f))) h1 ∙ after_join w2 w3 c (d +++ (e +++ f)) h2 ∙ after_join w3 w4 d (e +++ f) h3 ∙ after_join w4 w5 e (f) h4

pub none_6 : (w0 w1 w2 w3 w4 : Written) (a b c d e f : Option (List ℕ)) → after w0 a ≡ Some w1 → after w1 b ≡ Some w2 → after w2 c ≡ Some w3 → after w3 d ≡ Some w4 → after w4 e ≡ None → after w0 (a +++ (b +++ (c +++ (d +++ (e +++ f))))) ≡ None
none_6 w0 w1 w2 w3 w4 a b c d e f h0 h1 h2 h3 h4 = after_join w0 w1 a (b +++ (c +++ (d +++ (e +++ f)))) h0 ∙ after_join w1 w2 b (c +++ (d +++ (e +++ f))) h1 ∙ after_join w2 w3 c (d +++ (e +++ f)) h2 ∙ after_join w3 w4 d (e +++ f) h3 ∙ after_none w4 e f h4

pub join_7 : (w0 w1 w2 w3 w4 w5 w6 : Written) (a b c d e f g : Option (List ℕ)) → after w0 a ≡ Some w1 → after w1 b ≡ Some w2 → after w2 c ≡ Some w3 → after w3 d ≡ Some w4 → after w4 e ≡ Some w5 → after w5 f ≡ Some w6 → after w0 (a +++ (b +++ (c +++ (d +++ (e +++ (f +++ g)))))) ≡ after w6 g
join_7 w0 w1 w2 w3 w4 w5 w6 a b c d e f g h0 h1 h2 h3 h4 h5 = after_join w0 w1 a (b +++ (c +++ (d +++ (e +++ (f +++ g))))) h0 ∙ after_join w1 w2 b (c +++ (d +++ (e +++ (f +++ g)))) h1 ∙ after_join w2 w3 c (d +++ (e +++ (f +++ g))) h2 ∙ after_join w3 w4 d (e +++ (f +++ g)) h3 ∙ after_join w4 w5 e (f +++ g) h4 ∙ after_join w5 w6 f (g) h5

pub none_7 : (w0 w1 w2 w3 w4 w5 : Written) (a b c d e f g : Option (List ℕ)) → after w0 a ≡ Some w1 → after w1 b ≡ Some w2 → after w2 c ≡ Some w3 → after w3 d ≡ Some w4 → after w4 e ≡ Some w5 → after w5 f ≡ None → after w0 (a +++ (b +++ (c +++ (d +++ (e +++ (f +++ g)))))) ≡ None
none_7 w0 w1 w2 w3 w4 w5 a b c d e f g h0 h1 h2 h3 h4 h5 = after_join w0 w1 a (b +++ (c +++ (d +++ (e +++ (f +++ g))))) h0 ∙ after_join w1 w2 b (c +++ (d +++ (e +++ (f +++ g)))) h1 ∙ after_join w2 w3 c (d +++ (e +++ (f +++ g))) h2 ∙ after_join w3 w4 d (e +++ (f +++ g)) h3 ∙ after_join w4 w5 e (f +++ g) h4 ∙ after_none w5 f g h5

pub join_8 : (w0 w1 w2 w3 w4 w5 w6 w7 : Written) (a b c d e f g h : Option (List ℕ)) → after w0 a ≡ Some w1 → after w1 b ≡ Some w2 → after w2 c ≡ Some w3 → after w3 d ≡ Some w4 → after w4 e ≡ Some w5 → after w5 f ≡ Some w6 → after w6 g ≡ Some w7 → after w0 (a +++ (b +++ (c +++ (d +++ (e +++ (f +++ (g +++ h))))))) ≡ after w7 h
join_8 w0 w1 w2 w3 w4 w5 w6 w7 a b c d e f g h h0 h1 h2 h3 h4 h5 h6 = after_join w0 w1 a (b +++ (c +++ (d +++ (e +++ (f +++ (g +++ h)))))) h0 ∙ after_join w1 w2 b (c +++ (d +++ (e +++ (f +++ (g +++ h))))) h1 ∙ after_join w2 w3 c (d +++ (e +++ (f +++ (g +++ h)))) h2 ∙ after_join w3 w4 d (e +++ (f +++ (g +++ h))) h3 ∙ after_join w4 w5 e (f +++ (g +++ h)) h4 ∙ after_join w5 w6 f (g +++ h) h5 ∙ after_join w6 w7 g (h) h6

pub none_8 : (w0 w1 w2 w3 w4 w5 w6 : Written) (a b c d e f g h : Option (List ℕ)) → after w0 a ≡ Some w1 → after w1 b ≡ Some w2 → after w2 c ≡ Some w3 → after w3 d ≡ Some w4 → after w4 e ≡ Some w5 → after w5 f ≡ Some w6 → after w6 g ≡ None → after w0 (a +++ (b +++ (c +++ (d +++ (e +++ (f +++ (g +++ h))))))) ≡ None
none_8 w0 w1 w2 w3 w4 w5 w6 a b c d e f g h h0 h1 h2 h3 h4 h5 h6 = after_join w0 w1 a (b +++ (c +++ (d +++ (e +++ (f +++ (g +++ h)))))) h0 ∙ after_join w1 w2 b (c +++ (d +++ (e +++ (f +++ (g +++ h))))) h1 ∙ after_join w2 w3 c (d +++ (e +++ (f +++ (g +++ h)))) h2 ∙ after_join w3 w4 d (e +++ (f +++ (g +++ h))) h3 ∙ after_join w4 w5 e (f +++ (g +++ h)) h4 ∙ after_join w5 w6 f (g +++ h) h5 ∙ after_none w6 g h h6

-- What several texts, one after the other, give.
pub ruleset joins = (after_missing, after_join, after_none, join_3, none_3, join_4, none_4, join_5, none_5, join_6, none_6, join_7, none_7, join_8, none_8)

-- The first item of what is left of a list, and the items after it.
pub each_step : {A : Type 0} → (text : A → Option (List ℕ)) (xs : List A) (i : ℕ) (d : A) → i < length xs → each text (drop i xs) ≡ text (get_or xs i d) +++ each text (drop (i + 1) xs)
unfolding each
each_step text xs i d lt = ap (each text) (drop_more xs i d lt)

pub each_done : {A : Type 0} → (text : A → Option (List ℕ)) (xs : List A) (i : ℕ) → length xs ≤ i → each text (drop i xs) ≡ Some []
unfolding each
each_done text [] zero le = refl
each_done text [] (suc i) le = refl
each_done text (x ∷ xs) zero le = absurd (omega arith)
each_done text (x ∷ xs) (suc i) le = each_done text xs i (omega arith)

-- nothing more
pub after_nothing : (w : Written) → after w (Some []) ≡ Some w
unfolding after
after_nothing w = ap (λ (b : Bool). checked b (with_bytes w [])) (le-leb 0 (w.limit - length w.bytes) (omega arith)) ∙ ap (λ (bs : List ℕ). Some (record { bytes = bs; limit = w.limit })) (append-nil w.bytes)

-- A loop writes an item.
pub loop_item : {A : Type 0} → (text : A → Option (List ℕ)) (xs : List A) (i : ℕ) (d : A) (w v : Written) (o : Option Written) → i < length xs → after w (text (get_or xs i d)) ≡ Some v → after w (each text (drop i xs)) ≡ o → after v (each text (drop (i + 1) xs)) ≡ o
loop_item text xs i d w v o lt h k =
    sym (after_join w v (text (get_or xs i d)) (each text (drop (i + 1) xs)) h) ∙ ap (after w) (sym (each_step text xs i d lt)) ∙ k

-- A loop fails at an item.
pub loop_fails : {A : Type 0} → (X Y : Type 0) (text : A → Option (List ℕ)) (xs : List A) (i : ℕ) (d : A) (w v u : Written) (e : WriteError) (o : Option Written) → i < length xs → Writes {X = X} (Err e) v (after w (text (get_or xs i d))) → after w (each text (drop i xs)) ≡ o → Writes {X = Y} (Err e) u o
loop_fails X Y text xs i d w v u E.NoMemory o lt h k = tt
loop_fails X Y text xs i d w v u E.NotSpelled o lt h k =
    sym k ∙ ap (after w) (each_step text xs i d lt) ∙ after_none w (text (get_or xs i d)) (each text (drop (i + 1) xs)) h

-- A loop is at its end.
pub loop_done : {A : Type 0} → (text : A → Option (List ℕ)) (xs : List A) (i : ℕ) (w : Written) (o : Option Written) → length xs ≤ i → after w (each text (drop i xs)) ≡ o → o ≡ Some w
loop_done text xs i w o le k = sym k ∙ ap (after w) (each_done text xs i le) ∙ after_nothing w

-- The items in another form.
pub each_map : {A B : Type 0} → (view : A → B) (text : B → Option (List ℕ)) (xs : List A) → each text (map view xs) ≡ each (λ x. text (view x)) xs
unfolding each
each_map view text [] = refl
each_map view text (x ∷ xs) = ap (λ (t : Option (List ℕ)). text (view x) +++ t) (each_map view text xs)

-- The same at an item that is known by another name.
pub loop_item_is : {A : Type 0} → (text : A → Option (List ℕ)) (xs : List A) (i : ℕ) (x : A) (w v : Written) (o : Option Written) → i < length xs → x ≡ get_or xs i x → after w (text x) ≡ Some v → after w (each text (drop i xs)) ≡ o → after v (each text (drop (i + 1) xs)) ≡ o
loop_item_is text xs i x w v o lt e h k = loop_item text xs i x w v o lt (subst (λ (y : _). after w (text y) ≡ Some v) e h) k

pub loop_fails_is : {A : Type 0} → (X Y : Type 0) (text : A → Option (List ℕ)) (xs : List A) (i : ℕ) (x : A) (w v u : Written) (e : WriteError) (o : Option Written) → i < length xs → x ≡ get_or xs i x → Writes {X = X} (Err e) v (after w (text x)) → after w (each text (drop i xs)) ≡ o → Writes {X = Y} (Err e) u o
loop_fails_is X Y text xs i x w v u e o lt h g k = loop_fails X Y text xs i x w v u e o lt (subst (λ (y : _). Writes {X = X} (Err e) v (after w (text y))) h g) k

-- A type of a table, by its number.
pub row_is : (types : Table) (i : ℕ) (x : List Shape) → i < length types → x ≡ constructors types (i + 1) → x ≡ get_or types i x
row_is types i x lt e = let k : i + 1 ≡ suc i = omega arith in e ∙ ap (constructors types) k ∙ shapes_at types i x lt

pub labels_are : (registers : ℕ) (labels : List Label) → labels_text registers (map plain_label labels) ≡ four (length labels) +++ each (label_in registers) labels
unfolding labels_text
labels_are registers labels = ap₂ (λ (n : ℕ) (t : Option (List ℕ)). four n +++ t) (length-map labels plain_label) (each_map plain_label (label_text registers) labels)

pub functions_are : (functions : List Function) → functions_text Second (map plain_function functions) ≡ two (length functions) +++ each second_text functions
unfolding functions_text
functions_are functions = ap₂ (λ (n : ℕ) (t : Option (List ℕ)). two n +++ t) (length-map functions plain_function) (each_map plain_function (function_text Second) functions)

-- What is there where nothing was written before.
written_text : (limit : ℕ) (o : Option (List ℕ)) (w : Written) → after (record { bytes = []; limit = limit }) o ≡ Some w → (o ≡ Some w.bytes) × (length w.bytes ≤ limit)
unfolding after
written_text limit None w e = cc
written_text limit (Some t) w e = fits (nat_le (length t) (limit - 0)) refl e
  where
    fits : (b : Bool) → nat_le (length t) (limit - 0) ≡ b → checked b (record { bytes = t; limit = limit }) ≡ Some w → (Some t ≡ Some w.bytes) × (length w.bytes ≤ limit)
    fits false h e = cc
    fits true h e =
        let same : t ≡ w.bytes = ap (λ (w : Written). w.bytes) (some_same (record { bytes = t; limit = limit }) w e) in
        let le = leb-true (length t) (limit - 0) h in
        (ap Some same, subst (λ (t : List ℕ). length t ≤ limit) same (omega arith))

pub written_is : (limit : ℕ) (o : Option (List ℕ)) (w : Written) → after (record { bytes = []; limit = limit }) o ≡ Some w → o ≡ Some w.bytes
written_is limit o w e = (written_text limit o w e).0

pub written_short : (limit : ℕ) (o : Option (List ℕ)) (w : Written) → after (record { bytes = []; limit = limit }) o ≡ Some w → length w.bytes ≤ limit
written_short limit o w e = (written_text limit o w e).1

-- Nothing can be written only where there is no text, or too long a one.
pub unwritten : (limit : ℕ) (o : Option (List ℕ)) → after (record { bytes = []; limit = limit }) o ≡ None → (t : List ℕ) → o ≡ Some t → limit < length t
unfolding after
unwritten limit o e t h = fails (nat_le (length t) (limit - 0)) refl (ap (after (record { bytes = []; limit = limit })) (sym h) ∙ e)
  where
    fails : (b : Bool) → nat_le (length t) (limit - 0) ≡ b → checked b (record { bytes = t; limit = limit }) ≡ None → limit < length t
    fails true h e = cc
    fails false h e = let lt = leb-false (length t) (limit - 0) h in omega arith

-- What is there in the end.
pub ruleset ends = (written_is, written_short, unwritten)
