-- The walk to the missing pattern.
use Rattle.std.proofs.Common.{Vec, Global, ◌≡◌, ℕ, zero, suc, ◌+◌, ◌<◌, ◌≤◌, ◌^◌, List, [], ◌∷◌, ◌++◌, map, take, drop, length, get_or, ◌-◌, Option, Some, None, Bool, true, false, refl, sym, ap, ap₂, ◌∙◌, subst, arith}
use Rattle.std.specs.Borrow.{Bor}
use Rattle.std.specs.Prelude.{if◌then◌else◌}
use Rattle.fip_language.specs.Table.{Table}
use Rattle.match_knowledge.specs.declared.heads.Head.{Head}
use Rattle.match_knowledge.specs.ValueHeads.{same_head}
use Rattle.match_knowledge.specs.Patterns.{Pattern, Any, Test, Patterns, NoPatterns, MorePatterns}
use Rattle.match_knowledge.specs.Known.{Known, Is, Knowns, MoreKnowns}
use Rattle.match_knowledge.specs.Left.{Left, known_of, all_known}
use Rattle.match_knowledge.specs.declared.rows.Row.{Row}
use Rattle.match_knowledge.specs.declared.rows.Row.TheVariants as R
use Rattle.match_knowledge.specs.declared.rows.Row.TheOpen as O
use Rattle.match_knowledge.specs.declared.rows.Row.TheFolds.{fold-roll-Row}
use Rattle.match_knowledge.specs.declared.knowledge.Knowledge.{Knowledge}
use Rattle.match_knowledge.specs.declared.knowledge.Knowledge.TheVariants as K
use Rattle.match_knowledge.specs.declared.knowledge.Knowledge.TheOpen as L
use Rattle.match_knowledge.specs.declared.knowledge.Knowledge.TheFolds.{fold-roll-Knowledge}
use Rattle.match_knowledge.specs.View.{row, row_step, known, known_step, knowns, knowns_of, patterns_of}
use Rattle.match_knowledge.proofs.Living.{head_values}
use Rattle.match_knowledge.proofs.Matches.{known_alive}
use Rattle.match_cover.specs.declared.missing.Frame.{Frame}
use Rattle.match_cover.specs.Missing.{is_tested, keep_if, fields_at, heads, tails, part_at, put_part, rows_below, open_fields, AreMissing, Level, inside, placed}
use Rattle.match_cover.specs.MissingView.{lent_rows, level, levels, SaysMissing}
use Rattle.match_cover.specs.MissingSearch.{AreFields, FindsMissing, FindsFields, FindsHead, FieldsDone, FindsFirst, head_fields, inner, tails_at, before_patterns, knowns_after}
use Rattle.match_cover.specs.PatternText.{pattern_text}
use Rattle.match_cover.proofs.MatchSteps.{drop_first, drop_end}
use Rattle.match_cover.proofs.MissingValue.{is_left, is_pattern}
use Rattle.match_cover.proofs.Positions.{root_position, node_fields, first_field, other_fields}
use Rattle.match_cover.proofs.LeastHeads.{head_chosen, no_head}
use Rattle.fip_language.proofs.Facts.{take_seam as front_taken}

-- ---- a position

pub nothing_stands : (tb : Table) (rows : List Pattern) (at : Known → Known) (t : ℕ) (here : List Pattern) (end : ℕ) (o : Option Head) → o ≡ None → length here < end → end ≤ 2 ^ 63 → FindsHead tb rows at t end o → FindsMissing tb rows at t here Any
nothing_stands tb rows at t here end o n l e f root m p u = absurd (no_head tb root rows at t here end m p l e (subst (FindsHead tb rows at t end) n f) u)

pub stands : (tb : Table) (rows : List Pattern) (at : Known → Known) (t : ℕ) (here : List Pattern) (end : ℕ) (o : Option Head) (h : Head) (fs : List ℕ) (ms : Patterns) → o ≡ Some h → end ≤ 2 ^ 63 → FindsHead tb rows at t end o → is_tested here ≡ true → fs ≡ head_fields tb t h → FindsFields tb rows (λ ks. at (Is h ks)) fs (fields_at h here) ms → FindsMissing tb rows at t here (Test t h ms)
stands tb rows at t here end o h fs ms n e f y s k root m p u =
    let c = head_chosen tb root rows at t here end h m p e (subst (FindsHead tb rows at t end) n f) in
    let gs = head_fields tb t h in
    let found = subst (λ z. FindsFields tb rows (λ ks. at (Is h ks)) z (fields_at h here) ms) s k in
    (y, refl, c.can, c.least, gs, c.head, c.left, found root m (node_fields tb root rows at t here h gs c.head p) (head_values tb t h gs m.tidy c.head) c.left)

-- ---- the fields of a node

inner_more : (at : Knowns → Known) (ks : List Known) (k : Known) → inner at (ks ++ k ∷ []) ≡ (λ r. inner at ks (MoreKnowns k r))
inner_more at [] k = refl
inner_more at (x ∷ ks) k = inner_more (λ r. at (MoreKnowns x r)) ks k

after_more : (qs : List Pattern) (q : Pattern) → knowns_after (qs ++ q ∷ []) ≡ knowns_after qs ++ known_of q ∷ []
after_more [] q = refl
after_more (x ∷ qs) q = ap (λ z. known_of x ∷ z) (after_more qs q)

tails_more : (j : ℕ) (here : List Patterns) → tails_at (suc j) here ≡ tails (tails_at j here)
tails_more zero here = refl
tails_more (suc j) here = tails_more j (tails here)

length_more : (qs : List Pattern) (q : Pattern) → length (qs ++ q ∷ []) ≡ suc (length qs)
length_more [] q = refl
length_more (x ∷ qs) q = ap suc (length_more qs q)

before_more : (qs : List Pattern) (q : Pattern) (ms : Patterns) → before_patterns (qs ++ q ∷ []) ms ≡ before_patterns qs (MorePatterns q ms)
before_more [] q ms = refl
before_more (x ∷ qs) q ms = ap (MorePatterns x) (before_more qs q ms)

before_none : (qs : List Pattern) → before_patterns qs NoPatterns ≡ patterns_of qs
before_none [] = refl
before_none (x ∷ qs) = ap (MorePatterns x) (before_none qs)

pub fields_end : (tb : Table) (rows : List Pattern) (at : Knowns → Known) (fs : List ℕ) (here : List Patterns) (done : List Pattern) (rest : List ℕ) → rest ≡ [] → FindsFirst tb rows at fs here done rest → FindsFields tb rows at fs here (patterns_of done)
fields_end tb rows at fs here done rest e f root m p v u =
    let d = subst (FieldsDone tb root rows at fs here done) e (f root m p v u) in
    subst (AreMissing tb root rows at fs here) (before_none done) (d.whole NoPatterns tt)

fields_more : (tb : Table) (rows : List Pattern) (at : Knowns → Known) (fs : List ℕ) (here : List Patterns) (done : List Pattern) (f : ℕ) (rest : List ℕ) (q : Pattern) → FindsFirst tb rows at fs here done (f ∷ rest) → FindsMissing tb rows (λ k. inner at (knowns_after done) (MoreKnowns k (open_fields rest))) f (heads (tails_at (length done) here)) q → FindsFirst tb rows at fs here (done ++ q ∷ []) rest
fields_more tb rows at fs here done f rest q first found root m p v u =
    let d = first root m p v u in
    let now = inner at (knowns_after done) in
    let next : Knowns → Known = (λ ks. now (MoreKnowns (known_of q) ks)) in
    let these = tails_at (length done) here in
    let miss = found root m (first_field tb root rows now f rest these d.values.1 d.fields) d.left in
    let kept = is_left tb root rows (λ k. now (MoreKnowns k (open_fields rest))) f (heads these) q miss d.left in
    let typed = is_pattern tb root rows (λ k. now (MoreKnowns k (open_fields rest))) f (heads these) q miss in
    let more = other_fields tb root rows now f rest these (known_of q) (known_alive tb 0 f q m.tidy d.values.0 typed) d.fields in
    let e1 : inner at (knowns_after (done ++ q ∷ [])) ≡ next = ap (inner at) (after_more done q) ∙ inner_more at (knowns_after done) (known_of q) in
    let e2 : tails_at (length (done ++ q ∷ [])) here ≡ tails these = ap (λ n. tails_at n here) (length_more done q) ∙ tails_more (length done) here in
    record {
      fields = subst (λ (a : Knowns → Known). AreFields tb root rows a rest (tails_at (length (done ++ q ∷ [])) here)) (sym e1) (subst (AreFields tb root rows next rest) (sym e2) more);
      values = d.values.1;
      left = subst (λ (a : Knowns → Known). Left tb root rows (a (open_fields rest))) (sym e1) kept;
      whole = λ ms h. subst (AreMissing tb root rows at fs here) (sym (before_more done q ms))
          (d.whole (MorePatterns q ms) (miss, subst (λ (a : Knowns → Known). AreMissing tb root rows a rest (tails these) ms) e1 (subst (λ z. AreMissing tb root rows (inner at (knowns_after (done ++ q ∷ []))) rest z ms) e2 h)));
    }

-- ---- a field in the code's words

heads_none : (j : ℕ) → heads (tails_at j []) ≡ []
heads_none zero = refl
heads_none (suc j) = heads_none j

heads_more : (j : ℕ) (ps : Patterns) (here : List Patterns) → heads (tails_at j (ps ∷ here)) ≡ put_part (part_at j ps) (heads (tails_at j here))
heads_more zero NoPatterns here = refl
heads_more zero (MorePatterns p ps) here = refl
heads_more (suc j) NoPatterns here = refl
heads_more (suc j) (MorePatterns p ps) here = heads_more j ps (tails here)

kept_part : (b : Bool) (j : ℕ) (qs : Patterns) (here : List Patterns) (below : List Pattern) → below ≡ heads (tails_at j here) → put_part (if b then part_at j qs else None) below ≡ heads (tails_at j (keep_if b qs here))
kept_part true j qs here below e = ap (put_part (part_at j qs)) e ∙ sym (heads_more j qs here)
kept_part false j qs here below e = e

pub below_is : (h : Head) (j : ℕ) (here : List Pattern) → rows_below h j here ≡ heads (tails_at j (fields_at h here))
below_is h j [] = sym (heads_none j)
below_is h j (Any ∷ ps) = below_is h j ps
below_is h j (Test t g qs ∷ ps) = kept_part (same_head g h) j qs (fields_at h ps) (rows_below h j ps) (below_is h j ps)

placed_more : (ls : List Level) (l : Level) → placed (ls ++ l ∷ []) ≡ (λ k. placed ls (inside l k))
placed_more [] l = refl
placed_more (x ∷ ls) l =
    let below : (Known → Known) → Known → Known = (λ f k. inside x (f k)) in
    ap below (placed_more ls l)

levels_more : (fs : List Frame) (f : Frame) → levels (fs ++ f ∷ []) ≡ levels fs ++ level f ∷ []
levels_more [] f = refl
levels_more (x ∷ fs) f = ap (λ z. level x ∷ z) (levels_more fs f)

abbrev Around : (Knowns → Known) → List Known → List Known → Known → Known
Around f xs ys k = f (knowns_of (xs ++ k ∷ ys))

abbrev Inside : (Knowns → Known) → List Known → Knowns → Known → Known
Inside f xs ys k = inner f xs (MoreKnowns k ys)

around : (f : Knowns → Known) (xs ys : List Known) → Around f xs ys ≡ Inside f xs (knowns_of ys)
around f [] ys = refl
around f (x ∷ xs) ys = around (λ r. f (MoreKnowns x r)) xs ys

known_parts : (qs : List Pattern) → all_known (patterns_of qs) ≡ knowns_of (knowns_after qs)
known_parts [] = refl
known_parts (q ∷ qs) = ap (MoreKnowns (known_of q)) (known_parts qs)

same_knowns : (xs ys : List Known) → knowns_of xs ≡ knowns_of ys → xs ≡ ys
same_knowns [] [] e = refl
same_knowns [] (y ∷ ys) e = cc
same_knowns (x ∷ xs) [] e = cc
same_knowns (x ∷ xs) (y ∷ ys) e = ap₂ (λ a b. a ∷ b) (let z : x ≡ y = cc in z) (same_knowns xs ys (let z : knowns_of xs ≡ knowns_of ys = cc in z))

field_context : (fs : List Frame) (f : Frame) (h : Head) (done : List Pattern) (rest : List ℕ) → f.head ≡ h → knowns f.before.items ≡ all_known (patterns_of done) → knowns f.following.items ≡ open_fields rest → placed (levels (fs ++ f ∷ [])) ≡ (λ k. inner (λ ks. placed (levels fs) (Is h ks)) (knowns_after done) (MoreKnowns k (open_fields rest)))
field_context fs f h done rest a b c =
    let at : Head → Knowns → Known = (λ g ks. placed (levels fs) (Is g ks)) in
    let xs = map known f.before.items in
    let ys = map known f.following.items in
    let before : xs ≡ knowns_after done = same_knowns xs (knowns_after done) (b ∙ known_parts done) in
    let e1 : placed (levels (fs ++ f ∷ [])) ≡ Around (at f.head) xs ys = ap placed (levels_more fs f) ∙ placed_more (levels fs) (level f) in
    let e2 : Around (at f.head) xs ys ≡ Inside (at f.head) xs (knowns_of ys) = around (at f.head) xs ys in
    let e3 : Inside (at f.head) xs (knowns_of ys) ≡ Inside (at h) xs (knowns_of ys) = ap (λ g. Inside (at g) xs (knowns_of ys)) a in
    let e4 : Inside (at h) xs (knowns_of ys) ≡ Inside (at h) (knowns_after done) (knowns_of ys) = ap (λ z. Inside (at h) z (knowns_of ys)) before in
    let e5 : Inside (at h) (knowns_after done) (knowns_of ys) ≡ Inside (at h) (knowns_after done) (open_fields rest) = ap (Inside (at h) (knowns_after done)) c in
    e1 ∙ e2 ∙ e3 ∙ e4 ∙ e5

pub fields_next : (tb : Table) (rows : List Pattern) (fr : List Frame) (f : Frame) (h : Head) (fs : List ℕ) (here below : List Pattern) (done : List Pattern) (j t : ℕ) (q : Pattern) →
    length done ≡ j → j < length fs → t ≡ get_or fs j t → f.head ≡ h → knowns f.before.items ≡ all_known (patterns_of done) → knowns f.following.items ≡ open_fields (drop (j + 1) fs) → below ≡ rows_below h j here →
    FindsMissing tb rows (placed (levels (fr ++ f ∷ []))) t below q →
    FindsFirst tb rows (λ ks. placed (levels fr) (Is h ks)) fs (fields_at h here) done (drop j fs) → FindsFirst tb rows (λ ks. placed (levels fr) (Is h ks)) fs (fields_at h here) (done ++ q ∷ []) (drop (j + 1) fs)
fields_next tb rows fr f h fs here below done j t q n l g a b c w found first =
    let at : Knowns → Known = (λ ks. placed (levels fr) (Is h ks)) in
    let rest = drop (j + 1) fs in
    let spot : below ≡ heads (tails_at (length done) (fields_at h here)) = w ∙ below_is h j here ∙ ap (λ z. heads (tails_at z (fields_at h here))) (sym n) in
    let these = subst (λ (z : Known → Known). FindsMissing tb rows z t below q) (field_context fr f h done rest a b c) found in
    fields_more tb rows at fs (fields_at h here) done t rest q (subst (FindsFirst tb rows at fs (fields_at h here) done) (drop_first fs j t l g) first)
    (subst (λ z. FindsMissing tb rows (λ k. inner at (knowns_after done) (MoreKnowns k (open_fields rest))) t z q) spot these)

-- ---- the whole

pub says_missing : (tb : Table) (t : ℕ) (rows here : List Pattern) (q : Pattern) (text : List ℕ) → here ≡ rows → FindsMissing tb rows (placed []) t here q → text ≡ pattern_text tb q → SaysMissing tb t rows text
says_missing tb t rows here q text e f s m miss =
    let found = subst (λ z. FindsMissing tb rows (placed []) t z q) e f in
    (q, found t m (root_position tb t rows) (miss.0, miss.1, refl, miss.2), s)

pub row_any : row R.Any ≡ Any
row_any = ap row (sym R.rolls-Any) ∙ fold-roll-Row Pattern row_step O.Any

pub known_node : (h : Head) (ks : Vec Knowledge Global) → known (K.Is h ks) ≡ Is h (knowns ks.items)
known_node h ks = ap known (sym (K.rolls-Is h ks)) ∙ fold-roll-Knowledge Known known_step (L.Is h ks)

pub count_more : {X : Type 0} (xs : List X) (x : X) → length (xs ++ x ∷ []) ≡ length xs + 1
count_more [] x = refl
count_more (y ∷ xs) x = let r = count_more xs x in omega arith

-- what was pushed is gone again
pub popped : {X : Type 0} (first xs pushed ys zs : List X) (n : ℕ) (x : X) → xs ≡ first → pushed ≡ xs ++ x ∷ [] → ys ≡ pushed → n ≡ length ys → zs ≡ take (n - 1) ys → zs ≡ first
popped first xs pushed ys zs n x k e d l f =
    let whole : ys ≡ xs ++ x ∷ [] = d ∙ e in
    let m : n - 1 ≡ length xs = (let a = ap length whole in let b = count_more xs x in omega arith) in
    f ∙ ap (λ k. take k ys) m ∙ ap (take (length xs)) whole ∙ front_taken xs (x ∷ []) ∙ k

pub lent_count : (here : List (Bor Row)) → length (lent_rows here) ≡ length here
lent_count [] = refl
lent_count (r ∷ here) = ap suc (lent_count here)

map_more : (ps : List Row) (p : Row) → map row (ps ++ p ∷ []) ≡ map row ps ++ row p ∷ []
map_more [] p = refl
map_more (q ∷ ps) p = ap (λ z. row q ∷ z) (map_more ps p)

row_count : (ps : List Row) → length (map row ps) ≡ length ps
row_count [] = refl
row_count (p ∷ ps) = ap suc (row_count ps)

-- one field more, in the code's words
pub field_found : (tb : Table) (rows : List Pattern) (fr at pushed : List Frame) (f : Frame) (h : Head) (fs : List ℕ) (here : List Pattern) (below lent : List (Bor Row)) (parts next : List Row) (p : Row) (j t : ℕ) →
    at ≡ fr → pushed ≡ at ++ f ∷ [] → next ≡ parts ++ p ∷ [] → length parts ≡ j → j < length fs → t ≡ get_or fs j t → f.head ≡ h → knowns f.before.items ≡ all_known (patterns_of (map row parts)) → knowns f.following.items ≡ open_fields (drop (j + 1) fs) → lent_rows below ≡ rows_below h j here → lent ≡ below →
    FindsMissing tb rows (placed (levels pushed)) t (lent_rows lent) (row p) →
    FindsFirst tb rows (λ ks. placed (levels fr) (Is h ks)) fs (fields_at h here) (map row parts) (drop j fs) → FindsFirst tb rows (λ ks. placed (levels fr) (Is h ks)) fs (fields_at h here) (map row next) (drop (j + 1) fs)
field_found tb rows fr at pushed f h fs here below lent parts next p j t e1 e2 e3 n l g a b c w v found first =
    let there : pushed ≡ fr ++ f ∷ [] = e2 ∙ ap (λ z. z ++ f ∷ []) e1 in
    let same : FindsMissing tb rows (placed (levels (fr ++ f ∷ []))) t (lent_rows below) (row p) =
    subst (λ z. FindsMissing tb rows (placed (levels z)) t (lent_rows below) (row p)) there (subst (λ z. FindsMissing tb rows (placed (levels pushed)) t (lent_rows z) (row p)) v found) in
    subst (λ z. FindsFirst tb rows (λ ks. placed (levels fr) (Is h ks)) fs (fields_at h here) z (drop (j + 1) fs)) (sym (ap (map row) e3 ∙ map_more parts p))
    (fields_next tb rows fr f h fs here (lent_rows below) (map row parts) j t (row p) (row_count parts ∙ n) l g a b c w same first)

pub fields_found : (tb : Table) (rows : List Pattern) (at : Knowns → Known) (fs : List ℕ) (here : List Patterns) (parts : List Row) (j : ℕ) → length fs ≤ j → FindsFirst tb rows at fs here (map row parts) (drop j fs) → FindsFields tb rows at fs here (patterns_of (map row parts))
fields_found tb rows at fs here parts j l f = fields_end tb rows at fs here (map row parts) (drop j fs) (drop_end fs j l) f
