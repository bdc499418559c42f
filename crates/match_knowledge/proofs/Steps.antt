-- Steps of the loops.
use Rattle.std.proofs.Common.{◌≡◌, ℕ, zero, suc, ◌+◌, ◌-◌, ◌<◌, ◌≤◌, List, [], ◌∷◌, ◌++◌, map, drop, length, Some, Bool, true, false, refl, sym, ap, ◌∙◌, arith}
use Rattle.std.specs.Prelude.{if◌then◌else◌, slice_get, get_or, ◌||◌, ◌&&◌}
use Rattle.match_knowledge.specs.declared.heads.Head.{Head}
use Rattle.match_knowledge.specs.declared.heads.Head.TheVariants.{Tag}
use Rattle.match_knowledge.specs.declared.rows.Row.{Row}
use Rattle.match_knowledge.specs.declared.knowledge.Knowledge.{Knowledge}
use Rattle.fip_base.specs.fip_language.Table.{Table, shapes, constructors}
use Rattle.match_knowledge.specs.Patterns.{Pattern, Patterns, NoPatterns, MorePatterns}
use Rattle.match_knowledge.specs.Known.{Known, Open, opens, are_last, Knowns, NoKnowns, MoreKnowns, compare, is_asks, side, side_all, is_in, all_out}
use Rattle.match_knowledge.specs.Left.{known_of, all_known}
use Rattle.match_knowledge.specs.View.{known, knowns, parts, row, rows, knowns_of, before_knowns, asks_first, side_first, others, side_rest}

add-one : (n : ℕ) → n + 1 ≡ suc n
add-one n = omega arith

drop_none : (j : ℕ) → drop {A = Row} j [] ≡ []
drop_none zero = refl
drop_none (suc j) = refl

pub others_map : (ps : List Row) (j : ℕ) → parts (drop (j + 1) ps) ≡ others (parts (drop j ps))
others_map [] j = rw (drop_none j, drop_none (j + 1)) refl
others_map (p ∷ ps) zero = refl
others_map (p ∷ ps) (suc j) = ap (λ k. parts (drop k (p ∷ ps))) (add-one (suc j)) ∙ sym (ap (λ k. parts (drop k ps)) (add-one j)) ∙ others_map ps j

pub at_row : (ps : List Row) (i : ℕ) (d : Row) (p : Pattern) → slice_get (rows ps) i ≡ Some p → p ≡ row (get_or ps i d)
at_row [] i d p e = cc
at_row (q ∷ ps) zero d p e = cc
at_row (q ∷ ps) (suc i) d p e = at_row ps i d p e

pub row_at : (ps : List Row) (i : ℕ) (d : Row) → i < length ps → slice_get (rows ps) i ≡ Some (row (get_or ps i d))
row_at [] i d h = absurd (omega arith)
row_at (q ∷ ps) zero d h = refl
row_at (q ∷ ps) (suc i) d h = row_at ps i d (omega arith)

pub row_within : (ps : List Row) (i : ℕ) (p : Pattern) → slice_get (rows ps) i ≡ Some p → i < length ps
row_within [] i p e = cc
row_within (q ∷ ps) zero p e = omega arith
row_within (q ∷ ps) (suc i) p e = let h = row_within ps i p e in omega arith

pub all_out_next : (n : ℕ) (out : List Head) → 0 < n → is_in (Tag (n - 1)) out ≡ true → all_out (n - 1) out ≡ all_out n out
all_out_next zero out h e = absurd (omega arith)
all_out_next (suc n) out h e = let z : suc n - 1 ≡ n = omega arith in ap (λ k. all_out k out) z ∙ sym (ap (λ b. b && all_out n out) (ap (λ k. is_in (Tag k) out) (sym z) ∙ e))

pub all_out_stop : (n : ℕ) (out : List Head) → 0 < n → is_in (Tag (n - 1)) out ≡ false → false ≡ all_out n out
all_out_stop zero out h e = absurd (omega arith)
all_out_stop (suc n) out h e = let z : suc n - 1 ≡ n = omega arith in sym (ap (λ b. b && all_out n out) (ap (λ k. is_in (Tag k) out) (sym z) ∙ e))

no_shapes : (tb : Table) (t : ℕ) → length tb ≤ t → shapes tb t ≡ []
no_shapes [] t h = refl
no_shapes (r ∷ tb) zero h = absurd (omega arith)
no_shapes (r ∷ tb) (suc t) h = no_shapes tb t (omega arith)

pub past_end : (tb : Table) (t : ℕ) → length tb < t → constructors tb t ≡ []
past_end tb zero h = refl
past_end tb (suc t) h = no_shapes tb t (omega arith)

pub before_end : (xs : List Known) → before_knowns xs NoKnowns ≡ knowns_of xs
before_end [] = refl
before_end (x ∷ xs) = ap (MoreKnowns x) (before_end xs)

pub before_more : (xs : List Known) (k : Known) (ks : Knowns) → before_knowns (xs ++ k ∷ []) ks ≡ before_knowns xs (MoreKnowns k ks)
before_more [] k ks = refl
before_more (x ∷ xs) k ks = ap (MoreKnowns x) (before_more xs k ks)

pub rest_step : (met b : Bool) (ps : Patterns) (k : Known) (ks : Knowns) → side_rest met b ps (MoreKnowns k ks) ≡ MoreKnowns (side_first met b ps k) (side_rest (met || asks_first ps k) b (others ps) ks)
rest_step true b NoPatterns k ks = refl
rest_step true b (MorePatterns p ps) k ks = refl
rest_step false b NoPatterns k ks = refl
rest_step false b (MorePatterns p ps) k ks = pick (is_asks (compare p k)) where
  pick : (c : Bool) → (if c then MoreKnowns (side b p k) ks else MoreKnowns k (side_all b ps ks)) ≡ MoreKnowns (if c then side b p k else k) (side_rest c b ps ks)
  pick true = refl
  pick false = refl

pub rest_end : (met b : Bool) (ps : Patterns) → side_rest met b ps NoKnowns ≡ NoKnowns
rest_end true b ps = refl
rest_end false b NoPatterns = refl
rest_end false b (MorePatterns p ps) = refl

pub last_end : (tb : Table) (ps : Patterns) → are_last tb ps NoKnowns ≡ false
last_end tb NoPatterns = refl
last_end tb (MorePatterns p ps) = refl

pub before_pushed : (xs : List Knowledge) (x : Knowledge) (ks : Knowns) → before_knowns (map known (xs ++ x ∷ [])) ks ≡ before_knowns (map known xs) (MoreKnowns (known x) ks)
before_pushed [] x ks = refl
before_pushed (y ∷ xs) x ks = ap (MoreKnowns (known y)) (before_pushed xs x ks)

pub before_all : (xs : List Knowledge) → before_knowns (map known xs) NoKnowns ≡ knowns xs
before_all xs = before_end (map known xs)

pub drop_parts : (ps : List Row) (j : ℕ) (r : Row) → j < length ps → parts (drop j ps) ≡ MorePatterns (row (get_or ps j r)) (parts (drop (j + 1) ps))
drop_parts [] j r h = absurd (omega arith)
drop_parts (q ∷ ps) zero r h = refl
drop_parts (q ∷ ps) (suc j) r h = drop_parts ps j r (omega arith) ∙ ap (λ z. MorePatterns (row (get_or ps j r)) (parts z)) (let e : suc j + 1 ≡ suc (j + 1) = omega arith in sym (ap (λ z. drop z (q ∷ ps)) e))

pub drop_knowns : (ks : List Knowledge) (j : ℕ) (r : Knowledge) → j < length ks → knowns (drop j ks) ≡ MoreKnowns (known (get_or ks j r)) (knowns (drop (j + 1) ks))
drop_knowns [] j r h = absurd (omega arith)
drop_knowns (q ∷ ks) zero r h = refl
drop_knowns (q ∷ ks) (suc j) r h = drop_knowns ks j r (omega arith) ∙ ap (λ z. MoreKnowns (known (get_or ks j r)) (knowns z)) (let e : suc j + 1 ≡ suc (j + 1) = omega arith in sym (ap (λ z. drop z (q ∷ ks)) e))

pub opens_arm : (xs ys : List Knowledge) (x : Knowledge) (ps : List Row) (j : ℕ) (r : Row) (z : Knowns) → ys ≡ xs ++ x ∷ [] → known x ≡ Open [] → j < length ps → before_knowns (map known xs) (opens (parts (drop j ps))) ≡ z → before_knowns (map known ys) (opens (parts (drop (j + 1) ps))) ≡ z
opens_arm xs ys x ps j r z e k h i =
    ap (λ w. before_knowns (map known w) (opens (parts (drop (j + 1) ps)))) e ∙ before_pushed xs x (opens (parts (drop (j + 1) ps))) ∙ ap (λ w. before_knowns (map known xs) (MoreKnowns w (opens (parts (drop (j + 1) ps))))) k ∙ sym (ap (λ w. before_knowns (map known xs) (opens w)) (drop_parts ps j r h)) ∙ i

pub side_arm : (xs ys : List Knowledge) (x k : Knowledge) (ps : List Row) (ks : List Knowledge) (i j : ℕ) (met met' b : Bool) (z : Knowns) → ys ≡ xs ++ x ∷ [] → j ≡ i → i < length ks → k ≡ get_or ks i k → known x ≡ side_first met b (parts (drop j ps)) (known k) → met' ≡ (met || asks_first (parts (drop j ps)) (known k)) → before_knowns (map known xs) (side_rest met b (parts (drop j ps)) (knowns (drop i ks))) ≡ z → before_knowns (map known ys) (side_rest met' b (parts (drop (j + 1) ps)) (knowns (drop (i + 1) ks))) ≡ z
side_arm xs ys x k ps ks i j met met' b z e p h g s m v =
    let w = side_rest met' b (parts (drop (j + 1) ps)) (knowns (drop (i + 1) ks)) in
    let w1 : w ≡ side_rest (met || asks_first (parts (drop j ps)) (known k)) b (others (parts (drop j ps))) (knowns (drop (i + 1) ks)) = ap (λ y. side_rest y b (parts (drop (j + 1) ps)) (knowns (drop (i + 1) ks))) m ∙ ap (λ y. side_rest (met || asks_first (parts (drop j ps)) (known k)) b y (knowns (drop (i + 1) ks))) (others_map ps j) in
    let w2 : MoreKnowns (known x) w ≡ side_rest met b (parts (drop j ps)) (MoreKnowns (known k) (knowns (drop (i + 1) ks))) = ap (λ y. MoreKnowns y w) s ∙ ap (MoreKnowns (side_first met b (parts (drop j ps)) (known k))) w1 ∙ sym (rest_step met b (parts (drop j ps)) (known k) (knowns (drop (i + 1) ks))) in
    let w3 : MoreKnowns (known k) (knowns (drop (i + 1) ks)) ≡ knowns (drop i ks) = ap (λ y. MoreKnowns (known y) (knowns (drop (i + 1) ks))) g ∙ sym (drop_knowns ks i k h) in
    ap (λ y. before_knowns (map known y) w) e ∙ before_pushed xs x w ∙ ap (before_knowns (map known xs)) (w2 ∙ ap (side_rest met b (parts (drop j ps))) w3) ∙ v

pub side_done : (xs : List Knowledge) (ps : Patterns) (met b : Bool) (ks z : Knowns) → ks ≡ NoKnowns → before_knowns (map known xs) (side_rest met b ps ks) ≡ z → knowns xs ≡ z
side_done xs ps met b ks z e i = sym (before_all xs) ∙ sym (ap (before_knowns (map known xs)) (ap (side_rest met b ps) e ∙ rest_end met b ps)) ∙ i

pub opens_done : (xs : List Knowledge) (ps : Patterns) (z : Knowns) → ps ≡ NoPatterns → before_knowns (map known xs) (opens ps) ≡ z → knowns xs ≡ z
opens_done xs ps z e i = sym (before_all xs) ∙ sym (ap (λ w. before_knowns (map known xs) (opens w)) e) ∙ i

pub no_knowns : (ks : List Knowledge) (j : ℕ) → length ks ≤ j → knowns (drop j ks) ≡ NoKnowns
no_knowns [] zero h = refl
no_knowns [] (suc j) h = refl
no_knowns (k ∷ ks) zero h = absurd (omega arith)
no_knowns (k ∷ ks) (suc j) h = no_knowns ks j (omega arith)

pub no_parts : (ps : List Row) (j : ℕ) → length ps ≤ j → parts (drop j ps) ≡ NoPatterns
no_parts [] zero h = refl
no_parts [] (suc j) h = refl
no_parts (k ∷ ps) zero h = absurd (omega arith)
no_parts (k ∷ ps) (suc j) h = no_parts ps j (omega arith)

pub last_done : (tb : Table) (ps : Patterns) (ks : Knowns) (b : Bool) → ks ≡ NoKnowns → are_last tb ps ks ≡ b → false ≡ b
last_done tb ps ks b e i = sym (ap (are_last tb ps) e ∙ last_end tb ps) ∙ i

pub known_arm : (xs ys : List Knowledge) (x : Knowledge) (ps : List Row) (j : ℕ) (r : Row) (z : Knowns) → ys ≡ xs ++ x ∷ [] → known x ≡ known_of (row r) → r ≡ get_or ps j r → j < length ps → before_knowns (map known xs) (all_known (parts (drop j ps))) ≡ z → before_knowns (map known ys) (all_known (parts (drop (j + 1) ps))) ≡ z
known_arm xs ys x ps j r z e k g h i =
    ap (λ w. before_knowns (map known w) (all_known (parts (drop (j + 1) ps)))) e ∙ before_pushed xs x (all_known (parts (drop (j + 1) ps))) ∙ ap (λ w. before_knowns (map known xs) (MoreKnowns w (all_known (parts (drop (j + 1) ps))))) (k ∙ ap (λ w. known_of (row w)) g) ∙ sym (ap (λ w. before_knowns (map known xs) (all_known w)) (drop_parts ps j r h)) ∙ i

pub known_done : (xs : List Knowledge) (ps : Patterns) (z : Knowns) → ps ≡ NoPatterns → before_knowns (map known xs) (all_known ps) ≡ z → knowns xs ≡ z
known_done xs ps z e i = sym (before_all xs) ∙ sym (ap (λ w. before_knowns (map known xs) (all_known w)) e) ∙ i
